-- What the parts of the catalog keep.
use Rattle.std.specs.Prelude.{ℕ, ◌≤◌, length, Bool, List, [], ◌∷◌, Option, Some, None, max, not, ◌&&◌, if◌then◌else◌, nat_le, true, false, filter}
use Rattle.std.specs.Option.{option_map, unwrap_or}
use Rattle.std.specs.Str.{bytes_eq}
use Rattle.indexmap.specs.IndexMap.{IndexMap, get}
use Rattle.row_values.specs.Ids.{Id, same}
use Rattle.model.specs.Times.{is_open, ended, ended_by, before_end, holds_at}
use Rattle.model.specs.Catalog.{put_table, Catalog, NamespaceRecord, TableRecord, KeptFrom, Owner}

-- a list, and for how many more there is room
pub record Roomy (A : Type 0) : Type 0 where
  pub items : List A
  pub room : ℕ

-- an entry of the map of owners, and of that of marks
abbrev pub owner_entry : Id × Id → Owner
owner_entry e = record { table = e.0; namespace = e.1 }

abbrev pub mark_entry : Id × ℕ → KeptFrom
mark_entry e = record { namespace = e.0; from = e.1 }

-- a mark after it is set to a time, or raised to it
abbrev pub raised_to : Option ℕ → ℕ → ℕ
raised_to None from = from
raised_to (Some old) from = max old from

-- the mark of a namespace rises, another stays
abbrev pub mark_raised : Id → ℕ → KeptFrom → KeptFrom
mark_raised ns from k = record k { from = if same k.namespace ns then max k.from from else k.from }

-- Namespaces

abbrev pub space_id : NamespaceRecord → Id
space_id r = r.id

abbrev pub is_current_space : NamespaceRecord → Bool
is_current_space r = is_open r.to

abbrev pub same_space_name : NamespaceRecord → NamespaceRecord → Bool
same_space_name r s = bytes_eq r.name s.name

abbrev pub same_space_id : NamespaceRecord → NamespaceRecord → Bool
same_space_id r s = same r.id s.id

-- a record that is followed by one that is alike has ended
abbrev pub space_over : NamespaceRecord → NamespaceRecord → Bool
space_over r s = not (is_open r.to)

abbrev pub space_ended : ℕ → NamespaceRecord → NamespaceRecord
space_ended at r = record r { to = ended at r.to }

abbrev pub one_if : Bool → ℕ
one_if b = if b then 1 else 0

-- Tables

abbrev pub table_id : TableRecord → Id
table_id r = r.id

abbrev pub table_space : TableRecord → Id
table_space r = r.namespace

abbrev pub is_current_table : TableRecord → Bool
is_current_table r = is_open r.to

abbrev pub is_current_in : Id → TableRecord → Bool
is_current_in ns r = is_open r.to && same r.namespace ns

abbrev pub same_table_name : TableRecord → TableRecord → Bool
same_table_name r s = same r.namespace s.namespace && bytes_eq r.name s.name

abbrev pub same_table_id : TableRecord → TableRecord → Bool
same_table_id r s = same r.id s.id

-- a record that is followed by one that is alike had ended when that one began
abbrev pub table_over : TableRecord → TableRecord → Bool
table_over r s = ended_by s.from r.to

abbrev pub table_closed : ℕ → TableRecord → TableRecord
table_closed at r = record r { to = ended at r.to }

-- whether a record had not ended by a time
abbrev pub stood_at : ℕ → TableRecord → Bool
stood_at x r = before_end x r.to

abbrev pub begun_by : Option ℕ → ℕ → Bool
begun_by None from = true
begun_by (Some x) from = nat_le from x

-- a record of a name that had begun by a time, if one is given
abbrev pub is_sought : Id → List ℕ → Option ℕ → TableRecord → Bool
is_sought ns name begun r = begun_by begun r.from && (same r.namespace ns && bytes_eq r.name name)

-- a record of a table that had begun by a time
abbrev pub is_begun : Id → ℕ → TableRecord → Bool
is_begun id x r = nat_le r.from x && same r.id id

-- whether an interval is open, or over at a time
abbrev pub over_or_open : ℕ → Option ℕ → Bool
over_or_open at None = true
over_or_open at (Some to) = nat_le to at

-- whether no record ends after a time
abbrev pub ends_by : ℕ → List TableRecord → Bool
ends_by at [] = true
ends_by at (r ∷ rs) = over_or_open at r.to && ends_by at rs

-- whether no record of a namespace ends after a time
abbrev pub ends_in : Id → ℕ → List TableRecord → Bool
ends_in ns at rs = ends_by at (filter (λ (r : TableRecord). same r.namespace ns) rs)

-- a record of the namespace that held at a time
abbrev pub stands_in : Id → ℕ → TableRecord → Bool
stands_in ns x r = holds_at x r.from r.to && same r.namespace ns

-- whether a table may have the name that this current record has: none has it, or one of its own
abbrev pub is_free_for : Id → Option TableRecord → Bool
is_free_for id None = true
is_free_for id (Some t) = same t.id id

abbrev pub put_standing : Id → ℕ → TableRecord → List TableRecord → List TableRecord
put_standing ns x r found = if stands_in ns x r then put_table r found else found

abbrev pub namespace_of : Option TableRecord → Option Id
namespace_of r = option_map {T = TableRecord} (λ r. r.namespace) r

abbrev pub is_named : Option Id → Id → Bool
is_named None ns = false
is_named (Some id) ns = same id ns

-- how often a map counts a key
abbrev pub count_in : {S : Type 0} → (Id → Id → Bool) → IndexMap Id ℕ S → Id → ℕ
count_in eq counts ns = unwrap_or (get eq counts ns) 0

-- The catalog

-- the catalog, and for how many more records of each kind there is room
pub record CatalogView : Type 0 where
  pub catalog : Catalog
  pub room : ℕ

-- whether there is room to look up anew as many records as there are
abbrev pub KeepRoom : CatalogView → Type 0
KeepRoom v = (length v.catalog.namespaces ≤ v.room) × (length v.catalog.tables ≤ v.room)
