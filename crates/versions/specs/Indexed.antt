-- What an index keeps of versions that stand in the order of writing.
use Rattle.std.specs.Prelude.{ℕ, Bool, true, ◌≡◌, ◌≤◌, ◌+◌, ◌*◌, ◌&&◌, nat_lt, List, [], ◌∷◌, ◌++◌, fold, map, take, length, slice_get, Option, Some, None, if◌then◌else◌}
use Rattle.std.specs.Str.{bytes_eq}
use Rattle.std.specs.Ordering.{nat_cmp}
use Rattle.std.specs.Cmp.Lexicographic.{slice_cmp}
use Rattle.std.specs.List.Sorted.{IsNonDecreasing}
use Rattle.std.specs.BTreeMap.{BTreeMap, get}
use Rattle.row_values.specs.Rows.{applied, absent_row}
use Rattle.row_values.specs.declared.rows.Row.{Row}
use Rattle.row_values.specs.Store.{Version, read_of, put_version}
use Rattle.versions.specs.declared.index.Past.{Past}
use Rattle.versions.specs.declared.index.KeyEntry.{KeyEntry}

-- the canonical list of versions that were written in this order
abbrev pub in_order : List Version → List Version
in_order log = fold (λ versions v. put_version v versions) [] log

-- the versions of a key
abbrev pub of_key : List ℕ → List Version → List Version
of_key key [] = []
of_key key (v ∷ vs) = if bytes_eq v.key key then v ∷ of_key key vs else of_key key vs

abbrev pub with_found : Option Version → List Version → List Version
with_found None rest = rest
with_found (Some v) rest = v ∷ rest

-- the versions at these places
abbrev pub chosen : List Version → List Past → List Version
chosen log [] = []
chosen log (p ∷ ps) = with_found (slice_get log p.place) (chosen log ps)

-- the versions at the places of these entries
abbrev pub all_chosen : List Version → List (List ℕ × KeyEntry) → List Version
all_chosen log [] = []
all_chosen log (e ∷ es) = chosen log e.1.past ++ all_chosen log es

-- whether each place is below n
abbrev pub are_below : ℕ → List Past → Bool
are_below n [] = true
are_below n (p ∷ ps) = nat_lt p.place n && are_below n ps

-- the row that versions of one key make of a row
abbrev pub row_on : Row → List Version → Row
row_on row vs = fold (λ r v. applied r v.op) row vs

abbrev pub row_after : List Version → Row
row_after vs = row_on absent_row vs

-- the places and stamps of the key's versions, the rows after each four of them, the row that they leave, and the time
-- from which on that one is read
pub record IsEntry (log : List Version) (key : List ℕ) (e : KeyEntry) : Type 0 where
  pub within : are_below (length log) e.past ≡ true
  pub versions : chosen log e.past ≡ of_key key log
  pub stamps : map (λ p. p.stamp) e.past ≡ map (λ v. v.stamp) (of_key key log)
  pub marks : (j : ℕ) (m : Row) → slice_get e.marks j ≡ Some m
      → ((j + 1) * 4 ≤ length (of_key key log)) × (m ≡ row_after (take ((j + 1) * 4) (of_key key log)))
  pub row : e.row ≡ row_after (of_key key log)
  pub current : (x : ℕ) → e.newest ≤ x → read_of log key x ≡ e.row

abbrev pub bare_entry : KeyEntry
bare_entry = record { past = []; marks = []; row = absent_row; newest = 0 }

abbrev pub entry_of : Option KeyEntry → KeyEntry
entry_of None = bare_entry
entry_of (Some e) = e

-- the index has the entry of each key that has a version
abbrev pub EntryOf : List Version → List ℕ → Option KeyEntry → Type 0
EntryOf log key e = IsEntry log key (entry_of e)

abbrev pub Indexes : BTreeMap (List ℕ) KeyEntry → List Version → Type 0
Indexes index log = (key : List ℕ) → EntryOf log key (get (slice_cmp nat_cmp) index key)

-- the stamps of each key do not fall
abbrev pub RiseByKey : List Version → Type 0
RiseByKey log = (key : List ℕ) → IsNonDecreasing (map (λ v. v.stamp) (of_key key log))
