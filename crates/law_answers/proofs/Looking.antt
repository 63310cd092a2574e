-- A look at a table is refused with its cause, or finds the table that the view has at the asked time, in its version then.
use Rattle.std.proofs.Common.{ℕ, ◌≡◌, ◌<◌, ◌≤◌, true, false, List, [], ◌∷◌, Option, Some, None, refl, sym, ap, subst, ◌∙◌, le_trans, le_of_lt, Result, Ok, Err, ok_or}
use Rattle.std.specs.Option.{option_map, is_some}
use Rattle.std.proofs.lemmas.Bool.{ltb-false}
use Rattle.row_values.specs.Ids.{Id}
use Rattle.row_values.specs.Elements.{In}
use Rattle.model.specs.Times.{holds_at, time_of, is_future, is_below}
use Rattle.model.specs.Catalog.{TableRecord, namespace_named, name_of, table_named, current_named, current_table, kept_from}
use Rattle.model.specs.Restored.{record_at}
use Rattle.model.specs.Activity.{Interval}
use Rattle.model.specs.Journal.{Change, namespace_at, table_at}
use Rattle.model.specs.Looks.{found_at, table_asked, if_current}
use Rattle.model.specs.Acts.{Refusal, UnknownNamespace, UnknownTable, Future, TooOld}
use Rattle.model.specs.Parts.{Master, If, either, checked, and_found}
use Rattle.model.specs.Right.{NamespaceFound, TableFound}
use Rattle.model.specs.Answers.{TableLook, LookRefused, NoNamespace, NotYet, NotKept, NoTable, Reached, version_at}
use Rattle.law_store.proofs.Keys.{either_way}
use Rattle.law_invariants.specs.Invariant.{NamespacesStand, TablesStand, MasterGood, view_of, view_at}
use Rattle.law_invariants.proofs.Judging.{step_if}
use Rattle.law_invariants.proofs.Finding.{none_or_some}
use Rattle.law_invariants.proofs.Names.{named_by_name, name_by_named}
use Rattle.law_invariants.proofs.Records.{current_named_at, current_table_at, table_named_is, record_at_is, IsNamedAt}

-- what holds of the master's catalog at a look
pub record IsAsked (m : Master) (n : ℕ) (changes : List Change) : Type 0 where
  pub later : m.clock ≤ n
  pub namespaces : NamespacesStand m.catalog.namespaces m.clock m.drawn.namespaces changes
  pub tables : TablesStand m.catalog m.clock m.drawn.tables changes

pub asked : (m : Master) (n : ℕ) (changes : List Change) → m.clock < n → MasterGood m changes → IsAsked m n changes
asked m n changes less h = record { later = le_of_lt less; namespaces = h.namespaces; tables = h.tables }

-- Namespaces

pub no_namespace : (m : Master) (n : ℕ) (changes : List Change) (namespace : List ℕ) → IsAsked m n changes → namespace_named m.catalog.namespaces namespace ≡ None → NamespaceFound changes n namespace → ⊥
no_namespace m n changes namespace h none found =
    let name : name_of m.catalog.namespaces found.id ≡ Some namespace = sym (h.namespaces.viewed found.id n h.later) ∙ found.named in
    let named = named_by_name m.catalog.namespaces m.clock m.drawn.namespaces changes found.id namespace h.namespaces name in
    cc

pub namespace_found : (m : Master) (n : ℕ) (changes : List Change) (namespace : List ℕ) (id : Id) → IsAsked m n changes → namespace_named m.catalog.namespaces namespace ≡ Some id → namespace_at changes n id ≡ Some namespace
namespace_found m n changes namespace id h named =
    h.namespaces.viewed id n h.later ∙ name_by_named m.catalog.namespaces m.clock m.drawn.namespaces changes id namespace h.namespaces named

-- Tables

-- the time that is asked is kept
pub asked_kept : (m : Master) (n : ℕ) (changes : List Change) (ns : Id) (at : Option ℕ) → IsAsked m n changes → is_below at (kept_from m.catalog.kept_from ns) ≡ false → kept_from m.catalog.kept_from ns ≤ time_of at n
asked_kept m n changes ns None h below = le_trans (h.tables.kept ns) h.later
asked_kept m n changes ns (Some x) h below = ltb-false x (kept_from m.catalog.kept_from ns) below

-- a record that holds at x, of a namespace whose catalog is kept then, is in the view
record_viewed : (m : Master) (n : ℕ) (changes : List Change) (x : ℕ) (t : TableRecord) → IsAsked m n changes → In t m.catalog.tables → holds_at x t.from t.to ≡ true → kept_from m.catalog.kept_from t.namespace ≤ x
    → table_at changes x t.id ≡ Some (view_of t)
record_viewed m n changes x t h isin holds kept =
    h.tables.viewed t.id t.namespace x (h.tables.owned t isin) kept ∙ ap (option_map view_of) (h.tables.found x t isin holds)

-- what the records say of the table that is asked
pub record IsFoundAt (m : Master) (n x : ℕ) (ns : Id) (table : List ℕ) (t : TableRecord) : Type 0 where
  pub is : IsNamedAt m.catalog.tables ns table x t
  pub current : is_some (current_table m.catalog.tables t.id) ≡ true

found_now : (m : Master) (n : ℕ) (changes : List Change) (ns : Id) (table : List ℕ) (t : TableRecord) → IsAsked m n changes → current_named m.catalog.tables ns table ≡ Some t → IsFoundAt m n n ns table t
found_now m n changes ns table t h e =
    let is = table_named_is m.catalog.tables ns table n t (sym (current_named_at m.catalog.tables m.clock n ns table h.tables.past h.later) ∙ e) in
    record { is = is; current = ap is_some (current_table_at m.catalog.tables m.clock n t.id h.tables.past h.later ∙ h.tables.found n t is.listed is.holds) }

found_then : (m : Master) (n x : ℕ) (ns : Id) (table : List ℕ) (t : TableRecord) (named : Option TableRecord) → table_named m.catalog.tables ns table x ≡ named → if_current m.catalog.tables named ≡ Some t → IsFoundAt m n x ns table t
found_then m n x ns table t None is e = cc
found_then m n x ns table t (Some s) is e = either_way (is_some (current_table m.catalog.tables s.id))
    (λ current. let same_record : s ≡ t = (let q : Some s ≡ Some t = rw current at e in cc) in
    let P : TableRecord → Type 0 = IsFoundAt m n x ns table in
    subst P same_record (record { is = table_named_is m.catalog.tables ns table x s is; current = current }))
    (λ gone. let q : None ≡ Some t = rw gone at e in cc)

pub table_found : (m : Master) (n : ℕ) (changes : List Change) (ns : Id) (table : List ℕ) (at : Option ℕ) (t : TableRecord) → IsAsked m n changes → table_asked m.catalog.tables ns table at ≡ Some t → IsFoundAt m n (time_of at n) ns table t
table_found m n changes ns table None t h e = found_now m n changes ns table t h e
table_found m n changes ns table (Some x) t h e = found_then m n x ns table t (table_named m.catalog.tables ns table x) refl e

some_mapped : (found : Option TableRecord) → is_some (option_map view_of found) ≡ is_some found
some_mapped None = refl
some_mapped (Some r) = refl

asked_none : (m : Master) (n : ℕ) (changes : List Change) (ns : Id) (table : List ℕ) (at : Option ℕ) (r : TableRecord) → IsAsked m n changes → table_asked m.catalog.tables ns table at ≡ None
    → table_named m.catalog.tables ns table (time_of at n) ≡ Some r → is_some (current_table m.catalog.tables r.id) ≡ true → ⊥
asked_none m n changes ns table None r h none found current = let q = current_named_at m.catalog.tables m.clock n ns table h.tables.past h.later in cc
asked_none m n changes ns table (Some x) r h none found current =
    let q : if_current m.catalog.tables (Some r) ≡ None = sym (ap (if_current m.catalog.tables) found) ∙ none in
    let p : Some r ≡ None = rw current at q in cc

-- each record of a table has the version that the journal gives while it holds
abbrev pub VersionsThen : List TableRecord → List Change → Type 0
VersionsThen rs changes = (r : TableRecord) (x : ℕ) → In r rs → holds_at x r.from r.to ≡ true → version_at changes x r.id ≡ r.schema.version

-- a look by the master's catalog and activity
abbrev pub look_of : List ℕ → List ℕ → Option ℕ → ℕ → Master → List Interval → List Change → TableLook
look_of namespace table at n m activity changes =
    record { namespace = namespace; table = table; at = at; now = n; changes = changes; marks = m.catalog.kept_from; activity = activity }

-- the table that the records have is that of the view at the asked time, in its version then
pub record FoundThen (q : TableLook) (t : TableRecord) : Type 0 where
  pub table : Reached q
  pub view_is : table.found.view ≡ view_of t
  pub id_is : table.found.id ≡ t.id
  pub version_is : t.schema.version ≡ version_at q.changes (time_of q.at q.now) table.found.id

view_found : (m : Master) (n : ℕ) (activity : List Interval) (changes : List Change) (namespace table : List ℕ) (at : Option ℕ) (ns : Id) (t : TableRecord) → IsAsked m n changes → VersionsThen m.catalog.tables changes → namespace_named m.catalog.namespaces namespace ≡ Some ns
    → is_future at n ≡ false → is_below at (kept_from m.catalog.kept_from ns) ≡ false → IsFoundAt m n (time_of at n) ns table t → FoundThen (look_of namespace table at n m activity changes) t
view_found m n activity changes namespace table at ns t h versions named over below f =
    let x = time_of at n in
    let kept = asked_kept m n changes ns at h below in
    let kept_then : kept_from m.catalog.kept_from t.namespace ≤ x = subst (λ k. kept_from m.catalog.kept_from k ≤ x) (sym f.is.namespace_is) kept in
    let current : is_some (table_at changes n t.id) ≡ true =
    ap is_some (h.tables.viewed t.id t.namespace n (h.tables.owned t f.is.listed) (le_trans (h.tables.kept t.namespace) h.later))
    ∙ some_mapped (record_at m.catalog.tables t.id n)
    ∙ ap is_some (sym (current_table_at m.catalog.tables m.clock n t.id h.tables.past h.later)) ∙ f.current in record {
      table = record {
        found = record {
          owner = ns;
          owner_named = namespace_found m n changes namespace ns h named;
          id = t.id;
          view = view_of t;
          found = record_viewed m n changes x t h f.is.listed f.is.holds kept_then;
          inside = f.is.namespace_is;
          named = f.is.name_is;
          current = current;
        };
        reach = record { over = over; kept = below };
      };
      view_is = refl;
      id_is = refl;
      version_is = sym (versions t x f.is.listed f.is.holds);
    }

-- and where the records have none, the view has none
no_table : (m : Master) (n : ℕ) (changes : List Change) (namespace table : List ℕ) (ns : Id) (at : Option ℕ) → IsAsked m n changes → namespace_named m.catalog.namespaces namespace ≡ Some ns
    → kept_from m.catalog.kept_from ns ≤ time_of at n → table_asked m.catalog.tables ns table at ≡ None → TableFound changes (time_of at n) n namespace table → ⊥
no_table m n changes namespace table ns at h named kept none f =
    let x = time_of at n in
    let rs = m.catalog.tables in
    let name : name_of m.catalog.namespaces f.owner ≡ Some namespace = sym (h.namespaces.viewed f.owner n h.later) ∙ f.owner_named in
    let owner_is : ns ≡ f.owner = (let q = named_by_name m.catalog.namespaces m.clock m.drawn.namespaces changes f.owner namespace h.namespaces name in cc) in
    let view_is : f.view.namespace ≡ ns = f.inside ∙ sym owner_is in
    let owned = h.tables.inside f.id x f.view f.found in
    let kept_then : kept_from m.catalog.kept_from f.view.namespace ≤ x = subst (λ k. kept_from m.catalog.kept_from k ≤ x) (sym view_is) kept in
    let seen : view_at rs x f.id ≡ Some f.view = sym (h.tables.viewed f.id f.view.namespace x owned kept_then) ∙ f.found in
    none_or_some (record_at rs f.id x)
    (λ gone. let q : None ≡ Some f.view = sym (ap (option_map view_of) gone) ∙ seen in cc)
    (λ r there.
    let is = record_at_is rs f.id x r there in
    let same_view : view_of r ≡ f.view = (let q : Some (view_of r) ≡ Some f.view = sym (ap (option_map view_of) there) ∙ seen in cc) in
    let namespace_is : r.namespace ≡ ns = ap (λ v. v.namespace) same_view ∙ view_is in
    let name_is : r.name ≡ table = ap (λ v. v.name) same_view ∙ f.named in
    let first = h.tables.unique x r is.listed is.holds in
    let found : table_named rs ns table x ≡ Some r = sym (ap (λ k. table_named rs k r.name x) namespace_is ∙ ap (λ k. table_named rs ns k x) name_is) ∙ first in
    let owned_now = h.tables.viewed f.id f.view.namespace n owned (le_trans (h.tables.kept f.view.namespace) h.later) in
    let current : is_some (current_table rs r.id) ≡ true =
    ap (λ k. is_some (current_table rs k)) is.id_is ∙ ap is_some (current_table_at rs m.clock n f.id h.tables.past h.later)
    ∙ sym (some_mapped (record_at rs f.id n)) ∙ ap is_some (sym owned_now) ∙ f.current in
    asked_none m n changes ns table at r h none found current)

-- Looks

-- the table of a look, where this namespace is found
abbrev at_namespace : Option Id → List ℕ → Option ℕ → ℕ → Master → Result TableRecord Refusal
at_namespace ns table at n m =
    let kept : Id → ℕ = kept_from m.catalog.kept_from in
    and_found
    (checked (ok_or ns UnknownNamespace) (λ ns. If (is_future at n) (Future n) ∷ If (is_below at (kept ns)) (TooOld (time_of at n) (kept ns)) ∷ []))
    (λ ns. table_asked m.catalog.tables ns table at) UnknownTable

-- a look is refused with its cause, or finds the table that the view has
pub found_answers : (P : Result TableRecord Refusal → Type 0) (m : Master) (n : ℕ) (activity : List Interval) (changes : List Change) (namespace table : List ℕ) (at : Option ℕ) → IsAsked m n changes → VersionsThen m.catalog.tables changes
    → ((why : Refusal) → LookRefused (look_of namespace table at n m activity changes) why → P (Err why)) → ((t : TableRecord) → FoundThen (look_of namespace table at n m activity changes) t → P (Ok t)) → P (found_at namespace table at n m)
found_answers P m n activity changes namespace table at h versions no_ yes_ = by_namespace (namespace_named m.catalog.namespaces namespace) refl
  where
    by_table : (ns : Id) (found : Option TableRecord) → namespace_named m.catalog.namespaces namespace ≡ Some ns → is_future at n ≡ false → is_below at (kept_from m.catalog.kept_from ns) ≡ false
        → table_asked m.catalog.tables ns table at ≡ found → P (ok_or found UnknownTable)
    by_table ns None named over below e =
        no_ UnknownTable (NoTable (record { id = ns; named = namespace_found m n changes namespace ns h named }) (record { over = over; kept = below })
        (no_table m n changes namespace table ns at h named (asked_kept m n changes ns at h below) e))
    by_table ns (Some t) named over below e = yes_ t (view_found m n activity changes namespace table at ns t h versions named over below (table_found m n changes ns table at t h e))

    by_namespace : (ns : Option Id) → namespace_named m.catalog.namespaces namespace ≡ ns → P (at_namespace ns table at n m)
    by_namespace None e = no_ UnknownNamespace (NoNamespace (no_namespace m n changes namespace h e))
    by_namespace (Some ns) e =
        let from = kept_from m.catalog.kept_from ns in
        let here : NamespaceFound changes n namespace = record { id = ns; named = namespace_found m n changes namespace ns h e } in
        let Q : Option Refusal → Type 0 = λ why. P (and_found (either why ns) (λ ns. table_asked m.catalog.tables ns table at) UnknownTable) in
        step_if Q (is_future at n) (Future n) (If (is_below at from) (TooOld (time_of at n) from) ∷ []) (λ later. no_ (Future n) (NotYet n here later refl))
        (λ over. step_if Q (is_below at from) (TooOld (time_of at n) from) [] (λ below. no_ (TooOld (time_of at n) from) (NotKept (time_of at n) from here over below refl refl))
        (λ below. by_table ns (table_asked m.catalog.tables ns table at) e over below refl))
