-- The records of tables stand for the view through each change of the catalog.
use Rattle.std.proofs.Common.{ℕ, ◌≡◌, ◌<◌, ◌≤◌, ◌+◌, true, false, cond, ◌&&◌, not, List, [], ◌∷◌, ◌++◌, Option, Some, None, refl, sym, ap, subst, ◌∙◌, arith, le_trans, le_refl, le-leb, leb, leb-true, leb-false, eqb, ◌⊎◌, inl, inr}
use Rattle.std.specs.List.{filter}
use Rattle.std.specs.Option.{option_map}
use Rattle.std.proofs.lemmas.Bool.{cond_both, true≢false}
use Rattle.std.proofs.lemmas.Bool.Decides.{nat_tests}
use Rattle.std.specs.Str.{bytes_eq}
use Rattle.model.specs.Cluster.{Item, Id, same, In, is_open, holds_at, ended_by, Schema, Column, ColumnKind, NewColumn, column_named, first_schema}
use Rattle.model.specs.Catalog.{Catalog, NamespaceRecord, TableRecord, KeptFrom, Owner, table_named, current_named, end_table, change_table, owner_of, kept_from, set_kept_from}
use Rattle.model.specs.Restored.{record_at}
use Rattle.model.specs.Journal.{Change, ChangeAct, NamespaceMade, NamespaceDropped, TableMade, TableRenamed, TableDropped, ColumnAdded, ColumnDropped, RowChanged, TableView, renamed, with_column, without_column, table_after, table_at}
use Rattle.model.specs.Entries.{NamesDiffer}
use Rattle.model.specs.History.{rows_made}
use Rattle.law_store.proofs.Keys.{either_way, equal_keys, key_self}
use Rattle.law_invariants.specs.Invariant.{IsPast, view_of, view_at, ColumnsStand, NamespacesStand, TablesStand}
use Rattle.law_invariants.proofs.Rising.{rise_ended, rise_added, rise_top, rise_over, columns_made, columns_added, columns_dropped, dropped_alike}
use Rattle.law_invariants.proofs.Finding.{both_pass, passes_both, first_fails, second_fails, not_passing, none_or_some, same_equal, same_self, not_same, in_added, in_mapped, none_found}
use Rattle.law_invariants.proofs.Names.{names_kept}
use Rattle.law_invariants.proofs.Records.{has_title, is_named_at, table_named_found, now_holds, current_named_at, record_fresh, named_first, named_last, record_first, record_last, record_beside, end_one, table_end_past, end_held, end_over, named_ended, record_ended, record_gone, record_other, view_before, record_at_is, owners_first, owners_beside, owner_last, owner_beside, kept_rises, kept_by}
use Rattle.law_invariants.proofs.Ticking.{past_later}
use Rattle.row_values.specs.Schema as schema

-- The view after a change

abbrev pub table_then : Change → List Change → ℕ → Id → Option TableView
table_then c changes x id = table_after c.act id (table_at changes x) (table_at changes)

pub table_before : (c : Change) (changes : List Change) (x : ℕ) (id : Id) → x < c.stamp → table_at (c ∷ changes) x id ≡ table_at changes x id
table_before c changes x id l = let f : leb c.stamp x ≡ false = grind (arith, nat_tests) in rw f refl

pub table_since : (c : Change) (changes : List Change) (x : ℕ) (id : Id) → c.stamp ≤ x → table_at (c ∷ changes) x id ≡ table_then c changes x id
table_since c changes x id l = let t : leb c.stamp x ≡ true = le-leb c.stamp x l in rw t refl

-- what holds of the view before the change and since
pub table_ways : {P : Type 0} (x at : ℕ) → (x < at → P) → (at ≤ x → P) → P
table_ways x at before since = either_way (leb at x) (λ t. since (leb-true at x t)) (λ f. before (leb-false at x f))

-- a change that leaves tables as they are
abbrev pub LeavesTables : ChangeAct → Type 0
LeavesTables (NamespaceMade namespace name) = Unit {0}
LeavesTables (NamespaceDropped namespace) = Unit {0}
LeavesTables (RowChanged table key op) = Unit {0}
LeavesTables _ = ⊥

table_stays : (act : ChangeAct) (id : Id) (before : Id → Option TableView) (then_ : ℕ → Id → Option TableView) → LeavesTables act → table_after act id before then_ ≡ before id
table_stays (NamespaceMade namespace name) id before then_ h = refl
table_stays (NamespaceDropped namespace) id before then_ h = refl
table_stays (RowChanged table key op) id before then_ h = refl
table_stays _ id before then_ h = absurd h

pub tables_stay : (c : Change) (changes : List Change) (x : ℕ) (id : Id) → LeavesTables c.act → table_at (c ∷ changes) x id ≡ table_at changes x id
tables_stay c changes x id h = cond_both (leb c.stamp x) _ _ (λ o. o ≡ table_at changes x id) (λ b. table_stays c.act id (table_at changes x) (table_at changes) h) (λ b. refl)

-- a table that the view has was made
unmade_by : (os : List Owner) (changes : List Change) → ((id : Id) (x : ℕ) (v : TableView) → table_at changes x id ≡ Some v → owner_of os id ≡ Some v.namespace)
    → (id : Id) (x : ℕ) → owner_of os id ≡ None → table_at changes x id ≡ None
unmade_by os changes inside id x none = none_or_some (table_at changes x id) (λ gone. gone) (λ v there. let q = inside id x v there in let p : None ≡ Some v.namespace = sym none ∙ q in cc)

-- Changes that leave tables

-- such a change in front of the journal, at a later time, with further identifiers drawn and marks that rise
pub tables_kept : (c : Catalog) (namespaces : List NamespaceRecord) (marks : List KeptFrom) (time drawn m more : ℕ) (change : Change) (changes : List Change) → time ≤ m → drawn ≤ more → LeavesTables change.act
    → ((ns : Id) → kept_from c.kept_from ns ≤ kept_from marks ns) → ((ns : Id) → kept_from marks ns ≤ m)
    → TablesStand c time drawn changes → TablesStand (record c { namespaces = namespaces; kept_from = marks }) m more (change ∷ changes)
tables_kept c namespaces marks time drawn m more change changes le further leaves rises by h = record {
  past = λ r isin. past_later r.from time m r.to le (h.past r isin);
  drawn_before = λ r isin. le_trans (h.drawn_before r isin) further;
  owned = h.owned;
  owners_drawn = λ id new. h.owners_drawn id (let f = further in omega arith);
  unique = h.unique;
  found = h.found;
  columns = h.columns;
  rise = h.rise;
  viewed = λ id ns x owned kept. tables_stay change changes x id leaves ∙ h.viewed id ns x owned (le_trans (rises ns) kept);
  unmade = λ id x none. tables_stay change changes x id leaves ∙ h.unmade id x none;
  inside = λ id x v there. h.inside id x v (sym (tables_stay change changes x id leaves) ∙ there);
  kept = by;
}

-- a namespace is made: its mark is set
pub tables_namespace_made : (c : Catalog) (namespaces : List NamespaceRecord) (time drawn n : ℕ) (id : Id) (name : List ℕ) (changes : List Change) → time ≤ n
    → TablesStand c time drawn changes → TablesStand (record c { namespaces = namespaces; kept_from = set_kept_from c.kept_from id n }) n drawn (record { stamp = n; act = NamespaceMade id name } ∷ changes)
tables_namespace_made c namespaces time drawn n id name changes le h =
    tables_kept c namespaces (set_kept_from c.kept_from id n) time drawn n drawn (record { stamp = n; act = NamespaceMade id name }) changes le (le_refl drawn) tt
    (λ k. kept_rises c.kept_from id n k) (λ k. kept_by c.kept_from id n n k (le_trans (h.kept k) le) (le_refl n)) h

pub tables_namespace_dropped : (c : Catalog) (namespaces : List NamespaceRecord) (time drawn n : ℕ) (id : Id) (changes : List Change) → time ≤ n
    → TablesStand c time drawn changes → TablesStand (record c { namespaces = namespaces }) n drawn (record { stamp = n; act = NamespaceDropped id } ∷ changes)
tables_namespace_dropped c namespaces time drawn n id changes le h =
    tables_kept c namespaces c.kept_from time drawn n drawn (record { stamp = n; act = NamespaceDropped id }) changes le (le_refl drawn) tt
    (λ k. le_refl (kept_from c.kept_from k)) (λ k. le_trans (h.kept k) le) h

-- tables that are yet to be made get their owners
pub tables_reserved : (c : Catalog) (os : List Owner) (time drawn m more : ℕ) (changes : List Change) → time ≤ m → drawn ≤ more → ((o : Owner) → In o os → o.table.number ≤ more)
    → TablesStand c time drawn changes → TablesStand (record c { owners = c.owners ++ os }) m more changes
tables_reserved c os time drawn m more changes le further by h =
    let was_none : (id : Id) → owner_of (c.owners ++ os) id ≡ None → owner_of c.owners id ≡ None = λ id none. none_or_some (owner_of c.owners id)
    (λ gone. gone)
    (λ k there. let q : None ≡ Some k = sym none ∙ owners_first c.owners os id k there in cc) in
    record {
      past = λ r isin. past_later r.from time m r.to le (h.past r isin);
      drawn_before = λ r isin. le_trans (h.drawn_before r isin) further;
      owned = λ r isin. owners_first c.owners os r.id r.namespace (h.owned r isin);
      owners_drawn = λ id new. owners_beside c.owners os id
          (λ o isin. not_same o.table id (λ e. let b = by o isin in let q : o.table.number ≡ id.number = ap (λ i. i.number) e in omega arith))
          (h.owners_drawn id (let f = further in omega arith));
      unique = h.unique;
      found = h.found;
      columns = h.columns;
      rise = h.rise;
      viewed = λ id ns x owned kept. none_or_some (owner_of c.owners id)
          (λ none. h.unmade id x none ∙ none_or_some (record_at c.tables id x)
          (λ gone. sym (ap (option_map view_of) gone))
          (λ r there. let is = record_at_is c.tables id x r there in
          let q : None ≡ Some r.namespace = sym none ∙ ap (owner_of c.owners) (sym is.id_is) ∙ h.owned r is.listed in cc))
          (λ k there. let q : Some k ≡ Some ns = sym (owners_first c.owners os id k there) ∙ owned in
          let is : k ≡ ns = cc in
          h.viewed id ns x (there ∙ ap Some is) kept);
      unmade = λ id x none. h.unmade id x (was_none id none);
      inside = λ id x v there. owners_first c.owners os id v.namespace (h.inside id x v there);
      kept = λ ns. le_trans (h.kept ns) le;
    }

-- rows change
pub tables_rows_made : (c : Catalog) (time drawn n : ℕ) (table : Id) (items : List Item) (changes : List Change) → TablesStand c time drawn changes → TablesStand c time drawn (rows_made n table items changes)
tables_rows_made c time drawn n table [] changes h = h
tables_rows_made c time drawn n table (item ∷ items) changes h =
    let change : Change = record { stamp = n; act = RowChanged table item.key item.op } in
    tables_rows_made c time drawn n table items (change ∷ changes)
    (tables_kept c c.namespaces c.kept_from time drawn time drawn change changes (le_refl time) (le_refl drawn) tt (λ k. le_refl (kept_from c.kept_from k)) h.kept h)

pub names_rows_made : (rs : List NamespaceRecord) (time drawn n : ℕ) (table : Id) (items : List Item) (changes : List Change) → NamespacesStand rs time drawn changes → NamespacesStand rs time drawn (rows_made n table items changes)
names_rows_made rs time drawn n table [] changes h = h
names_rows_made rs time drawn n table (item ∷ items) changes h =
    let change : Change = record { stamp = n; act = RowChanged table item.key item.op } in
    names_rows_made rs time drawn n table items (change ∷ changes) (names_kept rs time drawn time drawn change changes (le_refl time) (le_refl drawn) tt h)

-- A new table

-- a record that begins at n holds from then on, and not before
begun_holds : (x n : ℕ) → n ≤ x → holds_at x n None ≡ true
begun_holds x n l = passes_both (leb n x) true (le-leb n x l) refl

begun_not : (x n : ℕ) → x < n → holds_at x n None ≡ false
begun_not x n l = first_fails (leb n x) true (grind (arith, nat_tests))

held_from : (x n : ℕ) → holds_at x n None ≡ true → n ≤ x
held_from x n e = leb-true n x (both_pass (leb n x) true e).0

-- a new record holds its name alone where no other record of another table has it now
titled : (ns : Id) (name : List ℕ) (r : TableRecord) → r.namespace ≡ ns → r.name ≡ name → has_title ns name r ≡ true
titled ns name r e f = ap (λ k. same k ns && bytes_eq r.name name) e ∙ ap (λ k. same ns ns && bytes_eq k name) f ∙ passes_both (same ns ns) (bytes_eq name name) (same_self ns) (key_self name)

abbrev pub new_table : Id → Id → List ℕ → Schema → ℕ → TableRecord
new_table id ns name schema n = record { id = id; namespace = ns; name = name; schema = schema; from = n; to = None }

pub tables_made : (c : Catalog) (time drawn n : ℕ) (id ns : Id) (name : List ℕ) (columns : List NewColumn) (changes : List Change) → time ≤ n → id.number ≡ drawn + 1 → current_named c.tables ns name ≡ None → NamesDiffer columns
    → TablesStand c time drawn changes
    → TablesStand (record c { tables = c.tables ++ new_table id ns name (first_schema columns) n ∷ []; owners = c.owners ++ record { table = id; namespace = ns } ∷ [] }) n (drawn + 1)
    (record { stamp = n; act = TableMade id ns name (first_schema columns).columns } ∷ changes)
tables_made c time drawn n id ns name columns changes le fresh free differ h =
    let r = new_table id ns name (first_schema columns) n in
    let o : Owner = record { table = id; namespace = ns } in
    let change : Change = record { stamp = n; act = TableMade id ns name (first_schema columns).columns } in
    let beyond : drawn < id.number = omega arith in
    let unowned = h.owners_drawn id beyond in
    let unknown : (x : ℕ) → record_at c.tables id x ≡ None = λ x. record_fresh c.tables drawn id x h.drawn_before beyond in
    let not_named : (x : ℕ) → n ≤ x → table_named c.tables ns name x ≡ None = λ x l. sym (current_named_at c.tables time x ns name h.past (le_trans le l)) ∙ free in
    let here : (x : ℕ) → n ≤ x → record_at (c.tables ++ r ∷ []) id x ≡ Some r = λ x l. record_last c.tables r id x (unknown x) (passes_both (holds_at x n None) (same id id) (begun_holds x n l) (same_self id)) in
    let inside : (k : Id) (x : ℕ) (v : TableView) → table_at (change ∷ changes) x k ≡ Some v → owner_of (c.owners ++ o ∷ []) k ≡ Some v.namespace =
    λ k x v there. table_ways x n
    (λ before. owners_first c.owners (o ∷ []) k v.namespace (h.inside k x v (sym (table_before change changes x k before) ∙ there)))
    (λ since. let seen : table_then change changes x k ≡ Some v = sym (table_since change changes x k since) ∙ there in
    either_way (same id k)
    (λ t. let made : Some (view_of r) ≡ Some v = rw t at seen in
    let in_it : ns ≡ v.namespace = (let q : view_of r ≡ v = cc in ap (λ w. w.namespace) q) in
    ap (owner_of (c.owners ++ o ∷ [])) (sym (same_equal id k t)) ∙ owner_last c.owners o unowned ∙ ap Some in_it)
    (λ f. owners_first c.owners (o ∷ []) k v.namespace (h.inside k x v (rw f at seen)))) in
    record {
      past = in_added (λ s. IsPast n s.from s.to) c.tables r (λ s isin. past_later s.from time n s.to le (h.past s isin)) (record { begun = le_refl n; ended = tt });
      drawn_before = in_added (λ s. s.id.number ≤ drawn + 1) c.tables r (λ s isin. let b = h.drawn_before s isin in omega arith) (omega arith);
      owned = in_added (λ s. owner_of (c.owners ++ o ∷ []) s.id ≡ Some s.namespace) c.tables r (λ s isin. owners_first c.owners (o ∷ []) s.id s.namespace (h.owned s isin)) (owner_last c.owners o unowned);
      owners_drawn = λ k new. owner_beside c.owners o k (not_same id k (λ e. let q : id.number ≡ k.number = ap (λ i. i.number) e in omega arith)) ∙ h.owners_drawn k (omega arith);
      unique = λ x. in_added (λ s. holds_at x s.from s.to ≡ true → table_named (c.tables ++ r ∷ []) s.namespace s.name x ≡ Some s) c.tables r
          (λ s isin holds. named_first c.tables (r ∷ []) s.namespace s.name x s (h.unique x s isin holds))
          (λ holds. named_last c.tables r ns name x (not_named x (held_from x n holds)) (passes_both (holds_at x n None) (has_title ns name r) holds (titled ns name r refl refl)));
      found = λ x. in_added (λ s. holds_at x s.from s.to ≡ true → record_at (c.tables ++ r ∷ []) s.id x ≡ Some s) c.tables r
          (λ s isin holds. record_first c.tables (r ∷ []) s.id x s (h.found x s isin holds))
          (λ holds. here x (held_from x n holds));
      columns = in_added (λ s. ColumnsStand s.schema) c.tables r h.columns (columns_made columns differ);
      rise = rise_added c.tables r (λ s isin e. absurd (let b = h.drawn_before s isin in let q : id.number ≡ s.id.number = ap (λ i. i.number) e in omega arith)) h.rise;
      viewed = λ k k_ns x owned kept. either_way (same id k)
          (λ t. let is : id ≡ k = same_equal id k t in
          let P : Id → Type 0 = λ j. table_at (change ∷ changes) x j ≡ view_at (c.tables ++ r ∷ []) x j in
          subst P is (table_ways x n
          (λ before. table_before change changes x id before ∙ h.unmade id x unowned
          ∙ sym (ap (option_map view_of) (record_beside c.tables r id x (first_fails (holds_at x n None) (same id id) (begun_not x n before)) ∙ unknown x)))
          (λ since. table_since change changes x id since ∙ (let s = same_self id in rw s refl) ∙ sym (ap (option_map view_of) (here x since)))))
          (λ f. let old : table_at (change ∷ changes) x k ≡ table_at changes x k = table_ways x n (λ before. table_before change changes x k before) (λ since. table_since change changes x k since ∙ rw f refl) in
          old ∙ h.viewed k k_ns x (sym (owner_beside c.owners o k f) ∙ owned) kept
          ∙ sym (ap (option_map view_of) (record_beside c.tables r k x (second_fails (holds_at x n None) (same id k) f))));
      unmade = unmade_by (c.owners ++ o ∷ []) (change ∷ changes) inside;
      inside = inside;
      kept = λ k. le_trans (h.kept k) le;
    }

-- A table that ends

-- what an end makes of the view, with what comes after it
pub tables_dropped : (c : Catalog) (time drawn n : ℕ) (id : Id) (changes : List Change) → time ≤ n
    → TablesStand c time drawn changes → TablesStand (record c { tables = end_table id n c.tables }) n drawn (record { stamp = n; act = TableDropped id } ∷ changes)
tables_dropped c time drawn n id changes le h =
    let change : Change = record { stamp = n; act = TableDropped id } in
    let rs = end_table id n c.tables in
    let inside : (k : Id) (x : ℕ) (v : TableView) → table_at (change ∷ changes) x k ≡ Some v → owner_of c.owners k ≡ Some v.namespace =
    λ k x v there. table_ways x n
    (λ before. h.inside k x v (sym (table_before change changes x k before) ∙ there))
    (λ since. let seen : table_then change changes x k ≡ Some v = sym (table_since change changes x k since) ∙ there in
    either_way (same id k) (λ t. let q : None ≡ Some v = rw t at seen in cc) (λ f. h.inside k x v (rw f at seen))) in
    record {
      past = table_end_past c.tables id time n le h.past;
      drawn_before = in_mapped (end_one id n) (λ s. s.id.number ≤ drawn) c.tables h.drawn_before;
      owned = in_mapped (end_one id n) (λ s. owner_of c.owners s.id ≡ Some s.namespace) c.tables h.owned;
      owners_drawn = h.owners_drawn;
      unique = λ x. in_mapped (end_one id n) (λ s. holds_at x s.from s.to ≡ true → table_named rs s.namespace s.name x ≡ Some s) c.tables
          (λ s isin holds. named_ended c.tables id n s.namespace s.name x s (h.unique x s isin (end_held (same s.id id) x n s.from s.to holds)) holds);
      found = λ x. in_mapped (end_one id n) (λ s. holds_at x s.from s.to ≡ true → record_at rs s.id x ≡ Some s) c.tables
          (λ s isin holds. record_ended c.tables id n s.id x s (h.found x s isin (end_held (same s.id id) x n s.from s.to holds)) holds);
      columns = in_mapped (end_one id n) (λ s. ColumnsStand s.schema) c.tables h.columns;
      rise = rise_ended c.tables id n h.rise;
      viewed = λ k ns x owned kept. table_ways x n
          (λ before. table_before change changes x k before ∙ h.viewed k ns x owned kept ∙ sym (view_before c.tables id n k x before))
          (λ since. table_since change changes x k since ∙ either_way (same id k)
          (λ t. let is : id ≡ k = same_equal id k t in
          let P : Id → Type 0 = λ j. record_at rs j x ≡ None in
          rw t (sym (ap (option_map view_of) (subst P is (record_gone c.tables id time n x h.past le since)))))
          (λ f. rw f (h.viewed k ns x owned kept ∙ sym (ap (option_map view_of) (record_other c.tables id n k x f)))));
      unmade = unmade_by c.owners (change ∷ changes) inside;
      inside = inside;
      kept = λ k. le_trans (h.kept k) le;
    }

-- A table that changes

-- what a change of one table does to its view
pub record IsTableChange (act : ChangeAct) (t : TableRecord) (name : List ℕ) (columns : List Column) : Type 0 where
  pub turn : Option TableView → Option TableView
  pub after : (k : Id) (before : Id → Option TableView) (then_ : ℕ → Id → Option TableView) → table_after act k before then_ ≡ cond (same t.id k) (turn (before k)) (before k)
  pub turned : turn (Some (view_of t)) ≡ Some (record { namespace = t.namespace; name = name; columns = columns })
  pub none : turn None ≡ None
  pub inside : (v w : TableView) → turn (Some v) ≡ Some w → w.namespace ≡ v.namespace

turn_inside : {act : ChangeAct} {t : TableRecord} {name : List ℕ} {columns : List Column} (d : IsTableChange act t name columns) (before : Option TableView) (w : TableView) → d.turn before ≡ Some w
    → (v : TableView) × ((before ≡ Some v) × (w.namespace ≡ v.namespace))
turn_inside d None w e = let q : None ≡ Some w = sym d.none ∙ e in cc
turn_inside d (Some v) w e = (v, (refl, d.inside v w e))

-- a current table goes on under another name and schema; of the current tables it alone may have had the name
pub tables_changed : (c : Catalog) (time drawn n : ℕ) (t : TableRecord) (name : List ℕ) (s : Schema) (act : ChangeAct) (changes : List Change) → time ≤ n → In t c.tables → is_open t.to ≡ true
    → ((r : TableRecord) → current_named c.tables t.namespace name ≡ Some r → r.id ≡ t.id) → ColumnsStand s → t.schema.next ≤ s.next → IsTableChange act t name s.columns
    → TablesStand c time drawn changes → TablesStand (record c { tables = change_table t name s n c.tables }) n drawn (record { stamp = n; act = act } ∷ changes)
tables_changed c time drawn n t name s act changes le isin current alone stand further d h =
    let change : Change = record { stamp = n; act = act } in
    let id = t.id in
    let ended = end_table id n c.tables in
    let new : TableRecord = record t { name = name; schema = s; from = n; to = None } in
    let holds_now : (x : ℕ) → n ≤ x → holds_at x t.from t.to ≡ true = λ x l. now_holds time x t.from t.to (h.past t isin) (le_trans le l) ∙ current in
    let gone : (x : ℕ) → n ≤ x → record_at ended id x ≡ None = λ x l. record_gone c.tables id time n x h.past le l in
    let not_named : (x : ℕ) → n ≤ x → table_named ended t.namespace name x ≡ None = λ x l. table_named_found ended t.namespace name x
    ∙ none_found (is_named_at t.namespace name x) ended (in_mapped (end_one id n) (λ r. is_named_at t.namespace name x r ≡ false) c.tables
    (λ r r_in. not_passing (is_named_at t.namespace name x (end_one id n r)) (λ p.
    let outer = both_pass (holds_at x r.from (end_one id n r).to) (has_title t.namespace name r) p in
    let inner = both_pass (same r.namespace t.namespace) (bytes_eq r.name name) outer.1 in
    let first = h.unique x r r_in (end_held (same r.id id) x n r.from r.to outer.0) in
    let found : table_named c.tables t.namespace name x ≡ Some r =
    sym (ap (λ k. table_named c.tables k r.name x) (same_equal r.namespace t.namespace inner.0) ∙ ap (λ k. table_named c.tables t.namespace k x) (equal_keys r.name name inner.1)) ∙ first in
    let is : r.id ≡ id = alone r (current_named_at c.tables time x t.namespace name h.past (le_trans le l) ∙ found) in
    let same_id : same r.id id ≡ true = ap (λ k. same k id) is ∙ same_self id in
    true≢false (sym outer.0 ∙ end_over id time x n r same_id (h.past r r_in) le l)))) in
    let here : (x : ℕ) → n ≤ x → record_at (ended ++ new ∷ []) id x ≡ Some new = λ x l. record_last ended new id x (gone x l) (passes_both (holds_at x n None) (same id id) (begun_holds x n l) (same_self id)) in
    let inside : (k : Id) (x : ℕ) (v : TableView) → table_at (change ∷ changes) x k ≡ Some v → owner_of c.owners k ≡ Some v.namespace =
    λ k x v there. table_ways x n
    (λ before. h.inside k x v (sym (table_before change changes x k before) ∙ there))
    (λ since. let seen : cond (same id k) (d.turn (table_at changes x k)) (table_at changes x k) ≡ Some v = sym (d.after k (table_at changes x) (table_at changes)) ∙ sym (table_since change changes x k since) ∙ there in
    either_way (same id k)
    (λ e. let q = turn_inside d (table_at changes x k) v (rw e at seen) in h.inside k x q.0 q.1.0 ∙ ap Some (sym q.1.1))
    (λ f. h.inside k x v (rw f at seen))) in
    record {
      past = in_added (λ r. IsPast n r.from r.to) ended new (table_end_past c.tables id time n le h.past) (record { begun = le_refl n; ended = tt });
      drawn_before = in_added (λ r. r.id.number ≤ drawn) ended new (in_mapped (end_one id n) (λ r. r.id.number ≤ drawn) c.tables h.drawn_before) (h.drawn_before t isin);
      owned = in_added (λ r. owner_of c.owners r.id ≡ Some r.namespace) ended new (in_mapped (end_one id n) (λ r. owner_of c.owners r.id ≡ Some r.namespace) c.tables h.owned) (h.owned t isin);
      owners_drawn = h.owners_drawn;
      unique = λ x. in_added (λ r. holds_at x r.from r.to ≡ true → table_named (ended ++ new ∷ []) r.namespace r.name x ≡ Some r) ended new
          (in_mapped (end_one id n) (λ r. holds_at x r.from r.to ≡ true → table_named (ended ++ new ∷ []) r.namespace r.name x ≡ Some r) c.tables
          (λ r r_in holds. named_first ended (new ∷ []) r.namespace r.name x (end_one id n r)
          (named_ended c.tables id n r.namespace r.name x r (h.unique x r r_in (end_held (same r.id id) x n r.from r.to holds)) holds)))
          (λ holds. named_last ended new t.namespace name x (not_named x (held_from x n holds)) (passes_both (holds_at x n None) (has_title t.namespace name new) holds (titled t.namespace name new refl refl)));
      found = λ x. in_added (λ r. holds_at x r.from r.to ≡ true → record_at (ended ++ new ∷ []) r.id x ≡ Some r) ended new
          (in_mapped (end_one id n) (λ r. holds_at x r.from r.to ≡ true → record_at (ended ++ new ∷ []) r.id x ≡ Some r) c.tables
          (λ r r_in holds. record_first ended (new ∷ []) r.id x (end_one id n r)
          (record_ended c.tables id n r.id x r (h.found x r r_in (end_held (same r.id id) x n r.from r.to holds)) holds)))
          (λ holds. here x (held_from x n holds));
      columns = in_added (λ r. ColumnsStand r.schema) ended new (in_mapped (end_one id n) (λ r. ColumnsStand r.schema) c.tables h.columns) stand;
      rise = rise_added ended new (in_mapped (end_one id n) (λ r. id ≡ r.id → (r.schema.next ≤ s.next) × (ended_by n r.to ≡ true)) c.tables
          (λ r r_in e. (le_trans (rise_top c.tables t r h.rise isin current r_in (sym e)) further, rise_over r id time n (sym e) (h.past r r_in) le))) (rise_ended c.tables id n h.rise);
      viewed = λ k ns x owned kept. table_ways x n
          (λ before. table_before change changes x k before ∙ h.viewed k ns x owned kept
          ∙ sym (ap (option_map view_of) (record_beside ended new k x (first_fails (holds_at x n None) (same id k) (begun_not x n before))) ∙ view_before c.tables id n k x before))
          (λ since. table_since change changes x k since ∙ d.after k (table_at changes x) (table_at changes) ∙ either_way (same id k)
          (λ e. let is : id ≡ k = same_equal id k e in
          let P : Id → Type 0 = λ j. d.turn (table_at changes x j) ≡ view_at (ended ++ new ∷ []) x j in
          let was : table_at changes x id ≡ Some (view_of t) =
          h.viewed id t.namespace x (h.owned t isin) (le_trans (h.kept t.namespace) (le_trans le since)) ∙ ap (option_map view_of) (h.found x t isin (holds_now x since)) in
          rw e (subst P is (ap d.turn was ∙ d.turned ∙ sym (ap (option_map view_of) (here x since)))))
          (λ f. rw f (h.viewed k ns x owned kept
          ∙ sym (ap (option_map view_of) (record_beside ended new k x (second_fails (holds_at x n None) (same id k) f) ∙ record_other c.tables id n k x f)))));
      unmade = unmade_by c.owners (change ∷ changes) inside;
      inside = inside;
      kept = λ k. le_trans (h.kept k) le;
    }

-- the three changes of a table

alone_named : (c : Catalog) (time drawn : ℕ) (t : TableRecord) (changes : List Change) → In t c.tables → is_open t.to ≡ true → TablesStand c time drawn changes
    → (r : TableRecord) → current_named c.tables t.namespace t.name ≡ Some r → r.id ≡ t.id
alone_named c time drawn t changes isin current h r e =
    let found = h.unique time t isin (now_holds time time t.from t.to (h.past t isin) (le_refl time) ∙ current) in
    let q = current_named_at c.tables time time t.namespace t.name h.past (le_refl time) in
    let is : r ≡ t = (let p : Some r ≡ Some t = sym e ∙ q ∙ found in cc) in
    ap (λ s. s.id) is

pub tables_column_added : (c : Catalog) (time drawn n : ℕ) (t : TableRecord) (name : List ℕ) (kind : ColumnKind) (changes : List Change) → time ≤ n → In t c.tables → is_open t.to ≡ true
    → column_named t.schema.columns name ≡ None → TablesStand c time drawn changes
    → TablesStand (record c { tables = change_table t t.name (schema.with_column name kind t.schema) n c.tables }) n drawn
    (record { stamp = n; act = ColumnAdded t.id (record { id = t.schema.next; name = name; kind = kind }) } ∷ changes)
tables_column_added c time drawn n t name kind changes le isin current free h =
    let column : Column = record { id = t.schema.next; name = name; kind = kind } in
    tables_changed c time drawn n t t.name (schema.with_column name kind t.schema) (ColumnAdded t.id column) changes le isin current
    (alone_named c time drawn t changes isin current h) (columns_added name kind t.schema free (h.columns t isin)) (omega arith)
    (record { turn = with_column column; after = λ k before then_. refl; turned = refl; none = refl; inside = λ v w e. let q : record v { columns = v.columns ++ column ∷ [] } ≡ w = cc in sym (ap (λ u. u.namespace) q) }) h

pub tables_column_dropped : (c : Catalog) (time drawn n : ℕ) (t : TableRecord) (name : List ℕ) (column : Column) (changes : List Change) → time ≤ n → In t c.tables → is_open t.to ≡ true
    → column_named t.schema.columns name ≡ Some column → TablesStand c time drawn changes
    → TablesStand (record c { tables = change_table t t.name (schema.without_column name t.schema) n c.tables }) n drawn (record { stamp = n; act = ColumnDropped t.id column.id } ∷ changes)
tables_column_dropped c time drawn n t name column changes le isin current found h =
    let view : List Column → Option TableView = λ columns. Some (record (view_of t) { columns = columns }) in
    tables_changed c time drawn n t t.name (schema.without_column name t.schema) (ColumnDropped t.id column.id) changes le isin current
    (alone_named c time drawn t changes isin current h) (columns_dropped name t.schema (h.columns t isin)) (le_refl _)
    (record {
      turn = without_column column.id;
      after = λ k before then_. refl;
      turned = ap view (dropped_alike name t.schema column found (h.columns t isin));
      none = refl;
      inside = λ v w e. let q : record v { columns = filter (λ d. not (eqb d.id column.id)) v.columns } ≡ w = cc in sym (ap (λ u. u.namespace) q);
    }) h

pub tables_renamed : (c : Catalog) (time drawn n : ℕ) (t : TableRecord) (name : List ℕ) (changes : List Change) → time ≤ n → In t c.tables → is_open t.to ≡ true
    → current_named c.tables t.namespace name ≡ None → TablesStand c time drawn changes
    → TablesStand (record c { tables = change_table t name t.schema n c.tables }) n drawn (record { stamp = n; act = TableRenamed t.id name } ∷ changes)
tables_renamed c time drawn n t name changes le isin current free h =
    tables_changed c time drawn n t name t.schema (TableRenamed t.id name) changes le isin current
    (λ r e. let q : None ≡ Some r = sym free ∙ e in cc) (h.columns t isin) (le_refl _)
    (record { turn = renamed name; after = λ k before then_. refl; turned = refl; none = refl; inside = λ v w e. let q : record v { name = name } ≡ w = cc in sym (ap (λ u. u.namespace) q) }) h

-- of one table, or of one name in one namespace
abbrev pub Alike : TableRecord → TableRecord → Type 0
Alike a b = (a.id ≡ b.id) ⊎ ((a.namespace ≡ b.namespace) × (a.name ≡ b.name))

pub alike_back : (a b : TableRecord) → Alike a b → Alike b a
alike_back a b (inl e) = inl (sym e)
alike_back a b (inr e) = inr (sym e.0, sym e.1)

pub old_one : (c : Catalog) (time drawn : ℕ) (changes : List Change) (x : ℕ) (a b : TableRecord) → TablesStand c time drawn changes → In a c.tables → In b c.tables → holds_at x a.from a.to ≡ true → holds_at x b.from b.to ≡ true → Alike a b → a ≡ b
old_one c time drawn changes x a b h in_a in_b held_a held_b (inl e) =
    let q : Some a ≡ Some b = sym (h.found x a in_a held_a) ∙ ap (λ i. record_at c.tables i x) e ∙ h.found x b in_b held_b in cc
old_one c time drawn changes x a b h in_a in_b held_a held_b (inr e) =
    let q : Some a ≡ Some b = sym (h.unique x a in_a held_a) ∙ ap (λ i. table_named c.tables i a.name x) e.0 ∙ ap (λ i. table_named c.tables b.namespace i x) e.1 ∙ h.unique x b in_b held_b in cc
