-- What restores fixed stays as it was: of journals alone. The view has each table in the namespace in which it was made, and so a change
-- of one namespace leaves the view of another as it is.
use Rattle.std.proofs.Common.{ℕ, ◌≡◌, ◌<◌, List, [], ◌∷◌, Option, Some, None, Bool, true, false, cond, ◌&&◌, ◌||◌, ◌==◌, ◌++◌, ◌⊎◌, inl, inr, le_refl, not, refl, sym, ap, subst, ◌∙◌, arith, leb, leb-true, leb-false, eqb, eqb-true}
use Rattle.std.specs.Option.{is_some, option_or}
use Rattle.std.specs.Str.{bytes_eq}
use Rattle.std.proofs.lemmas.Bool.{true≢false}
use Rattle.std.proofs.lemmas.Bool.Decides.{nat_tests}
use Rattle.row_values.specs.Rows.{applied}
use Rattle.row_values.specs.declared.rows.Row.{Row}
use Rattle.row_values.specs.declared.value.Item.{Item}
use Rattle.row_values.specs.Ids.{Id, same}
use Rattle.std.specs.List.{filter}
use Rattle.row_values.specs.Schema.{Column}
use Rattle.model.specs.Catalog.{Owner, is_owned_by, owner_of}
use Rattle.model.specs.Journal.{Change, ChangeAct, TableMade, TableRenamed, TableDropped, ColumnAdded, ColumnDropped, RowChanged, NamespaceRestored, NamespaceCloned, TableView, is_in, renamed, with_column, without_column, moved_to, restored_table, restored_row, table_after, namespace_at, table_at, row_at, owner_by, owner_in, source_of}
use Rattle.model.specs.Right.{fixes, is_fixed, SameThen, StillSame}
use Rattle.model.specs.Right.{FixedStays}
use Rattle.model.specs.History.{with, rows_made}
use Rattle.law_store.proofs.Keys.{either_way}
use Rattle.law_invariants.proofs.Journaling.{made_here, made_others}
use Rattle.law_invariants.proofs.Finding.{both_pass, either_is, either_passes, not_passing, same_equal, same_self}
use Rattle.row_values.specs.Elements.{In}
use Rattle.model.specs.Records.{IdPair, CloneRecord}
use Rattle.law_invariants.specs.Operations.{PairsApart}
use Rattle.law_clones.proofs.Viewing.{clone, by_source, source_is, table_early, table_aside, table_target}

-- The view is the same

one_way : {A : Type 0} (b : Bool) (x : A) → cond b x x ≡ x
one_way true x = refl
one_way false x = refl

-- a change that comes after a time leaves the view at it
ahead : (n : ℕ) (act : ChangeAct) (changes : List Change) (ns : Id) (t : ℕ) → t < n → SameThen (with n act changes) changes ns t
ahead n act changes ns t l = let e : leb n t ≡ false = grind (arith, nat_tests) in
    record { name = rw e refl; tables = λ id inside. rw e refl; rows = λ id key inside. rw e refl }

then_trans : (a b c : List Change) (ns : Id) (t : ℕ) → SameThen a b ns t → SameThen b c ns t → SameThen a c ns t
then_trans a b c ns t p q = record { name = p.name ∙ q.name; tables = tables; rows = rows }
  where
    first : (id : Id) → is_in ns (table_at a t id) ≡ true → table_at a t id ≡ table_at c t id
    first id h =
        let e = p.tables id (ap (λ w. w || is_in ns (table_at b t id)) h) in
        e ∙ q.tables id (ap (λ w. w || is_in ns (table_at c t id)) (ap (is_in ns) (sym e) ∙ h))

    last : (id : Id) → is_in ns (table_at c t id) ≡ true → (table_at a t id ≡ table_at b t id) × (table_at b t id ≡ table_at c t id)
    last id h =
        let e = q.tables id (either_passes (is_in ns (table_at b t id)) (is_in ns (table_at c t id)) h) in
        (p.tables id (either_passes (is_in ns (table_at a t id)) (is_in ns (table_at b t id)) (ap (is_in ns) e ∙ h)), e)

    tables : (id : Id) → (is_in ns (table_at a t id) || is_in ns (table_at c t id)) ≡ true → table_at a t id ≡ table_at c t id
    tables id h = either_is (is_in ns (table_at a t id)) (is_in ns (table_at c t id)) h (first id) (λ k. let e = last id k in e.0 ∙ e.1)

    rows : (id : Id) (key : List ℕ) → is_in ns (table_at c t id) ≡ true → row_at a t id key ≡ row_at c t id key
    rows id key h = p.rows id key (ap (is_in ns) (last id h).1 ∙ h) ∙ q.rows id key h

-- where all fixed times see the same, what was fixed before still is the same
still_more : (changes all new : List Change) → StillSame all changes
    → ((ns : Id) (t : ℕ) → is_fixed changes ns t ≡ true → SameThen new all ns t) → StillSame new changes
still_more [] all new same more = tt
still_more (c ∷ earlier) all new same more = (
  still_more earlier all new same.0 (λ ns t fixed. more ns t (or_earlier (fixes c.act ns t) (is_fixed earlier ns t) fixed)),
  λ ns t fixed. then_trans new all earlier ns t (more ns t (ap (λ b. cond b true (is_fixed earlier ns t)) fixed)) (same.1 ns t fixed),
)
  where
    or_earlier : (a b : Bool) → b ≡ true → cond a true b ≡ true
    or_earlier true b h = refl
    or_earlier false b h = h

-- Tables are where they were made

-- the view has each table in the namespace in which it was made
pub record ViewOwned (changes : List Change) : Type 0 where
  pub owned : (id : Id) (x : ℕ) (v : TableView) → table_at changes x id ≡ Some v → owner_in changes id ≡ Some v.namespace

-- the changes that neither make a table nor take a namespace
abbrev pub stays_home : ChangeAct → Bool
stays_home (TableMade table namespace name columns) = false
stays_home (NamespaceRestored namespace to) = false
stays_home (NamespaceCloned source target name to tables) = false
stays_home _ = true

IsAtHome : Option TableView → Option TableView → Type 0
IsAtHome before after = (v : TableView) → after ≡ Some v → (u : TableView) × ((before ≡ Some u) × (u.namespace ≡ v.namespace))

unchanged : (before : Option TableView) → IsAtHome before before
unfolding IsAtHome
unchanged before v e = (v, (e, refl))

if_changed : (b : Bool) (before after : Option TableView) → IsAtHome before after → IsAtHome before (cond b after before)
if_changed true before after h = h
if_changed false before after h = unchanged before

renamed_home : (name : List ℕ) (t : Option TableView) → IsAtHome t (renamed name t)
unfolding IsAtHome
renamed_home name None v e = cc
renamed_home name (Some u) v e = (u, (refl, (let same_view : record u { name = name } ≡ v = cc in ap (λ w. w.namespace) same_view)))

added_home : (column : Column) (t : Option TableView) → IsAtHome t (with_column column t)
unfolding IsAtHome
added_home column None v e = cc
added_home column (Some u) v e =
    (u, (refl, (let same_view : record u { columns = u.columns ++ column ∷ [] } ≡ v = cc in ap (λ w. w.namespace) same_view)))

dropped_home : (column : ℕ) (t : Option TableView) → IsAtHome t (without_column column t)
unfolding IsAtHome
dropped_home column None v e = cc
dropped_home column (Some u) v e =
    (u, (refl, (let same_view : record u { columns = filter (λ c. not (c.id == column)) u.columns } ≡ v = cc in ap (λ w. w.namespace) same_view)))

gone_home : (before : Option TableView) → IsAtHome before None
unfolding IsAtHome
gone_home before v e = cc

home_after : (act : ChangeAct) (id : Id) (before : Id → Option TableView) (then_ : ℕ → Id → Option TableView) → stays_home act ≡ true
    → IsAtHome (before id) (table_after act id before then_)
home_after (TableMade table namespace name columns) id before then_ home = absurd (true≢false (sym home))
home_after (TableRenamed table name) id before then_ home = if_changed (same table id) (before id) _ (renamed_home name (before id))
home_after (TableDropped table) id before then_ home = if_changed (same table id) (before id) None (gone_home (before id))
home_after (ColumnAdded table column) id before then_ home = if_changed (same table id) (before id) _ (added_home column (before id))
home_after (ColumnDropped table column) id before then_ home = if_changed (same table id) (before id) _ (dropped_home column (before id))
home_after (NamespaceRestored namespace to) id before then_ home = absurd (true≢false (sym home))
home_after (NamespaceCloned source target name to tables) id before then_ home = absurd (true≢false (sym home))
home_after _ id before then_ home = unchanged (before id)

none_made : (act : ChangeAct) (id : Id) → stays_home act ≡ true → owner_by act id ≡ None
none_made (TableMade table namespace name columns) id home = absurd (true≢false (sym home))
none_made (NamespaceRestored namespace to) id home = absurd (true≢false (sym home))
none_made (NamespaceCloned source target name to tables) id home = absurd (true≢false (sym home))
none_made _ id home = refl

pub plain_owned : (n : ℕ) (act : ChangeAct) (changes : List Change) → stays_home act ≡ true → ViewOwned changes → ViewOwned (with n act changes)
unfolding IsAtHome
plain_owned n act changes home o = record {
  owned = λ id x v e.
      let h : IsAtHome (table_at changes x id) (table_at (with n act changes) x id) =
      if_changed (leb n x) (table_at changes x id) _ (home_after act id (table_at changes x) (table_at changes) home) in
      let u = h v e in
      ap (λ w. option_or w (owner_in changes id)) (none_made act id home) ∙ o.owned id x u.0 u.1.0 ∙ ap Some u.1.1;
}

-- the list of owners has each table of the journal in the namespace in which it was made
abbrev pub OwnersStand : List Owner → List Change → Type 0
OwnersStand os changes = (table ns : Id) → owner_in changes table ≡ Some ns → owner_of os table ≡ Some ns

pub plain_stand : (n : ℕ) (act : ChangeAct) (changes : List Change) (os : List Owner) → stays_home act ≡ true → OwnersStand os changes → OwnersStand os (with n act changes)
plain_stand n act changes os home h table ns e = h table ns (sym (ap (λ w. option_or w (owner_in changes table)) (none_made act table home)) ∙ e)

pub made_stand : (n : ℕ) (made ns : Id) (name : List ℕ) (columns : List Column) (changes : List Change) (os : List Owner)
    → ((id : Id) (x : ℕ) (v : TableView) → table_at (with n (TableMade made ns name columns) changes) x id ≡ Some v → owner_of os id ≡ Some v.namespace)
    → OwnersStand os changes → OwnersStand os (with n (TableMade made ns name columns) changes)
made_stand n made ns name columns changes os inside h table owner e = either_way (same made table)
    (λ s. let q : Some ns ≡ Some owner = rw s at e in
    ap (owner_of os) (sym (same_equal made table s)) ∙ inside made n _ (made_here n made ns name columns changes n (le_refl n)) ∙ q)
    (λ s. h table owner (rw s at e))

pub cloned_stand : (n : ℕ) (r : CloneRecord) (changes : List Change) (os : List Owner) → PairsApart r.tables → ((d : IdPair) → In d r.tables → owner_of os d.target ≡ Some r.target_id)
    → OwnersStand os changes → OwnersStand os (clone n r changes)
cloned_stand n r changes os apart targets h table owner e = by_source r.tables table
    (λ none. h table owner (sym (ap (λ s. option_or (cond (is_some s) (Some r.target_id) None) (owner_in changes table)) none) ∙ e))
    (λ d isin is. ap (owner_of os) (sym is) ∙ targets d isin
    ∙ sym (ap (λ s. option_or (cond (is_some s) (Some r.target_id) None) (owner_in changes table)) (ap (source_of r.tables) (sym is) ∙ source_is r.tables d apart isin)) ∙ e)

pub rows_stand : (items : List Item) (n : ℕ) (table : Id) (changes : List Change) (os : List Owner) → OwnersStand os changes → OwnersStand os (rows_made n table items changes)
rows_stand [] n table changes os h = h
rows_stand (item ∷ items) n table changes os h = rows_stand items n table (with n (RowChanged table item.key item.op) changes) os h

-- one more table
pub made_owned : (n : ℕ) (made ns : Id) (name : List ℕ) (columns : List Column) (changes : List Change) (os : List Owner)
    → ((id : Id) (x : ℕ) (v : TableView) → table_at (with n (TableMade made ns name columns) changes) x id ≡ Some v → owner_of os id ≡ Some v.namespace)
    → ViewOwned changes → ViewOwned (with n (TableMade made ns name columns) changes)
made_owned n made ns name columns changes os inside o = record {
  owned = λ id x v e. either_way (same made id)
      (λ s.
      let is : made ≡ id = same_equal made id s in
      let there = inside id n _ (subst (λ k. table_at (with n (TableMade made ns name columns) changes) n k ≡ Some (record { namespace = ns; name = name; columns = columns })) is (made_here n made ns name columns changes n (le_refl n))) in
      let seen = inside id x v e in
      let same_home : Some ns ≡ Some v.namespace = sym there ∙ seen in
      ap (λ b. option_or (cond b (Some ns) None) (owner_in changes id)) s ∙ same_home)
      (λ s. ap (λ b. option_or (cond b (Some ns) None) (owner_in changes id)) s
      ∙ o.owned id x v (sym (made_others n made ns name columns changes x id s) ∙ e));
}

restored_from : (ns : Id) (a b : Option TableView) (v : TableView) → restored_table ns a b ≡ Some v → (a ≡ Some v) ⊎ (b ≡ Some v)
restored_from ns a b v e = either_way (is_in ns a)
    (λ h. inl (rw h at e))
    (λ h. either_way (is_in ns b)
    (λ k. let q : None ≡ Some v = rw (h, k) at e in cc)
    (λ k. inr (rw (h, k) at e)))

-- a restore brings back tables of its namespace
pub restored_owned : (point : ℕ) (ns : Id) (to : ℕ) (changes : List Change) → ViewOwned changes → ViewOwned (with point (NamespaceRestored ns to) changes)
restored_owned point ns to changes o = record {
  owned = λ id x v e. either_way (leb point x)
      (λ b. let q : restored_table ns (table_at changes to id) (table_at changes x id) ≡ Some v = rw b at e in
      elim (restored_from ns (table_at changes to id) (table_at changes x id) v q) [ inl then_ ↦ o.owned id to v then_ | inr before ↦ o.owned id x v before ])
      (λ b. o.owned id x v (rw b at e));
}

moved_view : (ns : Id) (t : Option TableView) (v : TableView) → moved_to ns t ≡ Some v → v.namespace ≡ ns
moved_view ns None v e = absurd (let q = e in grind arith)
moved_view ns (Some u) v e = let is : record u { namespace = ns } ≡ v = cc in ap (λ w. w.namespace) (sym is)

-- a clone makes tables in its target, of which the view had none
pub cloned_owned : (n : ℕ) (r : CloneRecord) (changes : List Change) → PairsApart r.tables → ((d : IdPair) (x : ℕ) → In d r.tables → table_at changes x d.target ≡ None) → ViewOwned changes → ViewOwned (clone n r changes)
cloned_owned n r changes apart unmade o = record {
  owned = λ id x v e. by_source r.tables id
      (λ none. ap (λ s. option_or (cond (is_some s) (Some r.target_id) None) (owner_in changes id)) none ∙ o.owned id x v (sym (table_aside n r changes x id none) ∙ e))
      (λ d isin is. subst (λ i. table_at (clone n r changes) x i ≡ Some v → owner_in (clone n r changes) i ≡ Some v.namespace) is (λ there.
      ap (λ s. option_or (cond (is_some s) (Some r.target_id) None) (owner_in changes d.target)) (source_is r.tables d apart isin)
      ∙ either_way (leb n x)
      (λ l. ap Some (sym (moved_view r.target_id (table_at changes r.to d.source) v (sym (table_target n r changes x d apart isin (leb-true n x l)) ∙ there))))
      (λ l. absurd (let q : None ≡ Some v = sym (table_early n r changes x d.target (leb-false n x l) ∙ unmade d x isin) ∙ there in grind arith))) e);
}

pub rows_owned : (items : List Item) (n : ℕ) (table : Id) (changes : List Change) → ViewOwned changes → ViewOwned (rows_made n table items changes)
rows_owned [] n table changes o = o
rows_owned (item ∷ items) n table changes o =
    rows_owned items n table (with n (RowChanged table item.key item.op) changes) (plain_owned n (RowChanged table item.key item.op) changes refl o)

-- A restore leaves the other namespaces

not_both : (ns other : Id) (t : Option TableView) → is_in ns t ≡ true → is_in other t ≡ true → ns ≡ other
not_both ns other None h k = absurd (true≢false (sym h))
not_both ns other (Some v) h k = sym (same_equal v.namespace ns h) ∙ same_equal v.namespace other k

view_in : (ns : Id) (t : Option TableView) → is_in ns t ≡ true → (v : TableView) × ((t ≡ Some v) × (v.namespace ≡ ns))
view_in ns None h = absurd (true≢false (sym h))
view_in ns (Some v) h = (v, (refl, same_equal v.namespace ns h))

other_table : (ns other : Id) (a b : Option TableView) → is_in ns a ≡ false → is_in ns b ≡ false → restored_table ns a b ≡ b
other_table ns other a b h k = rw (h, k) refl

other_row : (ns : Id) (a b : Option TableView) (then_ before : Row) → is_in ns a ≡ false → is_in ns b ≡ false → restored_row ns a b then_ before ≡ before
other_row ns a b then_ before h k = rw (h, k) refl

restored_same : (point : ℕ) (ns : Id) (to : ℕ) (changes : List Change) (other : Id) (t : ℕ) → ViewOwned changes → same ns other ≡ false
    → SameThen (with point (NamespaceRestored ns to) changes) changes other t
restored_same point ns to changes other t o apart = record { name = one_way (leb point t) (namespace_at changes t other); tables = tables; rows = rows }
  where
    unlike : ns ≡ other → ⊥
    unlike e = true≢false (sym (subst (λ k. same ns k ≡ true) e (same_self ns)) ∙ apart)

    -- a table that is in the other namespace at the time is never in this one
    not_then : (id : Id) (x : ℕ) → is_in other (table_at changes t id) ≡ true → is_in ns (table_at changes x id) ≡ false
    not_then id x h = not_passing (is_in ns (table_at changes x id)) (λ k.
        let here = view_in other (table_at changes t id) h in
        let there = view_in ns (table_at changes x id) k in
        let one : Some here.0.namespace ≡ Some there.0.namespace = sym (o.owned id t here.0 here.1.0) ∙ o.owned id x there.0 there.1.0 in
        let same_home : here.0.namespace ≡ there.0.namespace = cc in
        unlike (sym there.1.1 ∙ sym same_home ∙ here.1.1))

    stays : (id : Id) → is_in other (table_at changes t id) ≡ true → table_at (with point (NamespaceRestored ns to) changes) t id ≡ table_at changes t id
    stays id h =
        ap (λ w. cond (leb point t) w (table_at changes t id)) (other_table ns other (table_at changes to id) (table_at changes t id) (not_then id to h) (not_then id t h))
        ∙ one_way (leb point t) (table_at changes t id)

    came : (id : Id) → is_in other (restored_table ns (table_at changes to id) (table_at changes t id)) ≡ true → is_in other (table_at changes t id) ≡ true
    came id h = either_way (is_in ns (table_at changes to id))
        (λ k. absurd (unlike (not_both ns other (table_at changes to id) k (rw k at h))))
        (λ k. either_way (is_in ns (table_at changes t id))
        (λ j. absurd (true≢false (sym (rw (k, j) at h))))
        (λ j. rw (k, j) at h))

    back : (id : Id) → is_in other (table_at (with point (NamespaceRestored ns to) changes) t id) ≡ true → is_in other (table_at changes t id) ≡ true
    back id h = either_way (leb point t) (λ b. came id (rw b at h)) (λ b. rw b at h)

    tables : (id : Id) → (is_in other (table_at (with point (NamespaceRestored ns to) changes) t id) || is_in other (table_at changes t id)) ≡ true
        → table_at (with point (NamespaceRestored ns to) changes) t id ≡ table_at changes t id
    tables id h = stays id (either_is (is_in other (table_at (with point (NamespaceRestored ns to) changes) t id)) (is_in other (table_at changes t id)) h (back id) (λ k. k))

    rows : (id : Id) (key : List ℕ) → is_in other (table_at changes t id) ≡ true
        → row_at (with point (NamespaceRestored ns to) changes) t id key ≡ row_at changes t id key
    rows id key h =
        ap (λ w. cond (leb point t) w (row_at changes t id key))
        (other_row ns (table_at changes to id) (table_at changes t id) (row_at changes to id key) (row_at changes t id key) (not_then id to h) (not_then id t h))
        ∙ one_way (leb point t) (row_at changes t id key)

-- One more change

-- one after all fixed times, and after those that it fixes itself
pub soon_fixed : (n : ℕ) (act : ChangeAct) (changes : List Change) → ((ns : Id) (t : ℕ) → fixes act ns t ≡ true → t < n)
    → ((ns : Id) (t : ℕ) → is_fixed changes ns t ≡ true → t < n) → FixedStays changes → FixedStays (with n act changes)
soon_fixed n act changes soon past stays = record {
  none_late = (stays.none_late, λ ns t fixed of_it. past ns t fixed);
  same = (
    still_more changes changes (with n act changes) stays.same (λ ns t fixed. ahead n act changes ns t (past ns t fixed)),
    λ ns t fixed. ahead n act changes ns t (soon ns t fixed),
  );
}

-- one that neither restores nor clones
pub later_fixed : (n : ℕ) (act : ChangeAct) (changes : List Change) → ((ns : Id) (t : ℕ) → fixes act ns t ≡ false)
    → ((ns : Id) (t : ℕ) → is_fixed changes ns t ≡ true → t < n) → FixedStays changes → FixedStays (with n act changes)
later_fixed n act changes plain past stays = soon_fixed n act changes (λ ns t fixed. absurd (true≢false (sym fixed ∙ plain ns t))) past stays

-- a row, after the fixed times of the namespace in which its table was made
row_same : (n : ℕ) (table : Id) (item : Item) (changes : List Change) (ns : Id) (t : ℕ) → ViewOwned changes → is_owned_by (owner_in changes table) ns ≡ false
    → SameThen (with n (RowChanged table item.key item.op) changes) changes ns t
row_same n table item changes ns t o apart = record {
  name = one_way (leb n t) (namespace_at changes t ns);
  tables = λ id inside. one_way (leb n t) (table_at changes t id);
  rows = λ id key inside.
      let view = view_in ns (table_at changes t id) inside in
      let other : same table id ≡ false = not_passing (same table id) (λ s.
      let owned : is_owned_by (owner_in changes table) ns ≡ true =
      ap (λ k. is_owned_by (owner_in changes k) ns) (same_equal table id s) ∙ ap (λ w. is_owned_by w ns) (o.owned id t view.0 view.1.0)
      ∙ ap (λ k. same k ns) view.1.1 ∙ same_self ns in
      true≢false (sym owned ∙ apart)) in
      ap (λ b. cond (leb n t) (cond ((b && bytes_eq item.key key) && is_some (table_at changes t id)) (applied (row_at changes t id key) item.op) (row_at changes t id key)) (row_at changes t id key)) other
      ∙ one_way (leb n t) (row_at changes t id key);
}

pub rows_fixed : (items : List Item) (n : ℕ) (table : Id) (changes : List Change) → ViewOwned changes
    → ((ns : Id) (t : ℕ) → is_fixed changes ns t ≡ true → is_owned_by (owner_in changes table) ns ≡ true → t < n)
    → FixedStays changes → FixedStays (rows_made n table items changes)
rows_fixed [] n table changes o soon stays = stays
rows_fixed (item ∷ items) n table changes o soon stays =
    let act = RowChanged table item.key item.op in
    rows_fixed items n table (with n act changes) (plain_owned n act changes refl o) soon
    (record {
      none_late = (stays.none_late, soon);
      same = (
        still_more changes changes (with n act changes) stays.same
            (λ ns t fixed. either_way (is_owned_by (owner_in changes table) ns)
            (λ owned. ahead n act changes ns t (soon ns t fixed owned))
            (λ apart. row_same n table item changes ns t o apart)),
        λ ns t fixed. absurd (true≢false (sym fixed)),
      );
    })

-- a restore to a time before its point, which is after the fixed times of its namespace
pub restore_fixed : (point : ℕ) (ns : Id) (to : ℕ) (changes : List Change) → ViewOwned changes → to < point
    → ((other : Id) (t : ℕ) → is_fixed changes other t ≡ true → same ns other ≡ true → t < point)
    → FixedStays changes → FixedStays (with point (NamespaceRestored ns to) changes)
restore_fixed point ns to changes o soon past stays = record {
  none_late = (stays.none_late, past);
  same = (
    still_more changes changes (with point (NamespaceRestored ns to) changes) stays.same
        (λ other t fixed. either_way (same ns other)
        (λ own. ahead point (NamespaceRestored ns to) changes other t (past other t fixed own))
        (λ apart. restored_same point ns to changes other t o apart)),
    λ other t fixed. ahead point (NamespaceRestored ns to) changes other t
        (subst (λ k. k < point) (eqb-true to t (both_pass (same ns other) (eqb to t) fixed).1) soon),
  );
}
