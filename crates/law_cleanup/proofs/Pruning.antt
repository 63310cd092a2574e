-- The catalog's old records go, and the marks of how far it is kept rise as far.
use Rattle.model.specs.Right.{is_fixed}
use Rattle.std.proofs.Common.{ℕ, ◌≡◌, ◌≤◌, ◌-◌, List, [], ◌∷◌, map, Option, Some, None, Bool, true, false, cond, ◌||◌, inl, inr, refl, sym, ap, subst, ◌∙◌, arith, not, min, le_trans, le_refl, le_of_lt}
use Rattle.std.specs.Option.{option_map, is_some}
use Rattle.std.specs.List.{filter, find}
use Rattle.std.specs.Str.{bytes_eq}
use Rattle.std.proofs.lemmas.Bool.{cond_both, true≢false}
use Rattle.model.specs.Cluster.{Id, same, In, is_open, holds_at, ended_by, Catalog, NamespaceRecord, TableRecord, KeptFrom, namespace_named, name_of, owner_of, kept_from, Interval, Master, Parts, Prune}
use Rattle.model.specs.Restored.{record_at}
use Rattle.model.specs.Schedules.{history_retention}
use Rattle.model.specs.Journal.{Change as Made, table_at, row_at}
use Rattle.model.specs.Cleanup.{floor_of, prune_to, is_old_namespace, is_old_table, raised_mark, prune, pruned}
use Rattle.model.specs.Entries.{slots_of}
use Rattle.model.specs.History.{outcome}
use Rattle.law_store.proofs.Keys.{either_way}
use Rattle.law_invariants.specs.Operations.{OperationsGood}
use Rattle.law_invariants.specs.Invariant.{NamespacesStand, RecordsRise, TablesStand, view_of, is_marked, MasterGood, SlotGood, SlotWorks, Inv, Later}
use Rattle.law_invariants.proofs.Working.{same_fixed, SameFixed}
use Rattle.law_invariants.proofs.Finding.{filter_in, both_pass, not_passing, same_equal}
use Rattle.law_invariants.proofs.Ticking.{KeepsAll, past_later, not_true, tablet_before}
use Rattle.law_invariants.proofs.Names.{has_name, is_namespace, id_of, title_of, named_found, name_found}
use Rattle.law_invariants.proofs.Records.{is_named_at, is_table_at, table_named_found, record_at_found}
use Rattle.law_invariants.proofs.Remembering.{remembered_on, ended_later}
use Rattle.law_invariants.proofs.Hearing.{clocks_rise}
use Rattle.law_invariants.proofs.Undoing.{same_rows}
use Rattle.law_invariants.proofs.Told.{slots_hear, master_early}
use Rattle.law_invariants.proofs.Quiet.{Follows, slot_follows, master_follows, quiet_works, KeepsCatalog, same_names, same_drawn, marks_stay}
use Rattle.law_invariants.proofs.Cataloguing.{CatalogStands}
use Rattle.law_invariants.proofs.Unneeded.{raised_rises, raised_within, raised_to, prune_floor, not_holding, has_table}

-- Lists

-- what is kept of a list
abbrev pub kept_by : {A : Type 0} → (A → Bool) → List A → List A
kept_by old xs = filter (λ x. not (old x)) xs

-- the first that passes is found among those that are kept, where it is kept
find_kept : {A : Type 0} (test old : A → Bool) (xs : List A) (a : A) → find test xs ≡ Some a → old a ≡ false → find test (kept_by old xs) ≡ Some a
find_kept test old [] a e stays = e
find_kept test old (x ∷ xs) a e stays = either_way (test x)
    (λ t. let first : Some x ≡ Some a = rw t at e in let is : x ≡ a = cc in
    let young : old x ≡ false = ap old is ∙ stays in rw young (rw t first))
    (λ f. let rest : find test xs ≡ Some a = rw f at e in let found = find_kept test old xs a rest stays in
    cond_both (not (old x)) (x ∷ kept_by old xs) (kept_by old xs) (λ ys. find test ys ≡ Some a) (λ k. rw f found) (λ k. found))

-- and where each that passes is kept, the same is found
find_same : {A : Type 0} (test old : A → Bool) (xs : List A) → ((a : A) → In a xs → test a ≡ true → old a ≡ false) → find test (kept_by old xs) ≡ find test xs
find_same test old [] stays = refl
find_same test old (x ∷ xs) stays = let rest = find_same test old xs (λ a isin. stays a (inr isin)) in either_way (test x)
    (λ t. let young = stays x (inl refl) t in rw young (rw t refl))
    (λ f. cond_both (not (old x)) (x ∷ kept_by old xs) (kept_by old xs) (λ ys. find test ys ≡ cond (test x) (Some x) (find test xs))
    (λ k. ap (cond (test x) (Some x)) rest)
    (λ k. rest ∙ sym (ap (λ b. cond b (Some x) (find test xs)) f)))

-- Marks

raised_marked : (ks : List KeptFrom) (m : Master) (n : ℕ) (ns : Id) → is_marked (map (raised_mark m n) ks) ns ≡ is_marked ks ns
raised_marked [] m n ns = refl
raised_marked (k ∷ ks) m n ns = ap (λ b. same k.namespace ns || b) (raised_marked ks m n ns)

prune_stamp : (m : Master) (n : ℕ) (ns : Id) → prune_to m ns n ≤ n
prune_stamp m n ns = least (floor_of m ns n) (n - history_retention) n (omega arith)
  where
    least : (a b c : ℕ) → b ≤ c → min a b ≤ c
    least a b c le = omega (arith, le)

-- Namespaces

open_young : (x : ℕ) (to : Option ℕ) → is_open to ≡ true → ended_by x to ≡ false
open_young x None e = refl
open_young x (Some to) e = absurd (true≢false (sym e))

names_pruned : (m : Master) (rs : List NamespaceRecord) (n drawn : ℕ) (changes : List Made) → m.clock ≤ n → NamespacesStand rs m.clock drawn changes → NamespacesStand (kept_by (is_old_namespace m n) rs) n drawn changes
names_pruned m rs n drawn changes le h =
    let old = is_old_namespace m n in
    let was : (r : NamespaceRecord) → In r (kept_by old rs) → In r rs = λ r isin. (filter_in rs (λ q. not (old q)) r isin).0 in
    let same_names : (name : List ℕ) → namespace_named (kept_by old rs) name ≡ namespace_named rs name = λ name.
    named_found (kept_by old rs) name ∙ ap id_of (find_same (has_name name) old rs (λ r isin t. open_young (prune_to m r.id n) r.to (both_pass (is_open r.to) (bytes_eq r.name name) t).0)) ∙ sym (named_found rs name) in
    let same_titles : (id : Id) → name_of (kept_by old rs) id ≡ name_of rs id = λ id.
    name_found (kept_by old rs) id ∙ ap title_of (find_same (is_namespace id) old rs (λ r isin t. open_young (prune_to m r.id n) r.to (both_pass (is_open r.to) (same r.id id) t).0)) ∙ sym (name_found rs id) in
    record {
      past = λ r isin. past_later r.from m.clock n r.to le (h.past r (was r isin));
      drawn_before = λ r isin. h.drawn_before r (was r isin);
      unique = λ r isin opened. same_names r.name ∙ h.unique r (was r isin) opened;
      found = λ r isin opened. same_titles r.id ∙ h.found r (was r isin) opened;
      viewed = λ id x after. h.viewed id x (le_trans le after) ∙ sym (same_titles id);
    }

-- Tables

rise_kept : (old : TableRecord → Bool) (rs : List TableRecord) → RecordsRise rs → RecordsRise (kept_by old rs)
rise_kept old [] h = tt
rise_kept old (r ∷ rs) h = cond_both (not (old r)) (r ∷ kept_by old rs) (kept_by old rs) RecordsRise
    (λ k. (λ q isin. h.0 q (filter_in rs (λ p. not (old p)) q isin).0, rise_kept old rs h.1))
    (λ k. rise_kept old rs h.1)

-- where marks rise past what goes
tables_pruned : (c : Catalog) (old : TableRecord → Bool) (names : List NamespaceRecord) (ks : List KeptFrom) (time n drawn : ℕ) (changes : List Made) → time ≤ n → ((ns : Id) → kept_from c.kept_from ns ≤ kept_from ks ns)
    → ((ns : Id) → kept_from ks ns ≤ n) → ((r : TableRecord) → In r c.tables → old r ≡ true → ended_by (kept_from ks r.namespace) r.to ≡ true) → TablesStand c time drawn changes
    → TablesStand (record c { namespaces = names; tables = kept_by old c.tables; kept_from = ks }) n drawn changes
tables_pruned c old names ks time n drawn changes le rises within gone h =
    let was : (r : TableRecord) → In r (kept_by old c.tables) → In r c.tables × (old r ≡ false) = λ r isin. (let f = filter_in c.tables (λ q. not (old q)) r isin in (f.0, not_true (old r) f.1)) in
    record {
      past = λ r isin. past_later r.from time n r.to le (h.past r (was r isin).0);
      drawn_before = λ r isin. h.drawn_before r (was r isin).0;
      owned = λ r isin. h.owned r (was r isin).0;
      owners_drawn = h.owners_drawn;
      unique = λ x r isin holds_. (let w = was r isin in
          table_named_found (kept_by old c.tables) r.namespace r.name x ∙ find_kept (is_named_at r.namespace r.name x) old c.tables r (sym (table_named_found c.tables r.namespace r.name x) ∙ h.unique x r w.0 holds_) w.1);
      found = λ x r isin holds_. (let w = was r isin in
          record_at_found (kept_by old c.tables) r.id x ∙ find_kept (is_table_at r.id x) old c.tables r (sym (record_at_found c.tables r.id x) ∙ h.found x r w.0 holds_) w.1);
      columns = λ r isin. h.columns r (was r isin).0;
      rise = rise_kept old c.tables h.rise;
      viewed = λ id ns x owner late. (
          let stays : record_at (kept_by old c.tables) id x ≡ record_at c.tables id x = record_at_found (kept_by old c.tables) id x
          ∙ find_same (is_table_at id x) old c.tables (λ r isin t. not_passing (old r) (λ goes.
          let both = both_pass (holds_at x r.from r.to) (same r.id id) t in
          let q : Some r.namespace ≡ Some ns = sym (h.owned r isin) ∙ ap (owner_of c.owners) (same_equal r.id id both.1) ∙ owner in
          let is : r.namespace ≡ ns = cc in
          not_holding x (kept_from ks r.namespace) r.from r.to (subst (λ k. kept_from ks k ≤ x) (sym is) late) (gone r isin goes) both.0))
          ∙ sym (record_at_found c.tables id x) in
          h.viewed id ns x owner (le_trans (rises ns) late) ∙ ap (λ r. option_map view_of r) (sym stays));
      unmade = h.unmade;
      inside = h.inside;
      kept = within;
    }

-- The act

catalog_pruned : (m : Master) (n : ℕ) (changes : List Made) → m.clock ≤ n → MasterGood m changes → CatalogStands (pruned n m) changes
catalog_pruned m n changes le h =
    let ks = map (raised_mark m n) m.catalog.kept_from in
    let within : (ns : Id) → kept_from ks ns ≤ n = λ ns. raised_within m.catalog.kept_from m n ns n (le_trans (h.tables.kept ns) le) (prune_stamp m n ns) in
    record {
      namespaces = names_pruned m m.catalog.namespaces n m.drawn.namespaces changes le h.namespaces;
      tables = tables_pruned m.catalog (is_old_table m n) _ ks m.clock n m.drawn.tables changes le (raised_rises m.catalog.kept_from m n) within
          (λ r isin goes. ended_later r.to (prune_to m r.namespace n) (kept_from ks r.namespace) (raised_to m.catalog.kept_from m n r.namespace (h.marks.tables r isin) (has_table m r isin)) goes) h.tables;
      marks = record {
        namespaces = λ r isin. raised_marked m.catalog.kept_from m n r.id ∙ h.marks.namespaces r (filter_in m.catalog.namespaces (λ q. not (is_old_namespace m n q)) r isin).0;
        tables = λ r isin. raised_marked m.catalog.kept_from m n r.namespace ∙ h.marks.tables r (filter_in m.catalog.tables (λ q. not (is_old_table m n q)) r isin).0;
      };
    }

prune_follows : (m : Master) (n : ℕ) (changes : List Made) → m.clock ≤ n → Follows m (pruned n m) changes changes
prune_follows m n changes le =
    let clock : m.clock ≤ n = le in
    let tables : (x : ℕ) (table : Id) → is_some (table_at changes x table) ≡ is_some (table_at changes x table) = λ x table. refl in
    let rows : (x : ℕ) (table : Id) (key : List ℕ) → row_at changes x table key ≡ row_at changes x table key = λ x table key. refl in
    let fixed : (ns : Id) (to : ℕ) → is_fixed changes ns to ≡ is_fixed changes ns to = λ ns to. refl in
    let same_ : SameFixed changes changes = same_fixed changes in
    assumption (clock, tables, rows, fixed, same_)

prune_catalog : (m : Master) (n : ℕ) (changes : List Made) → m.clock ≤ n → OperationsGood m changes → KeepsCatalog m n (pruned n m).catalog m.drawn
prune_catalog m n changes le ops = record {
  tables_held = λ ns r isin of held. (filter_in m.catalog.tables (λ q. not (is_old_table m n q)) r isin).0;
  names = λ r isin. same_names m r (filter_in m.catalog.namespaces (λ q. not (is_old_namespace m n q)) r isin).0;
  kept = λ ns. raised_within m.catalog.kept_from m n ns (floor_of m ns n) (marks_stay m n m.catalog m.activity m.drawn changes ns le ops) (prune_floor m n ns);
}

pub prune_keeps : (ps : Parts) (activity : List Interval) (changes : List Made) (n : ℕ) → Later (slots_of Prune) ps n → Inv ps activity changes → KeepsAll Prune n ps activity changes (outcome Prune n ps)
unfolding prune
prune_keeps ps activity changes n later inv =
    let m = ps.master in
    let le : m.clock ≤ n = le_of_lt (master_early [] ps n later) in
    let o = prune n ps in
    let k = pruned n m in
    let f = prune_follows m n changes le in
    let w = quiet_works ps activity changes changes n k.catalog m.drawn inv le (same_drawn m.drawn) refl f.quiet (λ ns point is. is) (λ ns point is. refl) (same_rows changes) (prune_catalog m n changes le inv.operations) in
    record {
      master = master_follows m k changes changes f (catalog_pruned m n changes le inv.master) inv.master;
      remembered = remembered_on m k activity (record { clock = le; schedules = refl; restorations = refl; clones = refl }) refl refl (le_refl _) (le_refl _) inv.remembered;
      cover = inv.cover;
      operations = w.operations;
      journal = w.journal;
      rows_past = w.rows ps.tablet _ (clocks_rise Prune o n ps (λ slot e. tablet_before (0 ∷ []) ps n slot later e)) inv.rows_past;
      works = slots_hear (SlotWorks k changes) Prune [] o n ps refl (λ i is. absurd (true≢false (sym is))) (λ i aside. w.works i (ps.tablet i) (inv.works i));
      slots = slots_hear (SlotGood k changes) Prune [] o n ps refl (λ i is. absurd (true≢false (sym is))) (λ i aside. slot_follows m k changes changes i (ps.tablet i) f (inv.slots i));
    }
