-- A new clone has the next numbers of each kind.
use Rattle.std.proofs.Common.{ℕ, ◌≡◌, ◌≤◌, ◌+◌, List, [], ◌∷◌, ◌++◌, length, map, Option, refl, sym, ap, subst, ◌∙◌, arith, ◌&&◌, le_refl}
use Rattle.std.specs.Prelude.{Ok as Granted}
use Rattle.std.specs.List.{filter}
use Rattle.std.proofs.lemmas.List.{length-map, append-nil, append_assoc}
use Rattle.model.specs.Cluster.{Id, Kind, NamespaceKind as Namespace, TableKind as Table, TabletKind as Tablet, CloneKind as Clone, same, holds_at, Interval, TableRecord, tables_at, CloneRecord, IdPair, TabletPair, Change, CloneNamespace, Master, Parts, BeginsClone}
use Rattle.model.specs.Journal.{Change as Made}
use Rattle.model.specs.Lists.{tablets_active_at}
use Rattle.model.specs.Looks.{free_slots}
use Rattle.model.specs.Changed.{next_clone, next_namespace, pair_tablets, sources, clone_time, clone_begun, new_clone}
use Rattle.model.specs.Changes.{accepts, CloneSource, judge_clone}
use Rattle.model.specs.Drawn.{AreNext, DrawsNext, beyond, drawn_of, drawn_for_clone, new_ids, reserved_by, reserved_in}
use Rattle.law_invariants.specs.Invariant.{Inv}
use Rattle.law_moves.proofs.Backing.{then_is}
use Rattle.law_clones.proofs.Pairing.{tables_then_apart, source_then}
use Rattle.law_clones.proofs.Accepting.{MayClone, tables_of, tablets_of, source_table}
use Rattle.law_clones.proofs.Commanding.{may_clone}
use Rattle.law.proofs.Giving.{accepted_draws, pair_tables_long, order_long}
use Rattle.law.proofs.Numbered.{Numbered, all_numbered, beyond_append, next_beyond, none_new, none_reserved, one_beyond, recorded_none}
use Rattle.law.proofs.Sorted.{order_same, order_chained, by_id_chained, pair_tables_chained, tables_next, tablets_next, by_place, one_way_place, pair_tablets_chained}
use Rattle.law.proofs.TabletKinds.{KindsGood}

pair_tablets_long : (is : List Interval) (slots : List ℕ) (drawn : ℕ) (tables : _) → length is ≤ length slots → length (pair_tablets is slots drawn tables) ≡ length is
pair_tablets_long [] slots drawn tables le = refl
pair_tablets_long (i ∷ is) [] drawn tables le = absurd (omega (arith, le))
pair_tablets_long (i ∷ is) (slot ∷ slots) drawn tables le = let rest = pair_tablets_long is slots (drawn + 1) tables (omega (arith, le)) in omega (arith, rest)

begun_counts : (kind : Kind) (m : Master) (ns : Id) (source target : List ℕ) (to n : ℕ) → length (sources m ns to) ≤ length (free_slots m) → drawn_of kind (clone_begun ns source target to n m).drawn ≡ drawn_of kind m.drawn + drawn_of kind (drawn_for_clone to m ns)
begun_counts Namespace m ns source target to n enough = refl
begun_counts Table m ns source target to n enough = ap (λ k. m.drawn.tables + k) (pair_tables_long (tables_at m.catalog.tables ns to) m.drawn.tables)
begun_counts Tablet m ns source target to n enough =
    ap (λ k. m.drawn.tablets + k) (pair_tablets_long (sources m ns to) (free_slots m) m.drawn.tablets (tables_of m ns to) enough ∙ order_long _ (tablets_active_at m.catalog.owners m.activity ns to))
begun_counts Clone m ns source target to n enough = refl
begun_counts _ m ns source target to n enough = omega arith

-- which it has
abbrev begun_ids : Master → Id → ℕ → Kind → List Id
begun_ids m ns to Namespace = next_namespace m ∷ []
begun_ids m ns to Table = map {A = IdPair} (λ p. p.target) (tables_of m ns to)
begun_ids m ns to Tablet = map {A = TabletPair} (λ p. p.target) (tablets_of m ns to)
begun_ids m ns to Clone = next_clone m ∷ []
begun_ids m ns to _ = []

begun_long : (kind : Kind) (m : Master) (ns : Id) (to : ℕ) → length (sources m ns to) ≤ length (free_slots m) → length (begun_ids m ns to kind) ≡ drawn_of kind (drawn_for_clone to m ns)
begun_long Table m ns to enough = length-map (tables_of m ns to) (λ (p : IdPair). p.target) ∙ pair_tables_long (tables_at m.catalog.tables ns to) m.drawn.tables
begun_long Tablet m ns to enough =
    length-map (tablets_of m ns to) (λ (p : TabletPair). p.target) ∙ pair_tablets_long (sources m ns to) (free_slots m) m.drawn.tablets (tables_of m ns to) enough ∙ order_long _ (tablets_active_at m.catalog.owners m.activity ns to)
begun_long _ m ns to enough = refl

begun_turn : (kind : Kind) (m : Master) (ns : Id) (to : ℕ) → AreNext kind (drawn_of kind m.drawn) (begun_ids m ns to kind)
begun_turn Namespace m ns to = (refl, tt)
begun_turn Table m ns to = tables_next (tables_at m.catalog.tables ns to) m.drawn.tables
begun_turn Tablet m ns to = tablets_next (sources m ns to) (free_slots m) m.drawn.tablets (tables_of m ns to)
begun_turn Clone m ns to = (refl, tt)
begun_turn _ m ns to = tt

-- its tables and tablets stand in order
begun_reserved : (kind : Kind) (ps : Parts) (activity : List Interval) (changes : List Made) (ns : Id) (least : ℕ) (source target : List ℕ) (to n : ℕ) → ps.master.clock ≤ n → MayClone ps.master ns least target to n → KindsGood ps.master → Inv ps activity changes
    → (kind ≡ Clone → ⊥) → reserved_in kind (new_clone ns source target to ps.master) ≡ begun_ids ps.master ns to kind
begun_reserved Table ps activity changes ns least source target to n le may kinds inv apart =
    let m = ps.master in
    let then_ = filter (λ (r : TableRecord). holds_at to r.from r.to && same r.namespace ns) m.catalog.tables in
    ap (map {A = IdPair} (λ p. p.target)) (order_same _ (tables_of m ns to) (pair_tables_chained (tables_at m.catalog.tables ns to) m.drawn.tables (by_id_chained then_)))
begun_reserved Tablet ps activity changes ns least source target to n le may kinds inv apart =
    let m = ps.master in
    let ts = tables_at m.catalog.tables ns to in
    let then_ = filter (λ (r : TableRecord). holds_at to r.from r.to && same r.namespace ns) m.catalog.tables in
    ap (map {A = TabletPair} (λ p. p.target)) (order_same _ (tablets_of m ns to)
    (pair_tablets_chained (sources m ns to) (free_slots m) m.drawn.tablets m.drawn.tables ts (by_id_chained then_) (tables_then_apart m.catalog.tables ns to inv.master.tables.rise)
    (λ t isin. kinds.made t (then_is m.catalog.tables ns to t isin).0)
    (λ i isin. let t = source_table ps activity changes ns least target to n i le may inv (source_then m ns to i isin) in (t.0, (t.1.0, t.1.1)))
    (order_chained by_place one_way_place (tablets_active_at m.catalog.owners m.activity ns to))))
begun_reserved Clone ps activity changes ns least source target to n le may kinds inv apart = absurd (apart refl)
begun_reserved _ ps activity changes ns least source target to n le may kinds inv apart = refl

reserved_append : (cs ds : List CloneRecord) (kind : Kind) → reserved_by (cs ++ ds) kind ≡ reserved_by cs kind ++ reserved_by ds kind
reserved_append [] ds kind = refl
reserved_append (c ∷ cs) ds kind = ap (λ ids. reserved_in kind c ++ ids) (reserved_append cs ds kind) ∙ sym (append_assoc (reserved_in kind c) (reserved_by cs kind) (reserved_by ds kind))

-- so these are new
begun_new : (kind : Kind) (ps : Parts) (activity : List Interval) (changes : List Made) (ns : Id) (least : ℕ) (source target : List ℕ) (to n : ℕ) → ps.master.clock ≤ n → MayClone ps.master ns least target to n → KindsGood ps.master → Inv ps activity changes
    → (kind ≡ Clone → ⊥) → beyond (drawn_of kind ps.master.drawn) (reserved_by (ps.master.clones ++ new_clone ns source target to ps.master ∷ []) kind) ≡ begun_ids ps.master ns to kind
begun_new kind ps activity changes ns least source target to n le may kinds inv apart =
    let m = ps.master in
    let drawn = drawn_of kind m.drawn in
    let new = new_clone ns source target to m in
    ap (beyond drawn) (reserved_append m.clones (new ∷ []) kind)
    ∙ beyond_append (reserved_by m.clones kind) (reserved_in kind new ++ []) drawn
    ∙ ap (λ ids. ids ++ beyond drawn (reserved_in kind new ++ [])) (none_reserved kind m (all_numbered ps activity changes inv))
    ∙ ap (beyond drawn) (append-nil (reserved_in kind new) ∙ begun_reserved kind ps activity changes ns least source target to n le may kinds inv apart)
    ∙ next_beyond (begun_ids m ns to kind) kind drawn drawn (le_refl drawn) (begun_turn kind m ns to)

begun_given : (kind : Kind) (ps : Parts) (activity : List Interval) (changes : List Made) (ns : Id) (least : ℕ) (source target : List ℕ) (to n : ℕ) → ps.master.clock ≤ n → MayClone ps.master ns least target to n → KindsGood ps.master → Inv ps activity changes
    → Numbered (clone_begun ns source target to n ps.master) → new_ids ps.master (clone_begun ns source target to n ps.master) kind ≡ begun_ids ps.master ns to kind
begun_given Namespace ps activity changes ns least source target to n le may kinds inv after =
    let h = all_numbered ps activity changes inv in
    ap (λ ids. ids ++ beyond ps.master.drawn.namespaces (reserved_by (ps.master.clones ++ new_clone ns source target to ps.master ∷ []) Namespace)) (recorded_none Namespace ps.master h)
    ∙ begun_new Namespace ps activity changes ns least source target to n le may kinds inv (λ q. let e = q in grind arith)
begun_given Table ps activity changes ns least source target to n le may kinds inv after =
    let h = all_numbered ps activity changes inv in
    ap (λ ids. ids ++ beyond ps.master.drawn.tables (reserved_by (ps.master.clones ++ new_clone ns source target to ps.master ∷ []) Table)) (recorded_none Table ps.master h)
    ∙ begun_new Table ps activity changes ns least source target to n le may kinds inv (λ q. let e = q in grind arith)
begun_given Tablet ps activity changes ns least source target to n le may kinds inv after =
    let h = all_numbered ps activity changes inv in
    ap (λ ids. ids ++ beyond ps.master.drawn.tablets (reserved_by (ps.master.clones ++ new_clone ns source target to ps.master ∷ []) Tablet)) (recorded_none Tablet ps.master h)
    ∙ begun_new Tablet ps activity changes ns least source target to n le may kinds inv (λ q. let e = q in grind arith)
begun_given Clone ps activity changes ns least source target to n le may kinds inv after =
    let m = ps.master in
    let h = all_numbered ps activity changes inv in
    let new = new_clone ns source target to m in
    ap (λ ids. beyond m.drawn.clones (map {A = CloneRecord} (λ c. c.id) (m.clones ++ new ∷ [])) ++ ids) (none_made (m.clones ++ new ∷ []) m.drawn.clones)
    ∙ append-nil _ ∙ one_beyond {A = CloneRecord} (λ c. c.id) m.clones new m.drawn.clones h.clones (omega arith)
  where
    none_made : (cs : List CloneRecord) (drawn : ℕ) → beyond drawn (reserved_by cs Clone) ≡ []
    none_made [] drawn = refl
    none_made (c ∷ cs) drawn = none_made cs drawn
begun_given kind ps activity changes ns least source target to n le may kinds inv after = none_new kind ps.master _ after refl

-- an accepted command of a clone draws the next of each kind
pub begun_next : (ps : Parts) (activity : List Interval) (changes : List Made) (source target : List ℕ) (at : Option ℕ) (slots : List ℕ) (n : ℕ) (s : CloneSource) → ps.master.clock ≤ n → KindsGood ps.master → Inv ps activity changes
    → judge_clone source target (clone_time at n) n ps.master ≡ Granted s → Numbered (clone_begun s.namespace source target (clone_time at n) n ps.master)
    → DrawsNext (Change (CloneNamespace source target at) slots) (accepts (BeginsClone s.namespace source target (clone_time at n)) [] (next_clone ps.master ∷ [])).reply n ps.master (clone_begun s.namespace source target (clone_time at n) n ps.master)
begun_next ps activity changes source target at slots n s le kinds inv e after =
    let m = ps.master in
    let to = clone_time at n in
    let may = may_clone ps activity changes source target to n s inv e in
    let drawn = accepted_draws ps activity changes source target at n s inv e in
    let given : (kind : Kind) → new_ids m (clone_begun s.namespace source target to n m) kind ≡ begun_ids m s.namespace to kind
    = λ kind. begun_given kind ps activity changes s.namespace _ source target to n le may.1 kinds inv after in
    record {
      count = λ kind. subst (λ d. drawn_of kind (clone_begun s.namespace source target to n m).drawn ≡ drawn_of kind m.drawn + drawn_of kind d) (sym drawn) (begun_counts kind m s.namespace source target to n may.1.enough);
      given = λ kind. ap length (given kind) ∙ begun_long kind m s.namespace to may.1.enough ∙ sym (ap (drawn_of kind) drawn);
      next = λ kind. subst (AreNext kind (drawn_of kind m.drawn)) (sym (given kind)) (begun_turn kind m s.namespace to);
      named = sym (given Clone);
    }
