-- How many identifiers a clone draws: no more tables than tablets, and no more of these than there are slots.
use Rattle.std.proofs.Common.{Bool, false, sym, ap, ◌∙◌, refl, ◌≡◌, ℕ, ◌≤◌, ◌+◌, not, List, [], ◌∷◌, length, Option, inl, inr, arith, le_refl}
use Rattle.std.specs.Prelude.{Ok as Granted}
use Rattle.std.specs.List.{filter}
use Rattle.std.specs.Option.{option_map_or}
use Rattle.std.proofs.lemmas.Bool.{cond_both}
use Rattle.model.specs.Cluster.{Id, Kind, NamespaceKind as Namespace, TableKind as Table, TabletKind as Tablet, ScheduleKind as Schedule, Snapshot, RestorationKind as Restoration, CloneKind as Clone, same, Interval, TableRecord, tables_at, IdPair, TabletPair, CloneNamespace, none_drawn, Drawn, Master, Parts, Outcome}
use Rattle.row_values.specs.Elements.{In, put_in, in_order}
use Rattle.model.specs.Journal.{Change as Made}
use Rattle.model.specs.Lists.{tablets_active_at}
use Rattle.model.specs.Looks.{free_slots}
use Rattle.model.specs.Changed.{pair_tables, pair_tablets, sources, clone_time}
use Rattle.model.specs.Changes.{CloneSource, judge_clone}
use Rattle.model.specs.Drawn.{drawn_of, most_slots, drawn_for, drawn_for_clone, drawn_making, ids_made}
use Rattle.law_invariants.specs.Operations.{PairsApart}
use Rattle.law_invariants.specs.Invariant.{Inv}
use Rattle.law_invariants.proofs.Finding.{in_filter, same_self, not_same}
use Rattle.law_invariants.proofs.Free.{RiseFrom}
use Rattle.law_clones.proofs.Pairing.{tables_then_apart, tables_pair_apart, all_free}
use Rattle.law_clones.proofs.Accepting.{MayClone, tables_of, tablets_of, covers_it}
use Rattle.law_clones.proofs.Growing.{taker_there}
use Rattle.law_clones.proofs.Commanding.{may_clone}

-- so few of each kind
pub few : (d : Drawn) → d.namespaces ≤ most_slots → d.tables ≤ most_slots → d.tablets ≤ most_slots → d.schedules ≤ most_slots → d.snapshots ≤ most_slots → d.restorations ≤ most_slots → d.clones ≤ most_slots
    → (kind : Kind) → drawn_of kind d ≤ most_slots
few d a b c e f g h Namespace = a
few d a b c e f g h Table = b
few d a b c e f g h Tablet = c
few d a b c e f g h Schedule = e
few d a b c e f g h Snapshot = f
few d a b c e f g h Restoration = g
few d a b c e f g h Clone = h

pub none_few : (kind : Kind) → drawn_of kind none_drawn ≤ most_slots
none_few = few none_drawn (omega arith) (omega arith) (omega arith) (omega arith) (omega arith) (omega arith) (omega arith)

-- Lengths

fewer_left : (test : TabletPair → Bool) (ps : List TabletPair) → length (filter test ps) ≤ length ps
fewer_left test [] = le_refl 0
fewer_left test (p ∷ ps) = let rest = fewer_left test ps in cond_both (test p) (p ∷ filter test ps) (filter test ps) (λ qs. length qs ≤ length (p ∷ ps)) (λ _. omega arith) (λ _. omega arith)

one_left_out : (test : TabletPair → Bool) (ps : List TabletPair) (p : TabletPair) → In p ps → test p ≡ false → length (filter test ps) + 1 ≤ length ps
one_left_out test [] p isin e = absurd isin
one_left_out test (q ∷ ps) p (inl is) e =
    let rest = fewer_left test ps in
    let b : test q ≡ false = ap test is ∙ e in rw b (omega arith)
one_left_out test (q ∷ ps) p (inr isin) e = let rest = one_left_out test ps p isin e in cond_both (test q) (q ∷ filter test ps) (filter test ps) (λ qs. length qs + 1 ≤ length (q ∷ ps)) (λ _. omega arith) (λ _. omega arith)

-- where each table has a tablet of its own there are no more tables than tablets
pairs_fit : (ds : List IdPair) (ps : List TabletPair) → PairsApart ds → ((d : IdPair) → In d ds → (p : TabletPair) × (In p ps × (p.table ≡ d.target))) → length ds ≤ length ps
pairs_fit [] ps apart has_one = omega arith
pairs_fit (d ∷ ds) ps apart has_one =
    let own = has_one d (inl refl) in
    let other : TabletPair → Bool = λ p. not (same p.table d.target) in
    let less = one_left_out other ps own.0 own.1.0 (ap not (ap (λ t. same t d.target) own.1.1 ∙ same_self d.target)) in
    let rest = pairs_fit ds (filter other ps) apart.1 (λ e isin.
    let k = has_one e (inr isin) in
    (k.0, (in_filter ps other k.0 k.1.0 (ap not (not_same k.0.table d.target (λ z. (apart.0 e isin).1 (sym z ∙ k.1.1)))), k.1.1))) in
    omega arith

pub pair_tables_long : (ts : List TableRecord) (drawn : ℕ) → length (pair_tables ts drawn) ≡ length ts
pair_tables_long [] drawn = refl
pair_tables_long (t ∷ ts) drawn = let rest = pair_tables_long ts (drawn + 1) in omega (arith, rest)

pair_tablets_few : (is : List Interval) (slots : List ℕ) (drawn : ℕ) (tables : List IdPair) → length (pair_tablets is slots drawn tables) ≤ length is
pair_tablets_few [] slots drawn tables = omega arith
pair_tablets_few (i ∷ is) [] drawn tables = omega arith
pair_tablets_few (i ∷ is) (slot ∷ slots) drawn tables = let rest = pair_tablets_few is slots (drawn + 1) tables in omega arith

put_long : {A : Type 0} (before : A → A → Bool) (x : A) (xs : List A) → length (put_in before x xs) ≡ length xs + 1
put_long before x [] = refl
put_long before x (y ∷ ys) = let rest = put_long before x ys in cond_both (before y x) (y ∷ put_in before x ys) (x ∷ y ∷ ys) (λ zs. length zs ≡ length (y ∷ ys) + 1) (λ _. omega arith) (λ _. omega arith)

pub order_long : {A : Type 0} (before : A → A → Bool) (xs : List A) → length (in_order before xs) ≡ length xs
order_long before [] = refl
order_long before (x ∷ xs) = let rest = order_long before xs in let put = put_long before x (in_order before xs) in omega arith

rise_long : (ss : List ℕ) (low top : ℕ) → RiseFrom low ss → low ≤ top + 1 → ((s : ℕ) → In s ss → s ≤ top) → length ss + low ≤ top + 1
rise_long [] low top rise le by = omega arith
rise_long (s ∷ ss) low top rise le by =
    let own : s ≤ top = by s (inl refl) in
    let first : low ≤ s = rise.0 in
    let rest = rise_long ss (s + 1) top rise.1 (omega arith) (λ k isin. by k (inr isin)) in omega arith

-- a clone draws no more tables than tablets, and no more of these than there are slots
pub clone_few : (ps : Parts) (activity : List Interval) (changes : List Made) (ns : Id) (least : ℕ) (target : List ℕ) (to n : ℕ) → ps.master.clock ≤ n → ps.master.slots ≤ most_slots → MayClone ps.master ns least target to n → Inv ps activity changes
    → (kind : Kind) → drawn_of kind (drawn_for_clone to ps.master ns) ≤ most_slots
clone_few ps activity changes ns least target to n le most may inv =
    let m = ps.master in
    let ds = tables_of m ns to in
    let pairs = tablets_of m ns to in
    let free = all_free m in
    let slots : length (free_slots m) ≤ m.slots = (let l = rise_long (free_slots m) 1 m.slots free.rise (omega arith) free.to in omega arith) in
    let tablets : length (tablets_active_at m.catalog.owners m.activity ns to) ≡ length (sources m ns to) = sym (order_long _ (tablets_active_at m.catalog.owners m.activity ns to)) in
    let enough = may.enough in
    let few_pairs = pair_tablets_few (sources m ns to) (free_slots m) m.drawn.tablets ds in
    let apart = tables_pair_apart (tables_at m.catalog.tables ns to) m.drawn.tables (tables_then_apart m.catalog.tables ns to inv.master.tables.rise) in
    let fit = pairs_fit ds pairs apart (λ d isin.
    let one = covers_it ps activity changes ns least target to n d 0 le may inv isin (omega arith) in taker_there pairs d.target 0 (omega (arith, one))) in
    let long : length ds ≡ length (tables_at m.catalog.tables ns to) = pair_tables_long (tables_at m.catalog.tables ns to) m.drawn.tables in
    few (drawn_for_clone to m ns) (omega arith) (omega arith) (omega arith) (omega arith) (omega arith) (omega arith) (omega arith)

-- what a clone's command draws at a stamp, by its outcome
abbrev pub CloneDraws : List ℕ → List ℕ → Option ℕ → ℕ → Master → Outcome → Drawn
CloneDraws source target at n m o = drawn_making (ids_made o.reply) (CloneNamespace source target at) n m

-- where it is accepted
pub accepted_draws : (ps : Parts) (activity : List Interval) (changes : List Made) (source target : List ℕ) (at : Option ℕ) (n : ℕ) (s : CloneSource) → Inv ps activity changes → judge_clone source target (clone_time at n) n ps.master ≡ Granted s
    → drawn_for (CloneNamespace source target at) n ps.master ≡ drawn_for_clone (clone_time at n) ps.master s.namespace
accepted_draws ps activity changes source target at n s inv e =
    ap (λ o. option_map_or (drawn_for_clone (clone_time at n) ps.master) o none_drawn) (may_clone ps activity changes source target (clone_time at n) n s inv e).0
