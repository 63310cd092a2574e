-- The records of operations after the switch.
use Rattle.std.proofs.Common.{ℕ, ◌≡◌, ◌≤◌, ◌<◌, ◌+◌, List, map, Option, Some, None, Bool, true, false, cond, inl, inr, refl, sym, ap, subst, ◌∙◌, arith, not, leb, leb-true, le-leb, le_trans, le_refl, le_of_lt, lt_of_lt_of_le, ◌⊎◌}
use Rattle.std.proofs.lemmas.Bool.{true≢false}
use Rattle.std.proofs.lemmas.Bool.Decides.{nat_tests}
use Rattle.model.specs.Cluster.{Id, same, In, ended, ended_by, before_end, Interval, active_at, active_within, TableRecord, owner_of, owns, RestoreFrom, Hide, Listed, SnapshotRecord, RestorationRecord, Restoring, CloneRecord, Master, Parts}
use Rattle.model.specs.Restored.{begun_at, restored_tables, version_of}
use Rattle.model.specs.Journal.{Change}
use Rattle.model.specs.Cleanup.{floor_of}
use Rattle.law_store.proofs.Keys.{either_way}
use Rattle.law_invariants.specs.Operations.{grounds, Uses, IsKnown, IsListed, SnapshotGood, IsAfterSwitch, IsComing, RestorationGood, CloneGood, OperationsGood}
use Rattle.law_invariants.proofs.Finding.{in_mapped, map_in, filter_in, same_equal, both_pass, passes_both}
use Rattle.law_invariants.proofs.Ticking.{not_true}
use Rattle.law_invariants.proofs.Staying.{schedule_on, scheduled_on}
use Rattle.law_invariants.proofs.Listing.{one_place}
use Rattle.law_moves.proofs.Entering.{entering, entering_other, enters, by_record, going_floors, entered_apart}
use Rattle.law_moves.proofs.Counting.{ended_in}
use Rattle.law_moves.proofs.Backing.{over_other, new_is}
use Rattle.law_moves.proofs.Switching.{IsSwitch, listed_then, turned, after, back, unfinished_yet, good_yet, other_namespace, not_mine, is_mine, interval_is, ended_there, begun_there, ended_mine, origin, other_was, other_stays, IsLine, line_is, line_restores, line_then, line_of_then, activity_then}
use Rattle.law_moves.proofs.Turned.{fixed_is, switched_on, switched_now}
use Rattle.law_invariants.proofs.Recording.{same_on}
use Rattle.law_invariants.proofs.Going.{GroundsGo, NamespaceGoes, LinesGo, restoration_goes, clone_goes}
use Rattle.model.specs.Drawn.{drawn_of}

-- a known tablet stays known
known_turned : (m : Master) (r : RestorationRecord) (point : ℕ) (serving_ : Id) (n : ℕ) (l : Listed) → IsKnown m l → IsKnown (turned m r point serving_ n) l
known_turned m r point serving_ n l h = record { interval = ended_in m.catalog.owners r.namespace point h.interval; kept = ended_there m r point h.interval h.kept; tablet_is = h.tablet_is; slot_is = h.slot_is }

-- Snapshots

ended_weaker : (b : Bool) (x point : ℕ) (to : Option ℕ) → before_end x (cond b (ended point to) to) ≡ true → before_end x to ≡ true
ended_weaker b x point None h = refl
ended_weaker true x point (Some e) h = h
ended_weaker false x point (Some e) h = h

snapshot_turned : (ps : Parts) (activity : List Interval) (changes : List Change) (n : ℕ) (r : RestorationRecord) (point : ℕ) (serving_ : Id) (q : SnapshotRecord) → IsSwitch ps activity changes n r point serving_ → In q ps.master.snapshots
    → floor_of ps.master q.namespace ps.master.clock ≤ floor_of (turned ps.master r point serving_ n) q.namespace n → SnapshotGood (turned ps.master r point serving_ n) q
snapshot_turned ps activity changes n r point serving_ q s isin floors =
    let m = ps.master in
    let h = s.inv.operations.snapshots q isin in
    let good = good_yet ps activity changes n r point serving_ s in
    let past : q.at ≤ n = le_trans h.past (le_of_lt s.before) in
    let listed_of : (l : Listed) (i : Interval) → In l q.listed → In i (activity_then ps.master r point) → i.tablet ≡ l.tablet → (owner_of ps.master.catalog.owners i.table ≡ Some q.namespace) × (i.slot ≡ l.slot) = λ l j lists there e. (
    let o = origin m r point j there in
    let k = h.listed_of l o.was lists o.kept (o.tablet_is ∙ e) in
    (ap (owner_of m.catalog.owners) (sym o.table_is) ∙ k.0, sym o.slot_is ∙ k.1)) in
    let known : q.complete ≡ false → (l : Listed) → In l q.listed → IsKnown (turned ps.master r point serving_ n) l = λ unfinished l lists. known_turned m r point serving_ n l (h.known unfinished l lists) in
    let lists_now : (i : Interval) → In i (activity_then ps.master r point) → owner_of ps.master.catalog.owners i.table ≡ Some q.namespace → active_within q.after q.at i ≡ true → IsListed q.listed i = λ j there owner within. interval_is (λ j. owner_of m.catalog.owners j.table ≡ Some q.namespace → active_within q.after q.at j ≡ true → IsListed q.listed j) m r point
    (λ i i_in owner within. (
    let b = both_pass (leb i.from q.at) (before_end (q.after + 1) (ended_in m.catalog.owners r.namespace point i).to) within in
    let k = h.lists i i_in owner (passes_both (leb i.from q.at) (before_end (q.after + 1) i.to) b.0 (ended_weaker (owns m.catalog.owners r.namespace i.table) (q.after + 1) point i.to b.1)) in
    record { line = k.line; listed = k.listed; tablet_is = k.tablet_is; slot_is = k.slot_is }))
    (λ i i_in mine active owner within. absurd (
    let z : Some q.namespace ≡ Some r.namespace = sym owner ∙ mine in
    let l : q.at < point = good.is_point.snapshots q isin (let e : q.namespace ≡ r.namespace = cc in e) in
    let f = leb-true point q.at (both_pass (leb point q.at) true within).0 in omega arith)) j there owner within in
    let reached : (q.after < floor_of (turned ps.master r point serving_ n) q.namespace n) ⊎ ((q' : SnapshotRecord) × (In q' ps.master.snapshots × ((q'.namespace ≡ q.namespace) × ((q'.at ≡ q.after) × (q'.complete ≡ true))))) = elim h.reached [ inl l ↦ inl (lt_of_lt_of_le l floors) | inr k ↦ inr k ] in
    assumption (past, listed_of, known, lists_now, reached)

-- Restorations

table_was : (m : Master) (r : RestorationRecord) (point : ℕ) (ns : Id) (t : TableRecord) → (ns ≡ r.namespace → ⊥) → In t (restored_tables m.catalog.tables r.namespace r.to point) → t.namespace ≡ ns → In t m.catalog.tables
table_was m r point ns t apart isin = new_is (λ t. t.namespace ≡ ns → In t m.catalog.tables) m.catalog.tables r.namespace r.to point
    (λ q there e. subst (λ k. In k m.catalog.tables) (sym (over_other r.namespace point q (either_way (same q.namespace r.namespace) (λ b. absurd (apart (sym e ∙ same_equal q.namespace r.namespace b))) (λ b. b)))) there)
    (λ q there held named e. absurd (apart (sym e ∙ named))) t isin

grounds_turned : (ps : Parts) (activity : List Interval) (changes : List Change) (n : ℕ) (r : RestorationRecord) (point : ℕ) (serving_ : Id) → IsSwitch ps activity changes n r point serving_
    → GroundsGo (grounds ps.master) (grounds (turned ps.master r point serving_ n)) changes (after r point changes)
grounds_turned ps activity changes n r point serving_ s = record { clock = le_of_lt s.before; slots = le_refl ps.master.slots; drawn = λ kind. le_refl (drawn_of kind ps.master.drawn); owned = λ table ns is. is; switched = λ ns p is. switched_on r point changes ns p is }

-- another namespace stays as it is
space_turned : (m : Master) (changes : List Change) (n : ℕ) (r : RestorationRecord) (point : ℕ) (serving_ ns : Id) → (ns ≡ r.namespace → ⊥) → NamespaceGoes (grounds m) (grounds (turned m r point serving_ n)) changes (after r point changes) ns
space_turned m changes n r point serving_ ns apart = record {
  came = λ j there owner. (other_was m r point j there (not_mine m r.namespace ns j.table owner apart), owner);
  tables = λ t there named. table_was m r point ns t apart there named;
  fixed = λ to fixed. elim (fixed_is r point changes ns to fixed) [ inl k ↦ absurd (apart k.0) | inr old ↦ old ];
}

lines_turned : (m : Master) (r : RestorationRecord) (point : ℕ) (ns : Id) (ls : List Listed) → (ns ≡ r.namespace → ⊥)
    → ((l : Listed) (i : Interval) → In l ls → In i m.activity → i.tablet ≡ l.tablet → owner_of m.catalog.owners i.table ≡ Some ns) → LinesGo m.activity (activity_then m r point) ls
lines_turned m r point ns ls apart owner = record {
  stays = λ l i lists there e. other_stays m r point i there (not_mine m r.namespace ns i.table (owner l i lists there e) apart);
  was = λ l j lists known there e. (
      let o = origin m r point j there in
      other_was m r point j there (ap (owns m.catalog.owners r.namespace) (sym o.table_is) ∙ not_mine m r.namespace ns o.was.table (owner l o.was lists o.kept (o.tablet_is ∙ e)) apart));
}

restoration_turned : (ps : Parts) (activity : List Interval) (changes : List Change) (n : ℕ) (r : RestorationRecord) (point : ℕ) (serving_ : Id) (x : RestorationRecord) → IsSwitch ps activity changes n r point serving_ → In x ps.master.restorations → same x.id r.id ≡ false
    → RestorationGood (turned ps.master r point serving_ n) (after r point changes) x
restoration_turned ps activity changes n r point serving_ x s isin other =
    let m = ps.master in
    restoration_goes (grounds m) (grounds (turned m r point serving_ n)) changes (after r point changes) (grounds_turned ps activity changes n r point serving_ s) x (λ open_.
    let apart : x.namespace ≡ r.namespace → ⊥ = λ e. other_namespace ps activity changes n r point serving_ x s isin other open_ e in
    record {
      space = space_turned m changes n r point serving_ x.namespace apart;
      lines = lines_turned m r point x.namespace x.listed apart (λ l i lists there e. s.inv.master.listed_of x l isin lists i there e);
      named = λ q there is. (q, (there, same_on q));
      taken = λ p q at there is. (q, (there, same_on q));
      points = λ p at h. h;
      schedule = λ k there id_is is. (k, (there, (id_is, is)));
    }) (s.inv.operations.restorations x isin)

-- The restoration that has switched

body_by : (b : Bool) (x : RestorationRecord) (serving_ : Id) (point version : ℕ) → IsAfterSwitch x.to point serving_ (cond b (RestoreFrom serving_ x.to point version) (Hide point))
body_by true x serving_ point version = (refl, (refl, refl))
body_by false x serving_ point version = refl

still_active : (i : Interval) (to point : ℕ) (b : Bool) → to < point → active_at to i ≡ true → active_at to (record i { to = cond b (ended point i.to) i.to }) ≡ true
still_active i to point b l active = let k = both_pass (leb i.from to) (before_end to i.to) active in passes_both (leb i.from to) (before_end to (cond b (ended point i.to) i.to)) k.0 (ends b i.to k.1)
  where
    ends : (b : Bool) (end_ : Option ℕ) → before_end to end_ ≡ true → before_end to (cond b (ended point end_) end_) ≡ true
    ends false end_ e = e
    ends true None e = grind (arith, nat_tests)
    ends true (Some t) e = e

ended_point : (to : Option ℕ) (point : ℕ) → ((e : ℕ) → to ≡ Some e → e ≤ point) → ended_by point (ended point to) ≡ true
ended_point None point over_ = le-leb point point (le_refl point)
ended_point (Some t) point over_ = le-leb t point (over_ t refl)

back_good : (ps : Parts) (activity : List Interval) (changes : List Change) (n : ℕ) (r : RestorationRecord) (point : ℕ) (serving_ : Id) → IsSwitch ps activity changes n r point serving_
    → RestorationGood (turned ps.master r point serving_ n) (after r point changes) (back ps.master r point serving_)
back_good ps activity changes n r point serving_ s =
    let m = ps.master in
    let h = s.inv.operations.restorations r s.there in
    let g = good_yet ps activity changes n r point serving_ s in
    let line : (l : Listed) → In l (listed_then m r point serving_) → IsLine m r point serving_ l = λ l isin. line_is m r point serving_ l isin in
    record {
      kind_is = h.kind_is;
      drawn = h.drawn;
      drawn_namespace = h.drawn_namespace;
      past = lt_of_lt_of_le h.past (le_of_lt s.before);
      scheduled = λ unfinished. h.scheduled (unfinished_yet ps activity changes n r point serving_ s);
      known = λ unfinished l isin. (let k = line l isin in
          record { interval = ended_in m.catalog.owners r.namespace point k.interval; kept = ended_there m r point k.interval k.kept; tablet_is = ap (λ z. z.tablet) k.is; slot_is = ap (λ z. z.slot) k.is });
      in_state = record {
        is_point = record {
          later = g.is_point.later;
          fixed = λ to fixed. elim (fixed_is r point changes r.namespace to fixed) [ inl k ↦ (let e = k.1 in let l = g.is_point.later in omega arith) | inr old ↦ g.is_point.fixed to old ];
          snapshots = g.is_point.snapshots;
          complete = g.is_point.complete;
        };
        begun = le_trans g.begun (le_of_lt s.before);
        serves = g.serves;
        calm = g.calm;
        switched = switched_now r point changes;
        bodies = λ l isin. (let k = line l isin in subst (λ z. IsAfterSwitch r.to point serving_ z.body) k.is (body_by (active_at r.to k.interval) (back m r point serving_) serving_ point (version_of (restored_tables m.catalog.tables r.namespace r.to point) k.interval.table)));
        back = λ l isin is. (
            let k = line l isin in
            let active : active_at r.to k.interval ≡ true = sym (line_restores m r point serving_ l k) ∙ is in
            record {
              then_ = ended_in m.catalog.owners r.namespace point k.interval;
              kept_then = ended_there m r point k.interval k.kept;
              tablet_then = ap (λ z. z.tablet) k.is;
              active = still_active k.interval r.to point (owns m.catalog.owners r.namespace k.interval.table) g.is_point.later active;
              now = begun_at point k.interval;
              kept_now = begun_there m r point k.interval k.kept k.owned active;
              tablet_now = ap (λ z. z.tablet) k.is;
              slot_now = ap (λ z. z.slot) k.is;
              opened = refl;
              from_is = refl;
            });
        gone = λ l j isin is there e. (
            let k = line l isin in
            interval_is (λ j. j.tablet ≡ l.tablet → ended_by point j.to ≡ true) m r point
            (λ i i_in e. (
            let p = one_place ps activity changes i k.interval s.inv i_in k.kept (e ∙ ap (λ z. z.tablet) (sym k.is)) in
            let owner : owner_of m.catalog.owners i.table ≡ Some r.namespace = ap (owner_of m.catalog.owners) p.table_is ∙ k.owned in
            ap (λ z. ended_by point z.to) (ended_mine m r.namespace point i (is_mine m r.namespace i.table owner)) ∙ ended_point i.to point (λ t at. g.before.ended i t i_in owner at)))
            (λ i i_in owner active e. absurd (true≢false (sym (line_then m r point serving_ l k i i_in owner active e) ∙ is))) j there e);
        opens = λ j opened. interval_is (λ j. owner_of m.catalog.owners j.table ≡ Some r.namespace → j.to ≡ None → IsComing (back m r point serving_) point j) m r point
            (λ i i_in owner no_end. absurd (some_end (owns m.catalog.owners r.namespace i.table) i.to point (is_mine m r.namespace i.table owner) no_end))
            (λ i i_in owner active mine no_end. (
            let k = line_of_then ps activity changes r point serving_ i s.inv i_in owner active in
            record {
              from_is = refl;
              is_listed = record { line = k.line; listed = k.listed; tablet_is = k.tablet_is; slot_is = k.slot_is };
              restores = line_then m r point serving_ k.line (line k.line k.listed) i i_in owner active (sym k.tablet_is);
            })) j opened.kept opened.owned opened.opened;
      };
    }
  where
    some_end : (b : Bool) (to : Option ℕ) (point : ℕ) → b ≡ true → cond b (ended point to) to ≡ None → ⊥
    some_end true None point is e = let q = e in grind arith
    some_end true (Some t) point is e = let q = e in grind arith
    some_end false to point is e = true≢false (sym is)

-- Clones

clone_turned : (ps : Parts) (activity : List Interval) (changes : List Change) (n : ℕ) (r : RestorationRecord) (point : ℕ) (serving_ : Id) (c : CloneRecord) → IsSwitch ps activity changes n r point serving_ → In c ps.master.clones
    → CloneGood (turned ps.master r point serving_ n) (after r point changes) c
clone_turned ps activity changes n r point serving_ c s isin =
    let m = ps.master in
    let one = s.inv.operations.apart.restoration_ids in
    clone_goes (grounds m) (grounds (turned m r point serving_ n)) changes (after r point changes) (grounds_turned ps activity changes n r point serving_ s) m.restorations (turned m r point serving_ n).restorations c (λ open_.
    let unused : Uses c r.namespace → ⊥ = λ uses. s.inv.operations.apart.one_operation r c s.there isin (unfinished_yet ps activity changes n r point serving_ s) open_ uses in
    record {
      space = space_turned m changes n r point serving_ c.target_id (λ e. unused (inr e));
      lines = lines_turned m r point c.target_id c.listed (λ e. unused (inr e));
      named = λ q there is. (q, (there, same_on q));
      schedule = λ k there is. (k, (there, is));
      source = λ p paired k. record {
        interval = k.interval;
        kept = other_stays m r point k.interval k.kept (not_mine m r.namespace c.source k.interval.table k.owned (λ e. unused (inl e)));
        tablet_is = k.tablet_is;
        slot_is = k.slot_is;
        low_is = k.low_is;
        high_is = k.high_is;
        active = k.active;
        owned = k.owned;
        pair = k.pair;
        paired = k.paired;
        source_is = k.source_is;
        target_is = k.target_is;
      };
      reserved = λ unseen p paired k. record {
        free = λ j there at. (let o = origin m r point j there in k.free o.was o.kept (o.slot_is ∙ at));
        unknown = λ j there e. (let o = origin m r point j there in k.unknown o.was o.kept (o.tablet_is ∙ e));
        no_snapshot = k.no_snapshot;
        no_restoration = λ q l there. in_mapped {A = RestorationRecord} {B = RestorationRecord} (entering r (Restoring point serving_) (listed_then m r point serving_)) (λ q. In l q.listed → l.tablet ≡ p.target → ⊥) m.restorations
            (λ x x_in. by_record (λ x q. In l q.listed → l.tablet ≡ p.target → ⊥) m r (Restoring point serving_) (listed_then m r point serving_) x one s.there x_in
            (λ lists e. (let z = line_is m r point serving_ l lists in k.unknown z.interval z.kept (ap (λ y. y.tablet) z.is ∙ e)))
            (λ b lists e. k.no_restoration x l x_in lists e)) q there;
      };
      names = λ unseen q there free. free q there;
      schedules = λ unseen k there is. (k, (there, is));
    }) (s.inv.operations.clones c isin)

-- All records

pub floors_turned : (ps : Parts) (activity : List Interval) (changes : List Change) (n : ℕ) (r : RestorationRecord) (point : ℕ) (serving_ ns : Id) → IsSwitch ps activity changes n r point serving_
    → floor_of ps.master ns ps.master.clock ≤ floor_of (turned ps.master r point serving_ n) ns n
floors_turned ps activity changes n r point serving_ ns s =
    going_floors ps.master n r (Restoring point serving_) (listed_then ps.master r point serving_) ns (le_of_lt s.before) s.inv.operations.apart.restoration_ids s.there (unfinished_yet ps activity changes n r point serving_ s) refl

pub operations_turned : (ps : Parts) (activity : List Interval) (changes : List Change) (n : ℕ) (r : RestorationRecord) (point : ℕ) (serving_ : Id) → IsSwitch ps activity changes n r point serving_
    → OperationsGood (turned ps.master r point serving_ n) (after r point changes)
operations_turned ps activity changes n r point serving_ s =
    let m = ps.master in
    let ops = s.inv.operations in
    let le = le_of_lt s.before in
    let L = listed_then m r point serving_ in
    let f = entering r (Restoring point serving_) L in
    let one = ops.apart.restoration_ids in
    let unfinished = unfinished_yet ps activity changes n r point serving_ s in
    record {
      kept = λ ns. le_trans (ops.kept ns) (floors_turned ps activity changes n r point serving_ ns s);
      apart = entered_apart m r (Restoring point serving_) L s.there unfinished ops.apart;
      schedules = λ t isin. (let g = schedule_on m (enters r (Restoring point serving_) L n m) t le (λ kind. le_refl _) (λ k there is. (k, (there, (refl, refl)))) (ops.schedules t isin) in
          record { drawn = g.drawn; drawn_namespace = g.drawn_namespace; begun = g.begun; scheduled = g.scheduled });
      scheduled = λ k isin. (let h = ops.scheduled k isin in
          let g = scheduled_on m (enters r (Restoring point serving_) L n m) k le (λ kind. le_refl _) (floors_turned ps activity changes n r point serving_ k.namespace s) (λ q q_in. (q, (q_in, same_on q))) h.has h in
          record { drawn_namespace = g.drawn_namespace; from_one = g.from_one; last = g.last; reached = g.reached; has = g.has });
      snapshots = λ q isin. snapshot_turned ps activity changes n r point serving_ q s isin (floors_turned ps activity changes n r point serving_ q.namespace s);
      restorations = λ q there. in_mapped {A = RestorationRecord} {B = RestorationRecord} f (RestorationGood (turned m r point serving_ n) (after r point changes)) m.restorations
          (λ x isin. by_record (λ x q. RestorationGood (turned m r point serving_ n) (after r point changes) q) m r (Restoring point serving_) L x one s.there isin
          (back_good ps activity changes n r point serving_ s) (λ b. restoration_turned ps activity changes n r point serving_ x s isin b)) q there;
      clones = λ c isin. clone_turned ps activity changes n r point serving_ c s isin;
      owners = ops.owners;
      sent = λ mark isin. (
          let k = filter_in m.sent (λ z. not (same z.operation r.id)) mark isin in
          elim (ops.sent mark k.0) [
            | inl q ↦ inl q
            | inr more ↦ elim more [
              | inl q ↦ inr (inl (q.0, (subst (λ x. In x (map f m.restorations)) (entering_other r (Restoring point serving_) L q.0 (ap (λ i. same i r.id) q.1.1.0 ∙ not_true (same mark.operation r.id) k.1)) (map_in {A = RestorationRecord} {B = RestorationRecord} f m.restorations q.0 q.1.0), q.1.1)))
              | inr c ↦ inr (inr c)
            ]
          ]);
    }
