-- The slots after a snapshot is discarded: no tablet holds its frozen set, and all else is as it was.
use Rattle.model.specs.Cluster.{owner_of, Kind, Snapshot, Id, same, In, has, rising, Tablet, BodyKind, FrozenSet, set_of, is_empty, RestoreFromKind, is_done, CopyKind, is_serving, FreezeKind, SnapshotRecord, RestorationRecord, RestorationState, Fencing, Snapshotting, Switching, Restoring, Releasing, Restored, CloneRecord, CloneState, Copying, CloneReleasing, CloneComplete, is_visible, unacked_at, TabletPair, Master}
use Rattle.model.specs.Stands.{is_restore}
use Rattle.std.proofs.Common.{ℕ, ◌≡◌, ◌≤◌, ◌+◌, List, [], ◌∷◌, Option, Some, None, true, false, cond, ◌&&◌, inl, inr, refl, sym, ap, subst, ◌∙◌, arith, not, map, le_trans, lt_of_lt_of_le}
use Rattle.std.specs.Option.{is_some, option_and_then}
use Rattle.std.specs.List.{filter}
use Rattle.std.proofs.lemmas.Bool.{cond_both, true≢false}
use Rattle.model.specs.Activity.{Interval, last_from}
use Rattle.model.specs.Journal.{Change}
use Rattle.model.specs.Coordination.{unfinished_snapshot, pending_of}
use Rattle.model.specs.Cleanup.{is_present, snapshot_plan}
use Rattle.law_store.proofs.Keys.{either_way}
use Rattle.law_invariants.specs.Operations.{OperationsGood}
use Rattle.law_invariants.specs.Orders.{IsAfter, RestorationSlot, CloneSlot, IsRestored, IsCopy, operations, IsAfterIn}
use Rattle.law_invariants.specs.Invariant.{SetStands, SlotGood, SlotWorks}
use Rattle.law_invariants.proofs.Finding.{in_filter, filter_in, map_in, second_fails, not_passing, same_equal, same_self, not_same}
use Rattle.law_invariants.proofs.Ticking.{not_true, over_later, below_later}
use Rattle.law_invariants.proofs.Plans.{has_in, has_rising}
use Rattle.law_invariants.proofs.Unneeded.{not_false, IsDiscarded, without, discarding, kept_record, was_record}

-- Frozen sets

abbrev pub others_of : Id → List FrozenSet → List FrozenSet
others_of target fs = filter (λ f. not (same f.snapshot target)) fs

-- a tablet's frozen sets without those of a snapshot
pub record AreOthers (target : Id) (old new : List FrozenSet) : Type 0 where
  pub each : (f : FrozenSet) → In f new → In f old × (f.snapshot ≡ target → ⊥)
  pub found : (id : Id) → (id ≡ target → ⊥) → set_of new id ≡ set_of old id
  pub none : old ≡ [] → new ≡ []

set_beside : (fs : List FrozenSet) (target id : Id) → (id ≡ target → ⊥) → set_of (others_of target fs) id ≡ set_of fs id
set_beside [] target id apart = refl
set_beside (f ∷ fs) target id apart = cond_both (not (same f.snapshot target)) (f ∷ others_of target fs) (others_of target fs) (λ gs. set_of gs id ≡ cond (same f.snapshot id) (Some f) (set_of fs id))
    (λ e. ap (cond (same f.snapshot id) (Some f)) (set_beside fs target id apart))
    (λ e. let mine : f.snapshot ≡ target = same_equal f.snapshot target (not_false (same f.snapshot target) e) in
    let other : same f.snapshot id ≡ false = not_same f.snapshot id (λ is. apart (sym is ∙ mine)) in
    set_beside fs target id apart ∙ sym (ap (λ b. cond b (Some f) (set_of fs id)) other))

pub others_are : (target : Id) (fs : List FrozenSet) → AreOthers target fs (others_of target fs)
others_are target fs = record {
  each = λ f isin. (let k = filter_in fs (λ g. not (same g.snapshot target)) f isin in
      (k.0, λ e. true≢false (sym (ap (λ t. same t target) e ∙ same_self target) ∙ not_true (same f.snapshot target) k.1)));
  found = set_beside fs target;
  none = λ e. ap (others_of target) e;
}

-- where a tablet holds none of it, all are others
pub all_others : (target : Id) (fs : List FrozenSet) → ((f : FrozenSet) → In f fs → f.snapshot ≡ target → ⊥) → AreOthers target fs fs
all_others target fs none = record { each = λ f isin. (isin, none f isin); found = λ id apart. refl; none = λ e. e }

abbrev pub thinned : Tablet → ℕ → List FrozenSet → Tablet
thinned t clock frozen = record t { clock = clock; frozen = frozen }

-- What stands of the slot

pub slot_thinned : (m : Master) (changes : List Change) (slot : ℕ) (target : Id) (t : Tablet) (clock : ℕ) (fs : List FrozenSet) → t.clock ≤ clock → AreOthers target t.frozen fs → SlotGood m changes slot t → SlotGood m changes slot (thinned t clock fs)
slot_thinned m changes slot target t clock fs le others h = record {
  good = record {
    sorted = h.good.sorted;
    below = below_later t.versions (t.clock + 1) (clock + 1) (omega arith) h.good.below;
    cutoff = le_trans h.good.cutoff le;
    keys = h.good.keys;
    set_past = λ f held. lt_of_lt_of_le (h.good.set_past f (others.each f held).0) le;
    set_sorted = λ f held. h.good.set_sorted f (others.each f held).0;
    set_keys = λ f held. h.good.set_keys f (others.each f held).0;
  };
  home = h.home;
  numbered = h.numbered;
  each = λ i isin is. (
      let g = h.each i isin is in
      let sets : (f : FrozenSet) → In f fs → SetStands f changes i = λ f held. g.sets f (others.each f held).0 in
      assumption (over_later i.to i.from t.clock clock le g.over, sets, g));
  opens = λ serving unfenced. (let o = h.opens serving unfenced in record {
    interval = o.interval;
    listed = o.listed;
    slot_is = o.slot_is;
    opened = o.opened;
    begun = le_trans o.begun le;
    settled = o.settled;
  });
  shown = h.shown;
  later = λ ns to is serving unfenced owned. le_trans (h.later ns to is serving unfenced owned) le;
}

-- What operations have it do

after_thin : (m : Master) (n : ℕ) (target : Id) (from to : ℕ) (operation : Id) (kind : BodyKind) → from ≤ to → IsAfter m from operation kind → IsAfter (discarding m n target) to operation kind
after_thin m n target from to operation kind le h = record {
  snapshot = λ r isin is. lt_of_lt_of_le (h.snapshot r (was_record target m.snapshots r isin).0 is) le;
  restoration = λ r isin is. lt_of_lt_of_le (h.restoration r isin is) le;
  point = λ r at isin is p k. lt_of_lt_of_le (h.point r at isin is p k) le;
  copied = λ c at isin is p. lt_of_lt_of_le (h.copied c at isin is p) le;
  released = λ c l at isin is lists b k. lt_of_lt_of_le (h.released c l at isin is lists b k) le;
}

-- an unfinished snapshot is another
unfinished_beside : (rs : List SnapshotRecord) (target id : Id) → ((q : SnapshotRecord) → In q rs → q.id ≡ target → q.complete ≡ true) → unfinished_snapshot (without target rs) id ≡ unfinished_snapshot rs id
unfinished_beside [] target id complete = refl
unfinished_beside (q ∷ rs) target id complete = cond_both (not (same q.id target)) (q ∷ without target rs) (without target rs) (λ qs. unfinished_snapshot qs id ≡ cond (same q.id id && not q.complete) (Some q) (unfinished_snapshot rs id))
    (λ e. ap (cond (same q.id id && not q.complete) (Some q)) (unfinished_beside rs target id (λ p isin. complete p (inr isin))))
    (λ e. let over : q.complete ≡ true = complete q (inl refl) (same_equal q.id target (not_false (same q.id target) e)) in
    let skipped : (same q.id id && not q.complete) ≡ false = second_fails (same q.id id) (not q.complete) (ap not over) in
    unfinished_beside rs target id (λ p isin. complete p (inr isin)) ∙ sym (ap (λ b. cond b (Some q) (unfinished_snapshot rs id)) skipped))

pending_thin : (kind : Kind) (m : Master) (n : ℕ) (target operation : Id) (slot : ℕ) → ((q : SnapshotRecord) → In q m.snapshots → q.id ≡ target → q.complete ≡ true) → pending_of kind (discarding m n target).snapshots (discarding m n target).restorations (discarding m n target).clones operation slot ≡ pending_of kind m.snapshots m.restorations m.clones operation slot
pending_thin Snapshot m n target operation slot complete = ap (λ o. option_and_then (λ r. unacked_at r.listed slot) o) (unfinished_beside m.snapshots target operation complete)
pending_thin _ m n target operation slot complete = refl

restorations_thin : (state : RestorationState) (m : Master) (n : ℕ) (target : Id) (changes : List Change) (r : RestorationRecord) (slot : ℕ) (t : Tablet) (clock : ℕ) (fs : List FrozenSet) → t.clock ≤ clock → RestorationSlot state m changes r slot t
    → RestorationSlot state (discarding m n target) changes r slot (thinned t clock fs)
restorations_thin Fencing m n target changes r slot t clock fs le h = record { acked = h.acked; fenced = h.fenced }
restorations_thin (Snapshotting point own) m n target changes r slot t clock fs le h = record { fenced = h.fenced }
restorations_thin (Switching point serving) m n target changes r slot t clock fs le h = record { fenced = h.fenced; past = λ i opened is. le_trans (h.past i opened is) le }
restorations_thin (Restoring point serving) m n target changes r slot t clock fs le h = λ l isin is. (let k = h l isin is in
    let restored : is_restore l.body ≡ true → is_done t.done r.id RestoreFromKind ≡ true → IsRestored changes r point (thinned t clock fs) = λ restores did. (let q = k.restored restores did in record { serves = q.serves; cutoff_is = q.cutoff_is; rows = q.rows }) in
    assumption restored)
restorations_thin (Releasing point serving) m n target changes r slot t clock fs le h = λ l isin is. (let k = h l isin is in record { acked = k.acked; serves = k.serves; released = k.released; fenced = k.fenced })
restorations_thin (Restored point serving) m n target changes r slot t clock fs le h = tt

clones_thin : (state : CloneState) (m : Master) (n : ℕ) (target : Id) (changes : List Change) (c : CloneRecord) (slot : ℕ) (t : Tablet) (clock : ℕ) (fs : List FrozenSet) → t.clock ≤ clock → CloneSlot state m changes c slot t
    → CloneSlot state (discarding m n target) changes c slot (thinned t clock fs)
clones_thin (Copying serving at) m n target changes c slot t clock fs le h =
    let copied : (p : TabletPair) → In p c.tablets → p.slot ≡ slot → is_done t.done c.id CopyKind ≡ true → IsCopy changes c at p (thinned t clock fs) = λ p paired is done. (let k = h.copied p paired is done in assumption k) in
    let later : is_serving t.presence ≡ true → t.fence ≡ None → owner_of m.catalog.owners t.table ≡ Some c.source → c.to ≤ clock = λ serves free of. le_trans (h.later serves free of) le in
    assumption (copied, later)
clones_thin (CloneReleasing serving at) m n target changes c slot t clock fs le h = λ l isin is. (let k = h l isin is in record { acked = k.acked; serves = k.serves; released = k.released; fenced = k.fenced })
clones_thin (CloneComplete serving at) m n target changes c slot t clock fs le h = tt
clones_thin _ m n target changes c slot t clock fs le h = record { empty = h.empty }

pub works_thinned : (m : Master) (n : ℕ) (target : Id) (changes : List Change) (r : SnapshotRecord) (slot : ℕ) (t : Tablet) (clock : ℕ) (fs : List FrozenSet) → IsDiscarded m n target r → t.clock ≤ clock → AreOthers target t.frozen fs → SlotWorks m changes slot t
    → SlotWorks (discarding m n target) changes slot (thinned t clock fs)
works_thinned m n target changes r slot t clock fs d le others h =
    let o = h.orders in
    let b = h.obeyed in record {
      orders = record {
        fences = o.fences;
        orders = λ c lists. (let k = o.orders c lists in record {
          is_pending = pending_thin c.operation.kind m n target c.operation slot (λ q isin e. ap (λ x. x.complete) (d.alone q isin e) ∙ d.complete) ∙ k.is_pending;
          after = after_thin m n target t.clock clock c.operation _ le k.after;
        });
        once = o.once;
        fresh = o.fresh;
        marks = λ mark lists. (let k = o.marks mark lists in
            let after : IsAfterIn (operations (discarding m n target)) clock mark.operation mark.kind = after_thin m n target t.clock clock mark.operation mark.kind le k.after in
            let by_snapshot : (r : SnapshotRecord) → In r ((without target m.snapshots)) → r.id ≡ mark.operation → mark.kind ≡ FreezeKind = λ q isin. k.by_snapshot q (was_record target m.snapshots q isin).0 in
            assumption (after, by_snapshot));
        holds = λ q isin did. (let w = was_record target m.snapshots q isin in
            let f = o.holds q w.0 did in record { set = f.set; held = others.found q.id w.1 ∙ f.held; time = f.time; inside = f.inside });
        frozen = λ f held. o.frozen f (others.each f held).0;
        sets = λ f held. (let w = others.each f held in
            let k = o.sets f w.0 in record {
              snapshot = k.snapshot;
              kept = kept_record target m.snapshots k.snapshot k.kept (λ e. w.1 (sym k.id_is ∙ e));
              id_is = k.id_is;
              at_is = k.at_is;
              line = k.line;
              listed = k.listed;
              tablet_is = k.tablet_is;
            });
        bare = λ vacant. (let k = o.bare vacant in record { frozen = others.none k.frozen; fence = k.fence; done = k.done });
      };
      obeyed = record {
        drawn_table = b.drawn_table;
        home = b.home;
        snapshots = λ q l isin. b.snapshots q l (was_record target m.snapshots q isin).0;
        restorations = λ q known. restorations_thin q.state m n target changes q slot t clock fs le (b.restorations q known);
        clones = λ c known. clones_thin c.state m n target changes c slot t clock fs le (b.clones c known);
      };
    }

-- Whose frozen sets they are

found_last : (is : List Interval) (tablet : Id) (x : Interval) → is_some (last_from is tablet (Some x)) ≡ true
found_last [] tablet x = refl
found_last (i ∷ is) tablet x = either_way (same i.tablet tablet) (λ e. rw e (found_last is tablet i)) (λ e. rw e (found_last is tablet x))

present_from : (is : List Interval) (tablet : Id) (found : Option Interval) (i : Interval) → In i is → i.tablet ≡ tablet → is_some (last_from is tablet found) ≡ true
present_from [] tablet found i isin is = absurd isin
present_from (j ∷ js) tablet found i (inl e) is = let mine : same j.tablet tablet ≡ true = ap (λ k. same k.tablet tablet) e ∙ ap (λ t. same t tablet) is ∙ same_self tablet in rw mine (found_last js tablet j)
present_from (j ∷ js) tablet found i (inr isin) is = present_from js tablet _ i isin is

-- a tablet that has the frozen set of a snapshot is in the plan of the snapshot's removal
pub in_plan : (m : Master) (n : ℕ) (target : Id) (changes : List Change) (r : SnapshotRecord) (slot : ℕ) (t : Tablet) (f : FrozenSet) → IsDiscarded m n target r → OperationsGood m changes → ((i : Interval) → In i m.activity → 1 ≤ i.slot)
    → SlotWorks m changes slot t → In f t.frozen → f.snapshot ≡ target → (has (snapshot_plan m r) slot ≡ true) × (1 ≤ slot)
in_plan m n target changes r slot t f d ops from h held of =
    let k = h.orders.sets f held in
    let is : k.snapshot ≡ r = d.alone k.snapshot k.kept (k.id_is ∙ of) in
    let lists : In k.line r.listed = subst (λ q. In k.line q.listed) is k.listed in
    let present : is_empty t.presence ≡ false = not_passing (is_empty t.presence) (λ e. subst (In f) (h.orders.bare e).frozen held) in
    elim (h.obeyed.home present) [
      | inl home ↦ (
          let at = ((ops.snapshots r d.listed).listed_of k.line home.interval lists home.kept (home.tablet_is ∙ sym k.tablet_is)).1 in
          let there : is_present m k.line.tablet ≡ true = present_from m.activity k.line.tablet None home.interval home.kept (home.tablet_is ∙ sym k.tablet_is) in
          let test : (is_present m k.line.tablet && true) ≡ true = ap (λ b. b && true) there in
          let ls = filter (λ l. is_present m l.tablet && true) r.listed in
          let planned : has (rising (map (λ l. l.slot) ls)) k.line.slot ≡ true = has_rising (map (λ l. l.slot) ls) k.line.slot
          (has_in (map (λ l. l.slot) ls) k.line.slot (map_in (λ l. l.slot) ls k.line (in_filter r.listed (λ l. is_present m l.tablet && true) k.line lists test))) in
          (subst (λ s. has (snapshot_plan m r) s ≡ true) (sym at ∙ home.slot_is) planned, subst (λ s. 1 ≤ s) home.slot_is (from home.interval home.kept)))
      | inr copy ↦ absurd (
          let unseen : is_visible copy.clone.state ≡ false = ap is_visible copy.state_is in
          ((ops.clones copy.clone copy.kept).reserved unseen copy.pair copy.paired).no_snapshot r k.line d.listed lists (k.tablet_is ∙ sym copy.tablet_is))
    ]
