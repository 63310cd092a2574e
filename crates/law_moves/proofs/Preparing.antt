-- The moves of a restoration before its switch: it makes its own snapshot, and finds the snapshot that serves its time.
use Rattle.std.proofs.Common.{ℕ, ◌≡◌, ◌≤◌, ◌<◌, ◌+◌, List, [], ◌∷◌, Option, Some, None, true, false, ◌||◌, inl, inr, refl, sym, ap, subst, ◌∙◌, arith, leb, le-leb, le_refl, le_of_lt}
use Rattle.std.specs.Option.{option_map, unwrap_or}
use Rattle.std.proofs.lemmas.Bool.{true≢false}
use Rattle.model.specs.Cluster.{Id, In, before_end, Interval, active_within, owner_of, FreezeKind, Listed, SnapshotRecord, RestorationRecord, RestorationState, Fencing, Snapshotting, Switching, Restored, is_restored, point_of, Master, Parts}
use Rattle.model.specs.Journal.{Change}
use Rattle.model.specs.Schedules.{serving}
use Rattle.model.specs.Stands.{awaited_of}
use Rattle.model.specs.Lists.{next_snapshot, new_snapshot}
use Rattle.model.specs.Moves.{incomplete}
use Rattle.law_store.proofs.Keys.{either_way}
use Rattle.law_invariants.specs.Operations.{has_switched, IsServing, AfterRowsOf, BeforePoint, FencingGood, SnapshottingGood, RestorationStateGood}
use Rattle.law_invariants.specs.Orders.{stage_of_restoration, FencePlace, FencingSlot, FencedSlot, RestorationSlot}
use Rattle.law_invariants.specs.Invariant.{Inv, EndsBy}
use Rattle.law_invariants.proofs.Finding.{passes_both, in_second}
use Rattle.law_invariants.proofs.Undoing.{before_all, owned_is}
use Rattle.law_invariants.proofs.Recording.{recorded}
use Rattle.law_invariants.proofs.Slots.{parts_with, done_is}
use Rattle.law_invariants.proofs.Taking.{taken}
use Rattle.law_invariants.proofs.Using.{one_snapshot}
use Rattle.law_moves.proofs.Entering.{enters, Enters, going_floors}
use Rattle.law_moves.proofs.Moving.{point_moves}
use Rattle.law_invariants.proofs.Serving.{served, serving_some, floor_restores, complete_is}

-- What a restoration undoes is before its point, once all have told that they are fenced

fenced_rows : (ps : Parts) (activity : List Interval) (changes : List Change) (n : ℕ) (r : RestorationRecord) → ps.master.clock < n → In r ps.master.restorations → r.state ≡ Fencing → ((l : Listed) → In l r.listed → l.acked ≡ true) → Inv ps activity changes
    → AfterRowsOf ps.master.catalog.owners r.namespace (n + 1) changes
fenced_rows ps activity changes n r before there is acked inv = λ c table key op isin row owned. (
    let m = ps.master in
    let g : FencingGood m r = subst (λ st. RestorationStateGood st m changes r) is (inv.operations.restorations r there).in_state in
    elim (inv.rows_past c table key op (before_all changes r.namespace (n + 1) c isin) row) [
      | inl past ↦ omega (arith, past, before)
      | inr b ↦ absurd (
          let owner : owner_of m.catalog.owners b.interval.table ≡ Some r.namespace = ap (owner_of m.catalog.owners) b.table_is ∙ owned_is (owner_of m.catalog.owners table) r.namespace owned in
          let line = g.lists b.interval (record { kept = b.kept; opened = b.opened; owned = owner }) in
          true≢false (sym (acked line.line line.listed) ∙ b.unacked r line.line there is line.listed line.slot_is))
    ])

ends_past : (to : Option ℕ) (time from end_ : ℕ) → to ≡ Some end_ → EndsBy time from to → end_ ≤ time
ends_past None time from end_ is h = absurd (let q = is in grind arith)
ends_past (Some e) time from end_ is h = let k : e ≡ end_ = cc in let l : e ≤ time = h.1 in omega arith

-- all that the master knows is before a point after its clock
before_now : (ps : Parts) (activity : List Interval) (changes : List Change) (ns : Id) (point : ℕ) → ps.master.clock < point → Inv ps activity changes → BeforePoint ps.master ns point
before_now ps activity changes ns point later inv = let m = ps.master in record {
  begun = λ i there owner. (let p = ((inv.slots i.slot).each i there refl).past in let l = p.begun in omega arith);
  ended = λ i end_ there owner is. (let p = ((inv.slots i.slot).each i there refl).past in let l = ends_past i.to m.clock i.from end_ is p.ended in omega arith);
  tables_begun = λ t there of. (let l = (inv.master.tables.past t there).begun in omega arith);
  tables_ended = λ t end_ there of is. (let l = ends_past t.to m.clock t.from end_ is (inv.master.tables.past t there).ended in omega arith);
}

-- the point of a finished restoration is over
finished_point : (state : RestorationState) (m : Master) (changes : List Change) (r : RestorationRecord) (point : ℕ) → is_restored state ≡ true → point_of state ≡ Some point → RestorationStateGood state m changes r → point ≤ m.clock
finished_point (Restored at serving_) m changes r point e p h = let is : at ≡ point = cc in let l = h.begun in omega arith
finished_point _ m changes r point e p h = absurd (true≢false (sym e))

-- all is fenced: the restoration makes its own snapshot
pub snapshots_own : (ps : Parts) (activity : List Interval) (changes : List Change) (n : ℕ) (r : RestorationRecord) → ps.master.clock < n → In r ps.master.restorations → r.state ≡ Fencing → ((l : Listed) → In l r.listed → l.acked ≡ true)
    → (inv : Inv ps activity changes) → Inv (parts_with ps (taken r.namespace r.schedule n ps.master)) activity changes
    → Enters (parts_with ps (taken r.namespace r.schedule n ps.master)) changes n r (Snapshotting (n + 1) (next_snapshot ps.master)) []
snapshots_own ps activity changes n r before there is acked inv now =
    let m = ps.master in
    let k = recorded m (taken r.namespace r.schedule n m) in
    let own = next_snapshot m in
    let q0 = new_snapshot m r.namespace r.schedule n in
    let state = Snapshotting (n + 1) own in
    let w = enters r state [] n k in
    let h = inv.operations.restorations r there in
    let unfinished : is_restored r.state ≡ false = ap is_restored is in
    let g : FencingGood m r = subst (λ st. RestorationStateGood st m changes r) is h.in_state in
    let slots : (slot : ℕ) → FencingSlot r slot (ps.tablet slot) = λ slot. subst (λ st. RestorationSlot st m changes r slot (ps.tablet slot)) is ((inv.works slot).obeyed.restorations r there) in
    let held : In q0 k.snapshots = in_second m.snapshots (q0 ∷ []) q0 (inl refl) in
    record {
      there = there;
      unfinished = unfinished;
      acked = acked;
      clock = le_refl n;
      floors = λ ns. going_floors k n r state [] ns (le_refl n) now.operations.apart.restoration_ids there unfinished refl;
      moving = λ e. let q = e in grind arith;
      switched = λ e. absurd (true≢false (sym e ∙ ap has_switched is));
      one_point = λ q at isin e at_q at_r. either_way (is_restored q.state)
          (λ b. absurd (let l = finished_point q.state m changes q at b at_q (inv.operations.restorations q isin).in_state in let k : n + 1 ≡ at = cc in omega arith))
          (λ b. inv.operations.apart.one_restoration q r isin there b unfinished e);
      stage = (let e : stage_of_restoration r.state ≡ 1 = ap stage_of_restoration is in omega arith);
      point = λ at e. inr (ap stage_of_restoration is);
      undone = λ at e. (let same_ : n + 1 ≡ at = cc in subst (λ x. AfterRowsOf m.catalog.owners r.namespace x changes) same_ (fenced_rows ps activity changes n r before there is acked inv));
      unawaited = λ tablet done. refl;
      settled = λ slot present. ap (λ st. awaited_of st r (ps.tablet slot).tablet (ps.tablet slot).done) is;
      known = λ l isin. absurd isin;
      listed_of = λ l i isin. absurd isin;
      state_good = record {
        is_point = record {
          later = (let l = h.past in omega arith);
          fixed = λ to fixed. (let l = inv.master.past r.namespace to fixed in omega arith);
          snapshots = λ q isin e. (let l = (now.operations.snapshots q isin).past in omega arith);
          complete = λ t isin e. (let l = now.master.complete t isin in omega arith);
        };
        empty = refl;
        soon = le_refl _;
        before = (let b = before_now (parts_with ps (taken r.namespace r.schedule n m)) activity changes r.namespace (n + 1) (omega arith) now in record { begun = b.begun; ended = b.ended; tables_begun = b.tables_begun; tables_ended = b.tables_ended });
        snapshot = q0;
        kept = held;
        id_is = refl;
        at_is = refl;
        namespace_is = refl;
        alone = λ q isin open_ e. ap (λ x. x.id) (now.operations.apart.one_snapshot q q0 isin held open_ refl e);
      };
      slots = λ slot. record {
        fenced = λ i opened at. (
            let line = g.lists i (record { kept = opened.kept; opened = opened.opened; owned = opened.owned }) in
            (slots slot).fenced ((slots slot).acked line.line line.listed (line.slot_is ∙ at) (acked line.line line.listed)));
      };
      place = λ slot p. (
          let q : FencePlace Fencing r k slot (ps.tablet slot).done = subst (λ st. FencePlace st r k slot (ps.tablet slot).done) is p in
          (q.0, (record { kept = q.1.0.kept; opened = q.1.0.opened; owned = q.1.0.owned }, q.1.1)));
    }

-- its own snapshot is complete: the first complete one at or after the time serves it
pub serves_it : (ps : Parts) (activity : List Interval) (changes : List Change) (n : ℕ) (r : RestorationRecord) (point : ℕ) (own : Id) → ps.master.clock < n → In r ps.master.restorations → r.state ≡ Snapshotting point own
    → incomplete ps.master.snapshots own ≡ None → Inv ps activity changes
    → Enters ps changes n r (Switching point (unwrap_or (option_map (λ s. s.id) (serving ps.master.snapshots r.namespace r.to)) own)) []
serves_it ps activity changes n r point own before there is done inv =
    let m = ps.master in
    let state = Switching point (unwrap_or (option_map (λ s. s.id) (serving m.snapshots r.namespace r.to)) own) in
    let w = enters r state [] n m in
    let ops = inv.operations in
    let h = ops.restorations r there in
    let unfinished : is_restored r.state ≡ false = ap is_restored is in
    let g : SnapshottingGood m changes r point own = subst (λ st. RestorationStateGood st m changes r) is h.in_state in
    let slots : (slot : ℕ) → FencedSlot m r slot (ps.tablet slot) = λ slot. subst (λ st. RestorationSlot st m changes r slot (ps.tablet slot)) is ((inv.works slot).obeyed.restorations r there) in
    let q = complete_is m.snapshots own done in
    let one : q.0 ≡ g.snapshot = one_snapshot m.snapshots q.0 g.snapshot ops.apart.snapshots_rise q.1.0 g.kept (q.1.1.0 ∙ sym g.id_is) in
    let complete : g.snapshot.complete ≡ true = ap (λ x. x.complete) (sym one) ∙ q.1.1.1 in
    let good = ops.snapshots g.snapshot g.kept in
    let at_is = g.at_is in
    let later = g.is_point.later in
    let found = serving_some m.snapshots r.namespace r.to g.snapshot g.kept (record { namespace_is = g.namespace_is; complete = complete; reaches = omega arith }) in
    let serves : IsServing m found.0.id r.namespace r.to = served m changes r.namespace r.to found.0 ops (floor_restores m changes r ops there unfinished) found.1 in
    let named : unwrap_or (option_map (λ s. s.id) (serving m.snapshots r.namespace r.to)) own ≡ found.0.id = ap (λ o. unwrap_or (option_map {T = SnapshotRecord} (λ s. s.id) o) own) found.1 in
    record {
      there = there;
      unfinished = unfinished;
      acked = λ l isin. absurd (subst (In l) g.empty isin);
      clock = le_of_lt before;
      floors = λ ns. going_floors m n r state [] ns (le_of_lt before) ops.apart.restoration_ids there unfinished refl;
      moving = λ e. let q = e in grind arith;
      switched = λ e. absurd (true≢false (sym e ∙ ap has_switched is));
      one_point = λ q at isin e at_q at_r. inv.journal.one_point q r at isin there e at_q (ap point_of is ∙ at_r);
      stage = (let e : stage_of_restoration r.state ≡ 1 = ap stage_of_restoration is in omega arith);
      point = λ at e. inl (ap point_of is ∙ e);
      undone = λ at e. inv.journal.undone r at there (ap point_of is ∙ e);
      unawaited = λ tablet done_. refl;
      settled = λ slot present. ap (λ st. awaited_of st r (ps.tablet slot).tablet (ps.tablet slot).done) is;
      known = λ l isin. absurd isin;
      listed_of = λ l i isin. absurd isin;
      state_good = record {
        is_point = point_moves m w changes r state [] point refl refl g.is_point;
        empty = refl;
        begun = (let l = g.soon in omega arith);
        before = record { begun = g.before.begun; ended = g.before.ended; tables_begun = g.before.tables_begun; tables_ended = g.before.tables_ended };
        serves = record {
          serving = serves.serving;
          kept = serves.kept;
          id_is = serves.id_is ∙ sym named;
          complete = serves.complete;
          namespace_is = serves.namespace_is;
          after = serves.after;
          reaches = serves.reaches;
        };
        calm = λ p isin open_ e. (
            let same_ : p ≡ g.snapshot = one_snapshot m.snapshots p g.snapshot ops.apart.snapshots_rise isin g.kept (g.alone p isin open_ e ∙ sym g.id_is) in
            true≢false (sym (ap (λ x. x.complete) same_ ∙ complete) ∙ open_));
      };
      slots = λ slot. record {
        fenced = λ i opened at. (slots slot).fenced i (record { kept = opened.kept; opened = opened.opened; owned = opened.owned }) at;
        past = λ i opened at. (
            let from : i.from < point = g.before.begun i opened.kept opened.owned in
            let within : active_within g.snapshot.after g.snapshot.at i ≡ true = passes_both (leb i.from g.snapshot.at) (before_end (g.snapshot.after + 1) i.to) (le-leb i.from g.snapshot.at (omega arith)) (ap (before_end (g.snapshot.after + 1)) opened.opened) in
            let line = good.lists i opened.kept (opened.owned ∙ ap Some (sym g.namespace_is)) within in
            let each = (inv.slots slot).each i opened.kept at in
            let did = (inv.works slot).obeyed.snapshots g.snapshot line.line g.kept line.listed (line.slot_is ∙ at) (ap (λ b. b || line.line.acked) complete) (each.tablet_is ∙ sym line.tablet_is) each.present in
            let mark = done_is (ps.tablet slot).done g.snapshot.id FreezeKind did in
            let l = ((inv.works slot).orders.marks mark.0 mark.1.0).after.snapshot g.snapshot g.kept (sym mark.1.1.0) in
            omega arith);
      };
      place = λ slot p. (
          let f : FencePlace (Snapshotting point own) r m slot (ps.tablet slot).done = subst (λ st. FencePlace st r m slot (ps.tablet slot).done) is p in
          (f.0, (record { kept = f.1.0.kept; opened = f.1.0.opened; owned = f.1.0.owned }, f.1.1)));
    }
