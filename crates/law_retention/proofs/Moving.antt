-- Each move of a record keeps the facts.
use Rattle.std.proofs.Common.{◌&&◌, ◌+◌, ◌<◌, ◌≤◌, ◌≡◌, ◌∷◌, ◌∙◌, ℕ, List, [], Bool, true, false, cond, Option, Some, None, map, not, refl, sym, ap, subst, inl, inr, arith, le_of_lt}
use Rattle.std.specs.Option.{option_map_or}
use Rattle.row_values.specs.Ids.{Clone, Id, Kind, Restoration, Snapshot, same}
use Rattle.row_values.specs.Elements.{In}
use Rattle.model.specs.Activity.{Interval, active_at}
use Rattle.model.specs.Acts.{Advance, Advanced, NotPending, Refused, Waiting}
use Rattle.model.specs.Catalog.{owner_of, owns}
use Rattle.model.specs.Coordination.{unfinished_clone, unfinished_restoration, unfinished_snapshot}
use Rattle.model.specs.Entries.{slots_of}
use Rattle.model.specs.Journal.{Change}
use Rattle.model.specs.Lists.{intervals_in, next_snapshot, tablets_active_at}
use Rattle.model.specs.Moves.{Progress, advance, advancing, clone_goes, clone_moved, clone_enters, with_clones_snapshot, completed, moved, moved_of, moving, progress_of, restoration_enters, restoration_moved, serving_clone, waits_for, begins_clone}
use Rattle.model.specs.Parts.{Master, Moves, Outcome, Parts}
use Rattle.model.specs.Records.{Accepted, CloneComplete, CloneRecord, CloneReleasing, CloneSnapshot, CloneState, Copying, Fencing, Listed, Releasing, RestorationRecord, RestorationState, Restored, Restoring, Schedule, ScheduledNamespace, SnapshotRecord, Snapshotting, State, Switching, TabletPair, first_unacked, is_cloned, is_restored, is_visible, schedule_of}
use Rattle.model.specs.Restored.{begun_at, cloned_activity}
use Rattle.model.specs.Schedules.{complete_to}
use Rattle.model.specs.Tablets.{Clock, effect}
use Rattle.law_store.proofs.Keys.{either_way}
use Rattle.law_invariants.specs.Invariant.{Inv, Later}
use Rattle.law_invariants.specs.Operations.{OperationsGood, RestorationStateGood, SnapshottingGood, SwitchingGood}
use Rattle.law_invariants.proofs.Finding.{both_pass, filter_in, in_append, in_mapped, map_in, same_equal, same_self}
use Rattle.law_invariants.proofs.Ticking.{not_true}
use Rattle.law_invariants.proofs.Undoing.{owned_is}
use Rattle.law_retention.specs.Facts.{Facts, own_point}
use Rattle.law_retention.proofs.Growing.{Begins, GoOn, IsNew, activity_begins, activity_goes_on, activity_grows, ended_go_on, ended_if, they_go_on}
use Rattle.law_retention.proofs.Holding.{MasterHolds, StatesGoOn, WasIn, answer_holds, back_on, holds_like, like_itself, like_on, own_goes_on, they_are, they_were, told_by}
use Rattle.law_retention.proofs.Scheduling.{IsLater, IsStill, reached_follows, reached_were, they_were_taken, unfinished_found}
use Rattle.law_retention.proofs.Changing.{HoldsThen, grown_holds, snapshot_holds}

-- what is to be shown of the master that a move leaves, where what holds after each entry holds of its records
abbrev pub MoveHolds : Parts → Master → Type 0
MoveHolds ps k = (later : List Change) → OperationsGood k later → MasterHolds ps.master k

-- what is given of the parts before
pub record IsFound (ps : Parts) (activity : List Interval) (changes : List Change) (n : ℕ) : Type 0 where
  pub before : ps.master.clock < n
  pub inv : Inv ps activity changes
  pub facts : Facts ps

-- a master that keeps its catalog's owners, its intervals, its schedules and its snapshots
alike : (ps : Parts) (activity : List Interval) (changes : List Change) (n : ℕ) (k : Master) → IsFound ps activity changes n → k.clock ≡ n → k.scheduled ≡ ps.master.scheduled → k.catalog.owners ≡ ps.master.catalog.owners
    → k.activity ≡ ps.master.activity → k.snapshots ≡ ps.master.snapshots → StatesGoOn ps.master k → MasterHolds ps.master k
alike ps activity changes n k found clock scheduled owners same_ snapshots states =
    let m = ps.master in
    holds_like ps activity changes k found.inv found.facts (record {
      later = (let b = found.before in let c = clock in omega (arith, b, c));
      scheduled = scheduled;
      owners = owners;
      activity = subst (GoOn m) (sym same_) (they_go_on m);
      was = λ r there. like_itself m.snapshots r (subst (In r) snapshots there);
      still = λ q there open_. like_itself k.snapshots q (subst (In q) (sym snapshots) there);
      states = states;
    })

ticks : (ps : Parts) (activity : List Interval) (changes : List Change) (n : ℕ) → IsFound ps activity changes n → MoveHolds ps (record ps.master { clock = n })
ticks ps activity changes n found later ops = alike ps activity changes n (record ps.master { clock = n }) found refl refl refl refl refl (they_are ps.master)

-- A snapshot is complete

completed_later : (m : Master) (r : SnapshotRecord) (n : ℕ) (q : SnapshotRecord) → In q (completed r n m).snapshots → IsLater m r q
completed_later m r n = in_mapped {A = SnapshotRecord} {B = SnapshotRecord} _ (IsLater m r) m.snapshots
    (λ q there. record { was = q; kept = there; id_is = refl; namespace_is = refl; after_is = refl; at_is = refl; complete_is = refl })

completed_still : (m : Master) (r : SnapshotRecord) (n : ℕ) (q : SnapshotRecord) → In q m.snapshots → IsStill (completed r n m).snapshots r q
completed_still m r n q there = record { now = _; kept = map_in {A = SnapshotRecord} {B = SnapshotRecord} _ m.snapshots q there; namespace_is = refl; complete_is = refl }

completed_holds : (ps : Parts) (activity : List Interval) (changes : List Change) (n : ℕ) (r : SnapshotRecord) → IsFound ps activity changes n → In r ps.master.snapshots → r.complete ≡ false → MoveHolds ps (completed r n ps.master)
completed_holds ps activity changes n r found kept open_ later ops =
    let m = ps.master in
    let k = completed r n m in
    let were = reached_were ps activity changes r found.inv kept open_ found.facts.times in
    record {
      on = record {
        later = le_of_lt found.before;
        scheduled = were;
        owned = λ id i inside owned. owned;
        activity = activity_goes_on m k (they_go_on m) found.facts.latest;
        taken = λ q inside. let h = completed_later m r n q inside in inl (record { was = h.was; kept = h.kept; id_is = h.id_is; after_is = h.after_is; at_is = h.at_is });
      };
      times = reached_follows ps activity changes k r found.inv kept open_ found.facts.times (completed_later m r n) (completed_still m r n);
      own = own_goes_on ps activity changes k found.inv found.facts.own were (they_are m);
    }

-- A restoration's moves

entered_states : (m k : Master) (r : RestorationRecord) (state : RestorationState) (listed : List Listed) (n : ℕ) → k.restorations ≡ (restoration_enters r state listed n m).restorations
    → ((x : RestorationRecord) → In x m.restorations → same x.id r.id ≡ true → x ≡ r) → ((point : ℕ) → own_point state ≡ Some point → own_point r.state ≡ Some point) → StatesGoOn m k
entered_states m k r state listed n e alone had q point inside is =
    in_mapped {A = RestorationRecord} {B = RestorationRecord} (λ x. record x { listed = cond (same x.id r.id) listed x.listed; state = cond (same x.id r.id) state x.state })
    (λ x. own_point x.state ≡ Some point → WasIn m x point) m.restorations
    (λ x there now. either_way (same x.id r.id)
    (λ b. record {
      was = x;
      kept = there;
      namespace_is = refl;
      point_is = ap (λ y. own_point y.state) (alone x there b) ∙ had point (ap (λ c. own_point (cond c state x.state)) (sym b) ∙ now);
    })
    (λ b. record { was = x; kept = there; namespace_is = refl; point_is = ap (λ c. own_point (cond c state x.state)) (sym b) ∙ now }))
    q (subst (In q) e inside) is

alone_of : (ps : Parts) (activity : List Interval) (changes : List Change) (n : ℕ) (r : RestorationRecord) → IsFound ps activity changes n → In r ps.master.restorations → (x : RestorationRecord) → In x ps.master.restorations → same x.id r.id ≡ true → x ≡ r
alone_of ps activity changes n r found kept x there b = found.inv.operations.apart.restoration_ids x r there kept (same_equal x.id r.id b)

-- it enters a state that is none of a switch
enters : (ps : Parts) (activity : List Interval) (changes : List Change) (n : ℕ) (r : RestorationRecord) (state : RestorationState) (listed : List Listed) → IsFound ps activity changes n → In r ps.master.restorations
    → ((point : ℕ) → own_point state ≡ Some point → own_point r.state ≡ Some point) → MoveHolds ps (restoration_enters r state listed n ps.master)
enters ps activity changes n r state listed found kept had later ops =
    let k = restoration_enters r state listed n ps.master in
    alike ps activity changes n k found refl refl refl refl refl (entered_states ps.master k r state listed n refl (alone_of ps activity changes n r found kept) had)

pub record IsRestoring (rs : List RestorationRecord) (r : RestorationRecord) : Type 0 where
  pub kept : In r rs
  pub open_is : is_restored r.state ≡ false

pub restoration_found : (rs : List RestorationRecord) (id : Id) (r : RestorationRecord) → unfinished_restoration rs id ≡ Some r → IsRestoring rs r
restoration_found [] id r e = cc
restoration_found (q ∷ rs) id r e = either_way (same q.id id && not (is_restored q.state))
    (λ b.
    let first : Some q ≡ Some r = rw b at e in
    let is : q ≡ r = cc in
    let both = both_pass (same q.id id) (not (is_restored q.state)) b in
    subst (IsRestoring (q ∷ rs)) is (record { kept = inl refl; open_is = not_true (is_restored q.state) both.1 }))
    (λ b. let rest = restoration_found rs id r (rw b at e) in record { kept = inr rest.kept; open_is = rest.open_is })

-- its own snapshot is complete, since none of the namespace is unfinished
own_complete : (ps : Parts) (activity : List Interval) (changes : List Change) (n : ℕ) (r : RestorationRecord) (point : ℕ) (own serving : Id) (listed : List Listed) (later : List Change) → IsFound ps activity changes n → In r ps.master.restorations
    → r.state ≡ Snapshotting point own → OperationsGood (restoration_enters r (Switching point serving) listed n ps.master) later → (s : ScheduledNamespace) → In s ps.master.scheduled → s.namespace ≡ r.namespace → point ≤ complete_to s + 1
own_complete ps activity changes n r point own serving listed later found kept is ops s scheduled of =
    let m = ps.master in
    let good : SnapshottingGood m changes r point own = subst (λ st. RestorationStateGood st m changes r) is (found.inv.operations.restorations r kept).in_state in
    let state : RestorationState = Switching point serving in
    let now : RestorationRecord = record r { listed = cond (same r.id r.id) listed r.listed; state = cond (same r.id r.id) state r.state } in
    let there : In now (restoration_enters r state listed n m).restorations =
    map_in {A = RestorationRecord} {B = RestorationRecord} (λ x. record x { listed = cond (same x.id r.id) listed x.listed; state = cond (same x.id r.id) state x.state }) m.restorations r kept in
    let switching : SwitchingGood (restoration_enters r state listed n m) later now point serving =
    subst (λ st. RestorationStateGood st (restoration_enters r state listed n m) later now) (ap (λ c. cond c state r.state) (same_self r.id)) (ops.restorations now there).in_state in
    let complete : good.snapshot.complete ≡ true = not_false good.snapshot.complete (λ open_. switching.calm good.snapshot good.kept open_ good.namespace_is) in
    let at = (found.facts.times s scheduled).complete good.snapshot good.kept (good.namespace_is ∙ sym of) complete in
    let just : good.snapshot.at + 1 ≡ point = good.at_is in
    omega (arith, at, just)
  where
    not_false : (b : Bool) → (b ≡ false → ⊥) → b ≡ true
    not_false true h = refl
    not_false false h = absurd (h refl)

to_switch : (ps : Parts) (activity : List Interval) (changes : List Change) (n : ℕ) (r : RestorationRecord) (point : ℕ) (own serving : Id) (listed : List Listed) → IsFound ps activity changes n → In r ps.master.restorations
    → r.state ≡ Snapshotting point own → MoveHolds ps (restoration_enters r (Switching point serving) listed n ps.master)
to_switch ps activity changes n r point own serving listed found kept is later ops =
    let m = ps.master in
    let state : RestorationState = Switching point serving in
    let k = restoration_enters r state listed n m in
    record {
      on = record {
        later = le_of_lt found.before;
        scheduled = they_were m k refl;
        owned = λ id i inside owned. owned;
        activity = activity_goes_on m k (they_go_on m) found.facts.latest;
        taken = λ q inside. inl (they_were_taken m q inside);
      };
      times = λ s listed_. (let t = found.facts.times s listed_ in record { complete = t.complete; unfinished = t.unfinished; last = t.last });
      own = λ q s at inside now scheduled of.
          in_mapped {A = RestorationRecord} {B = RestorationRecord} (λ x. record x { listed = cond (same x.id r.id) listed x.listed; state = cond (same x.id r.id) state x.state })
          (λ x. own_point x.state ≡ Some at → s.namespace ≡ x.namespace → at ≤ complete_to s + 1) m.restorations
          (λ x there now_ of_. either_way (same x.id r.id)
          (λ b.
          let one : x ≡ r = found.inv.operations.apart.restoration_ids x r there kept (same_equal x.id r.id b) in
          let point_is : Some point ≡ Some at = ap (λ c. own_point (cond c state x.state)) (sym b) ∙ now_ in
          let same_point : point ≡ at = cc in
          subst (λ p. p ≤ complete_to s + 1) same_point (own_complete ps activity changes n r point own serving listed later found kept is ops s scheduled (of_ ∙ ap (λ y. y.namespace) one)))
          (λ b. found.facts.own x s at there (ap (λ c. own_point (cond c state x.state)) (sym b) ∙ now_) scheduled of_))
          q inside now of;
    }

-- The switch

pub begun_of : (m : Master) (ns : Id) (to : ℕ) (i : Interval) → In i (tablets_active_at m.catalog.owners m.activity ns to) → In i m.activity × (owner_of m.catalog.owners i.table ≡ Some ns)
begun_of m ns to i there =
    let h = filter_in (intervals_in m.catalog.owners m.activity ns) (active_at to) i there in
    let of = filter_in m.activity (λ j. owns m.catalog.owners ns j.table) i h.0 in
    (of.0, owned_is (owner_of m.catalog.owners i.table) ns of.1)

-- a tablet has its intervals for one table
one_table : (ps : Parts) (activity : List Interval) (changes : List Change) (i j : Interval) → Inv ps activity changes → In i ps.master.activity → In j ps.master.activity → i.tablet ≡ j.tablet → i.table ≡ j.table
one_table ps activity changes i j inv in_i in_j e =
    let h = inv.slots j.slot in
    let g = h.each j in_j refl in
    let home : i.slot ≡ j.slot = h.home g.present i in_i (e ∙ sym g.tablet_is) in
    sym (h.each i in_i home).table_is ∙ g.table_is

switch_begins : (ps : Parts) (activity : List Interval) (changes : List Change) (n : ℕ) (r : RestorationRecord) (point : ℕ) (serving : Id) (k : Master) → IsFound ps activity changes n → In r ps.master.restorations → r.state ≡ Switching point serving
    → k.scheduled ≡ ps.master.scheduled → k.catalog.owners ≡ ps.master.catalog.owners → ((h : Interval) → In h k.activity → (w : Interval) × (In w ps.master.activity × ((w.tablet ≡ h.tablet) × (w.table ≡ h.table))))
    → (i : Interval) → In i ps.master.activity → owner_of ps.master.catalog.owners i.table ≡ Some r.namespace → Begins ps.master k (begun_at point i)
switch_begins ps activity changes n r point serving k found kept is scheduled owners had i inside owner =
    let m = ps.master in
    let good : SwitchingGood m changes r point serving = subst (λ st. RestorationStateGood st m changes r) is (found.inv.operations.restorations r kept).in_state in
    record {
      after = λ j there of.
          let table : j.table ≡ i.table = one_table ps activity changes j i found.inv there inside of in
          (le_of_lt (good.before.begun j there (ap (owner_of m.catalog.owners) table ∙ owner)), table);
      first = λ none. absurd (none i inside refl);
      sets = λ q taken of.
          let both : Some q.namespace ≡ Some r.namespace = sym (of i inside refl) ∙ owner in
          let ns : q.namespace ≡ r.namespace = cc in
          good.is_point.snapshots q taken ns;
      since = λ s h x listed there of owned active late.
          let w = had h there in
          let table : w.0.table ≡ i.table = one_table ps activity changes w.0 i found.inv w.1.0 inside (w.1.1.0 ∙ of) in
          let owner_h : owner_of m.catalog.owners h.table ≡ Some s.namespace = owned_is (owner_of m.catalog.owners h.table) s.namespace (subst (λ os. owns os s.namespace h.table ≡ true) owners owned) in
          let both : Some s.namespace ≡ Some r.namespace = sym owner_h ∙ ap (owner_of m.catalog.owners) (sym w.1.1.1 ∙ table) ∙ owner in
          let ns : s.namespace ≡ r.namespace = cc in
          let own : point ≤ complete_to s + 1 = found.facts.own r s point kept (ap own_point is) (subst (In s) scheduled listed) ns in
          omega (arith, own, late);
    }

switch_holds : (ps : Parts) (activity : List Interval) (changes : List Change) (n : ℕ) (r : RestorationRecord) (point : ℕ) (serving : Id) → IsFound ps activity changes n → In r ps.master.restorations → r.state ≡ Switching point serving
    → MoveHolds ps (restoration_moved (Switching point serving) r n ps.master)
switch_holds ps activity changes n r point serving found kept is later ops =
    let m = ps.master in
    let k = restoration_moved (Switching point serving) r n m in
    let is_ = map (ended_if (λ i. owns m.catalog.owners r.namespace i.table) point) m.activity in
    let js = map (begun_at point) (tablets_active_at m.catalog.owners m.activity r.namespace r.to) in
    let on : GoOn m is_ = ended_go_on m (λ i. owns m.catalog.owners r.namespace i.table) point in
    let had : (h : Interval) → In h k.activity → (w : Interval) × (In w m.activity × ((w.tablet ≡ h.tablet) × (w.table ≡ h.table))) = λ h there.
    elim (in_append is_ js h there) [
      | inl old ↦ (let a = on.each h old in (a.was, (a.inside, (a.tablet_is, a.table_is))))
      | inr new ↦ in_mapped {A = Interval} {B = Interval} (begun_at point) (λ j. (w : Interval) × (In w m.activity × ((w.tablet ≡ j.tablet) × (w.table ≡ j.table)))) (tablets_active_at m.catalog.owners m.activity r.namespace r.to)
          (λ i mine. (i, ((begun_of m r.namespace r.to i mine).0, (refl, refl)))) h new
    ] in
    let begins : (j : Interval) → In j js → Begins m k j × (j.from ≡ point) =
    in_mapped {A = Interval} {B = Interval} (begun_at point) (λ j. Begins m k j × (j.from ≡ point)) (tablets_active_at m.catalog.owners m.activity r.namespace r.to)
    (λ i mine. let h = begun_of m r.namespace r.to i mine in (switch_begins ps activity changes n r point serving k found kept is refl refl had i h.0 h.1, refl)) in
    grown_holds ps activity changes k found.inv found.facts (record {
      later = le_of_lt found.before;
      scheduled = refl;
      snapshots = refl;
      owned = λ id i inside owned. owned;
      activity = activity_begins m k is_ js point refl on begins found.facts.latest;
      states = entered_states m k r (Restoring point serving) _ n refl (alone_of ps activity changes n r found kept) (λ p e. ap own_point is ∙ e);
    })

restoration_holds : (state : RestorationState) (ps : Parts) (activity : List Interval) (changes : List Change) (n : ℕ) (r : RestorationRecord) → IsFound ps activity changes n → In r ps.master.restorations → r.state ≡ state
    → MoveHolds ps (restoration_moved state r n ps.master)
restoration_holds Fencing ps activity changes n r found kept is later ops =
    let m = ps.master in
    let k = restoration_moved Fencing r n m in
    snapshot_holds ps activity changes k later r.namespace r.schedule n found.facts
    (record { inv = found.inv; times = found.facts.times; ops = ops; snapshots_are = refl; scheduled_are = refl }) (le_of_lt found.before) refl refl
    (entered_states m k r (Snapshotting (n + 1) (next_snapshot m)) _ n refl (alone_of ps activity changes n r found kept) (λ p e. cc))
restoration_holds (Snapshotting point own) ps activity changes n r found kept is later ops =
    to_switch ps activity changes n r point own _ _ found kept is later ops
restoration_holds (Switching point serving) ps activity changes n r found kept is later ops = switch_holds ps activity changes n r point serving found kept is later ops
restoration_holds (Restoring point serving) ps activity changes n r found kept is later ops = enters ps activity changes n r (Releasing point serving) _ found kept (λ p e. cc) later ops
restoration_holds (Releasing point serving) ps activity changes n r found kept is later ops = enters ps activity changes n r (Restored point serving) _ found kept (λ p e. cc) later ops
restoration_holds (Restored point serving) ps activity changes n r found kept is later ops = ticks ps activity changes n found later ops

-- A clone's moves

clone_enters_holds : (ps : Parts) (activity : List Interval) (changes : List Change) (n : ℕ) (c : CloneRecord) (state : CloneState) (listed : List Listed) → IsFound ps activity changes n → MoveHolds ps (clone_enters c state listed n ps.master)
clone_enters_holds ps activity changes n c state listed found later ops = alike ps activity changes n (clone_enters c state listed n ps.master) found refl refl refl refl refl (they_are ps.master)

pub record IsCloning (cs : List CloneRecord) (c : CloneRecord) : Type 0 where
  pub kept : In c cs
  pub open_is : is_cloned c.state ≡ false

pub clone_found : (cs : List CloneRecord) (id : Id) (c : CloneRecord) → unfinished_clone cs id ≡ Some c → IsCloning cs c
clone_found [] id c e = cc
clone_found (d ∷ cs) id c e = either_way (same d.id id && not (is_cloned d.state))
    (λ b.
    let first : Some d ≡ Some c = rw b at e in
    let is : d ≡ c = cc in
    let both = both_pass (same d.id id) (not (is_cloned d.state)) b in
    subst (IsCloning (d ∷ cs)) is (record { kept = inl refl; open_is = not_true (is_cloned d.state) both.1 }))
    (λ b. let rest = clone_found cs id c (rw b at e) in record { kept = inr rest.kept; open_is = rest.open_is })

-- a clone begins to copy, or makes a snapshot first
clone_begins_holds : (served : Option SnapshotRecord) (s : Option Schedule) (ps : Parts) (activity : List Interval) (changes : List Change) (n : ℕ) (c : CloneRecord) → IsFound ps activity changes n → schedule_of ps.master.schedules c.source ≡ s
    → MoveHolds ps (begins_clone served c n ps.master)
clone_begins_holds (Some q) s ps activity changes n c found e later ops = clone_enters_holds ps activity changes n c _ _ found later ops
clone_begins_holds None None ps activity changes n c found e later ops =
    subst (λ o. OperationsGood (clone_goes Accepted None c n ps.master (with_clones_snapshot o c n ps.master)) later → MasterHolds ps.master (clone_goes Accepted None c n ps.master (with_clones_snapshot o c n ps.master))) (sym e)
    (λ ops_. clone_enters_holds ps activity changes n c _ _ found later ops_) ops
clone_begins_holds None (Some s) ps activity changes n c found e later ops =
    subst (λ o. OperationsGood (clone_goes Accepted None c n ps.master (with_clones_snapshot o c n ps.master)) later → MasterHolds ps.master (clone_goes Accepted None c n ps.master (with_clones_snapshot o c n ps.master))) (sym e)
    (λ ops_. snapshot_holds ps activity changes (clone_goes Accepted None c n ps.master (with_clones_snapshot (Some s) c n ps.master)) later c.source s.id n found.facts
    (record { inv = found.inv; times = found.facts.times; ops = ops_; snapshots_are = refl; scheduled_are = refl }) (le_of_lt found.before) refl refl (they_are ps.master)) ops

-- the target becomes current
target_holds : (ps : Parts) (activity : List Interval) (changes : List Change) (n : ℕ) (c : CloneRecord) (serving : Id) (at : ℕ) → IsFound ps activity changes n → In c ps.master.clones → c.state ≡ Copying serving at
    → MoveHolds ps (clone_moved (Copying serving at) c n ps.master)
target_holds ps activity changes n c serving at found kept is later ops =
    let m = ps.master in
    let k = clone_moved (Copying serving at) c n m in
    let js = cloned_activity n c.tablets in
    let new : (j : Interval) → In j js → IsNew m n j = in_mapped {A = TabletPair} {B = Interval} _ (IsNew m n) c.tablets
    (λ p there. record { from_is = refl; unknown = ((found.inv.operations.clones c kept).reserved (ap is_visible is) p there).unknown }) in
    grown_holds ps activity changes k found.inv found.facts (record {
      later = le_of_lt found.before;
      scheduled = refl;
      snapshots = refl;
      owned = λ id i inside owned. owned;
      activity = activity_grows ps activity changes k m.activity js n found.inv found.before refl (they_go_on m) new found.facts.latest;
      states = they_are m;
    })

clone_holds : (state : CloneState) (ps : Parts) (activity : List Interval) (changes : List Change) (n : ℕ) (c : CloneRecord) → IsFound ps activity changes n → In c ps.master.clones → c.state ≡ state → MoveHolds ps (clone_moved state c n ps.master)
clone_holds Accepted ps activity changes n c found kept is = clone_begins_holds (serving_clone ps.master c) (schedule_of ps.master.schedules c.source) ps activity changes n c found refl
clone_holds (CloneSnapshot own) ps activity changes n c found kept is = clone_enters_holds ps activity changes n c _ _ found
clone_holds (Copying serving at) ps activity changes n c found kept is = target_holds ps activity changes n c serving at found kept is
clone_holds (CloneReleasing serving at) ps activity changes n c found kept is = clone_enters_holds ps activity changes n c _ _ found
clone_holds (CloneComplete serving at) ps activity changes n c found kept is = ticks ps activity changes n found

-- The act

of_found : {A : Type 0} (ps : Parts) (move : A → Master) (idle : Master) (o : Option A) → ((a : A) → o ≡ Some a → MoveHolds ps (move a)) → MoveHolds ps idle → MoveHolds ps (option_map_or move o idle)
of_found ps move idle None each none = none
of_found ps move idle (Some a) each none = each a refl

moved_holds : (kind : Kind) (id : Id) (ps : Parts) (activity : List Interval) (changes : List Change) (n : ℕ) → IsFound ps activity changes n → MoveHolds ps (moved_of kind id n ps.master)
moved_holds Snapshot id ps activity changes n found =
    let m = ps.master in
    of_found ps (λ r. completed r n m) (record m { clock = n }) (unfinished_snapshot m.snapshots id)
    (λ r e. let h = unfinished_found m.snapshots id r e in completed_holds ps activity changes n r found h.kept h.open_is) (ticks ps activity changes n found)
moved_holds Restoration id ps activity changes n found =
    let m = ps.master in
    of_found ps (λ r. restoration_moved r.state r n m) (record m { clock = n }) (unfinished_restoration m.restorations id)
    (λ r e. restoration_holds r.state ps activity changes n r found (restoration_found m.restorations id r e).kept refl) (ticks ps activity changes n found)
moved_holds Clone id ps activity changes n found =
    let m = ps.master in
    of_found ps (λ c. clone_moved c.state c n m) (record m { clock = n }) (unfinished_clone m.clones id)
    (λ c e. clone_holds c.state ps activity changes n c found (clone_found m.clones id c e).kept refl) (ticks ps activity changes n found)
moved_holds _ id ps activity changes n found = ticks ps activity changes n found

pub moving_holds : (on : Option Id) (operation : Id) (next : State) (n : ℕ) (ps : Parts) (activity : List Interval) (changes : List Change) → Later (slots_of (Advance operation)) ps n → IsFound ps activity changes n
    → HoldsThen (Advance operation) n ps (moving on operation next)
moving_holds (Some id) operation next n ps activity changes later found a c after = answer_holds (Advance operation) (Refused (Waiting id)) n ps activity changes later found.inv found.facts
moving_holds None operation next n ps activity changes later found a c after =
    let act = Advance operation in
    let o : Outcome = record { master = Moves operation; tablets = []; reply = Advanced next } in
    let k = moved operation n ps.master in
    let holds = moved_holds operation.kind operation ps activity changes n found c after.operations in
    told_by act o n ps activity changes found.inv found.facts holds
    (λ slot is here. back_on ps activity changes k slot (effect Clock n (ps.tablet slot)) found.inv holds.on (found.facts.tablets slot here) (like_on k (ps.tablet slot) (effect Clock n (ps.tablet slot)) here refl refl refl))

advancing_holds : (p : Option Progress) (operation : Id) (n : ℕ) (ps : Parts) (activity : List Interval) (changes : List Change) → Later (slots_of (Advance operation)) ps n → IsFound ps activity changes n
    → HoldsThen (Advance operation) n ps (advancing p operation)
advancing_holds None operation n ps activity changes later found a c after = answer_holds (Advance operation) (Refused (NotPending operation)) n ps activity changes later found.inv found.facts
advancing_holds (Some p) operation n ps activity changes later found a c after = moving_holds (waits_for (first_unacked p.listed) p.awaited) operation p.next n ps activity changes later found a c after

pub advance_holds : (operation : Id) (n : ℕ) (ps : Parts) (activity : List Interval) (changes : List Change) → Later (slots_of (Advance operation)) ps n → Inv ps activity changes → Facts ps → HoldsThen (Advance operation) n ps (advance operation n ps)
unfolding advance
advance_holds operation n ps activity changes later inv facts =
    advancing_holds (progress_of operation.kind ps.master operation) operation n ps activity changes later (record { before = later 0 refl; inv = inv; facts = facts })
