-- While a coordinator settles, the namespace of a restoration comes back: from its switch on the view has its tables and rows as
-- at the time, and no other act changes them.
use Rattle.std.proofs.Common.{ℕ, ◌≡◌, ◌≤◌, ◌<◌, List, [], true, false, cond, ◌⊎◌, Option, Some, None, inl, inr, refl, sym, ap, subst, ◌∙◌, arith, map}
use Rattle.std.specs.Option.{option_map_or}
use Rattle.std.proofs.lemmas.Bool.{cond_both, true≢false}
use Rattle.row_values.specs.Ids.{Kind, Id, Snapshot, Restoration, Clone, same}
use Rattle.row_values.specs.Elements.{In}
use Rattle.row_values.specs.Slots.{has}
use Rattle.model.specs.Catalog.{Owner, owner_of, owns, is_owned_by}
use Rattle.model.specs.Activity.{Interval}
use Rattle.model.specs.Journal.{Change as Made, NamespaceRestored, TableView, source_of, is_in, table_at, row_at}
use Rattle.model.specs.Tablets.{kind_of, is_done}
use Rattle.model.specs.Records.{Listed, Schedule, SnapshotRecord, RestorationRecord, RestorationState, Fencing, Snapshotting, Switching, Restoring, Releasing, Restored, CloneRecord, CloneState, Accepted, CloneSnapshot, Copying, CloneReleasing, CloneComplete, is_restored, is_cloned, schedule_of}
use Rattle.model.specs.Acts.{Act, Send, Process, Ack, Advance, Acked, NotDone, Refused}
use Rattle.model.specs.Parts.{Master, Parts, Outcome, Acks, Unsends}
use Rattle.model.specs.Coordination.{pending, sending, send, processing, process, acknowledging, ack, acked_by, acked as acked_master, source_slot, unfinished_restoration, unfinished_clone}
use Rattle.model.specs.Moves.{Progress, moved, moved_of, completed, restoration_moved, restoration_next, restoration_lists, given_restoration, clone_moved, begins_clone, clone_goes, with_clones_snapshot, serving_clone}
use Rattle.model.specs.Right.{is_fixed}
use Rattle.model.specs.Entries.{slots_of}
use Rattle.model.specs.History.{outcome, told, master_effect, with_changes, with_either, with_restoration, with_clone}
use Rattle.model.specs.Settling.{after_act, stamp_under}
use Rattle.law_store.proofs.Keys.{either_way}
use Rattle.law_invariants.specs.Invariant.{Inv}
use Rattle.law_invariants.specs.Operations.{OperationsGood, RestorationStateGood, has_switched}
use Rattle.law_invariants.proofs.Finding.{in_mapped, map_in, same_equal, same_self, passes_both, either_is}
use Rattle.law_invariants.proofs.Undoing.{owned_is}
use Rattle.law_invariants.proofs.Advancing.{no_restoration, no_clone}
use Rattle.law_commands.proofs.Acked.{ack_restoration}
use Rattle.law_moves.proofs.Viewing.{Inside, restore, restored_before, rows_before, table_back, table_other, row_back, row_other}
use Rattle.law_clones.proofs.Viewing.{clone, by_source, table_aside, rows_aside}
use Rattle.law_clones.proofs.Growing.{Becomes, owned_target}
use Rattle.law_drive.specs.Settled.{CameBack}
use Rattle.law_drive.proofs.Choosing.{Unfinished, OfSnapshot, OfRestoration, OfClone, Choice, ChoseSend, ChoseAck, ChoseProcess, ChoseMove, snapshot_found, restoration_found, clone_found}
use Rattle.law_moves.proofs.Entering.{entering}
use Rattle.law_drive.proofs.Steps.{eqb_self}
use Rattle.law_drive.proofs.Moving.{advance_moves}
use Rattle.law_drive.proofs.Coming.{processing_ticks, later_under}

-- Records go on

-- a restoration was there before, for the same namespace and time, and unfinished if it is
abbrev WasSo : Master → RestorationRecord → Type 0
WasSo m q = (r : RestorationRecord) × (In r m.restorations × ((r.id ≡ q.id) × ((r.namespace ≡ q.namespace) × ((r.to ≡ q.to) × (is_restored q.state ≡ false → is_restored r.state ≡ false)))))

-- one that hasn't switched is there
abbrev IsUnswitched : Master → RestorationRecord → Type 0
IsUnswitched m r = (q : RestorationRecord) × (In q m.restorations × ((q.id ≡ r.id) × ((q.namespace ≡ r.namespace) × (has_switched q.state ≡ false))))

record GoOn (m after : Master) : Type 0 where
  owners : after.catalog.owners ≡ m.catalog.owners
  was : (q : RestorationRecord) → In q after.restorations → WasSo m q

abbrev Keep : Master → Master → Type 0
Keep m after = (r : RestorationRecord) → In r m.restorations → has_switched r.state ≡ false → IsUnswitched after r

same_go_on : (m after : Master) → after.catalog.owners ≡ m.catalog.owners → after.restorations ≡ m.restorations → GoOn m after
same_go_on m after owners same_ = record { owners = owners; was = λ q isin. (q, (subst (In q) same_ isin, (refl, (refl, (refl, λ e. e))))) }

same_keep : (m after : Master) → after.restorations ≡ m.restorations → Keep m after
same_keep m after same_ = λ r isin unswitched. (r, (subst (In r) (sym same_) isin, (refl, (refl, unswitched))))

-- an ack changes what a record lists
acked_go_on : (kind : Kind) (m : Master) (operation : Id) (slot n : ℕ) → GoOn m (acked_by kind operation slot n m)
acked_go_on Restoration m operation slot n = record {
  owners = refl;
  was = in_mapped (ack_restoration operation slot) (WasSo m) m.restorations (λ r isin. (r, (isin, (refl, (refl, (refl, λ e. e))))));
}
acked_go_on Snapshot m operation slot n = same_go_on m (acked_by Snapshot operation slot n m) refl refl
acked_go_on Clone m operation slot n = same_go_on m (acked_by Clone operation slot n m) refl refl
acked_go_on kind m operation slot n = same_go_on m (acked_by kind operation slot n m) refl refl

acked_keep : (kind : Kind) (m : Master) (operation : Id) (slot n : ℕ) → Keep m (acked_by kind operation slot n m)
acked_keep Restoration m operation slot n = λ r isin unswitched. (ack_restoration operation slot r, (map_in (ack_restoration operation slot) m.restorations r isin, (refl, (refl, unswitched))))
acked_keep Snapshot m operation slot n = same_keep m (acked_by Snapshot operation slot n m) refl
acked_keep Clone m operation slot n = same_keep m (acked_by Clone operation slot n m) refl
acked_keep kind m operation slot n = same_keep m (acked_by kind operation slot n m) refl

-- a restoration that moves was unfinished
moved_go_on : (m after : Master) (changes : List Made) (v : RestorationRecord) (state : RestorationState) (listed : List Listed) → OperationsGood m changes → In v m.restorations → is_restored v.state ≡ false → after.catalog.owners ≡ m.catalog.owners
    → after.restorations ≡ map (entering v state listed) m.restorations → GoOn m after
moved_go_on m after changes v state listed ops kept still owners is = record {
  owners = owners;
  was = λ q isin. in_mapped (entering v state listed) (WasSo m) m.restorations
      (λ r inr_. (
        r,
        (
          inr_,
          (
            refl,
            (
              refl,
              (
                refl,
                λ open_. either_way (same r.id v.id)
                    (λ e. let one : v ≡ r = ops.apart.restoration_ids v r kept inr_ (sym (same_equal r.id v.id e)) in subst (λ k. is_restored k.state ≡ false) one still)
                    (λ e. let was_ : is_restored r.state ≡ is_restored (cond (same r.id v.id) state r.state) = ap (λ b. is_restored (cond b state r.state)) (sym e) in was_ ∙ open_),
              ),
            ),
          ),
        ),
      ))
      q (subst (In q) is isin);
}

moved_keep : (m after : Master) (changes : List Made) (v : RestorationRecord) (state : RestorationState) (listed : List Listed) → OperationsGood m changes → In v m.restorations
    → after.restorations ≡ map (entering v state listed) m.restorations
    → (r : RestorationRecord) → In r m.restorations → has_switched r.state ≡ false → (v ≡ r → has_switched state ≡ false) → IsUnswitched after r
moved_keep m after changes v state listed ops kept is r isin unswitched stays = (
  entering v state listed r,
  (
    subst (In (entering v state listed r)) (sym is) (map_in (entering v state listed) m.restorations r isin),
    (
      refl,
      (
        refl,
        either_way (same r.id v.id)
            (λ e. subst (λ b. has_switched (cond b state r.state) ≡ false) (sym e) (stays (ops.apart.restoration_ids v r kept isin (sym (same_equal r.id v.id e)))))
            (λ e. subst (λ b. has_switched (cond b state r.state) ≡ false) (sym e) unswitched),
      ),
    ),
  ),
)

-- On its way

-- from a point on, at which the journal has the restore, the tables of the namespace are as at the time
pub record Shown (os : List Owner) (ns : Id) (to : ℕ) (before changes : List Made) : Type 0 where
  pub point : ℕ
  pub restored : In (record { stamp = point; act = NamespaceRestored ns to }) changes
  pub fixed : is_fixed changes ns to ≡ true
  pub tables : (id : Id) (x : ℕ) → owns os ns id ≡ true → point ≤ x → table_at changes x id ≡ table_at before to id
  pub rows : (id : Id) (key : List ℕ) (x : ℕ) → owns os ns id ≡ true → point ≤ x → row_at changes x id key ≡ row_at before to id key

abbrev pub Unswitched : Master → Id → Id → Type 0
Unswitched m operation ns = (r : RestorationRecord) × (In r m.restorations × ((r.id ≡ operation) × ((r.namespace ≡ ns) × (has_switched r.state ≡ false))))

-- the restoration is the namespace's only unfinished one, and what the namespace was at the time is as it was; the restoration
-- hasn't switched, or the namespace is back
pub record OnItsWay (os : List Owner) (ns : Id) (to : ℕ) (operation : Id) (before : List Made) (m : Master) (changes : List Made) : Type 0 where
  pub owners : m.catalog.owners ≡ os
  pub alone : (q : RestorationRecord) → In q m.restorations → q.namespace ≡ ns → is_restored q.state ≡ false → (q.id ≡ operation) × (q.to ≡ to)
  pub then_tables : (id : Id) → owns os ns id ≡ true → table_at changes to id ≡ table_at before to id
  pub then_rows : (id : Id) (key : List ℕ) → owns os ns id ≡ true → row_at changes to id key ≡ row_at before to id key
  pub shown : Unswitched m operation ns ⊎ Shown os ns to before changes

module _ (os : List Owner) (ns : Id) (to : ℕ) (operation : Id) (before : List Made) where
  still_alone : (m after : Master) (changes : List Made) → OnItsWay os ns to operation before m changes → GoOn m after
      → (q : RestorationRecord) → In q after.restorations → q.namespace ≡ ns → is_restored q.state ≡ false → (q.id ≡ operation) × (q.to ≡ to)
  still_alone m after changes h g q isin is open_ =
      let w = g.was q isin in
      let a = h.alone w.0 w.1.0 (w.1.1.1.0 ∙ is) (w.1.1.1.1.1 open_) in
      (sym w.1.1.0 ∙ a.0, sym w.1.1.1.1.0 ∙ a.1)

  still_unswitched : (m after : Master) → Keep m after → Unswitched m operation ns → Unswitched after operation ns
  still_unswitched m after keep u = let k = keep u.0 u.1.0 u.1.1.1.1 in (k.0, (k.1.0, (k.1.1.0 ∙ u.1.1.0, (k.1.1.1.0 ∙ u.1.1.1.0, k.1.1.1.1))))

  -- the journal stays
  same_on : (m after : Master) (changes : List Made) → GoOn m after → Keep m after → OnItsWay os ns to operation before m changes → OnItsWay os ns to operation before after changes
  same_on m after changes g keep h = record {
    owners = g.owners ∙ h.owners;
    alone = still_alone m after changes h g;
    then_tables = h.then_tables;
    then_rows = h.then_rows;
    shown = elim h.shown [ inl u ↦ inl (still_unswitched m after keep u) | inr s ↦ inr s ];
  }

  quiet_on : (m after : Master) (changes : List Made) → after.catalog.owners ≡ m.catalog.owners → after.restorations ≡ m.restorations → OnItsWay os ns to operation before m changes → OnItsWay os ns to operation before after changes
  quiet_on m after changes owners same_ h = same_on m after changes (same_go_on m after owners same_) (same_keep m after same_) h

  -- the switch of the restoration
  switched_on : (m after : Master) (changes : List Made) (point : ℕ) → Inside os changes → to < point → GoOn m after → OnItsWay os ns to operation before m changes → OnItsWay os ns to operation before after (restore point ns to changes)
  switched_on m after changes point inside less g h = record {
    owners = g.owners ∙ h.owners;
    alone = still_alone m after changes h g;
    then_tables = λ id mine. restored_before point ns to changes to id less ∙ h.then_tables id mine;
    then_rows = λ id key mine. rows_before point ns to changes to id key less ∙ h.then_rows id key mine;
    shown = inr (record {
      point = point;
      restored = inl refl;
      fixed = ap (λ b. cond b true (is_fixed changes ns to)) (passes_both _ _ (same_self ns) (eqb_self to));
      tables = λ id x mine le. table_back os changes ns id point to x inside mine le ∙ h.then_tables id mine;
      rows = λ id key x mine le. row_back os changes ns id point to x key inside mine le ∙ h.then_rows id key mine;
    });
  }

  others_own : (other id : Id) → same ns other ≡ false → owns os ns id ≡ true → owns os other id ≡ false
  others_own other id apart mine = subst (λ o. is_owned_by o other ≡ false) (sym (owned_is (owner_of os id) ns mine)) apart

  -- one of another namespace
  other_on : (m after : Master) (changes : List Made) (point : ℕ) (other : Id) (at : ℕ) → Inside os changes → same ns other ≡ false → GoOn m after → (Unswitched m operation ns → Unswitched after operation ns)
      → OnItsWay os ns to operation before m changes → OnItsWay os ns to operation before after (restore point other at changes)
  other_on m after changes point other at inside apart g keep h = record {
    owners = g.owners ∙ h.owners;
    alone = still_alone m after changes h g;
    then_tables = λ id mine. table_other os changes other id point at to inside (others_own other id apart mine) ∙ h.then_tables id mine;
    then_rows = λ id key mine. row_other os changes other id point at to key inside (others_own other id apart mine) ∙ h.then_rows id key mine;
    shown = elim h.shown [
      | inl u ↦ inl (keep u)
      | inr s ↦ inr (record {
        point = s.point;
        restored = inr s.restored;
        fixed = cond_both _ true (is_fixed changes ns to) (λ b. b ≡ true) (λ _. refl) (λ _. s.fixed);
        tables = λ id x mine le. table_other os changes other id point at x inside (others_own other id apart mine) ∙ s.tables id x mine le;
        rows = λ id key x mine le. row_other os changes other id point at x key inside (others_own other id apart mine) ∙ s.rows id key x mine le;
      })
    ];
  }

  -- a clone, whose target is another namespace
  cloned_on : (m after : Master) (changes : List Made) (n : ℕ) (k : CloneRecord) → ((id : Id) → owns os ns id ≡ true → source_of k.tables id ≡ None) → GoOn m after → Keep m after
      → OnItsWay os ns to operation before m changes → OnItsWay os ns to operation before after (clone n k changes)
  cloned_on m after changes n k aside g keep h = record {
    owners = g.owners ∙ h.owners;
    alone = still_alone m after changes h g;
    then_tables = λ id mine. table_aside n k changes to id (aside id mine) ∙ h.then_tables id mine;
    then_rows = λ id key mine. rows_aside n k changes to id key (aside id mine) ∙ h.then_rows id key mine;
    shown = elim h.shown [
      | inl u ↦ inl (still_unswitched m after keep u)
      | inr s ↦ inr (record {
        point = s.point;
        restored = inr s.restored;
        fixed = cond_both _ true (is_fixed changes ns to) (λ b. b ≡ true) (λ _. refl) (λ _. s.fixed);
        tables = λ id x mine le. table_aside n k changes x id (aside id mine) ∙ s.tables id x mine le;
        rows = λ id key x mine le. rows_aside n k changes x id key (aside id mine) ∙ s.rows id key x mine le;
      })
    ];
  }

  -- Moves

  switch_on : (m : Master) (changes : List Made) (n : ℕ) (v : RestorationRecord) (point : ℕ) (serving : Id) → OperationsGood m changes → Inside os changes → v.to < point → In v m.restorations → v.state ≡ Switching point serving
      → OnItsWay os ns to operation before m changes → OnItsWay os ns to operation before (restoration_moved (Switching point serving) v n m) (restore point v.namespace v.to changes)
  switch_on m changes n v point serving ops inside less kept is h =
      let after = restoration_moved (Switching point serving) v n m in
      let g = given_restoration (Switching point serving) v n m in
      let still : is_restored v.state ≡ false = ap is_restored is in
      let go : GoOn m after = moved_go_on m after changes v (restoration_next (Switching point serving) g) (restoration_lists (Switching point serving) v m) ops kept still refl refl in
      either_way (same ns v.namespace)
      (λ e. let one = same_equal ns v.namespace e in
      let a = h.alone v kept (sym one) still in
      subst (λ k. OnItsWay os ns to operation before after (restore point k v.to changes)) one
      (subst (λ k. OnItsWay os ns to operation before after (restore point ns k changes)) (sym a.1)
      (switched_on m after changes point inside (subst (λ k. k < point) a.1 less) go h)))
      (λ e. other_on m after changes point v.namespace v.to inside e go
      (λ u. let k = moved_keep m after changes v (restoration_next (Switching point serving) g) (restoration_lists (Switching point serving) v m) ops kept refl u.0 u.1.0 u.1.1.1.1
      (λ one. absurd (true≢false (sym (subst (λ q. same ns q ≡ true) (sym (ap (λ q. q.namespace) one ∙ u.1.1.1.0)) (same_self ns)) ∙ e))) in
      (k.0, (k.1.0, (k.1.1.0 ∙ u.1.1.0, (k.1.1.1.0 ∙ u.1.1.1.0, k.1.1.1.1)))))
      h)

  restoration_on : (state : RestorationState) (m : Master) (changes : List Made) (n : ℕ) (v : RestorationRecord) → OperationsGood m changes → Inside os changes → RestorationStateGood state m changes v → In v m.restorations → v.state ≡ state → is_restored state ≡ false
      → OnItsWay os ns to operation before m changes → OnItsWay os ns to operation before (restoration_moved state v n m) (with_restoration state v changes)
  restoration_on (Switching point serving) m changes n v ops inside good kept is still h = switch_on m changes n v point serving ops inside good.is_point.later kept is h
  restoration_on Fencing m changes n v ops inside good kept is still h =
      let after = restoration_moved Fencing v n m in
      let g = given_restoration Fencing v n m in
      same_on m after changes (moved_go_on m after changes v (restoration_next Fencing g) (restoration_lists Fencing v m) ops kept (ap is_restored is) refl refl)
      (λ r isin unswitched. moved_keep m after changes v (restoration_next Fencing g) (restoration_lists Fencing v m) ops kept refl r isin unswitched (λ one. refl)) h
  restoration_on (Snapshotting point own) m changes n v ops inside good kept is still h =
      let after = restoration_moved (Snapshotting point own) v n m in
      let g = given_restoration (Snapshotting point own) v n m in
      same_on m after changes (moved_go_on m after changes v (restoration_next (Snapshotting point own) g) (restoration_lists (Snapshotting point own) v m) ops kept (ap is_restored is) refl refl)
      (λ r isin unswitched. moved_keep m after changes v (restoration_next (Snapshotting point own) g) (restoration_lists (Snapshotting point own) v m) ops kept refl r isin unswitched (λ one. refl)) h
  restoration_on (Restoring point serving) m changes n v ops inside good kept is still h =
      let after = restoration_moved (Restoring point serving) v n m in
      let g = given_restoration (Restoring point serving) v n m in
      same_on m after changes (moved_go_on m after changes v (restoration_next (Restoring point serving) g) (restoration_lists (Restoring point serving) v m) ops kept (ap is_restored is) refl refl)
      (λ r isin unswitched. moved_keep m after changes v (restoration_next (Restoring point serving) g) (restoration_lists (Restoring point serving) v m) ops kept refl r isin unswitched
      (λ one. absurd (true≢false (sym (ap has_switched is) ∙ ap (λ q. has_switched q.state) one ∙ unswitched)))) h
  restoration_on (Releasing point serving) m changes n v ops inside good kept is still h =
      let after = restoration_moved (Releasing point serving) v n m in
      let g = given_restoration (Releasing point serving) v n m in
      same_on m after changes (moved_go_on m after changes v (restoration_next (Releasing point serving) g) (restoration_lists (Releasing point serving) v m) ops kept (ap is_restored is) refl refl)
      (λ r isin unswitched. moved_keep m after changes v (restoration_next (Releasing point serving) g) (restoration_lists (Releasing point serving) v m) ops kept refl r isin unswitched
      (λ one. absurd (true≢false (sym (ap has_switched is) ∙ ap (λ q. has_switched q.state) one ∙ unswitched)))) h
  restoration_on (Restored point serving) m changes n v ops inside good kept is still h = absurd (true≢false still)

  clone_go_on : (state : CloneState) (m : Master) (k : CloneRecord) (n : ℕ) → GoOn m (clone_moved state k n m) × Keep m (clone_moved state k n m)
  clone_go_on Accepted m k n = begins (serving_clone m k) (schedule_of m.schedules k.source) refl
    where
      quiet : (after : Master) → after.catalog.owners ≡ m.catalog.owners → after.restorations ≡ m.restorations → GoOn m after × Keep m after
      quiet after e f = (same_go_on m after e f, same_keep m after f)

      begins : (serving : Option SnapshotRecord) (schedule : Option Schedule) → schedule_of m.schedules k.source ≡ schedule → GoOn m (begins_clone serving k n m) × Keep m (begins_clone serving k n m)
      begins (Some s) schedule by = quiet (begins_clone (Some s) k n m) refl refl
      begins None None by = subst (λ o. GoOn m (clone_goes Accepted None k n m (with_clones_snapshot o k n m)) × Keep m (clone_goes Accepted None k n m (with_clones_snapshot o k n m))) (sym by) (quiet (clone_goes Accepted None k n m m) refl refl)
      begins None (Some s) by = subst (λ o. GoOn m (clone_goes Accepted None k n m (with_clones_snapshot o k n m)) × Keep m (clone_goes Accepted None k n m (with_clones_snapshot o k n m))) (sym by) (quiet (clone_goes Accepted None k n m (with_clones_snapshot (Some s) k n m)) refl refl)
  clone_go_on (CloneSnapshot own) m k n = (same_go_on m (clone_moved (CloneSnapshot own) k n m) refl refl, same_keep m (clone_moved (CloneSnapshot own) k n m) refl)
  clone_go_on (Copying serving at) m k n = (same_go_on m (clone_moved (Copying serving at) k n m) refl refl, same_keep m (clone_moved (Copying serving at) k n m) refl)
  clone_go_on (CloneReleasing serving at) m k n = (same_go_on m (clone_moved (CloneReleasing serving at) k n m) refl refl, same_keep m (clone_moved (CloneReleasing serving at) k n m) refl)
  clone_go_on (CloneComplete serving at) m k n = (same_go_on m (clone_moved (CloneComplete serving at) k n m) refl refl, same_keep m (clone_moved (CloneComplete serving at) k n m) refl)

  not_switched : (state : RestorationState) → has_switched state ≡ false → is_restored state ≡ false
  not_switched Fencing e = refl
  not_switched (Snapshotting point own) e = refl
  not_switched (Switching point serving) e = refl
  not_switched (Restoring point serving) e = absurd (true≢false e)
  not_switched (Releasing point serving) e = absurd (true≢false e)
  not_switched (Restored point serving) e = absurd (true≢false e)

  -- a clone's target is no namespace that is taken back
  no_target : (ps : Parts) (activity : List Interval) (changes : List Made) (k : CloneRecord) → Inv ps activity changes → In k ps.master.clones → is_cloned k.state ≡ false → OnItsWay os ns to operation before ps.master changes → k.target_id ≡ ns → ⊥
  no_target ps activity changes k inv kept still h is = elim h.shown [
    | inl u ↦ inv.operations.apart.one_operation u.0 k u.1.0 kept (not_switched u.0.state u.1.1.1.1) still (inr (is ∙ sym u.1.1.1.0))
    | inr s ↦ (inv.operations.clones k kept).unfixed still to (subst (λ i. is_fixed changes i to ≡ true) (sym is) s.fixed)
  ]

  some_same : (a b : Id) → Some a ≡ Some b → a ≡ b
  some_same a b e = cc

  clone_on : (state : CloneState) (ps : Parts) (activity : List Interval) (changes : List Made) (n : ℕ) (k : CloneRecord) → ps.master.clock < n → Inv ps activity changes → In k ps.master.clones → k.state ≡ state → is_cloned state ≡ false
      → OnItsWay os ns to operation before ps.master changes → OnItsWay os ns to operation before (clone_moved state k n ps.master) (with_clone state k n changes)
  clone_on (Copying serving at) ps activity changes n k less inv kept is still h =
      let g = clone_go_on (Copying serving at) ps.master k n in
      let b : Becomes ps activity changes n k serving at = record { before = less; kept = kept; is = is; inv = inv } in
      cloned_on ps.master (clone_moved (Copying serving at) k n ps.master) changes n k
      (λ id mine. by_source k.tables id (λ none. none)
      (λ d paired target. absurd (no_target ps activity changes k inv kept (ap is_cloned is) h
      (some_same k.target_id ns (sym (owned_target ps activity changes n k serving at b d paired) ∙ ap (owner_of ps.master.catalog.owners) target ∙ ap (λ o. owner_of o id) h.owners ∙ owned_is (owner_of os id) ns mine)))))
      g.0 g.1 h
  clone_on Accepted ps activity changes n k less inv kept is still h = let g = clone_go_on Accepted ps.master k n in same_on ps.master (clone_moved Accepted k n ps.master) changes g.0 g.1 h
  clone_on (CloneSnapshot own) ps activity changes n k less inv kept is still h = let g = clone_go_on (CloneSnapshot own) ps.master k n in same_on ps.master (clone_moved (CloneSnapshot own) k n ps.master) changes g.0 g.1 h
  clone_on (CloneReleasing serving at) ps activity changes n k less inv kept is still h = let g = clone_go_on (CloneReleasing serving at) ps.master k n in same_on ps.master (clone_moved (CloneReleasing serving at) k n ps.master) changes g.0 g.1 h
  clone_on (CloneComplete serving at) ps activity changes n k less inv kept is still h = absurd (true≢false still)

  -- Whatever moves

  pub inside_now : (ps : Parts) (activity : List Interval) (changes : List Made) → Inv ps activity changes → ps.master.catalog.owners ≡ os → Inside os changes
  inside_now ps activity changes inv is = λ id x v e. ap (λ o. owner_of o id) (sym is) ∙ inv.master.tables.inside id x v e

  abbrev OnWay : Master → List Made → Type 0
  OnWay m changes = OnItsWay os ns to operation before m changes

  move_on : (ps : Parts) (activity : List Interval) (changes : List Made) (n : ℕ) (p : Progress) → ps.master.clock < n → Inv ps activity changes → Unfinished ps.master p → OnWay ps.master changes
      → OnWay (moved p.id n ps.master) (with_either (unfinished_restoration ps.master.restorations p.id) (unfinished_clone ps.master.clones p.id) n changes)
  move_on ps activity changes n p less inv (OfSnapshot r kept still is) h =
      let m = ps.master in
      let ops = inv.operations in
      let kind : r.id.kind ≡ Snapshot = (ops.snapshots r kept).kind_is in
      subst (λ q. OnWay (moved q.id n m) (with_either (unfinished_restoration m.restorations q.id) (unfinished_clone m.clones q.id) n changes)) is
      (subst (λ a. OnWay (moved r.id n m) (with_either a (unfinished_clone m.clones r.id) n changes)) (sym (no_restoration m changes r.id ops (λ e. let q : Snapshot ≡ Restoration = sym kind ∙ e in other_kind q)))
      (subst (λ a. OnWay (moved r.id n m) (with_either None a n changes)) (sym (no_clone m changes r.id ops (λ e. let q : Snapshot ≡ Clone = sym kind ∙ e in other_clone q)))
      (subst (λ k. OnWay (moved_of k r.id n m) changes) (sym kind)
      (subst (λ found. OnWay (option_map_or (λ q. completed q n m) found (record m { clock = n })) changes) (sym (snapshot_found m changes r ops kept still))
      (quiet_on m (completed r n m) changes refl refl h)))))
    where
      other_kind : Snapshot ≡ Restoration → ⊥
      other_kind e = let q = e in grind arith

      other_clone : Snapshot ≡ Clone → ⊥
      other_clone e = let q = e in grind arith
  move_on ps activity changes n p less inv (OfRestoration r kept still is) h =
      let m = ps.master in
      let ops = inv.operations in
      let good = ops.restorations r kept in
      subst (λ q. OnWay (moved q.id n m) (with_either (unfinished_restoration m.restorations q.id) (unfinished_clone m.clones q.id) n changes)) is
      (subst (λ found. OnWay (moved r.id n m) (with_either found (unfinished_clone m.clones r.id) n changes)) (sym (restoration_found m changes r ops kept still))
      (subst (λ k. OnWay (moved_of k r.id n m) (with_restoration r.state r changes)) (sym good.kind_is)
      (subst (λ found. OnWay (option_map_or (λ q. restoration_moved q.state q n m) found (record m { clock = n })) (with_restoration r.state r changes)) (sym (restoration_found m changes r ops kept still))
      (restoration_on r.state m changes n r ops (inside_now ps activity changes inv h.owners) good.in_state kept refl still h))))
  move_on ps activity changes n p less inv (OfClone r kept still is) h =
      let m = ps.master in
      let ops = inv.operations in
      let kind = (ops.clones r kept).kind_is in
      subst (λ q. OnWay (moved q.id n m) (with_either (unfinished_restoration m.restorations q.id) (unfinished_clone m.clones q.id) n changes)) is
      (subst (λ a. OnWay (moved r.id n m) (with_either a (unfinished_clone m.clones r.id) n changes)) (sym (no_restoration m changes r.id ops (λ e. let q : Clone ≡ Restoration = sym kind ∙ e in other_kind q)))
      (subst (λ a. OnWay (moved r.id n m) (with_either None a n changes)) (sym (clone_found m changes r ops kept still))
      (subst (λ k. OnWay (moved_of k r.id n m) (with_clone r.state r n changes)) (sym kind)
      (subst (λ found. OnWay (option_map_or (λ q. clone_moved q.state q n m) found (record m { clock = n })) (with_clone r.state r n changes)) (sym (clone_found m changes r ops kept still))
      (clone_on r.state ps activity changes n r less inv kept refl still h)))))
    where
      other_kind : Clone ≡ Restoration → ⊥
      other_kind e = let q = e in grind arith

  -- Acts

  send_on : (ps : Parts) (changes : List Made) (p : Id) (slot n : ℕ) (found : Option Listed) → OnWay ps.master changes → OnWay (told (Send p slot) (sending found p slot) n ps).master changes
  send_on ps changes p slot n None h = quiet_on ps.master (told (Send p slot) (sending None p slot) n ps).master changes refl refl h
  send_on ps changes p slot n (Some l) h = quiet_on ps.master (told (Send p slot) (sending (Some l) p slot) n ps).master changes refl refl h

  sent_on : (ps : Parts) (changes : List Made) (p : Id) (slot n : ℕ) → OnWay ps.master changes → OnWay (told (Send p slot) (send p slot n ps) n ps).master changes
  unfolding send
  sent_on ps changes p slot n h = send_on ps changes p slot n (pending ps.master p slot) h

  acking_on : (ps : Parts) (changes : List Made) (p : Id) (slot n : ℕ) (found : Option Listed) → OnWay ps.master changes → OnWay (told (Ack p slot) (acknowledging found p slot (ps.tablet slot)) n ps).master changes
  acking_on ps changes p slot n None h = quiet_on ps.master (told (Ack p slot) (acknowledging None p slot (ps.tablet slot)) n ps).master changes refl refl h
  acking_on ps changes p slot n (Some l) h =
      cond_both (is_done (ps.tablet slot).done p (kind_of l.body)) (record { master = Acks p slot; tablets = []; reply = Acked }) (record { master = Unsends p slot; tablets = []; reply = Refused NotDone })
      (λ (o : Outcome). OnWay (told (Ack p slot) o n ps).master changes)
      (λ _. same_on ps.master (acked_master p slot n ps.master) changes (acked_go_on p.kind ps.master p slot n) (acked_keep p.kind ps.master p slot n) h)
      (λ _. quiet_on ps.master (told (Ack p slot) (record { master = Unsends p slot; tablets = []; reply = Refused NotDone }) n ps).master changes refl refl h)

  acked_on : (ps : Parts) (changes : List Made) (p : Id) (slot n : ℕ) → OnWay ps.master changes → OnWay (told (Ack p slot) (ack p slot n ps) n ps).master changes
  unfolding ack
  acked_on ps changes p slot n h = acking_on ps changes p slot n (pending ps.master p slot) h

  processed_on : (ps : Parts) (changes : List Made) (slot other n : ℕ) → OnWay ps.master changes → OnWay (told (Process slot other) (process slot other n ps) n ps).master changes
  unfolding process
  processed_on ps changes slot other n h =
      let o = processing (ps.tablet slot).inbox slot other (ps.tablet other) in
      let act = Process slot other in
      cond_both (has (slots_of act) 0) (master_effect o.master n ps.master) ps.master (λ m. OnWay m changes)
      (λ _. subst (λ k. OnWay (master_effect k n ps.master) changes) (sym (processing_ticks (ps.tablet slot).inbox slot other (ps.tablet other))) (quiet_on ps.master (record ps.master { clock = n }) changes refl refl h))
      (λ _. h)

  abbrev AfterAct : ℕ → Act → Parts → List Made → Type 0
  AfterAct reading act ps changes = let n = stamp_under reading act ps in OnWay (after_act reading act ps).master (with_changes act (outcome act n ps) n ps changes)

  pub act_on : (ps : Parts) (activity : List Interval) (changes : List Made) (reading : ℕ) (act : Act) → Inv ps activity changes → Choice ps act → OnWay ps.master changes → AfterAct reading act ps changes
  act_on ps activity changes reading act inv (ChoseSend p record_ l first unsent is) h = subst (λ a. AfterAct reading a ps changes) is (sent_on ps changes p.id l.slot (stamp_under reading (Send p.id l.slot) ps) h)
  act_on ps activity changes reading act inv (ChoseAck p record_ l first sent held is) h = subst (λ a. AfterAct reading a ps changes) is (acked_on ps changes p.id l.slot (stamp_under reading (Ack p.id l.slot) ps) h)
  act_on ps activity changes reading act inv (ChoseProcess p record_ l first c cs held is) h = subst (λ a. AfterAct reading a ps changes) is
      (let other = source_slot l.slot l.body in processed_on ps changes l.slot other (stamp_under reading (Process l.slot other) ps) h)
  act_on ps activity changes reading act inv (ChoseMove p record_ all free is) h = subst (λ a. AfterAct reading a ps changes) is
      (let n = stamp_under reading (Advance p.id) ps in
      subst (λ o. OnWay (told (Advance p.id) o n ps).master (with_changes (Advance p.id) o n ps changes)) (sym (advance_moves n ps changes p inv.operations record_ all free))
      (move_on ps activity changes n p (later_under reading (Advance p.id) ps 0 refl) inv record_ h))

  -- The end

  owned_by : (t : Option TableView) (owner : Option Id) → is_in ns t ≡ true → ((v : TableView) → t ≡ Some v → owner ≡ Some v.namespace) → is_owned_by owner ns ≡ true
  owned_by None owner e inside = absurd (true≢false (sym e))
  owned_by (Some v) owner e inside = subst (λ o. is_owned_by o ns ≡ true) (sym (inside v refl)) e

  pub came_back : (m : Master) (changes : List Made) → Inside os changes → Inside os before → ((r : RestorationRecord) → In r m.restorations → is_restored r.state ≡ true) → OnWay m changes → CameBack changes before ns to
  came_back m changes inside inside_before done h = elim h.shown [
    | inl u ↦ absurd (true≢false (sym (done u.0 u.1.0) ∙ not_switched u.0.state u.1.1.1.1))
    | inr s ↦ record {
      point = s.point;
      restored = s.restored;
      tables = λ id x le there. either_is (is_in ns (table_at changes x id)) (is_in ns (table_at before to id)) there
          (λ e. s.tables id x (owned_by (table_at changes x id) (owner_of os id) e (λ v f. inside id x v f)) le)
          (λ e. s.tables id x (owned_by (table_at before to id) (owner_of os id) e (λ v f. inside_before id to v f)) le);
      rows = λ id key x le there. s.rows id key x (owned_by (table_at before to id) (owner_of os id) there (λ v f. inside_before id to v f)) le;
    }
  ]
