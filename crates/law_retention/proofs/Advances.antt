-- No move of a record takes anything that a time needs. The switch of a restoration puts other tables in place from its point on
-- alone, and a snapshot that is complete serves times whose rows were had from the frozen sets of its own.
use Rattle.std.proofs.Common.{◌&&◌, ◌≤◌, ◌≡◌, ◌∷◌, ◌∙◌, ◌<◌, ◌⊎◌, ℕ, List, [], Bool, true, false, cond, Option, Some, None, map, not, refl, sym, ap, subst, inl, inr, arith, le_of_lt, leb, ltb, ltb-true, unwrap_or}
use Rattle.std.proofs.lemmas.Bool.{cond_both, true≢false}
use Rattle.std.specs.Option.{option_and_then, option_map, option_map_or}
use Rattle.row_values.specs.Elements.{In}
use Rattle.row_values.specs.Ids.{Clone, Id, Kind, Restoration, Snapshot, same}
use Rattle.model.specs.Activity.{Interval}
use Rattle.model.specs.Acts.{Act, Advance, Advanced, NotPending, Refused, Waiting}
use Rattle.model.specs.Catalog.{TableRecord, by_id, owner_of, owns, put_table, tables_at}
use Rattle.model.specs.Cleanup.{floor_of}
use Rattle.model.specs.Coordination.{unfinished_clone, unfinished_restoration, unfinished_snapshot}
use Rattle.model.specs.Entries.{slots_of}
use Rattle.model.specs.History.{told}
use Rattle.model.specs.Journal.{Change as Made}
use Rattle.model.specs.Lists.{tablets_active_at}
use Rattle.model.specs.Looks.{place_of}
use Rattle.model.specs.Moves.{Progress, advance, advancing, begins_clone, clone_goes, clone_moved, completed, moved_of, moving, progress_of, restoration_moved, serving_clone, snapshot_advanced, waits_for, with_clones_snapshot}
use Rattle.model.specs.Operations.{restoration_of}
use Rattle.model.specs.Parts.{Master, Moves, Outcome, Parts}
use Rattle.model.specs.Records.{Accepted, CloneComplete, CloneRecord, CloneReleasing, CloneSnapshot, CloneState, Copying, Fencing, IdPair, Releasing, RestorationRecord, RestorationState, Restored, Restoring, Schedule, ScheduledNamespace, SnapshotRecord, Snapshotting, State, Switching, TabletPair, first_unacked, is_restored, is_visible, schedule_of, unfinished}
use Rattle.model.specs.Restored.{back_at, begun_at, cloned, cloned_activity, cloned_tables, record_at}
use Rattle.model.specs.Retained.{IsTabletOf, ReachesBack, floor_now, from_set, live, source_at}
use Rattle.model.specs.Schedules.{complete_to, serving}
use Rattle.model.specs.Tablets.{Clock, FrozenSet, Tablet, effect, set_of}
use Rattle.model.specs.Taking.{Unchanged, StillServes, replaced_by, replaced_from, switches_at, untimed}
use Rattle.model.specs.Times.{before_end, holds_at}
use Rattle.law_store.proofs.Keys.{either_way}
use Rattle.law_invariants.specs.Invariant.{Inv, Later}
use Rattle.law_invariants.specs.Operations.{SnapshotsRise}
use Rattle.law_invariants.proofs.Finding.{both_pass, filter_in, find_is, find_none, find_through, first_fails, in_append, in_mapped, map_in, none_found, none_or_some, not_passing, not_same, passes_both, same_equal, same_self, second_fails}
use Rattle.law_invariants.proofs.Frame.{touched}
use Rattle.law_invariants.proofs.Records.{kept_beside}
use Rattle.law_invariants.proofs.Undoing.{owned_is}
use Rattle.law_retention.specs.Facts.{Facts}
use Rattle.law_retention.proofs.Before.{names_behind, route_behind, route_ended, still_ended, still_itself, still_joined, tables_behind, tables_ended}
use Rattle.law_retention.proofs.Commands.{Leaves, answer_leaves, quiet_untaken, snapshot_untaken, they_stay, told_leaves}
use Rattle.law_retention.proofs.Growing.{ended_if}
use Rattle.law_retention.proofs.Moving.{IsFound, begun_of, clone_found, moving_holds, restoration_found}
use Rattle.law_retention.proofs.Reaching.{rows_reached, unfinished_is}
use Rattle.law_retention.proofs.Scheduling.{unfinished_found}
use Rattle.law_retention.proofs.Sources.{AreLike, source_alike}
use Rattle.law_retention.proofs.Untaken.{MasterUntaken, SourcesStay, TimeUntaken, same_sources, same_time}
use Rattle.law_invariants.proofs.Bodies.{snapshot_alone}

-- The switch

-- what stands by id was there
put_in : (t u : TableRecord) (us : List TableRecord) → In t (put_table u us) → (u ≡ t) ⊎ In t us
put_in t u [] there = elim there [ inl is ↦ inl is | inr none ↦ absurd none ]
put_in t u (v ∷ us) there = either_way (ltb u.id.number v.id.number)
    (λ b. elim (subst (In t) (ap (λ c. cond c (u ∷ v ∷ us) (v ∷ put_table u us)) b) there) [ inl is ↦ inl is | inr rest ↦ inr rest ])
    (λ b. elim (subst (In t) (ap (λ c. cond c (u ∷ v ∷ us) (v ∷ put_table u us)) b) there) [
      | inl is ↦ inr (inl is)
      | inr rest ↦ elim (put_in t u us rest) [ inl is ↦ inl is | inr later ↦ inr (inr later) ]
    ])

by_id_in : (t : TableRecord) (rs : List TableRecord) → In t (by_id rs) → In t rs
by_id_in t [] there = absurd there
by_id_in t (r ∷ rs) there = elim (put_in t r (by_id rs) there) [ inl is ↦ inl is | inr later ↦ inr (by_id_in t rs later) ]

of_tables_at : (rs : List TableRecord) (ns : Id) (x : ℕ) (t : TableRecord) → In t (tables_at rs ns x) → t.namespace ≡ ns
of_tables_at rs ns x t there =
    let passes = (filter_in rs (λ r. holds_at x r.from r.to && same r.namespace ns) t (by_id_in t _ there)).1 in
    same_equal t.namespace ns (both_pass (holds_at x t.from t.to) (same t.namespace ns) passes).1

-- what is part of the namespace's own restoration may put tables and rows in place from its point on alone
pub before_point : (act : Act) (ps : Parts) (activity : List Interval) (changes : List Made) (r : RestorationRecord) (point : ℕ) (ns : Id) (to : ℕ) → Inv ps activity changes → In r ps.master.restorations → is_restored r.state ≡ false
    → replaced_by r act ps ≡ Some point → ns ≡ r.namespace → before_end to (replaced_from act ps ns) ≡ true → to < point
before_point act ps activity changes r point ns to inv kept unfinished_ part of before =
    let rs = ps.master.restorations in
    let test : RestorationRecord → Bool = λ q. same q.namespace ns && not (is_restored q.state) in
    let passes : test r ≡ true = passes_both (same r.namespace ns) (not (is_restored r.state)) (ap (same r.namespace) of ∙ same_self r.namespace) (ap not unfinished_) in
    let mine : restoration_of rs ns ≡ Some r = none_or_some (restoration_of rs ns)
    (λ none. absurd (true≢false (sym passes ∙ find_none test rs none r kept)))
    (λ q some.
    let h = find_is test rs q some in
    let both = both_pass (same q.namespace ns) (not (is_restored q.state)) h.passes in
    let one : q ≡ r = inv.operations.apart.one_restoration q r h.listed kept (not_true_is (is_restored q.state) both.1) unfinished_ (same_equal q.namespace ns both.0 ∙ of) in
    some ∙ ap Some one) in
    let from : replaced_from act ps ns ≡ Some point = ap (option_and_then (λ q. replaced_by q act ps)) mine ∙ part in
    ltb-true to point (subst (λ o. before_end to o ≡ true) from before)
  where
    not_true_is : (b : Bool) → not b ≡ true → b ≡ false
    not_true_is true e = absurd (true≢false (sym e))
    not_true_is false e = refl

switch_time : (m : Master) (r : RestorationRecord) (point : ℕ) (serving_ : Id) (n : ℕ) (ns : Id) (to : ℕ) → (ns ≡ r.namespace → to < point) → TimeUntaken m (restoration_moved (Switching point serving_) r n m) ns to
switch_time m r point serving_ n ns to soon =
    let owners = m.catalog.owners in
    let is = map (ended_if (λ i. owns owners r.namespace i.table) point) m.activity in
    let js = map (begun_at point) (tablets_active_at owners m.activity r.namespace r.to) in
    -- a table of both namespaces shows that they are one
    let one : (table : Id) → owns owners ns table ≡ true → owner_of owners table ≡ Some r.namespace → ns ≡ r.namespace = λ table owned mine.
    some_same (sym (owned_is (owner_of owners table) ns owned) ∙ mine) in
    record {
      names = refl;
      tables = ap (map untimed) (tables_behind _ (map (back_at m.catalog.tables point) (tables_at m.catalog.tables r.namespace r.to)) ns to
          (in_mapped {A = TableRecord} {B = TableRecord} (back_at m.catalog.tables point) (λ q. q.namespace ≡ ns → to < q.from) (tables_at m.catalog.tables r.namespace r.to)
          (λ t there of. soon (sym of ∙ of_tables_at m.catalog.tables r.namespace r.to t there))))
          ∙ tables_ended (λ q. same q.namespace r.namespace) point to m.catalog.tables ns (λ q there ends mine. soon (sym mine ∙ same_equal q.namespace r.namespace ends));
      owners = λ table owned. owned;
      kept = refl;
      places = λ table code owned. ap (option_map place_of) (route_behind is js table code to
          (in_mapped {A = Interval} {B = Interval} (begun_at point) (λ j. j.table ≡ table → to < j.from) (tablets_active_at owners m.activity r.namespace r.to)
          (λ i there of. soon (one table owned (ap (owner_of owners) (sym of) ∙ (begun_of m r.namespace r.to i there).1)))))
          ∙ route_ended (λ i. owns owners r.namespace i.table) point to m.activity table code
          (λ i there ends of. soon (one table owned (ap (owner_of owners) (sym of) ∙ owned_is (owner_of owners i.table) r.namespace ends)));
      active = λ i inside owned active. still_joined to is js i (still_ended (λ j. owns owners r.namespace j.table) point to m.activity i inside active
          (λ ends. soon (one i.table owned (owned_is (owner_of owners i.table) r.namespace ends))));
    }
  where
    some_same : {a b : Id} → Some a ≡ Some b → a ≡ b
    some_same e = cc

-- what is found of a restoration that moves
pub record IsMoving (ps : Parts) (operation : Id) (r : RestorationRecord) : Type 0 where
  pub kept : In r ps.master.restorations
  pub unfinished : is_restored r.state ≡ false
  pub id_is : r.id ≡ operation

restoration_untaken : (state : RestorationState) (ps : Parts) (activity : List Interval) (changes : List Made) (n : ℕ) (operation : Id) (r : RestorationRecord) → IsFound ps activity changes n → IsMoving ps operation r → r.state ≡ state
    → MasterUntaken (Advance operation) ps (restoration_moved state r n ps.master)
restoration_untaken Fencing ps activity changes n operation r found moves is =
    snapshot_untaken (Advance operation) ps activity changes (restoration_moved Fencing r n ps.master) r.namespace r.schedule n found.inv (le_of_lt found.before) refl refl refl refl
restoration_untaken (Snapshotting point own) ps activity changes n operation r found moves is =
    quiet_untaken (Advance operation) ps (restoration_moved (Snapshotting point own) r n ps.master) (le_of_lt found.before) refl refl refl (they_stay (Advance operation) ps.master _ refl)
restoration_untaken (Switching point serving_) ps activity changes n operation r found moves is = record {
  later = le_of_lt found.before;
  times = λ s to listed past before. switch_time ps.master r point serving_ n s.namespace to
      (λ of. before_point (Advance operation) ps activity changes r point s.namespace to found.inv moves.kept moves.unfinished
      (ap (λ b. cond b (switches_at r.state) None) (ap (λ id. same id r.id) (sym moves.id_is) ∙ same_self r.id) ∙ ap switches_at is) of before);
  sources = λ s to listed low. same_sources ps.master (restoration_moved (Switching point serving_) r n ps.master) ps.tablet s.namespace to refl;
  schedules = λ s there. Unchanged s there refl;
}
restoration_untaken (Restoring point serving_) ps activity changes n operation r found moves is =
    quiet_untaken (Advance operation) ps (restoration_moved (Restoring point serving_) r n ps.master) (le_of_lt found.before) refl refl refl (they_stay (Advance operation) ps.master _ refl)
restoration_untaken (Releasing point serving_) ps activity changes n operation r found moves is =
    quiet_untaken (Advance operation) ps (restoration_moved (Releasing point serving_) r n ps.master) (le_of_lt found.before) refl refl refl (they_stay (Advance operation) ps.master _ refl)
restoration_untaken (Restored point serving_) ps activity changes n operation r found moves is =
    quiet_untaken (Advance operation) ps (restoration_moved (Restored point serving_) r n ps.master) (le_of_lt found.before) refl refl refl (they_stay (Advance operation) ps.master _ refl)

-- A clone's moves

cloned_from : (ps : List IdPair) (rs : List TableRecord) (target : Id) (to at : ℕ) (q : TableRecord) → In q (cloned_tables ps rs target to at) → q.from ≡ at
cloned_from [] rs target to at q there = absurd there
cloned_from (p ∷ ps) rs target to at q there = elim (in_append (option_map_or (λ r. cloned rs target p.target at r ∷ []) (record_at rs p.source to) []) (cloned_tables ps rs target to at) q there) [
  | inl here ↦ one (record_at rs p.source to) here
  | inr later ↦ cloned_from ps rs target to at q later
]
  where
    one : (o : Option TableRecord) → In q (option_map_or (λ r. cloned rs target p.target at r ∷ []) o []) → q.from ≡ at
    one None here = absurd here
    one (Some r) here = elim here [ inl is ↦ ap (λ x. x.from) (sym is) | inr none ↦ absurd none ]

target_time : (ps : Parts) (activity : List Interval) (changes : List Made) (n : ℕ) (c : CloneRecord) (serving_ : Id) (at : ℕ) (s : ScheduledNamespace) (to : ℕ) → IsFound ps activity changes n → In c ps.master.clones → c.state ≡ Copying serving_ at
    → In s ps.master.scheduled → to < n → TimeUntaken ps.master (clone_moved (Copying serving_ at) c n ps.master) s.namespace to
target_time ps activity changes n c serving_ at s to found kept is listed late =
    let m = ps.master in
    let js = cloned_activity n c.tablets in
    let g = found.inv.operations.clones c kept in
    let has = (found.inv.operations.scheduled s listed).has in
    let other : same c.target_id s.namespace ≡ false = not_same c.target_id s.namespace (λ e. g.no_schedule (ap is_visible is) has.0 has.1.0 (has.1.1 ∙ sym e)) in
    record {
      names = names_behind m.catalog.namespaces (_ ∷ []) s.namespace to (λ q there. elim there [ inl e ↦ subst (λ r. to < r.from) e late | inr none ↦ absurd none ]);
      tables = ap (map untimed) (tables_behind m.catalog.tables (cloned_tables c.tables m.catalog.tables c.target_id c.to n) s.namespace to
          (λ q there mine. subst (λ f. to < f) (sym (cloned_from c.tables m.catalog.tables c.target_id c.to n q there)) late));
      owners = λ table owned. owned;
      kept = kept_beside m.catalog.kept_from c.target_id n s.namespace other;
      places = λ table code owned. ap (option_map place_of) (route_behind m.activity js table code to
          (in_mapped {A = TabletPair} {B = Interval} _ (λ j. j.table ≡ table → to < j.from) c.tablets (λ p there of. late)));
      active = λ i inside owned active. still_joined to m.activity js i (still_itself to m.activity i inside active);
    }

begins_untaken : (served : Option SnapshotRecord) (s : Option Schedule) (ps : Parts) (activity : List Interval) (changes : List Made) (n : ℕ) (operation : Id) (c : CloneRecord) → IsFound ps activity changes n → schedule_of ps.master.schedules c.source ≡ s
    → MasterUntaken (Advance operation) ps (begins_clone served c n ps.master)
begins_untaken (Some q) s ps activity changes n operation c found e =
    quiet_untaken (Advance operation) ps (begins_clone (Some q) c n ps.master) (le_of_lt found.before) refl refl refl (they_stay (Advance operation) ps.master _ refl)
begins_untaken None None ps activity changes n operation c found e =
    subst (λ o. MasterUntaken (Advance operation) ps (clone_goes Accepted None c n ps.master (with_clones_snapshot o c n ps.master))) (sym e)
    (quiet_untaken (Advance operation) ps (clone_goes Accepted None c n ps.master (with_clones_snapshot None c n ps.master)) (le_of_lt found.before) refl refl refl (they_stay (Advance operation) ps.master _ refl))
begins_untaken None (Some s) ps activity changes n operation c found e =
    subst (λ o. MasterUntaken (Advance operation) ps (clone_goes Accepted None c n ps.master (with_clones_snapshot o c n ps.master))) (sym e)
    (snapshot_untaken (Advance operation) ps activity changes (clone_goes Accepted None c n ps.master (with_clones_snapshot (Some s) c n ps.master)) c.source s.id n found.inv (le_of_lt found.before) refl refl refl refl)

clone_untaken : (state : CloneState) (ps : Parts) (activity : List Interval) (changes : List Made) (n : ℕ) (operation : Id) (c : CloneRecord) → IsFound ps activity changes n → In c ps.master.clones → c.state ≡ state
    → MasterUntaken (Advance operation) ps (clone_moved state c n ps.master)
clone_untaken Accepted ps activity changes n operation c found kept is = begins_untaken (serving_clone ps.master c) (schedule_of ps.master.schedules c.source) ps activity changes n operation c found refl
clone_untaken (CloneSnapshot own) ps activity changes n operation c found kept is =
    quiet_untaken (Advance operation) ps (clone_moved (CloneSnapshot own) c n ps.master) (le_of_lt found.before) refl refl refl (they_stay (Advance operation) ps.master _ refl)
clone_untaken (Copying serving_ at) ps activity changes n operation c found kept is = record {
  later = le_of_lt found.before;
  times = λ s to listed past before. target_time ps activity changes n c serving_ at s to found kept is listed (ltb-true to n past);
  sources = λ s to listed low. same_sources ps.master (clone_moved (Copying serving_ at) c n ps.master) ps.tablet s.namespace to refl;
  schedules = λ s there. Unchanged s there refl;
}
clone_untaken (CloneReleasing serving_ at) ps activity changes n operation c found kept is =
    quiet_untaken (Advance operation) ps (clone_moved (CloneReleasing serving_ at) c n ps.master) (le_of_lt found.before) refl refl refl (they_stay (Advance operation) ps.master _ refl)
clone_untaken (CloneComplete serving_ at) ps activity changes n operation c found kept is =
    quiet_untaken (Advance operation) ps (clone_moved (CloneComplete serving_ at) c n ps.master) (le_of_lt found.before) refl refl refl (they_stay (Advance operation) ps.master _ refl)

-- A snapshot is complete

-- what the move makes of each record
abbrev marked : SnapshotRecord → SnapshotRecord → SnapshotRecord
marked r x = record x { complete = cond (same x.id r.id) true x.complete; listed = cond (same x.id r.id) (snapshot_advanced x).listed x.listed }

abbrev serves_at : Id → ℕ → SnapshotRecord → Bool
serves_at ns to x = (same x.namespace ns && x.complete) && leb to x.at

abbrev is_left : Id → SnapshotRecord → Bool
is_left ns x = same x.namespace ns && not x.complete

like_marked : (r : SnapshotRecord) (o : Option SnapshotRecord) → AreLike (option_map (marked r) o) o
like_marked r None = tt
like_marked r (Some q) = record { id_is = refl; at_is = refl }

still_marked : (r : SnapshotRecord) (o : Option SnapshotRecord) → StillServes o (option_map (marked r) o)
still_marked r None = tt
still_marked r (Some q) = refl

-- what is known of the snapshot that becomes complete
pub record Completes (ps after : Parts) (r : SnapshotRecord) : Type 0 where
  pub kept : In r ps.master.snapshots
  pub unfinished : r.complete ≡ false
  pub alone : (a : SnapshotRecord) → In a ps.master.snapshots → same a.id r.id ≡ true → a ≡ r
  pub frozen : (slot : ℕ) → (after.tablet slot).frozen ≡ (ps.tablet slot).frozen

-- a record that isn't that one is as it was
marked_apart : (r x : SnapshotRecord) (ns : Id) (to : ℕ) → same x.id r.id ≡ false → serves_at ns to (marked r x) ≡ serves_at ns to x
marked_apart r x ns to b = ap (λ c. (same x.namespace ns && cond c true x.complete) && leb to x.at) b

left_apart : (r x : SnapshotRecord) (ns : Id) → same x.id r.id ≡ false → is_left ns (marked r x) ≡ is_left ns x
left_apart r x ns b = ap (λ c. same x.namespace ns && not (cond c true x.complete)) b

-- for other namespaces all is alike

other_sources : (ps after : Parts) (n : ℕ) (r : SnapshotRecord) (ns : Id) (to : ℕ) → Completes ps after r → same r.namespace ns ≡ false → SourcesStay ps.master (completed r n ps.master) ps.tablet ns to
other_sources ps after n r ns to c other =
    let m = ps.master in
    let rs = m.snapshots in
    let apart : (a : SnapshotRecord) → In a rs → same a.id r.id ≡ true → same a.namespace ns ≡ false = λ a there b. ap (λ x. same x.namespace ns) (c.alone a there b) ∙ other in
    let serves : serving (map (marked r) rs) ns to ≡ option_map (marked r) (serving rs ns to) = find_through (serves_at ns to) (marked r) rs (λ a there. either_way (same a.id r.id)
    (λ b. first_fails (same a.namespace ns && (marked r a).complete) (leb to a.at) (first_fails (same a.namespace ns) (marked r a).complete (apart a there b))
    ∙ sym (first_fails (same a.namespace ns && a.complete) (leb to a.at) (first_fails (same a.namespace ns) a.complete (apart a there b))))
    (λ b. marked_apart r a ns to b)) in
    let left : unfinished (map (marked r) rs) ns ≡ option_map (marked r) (unfinished rs ns) = find_through (is_left ns) (marked r) rs (λ a there. either_way (same a.id r.id)
    (λ b. first_fails (same a.namespace ns) (not (marked r a).complete) (apart a there b) ∙ sym (first_fails (same a.namespace ns) (not a.complete) (apart a there b)))
    (λ b. left_apart r a ns b)) in
    record {
      serves = subst (StillServes (serving rs ns to)) (sym serves) (still_marked r (serving rs ns to));
      source = λ i inside owned active.
          ap (λ o. source_at o (unfinished (map (marked r) rs) ns) (ps.tablet i.slot) to) serves
          ∙ ap (λ o. source_at (option_map (marked r) (serving rs ns to)) o (ps.tablet i.slot) to) left
          ∙ source_alike (option_map (marked r) (serving rs ns to)) (serving rs ns to) (option_map (marked r) (unfinished rs ns)) (unfinished rs ns) (ps.tablet i.slot) to (like_marked r (serving rs ns to)) (like_marked r (unfinished rs ns));
    }

-- one that served is before it, and serves still
first_served : (rs : List SnapshotRecord) (r q : SnapshotRecord) (ns : Id) (to : ℕ) → SnapshotsRise rs → ((a : SnapshotRecord) → In a rs → same a.id r.id ≡ true → a ≡ r) → q.at < r.at → serving rs ns to ≡ Some q
    → serving (map (marked r) rs) ns to ≡ Some (marked r q)
first_served [] r q ns to rise alone early e = cc
first_served (x ∷ rs) r q ns to rise alone early e = either_way (serves_at ns to x)
    (λ b.
    let first : Some x ≡ Some q = rw b at e in
    let is : x ≡ q = cc in
    let both = both_pass (same x.namespace ns && x.complete) (leb to x.at) b in
    let two = both_pass (same x.namespace ns) x.complete both.0 in
    let now : serves_at ns to (marked r x) ≡ true = passes_both (same x.namespace ns && (marked r x).complete) (leb to x.at)
    (passes_both (same x.namespace ns) (marked r x).complete two.0 (ap (cond (same x.id r.id) true) two.1 ∙ both_true (same x.id r.id))) both.1 in
    ap (λ c. cond c (Some (marked r x)) (serving (map (marked r) rs) ns to)) now ∙ ap (λ y. Some (marked r y)) is)
    (λ b.
    let rest : serving rs ns to ≡ Some q = rw b at e in
    either_way (same x.id r.id)
    (λ c.
    let is = alone x (inl refl) c in
    let rises : x.at < q.at = (rise.0 q (find_is (serves_at ns to) rs q rest).listed).1 in
    let at_is : x.at ≡ r.at = ap (λ y. y.at) is in
    absurd (omega (arith, rises, at_is, early)))
    (λ c.
    ap (λ d. cond d (Some (marked r x)) (serving (map (marked r) rs) ns to)) (marked_apart r x ns to c ∙ b)
    ∙ first_served rs r q ns to rise.1 (λ a there. alone a (inr there)) early rest))
  where
    both_true : (b : Bool) → cond b true true ≡ true
    both_true true = refl
    both_true false = refl

-- where none served, it serves the times up to its own
now_served : (rs : List SnapshotRecord) (r : SnapshotRecord) (ns : Id) (to : ℕ) → In r rs → ((a : SnapshotRecord) → In a rs → same a.id r.id ≡ true → a ≡ r) → r.namespace ≡ ns → leb to r.at ≡ true → serving rs ns to ≡ None
    → serving (map (marked r) rs) ns to ≡ Some (marked r r)
now_served rs r ns to kept alone of soon none =
    let self : same r.id r.id ≡ true = same_self r.id in
    let passes : serves_at ns to (marked r r) ≡ true = passes_both (same r.namespace ns && (marked r r).complete) (leb to r.at)
    (passes_both (same r.namespace ns) (marked r r).complete (ap (same r.namespace) (sym of) ∙ same_self r.namespace) (ap (λ c. cond c true r.complete) self)) soon in
    none_or_some (serving (map (marked r) rs) ns to)
    (λ none_now. absurd (true≢false (sym passes ∙ find_none (serves_at ns to) (map (marked r) rs) none_now (marked r r) (map_in (marked r) rs r kept))))
    (λ x some.
    let found = find_is (serves_at ns to) (map (marked r) rs) x some in
    let is : x ≡ marked r r = in_mapped {A = SnapshotRecord} {B = SnapshotRecord} (marked r) (λ y. serves_at ns to y ≡ true → y ≡ marked r r) rs
    (λ a there now. either_way (same a.id r.id)
    (λ b. ap (marked r) (alone a there b))
    (λ b. absurd (true≢false (sym now ∙ marked_apart r a ns to b ∙ find_none (serves_at ns to) rs none a there))))
    x found.listed found.passes in
    some ∙ ap Some is)

-- later times none serves then
none_served : (rs : List SnapshotRecord) (r : SnapshotRecord) (ns : Id) (to : ℕ) → ((a : SnapshotRecord) → In a rs → same a.id r.id ≡ true → a ≡ r) → leb to r.at ≡ false → serving rs ns to ≡ None → serving (map (marked r) rs) ns to ≡ None
none_served rs r ns to alone late none = none_found (serves_at ns to) (map (marked r) rs)
    (in_mapped {A = SnapshotRecord} {B = SnapshotRecord} (marked r) (λ y. serves_at ns to y ≡ false) rs
    (λ a there. either_way (same a.id r.id)
    (λ b. second_fails (same a.namespace ns && (marked r a).complete) (leb to a.at) (ap (λ y. leb to y.at) (alone a there b) ∙ late))
    (λ b. marked_apart r a ns to b ∙ find_none (serves_at ns to) rs none a there)))

-- for its own namespace it is the one that was unfinished
own_sources : (ps after : Parts) (activity later_activity : List Interval) (changes later_changes : List Made) (n : ℕ) (r : SnapshotRecord) (s : ScheduledNamespace) (to : ℕ) → IsFound ps activity changes n → Completes ps after r
    → after.master ≡ completed r n ps.master → Inv after later_activity later_changes → Facts after → In s ps.master.scheduled → r.namespace ≡ s.namespace → floor_of ps.master s.namespace n ≤ to
    → SourcesStay ps.master (completed r n ps.master) ps.tablet s.namespace to
own_sources ps after activity later_activity changes later_changes n r s to found c is inv_after facts_after listed of low =
    let m = ps.master in
    let rs = m.snapshots in
    let ns = s.namespace in
    let k = completed r n m in
    let inv = found.inv in
    let mine : same r.namespace ns ≡ true = ap (same r.namespace) (sym of) ∙ same_self r.namespace in
    let left_passes : is_left ns r ≡ true = passes_both (same r.namespace ns) (not r.complete) mine (ap not c.unfinished) in
    let left : unfinished rs ns ≡ Some r = none_or_some (unfinished rs ns)
    (λ none. absurd (true≢false (sym left_passes ∙ find_none (is_left ns) rs none r c.kept)))
    (λ q some.
    let h = unfinished_is rs ns q some in
    some ∙ ap Some (inv.operations.apart.one_snapshot q r h.kept c.kept h.open_is c.unfinished (h.namespace_is ∙ sym of))) in
    let none_left : unfinished (map (marked r) rs) ns ≡ None = none_found (is_left ns) (map (marked r) rs)
    (in_mapped {A = SnapshotRecord} {B = SnapshotRecord} (marked r) (λ y. is_left ns y ≡ false) rs
    (λ a there. either_way (same a.id r.id)
    (λ b. second_fails (same a.namespace ns) (not (marked r a).complete) (ap (λ d. not (cond d true a.complete)) b))
    (λ b. left_apart r a ns b ∙ not_passing (is_left ns a) (λ passes.
    let both = both_pass (same a.namespace ns) (not a.complete) passes in
    let one : a ≡ r = inv.operations.apart.one_snapshot a r there c.kept (not_true_is a.complete both.1) c.unfinished (same_equal a.namespace ns both.0 ∙ sym of) in
    true≢false (sym (ap (λ y. same y.id r.id) one ∙ same_self r.id) ∙ b))))) in
    let after_is : r.after ≡ complete_to s = (found.facts.times s listed).unfinished r c.kept of c.unfinished in
    let rises : r.after < r.at = (inv.operations.snapshots r c.kept).rises in
    none_or_some (serving rs ns to)
    (λ none. either_way (leb to r.at)
    (λ soon.
    let now = now_served rs r ns to c.kept c.alone of soon none in
    record {
      serves = subst (λ o. StillServes o (serving (map (marked r) rs) ns to)) (sym none) tt;
      source = λ i inside owned active.
          let t = ps.tablet i.slot in
          let there : ReachesBack (option_map from_set (set_of t.frozen r.id)) to =
          subst (λ fs. ReachesBack (option_map from_set (set_of fs r.id)) to) (c.frozen i.slot)
          (subst (λ o. ReachesBack (source_at o (unfinished (map (marked r) rs) ns) (after.tablet i.slot) to) to) now
          (subst (λ g. floor_now g ns ≤ to → In (record s { complete = cond (same s.namespace r.namespace) (Some r.at) s.complete }) g.scheduled → In i g.activity → IsTabletOf g ns i
          → ReachesBack (source_at (serving g.snapshots ns to) (unfinished g.snapshots ns) (after.tablet i.slot) to) to) is
          (λ low_ listed_ inside_ owned_. (rows_reached after later_changes later_activity (record s { complete = cond (same s.namespace r.namespace) (Some r.at) s.complete }) i to inv_after facts_after listed_ inside_ owned_ low_ active).0)
          low (map_in {A = ScheduledNamespace} {B = ScheduledNamespace} (λ q. record q { complete = cond (same q.namespace r.namespace) (Some r.at) q.complete }) m.scheduled s listed) inside owned)) in
          ap (λ o. source_at o (unfinished (map (marked r) rs) ns) t to) now
          ∙ set_there (set_of t.frozen r.id) t r to soon there
          ∙ ap (λ o. source_at None o t to) (sym left) ∙ ap (λ o. source_at o (unfinished rs ns) t to) (sym none);
    })
    (λ late.
    let now = none_served rs r ns to c.alone late none in
    record {
      serves = subst (λ o. StillServes o (serving (map (marked r) rs) ns to)) (sym none) tt;
      source = λ i inside owned active.
          let t = ps.tablet i.slot in
          ap (λ o. source_at o (unfinished (map (marked r) rs) ns) t to) now ∙ ap (λ o. source_at None o t to) none_left
          ∙ ap (λ b. Some (cond b (unwrap_or (option_map from_set (set_of t.frozen r.id)) (live t)) (live t))) (sym late)
          ∙ ap (λ o. source_at None o t to) (sym left) ∙ ap (λ o. source_at o (unfinished rs ns) t to) (sym none);
    }))
    (λ q some.
    let h = find_is (serves_at ns to) rs q some in
    let both = both_pass (same q.namespace ns && q.complete) (leb to q.at) h.passes in
    let two = both_pass (same q.namespace ns) q.complete both.0 in
    let at = (found.facts.times s listed).complete q h.listed (same_equal q.namespace ns two.0) two.1 in
    let now = first_served rs r q ns to inv.operations.apart.snapshots_rise c.alone (omega (arith, at, after_is, rises)) some in
    record {
      serves = subst (λ o. StillServes o (serving (map (marked r) rs) ns to)) (sym some) (ap (option_map (λ x. x.id)) now);
      source = λ i inside owned active.
          let t = ps.tablet i.slot in
          ap (λ o. source_at o (unfinished (map (marked r) rs) ns) t to) now ∙ ap (λ o. source_at o (unfinished rs ns) t to) (sym some);
    })
  where
    not_true_is : (b : Bool) → not b ≡ true → b ≡ false
    not_true_is true e = absurd (true≢false (sym e))
    not_true_is false e = refl

    set_there : (o : Option FrozenSet) (t : Tablet) (q : SnapshotRecord) (x : ℕ) → leb x q.at ≡ true → ReachesBack (option_map from_set o) x
        → option_map from_set o ≡ Some (cond (leb x q.at) (unwrap_or (option_map from_set o) (live t)) (live t))
    set_there None t q x soon there = absurd there
    set_there (Some f) t q x soon there = ap (λ b. Some (cond b (from_set f) (live t))) (sym soon)

completed_untaken : (operation : Id) (ps after : Parts) (activity later_activity : List Interval) (changes later_changes : List Made) (n : ℕ) (r : SnapshotRecord) → IsFound ps activity changes n → Completes ps after r
    → after.master ≡ completed r n ps.master → Inv after later_activity later_changes → Facts after → MasterUntaken (Advance operation) ps (completed r n ps.master)
completed_untaken operation ps after activity later_activity changes later_changes n r found c is inv_after facts_after = record {
  later = le_of_lt found.before;
  times = λ s to listed past before. same_time ps.master (completed r n ps.master) s.namespace to refl refl;
  sources = λ s to listed low. either_way (same r.namespace s.namespace)
      (λ b. own_sources ps after activity later_activity changes later_changes n r s to found c is inv_after facts_after listed (same_equal r.namespace s.namespace b) low)
      (λ b. other_sources ps after n r s.namespace to c b);
  schedules = λ s there. Unchanged s there refl;
}

-- The act

-- the parts after a move
pub record IsAfter (ps after : Parts) (activity : List Interval) (changes : List Made) : Type 0 where
  pub inv : Inv after activity changes
  pub facts : Facts after
  pub frozen : (slot : ℕ) → (after.tablet slot).frozen ≡ (ps.tablet slot).frozen

ticks_untaken : (operation : Id) (ps : Parts) (activity : List Interval) (changes : List Made) (n : ℕ) → IsFound ps activity changes n → MasterUntaken (Advance operation) ps (record ps.master { clock = n })
ticks_untaken operation ps activity changes n found = quiet_untaken (Advance operation) ps (record ps.master { clock = n }) (le_of_lt found.before) refl refl refl (they_stay (Advance operation) ps.master _ refl)

snapshot_moves : (o : Option SnapshotRecord) (id : Id) (ps after : Parts) (activity later_activity : List Interval) (changes later_changes : List Made) (n : ℕ) → IsFound ps activity changes n → IsAfter ps after later_activity later_changes
    → unfinished_snapshot ps.master.snapshots id ≡ o → after.master ≡ option_map_or (λ r. completed r n ps.master) o (record ps.master { clock = n })
    → MasterUntaken (Advance id) ps (option_map_or (λ r. completed r n ps.master) o (record ps.master { clock = n }))
snapshot_moves None id ps after activity later_activity changes later_changes n found h e is = ticks_untaken id ps activity changes n found
snapshot_moves (Some r) id ps after activity later_activity changes later_changes n found h e is =
    let f = unfinished_found ps.master.snapshots id r e in
    completed_untaken id ps after activity later_activity changes later_changes n r found
    (record {
      kept = f.kept;
      unfinished = f.open_is;
      alone = λ a there b. snapshot_alone ps.master.snapshots a r found.inv.operations.apart.snapshots_rise there f.kept (same_equal a.id r.id b);
      frozen = h.frozen;
    })
    is h.inv h.facts

restoration_moves : (o : Option RestorationRecord) (id : Id) (ps : Parts) (activity : List Interval) (changes : List Made) (n : ℕ) → IsFound ps activity changes n → unfinished_restoration ps.master.restorations id ≡ o
    → MasterUntaken (Advance id) ps (option_map_or (λ r. restoration_moved r.state r n ps.master) o (record ps.master { clock = n }))
restoration_moves None id ps activity changes n found e = ticks_untaken id ps activity changes n found
restoration_moves (Some r) id ps activity changes n found e =
    let f = restoration_found ps.master.restorations id r e in
    let is = find_is (λ x. same x.id id && not (is_restored x.state)) ps.master.restorations r e in
    restoration_untaken r.state ps activity changes n id r found
    (record { kept = f.kept; unfinished = f.open_is; id_is = same_equal r.id id (both_pass (same r.id id) (not (is_restored r.state)) is.passes).0 }) refl

clone_moves : (o : Option CloneRecord) (id : Id) (ps : Parts) (activity : List Interval) (changes : List Made) (n : ℕ) → IsFound ps activity changes n → unfinished_clone ps.master.clones id ≡ o
    → MasterUntaken (Advance id) ps (option_map_or (λ c. clone_moved c.state c n ps.master) o (record ps.master { clock = n }))
clone_moves None id ps activity changes n found e = ticks_untaken id ps activity changes n found
clone_moves (Some c) id ps activity changes n found e = clone_untaken c.state ps activity changes n id c found (clone_found ps.master.clones id c e).kept refl

moved_untaken : (kind : Kind) (id : Id) (ps after : Parts) (activity later_activity : List Interval) (changes later_changes : List Made) (n : ℕ) → IsFound ps activity changes n → IsAfter ps after later_activity later_changes
    → after.master ≡ moved_of kind id n ps.master → MasterUntaken (Advance id) ps (moved_of kind id n ps.master)
moved_untaken Snapshot id ps after activity later_activity changes later_changes n found h is = snapshot_moves (unfinished_snapshot ps.master.snapshots id) id ps after activity later_activity changes later_changes n found h refl is
moved_untaken Restoration id ps after activity later_activity changes later_changes n found h is = restoration_moves (unfinished_restoration ps.master.restorations id) id ps activity changes n found refl
moved_untaken Clone id ps after activity later_activity changes later_changes n found h is = clone_moves (unfinished_clone ps.master.clones id) id ps activity changes n found refl
moved_untaken _ id ps after activity later_activity changes later_changes n found h is = ticks_untaken id ps activity changes n found

moving_leaves : (on : Option Id) (operation : Id) (next : State) (n : ℕ) (ps : Parts) (activity : List Interval) (changes : List Made) → Later (slots_of (Advance operation)) ps n → IsFound ps activity changes n → Leaves (Advance operation) n ps (moving on operation next)
moving_leaves (Some id) operation next n ps activity changes later found later_activity later_changes after =
    answer_leaves (Advance operation) (Refused (Waiting id)) n ps activity changes found.inv found.facts (le_of_lt found.before) refl refl refl refl later_activity later_changes after
moving_leaves None operation next n ps activity changes later found later_activity later_changes after =
    let act = Advance operation in
    let o : Outcome = record { master = Moves operation; tablets = []; reply = Advanced next } in
    let left : IsAfter ps (told act o n ps) later_activity later_changes = record {
      inv = after;
      facts = moving_holds None operation next n ps activity changes later found later_activity later_changes after;
      frozen = λ slot. cond_both (touched act slot) (effect Clock n (ps.tablet slot)) (ps.tablet slot) (λ u. u.frozen ≡ (ps.tablet slot).frozen) (λ b. refl) (λ b. refl);
    } in
    told_leaves act o n ps activity changes found.inv found.facts
    (moved_untaken operation.kind operation ps (told act o n ps) activity later_activity changes later_changes n found left refl) (λ i t inside there. absurd there) later_activity later_changes after

advancing_leaves : (p : Option Progress) (operation : Id) (n : ℕ) (ps : Parts) (activity : List Interval) (changes : List Made) → Later (slots_of (Advance operation)) ps n → IsFound ps activity changes n → Leaves (Advance operation) n ps (advancing p operation)
advancing_leaves None operation n ps activity changes later found = answer_leaves (Advance operation) (Refused (NotPending operation)) n ps activity changes found.inv found.facts (le_of_lt found.before) refl refl refl refl
advancing_leaves (Some p) operation n ps activity changes later found = moving_leaves (waits_for (first_unacked p.listed) p.awaited) operation p.next n ps activity changes later found

pub advance_leaves : (operation : Id) (n : ℕ) (ps : Parts) (activity : List Interval) (changes : List Made) → Later (slots_of (Advance operation)) ps n → Inv ps activity changes → Facts ps → Leaves (Advance operation) n ps (advance operation n ps)
unfolding advance
advance_leaves operation n ps activity changes later inv facts =
    advancing_leaves (progress_of operation.kind ps.master operation) operation n ps activity changes later (record { before = later 0 refl; inv = inv; facts = facts })
