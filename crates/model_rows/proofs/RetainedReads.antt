-- What retention keeps holds of the parts under a schedule, and not once a cutoff is too high.
use Rattle.std.proofs.Common.{◌≡◌, ℕ, ◌≤◌, Bool, true, false, cond, is_some, [], ◌∷◌, None, Some, refl, arith, sym, subst, max, inl}
use Rattle.std.proofs.lemmas.Bool.{leb-true, true≢false}
use Rattle.std.proofs.lemmas.Bool.Decides.{nat_tests}
use Rattle.row_values.specs.Elements.{In}
use Rattle.row_values.specs.Ids.{same}
use Rattle.model.specs.History.{activity_of, scheduled_since, snapshots_taken}
use Rattle.model.specs.Parts.{Parts}
use Rattle.model.specs.Records.{Schedule, ScheduledNamespace}
use Rattle.model.specs.Schedules.{low}
use Rattle.model.specs.Retained.{Retained, RetainedFor, IsPresent}
use Rattle.model.specs.Tablets.{is_empty}
use Rattle.model_rows.proofs.RightEntries.{only_one}
use Rattle.model_rows.specs.Computed.{the_book}
use Rattle.model_rows.specs.Scripts.{since, N, S, early, ready}

abbrev schedule : Schedule
schedule = record { id = S 1; namespace = N 1; interval = 1; retention = 10; made = early 3; kept_low = early 3; last = None }

abbrev scheduled : ScheduledNamespace
scheduled = record { namespace = N 1; since = early 3; last = None; complete = None }

no_snapshots : snapshots_taken 64 ready.entries ≡ []
unfolding the_book
no_snapshots = refl

one_interval : activity_of 64 ready.entries ≡ since 2 ∷ []
unfolding the_book
one_interval = refl

only_slot : (slot : ℕ) → is_empty (ready.parts.tablet slot).presence ≡ false → slot ≡ 1
unfolding the_book
only_slot slot here = grind (arith, nat_tests)

ready_retained_for : RetainedFor ready.parts (since 2 ∷ []) [] (early 3) scheduled
unfolding the_book
ready_retained_for = record {
  active_present = λ i time listed owned kept active.
      subst (λ j. In j ready.parts.master.activity × IsPresent ready.parts j.slot j.tablet) (only_one i (since 2) listed)
      (inl refl, record { held = refl; tablet_is = refl; known = (since 2, (inl refl, (refl, refl))) });
  reaches = λ i to listed owned kept before active.
      let low : early 2 ≤ to = omega arith in
      subst (λ j. ((ready.parts.tablet j.slot).cutoff ≤ to) × Unit {0}) (only_one i (since 2) listed) (low, tt);
  cutoffs = λ slot i here last owned.
      let low : early 2 ≤ max (early 3) i.from = omega arith in
      subst (λ at. (ready.parts.tablet at).cutoff ≤ max (early 3) i.from) (sym (only_slot slot here)) low;
  times = tt;
  last = refl;
  complete = refl;
  none_later = λ r kept. absurd kept;
  unfinished_one = tt;
  since_is = refl;
  windows = λ s listed is. subst (λ t. scheduled.since ≤ low t ready.parts.master.clock) (only_one s schedule listed) (leb-true _ _ refl);
  catalog = leb-true _ _ refl;
}

-- of one element each, both lists have one that passes or none
both_there : {A B : Type 0} (b : Bool) (x : A) (y : B) → is_some (cond b (Some x) None) ≡ is_some (cond b (Some y) None)
both_there true x y = refl
both_there false x y = refl

ready_retained : Retained ready.parts (since 2 ∷ []) [] (scheduled_since 64 ready.entries)
unfolding the_book
ready_retained = record {
  scheduled = λ k listed. subst (λ r. RetainedFor ready.parts (since 2 ∷ []) [] (scheduled_since 64 ready.entries r.namespace) r) (only_one k scheduled listed) ready_retained_for;
  have_schedules = λ ns. both_there (same (N 1) ns) scheduled schedule;
  listed = record { snapshots = λ r l listed. absurd listed; restorations = λ r l listed. absurd listed; clones = λ c p listed. absurd listed };
  cutoffs = λ slot here. subst (λ at. (ready.parts.tablet at).cutoff ≤ early 3) (sym (only_slot slot here)) (leb-true _ _ refl);
  catalog = λ ns. grind (arith, nat_tests);
}

-- the tablet's history is cut above the window's low end
abbrev cut_off : Parts
cut_off = record ready.parts { tablet = λ slot. record (ready.parts.tablet slot) { cutoff = early 9 } }

too_high_a_cutoff : Retained cut_off (since 2 ∷ []) [] (scheduled_since 64 ready.entries) → ⊥
unfolding the_book
too_high_a_cutoff retained =
    let kept : early 9 ≤ early 3 =
    ((retained.scheduled scheduled (inl refl)).reaches (since 2) (early 3) (inl refl) refl (leb-true _ _ refl) (leb-true _ _ refl) refl).0 in
    omega arith

-- it has schedules since another stamp
abbrev since_later : Parts
since_later = record ready.parts { master = record ready.parts.master { scheduled = record scheduled { since = early 2 } ∷ [] } }

not_since : Retained since_later (since 2 ∷ []) [] (scheduled_since 64 ready.entries) → ⊥
unfolding the_book
not_since retained =
    let is : early 2 ≡ early 3 = (retained.scheduled (record scheduled { since = early 2 }) (inl refl)).since_is in
    omega (arith, is)

-- the master thinks of a snapshot as complete that was never taken
abbrev never_taken : ScheduledNamespace
never_taken = record scheduled { complete = Some (early 3) }

not_complete : Retained (record ready.parts { master = record ready.parts.master { scheduled = never_taken ∷ [] } }) (since 2 ∷ []) [] (scheduled_since 64 ready.entries) → ⊥
unfolding the_book
not_complete retained =
    let is : early 3 ≡ early 2 = (retained.scheduled never_taken (inl refl)).complete in
    omega (arith, is)

-- it has forgotten that the last snapshot is complete, which is kept no more
abbrev forgetful : ScheduledNamespace
forgetful = record scheduled { last = Some (early 3) }

not_forgotten : Retained (record ready.parts { master = record ready.parts.master { scheduled = forgetful ∷ [] } }) (since 2 ∷ []) [] (scheduled_since 64 ready.entries) → ⊥
unfolding the_book
not_forgotten retained =
    let is : early 2 ≡ early 3 = (retained.scheduled forgetful (inl refl)).complete in
    omega (arith, is)

-- the namespace of a schedule is not among the scheduled ones, and so nothing is kept for it
not_listed : Retained (record ready.parts { master = record ready.parts.master { scheduled = [] } }) (since 2 ∷ []) [] (scheduled_since 64 ready.entries) → ⊥
unfolding the_book
not_listed retained = true≢false (sym (retained.have_schedules (N 1)))

-- the master forgets the tablet, whose part still holds it
forgotten : Retained (record ready.parts { master = record ready.parts.master { activity = [] } }) (since 2 ∷ []) [] (scheduled_since 64 ready.entries) → ⊥
unfolding the_book
forgotten retained = ((retained.scheduled scheduled (inl refl)).active_present (since 2) (early 3) (inl refl) refl (leb-true _ _ refl) refl).0
