-- How far back: the low end of a window, the floor of a namespace, the cutoff that is allowed, and how far a prune goes.
use Rattle.std.proofs.Common.{◌≡◌, ℕ, None, Some, ◌++◌, refl, [], ◌∷◌}
use Rattle.model.specs.Parts.{Master}
use Rattle.model.specs.Records.{Schedule}
use Rattle.model.specs.Schedules.{low, floor, allowed_cutoff, least_low, edited}
use Rattle.model.specs.Cleanup.{pruned}
use Rattle.model.specs.Catalog.{kept_from}
use Rattle.model_rows.specs.Computed.{the_book}
use Rattle.model_rows.specs.Runs.{after, begun}
use Rattle.model_rows.specs.Scripts.{N, S, a, create_namespace, create_schedule, early, ht, ready, restore}

-- a minute's interval, ten minutes' retention
abbrev schedule_from : ℕ → Schedule
schedule_from kept_low = record {
  id = S 1;
  namespace = N 1;
  interval = 1;
  retention = 10;
  made = kept_low;
  kept_low = kept_low;
  last = None;
}

abbrev young : Schedule
young = schedule_from (ht 1000000000 3)

-- the window begins where the schedule did, until that is ten minutes ago

low_at_first : low young (ht 1000000000 4) ≡ ht 1000000000 3
low_at_first = refl

low_below_the_start : low (schedule_from 5) 9 ≡ 5
low_below_the_start = refl

low_when_as_old : low young (ht 1600000000 3) ≡ ht 1000000000 3
low_when_as_old = refl

low_when_older : low young (ht 1600000000 4) ≡ ht 1000000000 4
low_when_older = refl

low_much_later : low young (ht 5000000000 9) ≡ ht 4400000000 9
low_much_later = refl

-- the floor of two values is the less: the window's low end, and the time of an operation

floor_without_schedule : floor None None 7 ≡ 7
floor_without_schedule = refl

floor_of_none_and_an_operation : floor None (Some 3) 7 ≡ 7
floor_of_none_and_an_operation = refl

floor_of_the_window : floor (Some (ht 1000000000 9)) None (ht 1600000000 9) ≡ ht 1000000000 9
floor_of_the_window = refl

floor_of_an_old_operation : floor (Some (ht 1000000000 9)) (Some (ht 1000000000 5)) (ht 1600000000 9) ≡ ht 1000000000 5
floor_of_an_old_operation = refl

floor_of_a_late_operation : floor (Some (ht 1000000000 9)) (Some (ht 1000000001 0)) (ht 1600000000 9) ≡ ht 1000000000 9
floor_of_a_late_operation = refl

-- of several schedules the least low end counts, whichever stands first

abbrev other : ℕ → ℕ → Schedule
other namespace kept_low = record (schedule_from kept_low) { id = S 2; namespace = N namespace }

least_of_none : least_low [] (N 1) (ht 1600000000 9) ≡ None
least_of_none = refl

least_of_two : least_low (young ∷ other 1 (ht 1300000000 0) ∷ []) (N 1) (ht 1600000000 9) ≡ Some (ht 1000000000 9)
least_of_two = refl

least_stands_last : least_low (other 1 (ht 1300000000 0) ∷ young ∷ []) (N 1) (ht 1600000000 9) ≡ Some (ht 1000000000 9)
least_stands_last = refl

least_beside_another_namespace : least_low (other 2 5 ∷ young ∷ []) (N 1) (ht 1600000000 9) ≡ Some (ht 1000000000 9)
least_beside_another_namespace = refl

-- an edit takes nothing out of the window that was in it, and brings nothing back

edited_longer : low (edited 1 20 (ht 1700000000 0) young) (ht 1700000000 0) ≡ ht 1100000000 0
edited_longer = refl

edited_shorter : low (edited 1 5 (ht 1700000000 0) young) (ht 1700000000 0) ≡ ht 1400000000 0
edited_shorter = refl

-- a tablet may be cut just past the last complete snapshot, and before the first one not past the schedule's start

cutoff_before_a_snapshot : allowed_cutoff (Some (ht 1000000000 3)) None (ht 5000000000 0) ≡ ht 1000000000 3
cutoff_before_a_snapshot = refl

cutoff_after_a_snapshot : allowed_cutoff (Some 5) (Some (ht 3000000000 7)) (ht 5000000000 0) ≡ ht 3000000000 8
cutoff_after_a_snapshot = refl

cutoff_after_900_seconds : allowed_cutoff None None (ht 1000000000 5) ≡ ht 100000000 5
cutoff_after_900_seconds = refl

cutoff_at_900_seconds : allowed_cutoff None None (ht 900000000 0) ≡ 0
cutoff_at_900_seconds = refl

cutoff_within_900_seconds : allowed_cutoff None None (ht 5 0) ≡ 0
cutoff_within_900_seconds = refl

-- a prune raises the mark to the less of the floor and 900 seconds ago, and never lowers it

abbrev mark_after : ℕ → Master → ℕ
mark_after n m = kept_from (pruned n m).catalog.kept_from (N 1)

-- the floor is ten minutes ago, and so after it
pruned_to_900_seconds : mark_after (ht 1000000000 0) ready.parts.master ≡ ht 100000000 0
unfolding the_book
pruned_to_900_seconds = refl

abbrev kept_longer : Master
kept_longer = (after (create_namespace a ++ create_schedule 1 20 a) (begun 64)).parts.master

pruned_to_the_floor : mark_after (ht 9000000000 0) kept_longer ≡ ht 7800000000 0
unfolding the_book
pruned_to_the_floor = refl

-- a restore that goes to early on pins the floor
abbrev pinned : Master
pinned = (after (restore (early 3)) ready).parts.master

pruned_to_an_operation : mark_after (ht 1000000000 0) pinned ≡ early 3
unfolding the_book
pruned_to_an_operation = refl

unscheduled : kept_from (pruned (ht 1000000000 5) (after (create_namespace a) (begun 64)).parts.master).catalog.kept_from (N 1) ≡ ht 100000000 5
unfolding the_book
unscheduled = refl

pruned_early : mark_after (early 9) ready.parts.master ≡ early 0
unfolding the_book
pruned_early = refl
