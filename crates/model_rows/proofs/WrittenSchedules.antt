-- What scripts write of several schedules of a namespace, and of edited ones.
use Rattle.std.proofs.Common.{◌≡◌, ℕ, List, [], ◌∷◌, ◌++◌, ◌-◌, codes, refl}
use Rattle.model.specs.Scripts.{ScriptCommand, CompactTablets, CreateSchedule, EditSchedule, Exact, ListSnapshots, Micros, RaiseCutoffs, Restore, Settle, ShowStats, Tick}
use Rattle.model_rows.specs.Computed.{the_book}
use Rattle.model_rows.specs.Scripts.{P, R, S, a, ht, v_is, x}
use Rattle.model_rows.specs.ScriptLines.{get, lines, prelude, prelude_written, put, restore, take_snapshot, uuid, written_by}

-- a restore by another schedule of the namespace
abbrev restore_by : ℕ → ℕ → ScriptCommand
restore_by schedule to = Restore (S schedule) (Exact to)

abbrev edit : ℕ → ℕ → ScriptCommand
edit interval retention = EditSchedule (S 1) interval retention

-- a restore by the first schedule to before the second one's window, undone by the second
several_schedules : written_by (prelude
    ++ CreateSchedule 1 5 a
    ∷ put x (v_is 1)
    ∷ put x (v_is 2)
    ∷ restore_by 2 4096000003
    ∷ restore 4096000003
    ∷ Settle
    ∷ get x
    ∷ restore_by 2 4096000012
    ∷ Settle
    ∷ get x
    ∷ [])
    ≡ lines (prelude_written
    ++ (codes "5: ok 1000000.4" ++ uuid (S 2))
    ∷ codes "6: ok 1000000.3"
    ∷ codes "7: ok 1000000.4"
    ∷ codes "8: refused too_early 1000000.4"
    ∷ (codes "9: ok 1000000.8" ++ uuid (R 1))
    ∷ codes "10: 18 events"
    ∷ codes "11: row v=1"
    ∷ (codes "12: ok 1000000.28" ++ uuid (R 2))
    ∷ codes "13: 18 events"
    ∷ codes "14: row v=2"
    ∷ [])
unfolding the_book
several_schedules = refl

-- a longer retention brings nothing back
edited_schedule : written_by (prelude
    ++ Tick 700000000
    ∷ edit 1 20
    ∷ Restore (S 1) (Micros 99999999)
    ∷ Restore (S 1) (Micros 100000000)
    ∷ edit 5 5
    ∷ [])
    ≡ lines (prelude_written
    ++ codes "6: ok 700000000.0"
    ∷ codes "7: refused too_early 100000000.0"
    ∷ (codes "8: ok 700000000.2" ++ uuid (R 1))
    ∷ codes "9: refused bad_period 5 5"
    ∷ [])
unfolding the_book
edited_schedule = refl

-- what a shorter retention closed, a longer one doesn't open again
closed_stays_closed : written_by (prelude
    ++ Tick 1900000000
    ∷ edit 1 5
    ∷ edit 1 20
    ∷ Restore (S 1) (Micros 1600000000)
    ∷ restore (ht 1600000000 1)
    ∷ [])
    ≡ lines (prelude_written
    ++ codes "6: ok 1900000000.0"
    ∷ codes "7: ok 1900000000.1"
    ∷ codes "8: refused too_early 1600000000.1"
    ∷ (codes "9: ok 1900000000.3" ++ uuid (R 1))
    ∷ [])
unfolding the_book
closed_stays_closed = refl

-- an edit names a schedule that there is; an operation that is unfinished doesn't hold it up
edits_refused : written_by (prelude
    ++ EditSchedule (S 2) 5 5
    ∷ edit 0 5
    ∷ edit 1 525601
    ∷ restore 4096000003
    ∷ edit 1 525600
    ∷ [])
    ≡ lines (prelude_written
    ++ codes "5: refused unknown_schedule"
    ∷ codes "6: refused bad_period 0 5"
    ∷ codes "7: refused bad_period 1 525601"
    ∷ (codes "8: ok 1000000.7" ++ uuid (R 1))
    ∷ codes "9: ok 1000000.8"
    ∷ [])
unfolding the_book
edits_refused = refl

-- Two schedules of one namespace, of which the first is edited: its window begins ten minutes before the edit, and that
-- of the other twenty minutes ago

abbrev two_windows : List ScriptCommand
two_windows = prelude ++ CreateSchedule 1 20 a ∷ Tick 1900000000 ∷ edit 1 15 ∷ []

abbrev two_windows_written : List (List ℕ)
two_windows_written = prelude_written ++ (codes "5: ok 1000000.4" ++ uuid (S 2)) ∷ codes "7: ok 1900000000.0" ∷ []

outside_of_two_windows : written_by (two_windows
    ++ restore (ht 1300000000 0 - 1)
    ∷ restore_by 2 (ht 700000000 1)
    ∷ restore (ht 1900000000 3)
    ∷ restore_by 2 (ht 1900000000 4)
    ∷ [])
    ≡ lines (two_windows_written
    ++ codes "8: refused too_early 1300000000.0"
    ∷ codes "9: refused too_early 700000000.2"
    ∷ codes "10: refused future 1900000000.3"
    ∷ codes "11: refused future 1900000000.4"
    ∷ [])
unfolding the_book
outside_of_two_windows = refl

first_low_end : written_by (two_windows ++ restore (ht 1300000000 0) ∷ [])
    ≡ lines (two_windows_written ++ (codes "8: ok 1900000000.1" ++ uuid (R 1)) ∷ [])
unfolding the_book
first_low_end = refl

first_high_end : written_by (two_windows ++ restore (ht 1900000000 0) ∷ [])
    ≡ lines (two_windows_written ++ (codes "8: ok 1900000000.1" ++ uuid (R 1)) ∷ [])
unfolding the_book
first_high_end = refl

second_low_end : written_by (two_windows ++ restore_by 2 (ht 700000000 1) ∷ [])
    ≡ lines (two_windows_written ++ (codes "8: ok 1900000000.1" ++ uuid (R 1)) ∷ [])
unfolding the_book
second_low_end = refl

second_high_end : written_by (two_windows ++ restore_by 2 (ht 1900000000 0) ∷ [])
    ≡ lines (two_windows_written ++ (codes "8: ok 1900000000.1" ++ uuid (R 1)) ∷ [])
unfolding the_book
second_high_end = refl

-- the tablet is compacted past the time to which the second schedule restores: its rows are only in the frozen set of
-- the snapshot that the first one took
snapshot_of_another_serves : written_by (prelude
    ++ CreateSchedule 1 20 a
    ∷ put x (v_is 1)
    ∷ Tick 2000000
    ∷ put x (v_is 2)
    ∷ take_snapshot
    ∷ Settle
    ∷ RaiseCutoffs
    ∷ CompactTablets
    ∷ ShowStats 1
    ∷ Restore (S 2) (Micros 1000001)
    ∷ Settle
    ∷ get x
    ∷ ListSnapshots
    ∷ [])
    ≡ lines (prelude_written
    ++ (codes "5: ok 1000000.4" ++ uuid (S 2))
    ∷ codes "6: ok 1000000.3"
    ∷ codes "8: ok 2000000.0"
    ∷ (codes "9: ok 2000000.1" ++ uuid (P 1))
    ∷ codes "10: 4 events"
    ∷ codes "11: 1 events"
    ∷ codes "12: 1 events"
    ∷ codes "13: stats cutoff 2000000.2 versions 1 frozen 2 inbox 0"
    ∷ (codes "14: ok 2000000.9" ++ uuid (R 1))
    ∷ codes "15: 18 events"
    ∷ codes "16: row v=1"
    ∷ codes "17: 2 snapshots"
    ∷ (codes " " ++ uuid (P 1) ++ uuid (S 1) ++ codes " COMPLETE after 1000000.2 at 2000000.1")
    ∷ (codes " " ++ uuid (P 2) ++ uuid (S 2) ++ codes " COMPLETE after 2000000.1 at 2000000.13")
    ∷ [])
unfolding the_book
snapshot_of_another_serves = refl

-- a namespace has eight schedules at most
ninth_schedule : written_by (prelude
    ++ CreateSchedule 1 2 a
    ∷ CreateSchedule 1 3 a
    ∷ CreateSchedule 1 4 a
    ∷ CreateSchedule 1 5 a
    ∷ CreateSchedule 1 6 a
    ∷ CreateSchedule 1 7 a
    ∷ CreateSchedule 1 8 a
    ∷ CreateSchedule 5 5 a
    ∷ [])
    ≡ lines (prelude_written
    ++ (codes "5: ok 1000000.4" ++ uuid (S 2))
    ∷ (codes "6: ok 1000000.5" ++ uuid (S 3))
    ∷ (codes "7: ok 1000000.6" ++ uuid (S 4))
    ∷ (codes "8: ok 1000000.7" ++ uuid (S 5))
    ∷ (codes "9: ok 1000000.8" ++ uuid (S 6))
    ∷ (codes "10: ok 1000000.9" ++ uuid (S 7))
    ∷ (codes "11: ok 1000000.10" ++ uuid (S 8))
    ∷ codes "12: refused too_many 8"
    ∷ [])
unfolding the_book
ninth_schedule = refl
