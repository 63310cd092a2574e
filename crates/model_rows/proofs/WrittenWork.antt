-- What scripts write of clones, restarts, snapshots and cleanups.
use Rattle.std.proofs.Common.{◌≡◌, [], ◌∷◌, ◌++◌, None, Some, codes, refl}
use Rattle.model.specs.Scripts.{CleanUp, CloneNamespace, CompactTablets, Coordinate, CreateNamespace, CreateSchedule, CreateTable, DropTable, Exact, ListClones, ListRestorations, ListSchedules, ListTablets, RaiseCutoffs, ReadRow, RestartMaster, RestartTablet, Settle, ShowStats, Split, Tick}
use Rattle.model_rows.specs.Computed.{the_book}
use Rattle.model_rows.specs.Scripts.{B, K, N, P, R, S, T, a, b, new_int, t, v, v_is, x}
use Rattle.model_rows.specs.ScriptLines.{get, lines, prelude, prelude_written, put, restore, take_snapshot, uuid, written_by, written_in}

-- a clone of a source that goes on
clone_of_a_busy_source : written_by (prelude
    ++ put x (v_is 1)
    ∷ CloneNamespace a b (Some (Exact 4096000004))
    ∷ Split a t 1000
    ∷ put x (v_is 9)
    ∷ DropTable a t
    ∷ Settle
    ∷ ReadRow b t x None
    ∷ get x
    ∷ ListClones
    ∷ [])
    ≡ lines (prelude_written
    ++ codes "5: ok 1000000.3"
    ∷ (codes "6: ok 1000000.5" ++ uuid (K 1))
    ∷ (codes "7: ok 1000000.7" ++ uuid (B 3) ++ uuid (B 4))
    ∷ codes "8: ok 1000000.8"
    ∷ codes "9: ok 1000000.10"
    ∷ codes "10: 20 events"
    ∷ codes "11: row v=1"
    ∷ codes "12: refused unknown_table"
    ∷ codes "13: 1 clones"
    ∷ (codes " " ++ uuid (K 1) ++ codes " a b COMPLETE to 1000000.4")
    ∷ [])
unfolding the_book
clone_of_a_busy_source = refl

-- a clone for which there are no slots
clone_without_slots : written_in 5 (Tick 1000000
    ∷ CreateNamespace a
    ∷ CreateTable a t 3 (new_int v ∷ [])
    ∷ CreateSchedule 1 10 a
    ∷ CloneNamespace a b None
    ∷ CreateNamespace b
    ∷ [])
    ≡ lines ((codes "2: ok 1000000.0" ++ uuid (N 1))
    ∷ (codes "3: ok 1000000.2" ++ uuid (T 1))
    ∷ (codes "4: ok 1000000.3" ++ uuid (S 1))
    ∷ codes "5: refused slots_full 2 3"
    ∷ (codes "6: ok 1000000.5" ++ uuid (N 2))
    ∷ [])
unfolding the_book
clone_without_slots = refl

-- the master restarts in each state of a restore
master_restarts_in_each_state : written_by (prelude
    ++ put x (v_is 1)
    ∷ put x (v_is 2)
    ∷ restore 4096000003
    ∷ RestartMaster
    ∷ Coordinate 4
    ∷ RestartMaster
    ∷ Coordinate 5
    ∷ RestartMaster
    ∷ Coordinate 1
    ∷ RestartMaster
    ∷ Coordinate 4
    ∷ RestartMaster
    ∷ Coordinate 4
    ∷ RestartMaster
    ∷ get x
    ∷ ListRestorations
    ∷ [])
    ≡ lines (prelude_written
    ++ codes "5: ok 1000000.3"
    ∷ codes "6: ok 1000000.4"
    ∷ (codes "7: ok 1000000.6" ++ uuid (R 1))
    ∷ codes "8: ok 1000000.7"
    ∷ codes "9: 4 events"
    ∷ codes "10: ok 1000000.12"
    ∷ codes "11: 5 events"
    ∷ codes "12: ok 1000000.18"
    ∷ codes "13: 1 events"
    ∷ codes "14: ok 1000000.20"
    ∷ codes "15: 4 events"
    ∷ codes "16: ok 1000000.25"
    ∷ codes "17: 4 events"
    ∷ codes "18: ok 1000000.30"
    ∷ codes "19: row v=1"
    ∷ codes "20: 1 restorations"
    ∷ (codes " " ++ uuid (R 1) ++ uuid (S 1) ++ codes " RESTORED to 1000000.3 at 1000000.12")
    ∷ [])
unfolding the_book
master_restarts_in_each_state = refl

-- a tablet restarts before it is done
tablet_restarts : written_by (prelude
    ++ put x (v_is 1)
    ∷ put x (v_is 2)
    ∷ restore 4096000003
    ∷ Coordinate 11
    ∷ RestartTablet 1
    ∷ Settle
    ∷ get x
    ∷ [])
    ≡ lines (prelude_written
    ++ codes "5: ok 1000000.3"
    ∷ codes "6: ok 1000000.4"
    ∷ (codes "7: ok 1000000.6" ++ uuid (R 1))
    ∷ codes "8: 11 events"
    ∷ codes "9: ok 1000000.18"
    ∷ codes "10: 9 events"
    ∷ codes "11: row v=1"
    ∷ [])
unfolding the_book
tablet_restarts = refl

-- a snapshot long after a split, and what it lets go
late_snapshot : written_by (prelude
    ++ Split a t 1000
    ∷ Tick 700000000
    ∷ take_snapshot
    ∷ CleanUp
    ∷ Settle
    ∷ CleanUp
    ∷ ShowStats 1
    ∷ ListTablets a
    ∷ [])
    ≡ lines (prelude_written
    ++ (codes "5: ok 1000000.5" ++ uuid (B 2) ++ uuid (B 3))
    ∷ (codes "7: ok 700000000.0" ++ uuid (P 1))
    ∷ codes "8: 1 events"
    ∷ codes "9: 10 events"
    ∷ codes "10: 2 events"
    ∷ codes "11: empty"
    ∷ codes "12: 2 tablets"
    ∷ (codes " " ++ uuid (B 2) ++ uuid (T 1) ++ codes " slot 2 0..1000 active")
    ∷ (codes " " ++ uuid (B 3) ++ uuid (T 1) ++ codes " slot 3 1000..65536 active")
    ∷ [])
unfolding the_book
late_snapshot = refl

-- when snapshots are due, and how far a cutoff goes under a schedule
due_and_cutoff : written_by (prelude
    ++ take_snapshot
    ∷ take_snapshot
    ∷ Settle
    ∷ take_snapshot
    ∷ RaiseCutoffs
    ∷ ShowStats 1
    ∷ ListSchedules
    ∷ [])
    ≡ lines (prelude_written
    ++ (codes "5: ok 1000000.4" ++ uuid (P 1))
    ∷ (codes "6: refused busy" ++ uuid (P 1))
    ∷ codes "7: 4 events"
    ∷ codes "8: refused not_due 61000000.4"
    ∷ codes "9: 1 events"
    ∷ codes "10: stats cutoff 1000000.5 versions 0 frozen 0 inbox 0"
    ∷ codes "11: 1 schedules"
    ∷ (codes " " ++ uuid (S 1) ++ codes " a interval 1 retention 10 low 1000000.3")
    ∷ [])
unfolding the_book
due_and_cutoff = refl

-- a cleanup keeps what a restore may need
cleanup_keeps_a_dropped_table : written_by (prelude
    ++ put x (v_is 7)
    ∷ DropTable a t
    ∷ CompactTablets
    ∷ CleanUp
    ∷ restore 4096000004
    ∷ Settle
    ∷ get x
    ∷ [])
    ≡ lines (prelude_written
    ++ codes "5: ok 1000000.3"
    ∷ codes "6: ok 1000000.6"
    ∷ codes "7: 1 events"
    ∷ codes "8: 1 events"
    ∷ (codes "9: ok 1000000.10" ++ uuid (R 1))
    ∷ codes "10: 15 events"
    ∷ codes "11: row v=7"
    ∷ [])
unfolding the_book
cleanup_keeps_a_dropped_table = refl
