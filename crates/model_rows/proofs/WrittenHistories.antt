-- What scripts write of their histories: each entry with its act and its reply.
use Rattle.std.proofs.Common.{◌≡◌, ℕ, List, [], ◌∷◌, ◌++◌, None, Some, codes, refl}
use Rattle.model.specs.Acts.{NamedUpsert, NamedDelete}
use Rattle.model.specs.Scripts.{CleanUp, CloneNamespace, CompactTablets, Exact, Lag, ListSnapshots, RaiseCutoffs, ReadTable, RestartTablet, Settle, ShowHistory, ShowStats, Tick, WriteRows}
use Rattle.model_rows.specs.Computed.{the_book}
use Rattle.model_rows.specs.Scripts.{B, N, P, S, T, a, b, t, v_is, x, zz}
use Rattle.model_rows.specs.ScriptLines.{first_lines, first_written, get, lines, prelude, prelude_written, put, restore, take_snapshot, uuid, written_by}

-- an entry of the reading 1000000, by its number and its logical counter
abbrev entry : List ℕ → List ℕ → List ℕ → List ℕ
entry number logical text = codes "#" ++ number ++ codes " 0 1000000 1000000." ++ logical ++ codes " " ++ text

abbrev placed : List ℕ
placed = codes " => placed 1" ++ uuid (B 1) ++ codes " 0..65536 v1 1:v:int"

abbrev first_entries : List (List ℕ)
first_entries =
    entry (codes "1") (codes "0") (codes "change [] create_namespace a => ok" ++ uuid (N 1))
    ∷ entry (codes "2") (codes "1") (codes "look create_table a t tablets 1 v:int => planned [1]")
    ∷ entry (codes "3") (codes "2") (codes "change [1] create_table a t tablets 1 v:int => ok" ++ uuid (T 1))
    ∷ []

-- writes and reads of rows
rows_history : written_by (first_lines
    ++ put x (v_is 1)
    ∷ get x
    ∷ ReadTable a t (Some (Exact 4096000003))
    ∷ WriteRows a t (record { key = x; op = NamedDelete } ∷ record { key = zz; op = NamedUpsert (v_is 2) } ∷ [])
    ∷ ShowHistory
    ∷ [])
    ≡ lines (first_written
    ++ codes "4: ok 1000000.3"
    ∷ codes "5: row v=1"
    ∷ codes "6: 1 rows"
    ∷ codes "  x v=1"
    ∷ codes "7: ok 1000000.6"
    ∷ first_entries
    ++ entry (codes "4") (codes "3") (codes "look_keys a t x v=1" ++ placed)
    ∷ entry (codes "5") (codes "3") (codes "write 1" ++ uuid (B 1) ++ codes " v1 x 1=1 => ok")
    ∷ entry (codes "6") (codes "4") (codes "look_keys a t x" ++ placed)
    ∷ entry (codes "7") (codes "4") (codes "read 1/00000003-0000-4000-8000-000000000001 v1 x 1 => rows 1 | x 1=1")
    ∷ entry (codes "8") (codes "5") (codes "look_table a t at 4096000003" ++ placed)
    ∷ entry (codes "9") (codes "5") (codes "read 1/00000003-0000-4000-8000-000000000001 v1 * 1 at 4096000003 => rows 1 | x 1=1")
    ∷ entry (codes "10") (codes "6") (codes "look_keys a t x delete / zz v=2" ++ placed)
    ∷ entry (codes "11") (codes "6") (codes "write 1" ++ uuid (B 1) ++ codes " v1 x delete / zz 1=2 => ok")
    ∷ [])
unfolding the_book
rows_history = refl

-- a snapshot that is worked off, what an administrator does, and refusals
work_history : written_by (prelude
    ++ take_snapshot
    ∷ Settle
    ∷ RaiseCutoffs
    ∷ CompactTablets
    ∷ CleanUp
    ∷ RestartTablet 1
    ∷ ShowStats 1
    ∷ ListSnapshots
    ∷ CloneNamespace zz b None
    ∷ restore 4096000002
    ∷ ShowHistory
    ∷ [])
    ≡ lines (prelude_written
    ++ (codes "5: ok 1000000.4" ++ uuid (P 1))
    ∷ codes "6: 4 events"
    ∷ codes "7: 1 events"
    ∷ codes "8: 1 events"
    ∷ codes "9: 1 events"
    ∷ codes "10: ok 1000000.12"
    ∷ codes "11: stats cutoff 1000000.5 versions 0 frozen 0 inbox 0"
    ∷ codes "12: 1 snapshots"
    ∷ (codes " " ++ uuid (P 1) ++ uuid (S 1) ++ codes " COMPLETE after 1000000.2 at 1000000.4")
    ∷ codes "13: refused unknown_namespace"
    ∷ codes "14: refused too_early 1000000.3"
    ∷ first_entries
    ++ entry (codes "4") (codes "3") (codes "change [] create_snapshot_schedule 1 10 a => ok" ++ uuid (S 1))
    ∷ entry (codes "5") (codes "4") (codes "change [] take_snapshot" ++ uuid (S 1) ++ codes " => ok" ++ uuid (P 1))
    ∷ entry (codes "6") (codes "5") (codes "send" ++ uuid (P 1) ++ codes " 1 => sent")
    ∷ entry (codes "7") (codes "6") (codes "process 1 1 => done" ++ uuid (P 1) ++ codes " freeze")
    ∷ entry (codes "8") (codes "7") (codes "ack" ++ uuid (P 1) ++ codes " 1 => acked")
    ∷ entry (codes "9") (codes "8") (codes "advance" ++ uuid (P 1) ++ codes " => advanced COMPLETE")
    ∷ entry (codes "10") (codes "9") (codes "look_present => present [1]")
    ∷ entry (codes "11") (codes "10") (codes "cutoff 1 => cutoff_at 1000000.5")
    ∷ entry (codes "12") (codes "11") (codes "look_present => present [1]")
    ∷ entry (codes "13") (codes "11") (codes "compact 1 => compacted 0 0")
    ∷ entry (codes "14") (codes "12") (codes "look_removable => removable")
    ∷ entry (codes "15") (codes "13") (codes "prune => pruned 0")
    ∷ entry (codes "16") (codes "12") (codes "restart 1 => ok")
    ∷ entry (codes "17") (codes "13") (codes "stats 1 => stats cutoff 1000000.5 versions 0 frozen 0 inbox 0")
    ∷ entry (codes "18") (codes "14") (codes "change [] list_snapshots => 1 snapshots |" ++ uuid (P 1) ++ uuid (S 1) ++ codes " COMPLETE after 1000000.2 at 1000000.4")
    ∷ entry (codes "19") (codes "15") (codes "change [] clone_namespace zz b => refused unknown_namespace")
    ∷ entry (codes "20") (codes "16") (codes "change [] restore_snapshot_schedule" ++ uuid (S 1) ++ codes " ht 4096000002 => refused too_early 1000000.3")
    ∷ [])
unfolding the_book
work_history = refl

-- a tablet's lag counts for what touches it alone, and not for a coordinator
lag_history : written_by (prelude
    ++ Tick 2000000
    ∷ Lag 1 500000
    ∷ take_snapshot
    ∷ Settle
    ∷ put x (v_is 1)
    ∷ CompactTablets
    ∷ RaiseCutoffs
    ∷ ShowHistory
    ∷ [])
    ≡ lines (prelude_written
    ++ (codes "7: ok 2000000.0" ++ uuid (P 1))
    ∷ codes "8: 4 events"
    ∷ codes "9: ok 2000000.4"
    ∷ codes "10: 1 events"
    ∷ codes "11: 1 events"
    ∷ first_entries
    ++ entry (codes "4") (codes "3") (codes "change [] create_snapshot_schedule 1 10 a => ok" ++ uuid (S 1))
    ∷ (codes "#5 0 2000000 2000000.0 change [] take_snapshot" ++ uuid (S 1) ++ codes " => ok" ++ uuid (P 1))
    ∷ (codes "#6 0 2000000 2000000.1 send" ++ uuid (P 1) ++ codes " 1 => sent")
    ∷ (codes "#7 0 2000000 2000000.2 process 1 1 => done" ++ uuid (P 1) ++ codes " freeze")
    ∷ (codes "#8 0 2000000 2000000.3 ack" ++ uuid (P 1) ++ codes " 1 => acked")
    ∷ (codes "#9 0 2000000 2000000.4 advance" ++ uuid (P 1) ++ codes " => advanced COMPLETE")
    ∷ (codes "#10 0 2000000 2000000.5 look_keys a t x v=1" ++ placed)
    ∷ (codes "#11 0 1500000 2000000.4 write 1" ++ uuid (B 1) ++ codes " v1 x 1=1 => ok")
    ∷ codes "#12 0 2000000 2000000.6 look_present => present [1]"
    ∷ codes "#13 0 1500000 2000000.5 compact 1 => compacted 1 1"
    ∷ codes "#14 0 2000000 2000000.7 look_present => present [1]"
    ∷ codes "#15 0 2000000 2000000.8 cutoff 1 => cutoff_at 2000000.1"
    ∷ [])
unfolding the_book
lag_history = refl
