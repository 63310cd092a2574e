-- What scripts write of tables, columns and reads.
use Rattle.std.proofs.Common.{◌≡◌, [], ◌∷◌, ◌++◌, None, Some, codes, refl}
use Rattle.row_values.specs.declared.value.Value.TheVariants.{Text}
use Rattle.row_values.specs.Schema.{IntColumn, TextColumn}
use Rattle.model.specs.Acts.{NamedUpsert}
use Rattle.model.specs.Scripts.{AddColumn, CompactTablets, CreateNamespace, CreateSchedule, CreateTable, DropColumn, Lag, Micros, RaiseCutoffs, ReadRow, ReadTable, RenameTable, Restore, Settle, ShowStats, Split, Tick, WriteRows}
use Rattle.model_rows.specs.Computed.{the_book}
use Rattle.model_rows.specs.Scripts.{B, N, R, S, T, a, new_int, q, set, t, u, v, v_is, w, x, zz, zzz}
use Rattle.model_rows.specs.ScriptLines.{first_lines, first_written, get, get_at, lines, prelude, prelude_written, put, uuid, written_by}

-- a table that is written twice, and read at its ends
first_path : written_by (first_lines
    ++ put x (v_is 1)
    ∷ put x (v_is 2)
    ∷ get x
    ∷ get_at x 4096000003
    ∷ get_at x 4096000000
    ∷ get_at x 4095999999
    ∷ get_at x 4096000009
    ∷ [])
    ≡ lines (first_written
    ++ codes "4: ok 1000000.3"
    ∷ codes "5: ok 1000000.4"
    ∷ codes "6: row v=2"
    ∷ codes "7: row v=1"
    ∷ codes "8: refused unknown_table"
    ∷ codes "9: refused too_old 999999.4095 1000000.0"
    ∷ codes "10: refused future 1000000.9"
    ∷ [])
unfolding the_book
first_path = refl

-- columns that come and go, under a table's new name
catalog_columns : written_by (first_lines
    ++ put x (v_is 1)
    ∷ AddColumn a t w TextColumn
    ∷ put x (set w (Text q) ∷ [])
    ∷ get x
    ∷ get_at x 4096000003
    ∷ RenameTable a t u
    ∷ get x
    ∷ DropColumn a u v
    ∷ ReadTable a u None
    ∷ AddColumn a u v IntColumn
    ∷ ReadRow a u x None
    ∷ [])
    ≡ lines (first_written
    ++ codes "4: ok 1000000.3"
    ∷ codes "5: ok 1000000.5"
    ∷ codes "6: ok 1000000.6"
    ∷ codes "7: row v=1 w='q'"
    ∷ codes "8: row v=1"
    ∷ codes "9: ok 1000000.9"
    ∷ codes "10: refused unknown_table"
    ∷ codes "11: ok 1000000.12"
    ∷ codes "12: 1 rows"
    ∷ codes "  x w='q'"
    ∷ codes "13: ok 1000000.15"
    ∷ codes "14: row w='q' v=null"
    ∷ [])
unfolding the_book
catalog_columns = refl

-- a batch stays within one tablet
batch_over_two_tablets_no_schedule : written_by (Tick 1000000
    ∷ CreateNamespace a
    ∷ CreateTable a t 2 (new_int v ∷ [])
    ∷ WriteRows a t (record { key = x; op = NamedUpsert (v_is 1) } ∷ record { key = zzz; op = NamedUpsert (v_is 2) } ∷ [])
    ∷ ReadTable a t None
    ∷ [])
    ≡ lines ((codes "2: ok 1000000.0" ++ uuid (N 1))
    ∷ (codes "3: ok 1000000.2" ++ uuid (T 1))
    ∷ codes "4: refused cross_tablet 120 55610"
    ∷ codes "5: 0 rows"
    ∷ [])
unfolding the_book
batch_over_two_tablets_no_schedule = refl

batch_over_two_tablets : written_by (Tick 1000000
    ∷ CreateNamespace a
    ∷ CreateTable a t 2 (new_int v ∷ [])
    ∷ CreateSchedule 1 10 a
    ∷ WriteRows a t (record { key = x; op = NamedUpsert (v_is 1) } ∷ record { key = zzz; op = NamedUpsert (v_is 2) } ∷ [])
    ∷ ReadTable a t None
    ∷ [])
    ≡ lines (prelude_written
    ++ codes "5: refused cross_tablet 120 55610"
    ∷ codes "6: 0 rows"
    ∷ [])
unfolding the_book
batch_over_two_tablets = refl

-- a read of a time before a split
read_before_a_split : written_by (prelude
    ++ put x (v_is 1)
    ∷ put zz (v_is 2)
    ∷ Split a t 1000
    ∷ put x (v_is 10)
    ∷ put zz (v_is 20)
    ∷ get_at x 4096000003
    ∷ [])
    ≡ lines (prelude_written
    ++ codes "5: ok 1000000.3"
    ∷ codes "6: ok 1000000.4"
    ∷ (codes "7: ok 1000000.7" ++ uuid (B 2) ++ uuid (B 3))
    ∷ codes "8: ok 1000000.8"
    ∷ codes "9: ok 1000000.8"
    ∷ codes "10: row v=1"
    ∷ [])
unfolding the_book
read_before_a_split = refl

-- without a schedule versions go after 900 seconds
cutoff_without_schedule : written_by (first_lines
    ++ put x (v_is 1)
    ∷ put x (v_is 2)
    ∷ ShowStats 1
    ∷ Tick 1000000000
    ∷ RaiseCutoffs
    ∷ CompactTablets
    ∷ ShowStats 1
    ∷ get_at x 4096000004
    ∷ ReadRow a t x (Some (Micros 100000001))
    ∷ [])
    ≡ lines (first_written
    ++ codes "4: ok 1000000.3"
    ∷ codes "5: ok 1000000.4"
    ∷ codes "6: stats cutoff 1000000.2 versions 2 frozen 0 inbox 0"
    ∷ codes "8: 1 events"
    ∷ codes "9: 1 events"
    ∷ codes "10: stats cutoff 100000000.1 versions 1 frozen 0 inbox 0"
    ∷ codes "11: refused too_old 1000000.4 100000000.1"
    ∷ codes "12: row v=2"
    ∷ [])
unfolding the_book
cutoff_without_schedule = refl

-- a tablet that is two seconds behind
lagging_tablet : written_by (Tick 10000000
    ∷ CreateNamespace a
    ∷ CreateTable a t 1 (new_int v ∷ [])
    ∷ CreateSchedule 1 10 a
    ∷ Lag 1 2000000
    ∷ Tick 13000000
    ∷ Restore (S 1) (Micros 12000000)
    ∷ put x (v_is 5)
    ∷ Settle
    ∷ get x
    ∷ [])
    ≡ lines ((codes "2: ok 10000000.0" ++ uuid (N 1))
    ∷ (codes "3: ok 10000000.2" ++ uuid (T 1))
    ∷ (codes "4: ok 10000000.3" ++ uuid (S 1))
    ∷ (codes "7: ok 13000000.0" ++ uuid (R 1))
    ∷ codes "8: ok 11000000.0"
    ∷ codes "9: 18 events"
    ∷ codes "10: row v=5"
    ∷ [])
unfolding the_book
lagging_tablet = refl

-- a table has 16 columns at most
limit_columns : written_by (Tick 1000000
    ∷ CreateNamespace a
    ∷ CreateTable a t 1 (new_int (codes "c1") ∷ new_int (codes "c2") ∷ new_int (codes "c3") ∷ new_int (codes "c4") ∷ new_int (codes "c5") ∷ new_int (codes "c6") ∷ new_int (codes "c7") ∷ new_int (codes "c8") ∷ new_int (codes "c9") ∷ new_int (codes "c10") ∷ new_int (codes "c11") ∷ new_int (codes "c12") ∷ new_int (codes "c13") ∷ new_int (codes "c14") ∷ new_int (codes "c15") ∷ new_int (codes "c16") ∷ [])
    ∷ AddColumn a t (codes "c17") IntColumn
    ∷ [])
    ≡ lines ((codes "2: ok 1000000.0" ++ uuid (N 1))
    ∷ (codes "3: ok 1000000.2" ++ uuid (T 1))
    ∷ codes "4: refused too_many 16"
    ∷ [])
unfolding the_book
limit_columns = refl

-- a split has to cut
too_narrow : written_by (prelude
    ++ Split a t 0
    ∷ [])
    ≡ lines (prelude_written
    ++ codes "5: refused too_narrow 0"
    ∷ [])
unfolding the_book
too_narrow = refl
