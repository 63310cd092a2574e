-- What scripts write of windows and restores.
use Rattle.std.proofs.Common.{◌≡◌, [], ◌∷◌, ◌++◌, None, codes, refl}
use Rattle.row_values.specs.declared.value.Value.TheVariants.{Text}
use Rattle.row_values.specs.Schema.{IntColumn, TextColumn}
use Rattle.model.specs.Scripts.{AddColumn, CompactTablets, Coordinate, DropTable, ListSnapshots, ListTablets, ReadTable, Settle, Split}
use Rattle.model_rows.specs.Computed.{the_book}
use Rattle.model_rows.specs.Scripts.{B, P, R, S, T, a, q, set, t, v_is, w, x, zz}
use Rattle.model_rows.specs.ScriptLines.{get, lines, prelude, prelude_written, put, restore, uuid, written_by}

-- a window's low end
window_low_end : written_by (prelude
    ++ restore 4096000002
    ∷ restore 4096000003
    ∷ [])
    ≡ lines (prelude_written
    ++ codes "5: refused too_early 1000000.3"
    ∷ (codes "6: ok 1000000.5" ++ uuid (R 1))
    ∷ [])
unfolding the_book
window_low_end = refl

-- a window's high end
window_high_end : written_by (prelude
    ++ restore 4096000004
    ∷ restore 4096000004
    ∷ Settle
    ∷ ListSnapshots
    ∷ [])
    ≡ lines (prelude_written
    ++ codes "5: refused future 1000000.4"
    ∷ (codes "6: ok 1000000.5" ++ uuid (R 1))
    ∷ codes "7: 18 events"
    ∷ codes "8: 1 snapshots"
    ∷ (codes " " ++ uuid (P 1) ++ uuid (S 1) ++ codes " COMPLETE after 1000000.2 at 1000000.9")
    ∷ [])
unfolding the_book
window_high_end = refl

-- a dropped table comes back
dropped_table_comes_back : written_by (prelude
    ++ put x (v_is 7)
    ∷ DropTable a t
    ∷ ListTablets a
    ∷ restore 4096000004
    ∷ Settle
    ∷ get x
    ∷ [])
    ≡ lines (prelude_written
    ++ codes "5: ok 1000000.3"
    ∷ codes "6: ok 1000000.6"
    ∷ codes "7: 1 tablets"
    ∷ (codes " " ++ uuid (B 1) ++ uuid (T 1) ++ codes " slot 1 0..65536 hidden 1000000.6")
    ∷ (codes "8: ok 1000000.8" ++ uuid (R 1))
    ∷ codes "9: 15 events"
    ∷ codes "10: row v=7"
    ∷ [])
unfolding the_book
dropped_table_comes_back = refl

-- a column goes and comes back
column_comes_back : written_by (prelude
    ++ put x (v_is 1)
    ∷ AddColumn a t w TextColumn
    ∷ put x (set w (Text q) ∷ [])
    ∷ get x
    ∷ restore 4096000005
    ∷ Settle
    ∷ get x
    ∷ restore 4096000008
    ∷ Settle
    ∷ get x
    ∷ [])
    ≡ lines (prelude_written
    ++ codes "5: ok 1000000.3"
    ∷ codes "6: ok 1000000.6"
    ∷ codes "7: ok 1000000.7"
    ∷ codes "8: row v=1 w='q'"
    ∷ (codes "9: ok 1000000.9" ++ uuid (R 1))
    ∷ codes "10: 18 events"
    ∷ codes "11: row v=1"
    ∷ (codes "12: ok 1000000.29" ++ uuid (R 2))
    ∷ codes "13: 18 events"
    ∷ codes "14: row v=1 w='q'"
    ∷ [])
unfolding the_book
column_comes_back = refl

-- a restore undoes another
undoing_a_restore : written_by (prelude
    ++ put x (v_is 1)
    ∷ put x (v_is 2)
    ∷ restore 4096000003
    ∷ Settle
    ∷ get x
    ∷ put x (v_is 3)
    ∷ restore 4096000010
    ∷ Settle
    ∷ get x
    ∷ [])
    ≡ lines (prelude_written
    ++ codes "5: ok 1000000.3"
    ∷ codes "6: ok 1000000.4"
    ∷ (codes "7: ok 1000000.6" ++ uuid (R 1))
    ∷ codes "8: 18 events"
    ∷ codes "9: row v=1"
    ∷ codes "10: ok 1000000.25"
    ∷ (codes "11: ok 1000000.27" ++ uuid (R 2))
    ∷ codes "12: 18 events"
    ∷ codes "13: row v=2"
    ∷ [])
unfolding the_book
undoing_a_restore = refl

-- back to before a split
back_before_a_split : written_by (prelude
    ++ put x (v_is 1)
    ∷ put zz (v_is 2)
    ∷ Split a t 1000
    ∷ put x (v_is 10)
    ∷ put zz (v_is 20)
    ∷ CompactTablets
    ∷ restore 4096000005
    ∷ Settle
    ∷ ReadTable a t None
    ∷ ListTablets a
    ∷ [])
    ≡ lines (prelude_written
    ++ codes "5: ok 1000000.3"
    ∷ codes "6: ok 1000000.4"
    ∷ (codes "7: ok 1000000.7" ++ uuid (B 2) ++ uuid (B 3))
    ∷ codes "8: ok 1000000.8"
    ∷ codes "9: ok 1000000.8"
    ∷ codes "10: 3 events"
    ∷ (codes "11: ok 1000000.11" ++ uuid (R 1))
    ∷ codes "12: 33 events"
    ∷ codes "13: 2 rows"
    ∷ codes "  x v=1"
    ∷ codes "  zz v=2"
    ∷ codes "14: 3 tablets"
    ∷ (codes " " ++ uuid (B 1) ++ uuid (T 1) ++ codes " slot 1 0..65536 active")
    ∷ (codes " " ++ uuid (B 2) ++ uuid (T 1) ++ codes " slot 2 0..1000 hidden 1000000.19")
    ∷ (codes " " ++ uuid (B 3) ++ uuid (T 1) ++ codes " slot 3 1000..65536 hidden 1000000.19")
    ∷ [])
unfolding the_book
back_before_a_split = refl

-- back to a split's own stamp
to_the_splits_own_stamp : written_by (prelude
    ++ put x (v_is 1)
    ∷ put zz (v_is 2)
    ∷ Split a t 1000
    ∷ put x (v_is 10)
    ∷ put zz (v_is 20)
    ∷ restore 4096000007
    ∷ Settle
    ∷ ReadTable a t None
    ∷ ListTablets a
    ∷ [])
    ≡ lines (prelude_written
    ++ codes "5: ok 1000000.3"
    ∷ codes "6: ok 1000000.4"
    ∷ (codes "7: ok 1000000.7" ++ uuid (B 2) ++ uuid (B 3))
    ∷ codes "8: ok 1000000.8"
    ∷ codes "9: ok 1000000.8"
    ∷ (codes "10: ok 1000000.10" ++ uuid (R 1))
    ∷ codes "11: 33 events"
    ∷ codes "12: 2 rows"
    ∷ codes "  x v=1"
    ∷ codes "  zz v=2"
    ∷ codes "13: 3 tablets"
    ∷ (codes " " ++ uuid (B 1) ++ uuid (T 1) ++ codes " slot 1 0..65536 hidden 1000000.7")
    ∷ (codes " " ++ uuid (B 2) ++ uuid (T 1) ++ codes " slot 2 0..1000 active")
    ∷ (codes " " ++ uuid (B 3) ++ uuid (T 1) ++ codes " slot 3 1000..65536 active")
    ∷ [])
unfolding the_book
to_the_splits_own_stamp = refl

-- a tablet that is fenced answers so
fenced_tablet : written_by (prelude
    ++ put x (v_is 1)
    ∷ restore 4096000003
    ∷ Coordinate 2
    ∷ put x (v_is 2)
    ∷ get x
    ∷ AddColumn a t w IntColumn
    ∷ Settle
    ∷ get x
    ∷ [])
    ≡ lines (prelude_written
    ++ codes "5: ok 1000000.3"
    ∷ (codes "6: ok 1000000.5" ++ uuid (R 1))
    ∷ codes "7: 2 events"
    ∷ (codes "8: refused fenced" ++ uuid (R 1))
    ∷ (codes "9: refused fenced" ++ uuid (R 1))
    ∷ (codes "10: refused busy" ++ uuid (R 1))
    ∷ codes "11: 16 events"
    ∷ codes "12: row v=1"
    ∷ [])
unfolding the_book
fenced_tablet = refl
