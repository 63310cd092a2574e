-- What a script of an ordinary hour writes.
use Rattle.std.proofs.Common.{◌≡◌, [], ◌∷◌, ◌++◌, None, codes, refl}
use Rattle.row_values.specs.declared.value.Value.TheVariants.{Text}
use Rattle.model.specs.Acts.{NamedUpsert, NamedDelete}
use Rattle.model.specs.Scripts.{CreateNamespace, CreateSchedule, CreateTable, MinusMinutes, ReadRow, Restore, Settle, Tick, WriteRows}
use Rattle.model_rows.specs.Computed.{the_book}
use Rattle.model_rows.specs.Scripts.{N, P, R, S, T, new_int, new_text, number, set}
use Rattle.model_rows.specs.ScriptLines.{lines, take_snapshot, uuid, written_by}

-- snapshots on schedule, a row that is deleted, and a restore to before that
ordinary_hour : written_by (Tick 1000000000
    ∷ CreateNamespace (codes "shop")
    ∷ CreateTable (codes "shop") (codes "item") 4 (new_text (codes "name") ∷ new_int (codes "qty") ∷ [])
    ∷ CreateSchedule 1 10 (codes "shop")
    ∷ take_snapshot
    ∷ Settle
    ∷ WriteRows (codes "shop") (codes "item") (record { key = (codes "k1"); op = NamedUpsert (set (codes "name") (Text (codes "nut")) ∷ set (codes "qty") (number 5) ∷ []) } ∷ [])
    ∷ Tick 1061000000
    ∷ take_snapshot
    ∷ Settle
    ∷ Tick 1400000000
    ∷ WriteRows (codes "shop") (codes "item") (record { key = (codes "k1"); op = NamedDelete } ∷ [])
    ∷ Tick 1500000000
    ∷ Restore (S 1) (MinusMinutes 5)
    ∷ Settle
    ∷ ReadRow (codes "shop") (codes "item") (codes "k1") None
    ∷ [])
    ≡ lines ((codes "2: ok 1000000000.0" ++ uuid (N 1))
    ∷ (codes "3: ok 1000000000.2" ++ uuid (T 1))
    ∷ (codes "4: ok 1000000000.3" ++ uuid (S 1))
    ∷ (codes "5: ok 1000000000.4" ++ uuid (P 1))
    ∷ codes "6: 13 events"
    ∷ codes "7: ok 1000000000.8"
    ∷ (codes "9: ok 1061000000.0" ++ uuid (P 2))
    ∷ codes "10: 13 events"
    ∷ codes "12: ok 1400000000.0"
    ∷ (codes "14: ok 1500000000.0" ++ uuid (R 1))
    ∷ codes "15: 54 events"
    ∷ codes "16: row name='nut' qty=5"
    ∷ [])
unfolding the_book
ordinary_hour = refl
