-- What scripts write of names: which are taken, and what keeps a namespace from being dropped.
use Rattle.std.proofs.Common.{◌≡◌, [], ◌∷◌, ◌++◌, None, codes, refl}
use Rattle.model.specs.Scripts.{CloneNamespace, CreateNamespace, CreateSchedule, DropNamespace, DropTable}
use Rattle.model_rows.specs.Computed.{the_book}
use Rattle.model_rows.specs.ScriptLines.{first_lines, first_written, lines, prelude, prelude_written, uuid, written_by}
use Rattle.model_rows.specs.Scripts.{N, S, T, a, b, c, d, t, zz}

-- a namespace and a table alone: the script's last line may end with it
no_last_line_feed : written_by first_lines ≡ lines first_written
unfolding the_book
no_last_line_feed = refl

names_taken_before_clones : written_by (prelude
    ++ CreateNamespace a
    ∷ CreateSchedule 1 10 a
    ∷ DropNamespace a
    ∷ DropTable a t
    ∷ DropNamespace a
    ∷ [])
    ≡ lines (prelude_written
    ++ (codes "5: refused name_taken" ++ uuid (N 1))
    ∷ (codes "6: ok 1000000.5" ++ uuid (S 2))
    ∷ (codes "7: refused not_empty" ++ uuid (T 1))
    ∷ codes "8: ok 1000000.8"
    ∷ (codes "9: refused under_schedule" ++ uuid (S 1))
    ∷ [])
unfolding the_book
names_taken_before_clones = refl

names_taken : written_by (prelude
    ++ CreateNamespace a
    ∷ CreateSchedule 1 10 a
    ∷ DropNamespace a
    ∷ DropTable a t
    ∷ DropNamespace a
    ∷ CloneNamespace zz b None
    ∷ CreateNamespace c
    ∷ CreateSchedule 10 10 c
    ∷ CloneNamespace c d None
    ∷ [])
    ≡ lines (prelude_written
    ++ (codes "5: refused name_taken" ++ uuid (N 1))
    ∷ (codes "6: ok 1000000.5" ++ uuid (S 2))
    ∷ (codes "7: refused not_empty" ++ uuid (T 1))
    ∷ codes "8: ok 1000000.8"
    ∷ (codes "9: refused under_schedule" ++ uuid (S 1))
    ∷ codes "10: refused unknown_namespace"
    ∷ (codes "11: ok 1000000.11" ++ uuid (N 2))
    ∷ codes "12: refused bad_period 10 10"
    ∷ (codes "13: refused no_schedule" ++ uuid (N 2))
    ∷ [])
unfolding the_book
names_taken = refl
