-- A restore and one that undoes it, as runs, and the journal that they make.
use Rattle.std.specs.Prelude.{ℕ, List, [], ◌∷◌, ◌++◌}
use Rattle.row_values.specs.declared.value.RowOp.TheVariants.{Upsert}
use Rattle.model.specs.Acts.{At}
use Rattle.model.specs.Journal.{Change, NamespaceRestored, RowChanged}
use Rattle.model_rows.specs.FirstRead.{namespace_made, table_made}
use Rattle.model_rows.specs.Runs.{Run, after, coordinated, done}
use Rattle.model_rows.specs.Scripts.{asking, reading, B, N, T, a, early, home, kept_v, put, ready, restore, t, v_is, x}

abbrev pub restoring : Run
restoring = after (put a t (home 1) x (v_is 1) ++ put a t (home 1) x (v_is 2) ++ restore (early 3)) ready

abbrev pub restored : Run
restored = coordinated 60 restoring

abbrev pub place_one : At
place_one = record { slot = 1; tablet = B 1 }

-- the row is read, and written again; then the restore is undone, and the row is read once more
abbrev pub seen : Run
seen = done (reading place_one 2 x (1 ∷ [])) (done (asking a x []) restored)

abbrev pub undoing : Run
undoing = after (put a t (home 2) x (v_is 3) ++ restore (early 10)) seen

abbrev pub undone : Run
undone = coordinated 60 undoing

abbrev pub been_read : Run
been_read = done (reading place_one 3 x (1 ∷ [])) (done (asking a x []) undone)

abbrev pub row_of : ℕ → ℕ → Change
row_of logical n = record { stamp = early logical; act = RowChanged (T 1) x (Upsert (kept_v n)) }

abbrev pub restored_to : ℕ → ℕ → Change
restored_to logical to = record { stamp = early logical; act = NamespaceRestored (N 1) (early to) }

abbrev pub two_rows : List Change
two_rows = row_of 4 2 ∷ row_of 3 1 ∷ table_made ∷ namespace_made ∷ []

abbrev pub one_restore : List Change
one_restore = restored_to 11 3 ∷ two_rows

abbrev pub all_changes : List Change
all_changes = restored_to 32 10 ∷ row_of 25 3 ∷ one_restore
