-- A first write and its read, as a run, and the journal that it makes.
use Rattle.std.specs.Prelude.{List, [], ◌∷◌, ◌++◌}
use Rattle.row_values.specs.declared.value.RowOp.TheVariants.{Upsert}
use Rattle.model.specs.Acts.{CreateTable}
use Rattle.model.specs.Journal.{Change, NamespaceMade, TableMade, RowChanged}
use Rattle.model_rows.specs.Runs.{Run, after, begun}
use Rattle.model_rows.specs.Scripts.{N, T, a, create_namespace, early, get, home, int_column, kept_v, new_int, planned_change, put, t, tick, v, v_is, x}

-- a namespace and a table, then a row, then its read

abbrev pub made : Run
made = after (tick 1000000 ++ create_namespace a ++ planned_change (CreateTable a t 1 (new_int v ∷ [])) (1 ∷ [])) (begun 64)

abbrev pub written : Run
written = after (put a t (home 1) x (v_is 1)) made

abbrev pub been_read : Run
been_read = after (get a t (home 1) x) written

abbrev pub namespace_made : Change
namespace_made = record { stamp = early 0; act = NamespaceMade (N 1) a }

abbrev pub table_made : Change
table_made = record { stamp = early 2; act = TableMade (T 1) (N 1) t (int_column 1 v ∷ []) }

abbrev pub row_written : Change
row_written = record { stamp = early 3; act = RowChanged (T 1) x (Upsert (kept_v 1)) }

abbrev pub changes : List Change
changes = row_written ∷ table_made ∷ namespace_made ∷ []
