-- Journals in which what a restore fixed has changed, or a change came too late for it.
use Rattle.std.proofs.Common.{◌<◌, ℕ, List, [], ◌∷◌, refl, ap, sym, arith}
use Rattle.std.proofs.lemmas.Bool.{true≢false}
use Rattle.row_values.specs.declared.value.RowOp.TheVariants.{Upsert}
use Rattle.model.specs.Journal.{Change, ChangeAct, NamespaceMade, TableMade, TableDropped, RowChanged, NamespaceRestored, is_in}
use Rattle.model.specs.Right.{NoneLate, FixedStays}
use Rattle.model_rows.specs.Scripts.{N, T, a, kept_v, t, v_alone, x}

abbrev stamped : ℕ → ChangeAct → Change
stamped n act = record { stamp = n; act = act }

-- a table that was restored with its namespace is made once more, in another namespace and before the restore's time

abbrev made_once : List Change
made_once = stamped 2 (TableMade (T 1) (N 1) t v_alone) ∷ []

abbrev restored : List Change
restored = stamped 100 (NamespaceRestored (N 1) 50) ∷ made_once

abbrev made_twice : List Change
made_twice = stamped 3 (TableMade (T 1) (N 2) t v_alone) ∷ restored

another_namespace : FixedStays made_twice → ⊥
another_namespace stays =
    let same_table = (stays.same.0.1 (N 1) 50 refl).tables (T 1) refl in true≢false (ap (is_in (N 1)) (sym same_table))

-- a row of a table that was dropped before the restore's time comes after the restore, with a stamp before that time

abbrev dropped : List Change
dropped =
    stamped 40 (TableDropped (T 1)) ∷ stamped 10 (TableMade (T 1) (N 1) t v_alone) ∷ stamped 5 (NamespaceMade (N 1) a) ∷ []

abbrev dropped_restored : List Change
dropped_restored = stamped 100 (NamespaceRestored (N 1) 50) ∷ dropped

abbrev late_row : List Change
late_row = stamped 30 (RowChanged (T 1) x (Upsert (kept_v 1))) ∷ dropped_restored

row_of_dropped_table : NoneLate late_row → ⊥
row_of_dropped_table late = let after : 50 < 30 = late.1 (N 1) 50 refl refl in omega arith
