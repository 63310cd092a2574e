-- A counter, as contracts see it.
use Rattle.std.specs.Prelude.{ℕ, List}
use Rattle.step_table.specs.declared.known.Entry.{Entry}
use Rattle.step_counters.specs.declared.machine.Add.{Add}

pub record CounterView : Type 0 where
  pub log : List (Entry Add ℕ)
  pub room : ℕ
