use Rattle.std.proofs.Common.{◌≡◌, drop}
use Rattle.step_line.specs.Numbered.{in_logs}
use Rattle.machine_laws.specs.Core.{core_of}
use Rattle.cluster_core.specs.Coding.{coding}
use Rattle.cluster_core.proofs.history.entry_in_logs.Given as goal

abbrev pub invariant-loop-slot : goal.invariant-loop-slot
invariant-loop-slot g l = in_logs (core_of coding) l.number (drop l.slot l.line.parts) ≡ in_logs (core_of coding) l.number l.line.parts
