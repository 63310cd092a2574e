use Rattle.std.proofs.Common.{◌≡◌, drop, length, map, replicate, None}
use Rattle.std.specs.Option.{option_copied}
use Rattle.step_table.specs.Histories.{history_of}
use Rattle.step_line.specs.Numbered.{all_placed}
use Rattle.machine_laws.specs.Core.{core_of}
use Rattle.cluster_core.specs.Coding.{coding}
use Rattle.cluster_core.proofs.entries.places_of.Given as goal

abbrev pub invariant-loop-slot : goal.invariant-loop-slot
invariant-loop-slot g l = record {
  placed : all_placed (core_of coding) (drop l.slot l.line.parts) (map option_copied l.places.items) ≡ all_placed (core_of coding) l.line.parts (replicate (length (history_of (core_of coding) l.line.parts)) None);
  size : length l.places.items ≡ length (history_of (core_of coding) l.line.parts);
}
