use Rattle.std.proofs.Common.{map}
use Rattle.std.specs.Option.{option_copied}
use Rattle.step_table.specs.Histories.{history_of}
use Rattle.machine_laws.specs.Core.{core_of}
use Rattle.cluster_core.specs.Coding.{coding}
use Rattle.cluster_core.proofs.Booked.{whole_of, shown_of}
use Rattle.cluster_core.proofs.entries.Entries.of.Goals as goal

pub invariant_of-result : goal.invariant_of-result
invariant_of-result g c = whole_of (map option_copied c.in_ok-places.places.items) (history_of (core_of coding) c.args.line.now.parts) c.in_ok-places.ensures.exact

pub returns : goal.returns
returns g c = record { exact = shown_of (map option_copied c.in_ok-places.places.items) (history_of (core_of coding) c.args.line.now.parts) c.in_ok-places.ensures.exact }
