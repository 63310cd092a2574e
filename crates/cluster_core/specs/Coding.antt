-- The code of the cluster's machine.
use Rattle.machine_laws.specs.Core.{Coding}
use Rattle.cluster_core.specs.declared.room.PartRoom.{PartRoom}
use Rattle.cluster_core.specs.declared.fault.StepRefused.{StepRefused}
use Rattle.cluster_core.specs.declared.fault.StepRefused.TheVariants.{NoMemory}
use Rattle.cluster_core.specs.Tellings.{no_room}
use Rattle.cluster_core.specs.Readies.{ReadyView, CanApply}
use Rattle.cluster_core.specs.Causes.{fault_told}

abbrev pub coding : Coding PartRoom ReadyView StepRefused
coding = record {
  no_room = no_room;
  event_of = λ r. r.event;
  CanApply = CanApply;
  no_memory = NoMemory;
  refused = fault_told;
}
