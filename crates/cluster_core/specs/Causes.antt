-- Why a step is not performed: by the fault that the book's history has, or for want of memory.
use Rattle.std.specs.Prelude.{◌≡◌, Option, Some}
use Rattle.machine_laws.specs.Faults as law
use Rattle.machine_laws.specs.Faults.{StepFault}
use Rattle.cluster_core.specs.declared.fault.StepRefused.{StepRefused}
use Rattle.cluster_core.specs.declared.fault.StepRefused.TheVariants.{NoMemory, ClockEnd, EventsFull}

abbrev pub fault_told : StepFault → StepRefused
fault_told law.ClockEnd = ClockEnd
fault_told (law.LogFull slot) = EventsFull slot

abbrev pub RefusedBy : Option StepFault → StepRefused → Type 0
RefusedBy fault NoMemory = Unit {0}
RefusedBy fault ClockEnd = fault ≡ Some law.ClockEnd
RefusedBy fault (EventsFull slot) = fault ≡ Some (law.LogFull slot)
