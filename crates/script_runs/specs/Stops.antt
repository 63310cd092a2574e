-- Why a run stops.
use Rattle.cluster_core.specs.declared.fault.StepRefused.{StepRefused}
use Rattle.cluster_core.specs.declared.fault.StepRefused.TheVariants as refused
use Rattle.script_runs.specs.declared.stop.Stop.{Stop}
use Rattle.script_runs.specs.declared.stop.Stop.TheVariants.{NoMemory, Full}

-- the clock's end and a full log are one cause
abbrev pub stop_of : StepRefused → Stop
stop_of refused.NoMemory = NoMemory
stop_of refused.ClockEnd = Full
stop_of (refused.EventsFull slot) = Full
