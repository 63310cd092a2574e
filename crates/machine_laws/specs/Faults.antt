-- Why a step is not performed: the book's clock ends, or the log is full that would keep the entry.
use Rattle.std.specs.Prelude.{ℕ, List, [], ◌∷◌, Option, Some, None, nat_le, length, if◌then◌else◌}
use Rattle.model.specs.Times.{end_of_time}
use Rattle.model.specs.Acts.{Event}
use Rattle.model.specs.Entries.{Entry, log_of}
use Rattle.model.specs.History.{held, most_entries, entry_of}
use Rattle.machine_laws.specs.Views.{PartView}

pub data StepFault : Type 0 where
  ClockEnd : StepFault
  LogFull : (slot : ℕ) → StepFault

abbrev pub first_slot : List ℕ → ℕ
first_slot [] = 0
first_slot (k ∷ ks) = k

abbrev pub first_length : {R : Type 0} → List (PartView R) → ℕ
first_length [] = 0
first_length (p ∷ ps) = length p.log

-- the fault of an event with this stamp whose entry the log of a slot would keep, which has so many
abbrev pub fault_by : ℕ → ℕ → ℕ → Option StepFault
fault_by stamp slot entries =
    if nat_le end_of_time stamp then Some ClockEnd
    else if nat_le most_entries entries then Some (LogFull slot)
    else None

-- the fault by the touched parts: the first log keeps the entry
abbrev pub fault_of : {R : Type 0} → ℕ → List ℕ → List (PartView R) → Option StepFault
fault_of stamp slots ps = fault_by stamp (first_slot slots) (first_length ps)

-- the fault by the book's history
abbrev pub fault_after : ℕ → Event → List Entry → Option StepFault
fault_after slots event history =
    fault_by (entry_of slots event history).stamp (log_of event.act) (held (log_of event.act) history)
