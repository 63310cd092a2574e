-- The commands whose lemmas stand here.
use Rattle.model.specs.Acts.{Command, CreateSchedule, EditSchedule, DeleteSchedule, TakeSnapshot, Restore}

-- the commands on schedules, and those that take a snapshot or begin a restoration
abbrev pub IsOfSchedules : Command → Type 0
IsOfSchedules (CreateSchedule interval retention namespace) = Unit {0}
IsOfSchedules (EditSchedule schedule interval retention) = Unit {0}
IsOfSchedules (DeleteSchedule schedule) = Unit {0}
IsOfSchedules (TakeSnapshot schedule) = Unit {0}
IsOfSchedules (Restore schedule to) = Unit {0}
IsOfSchedules _ = ⊥
