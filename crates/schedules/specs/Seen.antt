-- What contracts see of the schedules of a cluster, and of the namespaces that have some.
use Rattle.std.specs.Prelude.{ℕ, ◌≡◌, ◌==◌, false, not, List, [], ◌∷◌, Option, Some, None}
use Rattle.row_values.specs.Ids.{Id}
use Rattle.model.specs.Records.{Schedule, ScheduledNamespace, schedule_with}
use Rattle.model.specs.Acts.{Refusal, TooMany, BadPeriod}
use Rattle.model.specs.Parts.{If, refusal_in}
use Rattle.model.specs.Schedules.{is_period, least_with, low}
use Rattle.model.specs.Changes.{count_schedules, most_schedules}
use Rattle.schedules.specs.declared.list.CreateRefused.{CreateRefused}
use Rattle.schedules.specs.declared.list.CreateRefused.TheVariants as create
use Rattle.schedules.specs.declared.list.EditRefused.{EditRefused}
use Rattle.schedules.specs.declared.list.EditRefused.TheVariants as edit

-- the schedules, and for how many more there is room
pub record SchedulesView : Type 0 where
  pub schedules : List Schedule
  pub room : ℕ

-- the namespaces that have schedules, and for how many more there is room
pub record ScheduledView : Type 0 where
  pub scheduled : List ScheduledNamespace
  pub room : ℕ

-- what they are looked up by
abbrev pub id_of : Schedule → Id
id_of s = s.id

abbrev pub space_of : Schedule → Id
space_of s = s.namespace

abbrev pub scheduled_space : ScheduledNamespace → Id
scheduled_space k = k.namespace

abbrev pub refusal_of : CreateRefused → Refusal
refusal_of (create.TooMany limit) = TooMany limit
refusal_of (create.BadPeriod interval retention) = BadPeriod interval retention

-- the first refusal that comes of a new schedule, once it is known that no operation holds its namespace
abbrev pub create_refusal : List Schedule → Id → ℕ → ℕ → Option Refusal
create_refusal ss ns interval retention = refusal_in
    (If (count_schedules ss ns == most_schedules) (TooMany most_schedules)
    ∷ If (not (is_period interval retention)) (BadPeriod interval retention)
    ∷ [])

-- why a schedule isn't edited
abbrev pub EditRefusedAs : List Schedule → Id → ℕ → ℕ → EditRefused → Type 0
EditRefusedAs ss id interval retention edit.UnknownSchedule = schedule_with ss id ≡ None
EditRefusedAs ss id interval retention (edit.BadPeriod i r) =
    (is_period interval retention ≡ false) × (i ≡ interval) × (r ≡ retention)

-- the low end of one more window
abbrev pub lowered : ℕ → Schedule → Option ℕ → Option ℕ
lowered now s later = Some (least_with later (low s now))
