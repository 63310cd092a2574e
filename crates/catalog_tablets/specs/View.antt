-- What contracts see of the tablets of a cluster.
use Rattle.std.specs.Prelude.{ℕ, List, ◌&&◌, if◌then◌else◌, Option, Some}
use Rattle.std.specs.Option.{option_or}
use Rattle.row_values.specs.Ids.{Id}
use Rattle.row_values.specs.Ranges.{in_range}
use Rattle.model.specs.Times.{is_open, ended}
use Rattle.model.specs.Activity.{Interval, active_at}

-- the book's intervals, and for how many more there is room
pub record TabletsView : Type 0 where
  pub activity : List Interval
  pub room : ℕ

-- what intervals are looked up by
abbrev pub tablet_of : Interval → Id
tablet_of i = i.tablet

abbrev pub table_of : Interval → Id
table_of i = i.table

abbrev pub slot_of : Interval → ℕ
slot_of i = i.slot

-- an interval of the code that was active at a time, or else what was found later
abbrev pub routed : ℕ → ℕ → Interval → Option Interval → Option Interval
routed code x i later = if active_at x i && in_range i.low i.high code then Some i else later

-- an open interval of the code, or else what was found later
abbrev pub held : ℕ → Interval → Option Interval → Option Interval
held code i later = if is_open i.to && in_range i.low i.high code then Some i else later

-- what was found later, or else this one
abbrev pub later_first : Interval → Option Interval → Option Interval
later_first i later = option_or later (Some i)

abbrev pub ends_at : ℕ → Interval → Interval
ends_at at i = record i { to = ended at i.to }
