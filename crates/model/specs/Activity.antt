-- In which intervals each tablet was active: took its table's rows in its range, in its slot.
use Rattle.std.specs.Prelude.{ℕ, Bool, List, [], ◌∷◌, Option, Some, None, ◌&&◌, ◌+◌, nat_le, not, map, if◌then◌else◌, filter}
use Rattle.model.specs.Words.{Id, same, in_range}
use Rattle.model.specs.Times.{holds_at, ended, before_end}

pub record Interval : Type 0 where
  pub slot : ℕ
  pub tablet : Id
  pub table : Id
  pub low : ℕ
  pub high : ℕ
  pub from : ℕ
  pub to : Option ℕ

abbrev pub active_at : ℕ → Interval → Bool
active_at x i = holds_at x i.from i.to

-- active at some time from a to b, both counted
abbrev pub active_between : ℕ → ℕ → Interval → Bool
active_between a b i = nat_le i.from b && before_end a i.to

-- active at some time after a and at or before b
abbrev pub active_within : ℕ → ℕ → Interval → Bool
active_within a b i = active_between (a + 1) b i

-- the interval of the table's tablet that held the code at x
abbrev pub route : List Interval → Id → ℕ → ℕ → Option Interval
route [] table code x = None
route (i ∷ is) table code x =
    if same i.table table && (active_at x i && in_range i.low i.high code) then Some i else route is table code x

abbrev pub last_from : List Interval → Id → Option Interval → Option Interval
last_from [] tablet found = found
last_from (i ∷ is) tablet found = last_from is tablet (if same i.tablet tablet then Some i else found)

-- the last interval of a tablet; the master knows a tablet as long as it keeps an interval of it
abbrev pub last_of : List Interval → Id → Option Interval
last_of is tablet = last_from is tablet None

-- the tablet's open interval ends
abbrev pub end_tablet : Id → ℕ → List Interval → List Interval
end_tablet tablet at is =
    map {A = Interval} (λ i. record i { to = if same i.tablet tablet then ended at i.to else i.to }) is

-- the open intervals of a table's tablets end
abbrev pub end_table_tablets : Id → ℕ → List Interval → List Interval
end_table_tablets table at is =
    map {A = Interval} (λ i. record i { to = if same i.table table then ended at i.to else i.to }) is

-- nothing is known of the tablet any more
abbrev pub forget : Id → List Interval → List Interval
forget tablet is = filter (λ i. not (same i.tablet tablet)) is
