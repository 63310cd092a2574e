-- Times are numbers: microseconds times 4096, and a logical counter. `[from, to)` goes on where `to` is none.
use Rattle.std.specs.Prelude.{ℕ, Bool, true, false, Option, Some, None, nat_le, nat_lt, ◌&&◌, ◌*◌, ◌^◌}

-- the ticks of a minute and of a second
abbrev pub minute : ℕ
minute = 60000000 * 4096

abbrev pub second : ℕ
second = 1000000 * 4096

-- where times end: no event is stamped from here on
abbrev pub end_of_time : ℕ
end_of_time = 2 ^ 62

abbrev pub is_open : Option ℕ → Bool
is_open None = true
is_open (Some to) = false

abbrev pub before_end : ℕ → Option ℕ → Bool
before_end x None = true
before_end x (Some to) = nat_lt x to

-- whether x is in `[from, to)`
abbrev pub holds_at : ℕ → ℕ → Option ℕ → Bool
holds_at x from to = nat_le from x && before_end x to

-- whether the interval had ended by the time
abbrev pub ended_by : ℕ → Option ℕ → Bool
ended_by x None = false
ended_by x (Some to) = nat_le to x

-- an open interval ends, another stays as it is
abbrev pub ended : ℕ → Option ℕ → Option ℕ
ended at None = Some at
ended at (Some to) = Some to

-- the asked time, or the stamp where none is asked
abbrev pub time_of : Option ℕ → ℕ → ℕ
time_of None n = n
time_of (Some x) n = x

abbrev pub is_future : Option ℕ → ℕ → Bool
is_future None n = false
is_future (Some x) n = nat_le n x

-- whether a time before this one is asked
abbrev pub is_below : Option ℕ → ℕ → Bool
is_below None low = false
is_below (Some x) low = nat_lt x low
