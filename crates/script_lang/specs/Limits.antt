-- The greatest numbers that commands take.
use Rattle.std.specs.Prelude.{ℕ, ◌-◌, ◌^◌}

-- microseconds of a reading
abbrev pub most_micros : ℕ
most_micros = 2 ^ 50 - 1

-- a number that has no other bound
abbrev pub most_number : ℕ
most_number = 2 ^ 64 - 1

-- tablets of a new table
abbrev pub most_tablets : ℕ
most_tablets = 64

-- a partition code
abbrev pub most_code : ℕ
most_code = 65535

-- events of one `coordinate`
abbrev pub most_events : ℕ
most_events = 1000000
