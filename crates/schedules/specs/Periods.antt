-- Which periods a schedule may have, as numbers.
use Rattle.std.specs.Prelude.{ℕ, ◌≤◌, ◌<◌}

-- minutes: the interval is at least one and below the retention, which is at most a year
abbrev pub IsPeriod : ℕ → ℕ → Type 0
IsPeriod interval retention = (1 ≤ interval) × (interval < retention) × (retention ≤ 525600)
