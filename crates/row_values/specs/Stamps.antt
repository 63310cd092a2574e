-- The rule by which an event is stamped. A hybrid time is a number here: microseconds times 4096, and
-- a logical counter below 4096.
use Rattle.std.specs.Prelude.{ℕ, ◌+◌, ◌*◌, max, List, fold}

-- the greatest of a clock and these times
abbrev pub greatest : ℕ → List ℕ → ℕ
greatest clock times = fold max clock times

-- the stamp of an event that touches these clocks, under a physical reading in microseconds
abbrev pub stamp_of : ℕ → List ℕ → ℕ → ℕ
stamp_of clock others reading = max (1 + greatest clock others) (reading * 4096)
