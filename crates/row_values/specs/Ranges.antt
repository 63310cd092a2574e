-- Ranges of partition codes, and the shares of a new table's tablets.
use Rattle.std.specs.Prelude.{ℕ, Bool, nat_le, nat_lt, ◌&&◌, ◌*◌, ◌/◌, ◌<◌, ◌≤◌}

-- how many codes there are
abbrev pub all_codes : ℕ
all_codes = 65536

-- the codes from low up to and without high
pub record Range : Type 0 where
  pub low : ℕ
  pub high : ℕ

-- it has a code, and no other than there are
abbrev pub IsRange : Range → Type 0
IsRange range = (range.low < range.high) × (range.high ≤ all_codes)

-- whether a code is in a range of codes, its high end left out
abbrev pub in_range : ℕ → ℕ → ℕ → Bool
in_range low high code = nat_le low code && nat_lt code high

-- where the share with this number begins, counted from 0, of a table that is made with so many tablets; it ends where
-- the next one begins
abbrev pub share_from : ℕ → ℕ → ℕ
share_from count place = place * all_codes / count
