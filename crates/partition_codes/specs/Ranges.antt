-- Ranges of partition codes that divide others.
use Rattle.std.specs.Prelude.{ℕ, ◌≡◌, if◌then◌else◌, List, count_by}
use Rattle.row_values.specs.Ranges.{Range, in_range, all_codes}

-- the range of all codes
abbrev pub whole_range : Range
whole_range = record { low = 0; high = all_codes }

-- the parts divide the whole: each code of the whole is in exactly one of them, and no other code is in any
abbrev pub Divide : Range → List Range → Type 0
Divide whole parts =
    (code : ℕ)
    → count_by (λ part. in_range part.low part.high code) parts ≡ (if in_range whole.low whole.high code then 1 else 0)
