-- Decimal numbers.
use Rattle.std.specs.Prelude.{ℕ, ◌+◌, ◌*◌, ◌-◌, not, ◌==◌, ◌&&◌, if◌then◌else◌, nat_le, List, [], ◌∷◌, length, Option, Some, None, Result, Ok}
use Rattle.script_words.specs.declared.cause.Cause.{Cause}
use Rattle.script_words.specs.Reading.{◌>>=◌}
use Rattle.script_places.specs.Words.{Word, next_of, wanted}
use Rattle.script_places.specs.Names.{is_digit}

-- the number whose digits so far are n, where it is at most this
abbrev pub number_from : ℕ → ℕ → List ℕ → Option ℕ
number_from most n [] = Some n
number_from most n (b ∷ bs) =
    if is_digit b && nat_le (10 * n + (b - 48)) most then number_from most (10 * n + (b - 48)) bs else None

-- decimal without leading zeros, at most this
unfoldable pub number_of : ℕ → List ℕ → Option ℕ
number_of most [] = None
number_of most (b ∷ bs) = if b == 48 && not (length bs == 0) then None else number_from most 0 (b ∷ bs)

abbrev pub from_least : ℕ → Option ℕ → Option ℕ
from_least least None = None
from_least least (Some n) = if nat_le least n then Some n else None

-- a number from least to most
abbrev pub number_in : ℕ → ℕ → Word → Option ℕ
number_in least most w = from_least least (number_of most w)

unfoldable pub number_at : Cause → ℕ → ℕ → List Word → Result (ℕ × List Word) Cause
number_at cause least most ws = next_of ws >>= λ x. wanted cause (number_in least most x.0) >>= λ n. Ok (n, x.1)
