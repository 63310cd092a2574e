-- Parts that divide a range.
use Rattle.std.proofs.Common.{◌≡◌, ℕ, ◌+◌, ◌≤◌, List, [], ◌∷◌, ◌++◌, length, zero, suc, refl, ◌∙◌, slice_get, Some, ◌<◌, ⊎_elim, arith}
use Rattle.std.proofs.lemmas.Bool.{cases_lt}
use Rattle.std.proofs.lemmas.Bool.Decides.{nat_tests}
use Rattle.std.proofs.lemmas.List.Sums.{sum_by-append}
use Rattle.row_values.specs.Ranges.{Range, share_from}
use Rattle.partition_codes.specs.Ranges.{Divide}

-- the share with this number
abbrev pub share : ℕ → ℕ → Range
share count place = record { low = share_from count place; high = share_from count (place + 1) }

-- one more part behind those that divide what is below it
pub divide_next : (low mid high : ℕ) (parts : List Range) → low ≤ mid → mid ≤ high
    → Divide (record { low = low; high = mid }) parts → Divide (record { low = low; high = high }) (parts ++ record { low = mid; high = high } ∷ [])
divide_next low mid high parts below above divide code =
    rw (sum_by-append, divide code) (grind (arith, nat_tests))

-- two parts that meet
pub divide_two : (low at high : ℕ) → low ≤ at → at ≤ high
    → Divide (record { low = low; high = high }) (record { low = low; high = at } ∷ record { low = at; high = high } ∷ [])
divide_two low at high below above code = grind (arith, nat_tests)

-- no part divides the range without a code
pub divide_none : (low : ℕ) → Divide (record { low = low; high = low }) []
divide_none low code = grind (arith, nat_tests)

get_before : (xs : List Range) (y : Range) (k : ℕ) → k < length xs → slice_get (xs ++ y ∷ []) k ≡ slice_get xs k
get_before [] y k lt = absurd (omega (arith, lt))
get_before (x ∷ xs) y zero lt = refl
get_before (x ∷ xs) y (suc k) lt = get_before xs y k (omega (arith, lt))

get_last : (xs : List Range) (y : Range) → slice_get (xs ++ y ∷ []) (length xs) ≡ Some y
get_last [] y = refl
get_last (x ∷ xs) y = get_last xs y

-- one more item at the end, where each is that of its place
pub each_next : (f : ℕ → Range) (xs : List Range) (i : ℕ) → length xs ≡ i → ((k : ℕ) → k < i → slice_get xs k ≡ Some (f k))
    → (k : ℕ) → k < i + 1 → slice_get (xs ++ f i ∷ []) k ≡ Some (f k)
each_next f xs i count each k lt =
    ⊎_elim
    (λ old. get_before xs (f i) k (omega (arith, count, old)) ∙ each k old)
    (λ last. let is : k ≡ length xs = omega (arith, count, lt, last) in let place : i ≡ length xs = omega (arith, count) in rw (is, place) (get_last xs (f (length xs))))
    (cases_lt k i)
