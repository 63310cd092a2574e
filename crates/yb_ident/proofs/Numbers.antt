-- The number of an identifier, back from its bytes.
use Rattle.std.proofs.Common.{◌≡◌, ℕ, ◌<◌, ◌^◌, ◌/◌, ◌∷◌, drop, arith}
use Rattle.std.specs.Int.{to_be_bytes, from_be_bytes, w64}
use Rattle.std.proofs.lemmas.Nat.{from_be_bytes-to_be_bytes_8}

pub number_back : (n : ℕ) → n < 2 ^ 48 → from_be_bytes w64 (0 ∷ 0 ∷ drop 2 (to_be_bytes w64 n)) ≡ n
number_back n small =
    let first : n / 256 ^ 7 ≡ 0 = omega arith in
    let second : n / 256 ^ 6 ≡ 0 = omega arith in
    let whole = from_be_bytes-to_be_bytes_8 n (omega arith) in
    omega (arith, first, second, whole)
