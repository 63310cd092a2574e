-- A text that is a UUID in one of the four forms is ASCII.
use Rattle.std.proofs.Common.{◌≡◌, ℕ, zero, suc, ◌+◌, ◌<◌, inl, inr, Bool, true, false, ◌&&◌, ◌||◌, cond, List, [], ◌∷◌, length, get_or, take, drop, Some, None, refl, sym, ap, subst, ◌∙◌, arith}
use Rattle.std.specs.Prelude.{◌==◌, nat_lt}
use Rattle.std.specs.List.{list_all}
use Rattle.std.specs.Char.{to_ascii_lowercase}
use Rattle.std.specs.Str.{IsAscii, str_to_ascii_lowercase}
use Rattle.std.proofs.lemmas.Bool.{and_parts, or_cases, cases_lt, eqb-true}
use Rattle.std.proofs.lemmas.Bool.Decides.{nat_tests}
use Rattle.std.proofs.lemmas.List.{get_or_past, get_or-take, get_or-drop, take-append-drop}
use Rattle.std.proofs.lemmas.Str.{IsAscii-append}
use Rattle.uuid.specs.Text.{by_index, is_hex_digit, byte_of_digits, parsed_simple, is_hyphen_place, digit_place, hyphen_place, digits_of, has_hyphens, parsed_hyphenated, urn_prefix, has_urn_prefix, parsed_braced, parsed_urn, parsed}
use Rattle.uuid.proofs.TextLemmas.{by_index_length, by_index_at}
use Rattle.script_places.proofs.Cuts.{same_words}
use Rattle.script_places.proofs.Results.{some_if}

all_there : (p : ℕ → Bool) (xs : List ℕ) (k : ℕ) → list_all p xs ≡ true → k < length xs → p (get_or xs k 0) ≡ true
all_there p [] k all lt = absurd (omega arith)
all_there p (x ∷ xs) zero all lt = (and_parts (p x) (list_all p xs) all).0
all_there p (x ∷ xs) (suc k) all lt = all_there p xs k (and_parts (p x) (list_all p xs) all).1 (omega arith)

hex_ascii : (c : ℕ) → is_hex_digit c ≡ true → c < 128
hex_ascii c e = grind (arith, nat_tests)

-- thirty-two digits
simple_all : (s bytes : List ℕ) → parsed_simple s ≡ Some bytes → list_all is_hex_digit s ≡ true
simple_all s bytes e =
    let t = some_if ((length s == 32) && list_all is_hex_digit s) (Some (by_index 16 (byte_of_digits s))) bytes e in
    (and_parts (length s == 32) (list_all is_hex_digit s) t.0).1

simple_ascii : (s bytes : List ℕ) → parsed_simple s ≡ Some bytes → IsAscii s
simple_ascii s bytes e i =
    elim (cases_lt i (length s)) [
      | inl under ↦ hex_ascii (get_or s i 0) (all_there is_hex_digit s i (simple_all s bytes e) under)
      | inr over ↦ rw (get_or_past s i 0 over) (omega arith)
    ]

-- digits and hyphens
hyphen_there : (s : List ℕ) (i : ℕ) → has_hyphens s ≡ true → is_hyphen_place i ≡ true → get_or s i 0 ≡ 45
hyphen_there s i hyphens place =
    let a = and_parts ((get_or s 8 0 == 45) && (get_or s 13 0 == 45) && (get_or s 18 0 == 45)) (get_or s 23 0 == 45) hyphens in
    let b = and_parts ((get_or s 8 0 == 45) && (get_or s 13 0 == 45)) (get_or s 18 0 == 45) a.0 in
    let c = and_parts (get_or s 8 0 == 45) (get_or s 13 0 == 45) b.0 in
    elim (or_cases ((i == 8) || (i == 13) || (i == 18)) (i == 23) place) [
      | inr is ↦ rw (eqb-true i 23 is) (eqb-true (get_or s 23 0) 45 a.1)
      | inl three ↦
          elim (or_cases ((i == 8) || (i == 13)) (i == 18) three) [
            | inr is ↦ rw (eqb-true i 18 is) (eqb-true (get_or s 18 0) 45 b.1)
            | inl two ↦
                elim (or_cases (i == 8) (i == 13) two) [
                  | inr is ↦ rw (eqb-true i 13 is) (eqb-true (get_or s 13 0) 45 c.1)
                  | inl is ↦ rw (eqb-true i 8 is) (eqb-true (get_or s 8 0) 45 c.0)
                ]
          ]
    ]

digit_there : (s : List ℕ) (i : ℕ) → i < 36 → list_all is_hex_digit (digits_of s) ≡ true → is_hyphen_place i ≡ false → get_or s i 0 < 128
digit_there s i within digits place =
    let low : digit_place i < 32 = grind (arith, nat_tests) in
    let back : hyphen_place (digit_place i) ≡ i = grind (arith, nat_tests) in
    let long : length (digits_of s) ≡ 32 = by_index_length 32 _ in
    let at : get_or (digits_of s) (digit_place i) 0 ≡ get_or s i 0 = by_index_at 32 (λ k. get_or s (hyphen_place k) 0) (digit_place i) 0 low ∙ ap (λ k. get_or s k 0) back in
    let digit = all_there is_hex_digit (digits_of s) (digit_place i) digits (omega (arith, low, long)) in
    hex_ascii (get_or s i 0) (subst (λ (c : ℕ). is_hex_digit c ≡ true) at digit)

place_ascii : (s : List ℕ) (i : ℕ) (place : Bool) → is_hyphen_place i ≡ place → i < 36 → has_hyphens s ≡ true → list_all is_hex_digit (digits_of s) ≡ true → get_or s i 0 < 128
place_ascii s i true is within hyphens digits = rw (hyphen_there s i hyphens is) (omega arith)
place_ascii s i false is within hyphens digits = digit_there s i within digits is

hyphenated_ascii : (s bytes : List ℕ) → parsed_hyphenated s ≡ Some bytes → IsAscii s
hyphenated_ascii s bytes e i =
    let t = some_if ((length s == 36) && has_hyphens s) (parsed_simple (digits_of s)) bytes e in
    let p = and_parts (length s == 36) (has_hyphens s) t.0 in
    let long : length s ≡ 36 = eqb-true (length s) 36 p.0 in
    elim (cases_lt i 36) [
      | inl under ↦ place_ascii s i (is_hyphen_place i) refl under p.1 (simple_all (digits_of s) bytes t.1)
      | inr over ↦ rw (get_or_past s i 0 (omega (arith, long))) (omega arith)
    ]

-- in braces
braced_ascii : (s bytes : List ℕ) → parsed_braced s ≡ Some bytes → IsAscii s
braced_ascii s bytes e zero =
    let t = some_if ((length s == 38) && (get_or s 0 0 == 123) && (get_or s 37 0 == 125)) (parsed_hyphenated (take 36 (drop 1 s))) bytes e in
    let p = and_parts ((length s == 38) && (get_or s 0 0 == 123)) (get_or s 37 0 == 125) t.0 in
    let q = and_parts (length s == 38) (get_or s 0 0 == 123) p.0 in
    rw (eqb-true (get_or s 0 0) 123 q.1) (omega arith)
braced_ascii s bytes e (suc i) =
    let t = some_if ((length s == 38) && (get_or s 0 0 == 123) && (get_or s 37 0 == 125)) (parsed_hyphenated (take 36 (drop 1 s))) bytes e in
    let p = and_parts ((length s == 38) && (get_or s 0 0 == 123)) (get_or s 37 0 == 125) t.0 in
    let q = and_parts (length s == 38) (get_or s 0 0 == 123) p.0 in
    let long : length s ≡ 38 = eqb-true (length s) 38 q.0 in
    elim (cases_lt i 36) [
      | inl under ↦
          let next : 1 + i ≡ suc i = omega arith in
          let at : get_or (take 36 (drop 1 s)) i 0 ≡ get_or s (suc i) 0 = get_or-take 36 (drop 1 s) i 0 under ∙ get_or-drop 1 s i 0 ∙ ap (λ k. get_or s k 0) next in
          subst (λ (c : ℕ). c < 128) at (hyphenated_ascii (take 36 (drop 1 s)) bytes t.1 i)
      | inr over ↦
          elim (cases_lt i 37) [
            | inl end ↦
                let is : suc i ≡ 37 = omega arith in
                rw (is, eqb-true (get_or s 37 0) 125 p.1) (omega arith)
            | inr past ↦ rw (get_or_past s (suc i) 0 (omega (arith, long))) (omega arith)
          ]
    ]

-- and behind `urn:uuid:`
lower_ascii : (c : ℕ) → to_ascii_lowercase c < 128 → c < 128
lower_ascii c e = grind (arith, nat_tests)

lower_at : (xs : List ℕ) (i : ℕ) → get_or (str_to_ascii_lowercase xs) i 0 ≡ to_ascii_lowercase (get_or xs i 0)
lower_at [] i = refl
lower_at (x ∷ xs) zero = refl
lower_at (x ∷ xs) (suc i) = lower_at xs i

below_at : (xs : List ℕ) (i : ℕ) → list_all (λ c. nat_lt c 128) xs ≡ true → get_or xs i 0 < 128
below_at [] i all = omega arith
below_at (x ∷ xs) zero all = let p = (and_parts (nat_lt x 128) (list_all (λ c. nat_lt c 128) xs) all).0 in grind (arith, nat_tests)
below_at (x ∷ xs) (suc i) all = below_at xs i (and_parts (nat_lt x 128) (list_all (λ c. nat_lt c 128) xs) all).1

prefix_ascii : (i : ℕ) → get_or (str_to_ascii_lowercase urn_prefix) i 0 < 128
prefix_ascii i = below_at (str_to_ascii_lowercase urn_prefix) i refl

urn_ascii : (s bytes : List ℕ) → parsed_urn s ≡ Some bytes → IsAscii s
urn_ascii s bytes e =
    let t = some_if ((length s == 45) && has_urn_prefix s) (parsed_hyphenated (drop 9 s)) bytes e in
    let p = and_parts (length s == 45) (has_urn_prefix s) t.0 in
    let same : str_to_ascii_lowercase (take 9 s) ≡ str_to_ascii_lowercase urn_prefix = same_words _ _ p.1 in
    let front : IsAscii (take 9 s) = λ i. lower_ascii (get_or (take 9 s) i 0)
    (subst (λ (c : ℕ). c < 128) (ap (λ (xs : List ℕ). get_or xs i 0) (sym same) ∙ lower_at (take 9 s) i) (prefix_ascii i)) in
    subst IsAscii (take-append-drop 9 s) (IsAscii-append (take 9 s) (drop 9 s) front (hyphenated_ascii (drop 9 s) bytes t.1))

ascii_by : (s bytes : List ℕ) (simple hyphenated braced urn : Bool)
    → cond simple (parsed_simple s) (cond hyphenated (parsed_hyphenated s) (cond braced (parsed_braced s) (cond urn (parsed_urn s) None))) ≡ Some bytes → IsAscii s
ascii_by s bytes true hyphenated braced urn e = simple_ascii s bytes e
ascii_by s bytes false true braced urn e = hyphenated_ascii s bytes e
ascii_by s bytes false false true urn e = braced_ascii s bytes e
ascii_by s bytes false false false true e = urn_ascii s bytes e
ascii_by s bytes false false false false e = absurd cc

pub parsed_ascii : (s bytes : List ℕ) → parsed s ≡ Some bytes → IsAscii s
parsed_ascii s bytes e = ascii_by s bytes (length s == 32) (length s == 36) (length s == 38) (length s == 45) e
