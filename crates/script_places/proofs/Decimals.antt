-- A number is read of its decimal text, and of no other.
use Rattle.std.proofs.Common.{◌≡◌, ℕ, zero, suc, ◌+◌, ◌-◌, ◌*◌, ◌^◌, ◌<◌, ◌≤◌, Bool, true, false, not, ◌&&◌, cond, List, [], ◌∷◌, length, get_or, Option, Some, None, refl, sym, subst, ap, ◌∙◌, arith, rules}
use Rattle.std.specs.Prelude.{◌==◌, nat_le, decimal}
use Rattle.std.specs.Str.{all_ascii_digits}
use Rattle.std.proofs.lemmas.Bool.Decides.{nat_tests}
use Rattle.std.proofs.lemmas.Str.Parse.{IsNumeralModel, numerals_by_fold, tells_all_ascii_digits}
use Rattle.std.proofs.lemmas.Fmt.{digits_decimal, digits_value-decimal, decimal-digits_value, first_decimal, decimal_nonempty, decimal_digit}
use Rattle.std.proofs.lemmas.Bool.{and_parts, and_from}
use Rattle.script_places.specs.Names.{is_digit}
use Rattle.script_places.specs.Numbers.{number_from, number_of}
use Rattle.script_places.proofs.Results.{some_if}

abbrev read_on : ℕ → List ℕ → ℕ
read_on n [] = n
read_on n (b ∷ bs) = read_on (10 * n + (b - 48)) bs

own : IsNumeralModel (λ ds. all_ascii_digits ds ≡ true) (read_on 0)
own = numerals_by_fold _ tells_all_ascii_digits read_on (search rules)

grows : (n : ℕ) (ds : List ℕ) → n ≤ read_on n ds
grows n [] = omega arith
grows n (b ∷ bs) = omega (arith, grows (10 * n + (b - 48)) bs)

-- a test that let something through
some_unless : (b : Bool) (o : Option ℕ) (k : ℕ) → cond b None o ≡ Some k → (b ≡ false) × (o ≡ Some k)
some_unless true o k e = absurd cc
some_unless false o k e = (refl, e)

record Reads (most n k : ℕ) (ds : List ℕ) : Type 0 where
  digits : all_ascii_digits ds ≡ true
  value : read_on n ds ≡ k
  bound : k ≤ most

abbrev done : ℕ → Option ℕ
done n = Some n

same_number : (n k : ℕ) → done n ≡ done k → n ≡ k
same_number n k e = cc

at_most : (a b : ℕ) → nat_le a b ≡ true → a ≤ b
at_most a b e = grind (arith, nat_tests)

is_at_most : (a b : ℕ) → a ≤ b → nat_le a b ≡ true
is_at_most a b e = grind (arith, nat_tests)

reads : (most n k : ℕ) (ds : List ℕ) → n ≤ most → number_from most n ds ≡ Some k → Reads most n k ds
reads most n k [] le e = let same = same_number n k e in record { digits = refl; value = same; bound = omega (arith, same) }
reads most n k (b ∷ bs) le e =
    let next : ℕ = 10 * n + (b - 48) in
    let t = some_if (is_digit b && nat_le next most) (number_from most next bs) k e in
    let p = and_parts (is_digit b) (nat_le next most) t.0 in
    let rest = reads most next k bs (at_most next most p.1) t.1 in
    record { digits = and_from (is_digit b) (all_ascii_digits bs) p.0 rest.digits; value = rest.value; bound = rest.bound }

again : (most n : ℕ) (ds : List ℕ) → all_ascii_digits ds ≡ true → read_on n ds ≤ most → number_from most n ds ≡ Some (read_on n ds)
again most n [] digits le = refl
again most n (b ∷ bs) digits le =
    let next : ℕ = 10 * n + (b - 48) in
    let p = and_parts (is_digit b) (all_ascii_digits bs) digits in
    let small : next ≤ most = omega (arith, grows next bs) in
    let test : (is_digit b && nat_le next most) ≡ true = and_from (is_digit b) (nat_le next most) p.0 (is_at_most next most small) in
    rw test (again most next bs p.1 le)

not_lead : (b : ℕ) (bs : List ℕ) → ((b == 48) && not (length bs == 0)) ≡ false → b ≡ 48 → length bs ≡ 0
not_lead b bs test is = grind (arith, nat_tests)

no_lead : (b : ℕ) (bs : List ℕ) → (b ≡ 48 → length bs ≡ 0) → ((b == 48) && not (length bs == 0)) ≡ false
no_lead b bs h = grind (arith, nat_tests)

pub is_decimal : (most n : ℕ) (w : List ℕ) → most < 2 ^ 64 → number_of most w ≡ Some n → (w ≡ decimal n) × (n ≤ most)
unfolding number_of
is_decimal most n [] small e = absurd cc
is_decimal most n (b ∷ bs) small e =
    let t = some_unless ((b == 48) && not (length bs == 0)) (number_from most 0 (b ∷ bs)) n e in
    let r = reads most 0 n (b ∷ bs) (omega arith) t.1 in
    let lead : b ≡ 48 → length (b ∷ bs) ≡ 1 = λ is. omega (arith, not_lead b bs t.0 is) in
    let d = decimal-digits_value own (b ∷ bs) r.digits (omega arith) lead (omega (arith, r.value, r.bound)) in
    (sym d ∙ ap decimal r.value, r.bound)

decimal_lead : (n b : ℕ) (bs : List ℕ) → n < 2 ^ 64 → b ∷ bs ≡ decimal n → b ≡ 48 → length bs ≡ 0
decimal_lead zero b bs small is lead = let e = ap length is in omega (arith, e, ap length (decimal_digit 0 (omega arith)))
decimal_lead (suc n) b bs small is lead =
    let first = first_decimal (suc n) (omega arith) small in
    absurd (omega (arith, first, ap (λ (w : List ℕ). get_or w 0 0) is))

decimal_by : (most n : ℕ) (w : List ℕ) → most < 2 ^ 64 → n ≤ most → w ≡ decimal n → number_of most w ≡ Some n
unfolding number_of
decimal_by most n [] small le is = absurd (omega (arith, decimal_nonempty n (omega arith), ap length is))
decimal_by most n (b ∷ bs) small le is =
    let fits : n < 2 ^ 64 = omega arith in
    let digits = subst (λ (w : List ℕ). all_ascii_digits w ≡ true) (sym is) (digits_decimal own n fits) in
    let value : read_on 0 (b ∷ bs) ≡ n = ap (read_on 0) is ∙ digits_value-decimal own n fits in
    let low : read_on 0 (b ∷ bs) ≤ most = omega (arith, value) in
    rw (no_lead b bs (decimal_lead n b bs fits is)) (again most 0 (b ∷ bs) digits low ∙ ap done value)

pub decimal_is : (most n : ℕ) → most < 2 ^ 64 → n ≤ most → number_of most (decimal n) ≡ Some n
decimal_is most n small le = decimal_by most n (decimal n) small le refl

pub first_digit : (n b : ℕ) (bs : List ℕ) → n < 2 ^ 64 → b ∷ bs ≡ decimal n → (48 ≤ b) × (b ≤ 57)
first_digit n b bs small is =
    let digits = subst (λ (w : List ℕ). all_ascii_digits w ≡ true) (sym is) (digits_decimal own n small) in
    let p = and_parts (is_digit b) (all_ascii_digits bs) digits in
    let q = and_parts (nat_le 48 b) (nat_le b 57) p.0 in
    (at_most 48 b q.0, at_most b 57 q.1)
