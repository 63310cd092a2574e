-- The hyphenated text of an identifier's bytes is the identifier's text.
use Rattle.std.proofs.Common.{◌≡◌, ℕ, suc, ◌^◌, ◌/◌, ◌%◌, List, [], ◌∷◌, ◌++◌, refl, ap, sym, ◌∙◌, append_assoc, arith}
use Rattle.std.specs.Prelude.{codes}
use Rattle.std.proofs.Math.Nat.{div-div-eq-div-mul}
use Rattle.std.proofs.lemmas.Bool.Decides.{nat_tests}
use Rattle.uuid.specs.Text as uuid
use Rattle.row_values.specs.Ids.{Id, Kind, Namespace, Table, Tablet, Schedule, Snapshot, Restoration, Clone, hex_digit, hex_digits, id_text}
use Rattle.yb_ident.specs.Layout.{layout}

-- the two digits of a byte
abbrev digits_of : ℕ → List ℕ
digits_of n = hex_digit (n / 16 % 16) ∷ hex_digit (n % 16) ∷ []

-- the digits of a number byte by byte
next_byte : (count n m : ℕ) → n / 256 ≡ m → hex_digits (suc (suc count)) n ≡ hex_digits count m ++ digits_of n
next_byte count n m e = rw (div-div-eq-div-mul n 16 16, e) (append_assoc (hex_digits count m) _ _)

-- those of six bytes
six : (ℕ → List ℕ) → ℕ → List ℕ
six digits n =
    digits (n / 256 ^ 5) ++ digits (n / 256 ^ 4) ++ digits (n / 256 ^ 3) ++ digits (n / 256 ^ 2) ++ digits (n / 256) ++ digits n

number_text : (n : ℕ) → hex_digits 12 n ≡ six digits_of n
unfolding six
number_text n =
    next_byte 10 n (n / 256) refl
    ∙ ap (λ t. t ++ digits_of n) (next_byte 8 (n / 256) (n / 256 ^ 2) (div-div-eq-div-mul n 256 256)
    ∙ ap (λ t. t ++ digits_of (n / 256)) (next_byte 6 (n / 256 ^ 2) (n / 256 ^ 3) (div-div-eq-div-mul n (256 ^ 2) 256)
    ∙ ap (λ t. t ++ digits_of (n / 256 ^ 2)) (next_byte 4 (n / 256 ^ 3) (n / 256 ^ 4) (div-div-eq-div-mul n (256 ^ 3) 256)
    ∙ ap (λ t. t ++ digits_of (n / 256 ^ 3)) (next_byte 2 (n / 256 ^ 4) (n / 256 ^ 5) (div-div-eq-div-mul n (256 ^ 4) 256)
    ∙ ap (λ t. t ++ digits_of (n / 256 ^ 4)) (next_byte 0 (n / 256 ^ 5) (n / 256 ^ 5 / 256) refl)))))

-- the digits that are written of a byte
digit_same : (d : ℕ) → uuid.hex_digit uuid.lower d ≡ hex_digit d
digit_same d = grind (arith, nat_tests)

abbrev byte_digits : ℕ → List ℕ
byte_digits n = uuid.hex_digit uuid.lower (n % 256 / 16 % 16) ∷ uuid.hex_digit uuid.lower (n % 256 % 16) ∷ []

byte_same : (n : ℕ) → byte_digits n ≡ digits_of n
byte_same n =
    let high : n % 256 / 16 % 16 ≡ n / 16 % 16 = omega arith in
    let low : n % 256 % 16 ≡ n % 16 = omega arith in
    rw (digit_same, digit_same, high, low) refl

six_same : (f g : ℕ → List ℕ) → ((n : ℕ) → f n ≡ g n) → (n : ℕ) → six f n ≡ six g n
unfolding six
six_same f g same n = rw (same, same, same, same, same, same) refl

number_same : (n : ℕ) → six byte_digits n ≡ hex_digits 12 n
number_same n = six_same byte_digits digits_of byte_same n ∙ sym (number_text n)

of_kind : (kind : Kind) (n : ℕ) → uuid.hyphenated_text uuid.lower (layout (record { kind = kind; number = n })) ≡ id_text (record { kind = kind; number = n })
unfolding six uuid.by_index
of_kind Namespace n = ap (λ t. codes "00000001-0000-4000-8000-" ++ t) (number_same n)
of_kind Table n = ap (λ t. codes "00000002-0000-4000-8000-" ++ t) (number_same n)
of_kind Tablet n = ap (λ t. codes "00000003-0000-4000-8000-" ++ t) (number_same n)
of_kind Schedule n = ap (λ t. codes "00000004-0000-4000-8000-" ++ t) (number_same n)
of_kind Snapshot n = ap (λ t. codes "00000005-0000-4000-8000-" ++ t) (number_same n)
of_kind Restoration n = ap (λ t. codes "00000006-0000-4000-8000-" ++ t) (number_same n)
of_kind Clone n = ap (λ t. codes "00000007-0000-4000-8000-" ++ t) (number_same n)

pub text_of_layout : (id : Id) → uuid.hyphenated_text uuid.lower (layout id) ≡ id_text id
text_of_layout id = of_kind id.kind id.number
