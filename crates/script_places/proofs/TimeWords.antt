-- What a time's words are read as.
use Rattle.std.proofs.Common.{◌≡◌, ℕ, ◌-◌, ◌^◌, ◌<◌, ◌≤◌, Bool, true, false, cond, List, [], ◌∷◌, ◌++◌, length, get_or, take, Option, Some, None, inl, inr, refl, sym, ap, subst, ◌∙◌, codes, arith}
use Rattle.std.specs.Prelude.{◌==◌, bytes_eq, decimal, option_map}
use Rattle.std.proofs.lemmas.Bool.{eqb-true}
use Rattle.std.proofs.lemmas.Bool.Decides.{nat_tests}
use Rattle.std.proofs.lemmas.List.{length-append, take_at}
use Rattle.model.specs.Scripts.{Time, Micros, MinusMinutes, MinusSeconds, Exact}
use Rattle.script_places.specs.Words.{Word}
use Rattle.script_places.specs.Numbers.{number_of}
use Rattle.script_places.specs.Times.{last_byte, front, most_back, time_back, time_of, maybe_time}
use Rattle.script_places.specs.Spelling.{time_words, FitsTime, maybe_words, FitsMaybe}
use Rattle.script_places.specs.Grammar.{IsTime, IsMaybeTime}
use Rattle.script_places.proofs.Decimals.{is_decimal, decimal_is}
use Rattle.script_places.proofs.Cuts.{same_test, same_words, mapped, last_split}

-- a number and a last byte
last_at : (w : List ℕ) (b : ℕ) → get_or (w ++ (b ∷ [])) (length w) 0 ≡ b
last_at [] b = refl
last_at (c ∷ cs) b = last_at cs b

one_less : (w : List ℕ) (b : ℕ) → length (w ++ (b ∷ [])) - 1 ≡ length w
one_less w b = omega (arith, length-append w (b ∷ []))

last_of : (w : List ℕ) (b : ℕ) → last_byte (w ++ (b ∷ [])) ≡ b
last_of w b = ap (λ (n : ℕ). get_or (w ++ (b ∷ [])) n 0) (one_less w b) ∙ last_at w b

front_of : (w : List ℕ) (b : ℕ) → front (w ++ (b ∷ [])) ≡ w
front_of w b = ap (λ (n : ℕ). take n (w ++ (b ∷ []))) (one_less w b) ∙ take_at w (b ∷ []) (length w) refl

some : (w : List ℕ) (b : ℕ) → (length (w ++ (b ∷ [])) == 0) ≡ false
some w b = let long : 0 < length (w ++ (b ∷ [])) = omega (arith, length-append w (b ∷ [])) in grind (arith, nat_tests)

minutes_again : (n : ℕ) → n ≤ 10000000 → time_back (decimal n ++ (109 ∷ [])) ≡ Some (MinusMinutes n)
unfolding time_back
minutes_again n fits =
    let minutes : (last_byte (decimal n ++ (109 ∷ [])) == 109) ≡ true = same_test _ 109 (last_of (decimal n) 109) in
    let number = decimal_is most_back n (omega arith) fits in
    rw (some (decimal n) 109, minutes, front_of (decimal n) 109, number) refl

seconds_again : (n : ℕ) → n ≤ 10000000 → time_back (decimal n ++ (115 ∷ [])) ≡ Some (MinusSeconds n)
unfolding time_back
seconds_again n fits =
    let last = last_of (decimal n) 115 in
    let minutes : (last_byte (decimal n ++ (115 ∷ [])) == 109) ≡ false = ap (λ (b : ℕ). b == 109) last in
    let seconds : (last_byte (decimal n ++ (115 ∷ [])) == 115) ≡ true = same_test _ 115 last in
    let number = decimal_is most_back n (omega arith) fits in
    rw (some (decimal n) 115, minutes, seconds, front_of (decimal n) 115, number) refl

pub time_again : (time : Time) → FitsTime time → time_of (time_words time) ≡ Some time
unfolding time_of
time_again (Micros n) fits = ap (option_map Micros) (decimal_is (2 ^ 50 - 1) n (omega arith) (omega (arith, fits)))
time_again (MinusMinutes n) fits = minutes_again n fits
time_again (MinusSeconds n) fits = seconds_again n fits
time_again (Exact n) fits = ap (option_map Exact) (decimal_is (2 ^ 62 - 1) n (omega arith) (omega (arith, fits)))

abbrev Is : List Word → Time → Type 0
Is ws time = (ws ≡ time_words time) × FitsTime time

front_whole : (w : List ℕ) (b : ℕ) → (length w == 0) ≡ false → last_byte w ≡ b → w ≡ front w ++ (b ∷ [])
front_whole [] b long last = absurd cc
front_whole (c ∷ cs) b long last =
    let count : length (c ∷ cs) - 1 ≡ length cs = omega arith in
    let split = last_split (c ∷ cs) (length cs) refl in
    let byte : get_or (c ∷ cs) (length cs) 0 ≡ b = sym (ap (λ (n : ℕ). get_or (c ∷ cs) n 0) count) ∙ last in
    split ∙ ap (λ (d : ℕ). take (length cs) (c ∷ cs) ++ (d ∷ [])) byte ∙ ap (λ (n : ℕ). take n (c ∷ cs) ++ (b ∷ [])) (sym count)

minutes_are : (w : List ℕ) (time : Time) → w ≡ front w ++ (109 ∷ []) → option_map MinusMinutes (number_of most_back (front w)) ≡ Some time → Is (codes "minus" ∷ w ∷ []) time
minutes_are w time whole e =
    let m = mapped MinusMinutes (number_of most_back (front w)) time e in
    let d = is_decimal most_back m.0 (front w) (omega arith) m.1 in
    subst (λ (t : Time). Is (codes "minus" ∷ w ∷ []) t) m.2
    (ap (λ (v : Word). codes "minus" ∷ v ∷ []) (whole ∙ ap (λ (v : Word). v ++ (109 ∷ [])) d.0), d.1)

seconds_are : (w : List ℕ) (time : Time) → w ≡ front w ++ (115 ∷ []) → option_map MinusSeconds (number_of most_back (front w)) ≡ Some time → Is (codes "minus" ∷ w ∷ []) time
seconds_are w time whole e =
    let m = mapped MinusSeconds (number_of most_back (front w)) time e in
    let d = is_decimal most_back m.0 (front w) (omega arith) m.1 in
    subst (λ (t : Time). Is (codes "minus" ∷ w ∷ []) t) m.2
    (ap (λ (v : Word). codes "minus" ∷ v ∷ []) (whole ∙ ap (λ (v : Word). v ++ (115 ∷ [])) d.0), d.1)

back_by : (w : List ℕ) (empty minutes seconds : Bool) (time : Time) → (length w == 0) ≡ empty → (last_byte w == 109) ≡ minutes → (last_byte w == 115) ≡ seconds
    → cond empty None (cond minutes (option_map MinusMinutes (number_of most_back (front w))) (cond seconds (option_map MinusSeconds (number_of most_back (front w))) None)) ≡ Some time
    → Is (codes "minus" ∷ w ∷ []) time
back_by w true minutes seconds time len m s e = absurd cc
back_by w false true seconds time len m s e = minutes_are w time (front_whole w 109 len (eqb-true (last_byte w) 109 m)) e
back_by w false false true time len m s e = seconds_are w time (front_whole w 115 len (eqb-true (last_byte w) 115 s)) e
back_by w false false false time len m s e = absurd cc

back_is : (w : List ℕ) (time : Time) → time_back w ≡ Some time → Is (codes "minus" ∷ w ∷ []) time
unfolding time_back
back_is w time e = back_by w (length w == 0) (last_byte w == 109) (last_byte w == 115) time refl refl refl e

exact_is : (w : List ℕ) (time : Time) → option_map Exact (number_of (2 ^ 62 - 1) w) ≡ Some time → Is (codes "ht" ∷ w ∷ []) time
exact_is w time e =
    let m = mapped Exact (number_of (2 ^ 62 - 1) w) time e in
    let d = is_decimal (2 ^ 62 - 1) m.0 w (omega arith) m.1 in
    subst (λ (t : Time). Is (codes "ht" ∷ w ∷ []) t) m.2 (ap (λ (v : Word). codes "ht" ∷ v ∷ []) d.0, omega (arith, d.1))

two_by : (form w : Word) (ht minus : Bool) (time : Time) → bytes_eq form (codes "ht") ≡ ht → bytes_eq form (codes "minus") ≡ minus
    → cond ht (option_map Exact (number_of (2 ^ 62 - 1) w)) (cond minus (time_back w) None) ≡ Some time → Is (form ∷ w ∷ []) time
two_by form w true minus time is m e = subst (λ (f : Word). Is (f ∷ w ∷ []) time) (sym (same_words form (codes "ht") is)) (exact_is w time e)
two_by form w false true time is m e = subst (λ (f : Word). Is (f ∷ w ∷ []) time) (sym (same_words form (codes "minus") m)) (back_is w time e)
two_by form w false false time is m e = absurd cc

pub time_is : (ws : List Word) (time : Time) → time_of ws ≡ Some time → (ws ≡ time_words time) × FitsTime time
unfolding time_of
time_is [] time e = absurd cc
time_is (w ∷ []) time e =
    let m = mapped Micros (number_of (2 ^ 50 - 1) w) time e in
    let d = is_decimal (2 ^ 50 - 1) m.0 w (omega arith) m.1 in
    subst (λ (t : Time). Is (w ∷ []) t) m.2 (ap (λ (v : Word). v ∷ []) d.0, omega (arith, d.1))
time_is (form ∷ w ∷ []) time e = two_by form w (bytes_eq form (codes "ht")) (bytes_eq form (codes "minus")) time refl refl e
time_is (form ∷ w ∷ v ∷ ws) time e = absurd cc

pub time_not : (ws : List Word) → time_of ws ≡ None → ¬ (IsTime ws)
time_not ws none is = absurd (let e : None ≡ Some is.0 = sym none ∙ ap time_of is.1 ∙ time_again is.0 is.2 in cc)

none_by : (ws : List Word) (o : Option Time) → time_of ws ≡ o → ¬ (IsTime ws) → o ≡ None
none_by ws None is none = refl
none_by ws (Some time) is none = absurd (let i = time_is ws time is in none (time, i.0, i.1))

pub no_time : (ws : List Word) → ¬ (IsTime ws) → time_of ws ≡ None
no_time ws none = none_by ws (time_of ws) refl none

-- a time that may be missing

pub maybe_is : (ws : List Word) (x : Option Time) → maybe_time ws ≡ Some x → (ws ≡ maybe_words x) × FitsMaybe x
maybe_is [] None e = (refl, tt)
maybe_is [] (Some time) e = absurd cc
maybe_is (w ∷ ws) None e = absurd (let m = mapped Some (time_of (w ∷ ws)) None e in let q : Some m.0 ≡ None = m.2 in cc)
maybe_is (w ∷ ws) (Some time) e =
    let m = mapped Some (time_of (w ∷ ws)) (Some time) e in
    time_is (w ∷ ws) time (m.1 ∙ m.2)

pub maybe_again : (x : Option Time) → FitsMaybe x → maybe_time (maybe_words x) ≡ Some x
maybe_again None fits = refl
maybe_again (Some (Micros n)) fits = ap (option_map Some) (time_again (Micros n) fits)
maybe_again (Some (MinusMinutes n)) fits = ap (option_map Some) (time_again (MinusMinutes n) fits)
maybe_again (Some (MinusSeconds n)) fits = ap (option_map Some) (time_again (MinusSeconds n) fits)
maybe_again (Some (Exact n)) fits = ap (option_map Some) (time_again (Exact n) fits)

unmapped : (o : Option Time) → option_map Some o ≡ None → o ≡ None
unmapped None e = refl
unmapped (Some time) e = absurd cc

pub maybe_not : (ws : List Word) → maybe_time ws ≡ None → ¬ (IsMaybeTime ws)
maybe_not [] none is = absurd cc
maybe_not (w ∷ ws) none (inl is) = absurd cc
maybe_not (w ∷ ws) none (inr is) = time_not (w ∷ ws) (unmapped (time_of (w ∷ ws)) none) is

pub no_maybe : (ws : List Word) → ¬ (IsMaybeTime ws) → maybe_time ws ≡ None
no_maybe [] none = absurd (none (inl refl))
no_maybe (w ∷ ws) none = ap (option_map Some) (no_time (w ∷ ws) (λ is. none (inr is)))
