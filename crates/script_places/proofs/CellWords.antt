-- What a value's and a cell's word is read as.
use Rattle.std.proofs.Common.{◌≡◌, ℕ, zero, suc, ◌+◌, ◌-◌, ◌^◌, ◌<◌, ◌≤◌, ◌⊎◌, inl, inr, Bool, true, false, ◌&&◌, cond, List, [], ◌∷◌, ◌++◌, length, get_or, take, drop, map, append_assoc, Option, Some, None, Result, Ok, Err, refl, sym, ap, subst, ◌∙◌, codes, arith}
use Rattle.std.specs.Prelude.{◌==◌, nat_le, bytes_eq, decimal, option_map, pos, negsuc}
use Rattle.std.specs.List.{AllByRecursion}
use Rattle.std.proofs.lemmas.Bool.{and_parts, and_from, eqb-true}
use Rattle.std.proofs.lemmas.Bool.Decides.{nat_tests}
use Rattle.std.proofs.lemmas.Fmt.{decimal_nonempty}
use Rattle.std.proofs.lemmas.List.{length-append, take_at, append-nil}
use Rattle.row_values.specs.declared.value.Value.{Value}
use Rattle.row_values.specs.declared.value.Value.TheVariants.{Int, Text, Null}
use Rattle.script_words.specs.declared.cause.Cause.{Cause}
use Rattle.script_words.specs.declared.cause.Cause.TheVariants.{BadName, BadValue}
use Rattle.script_words.specs.Reading.{◌>>=◌}
use Rattle.model.specs.Acts.{NamedCell}
use Rattle.script_places.specs.Words.{Word, before, behind, wanted}
use Rattle.script_places.specs.Names.{is_name}
use Rattle.script_places.specs.Numbers.{number_of}
use Rattle.script_places.specs.Values.{value_of, negative, signed_of, unquoted, is_quoted, has_no_quote, cell_of, cells_from}
use Rattle.script_places.specs.Spelling.{value_word, FitsValue, cell_word, FitsCell}
use Rattle.script_places.specs.Grammar.{IsValue, IsCell, CellRefused, CellsRefused}
use Rattle.script_places.proofs.Decimals.{is_decimal, decimal_is, first_digit}
use Rattle.script_places.proofs.Cuts.{at_most, is_at_most, same_test, same_words, mapped, cut_whole, name_cut, last_split}

-- a word that begins with a digit is no `null` and no text
digit_first : (b : ℕ) (bs : List ℕ) → 48 ≤ b → b ≤ 57 → value_of (b ∷ bs) ≡ option_map (λ n. Int (pos n)) (number_of (2 ^ 63 - 1) (b ∷ bs))
unfolding value_of
digit_first b bs low high = grind (arith, nat_tests)

from_first : (w : List ℕ) (n : ℕ) → w ≡ decimal n → n < 2 ^ 63 → value_of w ≡ option_map (λ n. Int (pos n)) (number_of (2 ^ 63 - 1) w)
from_first [] n is small = absurd (omega (arith, decimal_nonempty n (omega arith), ap length is))
from_first (b ∷ bs) n is small =
    let first = first_digit n b bs (omega arith) is in
    digit_first b bs first.0 first.1

negative_of : (k n : ℕ) → k ≡ n + 1 → negative (Some k) ≡ Some (Int (negsuc n))
negative_of k n is =
    let test : (k == 0) ≡ false = grind (arith, nat_tests) in
    let less : k - 1 ≡ n = omega arith in
    rw (test, less) refl

-- a text in its quotes
last_at : (text : List ℕ) → get_or (text ++ 39 ∷ []) (length text) 0 ≡ 39
last_at [] = refl
last_at (b ∷ bs) = last_at bs

abbrev in_quotes : List ℕ → List ℕ
in_quotes text = 39 ∷ (text ++ 39 ∷ [])

quotes_length : (text : List ℕ) → length (in_quotes text) ≡ length text + 2
quotes_length text = omega (arith, length-append text (39 ∷ []))

quotes_inner : (text : List ℕ) → unquoted (in_quotes text) ≡ text
quotes_inner text =
    let count : length (in_quotes text) - 1 - 1 ≡ length text = omega (arith, quotes_length text) in
    ap (λ (n : ℕ). take n (text ++ 39 ∷ [])) count ∙ take_at text (39 ∷ []) (length text) refl

quotes_last : (text : List ℕ) → get_or (in_quotes text) (length (in_quotes text) - 1) 0 ≡ 39
quotes_last text =
    let count : length (in_quotes text) - 1 ≡ suc (length text) = omega (arith, quotes_length text) in
    ap (λ (n : ℕ). get_or (in_quotes text) n 0) count ∙ last_at text

quoted_again : (text : List ℕ) → length text ≤ 256 → has_no_quote text ≡ true → is_quoted (in_quotes text) ≡ true
quoted_again text short plain =
    let low = is_at_most 2 (length (in_quotes text)) (omega (arith, quotes_length text)) in
    let high = is_at_most (length (in_quotes text)) 258 (omega (arith, quotes_length text)) in
    let end = same_test (get_or (in_quotes text) (length (in_quotes text) - 1) 0) 39 (quotes_last text) in
    let inner = ap has_no_quote (quotes_inner text) ∙ plain in
    and_from _ _ (and_from _ _ (and_from _ _ (and_from _ _ low high) refl) end) inner

pub value_again : (value : Value) → FitsValue value → value_of (value_word value) ≡ Some value
unfolding value_of
value_again (Int (pos n)) fits = from_first (decimal n) n refl fits ∙ ap (option_map (λ n. Int (pos n))) (decimal_is (2 ^ 63 - 1) n (omega arith) (omega (arith, fits)))
value_again (Int (negsuc n)) fits = ap negative (decimal_is (2 ^ 63) (n + 1) (omega arith) (omega (arith, fits))) ∙ negative_of (n + 1) n refl
value_again (Text text) fits = rw (quoted_again text fits.0 fits.1, quotes_inner text) refl
value_again Null fits = refl

-- and a word that is read as a value is that value's
abbrev Is : Word → Value → Type 0
Is w value = (w ≡ value_word value) × FitsValue value

quoted_whole : (w : List ℕ) → 2 ≤ length w → get_or w 0 0 ≡ 39 → get_or w (length w - 1) 0 ≡ 39 → w ≡ in_quotes (unquoted w)
quoted_whole [] long first last = absurd (omega arith)
quoted_whole (b ∷ []) long first last = absurd (omega arith)
quoted_whole (b ∷ c ∷ cs) long first last =
    let count : length (b ∷ c ∷ cs) - 1 - 1 ≡ length cs = omega arith in
    let end : length (b ∷ c ∷ cs) - 1 ≡ suc (length cs) = omega arith in
    let split = last_split (c ∷ cs) (length cs) refl in
    let quote : get_or (c ∷ cs) (length cs) 0 ≡ 39 = sym (ap (λ (n : ℕ). get_or (b ∷ c ∷ cs) n 0) end) ∙ last in
    let inner : take (length cs) (c ∷ cs) ≡ unquoted (b ∷ c ∷ cs) = ap (λ (n : ℕ). take n (c ∷ cs)) (sym count) in
    ap (λ (d : ℕ). d ∷ c ∷ cs) first ∙ ap (λ (bs : List ℕ). 39 ∷ bs)
    (split ∙ ap (λ (d : ℕ). take (length cs) (c ∷ cs) ++ (d ∷ [])) quote ∙ ap (λ (bs : List ℕ). bs ++ (39 ∷ [])) inner)

text_is : (w : List ℕ) → is_quoted w ≡ true → Is w (Text (unquoted w))
text_is w quoted =
    let p = and_parts (nat_le 2 (length w) && nat_le (length w) 258 && (get_or w 0 0 == 39) && (get_or w (length w - 1) 0 == 39)) (has_no_quote (unquoted w)) quoted in
    let q = and_parts (nat_le 2 (length w) && nat_le (length w) 258 && (get_or w 0 0 == 39)) (get_or w (length w - 1) 0 == 39) p.0 in
    let r = and_parts (nat_le 2 (length w) && nat_le (length w) 258) (get_or w 0 0 == 39) q.0 in
    let s = and_parts (nat_le 2 (length w)) (nat_le (length w) 258) r.0 in
    let whole = quoted_whole w (at_most 2 (length w) s.0) (eqb-true (get_or w 0 0) 39 r.1) (eqb-true (get_or w (length w - 1) 0) 39 q.1) in
    let short : length w ≤ 258 = at_most (length w) 258 s.1 in
    (whole, (omega (arith, ap length whole, quotes_length (unquoted w)), p.1))

negative_is : (ds : List ℕ) (o : Option ℕ) (value : Value) → number_of (2 ^ 63) ds ≡ o → negative o ≡ Some value → Is (45 ∷ ds) value
negative_is ds None value is e = absurd cc
negative_is ds (Some zero) value is e = absurd cc
negative_is ds (Some (suc n)) value is e =
    let d = is_decimal (2 ^ 63) (suc n) ds (omega arith) is in
    let same : Int (negsuc n) ≡ value = cc (negative_of (suc n) n (omega arith)) in
    let next : suc n ≡ n + 1 = omega arith in
    subst (λ (v : Value). Is (45 ∷ ds) v) same (ap (λ (bs : List ℕ). 45 ∷ bs) (d.0 ∙ ap decimal next), omega (arith, d.1))

signed_is : (w : List ℕ) (minus : Bool) (value : Value) → (get_or w 0 0 == 45) ≡ minus
    → cond minus (negative (number_of (2 ^ 63) (drop 1 w))) (option_map (λ n. Int (pos n)) (number_of (2 ^ 63 - 1) w)) ≡ Some value → Is w value
signed_is w false value is e =
    let m = mapped (λ n. Int (pos n)) (number_of (2 ^ 63 - 1) w) value e in
    let d = is_decimal (2 ^ 63 - 1) m.0 w (omega arith) m.1 in
    subst (λ (v : Value). Is w v) m.2 (d.0, omega (arith, d.1))
signed_is [] true value is e = absurd cc
signed_is (b ∷ bs) true value is e =
    let minus : b ≡ 45 = eqb-true b 45 is in
    let n = negative_is bs (number_of (2 ^ 63) bs) value refl e in
    subst (λ (c : ℕ). Is (c ∷ bs) value) (sym minus) n

value_by : (w : List ℕ) (null quote quoted : Bool) (value : Value) → bytes_eq w (codes "null") ≡ null → is_quoted w ≡ quoted
    → cond null (Some Null) (cond quote (cond quoted (Some (Text (unquoted w))) None) (signed_of w)) ≡ Some value → Is w value
value_by w true quote quoted value is text e = let same : Null ≡ value = cc in subst (λ (v : Value). Is w v) same (same_words w (codes "null") is, tt)
value_by w false true true value is text e = let same : Text (unquoted w) ≡ value = cc in subst (λ (v : Value). Is w v) same (text_is w text)
value_by w false true false value is text e = absurd cc
value_by w false false quoted value is text e = signed_is w (get_or w 0 0 == 45) value refl e

pub value_is : (w : List ℕ) (value : Value) → value_of w ≡ Some value → (w ≡ value_word value) × FitsValue value
unfolding value_of
value_is w value e = value_by w (bytes_eq w (codes "null")) (get_or w 0 0 == 39) (is_quoted w) value refl refl e

nothing_of : value_of [] ≡ None
unfolding value_of number_of
nothing_of = refl

pub cell_again : (cell : NamedCell) → FitsCell cell → cell_of (cell_word cell) ≡ Ok cell
unfolding cell_of
cell_again cell fits =
    let cut = name_cut 61 cell.column (value_word cell.value) refl fits.0 in
    rw (cut.0, cut.1, fits.0, value_again cell.value fits.1) refl

abbrev named : Word → Value → NamedCell
named w value = record { column = before 61 w; value = value }

abbrev cell_by : Word → Bool → Option Value → Result NamedCell Cause
cell_by w name value = cond name (wanted BadValue value >>= λ v. Ok (named w v)) (Err BadName)

by_cut : (w : Word) (value : Value) → value_of (behind 61 w) ≡ Some value → (w ≡ before 61 w ++ (61 ∷ behind 61 w)) ⊎ (behind 61 w ≡ []) → w ≡ before 61 w ++ (61 ∷ value_word value)
by_cut w value is (inl whole) = whole ∙ ap (λ (bs : List ℕ). before 61 w ++ (61 ∷ bs)) (value_is (behind 61 w) value is).0
by_cut w value is (inr none) = absurd (let e : None ≡ Some value = sym nothing_of ∙ sym (ap value_of none) ∙ is in cc)

is_cell_by : (w : Word) (name : Bool) (value : Option Value) (cell : NamedCell) → is_name (before 61 w) ≡ name → value_of (behind 61 w) ≡ value
    → cell_by w name value ≡ Ok cell → (w ≡ cell_word cell) × FitsCell cell
is_cell_by w true (Some v) cell name value e =
    let same : named w v ≡ cell = cc in
    subst (λ (c : NamedCell). (w ≡ cell_word c) × FitsCell c) same (by_cut w v value (cut_whole 61 w), (name, (value_is (behind 61 w) v value).1))
is_cell_by w true None cell name value e = absurd cc
is_cell_by w false value cell name is e = absurd cc

pub cell_is : (w : Word) (cell : NamedCell) → cell_of w ≡ Ok cell → (w ≡ cell_word cell) × FitsCell cell
unfolding cell_of
cell_is w cell e = is_cell_by w (is_name (before 61 w)) (value_of (behind 61 w)) cell refl refl e

no_value : (w : Word) → value_of w ≡ None → ¬ (IsValue w)
no_value w none is = absurd (let e : None ≡ Some is.0 = sym none ∙ ap value_of is.1 ∙ value_again is.0 is.2 in cc)

abbrev refused_for : Cause → Result NamedCell Cause
refused_for cause = Err cause

same_cause : (c d : Cause) → refused_for c ≡ refused_for d → c ≡ d
same_cause c d e = cc

not_cell_by : (w : Word) (name : Bool) (value : Option Value) (cause : Cause) → is_name (before 61 w) ≡ name → value_of (behind 61 w) ≡ value
    → cell_by w name value ≡ Err cause → CellRefused cause w
not_cell_by w true (Some v) cause name value e = absurd cc
not_cell_by w true None cause name value e = inr (name, no_value (behind 61 w) value, sym (same_cause BadValue cause e))
not_cell_by w false value cause name is e = inl (name, sym (same_cause BadName cause e))

pub cell_not : (w : Word) (cause : Cause) → cell_of w ≡ Err cause → CellRefused cause w
unfolding cell_of
cell_not w cause e = not_cell_by w (is_name (before 61 w)) (value_of (behind 61 w)) cause refl refl e

value_by_none : (w : Word) (value : Option Value) → value_of w ≡ value → ¬ (IsValue w) → value ≡ None
value_by_none w None is none = refl
value_by_none w (Some v) is none = absurd (let i = value_is w v is in none (v, i.0, i.1))

pub cell_refused : (w : Word) (cause : Cause) → CellRefused cause w → cell_of w ≡ Err cause
unfolding cell_of
cell_refused w cause (inl r) = rw r.0 (ap refused_for (sym r.1))
cell_refused w cause (inr r) =
    let none = value_by_none (behind 61 w) (value_of (behind 61 w)) refl r.1 in
    rw (r.0, none) (ap refused_for (sym r.2))

-- cells, one after the other
abbrev done : List NamedCell → Result (List NamedCell) Cause
done cells = Ok cells

abbrev failed : Cause → Result (List NamedCell) Cause
failed cause = Err cause

same_failure : (c d : Cause) → failed c ≡ failed d → c ≡ d
same_failure c d e = cc

pub cells_again : (cells kept : List NamedCell) → AllByRecursion FitsCell cells → cells_from kept (map cell_word cells) ≡ Ok (kept ++ cells)
unfolding cells_from
cells_again [] kept fits = ap done (sym (append-nil kept))
cells_again (cell ∷ cells) kept fits =
    rw (cell_again cell fits.0) (cells_again cells (kept ++ cell ∷ []) fits.1 ∙ ap done (append_assoc kept (cell ∷ []) cells))

-- the cells that were read behind those that are kept
abbrev pub Cells : List NamedCell → List NamedCell → List Word → Type 0
Cells kept all ws = (cells : List NamedCell) × (all ≡ kept ++ cells) × (ws ≡ map cell_word cells) × AllByRecursion FitsCell cells

cells_by : (w : Word) (ws : List Word) (kept all : List NamedCell) (r : Result NamedCell Cause) → cell_of w ≡ r
    → ((cell : NamedCell) → cells_from (kept ++ cell ∷ []) ws ≡ Ok all → Cells (kept ++ cell ∷ []) all ws)
    → (r >>= λ cell. cells_from (kept ++ cell ∷ []) ws) ≡ Ok all → Cells kept all (w ∷ ws)
cells_by w ws kept all (Err d) is later e = absurd cc
cells_by w ws kept all (Ok cell) is later e =
    let i = cell_is w cell is in
    let rest = later cell e in (
      cell ∷ rest.0,
      rest.1 ∙ append_assoc kept (cell ∷ []) rest.0,
      ap (λ (v : Word). v ∷ ws) i.0 ∙ ap (λ (vs : List Word). cell_word cell ∷ vs) rest.2,
      (i.1, rest.3),
    )

pub cells_are : (ws : List Word) (kept all : List NamedCell) → cells_from kept ws ≡ Ok all → Cells kept all ws
unfolding cells_from
cells_are [] kept all e = let same : kept ≡ all = cc in ([], sym same ∙ sym (append-nil kept), refl, tt)
cells_are (w ∷ ws) kept all e = cells_by w ws kept all (cell_of w) refl (λ cell h. cells_are ws (kept ++ cell ∷ []) all h) e

not_cells_by : (w : Word) (ws : List Word) (kept : List NamedCell) (cause : Cause) (r : Result NamedCell Cause) → cell_of w ≡ r
    → ((cell : NamedCell) → cells_from (kept ++ cell ∷ []) ws ≡ Err cause → CellsRefused cause ws)
    → (r >>= λ cell. cells_from (kept ++ cell ∷ []) ws) ≡ Err cause → CellRefused cause w ⊎ (IsCell w × CellsRefused cause ws)
not_cells_by w ws kept cause (Err d) is later e = inl (cell_not w cause (is ∙ ap refused_for (same_failure d cause e)))
not_cells_by w ws kept cause (Ok cell) is later e = let i = cell_is w cell is in inr ((cell, i.0, i.1), later cell e)

pub cells_not : (ws : List Word) (kept : List NamedCell) (cause : Cause) → cells_from kept ws ≡ Err cause → CellsRefused cause ws
unfolding cells_from
cells_not [] kept cause e = absurd cc
cells_not (w ∷ ws) kept cause e = not_cells_by w ws kept cause (cell_of w) refl (λ cell h. cells_not ws (kept ++ cell ∷ []) cause h) e

pub cells_refused : (ws : List Word) (kept : List NamedCell) (cause : Cause) → CellsRefused cause ws → cells_from kept ws ≡ Err cause
unfolding cells_from
cells_refused [] kept cause r = absurd r
cells_refused (w ∷ ws) kept cause (inl r) = rw (cell_refused w cause r) refl
cells_refused (w ∷ ws) kept cause (inr r) =
    let is : cell_of w ≡ Ok r.0.0 = ap cell_of r.0.1 ∙ cell_again r.0.0 r.0.2 in
    rw is (cells_refused ws (kept ++ r.0.0 ∷ []) cause r.1)
