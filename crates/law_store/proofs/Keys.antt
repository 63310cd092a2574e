-- Keys are totally ordered by what precedes, and the test of equal keys is their equality.
use Rattle.std.proofs.Common.{◌≡◌, ℕ, Bool, true, false, List, refl, sym, ap, subst, ◌∙◌}
use Rattle.std.specs.Ordering.{nat_cmp, ordering_reverse, is_lt, is_eq}
use Rattle.std.specs.Cmp.Lexicographic.{slice_cmp}
use Rattle.std.specs.Str.{bytes_eq}
use Rattle.std.specs.declared.cmp.Ordering.{Ordering}
use Rattle.std.specs.declared.cmp.Ordering.TheVariants.{Less, Equal, Greater}
use Rattle.std.proofs.lemmas.Cmp.{nat_list_cmp_total}
use Rattle.std.proofs.lemmas.Map.Text.{is_eq-slice_cmp}
use Rattle.std.proofs.lemmas.Slice.Eq.{bytes_eq-Decides}
use Rattle.std.proofs.lemmas.Bool.{true≢false}
use Rattle.row_values.specs.Store.{precedes}

abbrev order : List ℕ → List ℕ → Ordering
order = slice_cmp nat_cmp

-- a proof by the value of a test
pub either_way : {P : Type 0} (b : Bool) → (b ≡ true → P) → (b ≡ false → P) → P
either_way {P} b yes_ no_ = elim b as (λ x. b ≡ x → P) [ true ↦ yes_ | false ↦ no_ ] refl

pub equal_keys : (a b : List ℕ) → bytes_eq a b ≡ true → a ≡ b
equal_keys a b e = (bytes_eq-Decides a b).0 e

pub key_self : (a : List ℕ) → bytes_eq a a ≡ true
key_self a = (bytes_eq-Decides a a).1 refl

-- whether keys are equal, either way round
pub key_sym : (a b : List ℕ) → bytes_eq a b ≡ false → bytes_eq b a ≡ false
key_sym a b e = either_way (bytes_eq b a)
    (λ same. absurd (true≢false (sym ((bytes_eq-Decides a b).1 (sym (equal_keys b a same))) ∙ e)))
    (λ apart. apart)

less_is : (o : Ordering) → is_lt o ≡ true → o ≡ Less
less_is Less e = refl
less_is Equal e = cc
less_is Greater e = cc

not_less_reversed : (o : Ordering) → o ≡ Less → is_lt (ordering_reverse o) ≡ false
not_less_reversed Less e = refl
not_less_reversed Equal e = cc
not_less_reversed Greater e = cc

less_reversed : (o : Ordering) → is_lt o ≡ false → is_eq o ≡ false → is_lt (ordering_reverse o) ≡ true
less_reversed Less e f = cc
less_reversed Equal e f = cc
less_reversed Greater e f = refl

-- of two keys one at most precedes the other
pub precedes_back : (a b : List ℕ) → precedes a b ≡ true → precedes b a ≡ false
precedes_back a b e = ap is_lt (nat_list_cmp_total.antisymm b a) ∙ not_less_reversed (order a b) (less_is (order a b) e)

-- of two keys that are not equal, one precedes the other
pub precedes_other : (a b : List ℕ) → precedes a b ≡ false → bytes_eq a b ≡ false → precedes b a ≡ true
precedes_other a b e f = ap is_lt (nat_list_cmp_total.antisymm b a) ∙ less_reversed (order a b) e (is_eq-slice_cmp a b ∙ f)

pub precedes_trans : (a b c : List ℕ) → precedes a b ≡ true → precedes b c ≡ true → precedes a c ≡ true
precedes_trans a b c e f = ap is_lt (nat_list_cmp_total.trans a b c (less_is (order a b) e) (less_is (order b c) f))

pub precedes_self : (a : List ℕ) → precedes a a ≡ false
precedes_self a = either_way (precedes a a) (λ e. precedes_back a a e) (λ e. e)

-- a key that precedes another is not equal to it
pub precedes_apart : (a b : List ℕ) → precedes a b ≡ true → bytes_eq a b ≡ false
precedes_apart a b e = either_way (bytes_eq a b)
    (λ same. let P : List ℕ → Type 0 = λ k. precedes a k ≡ true in
    absurd (true≢false (sym (subst P (sym (equal_keys a b same)) e) ∙ precedes_self a)))
    (λ apart. apart)

-- what precedes a key precedes those that do not stand before it
pub precedes_up : (a b c : List ℕ) → precedes a b ≡ true → precedes c b ≡ false → precedes a c ≡ true
precedes_up a b c e f = either_way (bytes_eq c b)
    (λ same. let P : List ℕ → Type 0 = λ k. precedes a k ≡ true in subst P (sym (equal_keys c b same)) e)
    (λ apart. precedes_trans a b c e (precedes_other c b f apart))

-- what does not stand behind a key precedes those that the key precedes
pub precedes_down : (a b c : List ℕ) → precedes b a ≡ false → precedes b c ≡ true → precedes a c ≡ true
precedes_down a b c e f = either_way (bytes_eq b a)
    (λ same. let P : List ℕ → Type 0 = λ k. precedes k c ≡ true in subst P (equal_keys b a same) f)
    (λ apart. precedes_trans a b c (precedes_other b a e apart) f)

-- not to precede is transitive
pub not_precedes_trans : (a b c : List ℕ) → precedes b a ≡ false → precedes c b ≡ false → precedes c a ≡ false
not_precedes_trans a b c e f = either_way (precedes c a)
    (λ less. absurd (true≢false (sym (precedes_up c a b less e) ∙ f)))
    (λ no. no)
