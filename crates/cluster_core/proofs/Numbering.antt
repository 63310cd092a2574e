-- The entries of the logs, part by part.
use Rattle.std.proofs.Common.{◌≡◌, ℕ, zero, suc, ◌+◌, ◌≤◌, ◌<◌, List, [], ◌∷◌, drop, get_or, length, map, replicate, Bor, refl, sym, ap, subst, arith, ◌∙◌, Option, Some, None}
use Rattle.std.specs.Prelude.{slice_get, cond, is_some, true, false, ◌==◌}
use Rattle.std.specs.List.{find}
use Rattle.std.specs.Option.{option_or, option_copied}
use Rattle.std.proofs.lemmas.Bool.Decides.{nat_tests}
use Rattle.std.proofs.lemmas.Option.{slice_get_read}
use Rattle.step_table.specs.declared.known.Entry.{Entry}
use Rattle.step_table.specs.Lists.{Every}
use Rattle.step_table.specs.Machines.{Core}
use Rattle.step_table.specs.Histories.{history_of, IsNumbered, IsAtNumber}
use Rattle.step_table.proofs.Lists.{every_map}
use Rattle.step_line.specs.Numbered.{placed, all_placed, in_logs}
use Rattle.step_line.proofs.Numbers.{all_at, within}
use Rattle.cluster_core.proofs.Laying.{some_is}

drop_behind : {A : Type 0} (xs : List A) (k : ℕ) (x : A) → slice_get xs k ≡ Some x → drop k xs ≡ x ∷ drop (suc k) xs
drop_behind [] k x at = cc
drop_behind (y ∷ ys) zero x at = ap (λ z. z ∷ ys) (some_is at)
drop_behind (y ∷ ys) (suc k) x at = drop_behind ys k x at

drop_at : {A : Type 0} (xs : List A) (k : ℕ) (x : A) → slice_get xs k ≡ Some x → drop k xs ≡ x ∷ drop (k + 1) xs
drop_at xs k x at = let next : suc k ≡ k + 1 = omega arith in drop_behind xs k x at ∙ ap (λ j. x ∷ drop j xs) next

pub item_next : {A : Type 0} (xs : List A) (i : ℕ) (x : A) → i < length xs → x ≡ get_or xs i x → drop i xs ≡ x ∷ drop (i + 1) xs
item_next xs i x lt is = drop_at xs i x (slice_get_read xs (length xs) i x refl lt is)

-- what holds of each item holds of that in a place
every_at : {A : Type 0} (F : A → Type 0) (xs : List A) (k : ℕ) (x : A) → Every F xs → slice_get xs k ≡ Some x → F x
every_at F [] k x all at = cc
every_at F (y ∷ ys) zero x all at = subst F (some_is at) all.0
every_at F (y ∷ ys) (suc k) x all at = every_at F ys k x all.1 at

module _ {P E D R F : Type 0} (c : Core P E D R F) (ps : List P) (k : ℕ) (p : P) (at : slice_get ps k ≡ Some p) where
  pub next_placed : (places : List (Option (Entry E R))) → all_placed c (drop k ps) places ≡ all_placed c (drop (k + 1) ps) (placed (c.log p) places)
  next_placed places = ap (λ qs. all_placed c qs places) (drop_at ps k p at)

  -- the numbers of a log's entries are those of places in the history
  pub numbers_within : IsNumbered 1 (history_of c ps) → Every (λ (e : Entry E R). (1 ≤ e.number) × (e.number ≤ length (history_of c ps))) (c.log p)
  numbers_within is =
      every_map (IsAtNumber (history_of c ps)) (λ (e : Entry E R). (1 ≤ e.number) × (e.number ≤ length (history_of c ps)))
      (λ e here. let lt = within (history_of c ps) e here in let n = here.1 in (omega arith, omega arith))
      (c.log p)
      (every_at (λ (q : P). Every (IsAtNumber (history_of c ps)) (c.log q)) ps k p (all_at c ps is) at)

  pub found_here : (n : ℕ) → in_logs c n (drop k ps) ≡ option_or (find (λ e. e.number == n) (c.log p)) (in_logs c n (drop (k + 1) ps))
  found_here n = ap (in_logs c n) (drop_at ps k p at)

nothing_left : {A : Type 0} (xs : List A) (k : ℕ) → length xs ≤ k → drop k xs ≡ []
nothing_left [] zero le = refl
nothing_left [] (suc k) le = refl
nothing_left (x ∷ xs) zero le = absurd (omega arith)
nothing_left (x ∷ xs) (suc k) le = nothing_left xs k (omega arith)

module _ {P E D R F : Type 0} (c : Core P E D R F) (ps : List P) (k : ℕ) (le : length ps ≤ k) where
  pub all_are_placed : (places : List (Option (Entry E R))) → places ≡ all_placed c (drop k ps) places
  all_are_placed places = sym (ap (λ qs. all_placed c qs places) (nothing_left ps k le))

-- no entry has a number beyond the last
none_from : {E R : Type 0} (k n : ℕ) (es : List (Entry E R)) → IsNumbered k es → k + length es ≤ n → find (λ e. e.number == n) es ≡ None
none_from k n [] is le = refl
none_from k n (e ∷ es) is le =
    let other : (e.number == n) ≡ false = let s = is.0 in grind (arith, nat_tests) in
    ap (λ b. cond b (Some e) (find (λ x. x.number == n) es)) other ∙ none_from (suc k) n es is.1 (omega arith)

pub none_beyond : {E R : Type 0} (n : ℕ) (es : List (Entry E R)) → IsNumbered 1 es → length es < n → find (λ e. e.number == n) es ≡ None
none_beyond n es is lt = none_from 1 n es is (omega arith)

-- places without entries
pub none_read : {A : Type 0} (n : ℕ) → map option_copied (replicate {A = Option (Bor A)} n None) ≡ replicate n None
none_read zero = refl
none_read (suc n) = ap (λ ps. None ∷ ps) (none_read n)

-- the first of two options
pub first_is : {A : Type 0} (o : Option (Bor A)) (other : Option A) → is_some o ≡ true → option_copied o ≡ option_or (option_copied o) other
first_is None other is = cc
first_is (Some x) other is = refl

pub other_is : {A : Type 0} (o : Option (Bor A)) (other : Option A) → is_some o ≡ false → other ≡ option_or (option_copied o) other
other_is None other is = refl
other_is (Some x) other is = cc
