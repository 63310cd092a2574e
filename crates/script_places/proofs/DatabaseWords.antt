-- The name of a database is what it is read as.
use Rattle.std.proofs.Common.{◌≡◌, ℕ, Bool, true, false, ◌&&◌, ◌⊎◌, inl, inr, List, ◌++◌, length, take, drop, refl, sym, ap, ◌∙◌, arith}
use Rattle.std.specs.Prelude.{nat_le, bytes_eq}
use Rattle.std.proofs.lemmas.Bool.{and_parts, and_from, true≢false}
use Rattle.std.proofs.lemmas.List.{take-append-drop}
use Rattle.script_places.specs.Words.{Word}
use Rattle.script_places.specs.Names.{prefix, is_name, unprefixed}
use Rattle.script_places.specs.Spelling.{WritesDatabase}
use Rattle.script_places.specs.Grammar.{IsDatabase}
use Rattle.script_places.proofs.Cuts.{is_at_most, same_words}

abbrev begins : Word → Bool
begins w = nat_le 5 (length w) && bytes_eq (take 5 w) prefix

either : (b : Bool) → (b ≡ true) ⊎ (b ≡ false)
either true = inl refl
either false = inr refl

-- a word that begins so is that and the others
whole : (w : Word) → begins w ≡ true → w ≡ prefix ++ drop 5 w
whole w e =
    let front = same_words (take 5 w) prefix (and_parts (nat_le 5 (length w)) (bytes_eq (take 5 w) prefix) e).1 in
    sym (take-append-drop 5 w) ∙ ap (λ (v : Word). v ++ drop 5 w) front

without : (w : Word) → begins w ≡ true → unprefixed w ≡ drop 5 w
unfolding unprefixed
without w e = rw e refl

as_it_is : (w : Word) → begins w ≡ false → unprefixed w ≡ w
unfolding unprefixed
as_it_is w e = rw e refl

-- a name doesn't begin so, since it has no dot
no_name : (rest : Word) → is_name (prefix ++ rest) ≡ false
unfolding is_name
no_name rest = refl

name_begins : (name : Word) → is_name name ≡ true → begins name ≡ false
name_begins name e = elim (either (begins name)) [
  | inl b ↦ absurd (true≢false (sym e ∙ ap is_name (whole name b) ∙ no_name (drop 5 name)))
  | inr b ↦ b
]

pub database_is : (w : Word) → is_name (unprefixed w) ≡ true → WritesDatabase (unprefixed w) w
database_is w e = elim (either (begins w)) [
  | inl b ↦ (e, inr (whole w b ∙ ap (λ (v : Word). prefix ++ v) (sym (without w b))))
  | inr b ↦ (e, inl (sym (as_it_is w b)))
]

behind_prefix : (name : Word) → unprefixed (prefix ++ name) ≡ name
behind_prefix name =
    let long : nat_le 5 (length (prefix ++ name)) ≡ true = is_at_most 5 (length (prefix ++ name)) (omega arith) in
    without (prefix ++ name) (and_from (nat_le 5 (length (prefix ++ name))) (bytes_eq (take 5 (prefix ++ name)) prefix) long refl)

pub database_again : (name w : Word) → WritesDatabase name w → unprefixed w ≡ name
database_again name w h = elim h.1 [
  | inl is ↦ ap unprefixed is ∙ as_it_is name (name_begins name h.0)
  | inr is ↦ ap unprefixed is ∙ behind_prefix name
]

pub database_not : (w : Word) → is_name (unprefixed w) ≡ false → ¬ (IsDatabase w)
database_not w none is = absurd (true≢false (sym is.1.0 ∙ ap is_name (sym (database_again is.0 w is.1)) ∙ none))

pub no_database : (w : Word) → ¬ (IsDatabase w) → is_name (unprefixed w) ≡ false
no_database w none = elim (either (is_name (unprefixed w))) [
  | inl e ↦ absurd (none (unprefixed w, database_is w e))
  | inr e ↦ e
]
