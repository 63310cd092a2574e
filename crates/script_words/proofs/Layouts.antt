-- The words of a line are those that are laid out in it.
use Rattle.std.proofs.Common.{◌≡◌, ℕ, ◌<◌, Bool, true, false, not, ◌&&◌, cond, List, [], ◌∷◌, ◌++◌, length, refl, sym, ap, subst, ◌∙◌, arith}
use Rattle.std.proofs.lemmas.List.{append-nil}
use Rattle.std.specs.Prelude.{◌==◌}
use Rattle.std.proofs.lemmas.Bool.{and_parts, and_from, eqb-true}
use Rattle.script_words.specs.Words.{after, is_open, split, kept, words_of}
use Rattle.script_words.specs.Layout.{is_blank, is_closed, IsWord, ends_word, IsLaidOut}

not_true : (b : Bool) → not b ≡ true → b ≡ false
not_true true e = cc
not_true false e = refl

not_false : (b : Bool) → b ≡ false → not b ≡ true
not_false true e = cc
not_false false e = refl

-- a first word that ends at a space or at the end
record Begins (front : List ℕ) (words : List (List ℕ)) (quoted : Bool) (line : List ℕ) : Type 0 where
  rest : List ℕ
  whole : line ≡ front ++ rest
  closed : is_closed quoted front ≡ true
  ends : ends_word rest ≡ true
  behind : IsLaidOut words rest

-- one more space before a layout
spaced : (words : List (List ℕ)) (b : ℕ) (line : List ℕ) → (b == 32) ≡ true → IsLaidOut words line → IsLaidOut words (b ∷ line)
spaced [] b line is laid = and_from (b == 32) (is_blank line) is laid
spaced (w ∷ ws) b line is laid =
    (b ∷ laid.0, laid.1, ap (λ (bs : List ℕ). b ∷ bs) laid.2, and_from (b == 32) (is_blank laid.0) is laid.3, laid.4, laid.5, laid.6)

-- a first word, if there is one, and the words behind it
joined : (front : List ℕ) (words : List (List ℕ)) (line : List ℕ) → Begins front words false line → IsLaidOut (kept front words) line
joined [] words line begins = subst (λ (bs : List ℕ). IsLaidOut words bs) (sym begins.whole) begins.behind
joined (b ∷ bs) words line begins = ([], begins.rest, begins.whole, refl, (omega arith, begins.closed), begins.ends, begins.behind)

-- the first word and the words behind it, where this byte is a space between words or isn't
abbrev front_of : Bool → ℕ → Bool → List ℕ → List ℕ × List (List ℕ)
front_of space b quoted bs =
    cond space ([], kept (split quoted bs).0 (split quoted bs).1) (b ∷ (split (after b quoted) bs).0, (split (after b quoted) bs).1)

step : (b : ℕ) (bs : List ℕ) (quoted space : Bool) → (b == 32 && not quoted) ≡ space → is_open (after b quoted) bs ≡ false
    → ((q : Bool) → is_open q bs ≡ false → Begins (split q bs).0 (split q bs).1 q bs)
    → Begins (front_of space b quoted bs).0 (front_of space b quoted bs).1 quoted (b ∷ bs)
step b bs true true is shut rest = absurd (let p = and_parts (b == 32) false is in let no = p.1 in cc)
step b bs false true is shut rest =
    let p = and_parts (b == 32) true is in
    let space : b ≡ 32 = eqb-true b 32 p.0 in
    let inner : is_open false bs ≡ false = subst (λ (c : ℕ). is_open (after c false) bs ≡ false) space shut in
    let laid = spaced (kept (split false bs).0 (split false bs).1) b bs p.0 (joined (split false bs).0 (split false bs).1 bs (rest false inner)) in
    record { rest = b ∷ bs; whole = refl; closed = refl; ends = p.0; behind = laid }
step b bs quoted false is shut rest =
    let r = rest (after b quoted) shut in
    record { rest = r.rest; whole = ap (λ (cs : List ℕ). b ∷ cs) r.whole; closed = rw is r.closed; ends = r.ends; behind = r.behind }

begins : (line : List ℕ) (quoted : Bool) → is_open quoted line ≡ false → Begins (split quoted line).0 (split quoted line).1 quoted line
begins [] quoted shut = record { rest = []; whole = refl; closed = not_false quoted shut; ends = refl; behind = refl }
begins (b ∷ bs) quoted shut = step b bs quoted (b == 32 && not quoted) refl shut (λ q e. begins bs q e)

pub laid_out : (line : List ℕ) → is_open false line ≡ false → IsLaidOut (words_of line) line
laid_out line shut = joined (split false line).0 (split false line).1 line (begins line false shut)

-- what a word does to what stands behind it
split_word : (w rest : List ℕ) (quoted : Bool) → is_closed quoted w ≡ true → split quoted (w ++ rest) ≡ (w ++ (split false rest).0, (split false rest).1)
split_word [] rest true e = absurd cc
split_word [] rest false e = refl
split_word (b ∷ bs) rest quoted e =
    let p = and_parts (not (b == 32 && not quoted)) (is_closed (after b quoted) bs) e in
    rw (not_true (b == 32 && not quoted) p.0, split_word bs rest (after b quoted) p.1) refl

open_word : (w rest : List ℕ) (quoted : Bool) → is_closed quoted w ≡ true → is_open quoted (w ++ rest) ≡ is_open false rest
open_word [] rest true e = absurd cc
open_word [] rest false e = refl
open_word (b ∷ bs) rest quoted e =
    let p = and_parts (not (b == 32 && not quoted)) (is_closed (after b quoted) bs) e in
    open_word bs rest (after b quoted) p.1

-- before a space and at the end stands no word
ended : (rest : List ℕ) → ends_word rest ≡ true → words_of rest ≡ (split false rest).1 × ((split false rest).0 ≡ [])
ended [] e = (refl, refl)
ended (b ∷ bs) e = let space : b ≡ 32 = eqb-true b 32 e in (rw space refl, rw space refl)

kept_word : (w : List ℕ) (ws : List (List ℕ)) → 0 < length w → kept w ws ≡ w ∷ ws
kept_word [] ws some = absurd (omega arith)
kept_word (b ∷ bs) ws some = refl

word_first : (w rest : List ℕ) → IsWord w → ends_word rest ≡ true → words_of (w ++ rest) ≡ w ∷ words_of rest
word_first w rest word ends =
    let end = ended rest ends in
    let behind : List (List ℕ) = (split false rest).1 in
    ap (λ (p : List ℕ × List (List ℕ)). kept p.0 p.1) (split_word w rest false word.1)
    ∙ ap (λ (f : List ℕ). kept (w ++ f) behind) end.1 ∙ ap (λ (f : List ℕ). kept f behind) (append-nil w)
    ∙ kept_word w behind word.0 ∙ ap (λ (ws : List (List ℕ)). w ∷ ws) (sym end.0)

spaces_first : (spaces rest : List ℕ) → is_blank spaces ≡ true → (is_open false (spaces ++ rest) ≡ is_open false rest) × (words_of (spaces ++ rest) ≡ words_of rest)
spaces_first [] rest blank = (refl, refl)
spaces_first (b ∷ bs) rest blank =
    let p = and_parts (b == 32) (is_blank bs) blank in
    let space : b ≡ 32 = eqb-true b 32 p.0 in
    let r = spaces_first bs rest p.1 in
    (rw space r.0, rw space r.1)

blank_line : (line : List ℕ) → is_blank line ≡ true → (is_open false line ≡ false) × (words_of line ≡ [])
blank_line line blank =
    let r = spaces_first line [] blank in
    (subst (λ (bs : List ℕ). is_open false bs ≡ false) (append-nil line) r.0, subst (λ (bs : List ℕ). words_of bs ≡ []) (append-nil line) r.1)

pub laid_is_read : (words : List (List ℕ)) (line : List ℕ) → IsLaidOut words line → (is_open false line ≡ false) × (words_of line ≡ words)
laid_is_read [] line laid = blank_line line laid
laid_is_read (w ∷ ws) line laid =
    let later = laid_is_read ws laid.1 laid.6 in
    let first = spaces_first laid.0 (w ++ laid.1) laid.3 in (
      ap (is_open false) laid.2 ∙ first.0 ∙ open_word w laid.1 false laid.4.1 ∙ later.0,
      ap words_of laid.2 ∙ first.1 ∙ word_first w laid.1 laid.4 laid.5 ∙ ap (λ (others : List (List ℕ)). w ∷ others) later.1,
    )
