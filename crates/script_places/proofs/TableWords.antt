-- A command is looked up by its word.
use Rattle.std.proofs.Common.{◌≡◌, ℕ, ◌^◌, ◌<◌, inl, inr, Bool, true, false, not, ◌||◌, cond, List, [], ◌∷◌, Ok, Err, refl, sym, ap, ◌∙◌}
use Rattle.std.specs.Prelude.{bytes_eq}
use Rattle.std.proofs.lemmas.Bool.{and_parts}
use Rattle.script_words.specs.declared.cause.Cause.{Cause}
use Rattle.script_words.specs.declared.cause.Cause.TheVariants.{UnknownCommand}
use Rattle.script_places.specs.Words.{Word}
use Rattle.script_places.specs.Places.{Form, read_form, look_up}
use Rattle.script_places.specs.Grammar.{Spells, FormRefused, are_right, all_right, has_word, words_differ, SomeForm, SpelledIn, RefusedIn}
use Rattle.script_places.proofs.Results.{failed, same_cause}
use Rattle.script_places.proofs.Cuts.{same_words, words_same}
use Rattle.script_places.proofs.FormWords.{form_sound, form_complete, form_refused, form_refuses}

neither : (a b : Bool) → a ≡ false → b ≡ false → (a || b) ≡ false
neither true b e f = absurd cc
neither false b e f = f

either : (a b : Bool) → (a || b) ≡ false → (a ≡ false) × (b ≡ false)
either true b e = absurd cc
either false b e = (refl, e)

or_later : (a b : Bool) → b ≡ true → (a || b) ≡ true
or_later true b e = refl
or_later false b e = e

not_true : (b : Bool) → not b ≡ true → b ≡ false
not_true true e = absurd cc
not_true false e = refl

-- a word of a form is a word of the table
is_there : {C : Type 0} (P : Form C → Type 0) (forms : List (Form C)) (w : Word) → ((form : Form C) → P form → w ≡ form.word) → SomeForm P forms → has_word forms w ≡ true
is_there P [] w same some = absurd some
is_there P (form ∷ forms) w same (inl here) = rw (words_same w form.word (same form here)) refl
is_there P (form ∷ forms) w same (inr later) = or_later (bytes_eq w form.word) (has_word forms w) (is_there P forms w same later)

by_word : {C : Type 0} (slots : ℕ) (form : Form C) (forms : List (Form C)) (command : C) (w : Word) (ws : List Word) (test : Bool) → bytes_eq w form.word ≡ test
    → slots < 2 ^ 64 → are_right form.places ≡ true → (look_up slots forms w ws (Err UnknownCommand) ≡ Ok command → SpelledIn slots forms command w ws)
    → cond test (read_form slots form ws) (look_up slots forms w ws (Err UnknownCommand)) ≡ Ok command → SpelledIn slots (form ∷ forms) command w ws
by_word slots form forms command w ws true is few right later e = inl (same_words w form.word is, form_sound slots form command ws few right e)
by_word slots form forms command w ws false is few right later e = inr (later e)

pub found : {C : Type 0} (slots : ℕ) (forms : List (Form C)) (command : C) (w : Word) (ws : List Word) → slots < 2 ^ 64 → all_right forms ≡ true
    → look_up slots forms w ws (Err UnknownCommand) ≡ Ok command → SpelledIn slots forms command w ws
found slots [] command w ws few right e = absurd cc
found slots (form ∷ forms) command w ws few right e =
    let p = and_parts (are_right form.places) (all_right forms) right in
    by_word slots form forms command w ws (bytes_eq w form.word) refl few p.0 (λ h. found slots forms command w ws few p.1 h) e

-- a word that a later form has is not this form's
not_here : {C : Type 0} (form : Form C) (forms : List (Form C)) (w : Word) (test : Bool) → bytes_eq w form.word ≡ test → has_word forms form.word ≡ false → has_word forms w ≡ true → test ≡ false
not_here form forms w true is other there = absurd (let e : has_word forms form.word ≡ true = ap (has_word forms) (sym (same_words w form.word is)) ∙ there in let no : false ≡ true = sym other ∙ e in cc)
not_here form forms w false is other there = refl

pub finds : {C : Type 0} (slots : ℕ) (forms : List (Form C)) (command : C) (w : Word) (ws : List Word) → slots < 2 ^ 64 → all_right forms ≡ true → words_differ forms ≡ true
    → SpelledIn slots forms command w ws → look_up slots forms w ws (Err UnknownCommand) ≡ Ok command
finds slots [] command w ws few right differ s = absurd s
finds slots (form ∷ forms) command w ws few right differ (inl s) =
    let p = and_parts (are_right form.places) (all_right forms) right in
    rw (words_same w form.word s.0) (form_complete slots form command ws few p.0 s.1)
finds slots (form ∷ forms) command w ws few right differ (inr s) =
    let p = and_parts (are_right form.places) (all_right forms) right in
    let q = and_parts (not (has_word forms form.word)) (words_differ forms) differ in
    let there = is_there (λ (f : Form _). (w ≡ f.word) × Spells slots f.places f.makes command ws) forms w (λ f h. h.0) s in
    rw (not_here form forms w (bytes_eq w form.word) refl (not_true _ q.0) there) (finds slots forms command w ws few p.1 q.1 s)

past : {C : Type 0} (slots : ℕ) (form : Form C) (forms : List (Form C)) (cause : Cause) (w : Word) (ws : List Word) → bytes_eq w form.word ≡ false
    → RefusedIn slots forms cause w ws → RefusedIn slots (form ∷ forms) cause w ws
past slots form forms cause w ws other (inl r) = inl (neither (bytes_eq w form.word) (has_word forms w) other r.0, r.1)
past slots form forms cause w ws other (inr r) = inr (inr r)

not_by_word : {C : Type 0} (slots : ℕ) (form : Form C) (forms : List (Form C)) (cause : Cause) (w : Word) (ws : List Word) (test : Bool) → bytes_eq w form.word ≡ test
    → slots < 2 ^ 64 → are_right form.places ≡ true → (look_up slots forms w ws (Err UnknownCommand) ≡ Err cause → RefusedIn slots forms cause w ws)
    → cond test (read_form slots form ws) (look_up slots forms w ws (Err UnknownCommand)) ≡ Err cause → RefusedIn slots (form ∷ forms) cause w ws
not_by_word slots form forms cause w ws true is few right later e = inr (inl (same_words w form.word is, form_refused slots form cause ws few right e))
not_by_word slots form forms cause w ws false is few right later e = past slots form forms cause w ws is (later e)

pub refused_in : {C : Type 0} (slots : ℕ) (forms : List (Form C)) (cause : Cause) (w : Word) (ws : List Word) → slots < 2 ^ 64 → all_right forms ≡ true
    → look_up slots forms w ws (Err UnknownCommand) ≡ Err cause → RefusedIn slots forms cause w ws
refused_in {C = C} slots [] cause w ws few right e = inl (refl, sym (same_cause {A = C} UnknownCommand cause e))
refused_in slots (form ∷ forms) cause w ws few right e =
    let p = and_parts (are_right form.places) (all_right forms) right in
    not_by_word slots form forms cause w ws (bytes_eq w form.word) refl few p.0 (λ h. refused_in slots forms cause w ws few p.1 h) e

pub refuses_in : {C : Type 0} (slots : ℕ) (forms : List (Form C)) (cause : Cause) (w : Word) (ws : List Word) → slots < 2 ^ 64 → all_right forms ≡ true → words_differ forms ≡ true
    → RefusedIn slots forms cause w ws → look_up slots forms w ws (Err UnknownCommand) ≡ Err cause
refuses_in slots [] cause w ws few right differ (inl r) = ap failed (sym r.1)
refuses_in slots [] cause w ws few right differ (inr r) = absurd r
refuses_in slots (form ∷ forms) cause w ws few right differ (inl r) =
    let p = and_parts (are_right form.places) (all_right forms) right in
    let q = and_parts (not (has_word forms form.word)) (words_differ forms) differ in
    let n = either (bytes_eq w form.word) (has_word forms w) r.0 in
    rw n.0 (refuses_in slots forms cause w ws few p.1 q.1 (inl (n.1, r.1)))
refuses_in slots (form ∷ forms) cause w ws few right differ (inr (inl r)) =
    let p = and_parts (are_right form.places) (all_right forms) right in
    rw (words_same w form.word r.0) (form_refuses slots form cause ws few p.0 r.1)
refuses_in slots (form ∷ forms) cause w ws few right differ (inr (inr r)) =
    let p = and_parts (are_right form.places) (all_right forms) right in
    let q = and_parts (not (has_word forms form.word)) (words_differ forms) differ in
    let there = is_there (λ (f : Form _). (w ≡ f.word) × FormRefused slots f cause ws) forms w (λ f h. h.0) r in
    rw (not_here form forms w (bytes_eq w form.word) refl (not_true _ q.0) there) (refuses_in slots forms cause w ws few p.1 q.1 (inr r))
