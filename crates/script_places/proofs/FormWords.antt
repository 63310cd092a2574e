-- The words behind a command's own are read as what they spell, and are refused for the first wrong one.
use Rattle.std.proofs.Common.{◌≡◌, ℕ, ◌^◌, ◌<◌, ◌⊎◌, inl, inr, Bool, true, false, not, ◌&&◌, ◌||◌, cond, List, [], ◌∷◌, Result, Ok, Err, refl, sym, ap, ◌∙◌}
use Rattle.std.proofs.lemmas.Bool.{and_parts}
use Rattle.script_words.specs.declared.cause.Cause.{Cause}
use Rattle.script_words.specs.declared.cause.Cause.TheVariants.{WrongWords}
use Rattle.script_words.specs.Reading.{◌>>=◌}
use Rattle.script_places.specs.declared.place.Place.{Place}
use Rattle.script_places.specs.Words.{Word}
use Rattle.script_places.specs.Counts.{takes_rest, fits}
use Rattle.script_places.specs.Places.{Meaning, Makes, Form, at, read, read_form}
use Rattle.script_places.specs.Grammar.{Spells, Refused, FormRefused, is_bounded, is_empty, are_right}
use Rattle.script_places.proofs.Results.{okay, failed, same_ok, same_cause}
use Rattle.script_places.proofs.PlaceWords.{stands, read_again, fit_again, refused_there, refused_again}

none_left : (rest : List Place) → is_empty rest ≡ true → rest ≡ []
none_left [] e = refl
none_left (place ∷ rest) e = absurd cc

last_by : (takes : Bool) (rest : List Place) → (not takes || is_empty rest) ≡ true → takes ≡ true → rest ≡ []
last_by true rest e is = none_left rest e
last_by false rest e is = absurd cc

record Right (place : Place) (rest : List Place) : Type 0 where
  bound : is_bounded place ≡ true
  last : takes_rest place ≡ true → rest ≡ []
  others : are_right rest ≡ true

right : (place : Place) (rest : List Place) → are_right (place ∷ rest) ≡ true → Right place rest
right place rest e =
    let p = and_parts (is_bounded place) ((not (takes_rest place) || is_empty rest) && are_right rest) e in
    let q = and_parts (not (takes_rest place) || is_empty rest) (are_right rest) p.1 in
    record { bound = p.0; last = last_by (takes_rest place) rest q.0; others = q.1 }

took_all : {A B : Type 0} (r : Result A Cause) (f : A → Result B Cause) (y : B) → (r >>= f) ≡ Ok y → (x : A) × (r ≡ Ok x) × (f x ≡ Ok y)
took_all (Ok x) f y e = (x, refl, e)
took_all (Err d) f y e = absurd cc

bound : {A B : Type 0} (r : Result A Cause) (f : A → Result B Cause) (x : A) → r ≡ Ok x → (r >>= f) ≡ f x
bound r f x e = ap (λ (q : Result _ Cause). q >>= f) e

not_bound : {A B : Type 0} (r : Result A Cause) (f : A → Result B Cause) (cause : Cause) → r ≡ Err cause → (r >>= f) ≡ Err cause
not_bound r f cause e = ap (λ (q : Result _ Cause). q >>= f) e

not_all : {A B : Type 0} (r : Result A Cause) (f : A → Result B Cause) (cause : Cause) → (r >>= f) ≡ Err cause → (r ≡ Err cause) ⊎ ((x : A) × (r ≡ Ok x) × (f x ≡ Err cause))
not_all (Ok x) f cause e = inr (x, refl, e)
not_all {B = B} (Err d) f cause e = inl (ap failed (same_cause {A = B} d cause e))

pub sound : {C : Type 0} (slots : ℕ) (places : List Place) (make : Makes C places) (command : C) (ws : List Word) → slots < 2 ^ 64 → are_right places ≡ true
    → fits places ws ≡ true → read slots places make ws ≡ Ok command → Spells slots places make command ws
unfolding fits
sound slots [] make command [] few right' fit e = (refl, same_ok make command e)
sound slots [] make command (w ∷ ws) few right' fit e = absurd cc
sound {C = C} slots (place ∷ rest) make command ws few right' fit e =
    let r = right place rest right' in
    let t = took_all (at slots place ws) (λ (p : Meaning place × List Word). read slots rest (make p.0) p.1) command e in
    let s = stands slots place rest ws t.0 few r.bound r.last fit t.1 in
    (t.0.0, s.front, t.0.1, s.whole, s.writes, sound slots rest (make t.0.0) command t.0.1 few r.others s.fit t.2)

ends : {C : Type 0} (slots : ℕ) (rest : List Place) (made : Makes C rest) (command : C) (others : List Word) → rest ≡ [] → Spells slots rest made command others → others ≡ []
ends slots [] made command others last s = s.0
ends slots (place ∷ rest) made command others last s = absurd cc

pub complete : {C : Type 0} (slots : ℕ) (places : List Place) (make : Makes C places) (command : C) (ws : List Word) → slots < 2 ^ 64 → are_right places ≡ true
    → Spells slots places make command ws → (fits places ws ≡ true) × (read slots places make ws ≡ Ok command)
unfolding fits
complete slots [] make command [] few right' s = (refl, ap okay s.1)
complete slots [] make command (w ∷ ws) few right' s = absurd (let no = s.0 in cc)
complete slots (place ∷ rest) make command ws few right' s =
    let r = right place rest right' in
    let later = complete slots rest (make s.0) command s.2 few r.others s.5 in
    let last : takes_rest place ≡ true → s.2 ≡ [] = λ takes. ends slots rest (make s.0) command s.2 (r.last takes) s.5 in
    let here : at slots place ws ≡ Ok (s.0, s.2) = ap (at slots place) s.3 ∙ read_again slots place s.0 s.1 s.2 few r.bound last s.4 in (
      ap (fits (place ∷ rest)) s.3 ∙ fit_again slots place rest s.0 s.1 s.2 last s.4 later.0,
      bound (at slots place ws) (λ (p : Meaning place × List Word). read slots rest (make p.0) p.1) (s.0, s.2) here ∙ later.1,
    )

refused_by : {C : Type 0} (slots : ℕ) (place : Place) (rest : List Place) (make : Meaning place → Makes C rest) (cause : Cause) (ws : List Word) → slots < 2 ^ 64 → Right place rest
    → fits (place ∷ rest) ws ≡ true
    → ((x : Meaning place) (others : List Word) → fits rest others ≡ true → read slots rest (make x) others ≡ Err cause → Refused slots rest cause others)
    → (at slots place ws ≡ Err cause) ⊎ ((p : Meaning place × List Word) × (at slots place ws ≡ Ok p) × (read slots rest (make p.0) p.1 ≡ Err cause))
    → Refused slots (place ∷ rest) cause ws
refused_by slots place rest make cause ws few r fit later (inl e) = inl (refused_there slots place rest cause ws few r.bound fit e)
refused_by slots place rest make cause ws few r fit later (inr t) =
    let s = stands slots place rest ws t.0 few r.bound r.last fit t.1 in
    inr (t.0.0, s.front, t.0.1, s.whole, s.writes, later t.0.0 t.0.1 s.fit t.2)

pub refused : {C : Type 0} (slots : ℕ) (places : List Place) (make : Makes C places) (cause : Cause) (ws : List Word) → slots < 2 ^ 64 → are_right places ≡ true
    → fits places ws ≡ true → read slots places make ws ≡ Err cause → Refused slots places cause ws
unfolding fits
refused slots [] make cause ws few right' fit e = absurd cc
refused slots (place ∷ rest) make cause ws few right' fit e =
    let r = right place rest right' in
    refused_by slots place rest make cause ws few r fit (λ x others f h. refused slots rest (make x) cause others few r.others f h)
    (not_all (at slots place ws) (λ (p : Meaning place × List Word). read slots rest (make p.0) p.1) cause e)

no_end : (slots : ℕ) (rest : List Place) (cause : Cause) (others : List Word) → rest ≡ [] → Refused slots rest cause others → others ≡ []
no_end slots [] cause others last r = absurd r
no_end slots (place ∷ rest) cause others last r = absurd cc

pub refuses : {C : Type 0} (slots : ℕ) (places : List Place) (make : Makes C places) (cause : Cause) (ws : List Word) → slots < 2 ^ 64 → are_right places ≡ true
    → Refused slots places cause ws → read slots places make ws ≡ Err cause
refuses slots [] make cause ws few right' r = absurd r
refuses slots (place ∷ rest) make cause ws few right' (inl r) =
    not_bound (at slots place ws) (λ (p : Meaning place × List Word). read slots rest (make p.0) p.1) cause
    (refused_again slots place cause ws few (right place rest right').bound r)
refuses slots (place ∷ rest) make cause ws few right' (inr s) =
    let r = right place rest right' in
    let last : takes_rest place ≡ true → s.2 ≡ [] = λ takes. no_end slots rest cause s.2 (r.last takes) s.5 in
    let here : at slots place ws ≡ Ok (s.0, s.2) = ap (at slots place) s.3 ∙ read_again slots place s.0 s.1 s.2 few r.bound last s.4 in
    bound (at slots place ws) (λ (p : Meaning place × List Word). read slots rest (make p.0) p.1) (s.0, s.2) here
    ∙ refuses slots rest (make s.0) cause s.2 few r.others s.5

-- the same of a form
fitted : {C : Type 0} (b : Bool) (r : Result C Cause) (command : C) → cond b r (Err WrongWords) ≡ Ok command → (b ≡ true) × (r ≡ Ok command)
fitted true r command e = (refl, e)
fitted false r command e = absurd cc

pub form_sound : {C : Type 0} (slots : ℕ) (form : Form C) (command : C) (ws : List Word) → slots < 2 ^ 64 → are_right form.places ≡ true
    → read_form slots form ws ≡ Ok command → Spells slots form.places form.makes command ws
unfolding read_form
form_sound slots form command ws few right' e =
    let t = fitted (fits form.places ws) (read slots form.places form.makes ws) command e in
    sound slots form.places form.makes command ws few right' t.0 t.1

pub form_complete : {C : Type 0} (slots : ℕ) (form : Form C) (command : C) (ws : List Word) → slots < 2 ^ 64 → are_right form.places ≡ true
    → Spells slots form.places form.makes command ws → read_form slots form ws ≡ Ok command
unfolding read_form
form_complete slots form command ws few right' s =
    let r = complete slots form.places form.makes command ws few right' s in
    rw r.0 r.1

by_fit : {C : Type 0} (b : Bool) (slots : ℕ) (form : Form C) (cause : Cause) (ws : List Word) → slots < 2 ^ 64 → are_right form.places ≡ true → fits form.places ws ≡ b
    → cond b (read slots form.places form.makes ws) (Err WrongWords) ≡ Err cause → FormRefused slots form cause ws
by_fit true slots form cause ws few right' is e = inr (is, refused slots form.places form.makes cause ws few right' is e)
by_fit {C = C} false slots form cause ws few right' is e = inl (is, sym (same_cause {A = C} WrongWords cause e))

pub form_refused : {C : Type 0} (slots : ℕ) (form : Form C) (cause : Cause) (ws : List Word) → slots < 2 ^ 64 → are_right form.places ≡ true
    → read_form slots form ws ≡ Err cause → FormRefused slots form cause ws
unfolding read_form
form_refused slots form cause ws few right' e = by_fit (fits form.places ws) slots form cause ws few right' refl e

pub form_refuses : {C : Type 0} (slots : ℕ) (form : Form C) (cause : Cause) (ws : List Word) → slots < 2 ^ 64 → are_right form.places ≡ true
    → FormRefused slots form cause ws → read_form slots form ws ≡ Err cause
unfolding read_form
form_refuses slots form cause ws few right' (inl r) = rw r.0 (ap failed (sym r.1))
form_refuses slots form cause ws few right' (inr r) = rw r.0 (refuses slots form.places form.makes cause ws few right' r.1)
