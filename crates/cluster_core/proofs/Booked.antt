-- A history as the book has it, the newest entry first, against its entries in order of number.
use Rattle.std.proofs.Common.{Option, ◌≡◌, ℕ, suc, ◌<◌, List, [], ◌∷◌, ◌++◌, map, length, refl, sym, ap, arith, ◌∙◌, append-nil, append_assoc, Some, None}
use Rattle.std.specs.Prelude.{reverse, cond, slice_get, ◌==◌, false}
use Rattle.std.specs.List.{find}
use Rattle.std.specs.Option.{option_map}
use Rattle.std.proofs.lemmas.Bool.Decides.{nat_tests}
use Rattle.std.proofs.lemmas.Option.{slice_get-map}
use Rattle.std.proofs.lemmas.List.{length-map, length-reverse, reverse-append, reverse-reverse}
use Rattle.step_table.specs.declared.known.Entry as line
use Rattle.step_table.specs.Histories.{IsNumbered}
use Rattle.step_table.proofs.Lists.{either_way}
use Rattle.step_line.specs.Places.{found}
use Rattle.step_line.proofs.Taken.{found_of}
use Rattle.model.specs.Acts.{Event}
use Rattle.model.specs.Entries.{Entry}
use Rattle.machine_laws.specs.Views.{AnswerView}
use Rattle.machine_laws.specs.Past.{book, book_onto, book_entry}
use Rattle.cluster_core.proofs.Laying.{some_is}

abbrev Logged : Type 0
Logged = line.Entry Event AnswerView

onto_is : (es : List Logged) (history : List Entry) → book_onto es history ≡ reverse (map book_entry es) ++ history
onto_is [] history = refl
onto_is (e ∷ es) history =
    onto_is es (book_entry e ∷ history)
    ∙ sym (ap (λ xs. xs ++ history) (reverse-append (book_entry e ∷ []) (map book_entry es)) ∙ append_assoc (reverse (map book_entry es)) (book_entry e ∷ []) history)

book_is : (es : List Logged) → book es ≡ reverse (map book_entry es)
book_is es = onto_is es [] ∙ append-nil (reverse (map book_entry es))

pub in_order_of_number : (es : List Logged) → reverse (book es) ≡ map book_entry es
in_order_of_number es = ap reverse (book_is es) ∙ reverse-reverse (map book_entry es)

pub book_length : (es : List Logged) → length (book es) ≡ length es
book_length es = ap length (book_is es) ∙ length-reverse (map book_entry es) ∙ length-map es book_entry

-- The entry of a number

module _ (n : ℕ) where
  not_before : (k : ℕ) (es : List Logged) (history : List Entry) → IsNumbered k es → n < k → find (λ e. e.number == n) (book_onto es history) ≡ find (λ e. e.number == n) history
  not_before k [] history is lt = refl
  not_before k (e ∷ es) history is lt =
      let other : (e.number == n) ≡ false = let s = is.0 in grind (arith, nat_tests) in
      not_before (suc k) es (book_entry e ∷ history) is.1 (omega arith)
      ∙ ap (λ b. cond b (Some (book_entry e)) (find (λ x. x.number == n) history)) other

  found_onto : (k : ℕ) (es : List Logged) (history : List Entry) → IsNumbered k es → find (λ e. e.number == n) history ≡ None
      → find (λ e. e.number == n) (book_onto es history) ≡ option_map book_entry (find (λ (e : Logged). e.number == n) es)
  found_onto k [] history is none' = none'
  found_onto k (e ∷ es) history is none' = either_way (e.number == n)
      (λ t.
      let lt : n < suc k = let s = is.0 in grind (arith, nat_tests) in
      not_before (suc k) es (book_entry e ∷ history) is.1 lt
      ∙ ap (λ b. cond b (Some (book_entry e)) (find (λ x. x.number == n) history)) t
      ∙ sym (ap (λ b. option_map book_entry (cond b (Some e) (find (λ (x : Logged). x.number == n) es))) t))
      (λ f.
      found_onto (suc k) es (book_entry e ∷ history) is.1 (ap (λ b. cond b (Some (book_entry e)) (find (λ x. x.number == n) history)) f ∙ none')
      ∙ sym (ap (λ b. option_map book_entry (cond b (Some e) (find (λ (x : Logged). x.number == n) es))) f))

  pub book_found : (es : List Logged) → IsNumbered 1 es → find (λ e. e.number == n) (book es) ≡ option_map book_entry (find (λ (e : Logged). e.number == n) es)
  book_found es is = found_onto 1 es [] is refl

-- The entries in their places

mapped : {A B : Type 0} (f : A → B) (p o : Option A) → option_map Some p ≡ Some o → option_map f o ≡ option_map f p
mapped f None o is = cc
mapped f (Some x) o is = ap (option_map f) (sym (some_is is))

option_at : {A B : Type 0} (f : A → B) (xs : List A) (at : ℕ) (o : Option A) → slice_get (map Some xs) at ≡ Some o → option_map f o ≡ slice_get (map f xs) at
option_at f xs at o is = mapped f (slice_get xs at) o (sym (slice_get-map Some xs at) ∙ is) ∙ sym (slice_get-map f xs at)

-- the entry in a place, where all places have one
pub entry_at : (places : List (Option Logged)) (at : ℕ) (o : Option Logged) → places ≡ map Some (found places) → slice_get places at ≡ Some o → option_map book_entry o ≡ slice_get (map book_entry (found places)) at
entry_at places at o whole is = option_at book_entry (found places) at o (sym (ap (λ ps. slice_get ps at) whole) ∙ is)

-- all places have an entry, where they have those of a history
pub whole_of : (places : List (Option Logged)) (es : List Logged) → places ≡ map Some es → places ≡ map Some (found places)
whole_of places es is = is ∙ sym (ap (map Some) (found_of places es is))

pub shown_of : (places : List (Option Logged)) (es : List Logged) → places ≡ map Some es → map book_entry (found places) ≡ reverse (book es)
shown_of places es is = ap (map book_entry) (found_of places es is) ∙ sym (in_order_of_number es)
