-- What parts that agree have alike: the clocks of the slots, and so the stamp of an event.
use Rattle.std.proofs.Common.{ℕ, ◌≡◌, List, [], ◌∷◌, map, Bool, true, false, ◌||◌, refl, ap, ◌∙◌, arith, eqb}
use Rattle.std.proofs.lemmas.Bool.{cond_both}
use Rattle.std.proofs.lemmas.Bool.Decides.{nat_tests}
use Rattle.row_values.specs.Stamps as rule
use Rattle.row_values.specs.Slots.{has}
use Rattle.model.specs.Acts.{Event}
use Rattle.model.specs.Parts.{Parts}
use Rattle.model.specs.Entries.{slots_of, clock_at, stamp_of}
use Rattle.law_local.specs.Agreeing.{Agree}

-- a proof by the value of a test
pub by_test : {P : Type 0} (b : Bool) → (b ≡ true → P) → (b ≡ false → P) → P
by_test {P} b yes_ no_ = cond_both b true false (λ c. P) yes_ no_

or_second : (a b : Bool) → b ≡ true → (a || b) ≡ true
or_second true b e = refl
or_second false b e = e

pub has_first : (slot : ℕ) (slots : List ℕ) → has (slot ∷ slots) slot ≡ true
has_first slot slots = grind (arith, nat_tests)

pub has_rest : (first slot : ℕ) (slots : List ℕ) → has slots slot ≡ true → has (first ∷ slots) slot ≡ true
has_rest first slot slots h = or_second (eqb first slot) (has slots slot) h

pub agree_rest : (slot : ℕ) (slots : List ℕ) (p q : Parts) → Agree (slot ∷ slots) p q → Agree slots p q
agree_rest slot slots p q a = record {
  master = λ h. a.master (has_rest slot 0 slots h);
  tablets = λ s h. a.tablets s (has_rest slot s slots h);
}

clock_same : (slot : ℕ) (slots : List ℕ) (p q : Parts) → Agree (slot ∷ slots) p q → clock_at p slot ≡ clock_at q slot
clock_same slot slots p q a = by_test (eqb slot 0)
    (λ e. let m : p.master ≡ q.master = a.master (ap (λ b. b || has slots 0) e) in rw e (ap (λ m. m.clock) m))
    (λ e. rw e (ap (λ t. t.clock) (a.tablets slot (has_first slot slots))))

clocks_same : (slots : List ℕ) (p q : Parts) → Agree slots p q → map (clock_at p) slots ≡ map (clock_at q) slots
clocks_same [] p q a = refl
clocks_same (slot ∷ slots) p q a =
    ap (λ c. c ∷ map (clock_at p) slots) (clock_same slot slots p q a) ∙ ap (λ cs. clock_at q slot ∷ cs) (clocks_same slots p q (agree_rest slot slots p q a))

pub stamp_same : (event : Event) (p q : Parts) → Agree (slots_of event.act) p q → stamp_of event p ≡ stamp_of event q
stamp_same event p q a = ap (λ clocks. rule.stamp_of 0 clocks event.reading) (clocks_same (slots_of event.act) p q a)
