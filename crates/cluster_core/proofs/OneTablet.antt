-- What a plan of one tablet says of the held parts.
use Rattle.std.proofs.Common.{◌≡◌, ℕ, List, [], ◌∷◌, sym, ap, subst, arith, ◌∙◌, true, ◌||◌, eqb}
use Rattle.std.proofs.lemmas.Bool.Decides.{nat_tests}
use Rattle.step_table.specs.Lists.{Rising}
use Rattle.step_table.proofs.Lists.{either_way}
use Rattle.row_values.specs.declared.value.Item.{Item}
use Rattle.row_values.specs.Slots.{has}
use Rattle.model.specs.Tablets.{Tablet}
use Rattle.model.specs.Acts.{At, Act}
use Rattle.model.specs.Parts.{Master, Parts, Outcome}
use Rattle.model.specs.Entries.{touches, slots_of}
use Rattle.model.specs.RowActs.{write, compact, stats}
use Rattle.model.specs.History.{outcome}
use Rattle.law_local.proofs.Tablets.{write_same, compact_same, stats_same}
use Rattle.machine_laws.proofs.Slots.{rising_is, has_rising}
use Rattle.master_part.specs.Acts.{May}
use Rattle.tablet_part.specs.Plans.{alone}
use Rattle.tablet_acts.specs.Tellings.{SlotTelling, Suits, SuitAt}
use Rattle.cluster_core.specs.Held.{Holding, laid}
use Rattle.cluster_core.specs.Plans.{EventPlanView, outcome_of, AllSuit, IsPlan}

pub write_at : (place : At) (version : ℕ) (batch : List Item) (n : ℕ) (p : Parts) (t : Tablet) → p.tablet place.slot ≡ t → write place version batch n (alone t) ≡ write place version batch n p
write_at place version batch n p t e = write_same place version batch n (alone t) p (sym e)

pub compact_at : (slot n : ℕ) (p : Parts) (t : Tablet) → p.tablet slot ≡ t → compact slot n (alone t) ≡ compact slot n p
compact_at slot n p t e = compact_same slot n (alone t) p (sym e)

pub stats_at : (slot n : ℕ) (p : Parts) (t : Tablet) → p.tablet slot ≡ t → stats slot n (alone t) ≡ stats slot n p
stats_at slot n p t e = stats_same slot n (alone t) p (sym e)

suits_at : (slot n : ℕ) (at : ℕ → Tablet) (t : Tablet) (ts : List SlotTelling) → at slot ≡ t → SuitAt slot n t ts → AllSuit ts n at
suits_at slot n at t [] e suits = tt
suits_at slot n at t (x ∷ ts) e suits = (subst (Suits x.telling n) (sym (ap at suits.0.0 ∙ e)) suits.0.1, suits_at slot n at t ts e suits.1)

-- the plan of an act on one tablet
pub one_plan : (act : Act) (slot n : ℕ) (held : Holding) (t : Tablet) (p : EventPlanView) (o : Outcome) → (laid held).tablet slot ≡ t → outcome_of p ≡ o → o ≡ outcome act n (laid held) → SuitAt slot n t p.tablets
    → ((m : Master) → May p.master n m) → IsPlan act n held p
one_plan act slot n held t p o e is same suits may = record {
  outcome = is ∙ same;
  suits = suits_at slot n (laid held).tablet t p.tablets e suits;
  may = may (laid held).master;
}

pub touched_rise : (act : Act) (ks : List ℕ) → ks ≡ touches act → Rising ks
touched_rise act ks is = subst Rising (sym is) (rising_is (slots_of act))

pub has_first : (slot : ℕ) (ks : List ℕ) → has (slot ∷ ks) slot ≡ true
has_first slot ks = let e : eqb slot slot ≡ true = grind (arith, nat_tests) in ap (λ b. b || has ks slot) e

pub has_second : (first slot : ℕ) → has (first ∷ slot ∷ []) slot ≡ true
has_second first slot = either_way (eqb first slot)
    (λ t. ap (λ b. b || has (slot ∷ []) slot) t)
    (λ f. ap (λ b. b || has (slot ∷ []) slot) f ∙ has_first slot [])

-- a slot that an act names is among those that it touches
pub touched : (act : Act) (ks : List ℕ) (k : ℕ) → ks ≡ touches act → has (slots_of act) k ≡ true → has ks k ≡ true
touched act ks k is named = ap (λ js. has js k) is ∙ has_rising (slots_of act) k ∙ named

pub touched_one : (slot : ℕ) (ks : List ℕ) → ks ≡ slot ∷ [] → has ks slot ≡ true
touched_one slot ks is = ap (λ js. has js slot) is ∙ has_first slot []
