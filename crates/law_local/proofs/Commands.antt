-- A command reads the master; a split reads its parent's part too, which its plan names.
use Rattle.std.proofs.Common.{ℕ, ◌≡◌, List, [], ◌∷◌, Option, Some, None, Bool, true, false, not, refl, ap, subst, ◌∙◌}
use Rattle.std.specs.Prelude.{Result, Ok, Err, length}
use Rattle.std.specs.Option.{ok_or}
use Rattle.row_values.specs.Slots.{same_slots, has}
use Rattle.model.specs.Tablets.{Tablet}
use Rattle.model.specs.Acts.{Command, Split, Refusal, SlotsFull, StalePlan}
use Rattle.model.specs.Parts.{Master, Parts, Outcome, Check, If, refusal_in, either, checked, decided}
use Rattle.model.specs.Looks.{free_slots, Parent, found_parent, Family, family, found_family, slots_for, plan_of}
use Rattle.model.specs.Changes.{judge_split, splitting, split, planned, change}
use Rattle.law_local.specs.Agreeing.{Agree}
use Rattle.law_local.proofs.Agreement.{has_first, has_rest}
use Rattle.law_local.proofs.Judging.{judged_same, same_has}

-- where a split is judged, its plan has the slots of its family

family_found : (j : Result Parent Refusal) (checks : Parent → List Check) (m : Master) (f : Family) → found_family (checked j checks) m ≡ Ok f → (p : Parent) × ((j ≡ Ok p) × (family p (free_slots m) ≡ Some f))
family_found (Err why) checks m f e = cc
family_found (Ok p) checks m f e = (p, (refl, passed (refusal_in (checks p)) e))
  where
    found : (o : Option Family) (why : Refusal) → ok_or o why ≡ Ok f → o ≡ Some f
    found None why e = cc
    found (Some g) why e = cc

    passed : (r : Option Refusal) → found_family (either r p) m ≡ Ok f → family p (free_slots m) ≡ Some f
    passed (Some why) e = cc
    passed None e = found (family p (free_slots m)) (SlotsFull (length (free_slots m)) 2) e

-- what a command reads of the tablets' parts is equal
abbrev ReadsAlike : Command → Master → (ℕ → Tablet) → (ℕ → Tablet) → Type 0
ReadsAlike (Split namespace table code) m f g = (family : Family) → judge_split namespace table code m ≡ Ok family → f family.parent.tablet.slot ≡ g family.parent.tablet.slot
ReadsAlike _ m f g = Unit {0}

decided_same : {A : Type 0} (j : Result A Refusal) (go other : A → Outcome) → ((a : A) → j ≡ Ok a → go a ≡ other a) → decided j go ≡ decided j other
decided_same (Err why) go other same = refl
decided_same (Ok a) go other same = same a refl

split_same : (namespace table : List ℕ) (code n : ℕ) (m : Master) (f g : ℕ → Tablet)
    → ReadsAlike (Split namespace table code) m f g → split namespace table code n (record { master = m; tablet = f }) ≡ split namespace table code n (record { master = m; tablet = g })
unfolding split
split_same namespace table code n m f g alike =
    decided_same (judge_split namespace table code m) _ _ (λ family is. ap (splitting family code n m) (alike family is))

planned_same : (command : Command) (slots : List ℕ) (n : ℕ) (m : Master) (f g : ℕ → Tablet)
    → ReadsAlike command m f g → planned command slots n (record { master = m; tablet = f }) ≡ planned command slots n (record { master = m; tablet = g })
planned_same (Split namespace table code) slots n m f g alike = split_same namespace table code n m f g alike
planned_same _ slots n m f g alike = refl

-- tablets' parts that are equal in the slots of the plan are equal where the command reads them
reads_alike : (command : Command) (slots : List ℕ) (m : Master) (f g : ℕ → Tablet) → same_slots slots (plan_of command m) ≡ true
    → ((slot : ℕ) → has slots slot ≡ true → f slot ≡ g slot) → ReadsAlike command m f g
unfolding plan_of
reads_alike (Split namespace table code) slots m f g kept same = λ one is.
    let found = family_found (found_parent m namespace table code) _ m one is in
    let slots_are : List ℕ = one.parent.tablet.slot ∷ one.low_slot ∷ one.high_slot ∷ [] in
    let planned : plan_of (Split namespace table code) m ≡ slots_are =
    ap (λ j. slots_for (found_family j m) (λ f. f.parent.tablet.slot ∷ f.low_slot ∷ f.high_slot ∷ [])) found.1.0
    ∙ ap (λ o. slots_for (ok_or o (SlotsFull (length (free_slots m)) 2)) (λ f. f.parent.tablet.slot ∷ f.low_slot ∷ f.high_slot ∷ [])) found.1.1 in
    same one.parent.tablet.slot
    (same_has slots slots_are one.parent.tablet.slot (subst (λ plan. same_slots slots plan ≡ true) planned kept) (has_first one.parent.tablet.slot (one.low_slot ∷ one.high_slot ∷ [])))
reads_alike _ slots m f g kept same = tt

tablets_alike : (command : Command) (slots : List ℕ) (n : ℕ) (m : Master) (f g : ℕ → Tablet)
    → ((slot : ℕ) → has slots slot ≡ true → f slot ≡ g slot) → change command slots n (record { master = m; tablet = f }) ≡ change command slots n (record { master = m; tablet = g })
unfolding change
tablets_alike command slots n m f g same =
    judged_same (If (not (same_slots slots (plan_of command m))) (StalePlan (plan_of command m)) ∷ [])
    (planned command slots n (record { master = m; tablet = f }))
    (planned command slots n (record { master = m; tablet = g }))
    (λ passes. planned_same command slots n m f g (reads_alike command slots m f g (kept (same_slots slots (plan_of command m)) passes.0) same))
  where
    kept : (b : Bool) → not b ≡ false → b ≡ true
    kept true e = refl
    kept false e = cc

pub change_same : (command : Command) (slots : List ℕ) (n : ℕ) (p q : Parts) → Agree (0 ∷ slots) p q
    → change command slots n p ≡ change command slots n q
change_same command slots n p q a =
    let e : p.master ≡ q.master = a.master refl in
    ap (λ m. change command slots n (record { master = m; tablet = p.tablet })) e
    ∙ tablets_alike command slots n q.master p.tablet q.tablet (λ slot h. a.tablets slot (has_rest 0 slot slots h))
