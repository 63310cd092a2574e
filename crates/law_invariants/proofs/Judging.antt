-- What holds of a judgement, by the refusals that come.
use Rattle.std.proofs.Common.{◌≡◌, Bool, true, false, List, [], ◌∷◌, Option, Some, None, refl, ap, subst, ℕ, not}
use Rattle.std.specs.Prelude.{Result, Ok, Err}
use Rattle.std.specs.Option.{option_map, ok_or}
use Rattle.model.specs.Cluster.{Id, same_slots, Interval}
use Rattle.model.specs.Acts.{Refusal, Command, Change, StalePlan, Act}
use Rattle.model.specs.Parts.{Check, If, Names, Fault, refusal_in, either, checked, and_found, Parts, Outcome, judged, refused}
use Rattle.law_invariants.specs.Invariant.{Passes, Inv, Later}
use Rattle.model.specs.Journal.{Change as Made}
use Rattle.model.specs.Entries.{slots_of}
use Rattle.model.specs.Looks.{plan_of}
use Rattle.model.specs.Changes.{change, planned}
use Rattle.model.specs.History.{outcome}
use Rattle.law_invariants.proofs.Ticking.{refused_keeps, KeepsAll}

-- One refusal after the other: where it comes, and where it doesn't

pub step_if : (P : Option Refusal → Type 0) (comes : Bool) (why : Refusal) (checks : List Check) → (comes ≡ true → P (Some why)) → (comes ≡ false → P (refusal_in checks))
    → P (refusal_in (If comes why ∷ checks))
step_if P true why checks it goes = it refl
step_if P false why checks it goes = goes refl

pub step_names : (P : Option Refusal → Type 0) (found : Option Id) (why : Id → Refusal) (checks : List Check) → ((id : Id) → found ≡ Some id → P (Some (why id)))
    → (found ≡ None → P (refusal_in checks)) → P (refusal_in (Names found why ∷ checks))
step_names P (Some id) why checks it goes = it id refl
step_names P None why checks it goes = goes refl

pub step_fault : (P : Option Refusal → Type 0) (fault : Option Refusal) (checks : List Check) → ((why : Refusal) → fault ≡ Some why → P (Some why)) → (fault ≡ None → P (refusal_in checks))
    → P (refusal_in (Fault fault ∷ checks))
step_fault P (Some why) checks it goes = it why refl
step_fault P None checks it goes = goes refl

-- a fault that says what was found
pub step_found : {A : Type 0} (P : Option Refusal → Type 0) (found : Option A) (why : A → Refusal) (checks : List Check) → ((a : A) → found ≡ Some a → P (Some (why a)))
    → (found ≡ None → P (refusal_in checks)) → P (refusal_in (Fault (option_map why found) ∷ checks))
step_found P (Some a) why checks it goes = it a refl
step_found P None why checks it goes = goes refl

-- What a judgement found

pub found_is : {A : Type 0} (o : Option A) (why : Refusal) (a : A) → ok_or o why ≡ Ok a → o ≡ Some a
found_is None why a e = cc
found_is (Some b) why a e = cc

pub and_found_is : {A B : Type 0} (j : Result A Refusal) (look : A → Option B) (why : Refusal) (b : B) → and_found j look why ≡ Ok b → (a : A) × ((j ≡ Ok a) × (look a ≡ Some b))
and_found_is (Err other) look why b e = cc
and_found_is (Ok a) look why b e = (a, (refl, found_is (look a) why b e))

passes_none : (checks : List Check) → refusal_in checks ≡ None → Passes checks
passes_none [] e = tt
passes_none (If false why ∷ checks) e = (refl, passes_none checks e)
passes_none (Names None why ∷ checks) e = (refl, passes_none checks e)
passes_none (Fault None ∷ checks) e = (refl, passes_none checks e)
passes_none _ e = cc

either_is : {A : Type 0} (why : Option Refusal) (a b : A) → either why a ≡ Ok b → (why ≡ None) × (a ≡ b)
either_is (Some why) a b e = cc
either_is None a b e = (refl, cc)

-- and no check of it comes
pub checked_is : {A : Type 0} (j : Result A Refusal) (checks : A → List Check) (a : A) → checked j checks ≡ Ok a → (j ≡ Ok a) × Passes (checks a)
checked_is (Err why) checks a e = cc
checked_is (Ok b) checks a e = let r = either_is (refusal_in (checks b)) b a e in (ap Ok r.1, subst (λ k. Passes (checks k)) r.1 (passes_none (checks b) r.0))

-- A command under its plan: one under a stale plan is refused.

by_cases : (b : Bool) (why : Refusal) (act : Act) (n : ℕ) (ps : Parts) (activity : List Interval) (changes : List Made) (o : Outcome) → KeepsAll act n ps activity changes (refused why) → (b ≡ true → KeepsAll act n ps activity changes o)
    → KeepsAll act n ps activity changes (judged (If (not b) why ∷ []) o)
by_cases true why act n ps activity changes o no_ go = go refl
by_cases false why act n ps activity changes o no_ go = no_

-- a command keeps what holds where it does under its own plan
pub change_keeps : (command : Command) (slots : List ℕ) (ps : Parts) (activity : List Interval) (changes : List Made) (n : ℕ) → Later (slots_of (Change command slots)) ps n → Inv ps activity changes
    → (same_slots slots (plan_of command ps.master) ≡ true → KeepsAll (Change command slots) n ps activity changes (planned command slots n ps))
    → KeepsAll (Change command slots) n ps activity changes (outcome (Change command slots) n ps)
unfolding change
change_keeps command slots ps activity changes n later inv keeps =
    let kept = plan_of command ps.master in
    by_cases (same_slots slots kept) (StalePlan kept) (Change command slots) n ps activity changes (planned command slots n ps)
    (refused_keeps (Change command slots) (StalePlan kept) n ps activity changes later inv refl) keeps
