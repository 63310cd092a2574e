-- Which refusals a judgement can give: those of what it looks for, and of its checks.
use Rattle.std.proofs.Common.{◌≡◌, true, false, List, [], ◌∷◌, Option, Some, None, ◌⊎◌, inl, inr, refl, ap, subst, ◌∙◌, arith, Result}
use Rattle.std.specs.Prelude.{Ok as Granted, Err as Denied}
use Rattle.std.specs.Option.{ok_or}
use Rattle.row_values.specs.Ids.{Id}
use Rattle.model.specs.Acts.{Refusal, Reply}
use Rattle.model.specs.Parts.{Check, If, Names, Fault, Outcome, refusal_in, either, checked, and_found, decided, judged, unless}
use Rattle.model.specs.Replies.{RefusedAs}

-- each refusal of the judgement is one of these
abbrev pub Refuses : {A : Type 0} → (Refusal → Type 0) → Result A Refusal → Type 0
Refuses Why j = (why : Refusal) → j ≡ Denied why → Why why

-- and so is each that a check gives
abbrev pub EachIs : (Refusal → Type 0) → List Check → Type 0
EachIs Why [] = Unit {0}
EachIs Why (If comes why ∷ checks) = (comes ≡ true → Why why) × EachIs Why checks
EachIs Why (Names found why ∷ checks) = ((id : Id) → found ≡ Some id → Why (why id)) × EachIs Why checks
EachIs Why (Fault fault ∷ checks) = ((why : Refusal) → fault ≡ Some why → Why why) × EachIs Why checks

pub refusal_is : (Why : Refusal → Type 0) (checks : List Check) (why : Refusal) → EachIs Why checks → refusal_in checks ≡ Some why → Why why
refusal_is Why [] why each e = absurd (let q = e in grind arith)
refusal_is Why (If true other ∷ checks) why each e = subst Why (let k : other ≡ why = cc in k) (each.0 refl)
refusal_is Why (If false other ∷ checks) why each e = refusal_is Why checks why each.1 e
refusal_is Why (Names (Some id) of_id ∷ checks) why each e = subst Why (let k : of_id id ≡ why = cc in k) (each.0 id refl)
refusal_is Why (Names None of_id ∷ checks) why each e = refusal_is Why checks why each.1 e
refusal_is Why (Fault (Some other) ∷ checks) why each e = subst Why (let k : other ≡ why = cc in k) (each.0 other refl)
refusal_is Why (Fault None ∷ checks) why each e = refusal_is Why checks why each.1 e

pub missing_is : {A : Type 0} (Why : Refusal → Type 0) (found : Option A) (missing : Refusal) → (found ≡ None → Why missing) → Refuses Why (ok_or found missing)
missing_is Why None missing it why e = subst Why (let k : missing ≡ why = cc in k) (it refl)
missing_is Why (Some a) missing it why e = absurd (let q = e in grind arith)

pub found_is : {A B : Type 0} (Why : Refusal → Type 0) (j : Result A Refusal) (look : A → Option B) (missing : Refusal) → Refuses Why j → ((a : A) → look a ≡ None → Why missing) → Refuses Why (and_found j look missing)
found_is Why (Denied other) look missing first it why e = first why (let k : other ≡ why = cc in ap Denied k)
found_is Why (Granted a) look missing first it why e = missing_is Why (look a) missing (it a) why e

pub checked_is : {A : Type 0} (Why : Refusal → Type 0) (j : Result A Refusal) (checks : A → List Check) → Refuses Why j → ((a : A) → EachIs Why (checks a)) → Refuses Why (checked j checks)
checked_is Why (Denied other) checks first each why e = first why (let k : other ≡ why = cc in ap Denied k)
checked_is Why (Granted a) checks first each why e = by (refusal_in (checks a)) refl e
  where
    by : (found : Option Refusal) → refusal_in (checks a) ≡ found → either found a ≡ Denied why → Why why
    by None is e = absurd (let q = e in grind arith)
    by (Some other) is e = let k : other ≡ why = cc in refusal_is Why (checks a) why (each a) (is ∙ ap Some k)

-- a command is accepted, or refused as one of these
abbrev pub Answers : (Reply → Type 0) → (Refusal → Type 0) → Reply → Type 0
Answers Makes Why reply = Makes reply ⊎ RefusedAs Why reply

pub decided_answers : {A : Type 0} (Makes : Reply → Type 0) (Why : Refusal → Type 0) (j : Result A Refusal) (go : A → Outcome) → Refuses Why j → ((a : A) → Makes (go a).reply) → Answers Makes Why (decided j go).reply
decided_answers Makes Why (Denied why) go refuses accepts = inr (why, (refl, refuses why refl))
decided_answers Makes Why (Granted a) go refuses accepts = inl (accepts a)

pub judged_answers : (Makes : Reply → Type 0) (Why : Refusal → Type 0) (checks : List Check) (o : Outcome) → EachIs Why checks → Makes o.reply → Answers Makes Why (judged checks o).reply
judged_answers Makes Why checks o each accepts = by (refusal_in checks) refl
  where
    by : (found : Option Refusal) → refusal_in checks ≡ found → Answers Makes Why (unless found o).reply
    by None is = inl accepts
    by (Some why) is = inr (why, (refl, refusal_is Why checks why each is))
