-- What the plan of a command, and what is asked of it, say of its slots and its columns.
use Rattle.std.proofs.Common.{ℕ, ◌≡◌, ◌≢◌, ◌≤◌, ◌&&◌, ◌==◌, Bool, true, false, true≢false, List, [], ◌∷◌, length, take, All, AllPairs, Result, Ok as Granted, Err as Denied, if◌then◌else◌, nat_le, bytes_eq, length-take, refl, sym, ap, ◌∙◌, arith}
use Rattle.std.proofs.lemmas.List.Kept.{AllPairs-cons}
use Rattle.std.proofs.lemmas.List.Elements.{All-nil, All-cons}
use Rattle.std.proofs.lemmas.Slice.Eq.{bytes_eq-Decides, IsBytesEq, compares_Decides}
use Rattle.row_values.specs.Ids.{Id}
use Rattle.row_values.specs.Slots.{same_slots}
use Rattle.row_values.specs.Schema.{NewColumn}
use Rattle.model.specs.Acts.{Refusal}
use Rattle.model.specs.Parts.{Master}
use Rattle.model.specs.Rules.{NotNamed, NamesDiffer}
use Rattle.model.specs.Looks.{slots_for, least_slots, free_slots}

-- Slots

compares_slots : IsBytesEq same_slots
compares_slots = record {
  empty = refl;
  shorter = λ y ys. refl;
  longer = λ x xs. refl;
  heads = λ x y xs ys. refl;
}

pub same_is : (xs ys : List ℕ) → same_slots xs ys ≡ true → xs ≡ ys
same_is xs ys = (compares_Decides same_slots compares_slots xs ys).0

few_least : (count : ℕ) (slots : List ℕ) → length (least_slots count slots) ≤ count
few_least count slots = by (nat_le count (length slots))
  where
    by : (b : Bool) → length (if b then take count slots else []) ≤ count
    by true = omega (arith, length-take count slots)
    by false = omega arith

-- a new table is planned in so many slots, or in none
pub few_planned : (m : Master) (ns : Result Id Refusal) (tablets : ℕ) (slots : List ℕ)
    → slots ≡ slots_for ns (λ _. least_slots tablets (free_slots m)) → tablets ≤ 64 → length slots ≤ 64
few_planned m ns tablets slots is few =
    let least : length (slots_for ns (λ _. least_slots tablets (free_slots m))) ≤ tablets = by ns in
    omega (arith, few, least, ap length is)
  where
    by : (r : Result Id Refusal) → length (slots_for r (λ _. least_slots tablets (free_slots m))) ≤ tablets
    by (Denied why) = omega arith
    by (Granted id) = few_least tablets (free_slots m)

-- Columns

not_named : (name : List ℕ) (cs : List NewColumn) → NotNamed name cs → All (λ (c : NewColumn). name ≢ c.name) cs
not_named name [] h = All-nil (λ (c : NewColumn). name ≢ c.name)
not_named name (c ∷ cs) h =
    All-cons (λ (d : NewColumn). name ≢ d.name) c cs
    (λ same. true≢false (sym ((bytes_eq-Decides c.name name).1 (sym same)) ∙ h.0))
    (not_named name cs h.1)

-- what is asked of a table's columns says that no two of them have one name
pub names_apart : (cs : List NewColumn) → NamesDiffer cs → AllPairs (λ (c d : NewColumn). c.name ≢ d.name) cs
names_apart [] h = λ i j d lt within. absurd (omega arith)
names_apart (c ∷ cs) h =
    AllPairs-cons (λ (a b : NewColumn). a.name ≢ b.name) c cs (not_named c.name cs h.0) (names_apart cs h.1)
