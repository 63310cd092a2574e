-- Answers to a restore and to a clone that are not right.
use Rattle.std.proofs.Common.{◌≡◌, ◌≤◌, ◌<◌, ◌+◌, ℕ, [], ◌∷◌, List, Bool, true, false, ◌&&◌, Option, Some, None, if◌then◌else◌, is_some, length, refl, sym, ap, ◌∙◌, arith, inl, inr, eqb, eqb-true}
use Rattle.std.proofs.lemmas.Bool.{true≢false}
use Rattle.std.proofs.lemmas.Bool.Decides.{nat_tests}
use Rattle.row_values.specs.Ids.{Id, Kind, Namespace, same, same_kind}
use Rattle.model.specs.Journal.{Change, namespace_at}
use Rattle.model.specs.Acts.{Refusal, Refused, StalePlan, NameTaken, TooMany, SlotsFull, CloneNamespace}
use Rattle.model.specs.Entries.{Entry}
use Rattle.model.specs.Replies.{Right}
use Rattle.model.specs.Windows.{CloneNamed, CloneTooMany, CloneFull, AreNamespaces}
use Rattle.model_rows.specs.FirstRead.{namespace_made, table_made}
use Rattle.model_rows.specs.Computed.{the_book}
use Rattle.model_rows.specs.Runs.{after, answered}
use Rattle.model_rows.specs.Scripts.{early, ready, restore, change, N, a, b}

-- the first letter of a name that is found
abbrev pub first_letter : Option (List ℕ) → ℕ
first_letter None = 0
first_letter (Some []) = 0
first_letter (Some (c ∷ cs)) = c

-- a restore inside the window, under its right plan

abbrev restoring : Refusal → List Entry
restoring why = answered (Refused why) (after (restore (early 3)) ready).entries

stale_with_its_plan : Right 64 (restoring (StalePlan [])) → ⊥
unfolding the_book
stale_with_its_plan right = elim (right.1.0) [ inl stale ↦ stale.0 refl | inr under ↦ elim (under.1) [ ] ]

-- a clone under a name that is free, where there may be one more namespace, and where the slots suffice

abbrev cloning : Refusal → List Entry
cloning why = answered (Refused why) (after (change (CloneNamespace a b (Some (early 3)))) ready).entries

free_name : Right 64 (cloning (NameTaken (N 1))) → ⊥
unfolding the_book
free_name right = elim (right.1.0) [
  | inl stale ↦ stale.0 refl
  | inr under ↦ elim (under.1) [ CloneNamed taken_by from has ↦ elim has [ inl e ↦ other_name e | inr c ↦ absurd c.listed ] ]
]
  where
    other_name : Some a ≡ Some b → ⊥
    other_name e = let first : ◌≡◌ {A = ℕ} 97 98 = ap first_letter e in omega arith

-- identifiers of one namespace are the same
same_number : (c d : Id) → same (N 1) c ≡ true → same (N 1) d ≡ true → same c d ≡ true
same_number c d is_c is_d =
    let p = both_are (eqb 1 c.number) (same_kind Namespace c.kind) is_c in
    let q = both_are (eqb 1 d.number) (same_kind Namespace d.kind) is_d in
    both_so (eqb c.number d.number) (same_kind c.kind d.kind)
    (let m : 1 ≡ c.number = eqb-true 1 c.number p.0 in let n : 1 ≡ d.number = eqb-true 1 d.number q.0 in grind (arith, nat_tests))
    (same_kinds c.kind d.kind p.1 q.1)
  where
    both_are : (p q : Bool) → (p && q) ≡ true → (p ≡ true) × (q ≡ true)
    both_are true q e = (refl, e)
    both_are false q e = absurd (let k = e in grind arith)

    both_so : (p q : Bool) → p ≡ true → q ≡ true → (p && q) ≡ true
    both_so true q e f = f
    both_so false q e f = e

    same_kinds : (k l : Kind) → same_kind Namespace k ≡ true → same_kind Namespace l ≡ true → same_kind k l ≡ true
    same_kinds Namespace l e f = f
    same_kinds _ l e f = absurd (let q = e in grind arith)

-- where the view names one namespace alone, there are not so many
too_many : (changes : List Change) (now : ℕ) (current : List Id) → ((id : Id) → is_some (namespace_at changes now id) ≡ true → same (N 1) id ≡ true) → AreNamespaces changes now current → 2 ≤ length current → ⊥
too_many changes now [] one are long = omega (arith, long)
too_many changes now (c ∷ []) one are long = omega (arith, long)
too_many changes now (c ∷ d ∷ rest) one are long = true≢false (sym (same_number c d (one c are.each.0) (one d are.each.1.0)) ∙ are.once.0.0)

pub only_one : (id : Id) → is_some (if same (N 1) id then Some a else None) ≡ true → same (N 1) id ≡ true
only_one id e = by (same (N 1) id) e
  where
    by : (b : Bool) → is_some (if b then Some a else None) ≡ true → b ≡ true
    by true e = refl
    by false e = absurd (let q = e in grind arith)

one_namespace : Right 64 (cloning (TooMany 64)) → ⊥
unfolding the_book
one_namespace right = elim (right.1.0) [
  | inl stale ↦ stale.0 refl
  | inr under ↦ elim (under.1) [
    | CloneTooMany limit from free full limit_is ↦ (
        let count : ◌≡◌ {A = ℕ} 64 (length full.current + 0) = full.count_is in
        too_many (table_made ∷ namespace_made ∷ []) (early 4) full.current only_one full.are (omega (arith, count)))
  ]
]

slots_suffice : Right 64 (cloning (SlotsFull 63 1)) → ⊥
unfolding the_book
slots_suffice right = elim (right.1.0) [
  | inl stale ↦ stale.0 refl
  | inr under ↦ elim (under.1) [ CloneFull free needed may inside free_is needed_is less ↦ (let short : 63 < 1 = less in omega arith) ]
]
