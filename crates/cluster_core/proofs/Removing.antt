-- The part of a tablet that is to be removed.
use Rattle.std.proofs.Common.{◌≡◌, ◌≤◌, ℕ, List, [], ◌∷◌, true, false, Bool, not, ◌||◌, ◌&&◌, eqb, Option, Some, None, refl, sym, ap, subst, ◌∙◌}
use Rattle.std.specs.Option.{option_map}
use Rattle.step_table.proofs.Lists.{either_way}
use Rattle.row_values.specs.Ids.{Id, Kind, Namespace, Table, Tablet, Schedule, Snapshot, Restoration, Clone}
use Rattle.row_values.specs.Slots.{has, rising, same_slots}
use Rattle.model.specs.Activity.{Interval, last_of}
use Rattle.model.specs.Parts.{Master}
use Rattle.law_invariants.proofs.Lasting.{last_in}
use Rattle.machine_laws.proofs.Slots.{has_rising}
use Rattle.master_part.specs.Acts.{IsLawful}
use Rattle.master_cleanup.specs.Seen.{slot_by, slot_of_removal}
use Rattle.cluster_core.proofs.Laying.{some_is}

-- a slot that isn't among a plan's is not the plan

not_among : (slots : List ℕ) (slot : ℕ) → has slots slot ≡ false → same_slots slots (slot ∷ []) ≡ false
not_among [] slot none = refl
not_among (a ∷ []) slot none = either_way (eqb a slot)
    (λ t. absurd (let e : true ≡ false = sym (ap (λ b. b || false) t) ∙ none in cc))
    (λ f. ap (λ b. b && true) f)
not_among (a ∷ b ∷ rest) slot none = either_way (eqb a slot)
    (λ t. ap (λ b. b && false) t)
    (λ f. ap (λ b. b && false) f)

pub not_planned : (ks slots : List ℕ) (slot : ℕ) (absent : Bool) → absent ≡ true → absent ≡ not (has ks slot) → ks ≡ rising (0 ∷ slots) → same_slots slots (slot ∷ []) ≡ false
not_planned ks slots slot absent is exact same =
    let none : has (0 ∷ slots) slot ≡ false = sym (has_rising (0 ∷ slots) slot) ∙ sym (ap (λ js. has js slot) same) ∙ not_false (has ks slot) (sym is ∙ exact) in
    not_among slots slot (later 0 slots none)
  where
    not_false : (b : Bool) → true ≡ not b → b ≡ false
    not_false true is = is
    not_false false is = refl

    later : (a : ℕ) (slots : List ℕ) → has (a ∷ slots) slot ≡ false → has slots slot ≡ false
    later a slots none = either_way (eqb a slot)
        (λ t. absurd (let e : true ≡ false = sym (ap (λ b. b || has slots slot) t) ∙ none in cc))
        (λ f. sym (ap (λ b. b || has slots slot) f) ∙ none)

-- the slot of a removal is a tablet's

of_last : (m : Master) (target : Id) (slot : ℕ) → IsLawful m → (found : Option Interval) → last_of m.activity target ≡ found → option_map (λ i. i.slot) found ≡ Some slot → 1 ≤ slot
of_last m target slot lawful None is at = cc
of_last m target slot lawful (Some i) is at = subst (λ k. 1 ≤ k) (some_is at) (lawful.placed i (last_in m.activity target i is).0).0

by_kind : (kind : Kind) (m : Master) (target : Id) (slot : ℕ) → IsLawful m → slot_by kind m target ≡ Some slot → 1 ≤ slot
by_kind Namespace m target slot lawful at = cc
by_kind Table m target slot lawful at = cc
by_kind Tablet m target slot lawful at = of_last m target slot lawful (last_of m.activity target) refl at
by_kind Schedule m target slot lawful at = cc
by_kind Snapshot m target slot lawful at = cc
by_kind Restoration m target slot lawful at = cc
by_kind Clone m target slot lawful at = cc

pub of_tablet : (m : Master) (target : Id) (slot : ℕ) → IsLawful m → slot_of_removal m target ≡ Some slot → 1 ≤ slot
of_tablet m target slot lawful at = by_kind target.kind m target slot lawful at
