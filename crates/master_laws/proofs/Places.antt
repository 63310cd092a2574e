-- Tablets that are active at one time lie in different slots, so there are at most as many as slots.
use Rattle.std.proofs.Common.{inl, inr, ℕ, ◌≡◌, ◌≢◌, ◌≤◌, ◌<◌, ◌+◌, ◌-◌, true, false, cond, List, [], ◌∷◌, length, map, refl, sym, ap, subst, ◌∙◌, eqb, eqb-true, arith, le-leb, lt-ltb}
use Rattle.std.proofs.lemmas.Bool.Decides.{nat_tests}
use Rattle.std.specs.List.{IsDistinct, AllByRecursion, list_any}
use Rattle.std.proofs.lemmas.List.{length-map}
use Rattle.std.proofs.lemmas.Map.Steps.{length-le_from_distinct_below}
use Rattle.row_values.specs.Ids.{Id}
use Rattle.row_values.specs.Elements.{In}
use Rattle.model.specs.Activity.{Interval, active_at}
use Rattle.model.specs.Catalog.{owns}
use Rattle.model.specs.Tablets.{Tablet}
use Rattle.model.specs.Parts.{Master, Parts}
use Rattle.model.specs.Journal.{Change}
use Rattle.model.specs.Lists.{tablets_active_at, intervals_in}
use Rattle.model.specs.Stands.{holders, HasRange}
use Rattle.law_store.proofs.Keys.{either_way}
use Rattle.law_invariants.specs.Remembered.{IsPartOf}
use Rattle.law_invariants.specs.Invariant.{Inv, SlotGood, IsGood}
use Rattle.law_invariants.proofs.Finding.{passes_both, same_self, filter_in}
use Rattle.law_invariants.proofs.Parting.{part_in, part_left, part_counts}
use Rattle.law_invariants.proofs.Overlap.{holds, one_holder}

module _ (m : Master) (changes : List Change) (at : ℕ → Tablet) (good : (slot : ℕ) → SlotGood m changes slot (at slot)) (x : ℕ) where
  -- an interval that is active at the time, with a range
  pub record IsThen (i : Interval) : Type 0 where
    pub isin : In i m.activity
    pub active : active_at x i ≡ true
    pub range : HasRange i

  holds_low : (i : Interval) → IsThen i → holds i i.table i.low x ≡ true
  holds_low i then_ = passes_both _ _ (same_self i.table) (passes_both _ _ then_.active (passes_both _ _ (le-leb _ _ (omega arith)) (lt-ltb _ _ then_.range.0)))

  good_in : (i : Interval) (slot : ℕ) → IsThen i → i.slot ≡ slot → IsGood m changes (at slot) i
  good_in i slot then_ is = (good slot).each i then_.isin is

  -- another one in its slot has its codes
  holds_too : (i j : Interval) → IsThen i → IsThen j → j.slot ≡ i.slot → holds j i.table i.low x ≡ true
  holds_too i j then_i then_j same_slot =
      let a = good_in i i.slot then_i refl in
      let b = good_in j i.slot then_j same_slot in
      let table : j.table ≡ i.table = sym b.table_is ∙ a.table_is in
      let low : j.low ≡ i.low = sym b.low_is ∙ a.low_is in
      ap (λ t. holds j t i.low x) (sym table) ∙ ap (λ c. holds j j.table c x) (sym low) ∙ holds_low j then_j

  slot_apart : (i j : Interval) (js : List Interval) → IsThen i → IsThen j → In j js → holders (i ∷ js) i.table i.low x ≤ 1 → j.slot ≢ i.slot
  slot_apart i j js then_i then_j isin once same_slot =
      let rest = one_holder js j i.table i.low x isin (holds_too i j then_i then_j same_slot) in
      let here : holds i i.table i.low x ≡ true = holds_low i then_i in
      let both : cond (holds i i.table i.low x) 1 0 + holders js i.table i.low x ≤ 1 = once in
      let clash : 1 + holders js i.table i.low x ≤ 1 = rw here at both in
      absurd (omega (arith, rest, clash))

  abbrev place : Interval → ℕ
  place i = i.slot - 1

  all_apart : (i : Interval) (ks js : List Interval) → IsThen i → ((j : Interval) → In j ks → IsThen j × In j js) → holders (i ∷ js) i.table i.low x ≤ 1
      → AllByRecursion (λ y. eqb (place i) y ≡ false) (map place ks)
  all_apart i [] js then_i each once = tt
  all_apart i (j ∷ ks) js then_i each once =
      let there = each j (inl refl) in
      let ne : j.slot ≢ i.slot = slot_apart i j js then_i there.0 there.1 once in
      let a : 1 ≤ i.slot = (good_in i i.slot then_i refl).slot_from in
      let b : 1 ≤ j.slot = (good_in j j.slot there.0 refl).slot_from in
      (grind (arith, nat_tests), all_apart i ks js then_i (λ k isin. each k (inr isin)) once)

  distinct : (is : List Interval) → ((i : Interval) → In i is → IsThen i) → ((table : Id) (code : ℕ) → code < 65536 → holders is table code x ≤ 1) → IsDistinct eqb (map place is)
  unfolding IsDistinct
  distinct [] each once = tt
  distinct (i ∷ is) each once =
      let then_i = each i (inl refl) in (
        all_apart i is is then_i (λ j isin. (each j (inr isin), isin)) (once i.table i.low (omega (arith, then_i.range.0, then_i.range.1))),
        distinct is (λ j isin. each j (inr isin)) (λ table code below. let all : cond (holds i table code x) 1 0 + holders is table code x ≤ 1 = once table code below in omega arith),
      )

  any_in : (q : ℕ) (is : List Interval) → list_any (eqb q) (map place is) ≡ true → (i : Interval) × (In i is × (q ≡ place i))
  any_in q [] e = cc
  any_in q (i ∷ is) e = either_way (eqb q (place i))
      (λ b. (i, (inl refl, eqb-true q (place i) b)))
      (λ b. let rest : list_any (eqb q) (map place is) ≡ true = rw b at e in let k = any_in q is rest in (k.0, (inr k.1.0, k.1.1)))

  pub few : (is : List Interval) → ((i : Interval) → In i is → IsThen i) → ((table : Id) (code : ℕ) → code < 65536 → holders is table code x ≤ 1) → length is ≤ m.slots
  few is each once =
      let below : (q : ℕ) → list_any (eqb q) (map place is) ≡ true → q < m.slots = λ q e.
      let k = any_in q is e in
      let g = good_in k.0 k.0.slot (each k.0 k.1.0) refl in
      let from : 1 ≤ k.0.slot = g.slot_from in
      let to : k.0.slot ≤ m.slots = g.slot_to in
      omega (arith, k.1.1) in
      subst (λ n. n ≤ m.slots) (length-map is place) (length-le_from_distinct_below (map place is) m.slots (distinct is each once) below)

pub places_few : (ps : Parts) (activity : List Interval) (changes : List Change) → Inv ps activity changes → (ns : Id) (to : ℕ)
    → length (tablets_active_at ps.master.catalog.owners ps.master.activity ns to) ≤ ps.master.slots
places_few ps activity changes inv ns to =
    let m = ps.master in
    let owned = λ (i : Interval). owns m.catalog.owners ns i.table in
    let all = intervals_in m.catalog.owners m.activity ns in
    let then_ = tablets_active_at m.catalog.owners m.activity ns to in
    let part : IsPartOf then_ activity = part_left (active_at to) activity all (part_left owned activity m.activity inv.remembered.part) in
    few m changes ps.tablet inv.slots to then_
    (λ i isin. let k = filter_in all (active_at to) i isin in
    let j = filter_in m.activity owned i k.0 in
    record { isin = j.0; active = k.1; range = inv.cover.ranges i (part_in activity m.activity i inv.remembered.part j.0) })
    (λ table code below. let a = part_counts activity then_ table code to part in let b = inv.cover.once table code to below in omega (arith, a, b))
