-- The last interval of a tablet is one of the tablet's.
use Rattle.std.proofs.Common.{◌≡◌, List, [], ◌∷◌, Option, Some, None, true, ◌⊎◌, inl, inr, subst}
use Rattle.model.specs.Cluster.{Id, same, In}
use Rattle.model.specs.Activity.{Interval, last_from, last_of}
use Rattle.law_store.proofs.Keys.{either_way}

last_found : (is : List Interval) (tablet : Id) (found : Option Interval) (i : Interval) → last_from is tablet found ≡ Some i → (In i is × (same i.tablet tablet ≡ true)) ⊎ (found ≡ Some i)
last_found [] tablet found i e = inr e
last_found (j ∷ js) tablet found i e = either_way (same j.tablet tablet)
    (λ s. elim (last_found js tablet (Some j) i (rw s at e)) [
      | inl h ↦ inl (inr h.0, h.1)
      | inr q ↦ (let is : j ≡ i = cc in inl (inl is, subst (λ k. same k.tablet tablet ≡ true) is s))
    ])
    (λ s. elim (last_found js tablet found i (rw s at e)) [
      | inl h ↦ inl (inr h.0, h.1)
      | inr q ↦ inr q
    ])

pub last_in : (is : List Interval) (tablet : Id) (i : Interval) → last_of is tablet ≡ Some i → In i is × (same i.tablet tablet ≡ true)
last_in is tablet i e = elim (last_found is tablet None i e) [ inl h ↦ h | inr q ↦ cc ]
