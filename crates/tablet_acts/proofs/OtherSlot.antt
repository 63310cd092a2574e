-- A command is not done beside another slot than that of its rows.
use Rattle.std.proofs.Common.{◌≡◌, ℕ, List, [], ◌∷◌, Some, refl, sym, subst}
use Rattle.std.specs.Prelude.{slice_get}
use Rattle.std.proofs.lemmas.Bool.{ne_eqb}
use Rattle.model.specs.Tablets.{Tablet, Command}
use Rattle.model.specs.Acts.{OtherSlot}
use Rattle.model.specs.Parts.{Parts, refused}
use Rattle.model.specs.Coordination.{source_slot, processing, process}

refused_at : (inbox : List Command) (slot other : ℕ) (source : Tablet) (c : Command) → slice_get inbox 0 ≡ Some c
    → (other ≡ source_slot slot c.body → ⊥) → processing inbox slot other source ≡ refused (OtherSlot (source_slot slot c.body))
refused_at [] slot other source c first apart = cc
refused_at (d ∷ ds) slot other source c first apart =
    let same : c ≡ d = cc in
    let P : Command → Type 0 = λ e. (other ≡ source_slot slot e.body → ⊥) → processing (d ∷ ds) slot other source ≡ refused (OtherSlot (source_slot slot e.body)) in
    subst P (sym same) (λ h. rw (ne_eqb _ _ h) refl) apart

pub other_slot : (slot other n : ℕ) (ps : Parts) (t : Tablet) (c : Command) → ps.tablet slot ≡ t → slice_get t.inbox 0 ≡ Some c
    → (other ≡ source_slot slot c.body → ⊥) → process slot other n ps ≡ refused (OtherSlot (source_slot slot c.body))
unfolding process
other_slot slot other n ps t c is first apart =
    let P : Tablet → Type 0 = λ u. slice_get u.inbox 0 ≡ Some c in
    refused_at (ps.tablet slot).inbox slot other (ps.tablet other) c (subst P (sym is) first) apart
