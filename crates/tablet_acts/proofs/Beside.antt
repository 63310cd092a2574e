-- An act on one tablet reads of a cluster its master and that tablet's part.
use Rattle.std.proofs.Common.{ℕ, ◌≡◌, refl, sym, subst}
use Rattle.model.specs.Tablets.{Tablet}
use Rattle.model.specs.Parts.{Parts}
use Rattle.model.specs.RowActs.{cutoff}
use Rattle.tablet_part.specs.Plans.{beside}

pub cutoff_beside : (slot n : ℕ) (ps : Parts) (t : Tablet) → ps.tablet slot ≡ t → cutoff slot n (beside ps.master t) ≡ cutoff slot n ps
unfolding cutoff
cutoff_beside slot n ps t same = sym (subst (λ (u : Tablet). cutoff slot n ps ≡ cutoff slot n (beside ps.master u)) same refl)
