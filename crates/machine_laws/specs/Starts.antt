-- The parts of the empty cluster.
use Rattle.std.specs.Prelude.{ℕ, ◌≡◌, List, [], ◌∷◌, map, replicate}
use Rattle.step_table.specs.Lists.{Every}
use Rattle.model.specs.Tablets.{emptied}
use Rattle.model.specs.Parts.{empty_master}
use Rattle.machine_laws.specs.Views.{KeptView, OfMaster, OfTablet, PartView}

-- what they keep: an empty master, and an empty part in each slot
abbrev pub first_kept : ℕ → List KeptView
first_kept slots = OfMaster (empty_master slots) ∷ replicate slots (OfTablet (emptied 0))

-- the parts of an empty cluster with this count of slots, whatever their room
pub record IsStart {R : Type 0} (slots : ℕ) (parts : List (PartView R)) : Type 0 where
  pub kept : map (λ (p : PartView R). p.kept) parts ≡ first_kept slots
  pub logs : Every (λ (p : PartView R). p.log ≡ []) parts
