-- Why a try performed no event.
use Rattle.std.specs.Prelude.{◌≡◌, ◌<◌, [], ◌∷◌, ◌++◌}
use Rattle.step_table.specs.declared.refused.TryRefused.{TryRefused}
use Rattle.step_table.specs.declared.refused.TryRefused.TheVariants.{Taken, Step}
use Rattle.step_table.specs.Lists.{In}
use Rattle.step_table.specs.Machines.{Core}
use Rattle.step_table.specs.Passes.{PassView, Refuses}
use Rattle.step_table.specs.Seats.{Declined}
use Rattle.step_table.specs.declared.known.Known.{Known}

module _ {P E R F : Type 0} where
  -- a taken lock is the last finding and the one that this call added; else the findings stay
  abbrev pub FoundBy : PassView P E R → PassView P E R → TryRefused F → Type 0
  FoundBy v w (Taken slot) = w.findings ≡ v.findings ++ slot ∷ []
  FoundBy v w (Step refused) = w.findings ≡ v.findings

  -- a pass with all shares finds no lock taken
  abbrev pub OthersShare : PassView P E R → TryRefused F → Type 0
  OthersShare v (Taken slot) = v.shares < 4096
  OthersShare v (Step refused) = Unit {0}

module _ {P E D R F : Type 0} (c : Core P E D R F) where
  -- the lock is one of a slot that the event touches
  abbrev pub TouchedBy : E → TryRefused F → Type 0
  TouchedBy e (Taken slot) = In slot (c.touches e)
  TouchedBy e (Step refused) = Unit {0}

  abbrev pub TryRefuses : E → PassView P E R → TryRefused F → Type 0
  TryRefuses e w (Taken slot) = Unit {0}
  TryRefuses e w (Step refused) = Refuses c e refused w

  -- the same of a seat, for each cause
  abbrev pub TryDeclined : E → Known P E R → Known P E R → TryRefused F → Type 0
  TryDeclined e v w (Taken slot) = (w.findings ≡ v.findings ++ slot ∷ []) × (v.shares < 4096) × In slot (c.touches e) × (w.seen ≡ v.seen) × (w.mine ≡ v.mine)
  TryDeclined e v w (Step refused) = Declined c e refused v w × (w.findings ≡ v.findings)
