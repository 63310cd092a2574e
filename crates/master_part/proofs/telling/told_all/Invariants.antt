use Rattle.std.proofs.Common.{ℕ, ◌≡◌, map, take}
use Rattle.model.specs.Tablets.{Tablet}
use Rattle.model.specs.Changes.{tell}
use Rattle.master_part.specs.Decisions.{act_by, told_by}
use Rattle.master_part.proofs.telling.told_all.Given as goal

abbrev pub invariant-loop-slot : goal.invariant-loop-slot
invariant-loop-slot l =
    (parts : ℕ → Tablet) → map (told_by parts) l.made ≡ tell (take l.slot-index l.slots) (act_by parts l.kind)
