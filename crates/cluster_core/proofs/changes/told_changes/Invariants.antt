use Rattle.std.proofs.Common.{◌≡◌, ◌++◌, ℕ, map, drop}
use Rattle.model.specs.Tablets.{Tablet}
use Rattle.master_part.specs.Decisions.{told_by}
use Rattle.tablet_acts.specs.Tellings.{told_of}
use Rattle.cluster_core.specs.Held.{laid}
use Rattle.cluster_core.specs.Plans.{AllSuit}
use Rattle.cluster_core.proofs.changes.told_changes.Given as goal

abbrev pub invariant-loop-change : goal.invariant-loop-change
invariant-loop-change g l = record {
  so_far : map told_of l.told.items ++ map (told_by (laid l.held).tablet) (drop l.change-index l.changes) ≡ map (told_by (laid l.held).tablet) l.changes;
  suits : (at : ℕ → Tablet) → AllSuit l.told.items l.stamp at;
}
