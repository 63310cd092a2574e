use Rattle.std.proofs.Common.{◌≡◌, ◌≤◌, ◌++◌, drop, length}
use Rattle.model.specs.Restored.{cloned_activity}
use Rattle.master_part.proofs.cloning.begin_all.Given as goal

abbrev pub invariant-loop-pair : goal.invariant-loop-pair
invariant-loop-pair l = record {
  room : length (drop l.pair-index l.pairs) ≤ l.activity.room;
  begun : l.activity.activity ++ cloned_activity l.at (drop l.pair-index l.pairs) ≡ l.fn.activity.activity ++ cloned_activity l.at l.pairs;
}
