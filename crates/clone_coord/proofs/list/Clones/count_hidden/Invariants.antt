use Rattle.std.proofs.Common.{◌≡◌, ◌+◌, ◌≤◌, drop, length, not}
use Rattle.std.specs.List.{filter}
use Rattle.model.specs.Records.{CloneRecord, is_visible}
use Rattle.clone_coord.proofs.list.Clones.count_hidden.Given as goal

abbrev pub invariant-loop-record : goal.invariant-loop-record
invariant-loop-record l = record {
  count : l.count + length (filter (λ (r : CloneRecord). not (is_visible r.state)) (drop l.record-index l.self.clones))
      ≡ length (filter (λ (r : CloneRecord). not (is_visible r.state)) l.self.clones);
  within : l.count ≤ l.record-index;
}
