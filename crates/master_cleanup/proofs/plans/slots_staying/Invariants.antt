use Rattle.std.proofs.Common.{◌≡◌, ◌≤◌, drop, length, not}
use Rattle.std.specs.List.{list_any}
use Rattle.row_values.specs.Ids.{same}
use Rattle.model.specs.Acts.{Removal}
use Rattle.model.specs.Cleanup.{slots_where}
use Rattle.master_cleanup.proofs.plans.slots_staying.Given as goal

abbrev pub invariant-listed : goal.invariant-listed
invariant-listed l = record {
  slots : l.slots
      ≡ slots_where (λ tablet. not (list_any (λ (t : Removal). same t.target tablet) l.gone)) l.master.master
      (drop l.upto l.listed);
  within : l.upto ≤ length l.listed;
}

abbrev pub decreases-listed : goal.decreases-listed
decreases-listed l = l.upto
