use Rattle.std.proofs.Common.{◌≡◌, drop}
use Rattle.std.specs.List.{list_any}
use Rattle.row_values.specs.Ids.{same}
use Rattle.model.specs.Records.{CloneRecord}
use Rattle.clone_coord.proofs.list.place_of.Given as goal

abbrev pub invariant-loop-record : goal.invariant-loop-record
invariant-loop-record l = record {
  place : l.place ≡ l.record-index;
  none : list_any (λ (r : CloneRecord). same r.id l.id) (drop l.record-index l.records) ≡ list_any (λ (r : CloneRecord). same r.id l.id) l.records;
}
