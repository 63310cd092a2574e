-- Slots of what stays.
use Rattle.std.specs.Prelude.{ℕ, Bool, List, not, if◌then◌else◌}
use Rattle.std.specs.List.{list_any}
use Rattle.row_values.specs.Ids.{same}
use Rattle.row_values.specs.Slots.{put_slot}
use Rattle.model.specs.Records.{SnapshotRecord}
use Rattle.model.specs.Acts.{Removal}
use Rattle.model.specs.Parts.{Master}
use Rattle.model.specs.Cleanup.{slots_where}

-- the slots with one more put in its place, if it is to be
abbrev pub put_if : Bool → ℕ → List ℕ → List ℕ
put_if stays slot slots = if stays then put_slot slot slots else slots

-- the removal of a snapshot once these tablets went
abbrev pub snapshot_removal : Master → List Removal → SnapshotRecord → Removal
snapshot_removal m gone r = record {
  target = r.id;
  slots = slots_where (λ tablet. not (list_any (λ t. same t.target tablet) gone)) m r.listed;
}
