use Rattle.std.proofs.Common.{◌≡◌, drop}
use Rattle.std.specs.List.{list_all}
use Rattle.row_values.specs.declared.value.Item.{Item}
use Rattle.model.specs.RowActs.{covers}
use Rattle.tablet_part.proofs.part.TabletPart.covers_all.Given as goal

abbrev pub invariant-loop-item : goal.invariant-loop-item
invariant-loop-item g l = list_all (λ (item : Item). covers l.self.tablet item.key) (drop l.item-index l.item-items) ≡ list_all (λ (item : Item). covers l.self.tablet item.key) l.item-items
