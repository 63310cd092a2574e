use Rattle.std.proofs.Common.{◌≡◌, ◌++◌, take, flat_map}
use Rattle.admin_words.proofs.text.Text.each.Given as goal

abbrev pub invariant-loop-item : goal.invariant-loop-item
invariant-loop-item g l =
    l.self ≡ l.initial.self ++ flat_map (λ item. l.gap ++ g.T.Told.told item) (take l.item-index l.items)
