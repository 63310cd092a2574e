use Rattle.std.proofs.Common.{rules, ◌∙◌, map, ap}
use Rattle.std.specs.Option.{option_copied}
use Rattle.cluster_core.proofs.Numbering.{none_read}
use Rattle.cluster_core.proofs.entries.no_entries.Goals as goal

pub returns : goal.returns
returns c = record { exact = ap (map option_copied) (c.in_ok-places.ensures.items_if_clones_equal (λ y same. search rules)) ∙ none_read c.args.count }
