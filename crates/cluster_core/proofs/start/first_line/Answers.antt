use Rattle.std.proofs.Common.{map, ap, ◌∙◌}
use Rattle.cluster_core.specs.Tellings.{meaning}
use Rattle.cluster_core.proofs.Started.{first_legal, first_numbered}
use Rattle.cluster_core.proofs.start.first_line.Goals as goal

pub new-requires-clause-legal : goal.new-requires-clause-legal
new-requires-clause-legal g c = first_legal c.args.slots (map meaning c.from_vec.result) c.requires.few (ap (map meaning) c.from_vec.ensures.same ∙ c.in_ok-parts.ensures.exact)

pub new-requires-clause-numbered : goal.new-requires-clause-numbered
new-requires-clause-numbered g c = first_numbered c.args.slots (map meaning c.from_vec.result) (ap (map meaning) c.from_vec.ensures.same ∙ c.in_ok-parts.ensures.exact)
