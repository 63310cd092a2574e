use Rattle.cluster_core.proofs.Started.{first_past, first_book, first_shown}
use Rattle.cluster_core.proofs.cluster.Cluster.new.Goals as goal

pub invariant_of-result : goal.invariant_of-result
invariant_of-result g c = first_past c.args.slots c.in_ok-line.line.parts c.in_ok-line.ensures.exact

pub returns-clause-empty : goal.returns-clause-empty
returns-clause-empty g c = first_book c.args.slots c.in_ok-line.line.parts c.in_ok-line.ensures.exact

pub returns-clause-parts : goal.returns-clause-parts
returns-clause-parts g c = first_shown c.args.slots c.in_ok-line.line.parts c.in_ok-line.ensures.exact
