use Rattle.cluster_core.proofs.Grown.{stands_past, facts_past}
use Rattle.cluster_core.proofs.cluster.Cluster.step.Goals as goal

pub returns-clause-right : goal.returns-clause-right
returns-clause-right g c = c.legal_is_right.ensures.right _ _ c.step_in.ensures.past.legal

pub returns-clause-stands : goal.returns-clause-stands
returns-clause-stands g c = stands_past _ _ _ c.legal_is_right.ensures.stands c.step_in.ensures.past

pub returns-clause-facts : goal.returns-clause-facts
returns-clause-facts g c = facts_past _ _ _ c.legal_is_right.ensures.facts c.step_in.ensures.past

pub returns-clause-cover : goal.returns-clause-cover
returns-clause-cover g c = c.legal_is_right.ensures.cover _ _ c.step_in.ensures.past.legal
