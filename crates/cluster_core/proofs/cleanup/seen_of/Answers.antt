use Rattle.std.proofs.Common.{sym, ◌∙◌}
use Rattle.cluster_core.proofs.Removing.{of_tablet}
use Rattle.cluster_core.proofs.cleanup.seen_of.Goals as goal

pub standing_in-requires-clause-tablet : goal.standing_in-requires-clause-tablet
standing_in-requires-clause-tablet g c =
    of_tablet c.args.master.now.master c.args.target.now c.in-Some.slot c.requires.lawful (sym c.removal_slot.ensures.exact ∙ c.in-Some.is)
