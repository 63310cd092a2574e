use Rattle.std.proofs.Common.{◌≤◌, ◌+◌, sym, subst, ◌∙◌, arith}
use Rattle.model.specs.Records.{ScheduledNamespace}
use Rattle.model.specs.Schedules.{complete_to}
use Rattle.master_cleanup.proofs.Raising.{complete_over, complete_before}
use Rattle.master_cleanup.proofs.cutoffs.allowed_cutoff.Goals as goal

pub allowed_cutoff-requires : goal.allowed_cutoff-requires
allowed_cutoff-requires c =
    let m = c.args.master.now.master in
    let found = complete_over m c.args.slot c.in-Some.scheduled c.requires.lawful (sym c.scheduled_at.ensures.exact ∙ c.in-Some.is) in
    let over = subst (λ (k : ScheduledNamespace). complete_to k + 1 ≤ m.clock) (sym c.scheduled.view_is) found in
    let before = c.requires.later in
    let within = c.stamp.invariant in
    let stamp = c.stamp.view_is in
    record { taken = complete_before c.scheduled.inside.complete c.scheduled.inside.since c.args.stamp (omega (arith, over, before)) (omega (arith, within, stamp)) }
