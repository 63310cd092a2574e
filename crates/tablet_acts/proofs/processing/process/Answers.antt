use Rattle.std.proofs.Common.{rules, ◌≡◌, Some, sym, subst, ◌∙◌}
use Rattle.std.specs.Prelude.{slice_get}
use Rattle.model.specs.Acts.{OtherSlot}
use Rattle.model.specs.Parts.{refused}
use Rattle.model.specs.Coordination.{source_slot}
use Rattle.tablet_acts.specs.Tellings.{outcome_of}
use Rattle.tablet_acts.proofs.OtherSlot.{other_slot}
use Rattle.tablet_acts.proofs.processing.process.Goals as goal

pub returns-then-other-wanted-clause-plan : goal.returns-then-other-wanted-clause-plan
returns-then-other-wanted-clause-plan g c n ps is same =
    let command = c.in-Some.command.now in
    let wanted = source_slot c.args.slot command.body in
    let first : slice_get c.args.part.now.tablet.inbox 0 ≡ Some command = search rules in
    let seen : c.source_slot-wanted.result ≡ wanted = search rules in
    let apart = subst (λ w. c.args.other ≡ w → ⊥) seen c.if-other-wanted.true in
    let told : outcome_of c.answered-then-other-wanted.result ≡ refused (OtherSlot wanted) = search rules in
    told ∙ sym (other_slot c.args.slot c.args.other n ps c.args.part.now.tablet command is first apart)
