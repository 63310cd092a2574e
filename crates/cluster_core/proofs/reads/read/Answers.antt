use Rattle.std.proofs.Common.{sym, ap, ◌∙◌}
use Rattle.step_table.specs.Helds.{slots_of, parts_of}
use Rattle.cluster_events.specs.SeenReplies.{refusal_of}
use Rattle.machine_laws.specs.Laid.{lay}
use Rattle.tablet_acts.specs.Tellings.{outcome_of}
use Rattle.cluster_core.proofs.Reading.{read_refused}
use Rattle.cluster_core.proofs.reads.read.Goals as goal

pub returns-in-Some-clause-outcome : goal.returns-in-Some-clause-outcome
returns-in-Some-clause-outcome g c =
    let parts = lay (slots_of c.args.held.now) (parts_of c.args.held.now) in
    ap outcome_of c.answered.ensures.exact
    ∙ sym (read_refused c.args.places.now c.args.version c.args.key.now c.args.at.now c.args.columns.now c.args.stamp parts (refusal_of c.in-Some.why) (sym c.in-Some.ensures.exact))
