use Rattle.std.proofs.Common.{sym, ◌∙◌}
use Rattle.schedules.proofs.Listed.{after_none, after_some}
use Rattle.schedules.proofs.spaces.ScheduledNamespaces.after_in.Goals as goal

pub returns-in-Some : goal.returns-in-Some
returns-in-Some c = record {
  exact = c.after.ensures.exact
      ∙ sym (after_some c.args.self.now.scheduled c.args.namespace.now c.in-Some.scheduled (sym c.scheduled_in.ensures.exact ∙ c.in-Some.is));
}

pub returns-in-None : goal.returns-in-None
returns-in-None c = record {
  exact = sym (after_none c.args.self.now.scheduled c.args.namespace.now (sym c.scheduled_in.ensures.exact ∙ c.in-None.is));
}
