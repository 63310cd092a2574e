use Rattle.admin_text.proofs.refusal.tell_tablet.Goals as goal

pub returns-in-None-clause-added : goal.returns-in-None-clause-added
returns-in-None-clause-added c = rw c.in-None.is c.add.ensures.added
