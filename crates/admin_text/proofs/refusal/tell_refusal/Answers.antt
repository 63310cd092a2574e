use Rattle.admin_text.proofs.refusal.tell_refusal.Goals as goal

pub returns-in-CrossTablet-clause-added : goal.returns-in-CrossTablet-clause-added
returns-in-CrossTablet-clause-added c = rw c.in-CrossTablet.is c.of_numbers-in-CrossTablet.ensures.added

pub returns-in-NotPending-clause-added : goal.returns-in-NotPending-clause-added
returns-in-NotPending-clause-added c = rw c.in-NotPending.is c.of_id-in-NotPending.ensures.added
