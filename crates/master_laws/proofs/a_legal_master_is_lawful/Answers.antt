-- By the invariants of what a legal history leaves, and its bound on identifiers.
use Rattle.master_laws.proofs.Lawful.{is_lawful}
use Rattle.master_laws.proofs.a_legal_master_is_lawful.Goals as goal

pub returns : goal.returns
returns c = record { lawful = λ slots history legal most. is_lawful slots history legal most }
