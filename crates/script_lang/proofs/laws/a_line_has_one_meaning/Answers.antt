use Rattle.script_lang.proofs.Lines.{one_meaning, never_both, one_cause}
use Rattle.script_lang.proofs.laws.a_line_has_one_meaning.Goals as goal

pub returns-clause-one : goal.returns-clause-one
returns-clause-one c = one_meaning

pub returns-clause-never_both : goal.returns-clause-never_both
returns-clause-never_both c = never_both

pub returns-clause-one_cause : goal.returns-clause-one_cause
returns-clause-one_cause c = one_cause
