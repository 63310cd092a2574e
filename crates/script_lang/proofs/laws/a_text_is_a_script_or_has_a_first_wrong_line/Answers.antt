use Rattle.script_lang.proofs.Scripts.{script_is, script_again, refusal_is, refusal_again}
use Rattle.script_lang.proofs.laws.a_text_is_a_script_or_has_a_first_wrong_line.Goals as goal

pub returns-clause-read : goal.returns-clause-read
returns-clause-read c = script_is

pub returns-clause-script : goal.returns-clause-script
returns-clause-script c = script_again

pub returns-clause-refused : goal.returns-clause-refused
returns-clause-refused c = refusal_is

pub returns-clause-wrong : goal.returns-clause-wrong
returns-clause-wrong c = refusal_again
