use Rattle.script_lang.proofs.Lines.{command_is, command_again, command_not, command_refused}
use Rattle.script_lang.proofs.laws.what_spells_a_command_is_read_as_it.Goals as goal

pub returns-clause-read : goal.returns-clause-read
returns-clause-read c = command_is

pub returns-clause-spelled : goal.returns-clause-spelled
returns-clause-spelled c = command_again

pub returns-clause-refused : goal.returns-clause-refused
returns-clause-refused c = command_not

pub returns-clause-wrong : goal.returns-clause-wrong
returns-clause-wrong c = command_refused
