use Rattle.script_lang.proofs.Lines.{line_is, line_again, line_not, line_refused}
use Rattle.script_lang.proofs.laws.a_line_is_read_as_the_grammar_says.Goals as goal

pub returns-clause-read : goal.returns-clause-read
returns-clause-read c = line_is

pub returns-clause-line : goal.returns-clause-line
returns-clause-line c = line_again

pub returns-clause-refused : goal.returns-clause-refused
returns-clause-refused c = line_not

pub returns-clause-wrong : goal.returns-clause-wrong
returns-clause-wrong c = line_refused
