use Rattle.script_words.proofs.Layouts.{laid_out, laid_is_read}
use Rattle.script_words.proofs.laws.words_are_those_that_are_laid_out.Goals as goal

pub returns-clause-read : goal.returns-clause-read
returns-clause-read c = laid_out

pub returns-clause-all : goal.returns-clause-all
returns-clause-all c = laid_is_read
