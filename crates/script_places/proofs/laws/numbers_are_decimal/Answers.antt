use Rattle.script_places.proofs.Decimals.{is_decimal, decimal_is}
use Rattle.script_places.proofs.laws.numbers_are_decimal.Goals as goal

pub returns-clause-read : goal.returns-clause-read
returns-clause-read c = is_decimal

pub returns-clause-all : goal.returns-clause-all
returns-clause-all c = decimal_is
