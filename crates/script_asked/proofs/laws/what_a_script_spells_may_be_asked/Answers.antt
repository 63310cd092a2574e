use Rattle.script_asked.proofs.Lines.{script_asked}
use Rattle.script_asked.proofs.laws.what_a_script_spells_may_be_asked.Goals as goal

pub returns : goal.returns
returns c = record { asked = λ slots text lines is. script_asked slots text lines is }
