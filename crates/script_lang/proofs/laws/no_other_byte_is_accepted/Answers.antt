use Rattle.script_lang.proofs.Scripts.{text_is}
use Rattle.script_lang.proofs.laws.no_other_byte_is_accepted.Goals as goal

pub returns : goal.returns
returns c = record { bytes = text_is }
