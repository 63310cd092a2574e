use Rattle.std.proofs.Common.{sym}
use Rattle.yb_ident.specs.Seen.{kind_of}
use Rattle.script_places.proofs.IdentWords.{none_of_text}
use Rattle.script_places.proofs.identifiers.ident_of.Goals as goal

pub returns-in-Err : goal.returns-in-Err
returns-in-Err c = record { exact = sym (none_of_text (kind_of c.args.kind) c.args.word.now c.in-Err.ensures.cases.0) }
