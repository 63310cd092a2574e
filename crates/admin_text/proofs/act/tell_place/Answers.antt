use Rattle.std.proofs.Common.{◌++◌, codes}
use Rattle.model_runs.specs.Texts.{number_word, id_word, version_word}
use Rattle.admin_words.proofs.Growing.{next, last}
use Rattle.admin_text.proofs.act.tell_place.Goals as goal

pub returns-clause-added : goal.returns-clause-added
returns-clause-added c =
    let t1 = codes "write" ++ number_word c.args.slot in
    let s1 = next c.args.text.now t1 (id_word c.args.tablet) _ _ c.in_ok-of_number.ensures.added c.in_ok-id_word.ensures.added in
    last c.args.text.now (t1 ++ id_word c.args.tablet) (version_word c.args.version) _ _ _ s1 c.version_word.ensures.added
