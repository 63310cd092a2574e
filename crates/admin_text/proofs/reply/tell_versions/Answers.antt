use Rattle.std.proofs.Common.{◌++◌, codes}
use Rattle.model_runs.specs.Texts.{number_word, time_word}
use Rattle.admin_words.proofs.Growing.{next, last}
use Rattle.admin_text.proofs.reply.tell_versions.Goals as goal

pub returns-clause-added : goal.returns-clause-added
returns-clause-added c =
    let t1 = codes "stats cutoff" ++ time_word c.args.cutoff in
    let s1 = next c.args.text.now t1 (codes " versions") _ _ c.in_ok-of_time.ensures.added c.in_ok-add.ensures.added in
    last c.args.text.now (t1 ++ codes " versions") (number_word c.args.versions) _ _ _ s1 c.number_word.ensures.added
