use Rattle.std.proofs.Common.{◌++◌, codes}
use Rattle.model_runs.specs.Texts.{number_word, time_word}
use Rattle.admin_words.proofs.Growing.{next, last}
use Rattle.admin_text.proofs.reply.tell_counts.Goals as goal

pub returns-clause-added : goal.returns-clause-added
returns-clause-added c =
    let t1 = codes "stats cutoff" ++ time_word c.args.cutoff ++ codes " versions" ++ number_word c.args.versions in
    let s1 = next c.args.text.now t1 (codes " frozen") _ _ c.in_ok-tell_versions.ensures.added c.in_ok-add.ensures.added in
    let t2 = t1 ++ codes " frozen" in
    let s2 = next c.args.text.now t2 (number_word c.args.frozen) _ _ s1 c.in_ok-number_word.ensures.added in
    let t3 = t2 ++ number_word c.args.frozen in
    let s3 = next c.args.text.now t3 (codes " inbox") _ _ s2 c.in_ok-add-2.ensures.added in
    last c.args.text.now (t3 ++ codes " inbox") (number_word c.args.inbox) _ _ _ s3 c.number_word-2.ensures.added
