use Rattle.std.proofs.Common.{◌++◌, codes}
use Rattle.row_values.specs.Ids.{id_text}
use Rattle.model_runs.specs.Texts.{word, number_word}
use Rattle.admin_words.proofs.Growing.{next, last}
use Rattle.admin_words.proofs.text.Text.periods.Goals as goal

pub returns-clause-added : goal.returns-clause-added
returns-clause-added c =
    let named = rw c.as_slice.ensures.same at c.in_ok-word.ensures.added in
    let t1 = id_text c.args.id in
    let s1 = next c.args.self.now t1 (word c.args.namespace.now) _ _ c.in_ok-id.ensures.added named in
    let t2 = t1 ++ word c.args.namespace.now in
    let s2 = next c.args.self.now t2 (codes " interval") _ _ s1 c.in_ok-add.ensures.added in
    let t3 = t2 ++ codes " interval" in
    let s3 = next c.args.self.now t3 (number_word c.args.interval) _ _ s2 c.in_ok-number_word.ensures.added in
    let t4 = t3 ++ number_word c.args.interval in
    let s4 = next c.args.self.now t4 (codes " retention") _ _ s3 c.in_ok-add-2.ensures.added in
    last c.args.self.now (t4 ++ codes " retention") (number_word c.args.retention) _ _ _ s4 c.number_word-2.ensures.added
