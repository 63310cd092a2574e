use Rattle.std.proofs.Common.{◌++◌, codes}
use Rattle.row_values.specs.Ids.{id_text}
use Rattle.model_runs.specs.Texts.{word, number_word, time_word}
use Rattle.admin_words.proofs.Growing.{next, last}
use Rattle.admin_words.proofs.text.Text.schedule.Goals as goal

pub returns-clause-added : goal.returns-clause-added
returns-clause-added c =
    let t1 = id_text c.args.id ++ word c.args.namespace.now ++ codes " interval" ++ number_word c.args.interval ++ codes " retention" ++ number_word c.args.retention in
    let s1 = next c.args.self.now t1 (codes " low") _ _ c.in_ok-periods.ensures.added c.in_ok-add.ensures.added in
    last c.args.self.now (t1 ++ codes " low") (time_word c.args.low) _ _ _ s1 c.time_word.ensures.added
