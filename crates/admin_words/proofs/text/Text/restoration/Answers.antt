use Rattle.std.proofs.Common.{◌++◌, codes}
use Rattle.row_values.specs.Ids.{id_text}
use Rattle.model_runs.specs.Texts.{word, id_word, time_word, point_word, state_text}
use Rattle.cluster_events.specs.SeenStates.{state_of}
use Rattle.admin_words.proofs.Growing.{next, last}
use Rattle.admin_words.proofs.text.Text.restoration.Goals as goal

pub returns-clause-added : goal.returns-clause-added
returns-clause-added c =
    let t1 = id_text c.args.id ++ id_word c.args.schedule ++ word (state_text (state_of c.args.state)) in
    let s1 = next c.args.self.now t1 (codes " to") _ _ c.in_ok-record.ensures.added c.in_ok-add.ensures.added in
    let t2 = t1 ++ codes " to" in
    let s2 = next c.args.self.now t2 (time_word c.args.to) _ _ s1 c.in_ok-time_word.ensures.added in
    let t3 = t2 ++ time_word c.args.to in
    let s3 = next c.args.self.now t3 (codes " at") _ _ s2 c.in_ok-add-2.ensures.added in
    last c.args.self.now (t3 ++ codes " at") (point_word c.args.point) _ _ _ s3 c.point_word.ensures.added
