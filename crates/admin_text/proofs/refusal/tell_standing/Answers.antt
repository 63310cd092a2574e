use Rattle.std.proofs.Common.{◌++◌, codes}
use Rattle.row_values.specs.Ids.{Tablet}
use Rattle.model_runs.specs.Texts.{id_word, range_word, time_word}
use Rattle.tablet_inbox.specs.Seen.{id_or}
use Rattle.admin_words.proofs.Growing.{next, last}
use Rattle.admin_text.proofs.refusal.tell_standing.Goals as goal

pub returns-in_ok-tell_tablet-in-Serving-clause-added : goal.returns-in_ok-tell_tablet-in-Serving-clause-added
returns-in_ok-tell_tablet-in-Serving-clause-added c =
    let id = id_word (id_or Tablet c.in-Serving.tablet) in
    let s1 = next c.args.text.now (codes "serving") id _ _ c.in_ok-add-in-Serving.ensures.added c.in_ok-tell_tablet-in-Serving.ensures.added in
    rw c.in-Serving.is
    (last c.args.text.now (codes "serving" ++ id) (range_word c.in-Serving.low c.in-Serving.high) _ _ _ s1 c.range_word.ensures.added)

pub returns-in_ok-tell_tablet-in-Hidden-clause-added : goal.returns-in_ok-tell_tablet-in-Hidden-clause-added
returns-in_ok-tell_tablet-in-Hidden-clause-added c =
    let id = id_word (id_or Tablet c.in-Hidden.tablet) in
    let s1 = next c.args.text.now (codes "hidden") id _ _ c.in_ok-add-in-Hidden.ensures.added c.in_ok-tell_tablet-in-Hidden.ensures.added in
    rw c.in-Hidden.is
    (last c.args.text.now (codes "hidden" ++ id) (time_word c.in-Hidden.ended) _ _ _ s1 c.time_word.ensures.added)
