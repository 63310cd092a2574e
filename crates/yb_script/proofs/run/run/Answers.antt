use Rattle.std.proofs.Common.{[]}
use Rattle.yb_script.specs.Called.{slot_count}
use Rattle.yb_script.proofs.Counting.{few_slots}
use Rattle.yb_script.proofs.run.run.Goals as goal

pub returns-in_default-clause-right : goal.returns-in_default-clause-right
returns-in_default-clause-right g c =
    rw c.unbegun.ensures.history (c.what_is_legal_is_right.ensures.right (slot_count c.args.words.now) [] (few_slots c.args.words.now) tt)
