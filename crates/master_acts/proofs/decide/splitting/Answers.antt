use Rattle.std.proofs.Common.{arith}
use Rattle.master_acts.proofs.Allowed.{few_tablets}
use Rattle.master_acts.proofs.decide.splitting.Goals as goal

pub tablet_id-low-requires-clause-few : goal.tablet_id-low-requires-clause-few
tablet_id-low-requires-clause-few c =
    rw c.drawn_tablets-drawn.ensures.exact (few_tablets c.args.master.now.master 1 c.requires.lawful (omega arith))

pub tablet_id-high-requires-clause-few : goal.tablet_id-high-requires-clause-few
tablet_id-high-requires-clause-few c =
    rw c.drawn_tablets-drawn.ensures.exact (few_tablets c.args.master.now.master 2 c.requires.lawful (omega arith))

pub split_changes-requires-clause-tablets : goal.split_changes-requires-clause-tablets
split_changes-requires-clause-tablets c =
    rw c.drawn_tablets-drawn.ensures.exact (few_tablets c.args.master.now.master 2 c.requires.lawful (omega arith))
