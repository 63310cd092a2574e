use Rattle.std.proofs.Common.{map}
use Rattle.step_table.proofs.Joined.{splits}
use Rattle.step_table.proofs.steps.cut.Goals as goal

pub split_seat-requires : goal.split_seat-requires
split_seat-requires g c = (c.requires.0, c.requires.1, splits g.M.Machine.core (map g.M.Machine.core.meaning c.args.top.now.key.value) c.args.seat.now.id c.args.seat.now.me.0 c.requires.2)
