use Rattle.std.proofs.Common.{map}
use Rattle.step_table.proofs.Joined.{joins}
use Rattle.step_table.proofs.steps.glue.Goals as goal

pub join_seat-requires : goal.join_seat-requires
join_seat-requires g c = let v = c.requires.view in let t = c.requires.table in
    (t.0, t.1, v.3, t.2, joins g.M.Machine.core (map g.M.Machine.core.meaning c.args.top.now.key.value) c.args.seat.now.id c.args.other.id c.args.seat.now.me.0 c.args.other.me.0 v.0 v.1 v.2)
