use Rattle.catalog_core.proofs.Back.{back_begins}
use Rattle.catalog_core.proofs.tables.Tables.restore.Goals as goal

pub add_all-requires-clause-begin : goal.add_all-requires-clause-begin
add_all-requires-clause-begin c =
    let b = c.requires.back in
    let t = c.follow_in_turn.ensures in
    rw (c.end_in.ensures.items, b.1) (back_begins c.keys_agree.ensures.equal c.args.self.now.items c.args.namespace.now b.0 c.args.point t.names t.ids c.requires.home c.requires.past)
