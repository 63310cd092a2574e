use Rattle.std.proofs.Common.{◌<◌, ◌^◌, map, sym, subst, arith}
use Rattle.step_table.specs.Machines.{logged}
use Rattle.step_table.proofs.Laws.{logged_below}
use Rattle.step_line.proofs.line.Line.new.Goals as goal

pub count_entries-last-requires : goal.count_entries-last-requires
count_entries-last-requires g c =
    let core = g.M.Machine.core in
    let few : logged core (map core.meaning c.args.parts) < 2 ^ 62 = (let b = logged_below core g.met.M.Machine.lawful (map core.meaning c.args.parts) c.requires.legal in omega arith) in
    record { bound = subst (λ ps. logged core (map core.meaning ps) < 2 ^ 62) (sym c.as_slice.ensures.same) few }
