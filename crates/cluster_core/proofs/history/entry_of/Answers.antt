use Rattle.std.proofs.Common.{◌∙◌, ◌<◌, length, sym, arith}
use Rattle.step_table.specs.Histories.{history_of}
use Rattle.step_line.proofs.Numbers.{in_logs_is}
use Rattle.machine_laws.specs.Core.{core_of}
use Rattle.cluster_core.specs.Coding.{coding}
use Rattle.cluster_core.proofs.Numbering.{none_beyond}
use Rattle.cluster_core.proofs.history.entry_of.Goals as goal

pub returns-then-len-number-clause-exact : goal.returns-then-len-number-clause-exact
returns-then-len-number-clause-exact g c =
    let history = history_of (core_of coding) c.args.line.now.parts in
    let lt : length history < c.args.number = omega (arith, c.if-len-number.true, c.len.ensures.count) in
    sym (none_beyond c.args.number history c.len.ensures.numbered lt)

pub returns-clause-exact : goal.returns-clause-exact
returns-clause-exact g c = c.entry_in_logs.ensures.exact ∙ in_logs_is (core_of coding) c.args.number c.args.line.now.parts c.len.ensures.numbered
