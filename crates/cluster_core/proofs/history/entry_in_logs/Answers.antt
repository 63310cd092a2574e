use Rattle.std.proofs.Common.{◌+◌, ◌∙◌, drop, sym, ap}
use Rattle.std.specs.Prelude.{◌==◌}
use Rattle.std.specs.List.{find}
use Rattle.std.specs.Option.{option_or}
use Rattle.step_line.specs.Numbered.{in_logs}
use Rattle.machine_laws.specs.Core.{core_of}
use Rattle.cluster_core.specs.Coding.{coding}
use Rattle.cluster_core.specs.Tellings.{meaning}
use Rattle.cluster_core.proofs.Numbering.{found_here, first_is, other_is}
use Rattle.cluster_core.proofs.history.entry_in_logs.Goals as goal

pub returns-then-is_some : goal.returns-then-is_some
returns-then-is_some g c =
    let ps = c.args.line.now.parts in
    let n = c.args.number in
    let rest = in_logs (core_of coding) n (drop (c.loop-slot.slot + 1) ps) in
    record {
      exact =
          first_is c.entry_in-found.result rest (sym c.is_some.ensures ∙ c.if-is_some.true)
          ∙ ap (λ o. option_or o rest) (c.entry_in-found.ensures.exact ∙ ap (find (λ e. e.number == n)) c.entries.ensures.entries)
          ∙ sym (found_here (core_of coding) ps c.loop-slot.slot (meaning c.part.result.now) c.part.ensures.part n)
          ∙ c.loop-slot.invariant;
    }

pub loop-slot-preserved : goal.loop-slot-preserved
loop-slot-preserved g c =
    let ps = c.args.line.now.parts in
    let n = c.args.number in
    let rest = in_logs (core_of coding) n (drop (c.loop-slot.slot + 1) ps) in
    other_is c.entry_in-found.result rest (sym c.is_some.ensures ∙ c.if-is_some.false)
    ∙ ap (λ o. option_or o rest) (c.entry_in-found.ensures.exact ∙ ap (find (λ e. e.number == n)) c.entries.ensures.entries)
    ∙ sym (found_here (core_of coding) ps c.loop-slot.slot (meaning c.part.result.now) c.part.ensures.part n)
    ∙ c.loop-slot.invariant
