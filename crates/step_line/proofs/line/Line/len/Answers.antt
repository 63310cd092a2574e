use Rattle.std.proofs.Common.{◌∙◌, length, sym, ap, subst}
use Rattle.step_table.specs.Histories.{history_of, IsNumbered}
use Rattle.step_table.proofs.Histories.{history_length}
use Rattle.step_line.specs.Places.{means}
use Rattle.step_line.specs.Lines.{LineView}
use Rattle.step_line.proofs.line.Line.len.Goals as goal

pub returns : goal.returns
returns g c =
    let core = g.M.Machine.core in
    record {
      count = c.self.invariant.last ∙ sym (history_length core (means core.meaning c.self.inside.places.items)) ∙ ap (λ (v : LineView _). length (history_of core v.parts)) c.self.view_is;
      numbered = subst (λ (v : LineView _). IsNumbered 1 (history_of core v.parts)) c.self.view_is c.self.invariant.holds.numbered;
    }
