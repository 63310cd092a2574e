use Rattle.std.proofs.Common.{sym, subst}
use Rattle.model.specs.Scripts.{Numbered}
use Rattle.model_runs.specs.Courses.{ScriptAsked}
use Rattle.yb_script.proofs.performing.answer.Goals as goal

pub perform-requires : goal.perform-requires
perform-requires g c = record {
  asked = subst (λ (n : Numbered). ScriptAsked c.args.run.now.slots n.command) (sym c.parts_of-line.ensures.same) c.requires.asked;
}
