use Rattle.std.proofs.Common.{sym, subst}
use Rattle.row_values.specs.Elements.{AllOf}
use Rattle.model.specs.Scripts.{Numbered}
use Rattle.model_runs.specs.Courses.{ScriptAsked}
use Rattle.script_asked.specs.Numbered.{numbered_of}
use Rattle.script_lang.specs.Script.{script_of}
use Rattle.yb_script.proofs.Doing.{nothing_done}
use Rattle.yb_script.proofs.run.run_script.Goals as goal

pub returns-in_default-clause-broken : goal.returns-in_default-clause-broken
returns-in_default-clause-broken g c = λ six. nothing_done c.args.slots (script_of c.args.slots c.args.bytes.now) _ _ (g.K.Sink.written c.args.sink.now) c.unbegun.ensures.history c.unbegun.ensures.done

pub run_commands-requires-clause-asked : goal.run_commands-requires-clause-asked
run_commands-requires-clause-asked g c = subst (λ slots. AllOf (λ (n : Numbered). ScriptAsked slots n.command) (numbered_of c.in-Ok.script.lines)) (sym c.in-Ok-begin.ensures.slots) (c.what_a_script_spells_may_be_asked.ensures.asked c.args.slots c.args.bytes.now c.in-Ok.script.lines c.in-Ok.ensures.script)

pub returns-in-Err-NoMemory-clause-broken : goal.returns-in-Err-NoMemory-clause-broken
returns-in-Err-NoMemory-clause-broken g c = λ six.
    nothing_done c.args.slots (script_of c.args.slots c.args.bytes.now) _ _ (g.K.Sink.written c.args.sink.now) c.unbegun-in-Err-NoMemory.ensures.history c.unbegun-in-Err-NoMemory.ensures.done
