use Rattle.script_lang.specs.Script.{script_of}
use Rattle.yb_script.proofs.Doing.{nothing_told}
use Rattle.yb_script.proofs.run.run_source.Goals as goal

pub returns-in-Err-NoMemory-clause-broken : goal.returns-in-Err-NoMemory-clause-broken
returns-in-Err-NoMemory-clause-broken g c = λ six.
    nothing_told c.args.slots (script_of c.args.slots) (g.S.Source.left c.args.source.now) _ _ (g.K.Sink.written c.args.sink.now) c.unbegun-in-Err-NoMemory.ensures.history c.unbegun-in-Err-NoMemory.ensures.done
