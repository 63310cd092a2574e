use Rattle.std.proofs.Common.{arith}
use Rattle.script_lang.proofs.Outcomes.{is_script, is_refused, is_accepted, is_told}
use Rattle.script_lang.proofs.script.read_script.Goals as goal

pub returns-clause-script : goal.returns-clause-script
returns-clause-script c = is_script c.args.slots c.args.bytes.now c.read_lines.result (omega arith) c.read_lines.ensures.exact

pub returns-clause-refused : goal.returns-clause-refused
returns-clause-refused c = is_refused c.args.slots c.args.bytes.now c.read_lines.result (omega arith) c.read_lines.ensures.exact

pub returns-clause-accepted : goal.returns-clause-accepted
returns-clause-accepted c = is_accepted c.args.slots c.args.bytes.now c.read_lines.result (omega arith) c.read_lines.ensures.exact

pub returns-clause-told : goal.returns-clause-told
returns-clause-told c = is_told c.args.slots c.args.bytes.now c.read_lines.result (omega arith) c.read_lines.ensures.exact
