use Rattle.master_moves.proofs.Restorings.{found_switches}
use Rattle.master_moves.proofs.restoring.decide_switch.Goals as goal

pub returns-clause-may : goal.returns-clause-may
returns-clause-may c =
    let a = c.args in
    let s = c.in_ok-switch in
    found_switches a.master.now.master a.operation.now a.restoration.now a.point a.serving.now s.switch c.requires.lawful c.requires.kind c.requires.found c.requires.switching
    s.ensures.tables s.ensures.active s.ensures.listed
