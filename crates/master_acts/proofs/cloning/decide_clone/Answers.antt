use Rattle.std.proofs.Common.{sym, ap, subst, rules}
use Rattle.row_values.specs.Ids.{Id}
use Rattle.model.specs.Changes.{CloneSource}
use Rattle.master_acts.specs.Draws.{DrawsFew}
use Rattle.master_acts.proofs.Cloned.{draws_few, clone_fits}
use Rattle.master_acts.proofs.cloning.decide_clone.Goals as goal

pub new_clone-requires-clause-draws : goal.new_clone-requires-clause-draws
new_clone-requires-clause-draws c =
    let m = c.args.master.now.master in
    let to = c.clone_time-to.result in
    subst (λ (ns : Id). DrawsFew ns to m) (ap (λ (s : CloneSource). s.namespace) (sym c.found-2.view_is))
    (draws_few m c.args.source.now c.args.target.now to c.args.stamp c.in-Ok.found c.requires.lawful c.requires.later c.in-Ok.ensures.exact c.in_default.ensures.exact)

pub returns-clause-may : goal.returns-clause-may
returns-clause-may c =
    let m = c.args.master.now.master in
    let to = c.clone_time-to.result in
    let draws = subst (λ (ns : Id). DrawsFew ns to m) (ap (λ (s : CloneSource). s.namespace) (sym c.found-2.view_is))
    (draws_few m c.args.source.now c.args.target.now to c.args.stamp c.in-Ok.found c.requires.lawful c.requires.later c.in-Ok.ensures.exact c.in_default.ensures.exact) in
    (clone_fits m c.found-2.inside.namespace c.args.source.now c.args.target.now to c.in_ok-made.made c.requires.lawful draws c.in_ok-made.ensures.exact, search rules)
