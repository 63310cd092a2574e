use Rattle.std.proofs.Common.{◌≡◌, ◌<◌, ◌∙◌, subst, sym}
use Rattle.step_table.specs.Lists.{Every, Rising}
use Rattle.step_table.proofs.Performs.{announces_all, performed_later}
use Rattle.step_table.proofs.perform.try_perform_as.Goals as goal

pub try_all-requires-clause-slots : goal.try_all-requires-clause-slots
try_all-requires-clause-slots g c =
    let core = g.M.Machine.core in
    let laws = g.met.M.Machine.lawful in
    let e = c.args.event in
    let n = c.args.top.now.table_id.slots in
    let is : c.as_slice.result.now ≡ core.touches e = c.as_slice.ensures.same ∙ c.in-Some.ensures.slots in (
      subst (Every (λ k. k < n)) (sym is) (laws.below n e c.requires.event.1),
      subst Rising (sym is) (laws.rising n e c.requires.event.1),
      announces_all core g.N.Announced.event e c.as_slice.result.now c.requires.event.0 is,
    )

pub returns-in-Ok-clause-ok : goal.returns-in-Ok-clause-ok
returns-in-Ok-clause-ok g c =
    performed_later g.M.Machine.core c.args.event c.in-Ok.reply c.args.seat.now.me.0 _ _ c.try_all.ensures.alike c.in-Ok.ensures.ok
