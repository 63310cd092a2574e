use Rattle.std.proofs.Common.{◌≡◌, ◌<◌, ◌∙◌, subst, sym}
use Rattle.step_table.specs.Lists.{Every, Rising}
use Rattle.step_table.proofs.Performs.{announces_all, performed_later, ok_then}
use Rattle.step_table.proofs.perform.perform_as.Goals as goal

pub take_all-requires-clause-slots : goal.take_all-requires-clause-slots
take_all-requires-clause-slots g c =
    let core = g.M.Machine.core in
    let laws = g.met.M.Machine.lawful in
    let e = c.args.event in
    let n = c.args.top.now.table_id.slots in
    let is : c.as_slice.result.now ≡ core.touches e = c.as_slice.ensures.same ∙ c.in-Some.ensures.slots in (
      subst (Every (λ k. k < n)) (sym is) (laws.below n e c.requires.event.1),
      subst Rising (sym is) (laws.rising n e c.requires.event.1),
      announces_all core g.N.Announced.event e c.as_slice.result.now c.requires.event.0 is,
    )

pub returns-clause-ok : goal.returns-clause-ok
returns-clause-ok g c =
    let core = g.M.Machine.core in
    ok_then _ _ c.finish.result (λ r p. performed_later core c.args.event r c.args.seat.now.me.0 _ _ c.take_all.ensures.alike p) c.finish.ensures.ok
