use Rattle.std.proofs.Common.{◌≡◌, Some, sym, ap, ◌∙◌}
use Rattle.model.specs.Coordination.{unfinished_restoration}
use Rattle.model.specs.Restored.{tables_back}
use Rattle.catalog_core.specs.Kept.{ends_in}
use Rattle.master_part.proofs.Switches.{switches, only_switching, brings, it_switches}
use Rattle.master_part.proofs.part.MasterPart.switch_unfinished.Goals as goal

pub switch_at-requires-clause-past : goal.switch_at-requires-clause-past
switch_at-requires-clause-past c =
    let m = c.args.self.now.master in
    let r = c.in-Some.found.now in
    let found : unfinished_restoration m.restorations c.args.operation.now ≡ Some r = rw (← c.self.view_is) (sym c.in-Some.ensures.exact) in
    let it = switches c.args.operation.now c.args.switch m r c.restoration_state.result c.restoration_state.ensures.exact found c.requires.fits in
    let b = brings c.args.operation.now c.args.switch m r c.restoration_state.result c.in-Switching.point c.in-Switching.serving it c.in-Switching.is in
    ap (λ ns. ends_in ns c.in-Switching.point m.catalog.tables) c.restoration_namespace-namespace.ensures.exact ∙ b.past

pub switch_at-requires-clause-home : goal.switch_at-requires-clause-home
switch_at-requires-clause-home c =
    let m = c.args.self.now.master in
    let r = c.in-Some.found.now in
    let found : unfinished_restoration m.restorations c.args.operation.now ≡ Some r = rw (← c.self.view_is) (sym c.in-Some.ensures.exact) in
    let it = switches c.args.operation.now c.args.switch m r c.restoration_state.result c.restoration_state.ensures.exact found c.requires.fits in
    let b = brings c.args.operation.now c.args.switch m r c.restoration_state.result c.in-Switching.point c.in-Switching.serving it c.in-Switching.is in
    b.home

pub switch_at-requires-clause-back : goal.switch_at-requires-clause-back
switch_at-requires-clause-back c =
    let m = c.args.self.now.master in
    let r = c.in-Some.found.now in
    let found : unfinished_restoration m.restorations c.args.operation.now ≡ Some r = rw (← c.self.view_is) (sym c.in-Some.ensures.exact) in
    let it = switches c.args.operation.now c.args.switch m r c.restoration_state.result c.restoration_state.ensures.exact found c.requires.fits in
    let b = brings c.args.operation.now c.args.switch m r c.restoration_state.result c.in-Switching.point c.in-Switching.serving it c.in-Switching.is in
    (r.to, sym b.tables ∙ ap (λ ns. tables_back m.catalog.tables ns r.to c.in-Switching.point) (sym c.restoration_namespace-namespace.ensures.exact))

pub unreachable-requires : goal.unreachable-requires
unreachable-requires c =
    let m = c.args.self.now.master in
    let r = c.in-Some.found.now in
    let found : unfinished_restoration m.restorations c.args.operation.now ≡ Some r = rw (← c.self.view_is) (sym c.in-Some.ensures.exact) in
    let it = switches c.args.operation.now c.args.switch m r c.restoration_state.result c.restoration_state.ensures.exact found c.requires.fits in
    only_switching c.args.operation.now c.args.switch m r c.restoration_state.result it c.in_default-restoration_state.not-Switching

pub returns : goal.returns
returns c =
    let m = c.args.self.now.master in
    let r = c.in-Some.found.now in
    let found : unfinished_restoration m.restorations c.args.operation.now ≡ Some r = rw (← c.self.view_is) (sym c.in-Some.ensures.exact) in
    let it = switches c.args.operation.now c.args.switch m r c.restoration_state.result c.restoration_state.ensures.exact found c.requires.fits in
    let b = brings c.args.operation.now c.args.switch m r c.restoration_state.result c.in-Switching.point c.in-Switching.serving it c.in-Switching.is in
    let e = it_switches c.args.operation.now c.args.switch m r c.restoration_state.result c.in-Switching.point c.in-Switching.serving c.args.stamp it c.in-Switching.is in
    record { master = c.switch_at.ensures.master r it.id_is (sym c.restoration_namespace-namespace.ensures.exact) b ∙ sym e }
