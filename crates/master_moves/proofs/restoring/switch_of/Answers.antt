use Rattle.std.proofs.Common.{ℕ, List, map, sym, ap, ap₂, ◌∙◌}
use Rattle.row_values.specs.Ids.{Id}
use Rattle.model.specs.Catalog.{TableRecord}
use Rattle.model.specs.Restored.{concerned, restored_tables, switch_list}
use Rattle.master_moves.specs.Switches.{line_with}
use Rattle.master_moves.proofs.Turning.{switch_is}
use Rattle.master_moves.proofs.restoring.switch_of.Goals as goal

pub returns-clause-listed : goal.returns-clause-listed
returns-clause-listed c =
    let m = c.args.master.now.master in
    let point = c.args.point in
    let serving = c.args.serving.now in
    let ns = c.restoration_namespace-namespace.result in
    let to = c.restoration_time-to.result in
    let back = c.as_slice-back.ensures.same ∙ c.in_ok-tables.ensures.exact in
    let listed = c.in_ok-listed.ensures.exact
    ∙ ap (λ (ts : List TableRecord). map (line_with to point serving ts) (concerned m.catalog.owners m.activity ns to)) back
    ∙ switch_is m c.requires.lawful ns to point serving in
    ap₂ (λ (ns : Id) (to : ℕ). switch_list m.catalog.owners m.activity ns to point serving (restored_tables m.catalog.tables ns to point))
    (sym c.restoration_namespace-namespace.ensures.exact) (sym c.restoration_time-to.ensures.exact)
    ∙ sym listed
