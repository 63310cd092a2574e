use Rattle.std.proofs.Common.{get_or, sym, ap, subst, ◌∙◌, arith}
use Rattle.row_values.specs.Elements.{In}
use Rattle.model.specs.Catalog.{Catalog, TableRecord, tables_at}
use Rattle.master_moves.specs.Switches.{GoesOn}
use Rattle.master_moves.proofs.Turning.{in_at, goes_on_then}
use Rattle.master_moves.proofs.switching.tables_back.Goals as goal

pub back_at-requires : goal.back_at-requires
back_at-requires c =
    let m = c.args.master.now.master in
    let xs = c.deref-table-items.result.now in
    let item = c.table-item.result in
    let i = c.loop-table.table-index in
    let same = c.catalog-catalog.ensures.catalog in
    let first : In (get_or xs i item) xs = in_at xs i item (omega (arith, c.loop-table-test.true)) in
    let inside : In item xs = subst (λ (x : TableRecord). In x xs) (sym c.table-item.is) first in
    let is = c.deref-table-items.ensures.value ∙ c.in_ok-tables.ensures.exact ∙ ap (λ (d : Catalog). tables_at d.tables c.args.namespace.now c.args.to) same in
    let then = goes_on_then m c.requires.lawful c.args.namespace.now c.args.to item (subst (In item) is inside) in
    record { goes_on = subst (λ (d : Catalog). GoesOn d.tables item) (sym same) then }
