use Rattle.std.proofs.Common.{[], ◌∷◌, ◌++◌, ap, ◌∙◌}
use Rattle.model.specs.Catalog.{TableRecord, current_named, current_table, end_table}
use Rattle.catalog_core.proofs.Found.{clears_all}
use Rattle.catalog_core.proofs.Replaced.{ended_past, ended_fresh, ended_free}
use Rattle.catalog_core.proofs.tables.Tables.replace.Goals as goal

pub add-requires-clause-past : goal.add-requires-clause-past
add-requires-clause-past c =
    let rs = c.args.self.now.items in
    let e = c.end.ensures.items ∙ ap (λ (t : TableRecord). end_table t.id t.from rs) c.table.view_is in
    rw (e) (clears_all (end_table c.args.table.id c.args.table.from rs) c.args.table (ended_past rs c.args.table.id c.args.table.from c.requires.past))

pub add-requires-clause-free : goal.add-requires-clause-free
add-requires-clause-free c =
    let k = c.keys_agree.ensures in
    let rs = c.args.self.now.items in
    let e = c.end.ensures.items ∙ ap (λ (t : TableRecord). end_table t.id t.from rs) c.table.view_is in
    ap (λ ts. current_named ts c.args.table.namespace c.args.table.name) e
    ∙ ended_free _ k.laws k.idents k.equal rs c.args.table.id c.args.table.namespace c.args.table.name c.args.table.from
    c.follow_in_turn.ensures.names c.requires.free

pub add-requires-clause-fresh : goal.add-requires-clause-fresh
add-requires-clause-fresh c =
    let rs = c.args.self.now.items in
    let e = c.end.ensures.items ∙ ap (λ (t : TableRecord). end_table t.id t.from rs) c.table.view_is in
    ap (λ ts. current_table ts c.args.table.id) e ∙ ended_fresh rs c.args.table.id c.args.table.from

pub returns-clause-items : goal.returns-clause-items
returns-clause-items c =
    let rs = c.args.self.now.items in
    let e = c.end.ensures.items ∙ ap (λ (t : TableRecord). end_table t.id t.from rs) c.table.view_is in
    c.add.ensures.items ∙ ap (λ ts. ts ++ c.args.table ∷ []) e
