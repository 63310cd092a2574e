use Rattle.std.proofs.Common.{ℕ, ◌≡◌, length, not, ap, ◌∙◌, arith}
use Rattle.std.specs.List.{filter}
use Rattle.row_values.specs.Ids.{Id}
use Rattle.model.specs.Catalog.{NamespaceRecord, TableRecord}
use Rattle.catalog_core.specs.Pruned.{space_goes, table_goes}
use Rattle.catalog_core.proofs.Leaving.{gone_and_left}
use Rattle.catalog_core.proofs.catalog.Catalog.prune.Goals as goal

pub overflow_sub-spaces_gone : goal.overflow_sub-spaces_gone
overflow_sub-spaces_gone g c =
    let items = c.self.inside.namespaces.items in
    let cut : Id → ℕ = λ ns. g.C.Cuts.cut c.args.cuts.now ns in
    let both = gone_and_left (space_goes cut) items in
    let left : length c.records.result.now ≡ length (filter (λ (r : NamespaceRecord). not (space_goes cut r)) items) = ap length (c.records.ensures ∙ c.keep.ensures.items) in
    let was : length c.records-spaces.result.now ≡ length items = ap length c.records-spaces.ensures in
    omega (arith, both, left, was)

pub overflow_sub-tables_gone : goal.overflow_sub-tables_gone
overflow_sub-tables_gone g c =
    let tables = c.self.inside.tables.items in
    let cut : Id → ℕ = λ ns. g.C.Cuts.cut c.args.cuts.now ns in
    let all = gone_and_left (table_goes cut) tables in
    let stay : length c.records-2.result.now ≡ length (filter (λ (r : TableRecord). not (table_goes cut r)) tables) = ap length (c.records-2.ensures ∙ c.keep-2.ensures.items) in
    let there : length c.records-tables.result.now ≡ length tables = ap length c.records-tables.ensures in
    omega (arith, all, stay, there)

pub returns-clause-count : goal.returns-clause-count
returns-clause-count g c =
    let items = c.self.inside.namespaces.items in
    let cut : Id → ℕ = λ ns. g.C.Cuts.cut c.args.cuts.now ns in
    let both = gone_and_left (space_goes cut) items in
    let left : length c.records.result.now ≡ length (filter (λ (r : NamespaceRecord). not (space_goes cut r)) items) = ap length (c.records.ensures ∙ c.keep.ensures.items) in
    let was : length c.records-spaces.result.now ≡ length items = ap length c.records-spaces.ensures in
    let tables = c.self.inside.tables.items in
    let all = gone_and_left (table_goes cut) tables in
    let stay : length c.records-2.result.now ≡ length (filter (λ (r : TableRecord). not (table_goes cut r)) tables) = ap length (c.records-2.ensures ∙ c.keep-2.ensures.items) in
    let there : length c.records-tables.result.now ≡ length tables = ap length c.records-tables.ensures in
    rw (← c.self.view_is) (omega (arith, both, left, was, all, stay, there))
