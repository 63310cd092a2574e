use Rattle.std.proofs.Common.{ℕ, ◌+◌, List, length, map, ap, ◌∙◌}
use Rattle.std.specs.Prelude.{filter}
use Rattle.model.specs.Catalog.{Catalog, NamespaceRecord, TableRecord}
use Rattle.model.specs.Tablets.{Told}
use Rattle.model.specs.Acts.{Pruned}
use Rattle.model.specs.Parts.{Outcome, Prunes}
use Rattle.catalog_core.specs.Pruned.{space_goes, table_goes}
use Rattle.master_part.specs.declared.cut.Cut.{Cut}
use Rattle.master_part.specs.declared.change.PartChange.{PartChange}
use Rattle.master_part.specs.Going.{cut_of}
use Rattle.master_part.specs.Decisions.{told_by}
use Rattle.master_cleanup.proofs.Pruned.{pruned_as, cuts_right}
use Rattle.master_cleanup.proofs.pruning.decide_prune.Goals as goal

pub returns-clause-plan : goal.returns-clause-plan
returns-clause-plan c ps same =
    let m = c.args.master.now.master in
    let cuts = c.in_ok-cuts.cuts in
    let spaces = c.count_namespaces-namespaces.result in
    let tables = c.count_tables-tables.result in
    let spaces_are =
    c.count_namespaces-namespaces.ensures.count
    ∙ ap (λ (cs : List Cut). length (filter (space_goes (cut_of cs)) c.namespaces.result.now)) c.as_slice.ensures.same
    ∙ ap (λ (rs : List NamespaceRecord). length (filter (space_goes (cut_of cuts)) rs))
    (c.namespaces.ensures.all ∙ ap (λ (k : Catalog). k.namespaces) c.catalog.ensures.catalog) in
    let tables_are =
    c.count_tables-tables.ensures.count
    ∙ ap (λ (cs : List Cut). length (filter (table_goes (cut_of cs)) c.tables.result.now)) c.as_slice-2.ensures.same
    ∙ ap (λ (rs : List TableRecord). length (filter (table_goes (cut_of cuts)) rs))
    (c.tables.ensures.all ∙ ap (λ (k : Catalog). k.tables) c.catalog-2.ensures.catalog) in
    ap (λ (cs : List PartChange). the_outcome (map (told_by ps.tablet) cs) (spaces + tables)) c.new.ensures.empty
    ∙ pruned_as ps m c.args.stamp cuts spaces tables same (cuts_right m c.args.stamp cuts c.in_ok-cuts.ensures.exact) spaces_are tables_are
  where
    the_outcome : List Told → ℕ → Outcome
    the_outcome tablets count = record { master = Prunes; tablets = tablets; reply = Pruned count }
