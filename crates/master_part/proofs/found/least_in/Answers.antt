use Rattle.std.proofs.Common.{◌≡◌, ◌-◌, ◌<◌, List, drop, length, suc, sym, ap, ◌∙◌, arith}
use Rattle.model.specs.Catalog.{TableRecord, by_id, current_tables}
use Rattle.model.specs.Changes.{first_table}
use Rattle.master_part.specs.Tables.{lesser_in}
use Rattle.master_part.proofs.Least.{least_next}
use Rattle.master_part.proofs.Ordering.{drop_at}
use Rattle.master_part.proofs.found.least_in.Goals as goal

pub tables-preserved : goal.tables-preserved
tables-preserved c =
    let ts = c.args.tables.now in
    let ns = c.args.namespace.now in
    let up = c.tables.upto in
    let t = c.index-tables-upto.result in
    let test = c.tables-test.true in
    let next : up ≡ suc (up - 1) = omega (arith, test) in
    let within : up - 1 < length ts = omega (arith, test, c.tables.invariant.within) in
    record {
      least = c.lesser_in-least.ensures.exact
          ∙ ap (lesser_in ns t) c.tables.invariant.least
          ∙ sym (least_next t (drop up ts) ns)
          ∙ ap (λ (xs : List TableRecord). first_table (by_id (current_tables xs ns))) (sym (drop_at ts (up - 1) up t next within c.index-tables-upto.is));
      within = omega (arith, c.tables.invariant.within);
    }
