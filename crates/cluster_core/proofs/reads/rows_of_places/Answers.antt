use Rattle.std.proofs.Common.{◌≡◌, ◌-◌, ◌<◌, List, drop, length, suc, sym, ap, ◌∙◌, arith}
use Rattle.row_values.specs.declared.rows.KeyedRow.{KeyedRow}
use Rattle.row_values.specs.Elements.{in_order}
use Rattle.model.specs.Times.{time_of}
use Rattle.model.specs.Acts.{At}
use Rattle.model.specs.RowActs.{rows_of_places, rows_in}
use Rattle.cluster_core.specs.Reads.{tablets_in, comes_before, put_all}
use Rattle.cluster_core.proofs.Reading.{drop_from, ordered_behind}
use Rattle.cluster_core.proofs.reads.rows_of_places.Goals as goal

pub places-preserved : goal.places-preserved
places-preserved g c =
    let ps = c.args.places.now in
    let up = c.places.upto in
    let p = c.index-places-upto.result in
    let t = tablets_in c.args.held.now in
    let key = c.args.key.now in
    let x = time_of c.args.at.now c.args.stamp in
    let test = c.places-test.true in
    let next : up ≡ suc (up - 1) = omega (arith, test) in
    let within : up - 1 < length ps = omega (arith, test, c.places.invariant.within) in
    let rest = rows_of_places (drop up ps) key x t in
    record {
      rows = c.in_ok-add_rows.ensures.put
          ∙ ap (λ (more : List KeyedRow). put_all more c.places.rows) c.in_ok-more.ensures.rows
          ∙ ap (put_all (rows_in (t p.slot) key x)) c.places.invariant.rows
          ∙ sym (ordered_behind (rows_in (t p.slot) key x) rest)
          ∙ ap (λ (xs : List At). in_order comes_before (rows_of_places xs key x t)) (sym (drop_from ps (up - 1) up p next within c.index-places-upto.is));
      within = omega (arith, c.places.invariant.within);
    }
