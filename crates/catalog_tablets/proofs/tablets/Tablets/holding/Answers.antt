use Rattle.std.proofs.Common.{◌&&◌, List, map, sym, ap, ◌∙◌}
use Rattle.std.specs.List.{find, filter}
use Rattle.row_values.specs.Ids.{same}
use Rattle.row_values.specs.Ranges.{in_range}
use Rattle.model.specs.Times.{is_open}
use Rattle.model.specs.Activity.{Interval}
use Rattle.newest_index.proofs.Opens.{indexes-of}
use Rattle.kept_records.specs.Gathered.{present_of, kept_key}
use Rattle.catalog_tablets.specs.View.{TabletsView, table_of}
use Rattle.catalog_tablets.proofs.Active.{holds}
use Rattle.catalog_tablets.proofs.tablets.Tablets.holding.Goals as goal

pub returns : goal.returns
returns c =
    let e = c.as_slice.ensures.value in
    record {
      exact = λ m same_activity.
          let view = ap (λ (v : TabletsView). v.activity) c.self.view_is in
          c.gather.ensures.all table_of (indexes-of _ _ (ap (map (kept_key table_of)) e) c.self.invariant.by_table)
          ∙ holds _ c.keys_agree.ensures.laws c.keys_agree.ensures.same c.args.table.now c.args.code (present_of c.as_slice.result.now)
          ∙ ap (λ (is : List Interval). find (λ (i : Interval). in_range i.low i.high c.args.code)
          (filter (λ (i : Interval). is_open i.to && same i.table c.args.table.now) is))
          (ap present_of e ∙ view ∙ sym same_activity);
    }
