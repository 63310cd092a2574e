use Rattle.std.proofs.Common.{◌&&◌, List, map, sym, ap, ◌∙◌}
use Rattle.std.specs.List.{filter}
use Rattle.std.proofs.lemmas.Result.{IfOk-weaker}
use Rattle.row_values.specs.Ids.{same}
use Rattle.model.specs.Times.{is_open}
use Rattle.model.specs.Activity.{Interval}
use Rattle.newest_index.proofs.Opens.{indexes-of}
use Rattle.kept_records.specs.Gathered.{present_of, kept_key}
use Rattle.catalog_tablets.specs.View.{TabletsView, table_of}
use Rattle.catalog_tablets.proofs.Active.{opens}
use Rattle.catalog_tablets.proofs.tablets.Tablets.active_in.Goals as goal

pub returns : goal.returns
returns c =
    let e = c.as_slice.ensures.value in
    record {
      exact = IfOk-weaker c.select.result _ _
          (λ v found m same_activity.
          let view = ap (λ (w : TabletsView). w.activity) c.self.view_is in
          found ∙ opens _ c.keys_agree.ensures.laws c.keys_agree.ensures.same c.args.table.now (present_of c.as_slice.result.now)
          ∙ ap (λ (is : List Interval). filter (λ (i : Interval). is_open i.to && same i.table c.args.table.now) is)
          (ap present_of e ∙ view ∙ sym same_activity))
          (c.select.ensures.all table_of (indexes-of _ _ (ap (map (kept_key table_of)) e) c.self.invariant.by_table));
    }
