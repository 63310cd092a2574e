use Rattle.std.proofs.Common.{◌&&◌, List, map, ap, ◌∙◌}
use Rattle.std.specs.List.{filter}
use Rattle.std.proofs.lemmas.Result.{IfOk-weaker}
use Rattle.row_values.specs.Ids.{same}
use Rattle.model.specs.Activity.{Interval, active_between}
use Rattle.newest_index.proofs.Opens.{indexes-of}
use Rattle.kept_records.specs.Gathered.{present_of, kept_key}
use Rattle.catalog_tablets.specs.View.{TabletsView, table_of}
use Rattle.catalog_tablets.proofs.Active.{of_table}
use Rattle.catalog_tablets.proofs.tablets.Tablets.active_between.Goals as goal

pub returns : goal.returns
returns c =
    let e = c.as_slice.ensures.value in
    record {
      exact = IfOk-weaker c.select.result _ _
          (λ v found.
          let view = ap (λ (w : TabletsView). w.activity) c.self.view_is in
          found
          ∙ of_table _ c.keys_agree.ensures.laws c.keys_agree.ensures.same c.args.table.now (λ (i : Interval). active_between c.args.a c.args.b i)
          (present_of c.as_slice.result.now)
          ∙ ap (λ (is : List Interval). filter (λ (i : Interval). same i.table c.args.table.now && active_between c.args.a c.args.b i) is) (ap present_of e ∙ view))
          (c.select.ensures.all table_of (indexes-of _ _ (ap (map (kept_key table_of)) e) c.self.invariant.by_table));
    }
