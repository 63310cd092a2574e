use Rattle.std.proofs.Common.{List, Some, map, sym, ap, ◌∙◌}
use Rattle.std.specs.Option.{option_map}
use Rattle.model.specs.Activity.{Interval}
use Rattle.model.specs.RowActs.{table_in}
use Rattle.newest_index.proofs.Opens.{indexes-of}
use Rattle.kept_records.specs.declared.records.Kept.{Kept}
use Rattle.kept_records.specs.Gathered.{present_of, kept_key}
use Rattle.catalog_tablets.specs.View.{table_of, slot_of}
use Rattle.catalog_tablets.proofs.Active.{earliest_is}
use Rattle.catalog_tablets.proofs.tablets.Tablets.table_in.Goals as goal

pub returns-in-Some : goal.returns-in-Some
returns-in-Some c =
    let e = c.as_slice.ensures.value in
    record {
      exact = rw (← c.self.view_is)
          (ap (λ (i : Interval). Some (table_of i)) c.interval.view_is
          ∙ ap (option_map table_of) (sym c.in-Some.is ∙ c.first.ensures.first slot_of (indexes-of _ _ (ap (map (kept_key slot_of)) e) c.self.invariant.by_slot))
          ∙ earliest_is _ c.keys_agree.ensures.slot_laws c.keys_agree.ensures.slots c.args.slot (present_of c.as_slice.result.now)
          ∙ ap (λ (ks : List (Kept Interval)). table_in (present_of ks) c.args.slot) e);
    }

pub returns-in-None : goal.returns-in-None
returns-in-None c =
    let e = c.as_slice.ensures.value in
    record {
      exact = rw (← c.self.view_is)
          (ap (option_map table_of) (sym c.in-None.is ∙ c.first.ensures.first slot_of (indexes-of _ _ (ap (map (kept_key slot_of)) e) c.self.invariant.by_slot))
          ∙ earliest_is _ c.keys_agree.ensures.slot_laws c.keys_agree.ensures.slots c.args.slot (present_of c.as_slice.result.now)
          ∙ ap (λ (ks : List (Kept Interval)). table_in (present_of ks) c.args.slot) e);
    }
