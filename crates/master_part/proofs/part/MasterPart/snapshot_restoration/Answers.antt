use Rattle.std.proofs.Common.{◌≤◌, List, length, sym, ap, subst, ◌∙◌}
use Rattle.std.specs.List.{filter}
use Rattle.std.specs.Option.{option_copied}
use Rattle.row_values.specs.Ids.{Id, same}
use Rattle.model.specs.Parts.{Master}
use Rattle.model.specs.Records.{RestorationRecord}
use Rattle.master_part.proofs.RestorationMoves.{it_moves, found_once, snapshots_as}
use Rattle.master_part.proofs.part.MasterPart.snapshot_restoration.Goals as goal

pub plus_one-requires : goal.plus_one-requires
plus_one-requires c =
    let there = sym c.moving_restoration.ensures.exact ∙ ap option_copied c.in-Some.is in
    (c.requires.may c.in-Some.found.now there).before_end

pub begin_snapshot-requires-clause-few : goal.begin_snapshot-requires-clause-few
begin_snapshot-requires-clause-few c =
    let there = sym c.moving_restoration.ensures.exact ∙ ap option_copied c.in-Some.is in
    (c.requires.may c.in-Some.found.now there).few

pub enter_restoration-requires : goal.enter_restoration-requires
enter_restoration-requires c =
    let there = sym c.moving_restoration.ensures.exact ∙ ap option_copied c.in-Some.is in
    let m = c.args.self.now.master in
    let once = found_once m c.args.operation.now c.in-Some.found.now c.requires.restoration there in
    record {
      once = subst (λ (rs : List RestorationRecord). length (filter (λ (q : RestorationRecord). same q.id c.restoration_id-id.result) rs) ≤ 1)
          (sym (ap (λ (p : Master). p.restorations) c.begin_snapshot.ensures.master))
          (subst (λ (i : Id). length (filter (λ (q : RestorationRecord). same q.id i) m.restorations) ≤ 1) (sym c.restoration_id-id.ensures.exact) once);
    }

pub returns : goal.returns
returns c =
    let there = sym c.moving_restoration.ensures.exact ∙ ap option_copied c.in-Some.is in
    let m = c.args.self.now.master in
    let r = c.in-Some.found.now in
    record {
      master = c.enter_restoration.ensures.master
          ∙ snapshots_as c.args.made r c.args.stamp m c.begin_snapshot.new.self.master c.restoration_id-id.result
          c.restoration_namespace-namespace.result c.restoration_schedule-schedule.result c.snapshot_id.result c.plus_one.result c.new-listed.result
          (c.requires.may r there) c.begin_snapshot.ensures.master c.restoration_id-id.ensures.exact c.restoration_namespace-namespace.ensures.exact
          c.restoration_schedule-schedule.ensures.exact c.snapshot_id.ensures.exact c.plus_one.ensures.value c.new-listed.ensures.empty
          ∙ sym (it_moves c.args.operation.now c.args.stamp m r c.requires.restoration there);
    }
