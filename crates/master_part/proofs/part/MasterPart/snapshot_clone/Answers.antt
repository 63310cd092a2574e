use Rattle.std.proofs.Common.{◌≤◌, List, length, sym, ap, subst, ◌∙◌}
use Rattle.std.specs.List.{filter}
use Rattle.std.specs.Option.{option_copied}
use Rattle.row_values.specs.Ids.{Id, same}
use Rattle.model.specs.Parts.{Master}
use Rattle.model.specs.Records.{CloneRecord}
use Rattle.master_part.proofs.CloneMoves.{it_moves, found_once, made_is, snapshots_as}
use Rattle.master_part.proofs.part.MasterPart.snapshot_clone.Goals as goal

pub begin_snapshot-requires-clause-few : goal.begin_snapshot-requires-clause-few
begin_snapshot-requires-clause-few c =
    let there = sym c.moving_clone.ensures.exact ∙ ap option_copied c.in-Some.is in
    (c.requires.may c.in-Some.found.now there).few

pub begin_snapshot-requires-clause-made : goal.begin_snapshot-requires-clause-made
begin_snapshot-requires-clause-made c =
    let there = sym c.moving_clone.ensures.exact ∙ ap option_copied c.in-Some.is in
    let m = c.args.self.now.master in
    let r = c.in-Some.found.now in
    rw (c.clone_source-namespace.ensures.exact, c.snapshot_schedule-schedule.ensures.exact) (made_is c.args.made r c.args.stamp m (c.requires.may r there))

pub enter_clone-requires : goal.enter_clone-requires
enter_clone-requires c =
    let there = sym c.moving_clone.ensures.exact ∙ ap option_copied c.in-Some.is in
    let m = c.args.self.now.master in
    let once = found_once m c.args.operation.now c.in-Some.found.now c.requires.clone there in
    record {
      once = subst (λ (rs : List CloneRecord). length (filter (λ (q : CloneRecord). same q.id c.clone_id-id.result) rs) ≤ 1)
          (sym (ap (λ (p : Master). p.clones) c.begin_snapshot.ensures.master))
          (subst (λ (i : Id). length (filter (λ (q : CloneRecord). same q.id i) m.clones) ≤ 1) (sym c.clone_id-id.ensures.exact) once);
    }

pub returns : goal.returns
returns c =
    let there = sym c.moving_clone.ensures.exact ∙ ap option_copied c.in-Some.is in
    let m = c.args.self.now.master in
    let r = c.in-Some.found.now in
    record {
      master = c.enter_clone.ensures.master
          ∙ snapshots_as c.args.made r c.args.stamp m c.begin_snapshot.new.self.master c.clone_id-id.result
          c.clone_source-namespace.result c.snapshot_schedule-schedule.result c.snapshot_id.result c.new-listed.result
          (c.requires.may r there) c.begin_snapshot.ensures.master c.clone_id-id.ensures.exact c.clone_source-namespace.ensures.exact
          c.snapshot_schedule-schedule.ensures.exact c.snapshot_id.ensures.exact c.new-listed.ensures.empty
          ∙ sym (it_moves c.args.operation.now c.args.stamp m r c.requires.clone there);
    }
