use Rattle.std.proofs.Common.{◌≤◌, List, length, sym, ap, subst, ◌∙◌}
use Rattle.std.specs.List.{filter}
use Rattle.std.specs.Option.{option_copied}
use Rattle.row_values.specs.Ids.{Id, same}
use Rattle.model.specs.Parts.{Master}
use Rattle.model.specs.Records.{CloneRecord}
use Rattle.clone_coord.specs.Seen.{state_of}
use Rattle.master_part.proofs.CloneMoves.{it_moves, found_once, target_fits, shows_as}
use Rattle.master_part.proofs.part.MasterPart.show_clone.Goals as goal

pub show_target-requires : goal.show_target-requires
show_target-requires c =
    let there = sym c.moving_clone.ensures.exact ∙ ap option_copied c.in-Some.is in
    let r = c.in-Some.found.now in
    let room = sym c.begin_targets.ensures.room in
    record {
      namespace = subst (λ k. 1 ≤ k) room c.requires.namespace;
      tables = subst (λ k. length c.args.tables ≤ k) room c.requires.tables;
      target = target_fits c.args.name c.args.tables c.args.listed r c.args.stamp c.args.self.now.master c.begin_targets.new.self.master
          c.clone_target.result (c.requires.may r there) (c.begin_targets.ensures.master r there) c.clone_target.ensures.exact;
    }

pub enter_clone-requires : goal.enter_clone-requires
enter_clone-requires c =
    let there = sym c.moving_clone.ensures.exact ∙ ap option_copied c.in-Some.is in
    let r = c.in-Some.found.now in
    let m = c.args.self.now.master in
    let once = found_once m c.args.operation.now r c.requires.clone there in
    let kept = ap (λ (p : Master). p.clones) c.show_target.ensures.master ∙ ap (λ (p : Master). p.clones) (c.begin_targets.ensures.master r there) in
    record {
      once = subst (λ (rs : List CloneRecord). length (filter (λ (q : CloneRecord). same q.id c.clone_id-id.result) rs) ≤ 1)
          (sym kept)
          (subst (λ (i : Id). length (filter (λ (q : CloneRecord). same q.id i) m.clones) ≤ 1) (sym c.clone_id-id.ensures.exact) once);
    }

pub returns : goal.returns
returns c =
    let there = sym c.moving_clone.ensures.exact ∙ ap option_copied c.in-Some.is in
    let r = c.in-Some.found.now in
    let m = c.args.self.now.master in
    record {
      master = c.enter_clone.ensures.master
          ∙ shows_as c.args.name c.args.tables c.args.listed r c.args.stamp m c.begin_targets.new.self.master c.show_target.new.self.master
          c.clone_id-id.result c.clone_target.result (state_of c.after_copies-state.result) (c.requires.may r there) (c.begin_targets.ensures.master r there)
          c.show_target.ensures.master c.clone_id-id.ensures.exact c.clone_target.ensures.exact c.after_copies-state.ensures.exact
          ∙ sym (it_moves c.args.operation.now c.args.stamp m r c.requires.clone there);
    }
