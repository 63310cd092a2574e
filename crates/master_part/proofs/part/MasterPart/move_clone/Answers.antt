use Rattle.std.proofs.Common.{◌≤◌, length, sym, ap, subst, ◌∙◌}
use Rattle.std.specs.List.{filter}
use Rattle.std.specs.Option.{option_copied}
use Rattle.row_values.specs.Ids.{Id, same}
use Rattle.model.specs.Records.{CloneRecord}
use Rattle.master_part.proofs.CloneMoves.{it_moves, found_once, goes_as}
use Rattle.master_part.proofs.part.MasterPart.move_clone.Goals as goal

pub enter_clone-requires : goal.enter_clone-requires
enter_clone-requires c =
    let there = sym c.moving_clone.ensures.exact ∙ ap option_copied c.in-Some.is in
    let m = c.args.self.now.master in
    record {
      once = subst (λ (i : Id). length (filter (λ (q : CloneRecord). same q.id i) m.clones) ≤ 1) (sym c.clone_id-id.ensures.exact)
          (found_once m c.args.operation.now c.in-Some.found.now c.requires.clone there);
    }

pub returns : goal.returns
returns c =
    let there = sym c.moving_clone.ensures.exact ∙ ap option_copied c.in-Some.is in
    let m = c.args.self.now.master in
    let r = c.in-Some.found.now in
    record {
      master = c.enter_clone.ensures.master
          ∙ goes_as c.args.state c.args.listed r c.args.stamp m c.clone_id-id.result c.args.operation.now (c.requires.may r there) there c.clone_id-id.ensures.exact
          ∙ sym (it_moves c.args.operation.now c.args.stamp m r c.requires.clone there);
    }
