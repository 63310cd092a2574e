use Rattle.std.proofs.Common.{◌≤◌, length, sym, ap, subst, ◌∙◌}
use Rattle.std.specs.List.{filter}
use Rattle.std.specs.Option.{option_copied}
use Rattle.row_values.specs.Ids.{Id, same}
use Rattle.model.specs.Records.{RestorationRecord}
use Rattle.master_part.proofs.RestorationMoves.{it_moves, found_once, goes_as}
use Rattle.master_part.proofs.part.MasterPart.move_restoration.Goals as goal

pub enter_restoration-requires : goal.enter_restoration-requires
enter_restoration-requires c =
    let there = sym c.moving_restoration.ensures.exact ∙ ap option_copied c.in-Some.is in
    let m = c.args.self.now.master in
    record {
      once = subst (λ (i : Id). length (filter (λ (q : RestorationRecord). same q.id i) m.restorations) ≤ 1) (sym c.restoration_id-id.ensures.exact)
          (found_once m c.args.operation.now c.in-Some.found.now c.requires.restoration there);
    }

pub returns : goal.returns
returns c =
    let there = sym c.moving_restoration.ensures.exact ∙ ap option_copied c.in-Some.is in
    let m = c.args.self.now.master in
    let r = c.in-Some.found.now in
    record {
      master = c.enter_restoration.ensures.master
          ∙ goes_as c.args.state c.args.listed r c.args.stamp m c.restoration_id-id.result c.args.operation.now (c.requires.may r there) there c.restoration_id-id.ensures.exact
          ∙ sym (it_moves c.args.operation.now c.args.stamp m r c.requires.restoration there);
    }
