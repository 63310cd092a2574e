use Rattle.std.proofs.Common.{subst, sym, ◌∙◌}
use Rattle.std.specs.List.Sorted.{IsNonDecreasing}
use Rattle.std.proofs.lemmas.Result.{IfOk-weaker}
use Rattle.versions.proofs.Marks.{read_until}
use Rattle.versions.proofs.index.KeyEntry.read.Goals as goal

pub count_until-requires : goal.count_until-requires
count_until-requires c = subst IsNonDecreasing (sym c.requires.entry.stamps) (c.requires.rise c.args.key.now)

pub returns : goal.returns
returns c =
    let until = c.count_until.ensures in
    let key = c.args.key.now in
    IfOk-weaker c.row_after.result _ _ (λ row f. f key c.requires.entry ∙ read_until c.args.log.now key c.args.self.now c.args.x c.count_until.result c.requires.entry until.within until.point) c.row_after.ensures
