use Rattle.std.proofs.Common.{◌∙◌}
use Rattle.kept_records.specs.Gathered.{present_of}
use Rattle.kept_records.proofs.Looking.{gathered_first}
use Rattle.kept_records.proofs.looks.first.Goals as goal

pub returns : goal.returns
returns g c = record {
  first = λ key_of right.
      c.gather.ensures.all key_of right
      ∙ gathered_first (λ r. g.K.PartialEq.eq c.args.key.now (key_of r)) (present_of c.args.records.now);
}
