use Rattle.std.proofs.Common.{ap, ◌∙◌}
use Rattle.model.specs.Parts.{Master}
use Rattle.master_part.specs.Going.{cut_of}
use Rattle.master_part.proofs.Pruned.{prunes}
use Rattle.master_part.proofs.part.MasterPart.prune.Goals as goal

pub returns : goal.returns
returns c = record {
  master = c.tick.ensures.master
      ∙ ap (λ (p : Master). record p { clock = c.args.stamp }) c.prune_by.ensures.master
      ∙ prunes (cut_of c.args.cuts.now) c.args.stamp c.args.self.now.master c.requires.cuts;
}
