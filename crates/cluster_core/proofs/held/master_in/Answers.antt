use Rattle.std.proofs.Common.{ap, ◌∙◌, Option}
use Rattle.step_table.specs.Helds.{slots_of, parts_of}
use Rattle.machine_laws.specs.Laid.{master_of, master_in, kept_in}
use Rattle.cluster_core.specs.Held.{Part}
use Rattle.cluster_core.proofs.Laying.{held_at, kind_held, master_kind}
use Rattle.cluster_core.proofs.held.master_in.Goals as goal

pub master-requires : goal.master-requires
master-requires g c = record {
  master = master_kind c.part.result.now.kept (kind_held c.place_of-i.result (slots_of c.args.held.now) (parts_of c.args.held.now) 0 c.part.result.now c.requires.kinds c.place_of-i.ensures.place c.part.ensures.part);
}

pub returns : goal.returns
returns g c = record {
  master =
      ap (λ (p : Option Part). master_in (kept_in p)) (held_at c.place_of-i.result (slots_of c.args.held.now) (parts_of c.args.held.now) 0 c.part.result.now c.requires.rising c.place_of-i.ensures.place c.part.ensures.part)
      ∙ ap master_of c.master.ensures.master;
}
