use Rattle.std.proofs.Common.{ap, ◌∙◌, Option}
use Rattle.step_table.specs.Helds.{slots_of, parts_of}
use Rattle.machine_laws.specs.Laid.{tablet_of, tablet_in, kept_in}
use Rattle.cluster_core.specs.Held.{Part}
use Rattle.cluster_core.proofs.Laying.{held_at, kind_held, tablet_kind}
use Rattle.cluster_core.proofs.held.tablet_in.Goals as goal

pub tablet-requires : goal.tablet-requires
tablet-requires g c = record {
  tablet = tablet_kind c.args.slot c.part.result.now.kept c.requires.tablet (kind_held c.place_of-i.result (slots_of c.args.held.now) (parts_of c.args.held.now) c.args.slot c.part.result.now c.requires.kinds c.place_of-i.ensures.place c.part.ensures.part);
}

pub returns : goal.returns
returns g c = record {
  tablet =
      ap (λ (p : Option Part). tablet_in (kept_in p)) (held_at c.place_of-i.result (slots_of c.args.held.now) (parts_of c.args.held.now) c.args.slot c.part.result.now c.requires.rising c.place_of-i.ensures.place c.part.ensures.part)
      ∙ ap tablet_of c.tablet.ensures.tablet;
}
