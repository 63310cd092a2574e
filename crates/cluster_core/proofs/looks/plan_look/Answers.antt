use Rattle.std.proofs.Common.{refl, sym, ap, subst, ◌∙◌}
use Rattle.step_table.specs.Helds.{slots_of}
use Rattle.model.specs.Acts.{Look}
use Rattle.model.specs.Parts.{Master, Outcome}
use Rattle.model.specs.History as book
use Rattle.commands.specs.Seen.{ask_of}
use Rattle.master_part.specs.Acts.{IsLawful}
use Rattle.cluster_core.specs.Plans.{ComesTo}
use Rattle.cluster_core.proofs.OneTablet.{touched_rise, touched}
use Rattle.cluster_core.proofs.looks.plan_look.Goals as goal

pub master_in-requires : goal.master_in-requires
master_in-requires g c =
    let act = Look (ask_of c.args.ask.now) in
    let ks = slots_of c.args.held.now in
    record {
      there = touched act ks 0 c.requires.may.slots refl;
      rising = touched_rise act ks c.requires.may.slots;
      kinds = c.requires.may.kinds;
    }

pub answer_to-requires : goal.answer_to-requires
answer_to-requires g c = record {
  lawful = subst IsLawful c.master_in.ensures.master c.requires.may.lawful;
}

pub returns : goal.returns
returns g c =
    let n = c.args.stamp in
    let same = sym c.in_ok-reply.ensures.plan ∙ ap (λ (m : Master). book.look (ask_of c.args.ask.now) n m) (sym c.master_in.ensures.master) in
    record {
      plan = subst (λ (o : Outcome). ComesTo o n c.args.held.now c.answered.result) same (c.answered.ensures.plan n c.args.held.now);
    }
