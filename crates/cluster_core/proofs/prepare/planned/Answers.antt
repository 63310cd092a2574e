use Rattle.std.proofs.Common.{◌≡◌, ◌-◌, map, length, sym, ap, subst, refl, ◌∙◌}
use Rattle.std.proofs.lemmas.List.{length-map}
use Rattle.step_table.specs.Helds.{slots_of, parts_of}
use Rattle.model.specs.Parts.{Outcome}
use Rattle.model.specs.Entries.{touches, ActAsked}
use Rattle.model.specs.History.{outcome}
use Rattle.machine_laws.specs.Laid.{told_acts, lay}
use Rattle.machine_laws.specs.Core.{outcome_at}
use Rattle.cluster_events.specs.SeenReplies.{reply_of}
use Rattle.cluster_core.specs.Tellings.{part_act, meaning}
use Rattle.cluster_core.specs.Plans.{outcome_of}
use Rattle.cluster_core.specs.Readies.{AllFit}
use Rattle.cluster_core.proofs.Firsts.{outcome_meant, kinds_held}
use Rattle.cluster_core.proofs.OneTablet.{touched_rise}
use Rattle.cluster_core.proofs.Lawful.{held_lawful}
use Rattle.cluster_core.proofs.Due.{held_due}
use Rattle.cluster_core.proofs.Telling.{all_book, all_fit, lined}
use Rattle.cluster_core.proofs.prepare.planned.Goals as goal

pub plan-requires : goal.plan-requires
plan-requires g c = record {
  may = record {
    slots = c.requires.slots ∙ ap touches (sym c.act.ensures.act);
    kinds = kinds_held c.args.event.now (slots_of c.args.held.now) (parts_of c.args.held.now) c.requires.slots c.requires.fits.kinds;
    later = c.requires.later;
    begun = c.requires.begun;
    before_end = c.requires.before_end;
    count = length c.requires.fits.parts - 1;
    lawful = held_lawful c.args.event.now (slots_of c.args.held.now) (parts_of c.args.held.now) c.requires.slots c.requires.fits;
    due = held_due c.args.event.now (slots_of c.args.held.now) (parts_of c.args.held.now) c.args.stamp c.requires.slots c.requires.fits c.requires.begun c.requires.later;
    asked = subst (ActAsked (length c.requires.fits.parts - 1)) (sym c.act.ensures.act) c.requires.fits.may.1.act;
  };
}

pub line_up-requires : goal.line_up-requires
line_up-requires g c = record { rising = touched_rise c.args.event.now.act (slots_of c.args.held.now) c.requires.slots }

pub returns-clause-told : goal.returns-clause-told
returns-clause-told g c =
    let ps = parts_of c.args.held.now in
    let ks = slots_of c.args.held.now in
    let e = c.args.event.now in
    let p = c.in_ok-plan.plan in
    let is = outcome_meant e ks ps c.args.stamp (outcome_of p) c.requires.slots c.requires.stamp (c.in_ok-plan.ensures.plan.outcome ∙ ap (λ a. outcome a c.args.stamp (lay ks ps)) c.act.ensures.act) in
    let lines = c.in_ok-acts.ensures.told ∙ lined p c.into_parts-master.result.0 c.into_parts-master.result.1.items ks c.into_parts-master.ensures.master c.into_parts-master.ensures.tablets in
    ap (map part_act) lines ∙ all_book p ks ∙ ap (λ o. told_acts o ks) is ∙ ap (told_acts (outcome_at (map meaning ps) e)) c.requires.slots

pub returns-clause-answer : goal.returns-clause-answer
returns-clause-answer g c =
    let ps = parts_of c.args.held.now in
    let ks = slots_of c.args.held.now in
    let e = c.args.event.now in
    let p = c.in_ok-plan.plan in
    let is = outcome_meant e ks ps c.args.stamp (outcome_of p) c.requires.slots c.requires.stamp (c.in_ok-plan.ensures.plan.outcome ∙ ap (λ a. outcome a c.args.stamp (lay ks ps)) c.act.ensures.act) in
    let replied : reply_of c.into_parts-master.result.2 ≡ (outcome_at (map meaning ps) e).reply = c.into_parts-master.ensures.reply ∙ ap (λ (o : Outcome). o.reply) is in
    ap (λ r. record { stamp = c.args.stamp; reply = r }) replied ∙ ap (λ n. record { stamp = n; reply = (outcome_at (map meaning ps) e).reply }) c.requires.stamp

pub returns-clause-fit : goal.returns-clause-fit
returns-clause-fit g c =
    let ps = parts_of c.args.held.now in
    let ks = slots_of c.args.held.now in
    let e = c.args.event.now in
    let p = c.in_ok-plan.plan in
    let lines = c.in_ok-acts.ensures.told ∙ lined p c.into_parts-master.result.0 c.into_parts-master.result.1.items ks c.into_parts-master.ensures.master c.into_parts-master.ensures.tablets in
    let len : length ps ≡ length ks = sym (length-map ps meaning) ∙ c.requires.fits.size ∙ sym (ap length c.requires.slots) in
    subst (λ acts. AllFit acts c.args.stamp ps) (sym lines)
    (all_fit p.master p.tablets c.args.stamp (lay ks ps).master (lay ks ps).tablet c.in_ok-plan.ensures.plan.may c.in_ok-plan.ensures.plan.suits ks ps (λ h. refl) (λ k h. refl) (touched_rise e.act ks c.requires.slots) len (kinds_held e ks ps c.requires.slots c.requires.fits.kinds))
