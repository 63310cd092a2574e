use Rattle.std.proofs.Common.{◌≡◌, ◌-◌, ◌<◌, ◌≤◌, map, length, sym, ap, subst, ◌∙◌, arith, inr, slice_get}
use Rattle.std.specs.Option.{option_map}
use Rattle.row_values.specs.Stamps as rule
use Rattle.step_table.specs.Helds.{parts_of}
use Rattle.model.specs.Entries.{touches}
use Rattle.model.specs.Times.{end_of_time}
use Rattle.machine_laws.specs.Laid.{told_acts}
use Rattle.machine_laws.specs.Core.{stamp_at, outcome_at, answer_at}
use Rattle.machine_laws.proofs.Slots.{touched_some}
use Rattle.cluster_core.specs.Tellings.{clock_in, meaning}
use Rattle.cluster_core.specs.Readies.{AllCan}
use Rattle.cluster_core.specs.Causes.{fault_told}
use Rattle.cluster_core.proofs.Firsts.{some_held, stamp_meant, clock_fault, full_fault, no_fault_is, stamp_later, later_kept}
use Rattle.cluster_core.proofs.prepare.prepare_event.Goals as goal

pub part-first-requires : goal.part-first-requires
part-first-requires g c =
    let some = touched_some (length c.requires.fits.parts - 1) c.args.event.now.act c.requires.fits.may.1.act in
    record { within = some_held c.args.held.now (touches c.args.event.now.act) c.requires.slots some }

pub returns-in_default-clause-refused : goal.returns-in_default-clause-refused
returns-in_default-clause-refused g c =
    let ps = parts_of c.args.held.now in
    let e = c.args.event.now in
    let is = stamp_meant e ps c.requires.fits.kinds c.requires.fits.size in
    inr (ap (option_map fault_told) (clock_fault (stamp_at (map meaning ps) e) (touches e.act) (map meaning ps) (subst (λ n. end_of_time ≤ n) (ap (rule.stamp_of 0 (map clock_in ps)) c.reading.ensures.reading ∙ is) c.in_default.ensures.stamp)))

pub returns-then-len-ge1000000-clause-refused : goal.returns-then-len-ge1000000-clause-refused
returns-then-len-ge1000000-clause-refused g c =
    let ps = parts_of c.args.held.now in
    let e = c.args.event.now in
    let is = stamp_meant e ps c.requires.fits.kinds c.requires.fits.size in
    let stamp : c.in-Ok.stamp ≡ stamp_at (map meaning ps) e = c.in-Ok.ensures.stamp ∙ ap (rule.stamp_of 0 (map clock_in ps)) c.reading.ensures.reading ∙ is in
    let count = c.len.ensures.count in
    let many = c.if-len-ge1000000.true in
    inr (ap (option_map fault_told) (full_fault (stamp_at (map meaning ps) e) (touches e.act) c.slot-slot.result ps c.part-first.result.now (subst (λ n. n < end_of_time) stamp c.in-Ok.ensures.below) (ap (λ ks. slice_get ks 0) (sym c.requires.slots) ∙ c.slot-slot.ensures.slot) c.part-first.ensures.part (omega arith)))

pub planned-requires-clause-stamp : goal.planned-requires-clause-stamp
planned-requires-clause-stamp g c =
    c.in-Ok.ensures.stamp ∙ ap (rule.stamp_of 0 (map clock_in (parts_of c.args.held.now))) c.reading.ensures.reading ∙ stamp_meant c.args.event.now (parts_of c.args.held.now) c.requires.fits.kinds c.requires.fits.size

pub planned-requires-clause-later : goal.planned-requires-clause-later
planned-requires-clause-later g c = stamp_later (parts_of c.args.held.now) c.reading.result c.in-Ok.stamp c.in-Ok.ensures.stamp

pub planned-requires-clause-begun : goal.planned-requires-clause-begun
planned-requires-clause-begun g c = let is = c.in-Ok.ensures.stamp in omega arith

pub returns-clause-accepted : goal.returns-clause-accepted
returns-clause-accepted g c =
    let ps = parts_of c.args.held.now in
    let e = c.args.event.now in
    let is = stamp_meant e ps c.requires.fits.kinds c.requires.fits.size in
    let stamp : c.in-Ok.stamp ≡ stamp_at (map meaning ps) e = c.in-Ok.ensures.stamp ∙ ap (rule.stamp_of 0 (map clock_in ps)) c.reading.ensures.reading ∙ is in
    let count = c.len.ensures.count in
    let few = c.if-len-ge1000000.false in
    ap (option_map fault_told) (no_fault_is (stamp_at (map meaning ps) e) (touches e.act) ps c.part-first.result.now (subst (λ n. n < end_of_time) stamp c.in-Ok.ensures.below) c.part-first.ensures.part (omega arith))

pub returns-clause-ready : goal.returns-clause-ready
returns-clause-ready g c =
    let ps = parts_of c.args.held.now in
    let e = c.args.event.now in
    let r = c.in-Ok-planned.ready in
    let same : map meaning (parts_of c.prepare_all.new.held) ≡ map meaning ps = c.prepare_all.ensures.same ∙ c.make_room.ensures.same in
    let event : r.event ≡ e = c.in-Ok-planned.ensures.event in
    let is = stamp_meant e ps c.requires.fits.kinds c.requires.fits.size in
    let stamped : r.answer.stamp ≡ rule.stamp_of 0 (map clock_in ps) e.reading = ap (λ a. a.stamp) c.in-Ok-planned.ensures.answer ∙ sym is in
    record {
      acts = subst (λ n. AllCan r.acts n (parts_of c.prepare_all.new.held)) c.stamp.ensures.stamp (subst (λ xs. AllCan xs c.stamp.result (parts_of c.prepare_all.new.held)) c.acts.ensures.acts c.in-Ok-prepare_all.ensures.can);
      later = later_kept ps (parts_of c.prepare_all.new.held) r.answer.stamp same (stamp_later ps e.reading r.answer.stamp stamped);
      room = c.prepare_all.ensures.first c.in-Ok-make_room.ensures.room;
      told = c.in-Ok-planned.ensures.told ∙ ap (λ x. told_acts (outcome_at (map meaning ps) x) (touches x.act)) (sym event) ∙ ap (λ qs. told_acts (outcome_at qs r.event) (touches r.event.act)) (sym same);
      answer = c.in-Ok-planned.ensures.answer ∙ ap (answer_at (map meaning ps)) (sym event) ∙ ap (λ qs. answer_at qs r.event) (sym same);
    }
