use Rattle.std.proofs.Common.{◌≡◌, ◌+◌, suc, length, map, sym, ap, subst, ◌∙◌, arith, Some, None, ◌⊎◌}
use Rattle.std.proofs.lemmas.List.{length-map}
use Rattle.step_table.specs.Lists.{pick, put, fst, Every}
use Rattle.step_table.specs.Helds.{slots_of, parts_of}
use Rattle.step_table.specs.Machines.{touched, logged}
use Rattle.step_line.specs.Places.{means, without, IsThere}
use Rattle.step_line.proofs.Stepping.{are_there, are_few, are_within, last_few, held_means, may_fit, same_are_back, same_back, next_are_back, stepped}
use Rattle.step_line.proofs.steps.perform_in.Goals as goal

pub take_out-requires-clause-there : goal.take_out-requires-clause-there
take_out-requires-clause-there g c =
    let core = g.M.Machine.core in
    let laws = g.met.M.Machine.lawful in
    let places = c.args.places.now.items in
    let e = c.args.event in
    let whole = c.requires.whole in
    let may = c.requires.event in
    let slots_is : c.as_slice-2.result.now ≡ core.touches e = c.as_slice-2.ensures.same ∙ c.in-Ok.ensures.slots in
    subst (λ ks. Every (IsThere places) ks) (sym slots_is) (are_there core laws places e whole may)

pub of-held-requires : goal.of-held-requires
of-held-requires g c =
    let core = g.M.Machine.core in
    let laws = g.met.M.Machine.lawful in
    let places = c.args.places.now.items in
    let e = c.args.event in
    let may = c.requires.event in
    let holds = c.requires.holds in
    let slots_is : c.as_slice-2.result.now ≡ core.touches e = c.as_slice-2.ensures.same ∙ c.in-Ok.ensures.slots in
    let few = are_few core laws places e holds.legal may in
    let count : length c.take_out.new.held.items ≡ length (core.touches e) = sym (length-map c.take_out.new.held.items fst) ∙ ap length (c.take_out.ensures.slots ∙ slots_is) in
    record { few = omega arith }

pub prepare-requires-clause-fits : goal.prepare-requires-clause-fits
prepare-requires-clause-fits g c =
    let core = g.M.Machine.core in
    let laws = g.met.M.Machine.lawful in
    let places = c.args.places.now.items in
    let e = c.args.event in
    let whole = c.requires.whole in
    let may = c.requires.event in
    let holds = c.requires.holds in
    let slots_is : c.as_slice-2.result.now ≡ core.touches e = c.as_slice-2.ensures.same ∙ c.in-Ok.ensures.slots in
    let held_is : map core.meaning (parts_of c.of-held.result) ≡ touched core (means core.meaning places) e = ap (λ h. map core.meaning (parts_of h)) c.of-held.ensures.same ∙ held_means core laws places e (parts_of c.take_out.new.held.items) whole may (c.take_out.ensures.parts ∙ ap (λ ks. pick ks places) slots_is) in
    subst (λ ps. core.Fits ps e) (sym held_is) (may_fit core laws places e holds.legal may)

pub give_back-requires : goal.give_back-requires
give_back-requires g c =
    let core = g.M.Machine.core in
    let laws = g.met.M.Machine.lawful in
    let places = c.args.places.now.items in
    let e = c.args.event in
    let whole = c.requires.whole in
    let may = c.requires.event in
    let slots_is : c.as_slice-2.result.now ≡ core.touches e = c.as_slice-2.ensures.same ∙ c.in-Ok.ensures.slots in
    let out : c.take_out.new.places.items ≡ without (core.touches e) places = c.take_out.ensures.places ∙ ap (λ ks. without ks places) slots_is in
    let held_slots : slots_of c.of-held.result ≡ core.touches e = ap slots_of c.of-held.ensures.same ∙ c.take_out.ensures.slots ∙ slots_is in
    let ready_slots : slots_of c.prepare.new.held ≡ core.touches e = c.prepare.ensures.slots ∙ held_slots in
    let back_slots : slots_of c.into_items.result.items ≡ core.touches e = ap slots_of c.into_items.ensures.same ∙ ready_slots in
    record { within = are_within core laws places e (slots_of c.into_items.result.items) c.take_out.new.places.items whole may back_slots out }

pub returns-in-Err-clause-whole : goal.returns-in-Err-clause-whole
returns-in-Err-clause-whole g c =
    let core = g.M.Machine.core in
    let laws = g.met.M.Machine.lawful in
    let places = c.args.places.now.items in
    let e = c.args.event in
    let whole = c.requires.whole in
    let may = c.requires.event in
    let slots_is : c.as_slice-2.result.now ≡ core.touches e = c.as_slice-2.ensures.same ∙ c.in-Ok.ensures.slots in
    let held_is : map core.meaning (parts_of c.of-held.result) ≡ touched core (means core.meaning places) e = ap (λ h. map core.meaning (parts_of h)) c.of-held.ensures.same ∙ held_means core laws places e (parts_of c.take_out.new.held.items) whole may (c.take_out.ensures.parts ∙ ap (λ ks. pick ks places) slots_is) in
    let out : c.take_out.new.places.items ≡ without (core.touches e) places = c.take_out.ensures.places ∙ ap (λ ks. without ks places) slots_is in
    let held_slots : slots_of c.of-held.result ≡ core.touches e = ap slots_of c.of-held.ensures.same ∙ c.take_out.ensures.slots ∙ slots_is in
    let ready_is : map core.meaning (parts_of c.prepare.new.held) ≡ touched core (means core.meaning places) e = c.prepare.ensures.meaning ∙ held_is in
    let ready_slots : slots_of c.prepare.new.held ≡ core.touches e = c.prepare.ensures.slots ∙ held_slots in
    let back_slots : slots_of c.into_items.result.items ≡ core.touches e = ap slots_of c.into_items.ensures.same ∙ ready_slots in
    let back = same_are_back core laws places e (slots_of c.into_items.result.items) (parts_of c.into_items.result.items) c.give_back.new.places.items whole may back_slots (ap (λ h. map core.meaning (parts_of h)) c.into_items.ensures.same ∙ ready_is) (c.give_back.ensures.places ∙ ap (λ ps. put (slots_of c.into_items.result.items) (map Some (parts_of c.into_items.result.items)) ps) out) in
    back.whole

pub returns-in-Err-clause-kept : goal.returns-in-Err-clause-kept
returns-in-Err-clause-kept g c =
    let core = g.M.Machine.core in
    let laws = g.met.M.Machine.lawful in
    let places = c.args.places.now.items in
    let e = c.args.event in
    let whole = c.requires.whole in
    let may = c.requires.event in
    let slots_is : c.as_slice-2.result.now ≡ core.touches e = c.as_slice-2.ensures.same ∙ c.in-Ok.ensures.slots in
    let held_is : map core.meaning (parts_of c.of-held.result) ≡ touched core (means core.meaning places) e = ap (λ h. map core.meaning (parts_of h)) c.of-held.ensures.same ∙ held_means core laws places e (parts_of c.take_out.new.held.items) whole may (c.take_out.ensures.parts ∙ ap (λ ks. pick ks places) slots_is) in
    let out : c.take_out.new.places.items ≡ without (core.touches e) places = c.take_out.ensures.places ∙ ap (λ ks. without ks places) slots_is in
    let held_slots : slots_of c.of-held.result ≡ core.touches e = ap slots_of c.of-held.ensures.same ∙ c.take_out.ensures.slots ∙ slots_is in
    let ready_is : map core.meaning (parts_of c.prepare.new.held) ≡ touched core (means core.meaning places) e = c.prepare.ensures.meaning ∙ held_is in
    let ready_slots : slots_of c.prepare.new.held ≡ core.touches e = c.prepare.ensures.slots ∙ held_slots in
    let back_slots : slots_of c.into_items.result.items ≡ core.touches e = ap slots_of c.into_items.ensures.same ∙ ready_slots in
    let back = same_are_back core laws places e (slots_of c.into_items.result.items) (parts_of c.into_items.result.items) c.give_back.new.places.items whole may back_slots (ap (λ h. map core.meaning (parts_of h)) c.into_items.ensures.same ∙ ready_is) (c.give_back.ensures.places ∙ ap (λ ps. put (slots_of c.into_items.result.items) (map Some (parts_of c.into_items.result.items)) ps) out) in
    same_back core laws places c.give_back.new.places.items e may back

pub returns-in-Err-clause-err : goal.returns-in-Err-clause-err
returns-in-Err-clause-err g c =
    let core = g.M.Machine.core in
    let laws = g.met.M.Machine.lawful in
    let places = c.args.places.now.items in
    let e = c.args.event in
    let whole = c.requires.whole in
    let may = c.requires.event in
    let slots_is : c.as_slice-2.result.now ≡ core.touches e = c.as_slice-2.ensures.same ∙ c.in-Ok.ensures.slots in
    let held_is : map core.meaning (parts_of c.of-held.result) ≡ touched core (means core.meaning places) e = ap (λ h. map core.meaning (parts_of h)) c.of-held.ensures.same ∙ held_means core laws places e (parts_of c.take_out.new.held.items) whole may (c.take_out.ensures.parts ∙ ap (λ ks. pick ks places) slots_is) in
    subst (λ ps. (c.in-Err.refused ≡ core.no_memory) ⊎ (core.refusal ps e ≡ Some c.in-Err.refused)) held_is c.in-Err.ensures.refused

pub overflow_add-last : goal.overflow_add-last
overflow_add-last g c =
    let core = g.M.Machine.core in
    let laws = g.met.M.Machine.lawful in
    let places = c.args.places.now.items in
    let holds = c.requires.holds in
    let few = last_few core laws (means core.meaning places) c.args.last holds c.requires.last in omega arith

pub apply-reply-requires-clause-fits : goal.apply-reply-requires-clause-fits
apply-reply-requires-clause-fits g c =
    let core = g.M.Machine.core in
    let laws = g.met.M.Machine.lawful in
    let places = c.args.places.now.items in
    let e = c.args.event in
    let whole = c.requires.whole in
    let may = c.requires.event in
    let holds = c.requires.holds in
    let slots_is : c.as_slice-2.result.now ≡ core.touches e = c.as_slice-2.ensures.same ∙ c.in-Ok.ensures.slots in
    let held_is : map core.meaning (parts_of c.of-held.result) ≡ touched core (means core.meaning places) e = ap (λ h. map core.meaning (parts_of h)) c.of-held.ensures.same ∙ held_means core laws places e (parts_of c.take_out.new.held.items) whole may (c.take_out.ensures.parts ∙ ap (λ ks. pick ks places) slots_is) in
    let ready_is : map core.meaning (parts_of c.prepare.new.held) ≡ touched core (means core.meaning places) e = c.prepare.ensures.meaning ∙ held_is in
    let event_is : core.event_of c.in-Ok-prepare.ready ≡ e = c.in-Ok-prepare.ensures.event in
    subst (λ x. core.Fits (map core.meaning (parts_of c.prepare.new.held)) x) (sym event_is) (subst (λ ps. core.Fits ps e) (sym ready_is) (may_fit core laws places e holds.legal may))

pub apply-reply-requires-clause-number : goal.apply-reply-requires-clause-number
apply-reply-requires-clause-number g c =
    let core = g.M.Machine.core in
    let laws = g.met.M.Machine.lawful in
    let places = c.args.places.now.items in
    let holds = c.requires.holds in
    let few = last_few core laws (means core.meaning places) c.args.last holds c.requires.last in omega arith

pub give_back-requires-in-Ok-prepare : goal.give_back-requires-in-Ok-prepare
give_back-requires-in-Ok-prepare g c =
    let core = g.M.Machine.core in
    let laws = g.met.M.Machine.lawful in
    let places = c.args.places.now.items in
    let e = c.args.event in
    let whole = c.requires.whole in
    let may = c.requires.event in
    let slots_is : c.as_slice-2.result.now ≡ core.touches e = c.as_slice-2.ensures.same ∙ c.in-Ok.ensures.slots in
    let out : c.take_out.new.places.items ≡ without (core.touches e) places = c.take_out.ensures.places ∙ ap (λ ks. without ks places) slots_is in
    let held_slots : slots_of c.of-held.result ≡ core.touches e = ap slots_of c.of-held.ensures.same ∙ c.take_out.ensures.slots ∙ slots_is in
    let ready_slots : slots_of c.prepare.new.held ≡ core.touches e = c.prepare.ensures.slots ∙ held_slots in
    let applied_slots : slots_of c.apply-reply.new.held ≡ core.touches e = c.apply-reply.ensures.slots ∙ ready_slots in
    let back_slots : slots_of c.into_items-in-Ok-prepare.result.items ≡ core.touches e = ap slots_of c.into_items-in-Ok-prepare.ensures.same ∙ applied_slots in
    record { within = are_within core laws places e (slots_of c.into_items-in-Ok-prepare.result.items) c.take_out.new.places.items whole may back_slots out }

pub returns-in-Ok-prepare-clause-whole : goal.returns-in-Ok-prepare-clause-whole
returns-in-Ok-prepare-clause-whole g c =
    let core = g.M.Machine.core in
    let laws = g.met.M.Machine.lawful in
    let places = c.args.places.now.items in
    let e = c.args.event in
    let whole = c.requires.whole in
    let may = c.requires.event in
    let holds = c.requires.holds in
    let slots_is : c.as_slice-2.result.now ≡ core.touches e = c.as_slice-2.ensures.same ∙ c.in-Ok.ensures.slots in
    let held_is : map core.meaning (parts_of c.of-held.result) ≡ touched core (means core.meaning places) e = ap (λ h. map core.meaning (parts_of h)) c.of-held.ensures.same ∙ held_means core laws places e (parts_of c.take_out.new.held.items) whole may (c.take_out.ensures.parts ∙ ap (λ ks. pick ks places) slots_is) in
    let out : c.take_out.new.places.items ≡ without (core.touches e) places = c.take_out.ensures.places ∙ ap (λ ks. without ks places) slots_is in
    let held_slots : slots_of c.of-held.result ≡ core.touches e = ap slots_of c.of-held.ensures.same ∙ c.take_out.ensures.slots ∙ slots_is in
    let ready_is : map core.meaning (parts_of c.prepare.new.held) ≡ touched core (means core.meaning places) e = c.prepare.ensures.meaning ∙ held_is in
    let ready_slots : slots_of c.prepare.new.held ≡ core.touches e = c.prepare.ensures.slots ∙ held_slots in
    let event_is : core.event_of c.in-Ok-prepare.ready ≡ e = c.in-Ok-prepare.ensures.event in
    let fine : core.refusal (touched core (means core.meaning places) e) e ≡ None = subst (λ ps. core.refusal ps e ≡ None) held_is c.in-Ok-prepare.ensures.accepted in
    let applied_slots : slots_of c.apply-reply.new.held ≡ core.touches e = c.apply-reply.ensures.slots ∙ ready_slots in
    let applied_is : map core.meaning (parts_of c.apply-reply.new.held) ≡ core.after (touched core (means core.meaning places) e) e (c.args.last + 1) = c.apply-reply.ensures.parts ∙ ap (λ ps. core.after ps (core.event_of c.in-Ok-prepare.ready) (c.args.last + 1)) ready_is ∙ ap (λ x. core.after (touched core (means core.meaning places) e) x (c.args.last + 1)) event_is in
    let back_slots : slots_of c.into_items-in-Ok-prepare.result.items ≡ core.touches e = ap slots_of c.into_items-in-Ok-prepare.ensures.same ∙ applied_slots in
    let back = next_are_back core laws places e (c.args.last + 1) (slots_of c.into_items-in-Ok-prepare.result.items) (parts_of c.into_items-in-Ok-prepare.result.items) c.give_back-in-Ok-prepare.new.places.items whole holds may back_slots fine (ap (λ h. map core.meaning (parts_of h)) c.into_items-in-Ok-prepare.ensures.same ∙ applied_is) (c.give_back-in-Ok-prepare.ensures.places ∙ ap (λ ps. put (slots_of c.into_items-in-Ok-prepare.result.items) (map Some (parts_of c.into_items-in-Ok-prepare.result.items)) ps) out) in
    back.whole

pub returns-in-Ok-prepare-clause-ok : goal.returns-in-Ok-prepare-clause-ok
returns-in-Ok-prepare-clause-ok g c =
    let core = g.M.Machine.core in
    let laws = g.met.M.Machine.lawful in
    let places = c.args.places.now.items in
    let e = c.args.event in
    let whole = c.requires.whole in
    let may = c.requires.event in
    let holds = c.requires.holds in
    let slots_is : c.as_slice-2.result.now ≡ core.touches e = c.as_slice-2.ensures.same ∙ c.in-Ok.ensures.slots in
    let held_is : map core.meaning (parts_of c.of-held.result) ≡ touched core (means core.meaning places) e = ap (λ h. map core.meaning (parts_of h)) c.of-held.ensures.same ∙ held_means core laws places e (parts_of c.take_out.new.held.items) whole may (c.take_out.ensures.parts ∙ ap (λ ks. pick ks places) slots_is) in
    let out : c.take_out.new.places.items ≡ without (core.touches e) places = c.take_out.ensures.places ∙ ap (λ ks. without ks places) slots_is in
    let held_slots : slots_of c.of-held.result ≡ core.touches e = ap slots_of c.of-held.ensures.same ∙ c.take_out.ensures.slots ∙ slots_is in
    let ready_is : map core.meaning (parts_of c.prepare.new.held) ≡ touched core (means core.meaning places) e = c.prepare.ensures.meaning ∙ held_is in
    let ready_slots : slots_of c.prepare.new.held ≡ core.touches e = c.prepare.ensures.slots ∙ held_slots in
    let event_is : core.event_of c.in-Ok-prepare.ready ≡ e = c.in-Ok-prepare.ensures.event in
    let fine : core.refusal (touched core (means core.meaning places) e) e ≡ None = subst (λ ps. core.refusal ps e ≡ None) held_is c.in-Ok-prepare.ensures.accepted in
    let applied_slots : slots_of c.apply-reply.new.held ≡ core.touches e = c.apply-reply.ensures.slots ∙ ready_slots in
    let applied_is : map core.meaning (parts_of c.apply-reply.new.held) ≡ core.after (touched core (means core.meaning places) e) e (c.args.last + 1) = c.apply-reply.ensures.parts ∙ ap (λ ps. core.after ps (core.event_of c.in-Ok-prepare.ready) (c.args.last + 1)) ready_is ∙ ap (λ x. core.after (touched core (means core.meaning places) e) x (c.args.last + 1)) event_is in
    let back_slots : slots_of c.into_items-in-Ok-prepare.result.items ≡ core.touches e = ap slots_of c.into_items-in-Ok-prepare.ensures.same ∙ applied_slots in
    let back = next_are_back core laws places e (c.args.last + 1) (slots_of c.into_items-in-Ok-prepare.result.items) (parts_of c.into_items-in-Ok-prepare.result.items) c.give_back-in-Ok-prepare.new.places.items whole holds may back_slots fine (ap (λ h. map core.meaning (parts_of h)) c.into_items-in-Ok-prepare.ensures.same ∙ applied_is) (c.give_back-in-Ok-prepare.ensures.places ∙ ap (λ ps. put (slots_of c.into_items-in-Ok-prepare.result.items) (map Some (parts_of c.into_items-in-Ok-prepare.result.items)) ps) out) in
    let replied : c.apply-reply.result ≡ core.reply (touched core (means core.meaning places) e) e (c.args.last + 1) = c.apply-reply.ensures.reply ∙ ap (λ ps. core.reply ps (core.event_of c.in-Ok-prepare.ready) (c.args.last + 1)) ready_is ∙ ap (λ x. core.reply (touched core (means core.meaning places) e) x (c.args.last + 1)) event_is in
    let number : c.args.last + 1 ≡ suc (logged core (means core.meaning places)) = let l = c.requires.last in omega arith in
    stepped core laws (means core.meaning places) e (c.args.last + 1) c.apply-reply.result (means core.meaning c.give_back-in-Ok-prepare.new.places.items) holds may fine number replied back.mean
