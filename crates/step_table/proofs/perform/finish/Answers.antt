use Rattle.std.proofs.Common.{◌≡◌, suc, ◌+◌, ◌<◌, map, length, refl, sym, ap, subst, ◌∙◌, arith, add-one, Some, None, ◌⊎◌}
use Rattle.std.proofs.lemmas.List.{length-map}
use Rattle.step_table.specs.Lists.{fst, Every}
use Rattle.step_table.specs.Helds.{slots_of, parts_of}
use Rattle.step_table.proofs.Lists.{rising_room}
use Rattle.step_table.proofs.Performs.{after_look, still_out, declined, commit_out, performed}
use Rattle.step_table.proofs.perform.finish.Goals as goal

pub of-held-requires : goal.of-held-requires
of-held-requires g c =
    let laws = g.met.M.Machine.lawful in
    let ev = c.requires.event in
    let n = c.args.top.now.table_id.slots in
    let many : length (slots_of c.args.items.items) ≡ length (g.M.Machine.core.touches c.args.event) = ap length ev.2 in
    let room = rising_room n (g.M.Machine.core.touches c.args.event) (laws.rising n c.args.event ev.1) (laws.below n c.args.event ev.1) in
    let items : length (slots_of c.args.items.items) ≡ length c.args.items.items = length-map c.args.items.items fst in
    let small = c.requires.table.2 in
    record { few = omega arith }

pub prepare-requires-clause-fits : goal.prepare-requires-clause-fits
prepare-requires-clause-fits g c =
    let core = g.M.Machine.core in let v = c.requires.view in let ev = c.requires.event in let items = c.args.items.items in
    let a = after_look core g.met.M.Machine.lawful g.N.Announced.event c.args.event _ _ items c.args.seat.now.me _ c.look.ensures.told v.1 ev.0 ev.1 ev.2 in
    subst (λ xs. core.Fits (map core.meaning (parts_of xs)) c.args.event) (sym c.of-held.ensures.same) a.fits

pub give_all-requires-clause-view : goal.give_all-requires-clause-view
give_all-requires-clause-view g c =
    let core = g.M.Machine.core in let v = c.requires.view in let ev = c.requires.event in let items = c.args.items.items in
    let a = after_look core g.met.M.Machine.lawful g.N.Announced.event c.args.event _ _ items c.args.seat.now.me _ c.look.ensures.told v.1 ev.0 ev.1 ev.2 in
    let held : c.of-held.result ≡ items = c.of-held.ensures.same in
    let slots : slots_of c.prepare.new.held ≡ slots_of items = c.prepare.ensures.slots ∙ ap slots_of held in
    let meaning : map core.meaning (parts_of c.prepare.new.held) ≡ map core.meaning (parts_of items) = c.prepare.ensures.meaning ∙ ap (λ xs. map core.meaning (parts_of xs)) held in
    ((λ z. v.0 (sym a.shares ∙ z)), still_out core _ items c.into_items.result.items a.out (ap slots_of c.into_items.ensures.same ∙ slots) (ap (λ xs. map core.meaning (parts_of xs)) c.into_items.ensures.same ∙ meaning))

pub commit-number-requires-clause-event : goal.commit-number-requires-clause-event
commit-number-requires-clause-event g c =
    let core = g.M.Machine.core in let v = c.requires.view in let ev = c.requires.event in let items = c.args.items.items in
    let a = after_look core g.met.M.Machine.lawful g.N.Announced.event c.args.event _ _ items c.args.seat.now.me _ c.look.ensures.told v.1 ev.0 ev.1 ev.2 in
    (ev.0, a.doing, a.fsts)

pub commit-number-requires-clause-may : goal.commit-number-requires-clause-may
commit-number-requires-clause-may g c =
    let core = g.M.Machine.core in let v = c.requires.view in let ev = c.requires.event in let items = c.args.items.items in
    let a = after_look core g.met.M.Machine.lawful g.N.Announced.event c.args.event _ _ items c.args.seat.now.me _ c.look.ensures.told v.1 ev.0 ev.1 ev.2 in
    let held : c.of-held.result ≡ items = c.of-held.ensures.same in
    let accepted : core.refusal (map core.meaning (parts_of items)) c.args.event ≡ None = ap (λ xs. core.refusal (map core.meaning (parts_of xs)) c.args.event) (sym held) ∙ c.in-Ok.ensures.accepted in
    (ev.1, ap (λ ps. core.refusal ps c.args.event) a.snds ∙ accepted)

pub apply-reply-requires-clause-fits : goal.apply-reply-requires-clause-fits
apply-reply-requires-clause-fits g c =
    let core = g.M.Machine.core in let v = c.requires.view in let ev = c.requires.event in let items = c.args.items.items in
    let a = after_look core g.met.M.Machine.lawful g.N.Announced.event c.args.event _ _ items c.args.seat.now.me _ c.look.ensures.told v.1 ev.0 ev.1 ev.2 in
    let held : c.of-held.result ≡ items = c.of-held.ensures.same in
    let slots : slots_of c.prepare.new.held ≡ slots_of items = c.prepare.ensures.slots ∙ ap slots_of held in
    let meaning : map core.meaning (parts_of c.prepare.new.held) ≡ map core.meaning (parts_of items) = c.prepare.ensures.meaning ∙ ap (λ xs. map core.meaning (parts_of xs)) held in
    let event : core.event_of c.in-Ok.ready ≡ c.args.event = c.in-Ok.ensures.event in
    subst (core.Fits (map core.meaning (parts_of c.prepare.new.held))) (sym event) (subst (λ ps. core.Fits ps c.args.event) (sym meaning) a.fits)

pub give_all-requires-in-Ok-clause-slots : goal.give_all-requires-in-Ok-clause-slots
give_all-requires-in-Ok-clause-slots g c =
    let core = g.M.Machine.core in let v = c.requires.view in let ev = c.requires.event in let items = c.args.items.items in
    let a = after_look core g.met.M.Machine.lawful g.N.Announced.event c.args.event _ _ items c.args.seat.now.me _ c.look.ensures.told v.1 ev.0 ev.1 ev.2 in
    let held : c.of-held.result ≡ items = c.of-held.ensures.same in
    let slots : slots_of c.prepare.new.held ≡ slots_of items = c.prepare.ensures.slots ∙ ap slots_of held in
    let meaning : map core.meaning (parts_of c.prepare.new.held) ≡ map core.meaning (parts_of items) = c.prepare.ensures.meaning ∙ ap (λ xs. map core.meaning (parts_of xs)) held in
    let n = c.commit-number.result in
    let e = c.args.event in
    let slots_now : slots_of c.into_items-in-Ok.result.items ≡ slots_of items = ap slots_of c.into_items-in-Ok.ensures.same ∙ (c.apply-reply.ensures.slots ∙ slots) in
    subst (Every (λ k. k < c.args.top.now.table_id.slots)) (sym (slots_now ∙ ev.2)) (g.met.M.Machine.lawful.below c.args.top.now.table_id.slots e ev.1)

pub give_all-requires-in-Ok-clause-view : goal.give_all-requires-in-Ok-clause-view
give_all-requires-in-Ok-clause-view g c =
    let core = g.M.Machine.core in let v = c.requires.view in let ev = c.requires.event in let items = c.args.items.items in
    let a = after_look core g.met.M.Machine.lawful g.N.Announced.event c.args.event _ _ items c.args.seat.now.me _ c.look.ensures.told v.1 ev.0 ev.1 ev.2 in
    let held : c.of-held.result ≡ items = c.of-held.ensures.same in
    let slots : slots_of c.prepare.new.held ≡ slots_of items = c.prepare.ensures.slots ∙ ap slots_of held in
    let meaning : map core.meaning (parts_of c.prepare.new.held) ≡ map core.meaning (parts_of items) = c.prepare.ensures.meaning ∙ ap (λ xs. map core.meaning (parts_of xs)) held in
    let event : core.event_of c.in-Ok.ready ≡ c.args.event = c.in-Ok.ensures.event in
    let n = c.commit-number.result in
    let e = c.args.event in
    let slots_now : slots_of c.into_items-in-Ok.result.items ≡ slots_of items = ap slots_of c.into_items-in-Ok.ensures.same ∙ (c.apply-reply.ensures.slots ∙ slots) in
    let parts_now : map core.meaning (parts_of c.into_items-in-Ok.result.items) ≡ core.after (map core.meaning (parts_of items)) e (suc n) =
    ap (λ xs. map core.meaning (parts_of xs)) c.into_items-in-Ok.ensures.same ∙ (c.apply-reply.ensures.parts ∙ (ap (λ x. core.after (map core.meaning (parts_of c.prepare.new.held)) x (n + 1)) event
    ∙ (ap (λ ps. core.after ps e (n + 1)) meaning ∙ ap (core.after (map core.meaning (parts_of items)) e) (add-one n)))) in (
      (λ z. v.0 (sym a.shares ∙ (sym (ap (λ m. m.0.shares) (c.commit-number.ensures.told e refl).2) ∙ z))),
      commit_out core e n 0 items c.into_items-in-Ok.result.items _ _ _ a c.commit-number.ensures.told slots_now parts_now,
    )

pub returns-in-Err-clause-err : goal.returns-in-Err-clause-err
returns-in-Err-clause-err g c =
    let core = g.M.Machine.core in let v = c.requires.view in let ev = c.requires.event in let items = c.args.items.items in
    let a = after_look core g.met.M.Machine.lawful g.N.Announced.event c.args.event _ _ items c.args.seat.now.me _ c.look.ensures.told v.1 ev.0 ev.1 ev.2 in
    declined core c.args.event items c.in-Err.refused c.args.seat.now.me _ _ a c.give_all.ensures.back.0 (subst (λ xs. (c.in-Err.refused ≡ core.no_memory) ⊎ (core.refusal (map core.meaning (parts_of xs)) c.args.event ≡ Some c.in-Err.refused)) c.of-held.ensures.same c.in-Err.ensures.refused)

pub returns-in-Ok-clause-ok : goal.returns-in-Ok-clause-ok
returns-in-Ok-clause-ok g c =
    let core = g.M.Machine.core in let v = c.requires.view in let ev = c.requires.event in let items = c.args.items.items in
    let a = after_look core g.met.M.Machine.lawful g.N.Announced.event c.args.event _ _ items c.args.seat.now.me _ c.look.ensures.told v.1 ev.0 ev.1 ev.2 in
    let held : c.of-held.result ≡ items = c.of-held.ensures.same in
    let slots : slots_of c.prepare.new.held ≡ slots_of items = c.prepare.ensures.slots ∙ ap slots_of held in
    let meaning : map core.meaning (parts_of c.prepare.new.held) ≡ map core.meaning (parts_of items) = c.prepare.ensures.meaning ∙ ap (λ xs. map core.meaning (parts_of xs)) held in
    let event : core.event_of c.in-Ok.ready ≡ c.args.event = c.in-Ok.ensures.event in
    let e = c.args.event in
    let n = c.commit-number.result in
    let reply : c.apply-reply.result ≡ core.reply (map core.meaning (parts_of items)) e (suc n) =
    c.apply-reply.ensures.reply ∙ (ap (λ x. core.reply (map core.meaning (parts_of c.prepare.new.held)) x (n + 1)) event ∙ (ap (λ ps. core.reply ps e (n + 1)) meaning ∙ ap (core.reply (map core.meaning (parts_of items)) e) (add-one n))) in
    performed core e c.apply-reply.result n 0 items c.args.seat.now.me _ _ _ a c.commit-number.ensures.told c.give_all-in-Ok.ensures.back.0 reply
