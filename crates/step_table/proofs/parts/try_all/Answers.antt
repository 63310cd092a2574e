use Rattle.std.proofs.Common.{◌≡◌, ◌<◌, ◌+◌, ◌++◌, ◌∷◌, [], length, take, sym, ap, subst, refl, ◌∙◌, arith, slice_index, length-append}
use Rattle.std.proofs.lemmas.List.{map-append}
use Rattle.step_table.specs.Lists.{fst, Rising}
use Rattle.step_table.specs.Helds.{slots_of}
use Rattle.step_table.specs.Rule.{Announces}
use Rattle.step_table.specs.Seats.{IsOut}
use Rattle.step_table.proofs.Outs.{still_takes, still_refl, alike_then, out_next, not_yet, take_next, rising_take, every_at, in_at}
use Rattle.step_table.proofs.parts.try_all.Goals as goal

pub take_part-requires-clause-view : goal.take_part-requires-clause-view
take_part-requires-clause-view g c =
    let core = g.M.Machine.core in
    let event = g.N.Announced.event in
    let inv = c.loop-slot.invariant in
    let slots = c.args.slots.now in
    let i = c.loop-slot.slot-index in
    let k = slice_index slots i in
    let lt = c.loop-slot-test.true in
    let up : Rising (take i slots ++ k ∷ []) = subst Rising (take_next slots i k lt refl) (rising_take slots (i + 1) c.requires.slots.1) in (
      (λ z. c.requires.view.0 (sym inv.alike.shares ∙ z)),
      inv.out.busy,
      every_at (Announces core event) slots i lt c.requires.slots.2,
      not_yet core event c.loop-slot.seat.me c.loop-slot.held.items k inv.out (subst (λ ks. Rising (ks ++ k ∷ [])) (sym inv.slots) up),
    )

pub loop-slot-preserved : goal.loop-slot-preserved
loop-slot-preserved g c =
    let core = g.M.Machine.core in
    let event = g.N.Announced.event in
    let inv = c.loop-slot.invariant in
    let slots = c.args.slots.now in
    let i = c.loop-slot.slot-index in
    let k = slice_index slots i in
    let lt = c.loop-slot-test.true in
    let p = c.in-Some.part in
    let old = c.loop-slot.held.items in
    let items : c.push.new.self.items ≡ old ++ (k, p) ∷ [] = rw c.unwrap.ensures at c.push.ensures.items in
    let got = rw c.in-Some.is at c.take_part.ensures.some in
    let taken = still_takes event c.loop-slot.seat.me c.loop-slot.seat.me _ k (core.meaning p) (still_refl c.loop-slot.seat.me) got in record {
      table = c.take_part.ensures.table.0 ∙ inv.table;
      id = c.take_part.ensures.table.1 ∙ inv.id;
      alike = alike_then _ _ _ inv.alike taken.alike;
      findings = ap (λ m. m.0.findings) got ∙ inv.findings;
      out = subst (IsOut core event c.take_part.new.seat.me) (sym items) (out_next core event c.loop-slot.seat.me _ old k p inv.out taken);
      slots = ap slots_of items ∙ (map-append fst old ((k, p) ∷ []) ∙ (ap (λ ks. ks ++ k ∷ []) inv.slots ∙ sym (take_next slots i k lt refl)));
      count = ap length items ∙ (length-append old ((k, p) ∷ []) ∙ ap (λ n. n + 1) inv.count);
      room = (let h = c.push.ensures.capacity in let r = inv.room in omega arith);
    }

pub returns-in_default-clause-some : goal.returns-in_default-clause-some
returns-in_default-clause-some g c =
    let inv = c.loop-slot.invariant in
    let k = slice_index c.args.slots.now c.loop-slot.slot-index in
    let missed = c.in_default.ensures.none in (
      ap (λ m. m.0.findings) missed.0 ∙ ap (λ ks. ks ++ k ∷ []) inv.findings,
      subst (λ n. n < 4096) inv.alike.shares missed.1,
      in_at c.args.slots.now c.loop-slot.slot-index c.loop-slot-test.true,
    )
