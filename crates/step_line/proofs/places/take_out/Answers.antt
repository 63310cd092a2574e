use Rattle.std.proofs.Common.{◌≡◌, ◌+◌, ◌++◌, ◌∷◌, ◌<◌, [], ℕ, List, length, drop, subst, sym, arith, slice_index_or, drop-cons}
use Rattle.std.proofs.lemmas.Grind.{common_steps}
use Rattle.step_line.specs.Places.{Taking}
use Rattle.step_line.proofs.Taken.{next_taking}
use Rattle.step_line.proofs.places.take_out.Goals as goal

at_next : (i : ℕ) (xs : List ℕ) → i < length xs → drop i xs ≡ slice_index_or xs i 0 ∷ drop (i + 1) xs
at_next i xs lt = grind (arith, common_steps, drop-cons)

pub take_one-part-requires : goal.take_one-part-requires
take_one-part-requires g c =
    let e = at_next c.loop-slot.slot-index c.args.slots.now c.loop-slot-test.true in
    record { there = (subst (Taking c.args.slots.now c.args.places.now.items c.loop-slot.places.items c.loop-slot.held.items) e c.loop-slot.invariant.taking).there.0 }

pub loop-slot-preserved : goal.loop-slot-preserved
loop-slot-preserved g c =
    let k = slice_index_or c.args.slots.now c.loop-slot.slot-index 0 in
    let rest = drop (c.loop-slot.slot-index + 1) c.args.slots.now in
    let e = at_next c.loop-slot.slot-index c.args.slots.now c.loop-slot-test.true in
    let t = subst (Taking c.args.slots.now c.args.places.now.items c.loop-slot.places.items c.loop-slot.held.items) e c.loop-slot.invariant.taking in
    let n = next_taking c.args.slots.now c.args.places.now.items c.loop-slot.places.items c.loop-slot.held.items k rest c.take_one-part.result t c.take_one-part.ensures.part in
    let pushed : c.push.new.self.items ≡ c.loop-slot.held.items ++ (k, c.take_one-part.result) ∷ [] = rw c.unwrap.ensures at c.push.ensures.items in
    record {
      taking = subst (λ hs. Taking c.args.slots.now c.args.places.now.items c.take_one-part.new.places.items hs rest) (sym pushed)
          (subst (λ pl. Taking c.args.slots.now c.args.places.now.items pl (c.loop-slot.held.items ++ (k, c.take_one-part.result) ∷ []) rest) (sym c.take_one-part.ensures.places) n);
      room = let inv = c.loop-slot.invariant.room in let l = c.push.ensures.len in let cap = c.push.ensures.capacity in grind (arith, common_steps, drop-cons);
    }
