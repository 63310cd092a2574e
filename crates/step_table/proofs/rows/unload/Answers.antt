use Rattle.std.proofs.Common.{rules, ◌≡◌, ◌≢◌, ◌++◌, ◌∷◌, [], ◌<◌, ℕ, zero, suc, List, map, length, take, set, get_or, Some, false, refl, sym, ap, subst, ◌∙◌, arith, add-one}
use Rattle.std.proofs.lemmas.List.{get_or-set_same, get_or-set_other, map-append}
use Rattle.std.specs.Option.{IsSome}
use Rattle.std.specs.Mem.Slots.{slots_items, slots_len, slots_filled, slots_counts}
use mathlib.Core.Option.{some, some-ne-none, some-injective}
use mathlib.Core.Logic.{dite}
use native.Mathlib.Decide.{ℕ_discrete}
use lib.ListN.{get_elem?}
use Rattle.step_table.proofs.rows.unload.Goals as goal

take_with : {A : Type 0} (xs : List A) (i : ℕ) (x : A) → get_elem? xs i ≡ some x → take (suc i) xs ≡ take i xs ++ x ∷ []
take_with [] i x at = absurd (some-ne-none x (sym at))
take_with (y ∷ ys) zero x at = ap (λ z. z ∷ []) (some-injective y x at)
take_with (y ∷ ys) (suc i) x at = ap (λ zs. y ∷ zs) (take_with ys i x at)

pub unwrap-requires : goal.unwrap-requires
unwrap-requires g c =
    let inv = c.loop-i.invariant in
    let lt : c.loop-i.i < slots_len c.args.closed.slots = search rules in
    let p = c.requires.parts c.loop-i.i lt in
    let at : get_elem? (slots_items c.args.closed.slots) c.loop-i.i ≡ some c.take.result = ap (λ xs. get_elem? xs c.loop-i.i) (sym inv.items) ∙ c.take.ensures.value in
    subst IsSome (some-injective (Some p.0) c.take.result (sym p.1 ∙ at)) refl

pub loop-i-preserved : goal.loop-i-preserved
loop-i-preserved g c =
    let inv = c.loop-i.invariant in
    let i = c.loop-i.i in
    let old = c.loop-i.closed.slots in
    let new = c.take.new.self.slots in
    let lt : i < slots_len c.args.closed.slots = search rules in
    let len = inv.len in
    let others = c.take.ensures.others in
    let filled : slots_filled new ≡ set (slots_filled old) i false = others.1 in
    let long = (slots_counts old).1 in
    let within : i < length (slots_filled old) = omega arith in
    let same_len : slots_len new ≡ slots_len old = others.2 in
    let p = c.unwrap.result in
    let at : get_elem? (slots_items c.args.closed.slots) i ≡ some (Some p) = ap (λ xs. get_elem? xs i) (sym inv.items) ∙ (c.take.ensures.value ∙ ap some c.unwrap.ensures) in
    let items = rw c.unwrap-in-loop-i.ensures at c.push.ensures.items in
    let h = c.push.ensures.capacity in
    let r = inv.room in record {
      full = λ k le below. ap (λ xs. get_or xs k false) filled ∙ (get_or-set_other (slots_filled old) i k false false (λ e. omega arith) ∙ inv.full k (omega arith) (omega arith));
      taken = λ k below. ap (λ xs. get_or xs k false) filled ∙ dite (ℕ_discrete k i)
          (λ (e : k ≡ i). subst (λ j. get_or (set (slots_filled old) i false) j false ≡ false) (sym e) (get_or-set_same (slots_filled old) i false false within))
          (λ (ne : k ≢ i). get_or-set_other (slots_filled old) i k false false ne ∙ inv.taken k (omega arith));
      items = others.0 ∙ inv.items;
      len = same_len ∙ inv.len;
      parts = ap (map (λ (q : g.row.P.Denot). Some q)) items ∙ (map-append (λ (q : g.row.P.Denot). Some q) c.loop-i.room.items (p ∷ []) ∙ (ap (λ xs. xs ++ Some p ∷ []) inv.parts ∙ (sym (take_with (slots_items c.args.closed.slots) i (Some p) at) ∙ ap (λ n. take n (slots_items c.args.closed.slots)) (sym (add-one i)))));
      room = omega arith;
    }
