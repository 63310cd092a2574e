use Rattle.std.proofs.Common.{rules, ◌≡◌, ◌++◌, ◌∷◌, [], ℕ, zero, suc, List, map, length, replicate, set, Some, None, refl, ap, ◌∙◌, arith, append_assoc, length-append, add-one}
use Rattle.step_table.proofs.rows.fill.Goals as goal

set_end : {A : Type 0} (n : ℕ) (a b : A) (ys : List A) → set (replicate (suc n) a ++ ys) n b ≡ replicate n a ++ b ∷ ys
set_end zero a b ys = refl
set_end (suc n) a b ys = ap (λ xs. a ∷ xs) (set_end n a b ys)

pub loop-part-preserved : goal.loop-part-preserved
loop-part-preserved g c =
    let inv = c.loop-part.invariant in
    let p = c.in-Some.part in
    let items : c.loop-part.parts.items ≡ c.pop.new.self.items ++ p ∷ [] = c.in-Some.ensures.items in
    let n : c.len.result ≡ length c.pop.new.self.items = search rules in
    let long : length c.loop-part.parts.items ≡ suc (length c.pop.new.self.items) = ap length items ∙ (length-append c.pop.new.self.items (p ∷ []) ∙ add-one _) in
    let h = c.pop.ensures.capacity in
    let r = inv.room in record {
      slots = (
        p ∷ inv.slots.0,
        inv.slots.1 ∙ (ap (λ xs. xs ++ inv.slots.0) items ∙ append_assoc c.pop.new.self.items (p ∷ []) inv.slots.0),
        rw (n, inv.slots.2, long) (set_end (length c.pop.new.self.items) None (Some p) (map (λ (q : g.row.P.Denot). Some q) inv.slots.0)),
      );
      room = omega arith;
    }
