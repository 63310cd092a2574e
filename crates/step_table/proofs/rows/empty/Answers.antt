use Rattle.std.proofs.Common.{◌≡◌, ◌++◌, ◌∷◌, [], List, map, length, Some, Option, refl, sym, ap, subst, ◌∙◌, arith, append_assoc, length-append}
use Rattle.std.proofs.lemmas.List.{map-append}
use Rattle.std.specs.Option.{IsSome}
use Rattle.std.specs.Vec.Iter.{into_iter_items}
use Rattle.step_table.proofs.rows.empty.Goals as goal

abbrev head_or : {A : Type 0} → A → List A → A
head_or d [] = d
head_or d (x ∷ xs) = x

abbrev tail_of : {A : Type 0} → List A → List A
tail_of [] = []
tail_of (x ∷ xs) = xs

first_some : {P : Type 0} (x : Option P) (rest : List (Option P)) (left : List P) → x ∷ rest ≡ map Some left → (p : P) × (ps : List P) × (x ≡ Some p) × (rest ≡ map Some ps)
first_some x rest [] is = absurd (let l : length (x ∷ rest) ≡ 0 = ap length is in omega arith)
first_some x rest (p ∷ ps) is = (p, ps, ap (head_or x) is, ap tail_of is)

pub unwrap-requires : goal.unwrap-requires
unwrap-requires g c =
    let inv = c.loop-slot.invariant in
    let steps : into_iter_items c.loop-slot.slot-iterator ≡ c.in-Some.slot ∷ into_iter_items c.next.new.self = c.in-Some.ensures.steps.0 in
    let first = first_some c.in-Some.slot (into_iter_items c.next.new.self) inv.2.0 (sym steps ∙ inv.2.1) in
    subst IsSome (sym first.2) refl

pub loop-slot-preserved : goal.loop-slot-preserved
loop-slot-preserved g c =
    let inv = c.loop-slot.invariant in
    let rest = into_iter_items c.next.new.self in
    let p = c.unwrap.result in
    let old = c.loop-slot.room.items in
    let steps : into_iter_items c.loop-slot.slot-iterator ≡ c.in-Some.slot ∷ rest = c.in-Some.ensures.steps.0 in
    let first = first_some c.in-Some.slot rest inv.2.0 (sym steps ∙ inv.2.1) in
    let items : c.push.new.self.items ≡ old ++ p ∷ [] = rw c.unwrap-in-loop-slot.ensures at c.push.ensures.items in
    let here : c.in-Some.slot ≡ Some p = c.unwrap.ensures in
    let whole : map (λ (q : g.row.P.Denot). Some q) c.push.new.self.items ++ rest ≡ c.args.slots.items =
    ap (λ xs. map (λ (q : g.row.P.Denot). Some q) xs ++ rest) items ∙ (ap (λ xs. xs ++ rest) (map-append (λ (q : g.row.P.Denot). Some q) old (p ∷ []))
    ∙ (append_assoc (map (λ (q : g.row.P.Denot). Some q) old) (Some p ∷ []) rest ∙ (ap (λ x. map (λ (q : g.row.P.Denot). Some q) old ++ x ∷ rest) (sym here)
    ∙ (ap (λ xs. map (λ (q : g.row.P.Denot). Some q) old ++ xs) (sym steps) ∙ inv.3)))) in
    let long = length-append old (p ∷ []) in
    let count : length c.push.new.self.items ≡ length (old ++ p ∷ []) = ap length items in
    let stepped : length (into_iter_items c.loop-slot.slot-iterator) ≡ length (c.in-Some.slot ∷ rest) = ap length steps in
    let room = inv.4 in
    let h = c.push.ensures.capacity in
    (tt, tt, (first.1, first.3), whole, omega arith)
