use Rattle.std.proofs.Common.{ℕ, ◌≡◌, ◌<◌, ◌++◌, ◌∷◌, [], sym, ap, subst, ◌∙◌}
use Rattle.std.proofs.lemmas.List.{map-append}
use Rattle.step_table.specs.Lists.{fst, Every}
use Rattle.step_table.specs.Helds.{slots_of}
use Rattle.step_table.specs.Seats.{HasOut}
use Rattle.step_table.proofs.Lists.{every_init}
use Rattle.step_table.proofs.Outs.{out_last, out_less, back_less, back_then}
use Rattle.step_table.proofs.parts.give_all.Goals as goal

pub give_part-requires-clause-table : goal.give_part-requires-clause-table
give_part-requires-clause-table g c =
    let inv = c.loop-slot.invariant in
    let x : ℕ × g.row.M-Part.Denot = (c.in-Some.slot, c.in-Some.part) in
    let left = c.pop.new.self.items in
    let items : c.loop-slot.held.items ≡ left ++ x ∷ [] = c.in-Some.ensures.items in
    let slots : slots_of c.loop-slot.held.items ≡ slots_of left ++ c.in-Some.slot ∷ [] = ap slots_of items ∙ map-append fst left (x ∷ []) in
    (inv.table ∙ c.requires.table.0, c.requires.table.1, (every_init (λ k. k < c.args.top.now.table_id.slots) (slots_of left) c.in-Some.slot (subst (Every (λ k. k < c.args.top.now.table_id.slots)) slots inv.below)).1)

pub give_part-requires-clause-view : goal.give_part-requires-clause-view
give_part-requires-clause-view g c =
    let core = g.M.Machine.core in
    let inv = c.loop-slot.invariant in
    let x : ℕ × g.row.M-Part.Denot = (c.in-Some.slot, c.in-Some.part) in
    let items : c.loop-slot.held.items ≡ c.pop.new.self.items ++ x ∷ [] = c.in-Some.ensures.items in
    let last = out_last core c.loop-slot.seat.me c.pop.new.self.items c.in-Some.slot c.in-Some.part (subst (HasOut core c.loop-slot.seat.me) items inv.out) in
    ((λ z. c.requires.view.0 (sym inv.back.alike.shares ∙ z)), last.0, last.1)

pub loop-slot-preserved : goal.loop-slot-preserved
loop-slot-preserved g c =
    let core = g.M.Machine.core in
    let inv = c.loop-slot.invariant in
    let x : ℕ × g.row.M-Part.Denot = (c.in-Some.slot, c.in-Some.part) in
    let left = c.pop.new.self.items in
    let items : c.loop-slot.held.items ≡ left ++ x ∷ [] = c.in-Some.ensures.items in
    let slots : slots_of c.loop-slot.held.items ≡ slots_of left ++ c.in-Some.slot ∷ [] = ap slots_of items ∙ map-append fst left (x ∷ []) in
    let e = c.give_part.ensures in record {
      table = e.table.0 ∙ inv.table;
      id = e.table.1 ∙ inv.id;
      back = back_then _ _ _ inv.back (back_less _ _ e.view);
      out = out_less core c.loop-slot.seat.me _ left c.in-Some.slot c.in-Some.part (subst (HasOut core c.loop-slot.seat.me) items inv.out) e.view;
      below = (every_init (λ k. k < c.args.top.now.table_id.slots) (slots_of left) c.in-Some.slot (subst (Every (λ k. k < c.args.top.now.table_id.slots)) slots inv.below)).0;
    }
