use Rattle.std.proofs.Common.{◌+◌, ◌≤◌, ◌∙◌, drop, length, map, replicate, sym, ap, subst, arith, None}
use Rattle.std.specs.Option.{option_copied}
use Rattle.std.proofs.lemmas.List.{length-map, length-replicate}
use Rattle.step_table.specs.Lists.{Every}
use Rattle.step_table.specs.Histories.{history_of}
use Rattle.step_line.specs.Numbered.{all_placed, placed}
use Rattle.step_line.proofs.Numbers.{all_placed_is, length_placed}
use Rattle.machine_laws.specs.Core.{core_of}
use Rattle.cluster_core.specs.Coding.{coding}
use Rattle.cluster_core.specs.Tellings.{meaning}
use Rattle.cluster_core.proofs.Numbering.{next_placed, numbers_within, all_are_placed}
use Rattle.cluster_core.proofs.entries.places_of.Goals as goal

pub loop-slot-init : goal.loop-slot-init
loop-slot-init g c =
    let ps = c.args.line.now.parts in
    let none' = c.in_ok-places.ensures.exact ∙ ap (λ n. replicate n None) c.len.ensures.count in
    record {
      placed = ap (all_placed (core_of coding) ps) none';
      size = sym (length-map c.in_ok-places.places.items option_copied) ∙ ap length none' ∙ length-replicate (length (history_of (core_of coding) ps)) None;
    }

pub place_entries-requires : goal.place_entries-requires
place_entries-requires g c = record {
  within =
      subst (λ n. Every (λ e. (1 ≤ e.number) × (e.number ≤ n)) c.entries.result.now) (sym c.loop-slot.invariant.size)
      (subst (Every (λ e. (1 ≤ e.number) × (e.number ≤ length (history_of (core_of coding) c.args.line.now.parts)))) (sym c.entries.ensures.entries)
      (numbers_within (core_of coding) c.args.line.now.parts c.loop-slot.slot (meaning c.part.result.now) c.part.ensures.part c.len.ensures.numbered));
}

pub loop-slot-preserved : goal.loop-slot-preserved
loop-slot-preserved g c =
    let ps = c.args.line.now.parts in
    let slot = c.loop-slot.slot in
    let places = map option_copied c.loop-slot.places.items in
    let became = c.place_entries.ensures.placed ∙ ap (λ es. placed es places) c.entries.ensures.entries in
    record {
      placed =
          ap (all_placed (core_of coding) (drop (slot + 1) ps)) became
          ∙ sym (next_placed (core_of coding) ps slot (meaning c.part.result.now) c.part.ensures.part places)
          ∙ c.loop-slot.invariant.placed;
      size =
          sym (length-map c.place_entries.new.places.items option_copied)
          ∙ ap length became
          ∙ length_placed c.part.result.now.log places
          ∙ length-map c.loop-slot.places.items option_copied
          ∙ c.loop-slot.invariant.size;
    }

pub returns : goal.returns
returns g c =
    let ps = c.args.line.now.parts in
    let le : length ps ≤ c.loop-slot.slot = omega (arith, c.loop-slot-test.false, c.size-slot-end.ensures.size) in
    record {
      exact =
          all_are_placed (core_of coding) ps c.loop-slot.slot le (map option_copied c.loop-slot.places.items)
          ∙ c.loop-slot.invariant.placed
          ∙ all_placed_is (core_of coding) ps c.len.ensures.numbered;
    }
