use Rattle.std.proofs.Common.{◌≡◌, ◌+◌, ◌∷◌, List, [], ◌++◌, map, drop, length, get_or, refl, sym, ap, ◌∙◌, arith, add-one, append-nil}
use Rattle.std.proofs.Math.Seq.{drop-cons}
use Rattle.row_values.specs.Ids.{Id}
use Rattle.row_values.specs.Ranges.{Range}
use Rattle.kept_records.proofs.Gathering.{drop_all}
use Rattle.model.specs.Tablets.{Told, Make}
use Rattle.model.specs.Changed.{shares, next_tablet}
use Rattle.model.specs.Changes.{tell_made}
use Rattle.master_part.specs.Decisions.{told_by}
use Rattle.master_acts.proofs.Making.{made_next}
use Rattle.master_acts.proofs.decide.tablets_made.Goals as goal

pub loop-slot-preserved : goal.loop-slot-preserved
loop-slot-preserved c =
    let slots = c.args.slots.now in
    let i = c.loop-slot.slot-index in
    let place = c.loop-slot.place in
    let slot = get_or slots i 0 in
    let within = c.loop-slot-test.true in
    let next : drop i slots ≡ slot ∷ drop (i + 1) slots = rw (add-one, drop-cons slots i 0) refl in
    record {
      made = λ parts n.
          rw c.in_ok-push.ensures.pushed
          (made_next parts c.loop-slot.made _ slot (drop (i + 1) slots) place (length slots) n c.args.drawn c.args.table
          (ap (λ (t : Id). let told : Told = record { slot = slot; act = Make t c.args.table c.share.result.low c.share.result.high 1 } in told) c.tablet_id.ensures.exact
          ∙ ap (λ (r : Range). let told : Told = record { slot = slot; act = Make (next_tablet c.args.drawn (place + 1)) c.args.table r.low r.high 1 } in told) c.share.ensures.exact)
          ∙ ap (λ (xs : List _). map (told_by parts) c.loop-slot.made ++ tell_made (shares xs place (length slots) n c.args.drawn c.args.table)) (sym next)
          ∙ c.loop-slot.invariant.made parts n);
      place = omega (arith, c.loop-slot.invariant.place);
    }

pub returns : goal.returns
returns c =
    let slots = c.args.slots.now in
    let end : c.loop-slot.slot-index ≡ length slots = omega (arith, c.loop-slot-test.false, c.loop-slot.auto.slot-index-end) in
    let none : drop c.loop-slot.slot-index slots ≡ [] = rw end (drop_all slots) in
    record {
      exact = λ parts n.
          sym (append-nil (map (told_by parts) c.loop-slot.made))
          ∙ ap (λ (xs : List _). map (told_by parts) c.loop-slot.made ++ tell_made (shares xs c.loop-slot.place (length slots) n c.args.drawn c.args.table)) (sym none)
          ∙ c.loop-slot.invariant.made parts n;
    }
