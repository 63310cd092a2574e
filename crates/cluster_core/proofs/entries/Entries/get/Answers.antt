use Rattle.std.proofs.Common.{◌∙◌, ◌<◌, arith, List, length, map, refl, ap}
use Rattle.std.specs.Prelude.{slice_get}
use Rattle.std.specs.Option.{option_copied, option_map}
use Rattle.std.proofs.lemmas.Bool.Decides.{nat_tests}
use Rattle.std.proofs.lemmas.Option.{slice_get-map, slice_get_read}
use Rattle.model.specs.Entries.{Entry}
use Rattle.cluster_core.proofs.Booked.{entry_at}
use Rattle.cluster_core.proofs.entries.Entries.get.Goals as goal

pub returns-in-Some : goal.returns-in-Some
returns-in-Some c =
    let items = c.self.inside.places.items in
    let lt : c.args.at < length items = (let b = rw c.deref.ensures.value at c.in-Some.ensures.lookup.0 in grind (arith, nat_tests)) in
    record {
      entry =
          entry_at (map option_copied items) c.args.at (option_copied c.in-Some.place.now) c.self.invariant
          (slice_get-map option_copied items c.args.at
          ∙ ap (option_map option_copied) (slice_get_read items (length items) c.args.at c.in-Some.place.now refl lt (rw c.deref.ensures.value at c.in-Some.ensures.lookup.1)))
          ∙ ap (λ (es : List Entry). slice_get es c.args.at) c.self.view_is;
    }
