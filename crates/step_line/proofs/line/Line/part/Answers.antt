use Rattle.std.proofs.Common.{◌≡◌, ◌<◌, ◌∙◌, length, sym, ap, arith, get_or, Some}
use Rattle.std.specs.Prelude.{is_some, slice_get}
use Rattle.std.specs.Option.{option_copied}
use Rattle.std.proofs.lemmas.List.{length-map}
use Rattle.step_line.specs.Places.{found}
use Rattle.step_line.specs.Lines.{LineView}
use Rattle.step_line.proofs.Taken.{some_there, means_there, is_there}
use Rattle.step_line.proofs.line.Line.part.Goals as goal

pub unwrap-requires : goal.unwrap-requires
unwrap-requires g c =
    let places = c.self.inside.places.items in
    let lt : c.args.slot < length (found places) = (let w = c.requires.within in let l = length-map (found places) g.M.Machine.core.meaning in let v = ap (λ (v : LineView _). length v.parts) c.self.view_is in omega arith) in
    is_there c.as_ref.result (c.as_ref.ensures.variant ∙ ap is_some c.index.ensures ∙ some_there places c.args.slot c.index.result.now c.self.invariant.whole lt)

pub returns : goal.returns
returns g c =
    let core = g.M.Machine.core in
    let places = c.self.inside.places.items in
    let lt : c.args.slot < length (found places) = (let w = c.requires.within in let l = length-map (found places) core.meaning in let v = ap (λ (v : LineView _). length v.parts) c.self.view_is in omega arith) in
    let here : get_or places c.args.slot c.index.result.now ≡ Some c.unwrap.result.now = sym c.index.ensures ∙ sym c.as_ref.ensures.value ∙ ap option_copied c.unwrap.ensures in
    record { part = sym (ap (λ (v : LineView _). slice_get v.parts c.args.slot) c.self.view_is) ∙ means_there core.meaning places c.args.slot c.index.result.now c.unwrap.result.now c.self.invariant.whole lt here }
