use Rattle.std.proofs.Common.{◌≡◌, ◌<◌, ℕ, zero, suc, List, [], ◌∷◌, set, map, length, refl, sym, ap, subst, ◌∙◌, get_or}
use Rattle.std.proofs.lemmas.Option.{slice_get-map, slice_get-get_or}
use Rattle.std.specs.Prelude.{Some, slice_get}
use Rattle.std.specs.Option.{option_map}
use Rattle.step_table.specs.Lists.{snd}
use Rattle.step_table.specs.Helds.{with_part}
use Rattle.step_table.proofs.held.Held.part_mut.Goals as goal

set_part : {P : Type 0} (held : List (ℕ × P)) (i : ℕ) (x : ℕ × P) (part : P) → x ≡ get_or held i x → set held i (x.0, part) ≡ with_part held i part
set_part [] i x part at = refl
set_part (y ∷ ys) zero x part at = ap (λ k. (k, part) ∷ ys) (ap (λ z. z.0) at)
set_part (y ∷ ys) (suc i) x part at = ap (λ zs. y ∷ zs) (set_part ys i x part at)

pub returns : goal.returns
returns g c =
    let items = c.self.inside.items.items in
    let i = c.args.i in
    let x = c.index_mut.result.now in
    let view : items ≡ c.args.self.now = c.self.view_is in
    let lt : i < length items = subst (λ xs. i < length xs) (sym view) c.requires.within in
    let at : slice_get items i ≡ Some x = slice_get-get_or items i x lt ∙ ap Some (sym c.index_mut.ensures.value) in
    let found : slice_get (map snd items) i ≡ Some x.1 = slice_get-map snd items i ∙ ap (option_map snd) at in (
      (refl, λ part. set_part items i x part c.index_mut.ensures.value ∙ ap (λ xs. with_part xs i part) view),
      record { writes_back = tt; part = ap (λ xs. slice_get (map snd xs) i) (sym view) ∙ found },
    )
