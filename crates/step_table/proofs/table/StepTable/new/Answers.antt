use Rattle.std.proofs.Common.{◌≡◌, ◌<◌, ◌∷◌, ◌^◌, [], List, map, length, replicate, Some, None, Option, refl, sym, ap, subst, ◌∙◌, arith}
use Rattle.step_table.specs.Machines.{logged}
use Rattle.step_table.proofs.Closes.{opens}
use Rattle.step_table.proofs.Laws.{logged_below}
use Rattle.step_table.proofs.table.StepTable.new.Goals as goal

abbrev in_or : {A : Type 0} → A → Option A → A
in_or d None = d
in_or d (Some x) = x

same_parts : {A : Type 0} (xs ys : List A) → map Some xs ≡ map Some ys → xs ≡ ys
same_parts [] [] is = refl
same_parts [] (y ∷ ys) is = absurd (let l : 0 ≡ length (map Some (y ∷ ys)) = ap length is in omega arith)
same_parts (x ∷ xs) [] is = absurd (let l : length (map Some (x ∷ xs)) ≡ 0 = ap length is in omega arith)
same_parts (x ∷ xs) (y ∷ ys) is = ap (λ z. z ∷ xs) (ap (λ zs. in_or x (head_or (Some x) zs)) is) ∙ ap (λ zs. y ∷ zs) (same_parts xs ys (ap tail_of is))
  where
    head_or : {A : Type 0} → A → List A → A
    head_or d [] = d
    head_or d (z ∷ zs) = z

    tail_of : {A : Type 0} → List A → List A
    tail_of [] = []
    tail_of (z ∷ zs) = zs

pub words_of-requires-clause-bound : goal.words_of-requires-clause-bound
words_of-requires-clause-bound g c =
    let core = g.M.Machine.core in
    subst (λ xs. logged core (map core.meaning xs) < 2 ^ 62) (sym c.as_slice.ensures.same) (logged_below core g.met.M.Machine.lawful (map core.meaning c.args.parts) c.requires.legal)

pub new-requires : goal.new-requires
new-requires g c =
    let core = g.M.Machine.core in
    let parts = c.args.parts in
    let about : c.of-about.result.value ≡ parts = c.of-about.ensures in
    let slice = c.as_slice.ensures.same in
    let words : c.as_slice-2.result.now ≡ logged core (map core.meaning parts) ∷ replicate (length parts) 0 =
    c.as_slice-2.ensures.value ∙ (c.in-Ok.ensures.words ∙ ap (λ xs. logged core (map core.meaning xs) ∷ replicate (length xs) 0) slice) in
    let slots : c.fill.new.slots.items ≡ map (λ (p : g.row.M-Part.Denot). Some p) parts = c.fill.ensures.slots ∙ ap (map (λ (p : g.row.M-Part.Denot). Some p)) c.into_vec-room.ensures.same in
    rw (about, words, slots) (opens core parts (logged core (map core.meaning parts)) c.requires.legal c.requires.numbered refl)

pub returns-clause-parts_back : goal.returns-clause-parts_back
returns-clause-parts_back g c =
    let back : c.in-Err.field-0.slots.items ≡ c.fill.new.slots.items = c.in-Err.ensures.err in
    let filled : c.fill.new.slots.items ≡ map (λ (p : g.row.M-Part.Denot). Some p) c.args.parts = c.fill.ensures.slots ∙ ap (map (λ (p : g.row.M-Part.Denot). Some p)) c.into_vec-room.ensures.same in
    c.from_vec.ensures.same ∙ same_parts c.empty.new.room.items c.args.parts (c.empty.ensures.parts ∙ (back ∙ filled))
