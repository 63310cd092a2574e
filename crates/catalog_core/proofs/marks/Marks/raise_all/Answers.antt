use Rattle.std.proofs.Common.{ℕ, suc, ◌≡◌, ◌<◌, ◌+◌, map, length, slice_get, ap, ◌∙◌, arith}
use Rattle.std.proofs.lemmas.Grind.{common_steps}
use Rattle.indexmap.specs.IndexMap.{set_value_at}
use Rattle.row_values.specs.Ids.{Id}
use Rattle.catalog_core.specs.Kept.{mark_entry}
use Rattle.catalog_core.proofs.Leaving.{risen_to, risen_at, risen_next, entry_at, risen_all, marks_risen}
use Rattle.catalog_core.proofs.marks.Marks.raise_all.Goals as goal

pub loop-place-preserved : goal.loop-place-preserved
loop-place-preserved g c =
    let risen : Id → ℕ → ℕ = g.W.Rises.risen c.args.walk.now in
    let es = c.self.inside.entries.entries in
    let n = c.loop-place.place in
    let i = c.loop-place.invariant in
    let test = c.loop-place-test.true in
    let count = c.len-count.ensures.len in
    let within : n < length es = grind (arith, common_steps, test, count) in
    let e = entry_at risen es n within in
    let next : suc n ≡ n + 1 = omega arith in
    record {
      risen = c.raise_place.ensures.entries e.0 (ap (λ xs. slice_get xs n) i.risen ∙ risen_at risen es n e.0 e.1)
          ∙ ap (λ xs. set_value_at xs n (risen e.0.0 e.0.1)) i.risen ∙ risen_next risen es n e.0 e.1 ∙ ap (λ m. risen_to risen m es) next;
      kept = i.kept;
      room = omega (arith, i.room, c.raise_place.ensures.room);
    }

pub returns-clause-items : goal.returns-clause-items
returns-clause-items g c =
    let risen : Id → ℕ → ℕ = g.W.Rises.risen c.args.walk.now in
    let es = c.self.inside.entries.entries in
    let n = c.loop-place.place in
    let over = c.loop-place-test.false in
    let upto = c.loop-place.auto.place-end in
    let count = c.len-count.ensures.len in
    let all : n ≡ length es = grind (arith, common_steps, over, upto, count) in
    rw (← c.self.view_is)
    (ap (map mark_entry) (c.loop-place.invariant.risen ∙ risen_all risen es n all) ∙ marks_risen risen es)
