use Rattle.std.proofs.Common.{◌≡◌, ◌+◌, ◌∷◌, List, [], ℕ, zero, suc, map, drop, sym, ap, ◌∙◌, arith, Some}
use Rattle.std.specs.Prelude.{slice_get, max}
use Rattle.row_values.specs.Stamps as rule
use Rattle.step_table.specs.Helds.{parts_of}
use Rattle.cluster_core.specs.Tellings.{clock_in}
use Rattle.cluster_core.proofs.Laying.{some_is}
use Rattle.cluster_core.specs.Held.{Part}
use Rattle.cluster_core.proofs.parts.next_stamp.Goals as goal

clock_next : (i : ℕ) (ps : List Part) (p : Part) → slice_get ps i ≡ Some p → drop i (map clock_in ps) ≡ clock_in p ∷ drop (suc i) (map clock_in ps)
clock_next i [] p at = cc
clock_next zero (q ∷ ps) p at = ap (λ (x : Part). clock_in x ∷ map clock_in ps) (some_is at)
clock_next (suc i) (q ∷ ps) p at = clock_next i ps p at

pub loop-i-preserved : goal.loop-i-preserved
loop-i-preserved g c =
    let ps = parts_of c.args.held.now in
    let e = clock_next c.loop-i.i ps c.part.result.now c.part.ensures.part in
    let m : c.greater-greatest.result ≡ max c.loop-i.greatest (clock_in c.part.result.now) = c.greater-greatest.ensures.exact ∙ ap (λ n. max c.loop-i.greatest n) (c.number.ensures.value ∙ c.clock.ensures.clock) in
    let one : suc c.loop-i.i ≡ c.loop-i.i + 1 = omega arith in
    let b = c.number.ensures.bound in
    let v = c.number.ensures.value in
    let w = c.clock.ensures.clock in
    let inv = c.loop-i.invariant.bound in
    record {
      so_far = ap (λ x. rule.greatest x (drop (c.loop-i.i + 1) (map clock_in ps))) m ∙ ap (λ k. rule.greatest (max c.loop-i.greatest (clock_in c.part.result.now)) (drop k (map clock_in ps))) (sym one)
          ∙ sym (ap (rule.greatest c.loop-i.greatest) e) ∙ c.loop-i.invariant.so_far;
      bound = omega arith;
    }
