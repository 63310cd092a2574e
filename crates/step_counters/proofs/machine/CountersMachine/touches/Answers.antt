use Rattle.std.proofs.Common.{◌≡◌, ◌+◌, ◌-◌, ◌++◌, ◌∷◌, [], ℕ, List, sym, ap, ◌∙◌, arith, append_assoc}
use Rattle.step_counters.specs.Adds.{slots_from}
use Rattle.step_counters.proofs.Firsts.{slots_next}
use Rattle.step_counters.proofs.machine.CountersMachine.touches.Goals as goal

pub loop-slot-preserved : goal.loop-slot-preserved
loop-slot-preserved c =
    let s = c.loop-slot.slot in
    let n = c.in-All.count in
    let before : List ℕ = c.loop-slot.slots in
    let lt = c.loop-slot-test.true in
    let rest : n - s - 1 ≡ n - (s + 1) = omega arith in
    let first : slots_from s (n - s) ≡ s ∷ slots_from (s + 1) (n - (s + 1)) = slots_next s (n - s) (omega arith) ∙ ap (λ m. s ∷ slots_from (s + 1) m) rest in
    let inv : before ++ slots_from s (n - s) ≡ slots_from 0 n = c.loop-slot.invariant in
    ap (λ xs. xs ++ slots_from (s + 1) (n - (s + 1))) c.in_ok-push-in-All.ensures.pushed
    ∙ (append_assoc before (s ∷ []) (slots_from (s + 1) (n - (s + 1))) ∙ (ap (λ xs. before ++ xs) (sym first) ∙ inv))
