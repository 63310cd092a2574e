-- The laws of the machine of counters.
use Rattle.std.proofs.Common.{◌≡◌, ℕ, zero, suc, ◌+◌, ◌^◌, ◌≤◌, ◌<◌, List, [], ◌∷◌, map, length, refl, sym, ap, arith, ◌∙◌, length-append, Some, None}
use Rattle.std.specs.Prelude.{cond, nat_le}
use Rattle.std.proofs.lemmas.Bool.Decides.{nat_tests}
use Rattle.step_table.specs.declared.known.Entry.{Entry}
use Rattle.step_table.specs.Lists.{Every, Rising, Above, pick}
use Rattle.step_table.specs.Machines.{Lawful, noted}
use Rattle.step_table.proofs.Lists.{either_way, every_map}
use Rattle.step_table.proofs.Puts.{length_put, found_at}
use Rattle.step_table.proofs.Histories.{every_put, every_pick}
use Rattle.step_counters.specs.declared.machine.Add.{Add}
use Rattle.step_counters.specs.declared.machine.Add.TheVariants.{One, Two, All}
use Rattle.step_counters.specs.declared.machine.Full.TheVariants.{Full}
use Rattle.step_counters.specs.declared.counter.Counter.{Counter}
use Rattle.step_counters.specs.Adds.{slots_from, touches, May, entry, first_notes, fault_of, IsShort, Fits, core_of}

from_below : (k n m : ℕ) → k + n ≤ m → Every (λ j. j < m) (slots_from k n)
from_below k zero m le = tt
from_below k (suc n) m le = (omega arith, from_below (suc k) n m (omega arith))

from_above : (j k n : ℕ) → j < k → Above j (slots_from k n)
from_above j k zero lt = tt
from_above j k (suc n) lt = (lt, from_above k (suc k) n (omega arith))

below : (n : ℕ) (e : Add) → May n e → Every (λ j. j < n) (touches e)
below n (One slot) may = (may, tt)
below n (Two slot other) may = (let a = may.0 in let b = may.1 in omega arith, (may.1, tt))
below n (All count) may = from_below 0 count n (let b = may.1 in omega arith)

some : (n : ℕ) (e : Add) → May n e → 0 < length (touches e)
some n (One slot) may = omega arith
some n (Two slot other) may = omega arith
some n (All zero) may = absurd (let a = may.0 in omega arith)
some n (All (suc count)) may = omega arith

rising : (n : ℕ) (e : Add) → May n e → Rising (touches e)
rising n (One slot) may = tt
rising n (Two slot other) may = (may.0, tt)
rising n (All zero) may = tt
rising n (All (suc count)) may = from_above 0 1 count (omega arith)

fits_some : (ps : List Counter) → 0 < length ps → Every IsShort ps → Fits ps
fits_some [] more all = absurd (omega arith)
fits_some (p ∷ ps) more all = all.0

picked_some : (ks : List ℕ) (ps : List Counter) → 0 < length ks → Every (λ k. k < length ps) ks → 0 < length (pick ks ps)
picked_some [] ps more lt = absurd (omega arith)
picked_some (k ∷ ks) ps more lt = let at = found_at ps k lt.0 in rw at.1 (omega arith)

fits : (ps : List Counter) (e : Add) → Every IsShort ps → May (length ps) e → Fits (pick (touches e) ps)
fits ps e all may = fits_some (pick (touches e) ps) (picked_some (touches e) ps (some (length ps) e may) (below (length ps) e may)) (every_pick IsShort (touches e) ps all)

-- a log that isn't full has room for one entry more
short_after : (qs : List Counter) (e : Entry Add ℕ) → Every IsShort qs → fault_of qs ≡ None → Every IsShort (first_notes qs e)
short_after [] e all fine = tt
short_after (p ∷ ps) e all fine = either_way (nat_le 1000000 (length p.log))
    (λ t. absurd (let f : Some Full ≡ None = sym (ap (λ b. cond b (Some Full) None) t) ∙ fine in grind arith))
    (λ t. ((let l = length-append p.log (e ∷ []) in grind (arith, nat_tests)), all.1))

adds : (qs : List Counter) (e : Entry Add ℕ) → map (λ (p : Counter). p.log) (first_notes qs e) ≡ noted e (map (λ (p : Counter). p.log) qs)
adds [] e = refl
adds (p ∷ ps) e = refl

pub lawful : Lawful core_of
lawful = record {
  some = some;
  rising = rising;
  below = below;
  fits = λ ps e legal may. fits ps e legal.0 may;
  stays = λ ps e n legal may fine number. (
    every_put IsShort (touches e) (first_notes (pick (touches e) ps) (entry (pick (touches e) ps) e n)) ps legal.0
        (short_after (pick (touches e) ps) (entry (pick (touches e) ps) e n) (every_pick IsShort (touches e) ps legal.0) fine),
    (let l = length_put (touches e) (first_notes (pick (touches e) ps) (entry (pick (touches e) ps) e n)) ps in let m = legal.1 in omega arith),
  );
  adds = λ held e n fits fine. adds held (entry held e n);
  few = λ ps legal. legal.1;
  short = λ ps legal. every_map IsShort (λ (p : Counter). length p.log ≤ 2 ^ 30) (λ p short. omega arith) ps legal.0;
}
