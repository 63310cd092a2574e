-- What becomes of the first of the held counters.
use Rattle.std.proofs.Common.{◌≡◌, ℕ, zero, suc, ◌+◌, ◌-◌, ◌≤◌, ◌<◌, List, [], ◌∷◌, ◌++◌, map, length, refl, sym, ap, subst, arith, ◌∙◌, Option, Some, None}
use Rattle.std.specs.Prelude.{cond, nat_le, slice_get}
use Rattle.std.proofs.lemmas.Bool.Decides.{nat_tests}
use Rattle.step_table.specs.declared.known.Entry.{Entry}
use Rattle.step_table.specs.Helds.{parts_of, with_part}
use Rattle.step_table.proofs.Lists.{either_way}
use Rattle.step_counters.specs.declared.machine.Add.{Add}
use Rattle.step_counters.specs.declared.machine.Full.TheVariants.{Full}
use Rattle.step_counters.specs.declared.counter.Counter.{Counter}
use Rattle.step_counters.specs.Adds.{core_of, entry, first_length, first_notes, fault_of, HasRoom, slots_from}

abbrev in_or : {A : Type 0} → A → Option A → A
in_or d None = d
in_or d (Some x) = x

abbrev is_none : Option Counter → Type 0
is_none None = Unit {0}
is_none (Some p) = ⊥

none_is : (first : Counter) → None ≡ Some first → ⊥
none_is first e = subst is_none e tt

abbrev meanings : List (ℕ × Counter) → List Counter
meanings held = map core_of.meaning (parts_of held)

pub meanings_stay : (held : List (ℕ × Counter)) (first now : Counter) → slice_get (parts_of held) 0 ≡ Some first → now.log ≡ first.log → meanings (with_part held 0 now) ≡ meanings held
meanings_stay [] first now at log = refl
meanings_stay (x ∷ xs) first now at log =
    let same : x.1.log ≡ first.log = ap (λ (p : Counter). p.log) (ap (in_or x.1) at) in
    let meant : List (Entry Add ℕ) → List Counter = λ l. record { log = l; room = 0 } ∷ meanings xs in ap meant (log ∙ sym same)

pub room_there : (held : List (ℕ × Counter)) (first now : Counter) → slice_get (parts_of held) 0 ≡ Some first → 1 ≤ now.room → HasRoom (parts_of (with_part held 0 now))
room_there [] first now at room = absurd (none_is first at)
room_there (x ∷ xs) first now at room = omega arith

pub length_there : (held : List (ℕ × Counter)) (first : Counter) → slice_get (parts_of held) 0 ≡ Some first → first_length (meanings held) ≡ length first.log
length_there [] first at = absurd (none_is first at)
length_there (x ∷ xs) first at = ap (λ (p : Counter). length p.log) (ap (in_or x.1) at)

pub room_is : (held : List (ℕ × Counter)) (first : Counter) → slice_get (parts_of held) 0 ≡ Some first → HasRoom (parts_of held) → 1 ≤ first.room
room_is [] first at room = absurd room
room_is (x ∷ xs) first at room = let same : x.1.room ≡ first.room = ap (λ (p : Counter). p.room) (ap (in_or x.1) at) in omega arith

pub noted_there : (held : List (ℕ × Counter)) (first now : Counter) (e : Add) (n reply : ℕ) → slice_get (parts_of held) 0 ≡ Some first → now.log ≡ first.log ++ record { number = n; event = e; reply = reply } ∷ [] → reply ≡ length first.log + 1
    → meanings (with_part held 0 now) ≡ first_notes (meanings held) (entry (meanings held) e n)
noted_there [] first now e n reply at log is = refl
noted_there (x ∷ xs) first now e n reply at log is =
    let same : x.1.log ≡ first.log = ap (λ (p : Counter). p.log) (ap (in_or x.1) at) in
    let meant : List (Entry Add ℕ) → List Counter = λ l. record { log = l; room = 0 } ∷ meanings xs in
    let replied : ℕ → List (Entry Add ℕ) = λ r. first.log ++ record { number = n; event = e; reply = r } ∷ [] in
    let noted : List (Entry Add ℕ) → List (Entry Add ℕ) = λ l. l ++ record { number = n; event = e; reply = length l + 1 } ∷ [] in
    ap meant (log ∙ (ap replied is ∙ ap noted (sym same)))

pub full_when : (ps : List Counter) → 1000000 ≤ first_length ps → fault_of ps ≡ Some Full
full_when ps le = either_way (nat_le 1000000 (first_length ps)) (λ t. ap (λ b. cond b (Some Full) None) t) (λ f. absurd (grind (arith, nat_tests)))

pub fine_when : (ps : List Counter) → first_length ps < 1000000 → fault_of ps ≡ None
fine_when ps lt = either_way (nat_le 1000000 (first_length ps)) (λ t. absurd (grind (arith, nat_tests))) (λ f. ap (λ b. cond b (Some Full) None) f)

-- the first of n slots, and the others
pub slots_next : (k n : ℕ) → 0 < n → slots_from k n ≡ k ∷ slots_from (k + 1) (n - 1)
slots_next k zero lt = absurd (omega arith)
slots_next k (suc n) lt = let e : suc k ≡ k + 1 = omega arith in let f : n ≡ suc n - 1 = omega arith in ap (λ j. k ∷ slots_from j n) e ∙ ap (λ m. k ∷ slots_from (k + 1) m) f
