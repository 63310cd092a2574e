-- The machine of counters.
use Rattle.std.specs.Prelude.{◌≡◌, ℕ, zero, suc, ◌+◌, ◌^◌, ◌≤◌, ◌<◌, List, [], ◌∷◌, ◌++◌, length, Option, Some, None, cond, nat_le}
use Rattle.step_table.specs.declared.known.Entry.{Entry}
use Rattle.step_table.specs.Lists.{Every}
use Rattle.step_table.specs.Machines.{Core}
use Rattle.step_counters.specs.declared.machine.Add.{Add}
use Rattle.step_counters.specs.declared.machine.Add.TheVariants.{One, Two, All}
use Rattle.step_counters.specs.declared.counter.Counter.{Counter}
use Rattle.step_counters.specs.declared.machine.Full.{Full as Fault}
use Rattle.step_counters.specs.declared.machine.Full.TheVariants.{NoMemory, Full}

-- n slots, from k on
abbrev pub slots_from : ℕ → ℕ → List ℕ
slots_from k zero = []
slots_from k (suc n) = k ∷ slots_from (suc k) n

abbrev pub touches : Add → List ℕ
touches (One slot) = slot ∷ []
touches (Two slot other) = slot ∷ other ∷ []
touches (All count) = slots_from 0 count

abbrev pub May : ℕ → Add → Type 0
May n (One slot) = slot < n
May n (Two slot other) = (slot < other) × (other < n)
May n (All count) = (0 < count) × (count ≤ n)

abbrev pub first_length : List Counter → ℕ
first_length [] = 0
first_length (p ∷ ps) = length p.log

abbrev pub entry : List Counter → Add → ℕ → Entry Add ℕ
entry ps e n = record { number = n; event = e; reply = first_length ps + 1 }

abbrev pub first_notes : List Counter → Entry Add ℕ → List Counter
first_notes [] e = []
first_notes (p ∷ ps) e = record p { log = p.log ++ e ∷ [] } ∷ ps

abbrev pub fault_of : List Counter → Option Fault
fault_of ps = cond (nat_le 1000000 (first_length ps)) (Some Full) None

abbrev pub HasRoom : List Counter → Type 0
HasRoom [] = ⊥
HasRoom (p ∷ ps) = 0 < p.room

abbrev pub IsShort : Counter → Type 0
IsShort p = length p.log ≤ 1000000

abbrev pub IsEmpty : Counter → Type 0
IsEmpty p = p.log ≡ []

-- there is a touched part, and its log isn't too long
abbrev pub Fits : List Counter → Type 0
Fits [] = ⊥
Fits (p ∷ ps) = IsShort p

abbrev pub core_of : Core Counter Add Add ℕ Fault
core_of = record {
  touches = touches;
  meaning = λ p. record p { room = 0 };
  log = λ p. p.log;
  after = λ ps e n. first_notes ps (entry ps e n);
  reply = λ ps e n. first_length ps + 1;
  refusal = λ ps e. fault_of ps;
  no_memory = NoMemory;
  event_of = λ d. d;
  CanApply = λ ps d. HasRoom ps;
  May = May;
  Legal = λ ps. Every IsShort ps × (length ps < 2 ^ 32);
  Fits = λ ps e. Fits ps;
}
