-- The held parts and their meanings: stamps, plans, faults, and what becomes of the first.
use Rattle.std.proofs.Common.{◌≡◌, ℕ, ◌≤◌, ◌<◌, List, [], ◌∷◌, ◌++◌, map, length, refl, sym, ap, subst, arith, ◌∙◌, true, false, Some, None}
use Rattle.std.specs.Prelude.{slice_get, max, nat_le}
use Rattle.std.proofs.lemmas.Bool.Decides.{nat_tests}
use Rattle.std.proofs.lemmas.List.{length-map}
use Rattle.row_values.specs.Stamps as rule
use Rattle.row_values.specs.Slots.{has}
use Rattle.step_table.specs.declared.known.Entry as logged
use Rattle.step_table.specs.Lists.{fst}
use Rattle.step_table.specs.Helds.{slots_of, parts_of, with_part}
use Rattle.model.specs.Times.{end_of_time}
use Rattle.model.specs.Acts.{Event}
use Rattle.model.specs.Parts.{Outcome}
use Rattle.model.specs.Entries.{touches}
use Rattle.model.specs.History.{outcome, most_entries}
use Rattle.machine_laws.specs.Views.{AnswerView, KeptView}
use Rattle.machine_laws.specs.Laid.{at_slot, lay, tablet_in, kept_in, AreKinds}
use Rattle.machine_laws.specs.Faults.{ClockEnd, LogFull, first_slot, first_length, fault_of}
use Rattle.machine_laws.specs.Core.{stamp_at, outcome_at, first_notes}
use Rattle.machine_laws.proofs.Stamps.{held_stamp, lay_meant}
use Rattle.cluster_core.specs.Tellings.{PartTelling, ActFits, meaning, no_room, clock_in}
use Rattle.cluster_core.specs.Readies.{AllFit, AllLater, FirstHasRoom}
use Rattle.cluster_core.specs.Coding.{coding}
use Rattle.cluster_core.proofs.Laying.{some_is}
use Rattle.cluster_core.specs.Held.{Part, Holding}

-- the first part

abbrev shown : KeptView → List (logged.Entry Event AnswerView) → Part
shown k l = record { kept = k; log = l; room = no_room }

pub first_same : (held : Holding) (p q : Part) → slice_get (parts_of held) 0 ≡ Some p → q.kept ≡ p.kept → q.log ≡ p.log → map meaning (parts_of (with_part held 0 q)) ≡ map meaning (parts_of held)
first_same [] p q at kept log = refl
first_same (x ∷ xs) p q at kept log =
    ap (λ k. shown k q.log ∷ map meaning (parts_of xs)) kept ∙ ap (λ l. shown p.kept l ∷ map meaning (parts_of xs)) log ∙ ap (λ (y : Part). shown y.kept y.log ∷ map meaning (parts_of xs)) (sym (some_is at))

pub first_fit : (held : Holding) (p q : Part) (acts : List PartTelling) (n : ℕ) → slice_get (parts_of held) 0 ≡ Some p → q.kept ≡ p.kept → AllFit acts n (parts_of held) → AllFit acts n (parts_of (with_part held 0 q))
first_fit [] p q acts n at kept fit = fit
first_fit (x ∷ xs) p q [] n at kept fit = fit
first_fit (x ∷ xs) p q (a ∷ acts) n at kept fit = (subst (ActFits a n) (ap (λ (y : Part). y.kept) (some_is at) ∙ sym kept) fit.0, fit.1)

pub first_room : (held : Holding) (q : Part) → 0 < length held → 1 ≤ q.room.log → FirstHasRoom (parts_of (with_part held 0 q))
first_room [] q some room = absurd (omega arith)
first_room (x ∷ xs) q some room = room

pub first_noted : (held : Holding) (p q : Part) (e : logged.Entry Event AnswerView) → slice_get (parts_of held) 0 ≡ Some p → q.kept ≡ p.kept → q.log ≡ p.log ++ e ∷ [] → map meaning (parts_of (with_part held 0 q)) ≡ first_notes (map meaning (parts_of held)) e
first_noted [] p q e at kept log = refl
first_noted (x ∷ xs) p q e at kept log =
    ap (λ k. shown k q.log ∷ map meaning (parts_of xs)) kept ∙ ap (λ l. shown p.kept l ∷ map meaning (parts_of xs)) log ∙ ap (λ (y : Part). shown y.kept (y.log ++ e ∷ []) ∷ map meaning (parts_of xs)) (sym (some_is at))

-- meanings

pub kinds_meant : (ks : List ℕ) (ps : List Part) → AreKinds ks (map meaning ps) → AreKinds ks ps
kinds_meant [] ps kinds = tt
kinds_meant (k ∷ ks) [] kinds = kinds
kinds_meant (k ∷ ks) (p ∷ ps) kinds = (kinds.0, kinds_meant ks ps kinds.1)

pub kinds_held : (e : Event) (ks : List ℕ) (ps : List Part) → ks ≡ touches e.act → AreKinds (touches e.act) (map meaning ps) → AreKinds ks ps
kinds_held e ks ps same kinds = kinds_meant ks ps (subst (λ js. AreKinds js (map meaning ps)) (sym same) kinds)

clocks_meant : (ps : List Part) → map clock_in (map meaning ps) ≡ map clock_in ps
clocks_meant [] = refl
clocks_meant (p ∷ ps) = ap (λ cs. clock_in p ∷ cs) (clocks_meant ps)

pub outcome_meant : (e : Event) (ks : List ℕ) (ps : List Part) (n : ℕ) (o : Outcome) → ks ≡ touches e.act → n ≡ stamp_at (map meaning ps) e → o ≡ outcome e.act n (lay ks ps) → o ≡ outcome_at (map meaning ps) e
outcome_meant e ks ps n o same stamp is =
    is ∙ ap (λ js. outcome e.act n (lay js ps)) same ∙ ap (outcome e.act n) (sym (lay_meant coding (touches e.act) ps)) ∙ ap (λ m. outcome e.act m (lay (touches e.act) (map meaning ps))) stamp

pub tablet_laid : (ks : List ℕ) (ps : List Part) (k : ℕ) → has ks k ≡ true → (lay ks ps).tablet k ≡ tablet_in (kept_in (at_slot ks ps k))
tablet_laid ks ps k h = refl

-- the stamp over the held clocks is the event's
pub stamp_meant : (e : Event) (ps : List Part) → AreKinds (touches e.act) (map meaning ps) → length (map meaning ps) ≡ length (touches e.act) → rule.stamp_of 0 (map clock_in ps) e.reading ≡ stamp_at (map meaning ps) e
stamp_meant e ps kinds len = ap (λ cs. rule.stamp_of 0 cs e.reading) (sym (clocks_meant ps)) ∙ held_stamp e (map meaning ps) kinds len

greatest_max : (a b : ℕ) (cs : List ℕ) → a ≤ b → rule.greatest a cs ≤ rule.greatest b cs
greatest_max a b [] le = le
greatest_max a b (c ∷ cs) le = greatest_max (max a c) (max b c) cs (omega arith)

greatest_least : (a : ℕ) (cs : List ℕ) → a ≤ rule.greatest a cs
greatest_least a [] = omega arith
greatest_least a (c ∷ cs) = let h = greatest_least (max a c) cs in omega arith

later_all : (ps : List Part) (a n : ℕ) → rule.greatest a (map clock_in ps) < n → AllLater n ps
later_all [] a n lt = tt
later_all (p ∷ ps) a n lt = (let h = greatest_least (max a (clock_in p)) (map clock_in ps) in omega arith, later_all ps (max a (clock_in p)) n lt)

pub stamp_later : (ps : List Part) (r n : ℕ) → n ≡ rule.stamp_of 0 (map clock_in ps) r → AllLater n ps
stamp_later ps r n is = later_all ps 0 n (omega arith)

later_meant : (ps : List Part) (n : ℕ) → AllLater n (map meaning ps) → AllLater n ps
later_meant [] n later = tt
later_meant (p ∷ ps) n later = (later.0, later_meant ps n later.1)

to_meant : (ps : List Part) (n : ℕ) → AllLater n ps → AllLater n (map meaning ps)
to_meant [] n later = tt
to_meant (p ∷ ps) n later = (later.0, to_meant ps n later.1)

-- preparing keeps the clocks
pub later_kept : (ps qs : List Part) (n : ℕ) → map meaning qs ≡ map meaning ps → AllLater n ps → AllLater n qs
later_kept ps qs n same later = later_meant qs n (subst (AllLater n) (sym same) (to_meant ps n later))

-- faults

first_log : (ps : List Part) (p : Part) → slice_get ps 0 ≡ Some p → first_length (map meaning ps) ≡ length p.log
first_log [] p at = cc
first_log (q ∷ ps) p at = ap (λ (x : Part). length x.log) (some_is at)

firsts : (ks : List ℕ) (slot : ℕ) → slice_get ks 0 ≡ Some slot → first_slot ks ≡ slot
firsts [] slot at = cc
firsts (k ∷ ks) slot at = some_is at

pub clock_fault : (stamp : ℕ) (ks : List ℕ) (ps : List Part) → end_of_time ≤ stamp → fault_of stamp ks ps ≡ Some ClockEnd
clock_fault stamp ks ps le = let t : nat_le end_of_time stamp ≡ true = grind (arith, nat_tests) in rw t refl

pub full_fault : (stamp : ℕ) (ks : List ℕ) (slot : ℕ) (ps : List Part) (p : Part) → stamp < end_of_time → slice_get ks 0 ≡ Some slot → slice_get ps 0 ≡ Some p → most_entries ≤ length p.log → fault_of stamp ks (map meaning ps) ≡ Some (LogFull slot)
full_fault stamp ks slot ps p lt first at many =
    let f : nat_le end_of_time stamp ≡ false = grind (arith, nat_tests) in
    let l = first_log ps p at in
    let t : nat_le most_entries (first_length (map meaning ps)) ≡ true = grind (arith, nat_tests) in
    rw (f, t) (ap (λ s. Some (LogFull s)) (firsts ks slot first))

pub no_fault_is : (stamp : ℕ) (ks : List ℕ) (ps : List Part) (p : Part) → stamp < end_of_time → slice_get ps 0 ≡ Some p → length p.log < most_entries → fault_of stamp ks (map meaning ps) ≡ None
no_fault_is stamp ks ps p lt at few =
    let f : nat_le end_of_time stamp ≡ false = grind (arith, nat_tests) in
    let l = first_log ps p at in
    let g : nat_le most_entries (first_length (map meaning ps)) ≡ false = grind (arith, nat_tests) in
    rw (f, g) refl

pub some_held : (held : Holding) (ks : List ℕ) → slots_of held ≡ ks → 0 < length ks → 0 < length held
some_held held ks same some = let l = length-map held fst in let m = ap length same in omega arith
