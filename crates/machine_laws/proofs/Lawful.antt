-- The laws of the cluster as a machine.
use Rattle.std.proofs.Common.{◌≡◌, ℕ, suc, ◌+◌, ◌-◌, ◌≤◌, ◌<◌, ◌^◌, List, [], ◌∷◌, map, length, refl, sym, ap, subst, arith, ◌∙◌, eqb, Option, Some, None}
use Rattle.std.specs.Prelude.{slice_get}
use Rattle.std.specs.Option.{option_map}
use Rattle.step_table.specs.declared.known.Entry as line
use Rattle.step_table.specs.Lists.{Every, pick, put}
use Rattle.step_table.specs.Machines.{Lawful, noted}
use Rattle.step_table.proofs.Lists.{either_way}
use Rattle.step_table.proofs.Puts.{found_at}
use Rattle.step_table.proofs.Laws.{length_pick}
use Rattle.model.specs.Acts.{Event}
use Rattle.model.specs.Entries.{Entry, Asked, touches, slots_of, log_of}
use Rattle.model.specs.History.{Legal, held, entry_of, most_entries, replay}
use Rattle.law_local.specs.Agreeing.{Agree}
use Rattle.machine_laws.specs.Views.{AnswerView, PartView, PartAct}
use Rattle.machine_laws.specs.Laid.{lay, parts_of, told_acts, all_after, kept_in, entries_in, HasKind, AreKinds}
use Rattle.machine_laws.specs.Faults.{StepFault, fault_of}
use Rattle.machine_laws.specs.Past.{IsPast, IsLegal}
use Rattle.machine_laws.specs.Core.{Coding, core_of, May, Fits, first_notes, stamp_at, outcome_at, answer_at, after_at}
use Rattle.machine_laws.proofs.Slots.{rising_is, touched_below, touched_some}
use Rattle.machine_laws.proofs.Laying.{is_eq, get_found, count_acts}
use Rattle.machine_laws.proofs.Stepping.{agree}
use Rattle.machine_laws.proofs.Pasts.{past_next}

below : (count : ℕ) (e : Event) → May count e → Every (λ k. k < count) (touches e.act)
below count e may = let same : (count - 1) + 1 ≡ count = (let some = may.0 in omega arith) in subst (λ m. Every (λ k. k < m) (touches e.act)) same (touched_below (count - 1) e.act may.1.act)

-- a history's event is asked of its cluster
pub asked_of : {R : Type 0} (slots : ℕ) (history : List Entry) (ps : List (PartView R)) (e : Event) → IsPast slots history ps → May (length ps) e → Asked slots e
asked_of slots history ps e past may = let size : length ps - 1 ≡ slots = (let s = past.size in omega arith) in subst (λ m. Asked m e) size may.1

-- no fault is refused
pub no_refusal : {F : Type 0} (refused : StepFault → F) (fault : Option StepFault) → option_map refused fault ≡ None → fault ≡ None
no_refusal refused None fine = refl
no_refusal refused (Some why) fine = cc

-- no log has more entries than it may
pub held_most : (slots k : ℕ) (history : List Entry) → Legal slots history → held k history ≤ most_entries
held_most slots k [] legal = omega arith
held_most slots k (e ∷ earlier) legal =
    let h = held_most slots k earlier legal.0 in
    either_way (eqb (log_of e.event.act) k)
    (λ t. let room : held k earlier < most_entries = subst (λ j. held j earlier < most_entries) (is_eq (log_of e.event.act) k t) legal.1.room in rw t (omega arith))
    (λ f. rw f h)

module _ {R : Type 0} where
  kinds_picked : (ks : List ℕ) (ps : List (PartView R)) → Every (λ k. k < length ps) ks → ((k : ℕ) → k < length ps → HasKind k (kept_in (slice_get ps k))) → AreKinds ks (pick ks ps)
  kinds_picked [] ps lt kinds = tt
  kinds_picked (k ∷ ks) ps lt kinds =
      let at = found_at ps k lt.0 in
      rw at.1 (subst (λ (p : Option (PartView R)). HasKind k (kept_in p)) (get_found ps k at.0 at.1) (kinds k lt.0), kinds_picked ks ps lt.1 kinds)

  logs_after : (acts : List PartAct) (n : ℕ) (ps : List (PartView R)) → length acts ≡ length ps → map (λ (p : PartView R). p.log) (all_after acts n ps) ≡ map (λ (p : PartView R). p.log) ps
  logs_after [] n ps len = refl
  logs_after (a ∷ acts) n [] len = absurd (omega arith)
  logs_after (a ∷ acts) n (p ∷ ps) len = ap (λ logs. p.log ∷ logs) (logs_after acts n ps (omega arith))

  logs_noted : (ps : List (PartView R)) (e : line.Entry Event AnswerView) → map (λ (p : PartView R). p.log) (first_notes ps e) ≡ noted e (map (λ (p : PartView R). p.log) ps)
  logs_noted [] e = refl
  logs_noted (p ∷ ps) e = refl

  adds : (held : List (PartView R)) (e : Event) (n : ℕ) → length held ≡ length (touches e.act)
      → map (λ (p : PartView R). p.log) (after_at held e n) ≡ noted (record { number = n; event = e; reply = answer_at held e }) (map (λ (p : PartView R). p.log) held)
  adds held e n size =
      let acts = told_acts (outcome_at held e) (touches e.act) in
      let entry : line.Entry Event AnswerView = record { number = n; event = e; reply = answer_at held e } in
      logs_noted (all_after acts (stamp_at held e) held) entry ∙ ap (noted entry) (logs_after acts (stamp_at held e) held (count_acts (outcome_at held e) (touches e.act) ∙ sym size))

  each_short : (ps : List (PartView R)) → ((k : ℕ) → k < length ps → entries_in (slice_get ps k) ≤ most_entries) → Every (λ (p : PartView R). length p.log ≤ 2 ^ 30) ps
  each_short [] short = tt
  each_short (p ∷ ps) short = (let s = short 0 (omega arith) in omega arith, each_short ps (λ k l. short (suc k) (omega arith)))

  stays : (ps : List (PartView R)) (e : Event) (n : ℕ) → IsLegal ps → May (length ps) e → fault_of (stamp_at (pick (touches e.act) ps) e) (touches e.act) (pick (touches e.act) ps) ≡ None
      → IsLegal (put (touches e.act) (after_at (pick (touches e.act) ps) e n) ps)
  stays ps e n legal may fine = record {
    slots = legal.slots;
    few = legal.few;
    history = entry_of legal.slots e legal.history ∷ legal.history;
    past = past_next legal.slots legal.history ps e n legal.past (asked_of legal.slots legal.history ps e legal.past may) fine;
  }

pub lawful : {R D F : Type 0} (code : Coding R D F) → Lawful (core_of code)
lawful code = record {
  some = λ count e may. touched_some (count - 1) e.act may.1.act;
  rising = λ count e may. rising_is (slots_of e.act);
  below = below;
  fits = λ ps e legal may. record {
    parts = ps;
    legal = legal;
    may = may;
    touched = refl;
    size = length_pick (touches e.act) ps (below (length ps) e may);
    kinds = kinds_picked (touches e.act) ps (below (length ps) e may) legal.past.kinds;
  };
  stays = λ ps e n legal may fine number. stays ps e n legal may (no_refusal code.refused (fault_of (stamp_at (pick (touches e.act) ps) e) (touches e.act) (pick (touches e.act) ps)) fine);
  adds = λ held e n fits fine. adds held e n fits.size;
  few = λ ps legal. let size = legal.past.size in let few = legal.few in omega arith;
  short = λ ps legal. each_short ps (λ k l. let h = legal.past.holds k l in let m = held_most legal.slots k legal.history legal.past.legal in omega arith);
}

-- held parts are what the history of all parts leaves of them
pub held_replayed : {R : Type 0} (e : Event) (held : List (PartView R)) (fits : Fits held e) → Agree (slots_of e.act) (lay (touches e.act) held) (replay fits.legal.slots fits.legal.history)
held_replayed e held fits =
    subst (λ ps. Agree (slots_of e.act) (lay (touches e.act) held) ps) fits.legal.past.shows
    (subst (λ hs. Agree (slots_of e.act) (lay (touches e.act) hs) (parts_of fits.parts)) (sym fits.touched) (agree e.act fits.parts (below (length fits.parts) e fits.may)))
