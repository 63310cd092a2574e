-- Each clock of a tablet comes after the entry of the state that gave a command that the tablet was given.
use Rattle.std.proofs.Common.{◌≡◌, ℕ, ◌≤◌, ◌<◌, Bool, true, false, List, [], ◌∷◌, ◌++◌, Option, Some, None, refl, sym, subst, arith, not, ◌&&◌, if◌then◌else◌, eqb, lt_of_le_of_lt}
use Rattle.std.proofs.lemmas.Bool.{true≢false}
use Rattle.std.proofs.lemmas.Bool.Decides.{nat_tests}
use Rattle.model.specs.Cluster.{Id, has, Interval, Listed, Master, Parts, Outcome}
use Rattle.model.specs.Journal.{Change as Made}
use Rattle.model.specs.Tablets.{TabletAct, Clock, Offer, Tablet as TabletPart, Command as TabletCommand, BodyKind, act_for, effect, kind_of}
use Rattle.model.specs.Acts.{Act, Send}
use Rattle.model.specs.Coordination.{command_for, pending, send, sending}
use Rattle.model.specs.Stands.{was_given}
use Rattle.model.specs.Entries.{Entry, slots_of}
use Rattle.model.specs.Entering.{ClocksAfter, EnteredBefore, Entering, entered}
use Rattle.model.specs.History.{Legal, activity_of, journal_of, outcome, replay, told}
use Rattle.law_invariants.specs.Invariant.{Inv, Later}
use Rattle.law_invariants.proofs.Finding.{both_pass, in_second}
use Rattle.law_invariants.proofs.Told.{clock_before}
use Rattle.law_invariants.proofs.Commanded.{pending_is}
use Rattle.law_once.specs.Told.{AllTold}
use Rattle.law_once.proofs.Given.{clock_after, pending_given}
use Rattle.law.proofs.Law.{legal_holds, stamps_later}
use Rattle.law.proofs.Chronicle.{all_told, entry_enters}
use Rattle.law.proofs.Saying.{IsSaid, Says, act_says}

-- Who is offered a command

-- what a part is offered is given by a record, whose state was entered before the stamp
abbrev OffersGiven : Act → ℕ → Parts → List Entering → Type 0
OffersGiven act n ps es = (slot : ℕ) (c : TabletCommand) → act_for (outcome act n ps).tablets slot ≡ Offer c → EnteredBefore es c.operation (kind_of c.body) n

said_given : (m : Master) (o : Outcome) (n : ℕ) (es : List Entering) → Says m o → (slot : ℕ) (c : TabletCommand) → act_for o.tablets slot ≡ Offer c → EnteredBefore es c.operation (kind_of c.body) n
said_given m o n es h slot c e = absurd (subst (IsSaid m slot) e (h.says slot))

sending_given : (found : Option Listed) (operation : Id) (slot n : ℕ) (ps : Parts) (activity : List Interval) (changes : List Made) (es : List Entering) → pending ps.master operation slot ≡ found → ps.master.clock < n → Inv ps activity changes → AllTold ps.master es
    → (i : ℕ) (c : TabletCommand) → act_for (sending found operation slot).tablets i ≡ Offer c → EnteredBefore es c.operation (kind_of c.body) n
sending_given None operation slot n ps activity changes es found less inv h i c e = absurd (let q = e in grind arith)
sending_given (Some l) operation slot n ps activity changes es found less inv h i c e =
    let g = pending_given ps.master changes es operation slot l inv.operations h (pending_is ps.master operation slot l found) in
    let mine : EnteredBefore es operation (kind_of l.body) n = record { at = g.0; was_entered = g.1; below = lt_of_le_of_lt (h.past _ g.1) less } in
    by (eqb slot i) mine e
  where
    by : (b : Bool) → EnteredBefore es operation (kind_of l.body) n → (if b then Offer (command_for operation l) else Clock) ≡ Offer c → EnteredBefore es c.operation (kind_of c.body) n
    by true mine e = (let is : command_for operation l ≡ c = cc in subst (λ (d : TabletCommand). EnteredBefore es d.operation (kind_of d.body) n) is mine)
    by false mine e = absurd (let q = e in grind arith)

act_given : (act : Act) (n : ℕ) (ps : Parts) (activity : List Interval) (changes : List Made) (es : List Entering) → Later (slots_of act) ps n → Inv ps activity changes → AllTold ps.master es → OffersGiven act n ps es
unfolding send
act_given (Send operation slot) n ps activity changes es later inv h = sending_given (pending ps.master operation slot) operation slot n ps activity changes es refl (later 0 refl) inv h
act_given act n ps activity changes es later inv h = said_given ps.master (outcome act n ps) n es (act_says act n ps refl)

-- The induction

pub clocks_after : (history : List Entry) (slots : ℕ) → Legal slots history → ClocksAfter (replay slots history) (entered slots history)
unfolding replay entered
clocks_after [] slots legal = λ slot operation kind e. absurd (true≢false (sym e))
clocks_after (e ∷ earlier) slots legal =
    let ps = replay slots earlier in
    let act = e.event.act in
    let n = e.stamp in
    let o = outcome act n ps in
    let es = entered slots earlier in
    let later = stamps_later e ps legal.1.stamp in
    let given = act_given act n ps (activity_of slots earlier) (journal_of slots earlier) es later (legal_holds earlier slots legal.0).inv (all_told earlier slots legal.0) in
    subst (ClocksAfter (told act o n ps)) (sym (entry_enters e earlier slots legal))
    (λ slot operation kind was. by (has (slots_of act) slot && not (eqb slot 0)) _ slot operation kind (ps.tablet slot) (act_for o.tablets slot) n es ps.master
    (λ touched. let both = both_pass (has (slots_of act) slot) (not (eqb slot 0)) touched in clock_before (slots_of act) ps n slot later (positive slot both.1) both.0)
    (λ before. clocks_after earlier slots legal.0 slot operation kind before) (given slot) was)
  where
    positive : (slot : ℕ) → not (eqb slot 0) ≡ true → 1 ≤ slot
    positive slot e = grind (arith, nat_tests)

    by : (b : Bool) (new : List Entering) (slot : ℕ) (operation : Id) (kind : BodyKind) (t : TabletPart) (a : TabletAct) (n : ℕ) (es : List Entering) (m : Master) → (b ≡ true → t.clock < n) → (was_given t operation kind ≡ true → EnteredBefore es operation kind t.clock)
        → ((c : TabletCommand) → a ≡ Offer c → EnteredBefore es c.operation (kind_of c.body) n) → was_given (if b then effect a n t else t) operation kind ≡ true → EnteredBefore (new ++ es) operation kind (if b then effect a n t else t).clock
    by true new slot operation kind t a n es m less before offered was = clock_after a n t m es new operation kind (less refl) before offered was
    by false new slot operation kind t a n es m less before offered was = let h = before was in record { at = h.at; was_entered = in_second new es _ h.was_entered; below = h.below }
