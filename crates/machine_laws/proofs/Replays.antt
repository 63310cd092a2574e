-- What the machine's entries leave of parts is the book's replay of the same entries.
use Rattle.std.proofs.Common.{◌≡◌, ℕ, List, [], ◌∷◌, ◌++◌, length, refl, sym, ap, subst, ◌∙◌}
use Rattle.std.specs.Option.{option_map}
use Rattle.step_table.specs.declared.known.Entry as line
use Rattle.step_table.specs.Lists.{pick}
use Rattle.step_table.specs.Machines.{leaves, next, IsStep, IsRight}
use Rattle.model.specs.Acts.{Event}
use Rattle.model.specs.Entries.{Entry, touches}
use Rattle.model.specs.History.{entry_of}
use Rattle.machine_laws.specs.Views.{AnswerView, PartView}
use Rattle.machine_laws.specs.Faults.{fault_of, fault_after}
use Rattle.machine_laws.specs.Past.{IsPast, book_entry, book_onto}
use Rattle.machine_laws.specs.Core.{Coding, core_of, May, stamp_at}
use Rattle.machine_laws.proofs.Pasts.{past_next, entry_is, fault_is}
use Rattle.machine_laws.proofs.Lawful.{asked_of, no_refusal}

pub book_snoc : (es : List (line.Entry Event AnswerView)) (e : line.Entry Event AnswerView) (history : List Entry) → book_onto (es ++ e ∷ []) history ≡ book_entry e ∷ book_onto es history
book_snoc [] e history = refl
book_snoc (x ∷ es) e history = book_snoc es e (book_entry x ∷ history)

-- the refusal of the touched parts is by the book's history
pub refusal_is : {R D F : Type 0} (code : Coding R D F) (slots : ℕ) (history : List Entry) (ps : List (PartView R)) (e : Event) → IsPast slots history ps → May (length ps) e
    → (core_of code).refusal (pick (touches e.act) ps) e ≡ option_map code.refused (fault_after slots e history)
refusal_is code slots history ps e past may = ap (option_map code.refused) (fault_is slots history ps e 0 past (asked_of slots history ps e past may))

-- one step of the machine is one entry of the book
pub entry_book : {R D F : Type 0} (code : Coding R D F) (slots : ℕ) (history : List Entry) (ps : List (PartView R)) (e : line.Entry Event AnswerView) → IsPast slots history ps → IsStep (core_of code) ps e
    → book_entry e ≡ entry_of slots e.event history
entry_book code slots history ps e past step =
    ap (λ (a : AnswerView). record { number = e.number; event = e.event; stamp = a.stamp; reply = a.reply }) step.2
    ∙ entry_is slots history ps e.event e.number past (asked_of slots history ps e.event past step.0) step.3

pub past_step : {R D F : Type 0} (code : Coding R D F) (slots : ℕ) (history : List Entry) (ps : List (PartView R)) (e : line.Entry Event AnswerView) → IsPast slots history ps → IsStep (core_of code) ps e
    → IsPast slots (book_entry e ∷ history) (next (core_of code) ps e.event e.number)
past_step code slots history ps e past step =
    subst (λ x. IsPast slots (x ∷ history) (next (core_of code) ps e.event e.number)) (sym (entry_book code slots history ps e past step))
    (past_next slots history ps e.event e.number past (asked_of slots history ps e.event past step.0)
    (no_refusal code.refused (fault_of (stamp_at (pick (touches e.event.act) ps) e.event) (touches e.event.act) (pick (touches e.event.act) ps)) step.1))

-- and so it is of all entries
pub leaves_past : {R D F : Type 0} (code : Coding R D F) (slots : ℕ) (history : List Entry) (given : List (PartView R)) (es : List (line.Entry Event AnswerView)) → IsPast slots history given → IsRight (core_of code) given es
    → IsPast slots (book_onto es history) (leaves (core_of code) given es)
leaves_past code slots history given [] past right = past
leaves_past code slots history given (e ∷ es) past right =
    leaves_past code slots (book_entry e ∷ history) (next (core_of code) given e.event e.number) es (past_step code slots history given e past right.0) right.1
