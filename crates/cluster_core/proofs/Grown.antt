-- One step of the line is one entry of the book.
use Rattle.std.proofs.Common.{◌≡◌, ℕ, ◌-◌, List, [], ◌∷◌, length, refl, sym, ap, subst, arith, ◌∙◌, Option, Some, None, inl, inr}
use Rattle.std.specs.Option.{option_map}
use Rattle.step_table.specs.Machines.{touched}
use Rattle.step_table.specs.Histories.{history_of}
use Rattle.step_line.specs.Lines.{Stepped, Declined}
use Rattle.model.specs.Acts.{Event}
use Rattle.model.specs.Entries.{Entry, Asked}
use Rattle.model.specs.Parts.{Parts}
use Rattle.model.specs.Stands.{Stands, RecordFacts}
use Rattle.model.specs.History.{Legal, entry_of, replay, journal_of}
use Rattle.machine_laws.specs.Laid.{parts_of}
use Rattle.machine_laws.specs.Views.{AnswerView}
use Rattle.machine_laws.specs.Faults as law
use Rattle.machine_laws.specs.Faults.{StepFault, fault_after}
use Rattle.machine_laws.specs.Past.{IsPast, book, book_entry}
use Rattle.machine_laws.specs.Core.{core_of, May}
use Rattle.machine_laws.proofs.Lawful.{no_refusal}
use Rattle.machine_laws.proofs.Replays.{book_snoc, entry_book, past_step, refusal_is}
use Rattle.cluster_core.specs.declared.fault.StepRefused.{StepRefused}
use Rattle.cluster_core.specs.Causes.{fault_told, RefusedBy}
use Rattle.cluster_core.specs.Coding.{coding}
use Rattle.cluster_core.proofs.Laying.{some_is}
use Rattle.cluster_core.specs.Held.{Part}

pub may_be : (slots : ℕ) (history : List Entry) (ps : List Part) (e : Event) → IsPast slots history ps → Asked slots e → May (length ps) e
may_be slots history ps e past asked = let size = past.size in let same : slots ≡ length ps - 1 = omega arith in (omega arith, subst (λ n. Asked n e) same asked)

module _ (slots : ℕ) (before after : List Part) (e : Event) (r : AnswerView) (past : IsPast slots (book (history_of (core_of coding) before)) before) (step : Stepped (core_of coding) e r before after) where
  abbrev h : List Entry
  h = book (history_of (core_of coding) before)

  grown : book (history_of (core_of coding) after) ≡ book_entry step.entry ∷ h
  grown = ap book step.history ∙ book_snoc (history_of (core_of coding) before) step.entry []

  entry : book_entry step.entry ≡ entry_of slots e h
  entry = entry_book coding slots h before step.entry past step.step ∙ ap (λ x. entry_of slots x h) step.event

  pub history_is : book (history_of (core_of coding) after) ≡ entry_of slots e h ∷ h
  history_is = grown ∙ ap (λ x. x ∷ h) entry

  pub stamp_is : r.stamp ≡ (entry_of slots e h).stamp
  stamp_is = ap (λ (a : AnswerView). a.stamp) (sym step.reply) ∙ ap (λ (x : Entry). x.stamp) entry

  pub reply_is : r.reply ≡ (entry_of slots e h).reply
  reply_is = ap (λ (a : AnswerView). a.reply) (sym step.reply) ∙ ap (λ (x : Entry). x.reply) entry

  pub past_is : IsPast slots (book (history_of (core_of coding) after)) after
  past_is = subst (λ hs. IsPast slots hs after) (sym grown) (subst (IsPast slots (book_entry step.entry ∷ h)) (sym step.parts) (past_step coding slots h before step.entry past step.step))

  pub no_fault : fault_after slots e h ≡ None
  no_fault = no_refusal fault_told (fault_after slots e h)
      (sym (refusal_is coding slots h before e past (subst (May (length before)) step.event step.step.0)) ∙ ap (λ x. (core_of coding).refusal (touched (core_of coding) before x) x) (sym step.event) ∙ step.step.1)

-- why no step was made
by_fault : (fault : Option StepFault) (why : StepRefused) → option_map fault_told fault ≡ Some why → RefusedBy fault why
by_fault None why is = cc
by_fault (Some law.ClockEnd) why is = subst (RefusedBy (Some law.ClockEnd)) (some_is is) refl
by_fault (Some (law.LogFull slot)) why is = subst (RefusedBy (Some (law.LogFull slot))) (some_is is) refl

pub cause_is : (slots : ℕ) (history : List Entry) (ps : List Part) (e : Event) (why : StepRefused) → IsPast slots history ps → Asked slots e → Declined (core_of coding) e why ps → RefusedBy (fault_after slots e history) why
cause_is slots history ps e why past asked (inl none) = subst (RefusedBy (fault_after slots e history)) (sym none) tt
cause_is slots history ps e why past asked (inr fault) =
    by_fault (fault_after slots e history) why (sym (refusal_is coding slots history ps e past (may_be slots history ps e past asked)) ∙ fault)

-- what the law says of a legal history it says of parts with that past

pub stands_past : (slots : ℕ) (history : List Entry) (ps : List Part) → ((m : ℕ) (h : List Entry) → Legal m h → Stands (replay m h) (journal_of m h)) → IsPast slots history ps → Stands (parts_of ps) (journal_of slots history)
stands_past slots history ps holds past = subst (λ (p : Parts). Stands p (journal_of slots history)) (sym past.shows) (holds slots history past.legal)

pub facts_past : (slots : ℕ) (history : List Entry) (ps : List Part) → ((m : ℕ) (h : List Entry) → Legal m h → RecordFacts (replay m h) (journal_of m h)) → IsPast slots history ps → RecordFacts (parts_of ps) (journal_of slots history)
facts_past slots history ps holds past = subst (λ (p : Parts). RecordFacts p (journal_of slots history)) (sym past.shows) (holds slots history past.legal)
