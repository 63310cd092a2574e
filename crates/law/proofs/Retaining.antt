-- Retention holds of what a legal history leaves.
use Rattle.std.proofs.Common.{List, ◌∷◌, ℕ}
use Rattle.model.specs.Entries.{Entry}
use Rattle.model.specs.History.{Legal, activity_of, journal_of, replay, scheduled_since, snapshots_taken}
use Rattle.model.specs.Retained.{Retained, RowsFound}
use Rattle.model.specs.Taking.{TakesNothingNeeded}
use Rattle.law_retention.proofs.Lasting.{rows_found}
use Rattle.law_retention.proofs.Retaining.{facts_retain}
use Rattle.law_retention.proofs.Taking.{act_takes_nothing}
use Rattle.law.proofs.Law.{legal_holds, stamps_later}

pub legal_retained : (history : List Entry) (slots : ℕ) → Legal slots history → Retained (replay slots history) (activity_of slots history) (snapshots_taken slots history) (scheduled_since slots history)
legal_retained history slots legal = let h = legal_holds history slots legal in facts_retain _ _ _ _ _ h.inv h.facts h.taken

-- a command in an inbox finds its rows
pub legal_found : (history : List Entry) (slots : ℕ) → Legal slots history → RowsFound (replay slots history)
legal_found history slots legal = let h = legal_holds history slots legal in rows_found _ _ _ h.inv h.facts

-- an act takes nothing that a time needs
pub legal_needed : (e : Entry) (earlier : List Entry) (slots : ℕ) → Legal slots (e ∷ earlier) → TakesNothingNeeded e.event.act (replay slots earlier) (replay slots (e ∷ earlier))
unfolding replay
legal_needed e earlier slots legal =
    let before = legal_holds earlier slots legal.0 in
    act_takes_nothing e.event.act slots legal.1.asked.act e.stamp (replay slots earlier) (activity_of slots earlier) (journal_of slots earlier) (stamps_later e (replay slots earlier) legal.1.stamp)
    before.inv before.facts (activity_of slots (e ∷ earlier)) (journal_of slots (e ∷ earlier)) (legal_holds (e ∷ earlier) slots legal).inv
