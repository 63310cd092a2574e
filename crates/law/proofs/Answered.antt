-- A legal history is right.
use Rattle.std.proofs.Common.{ℕ, List, [], ◌∷◌, sym, subst}
use Rattle.model.specs.Entries.{Entry}
use Rattle.model.specs.History.{replay, journal_of, activity_of, Legal}
use Rattle.model.specs.Replies.{AnswerRight, Right}
use Rattle.law_answers.proofs.Answering.{IsKnown, answer_right}
use Rattle.law.proofs.Law.{legal_holds, stamps_later}
use Rattle.law.proofs.Versions.{versions_then}
use Rattle.law.proofs.Numbering.{all_stand}
use Rattle.law.proofs.Apart.{records_apart}
use Rattle.law.proofs.Fixed.{fixed_stays}

-- what replies go by
legal_known : (history : List Entry) (slots : ℕ) → Legal slots history → IsKnown (replay slots history).master (journal_of slots history)
legal_known history slots legal = record {
  versions = versions_then (replay slots history).master.catalog.tables (journal_of slots history) (legal_holds history slots legal).inv.master.tables.rise (all_stand history slots legal).versions;
  apart = records_apart history slots legal;
}

-- the reply of a further entry is right
pub entry_right : (e : Entry) (earlier : List Entry) (slots : ℕ) → Legal slots (e ∷ earlier) → AnswerRight e.event.act e.reply e.stamp (replay slots earlier) (activity_of slots earlier) (journal_of slots earlier)
entry_right e earlier slots legal =
    let ps = replay slots earlier in
    let changes = journal_of slots earlier in
    subst (λ r. AnswerRight e.event.act r e.stamp ps (activity_of slots earlier) changes) (sym legal.1.reply)
    (answer_right e.event.act slots e.stamp ps (activity_of slots earlier) changes (stamps_later e ps legal.1.stamp) legal.1.asked.act (legal_holds earlier slots legal.0).inv (legal_known earlier slots legal.0))

pub legal_right : (history : List Entry) (slots : ℕ) → Legal slots history → Right slots history
legal_right [] slots legal = tt
legal_right (e ∷ earlier) slots legal = (legal_right earlier slots legal.0, (entry_right e earlier slots legal, fixed_stays (e ∷ earlier) slots legal))
