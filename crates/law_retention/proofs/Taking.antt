-- Each act takes nothing that a time needs, and keeps the facts that retention rests on.
use Rattle.std.proofs.Common.{ℕ, List}
use Rattle.std.proofs.lemmas.Bool.{true≢false}
use Rattle.model.specs.Acts.{Act, Look, Change, Write, Read, Cutoff, Compact, Send, Process, Ack, Advance, Remove, Prune, Restart, Stats}
use Rattle.model.specs.Activity.{Interval}
use Rattle.model.specs.Entries.{ActAsked, slots_of}
use Rattle.model.specs.History.{outcome}
use Rattle.model.specs.Journal.{Change as Made}
use Rattle.model.specs.Parts.{Outcome, Parts, start}
use Rattle.law_invariants.specs.Invariant.{Inv, Later}
use Rattle.law_retention.specs.Facts.{Facts}
use Rattle.law_retention.proofs.Acting.{IsHarmless, look_takes_nothing, write_takes_nothing, read_takes_nothing, cutoff_takes_nothing, compact_takes_nothing, send_takes_nothing, ack_takes_nothing, restart_takes_nothing, stats_takes_nothing}
use Rattle.law_retention.proofs.Cleaning.{prune_takes_nothing, remove_takes_nothing}
use Rattle.law_retention.proofs.Acts.{KeepsFacts, look_keeps_facts, write_keeps_facts, read_keeps_facts, cutoff_keeps_facts, compact_keeps_facts, restart_keeps_facts, stats_keeps_facts}
use Rattle.law_retention.proofs.Doing.{process_keeps_facts}
use Rattle.law_retention.proofs.Changing.{HoldsThen, change_holds}
use Rattle.law_retention.proofs.Advances.{advance_leaves}
use Rattle.law_retention.proofs.Commands.{Leaves, change_leaves}
use Rattle.law_retention.proofs.Moving.{advance_holds}
use Rattle.law_retention.proofs.Obeying.{process_leaves}
use Rattle.law_retention.proofs.Clearing.{send_keeps_facts, ack_keeps_facts, prune_keeps_facts, remove_keeps_facts}

-- the acts that need nothing of the parts after
before_alone : (act : Act) (made : ℕ → Parts → Outcome) → KeepsFacts act made → (n : ℕ) (ps : Parts) (activity : List Interval) (changes : List Made) → Later (slots_of act) ps n → Inv ps activity changes → Facts ps → HoldsThen act n ps (made n ps)
before_alone act made keeps n ps activity changes later inv facts a c after = keeps n ps activity changes later inv facts

pub act_keeps_facts : (act : Act) (slots : ℕ) → ActAsked slots act → (n : ℕ) (ps : Parts) (activity : List Interval) (changes : List Made) → Later (slots_of act) ps n → Inv ps activity changes → Facts ps → HoldsThen act n ps (outcome act n ps)
act_keeps_facts (Look ask) slots asked = before_alone (Look ask) (outcome (Look ask)) (look_keeps_facts ask)
act_keeps_facts (Change command plan) slots asked = change_holds command plan
act_keeps_facts (Write place version batch) slots asked = before_alone (Write place version batch) (outcome (Write place version batch)) (write_keeps_facts place version batch)
act_keeps_facts (Read places version key at columns) slots asked = before_alone (Read places version key at columns) (outcome (Read places version key at columns)) (read_keeps_facts places version key at columns)
act_keeps_facts (Cutoff slot) slots asked = before_alone (Cutoff slot) (outcome (Cutoff slot)) (cutoff_keeps_facts slot)
act_keeps_facts (Compact slot) slots asked = before_alone (Compact slot) (outcome (Compact slot)) (compact_keeps_facts slot)
act_keeps_facts (Send operation slot) slots asked = before_alone (Send operation slot) (outcome (Send operation slot)) (send_keeps_facts operation slot)
act_keeps_facts (Process slot other) slots asked = before_alone (Process slot other) (outcome (Process slot other)) (process_keeps_facts slot other)
act_keeps_facts (Ack operation slot) slots asked = before_alone (Ack operation slot) (outcome (Ack operation slot)) (ack_keeps_facts operation slot)
act_keeps_facts (Advance operation) slots asked = advance_holds operation
act_keeps_facts (Remove target plan) slots asked = before_alone (Remove target plan) (outcome (Remove target plan)) (remove_keeps_facts target plan asked.0)
act_keeps_facts Prune slots asked = before_alone Prune (outcome Prune) (prune_keeps_facts)
act_keeps_facts (Restart slot) slots asked = before_alone (Restart slot) (outcome (Restart slot)) (restart_keeps_facts slot)
act_keeps_facts (Stats slot) slots asked = before_alone (Stats slot) (outcome (Stats slot)) (stats_keeps_facts slot)

-- what is to be shown of an act: where the invariants hold before it and after it, and the facts before it, it takes nothing that a
-- time needs
abbrev pub IsSparing : Act → (ℕ → Parts → Outcome) → Type 0
IsSparing act made = (n : ℕ) (ps : Parts) (activity : List Interval) (changes : List Made) → Later (slots_of act) ps n → Inv ps activity changes → Facts ps → Leaves act n ps (made n ps)

-- an act that takes nothing where the facts hold after it too
spares : (act : Act) (slots : ℕ) → ActAsked slots act → IsHarmless act (outcome act) → IsSparing act (outcome act)
spares act slots asked harmless n ps activity changes later inv facts later_activity later_changes after =
    harmless n ps activity changes later inv later_activity later_changes after (act_keeps_facts act slots asked n ps activity changes later inv facts later_activity later_changes after)

pub act_takes_nothing : (act : Act) (slots : ℕ) → ActAsked slots act → IsSparing act (outcome act)
act_takes_nothing (Look ask) slots asked = spares (Look ask) slots asked (look_takes_nothing ask)
act_takes_nothing (Change command plan) slots asked = change_leaves command plan
act_takes_nothing (Write place version batch) slots asked = spares (Write place version batch) slots asked (write_takes_nothing place version batch)
act_takes_nothing (Read places version key at columns) slots asked = spares (Read places version key at columns) slots asked (read_takes_nothing places version key at columns)
act_takes_nothing (Cutoff slot) slots asked = spares (Cutoff slot) slots asked (cutoff_takes_nothing slot)
act_takes_nothing (Compact slot) slots asked = spares (Compact slot) slots asked (compact_takes_nothing slot)
act_takes_nothing (Send operation slot) slots asked = spares (Send operation slot) slots asked (send_takes_nothing operation slot)
act_takes_nothing (Process slot other) slots asked = process_leaves slot other
act_takes_nothing (Ack operation slot) slots asked = spares (Ack operation slot) slots asked (ack_takes_nothing operation slot)
act_takes_nothing (Advance operation) slots asked = advance_leaves operation
act_takes_nothing (Remove target plan) slots asked = spares (Remove target plan) slots asked (remove_takes_nothing target plan asked.0)
act_takes_nothing Prune slots asked = spares Prune slots asked prune_takes_nothing
act_takes_nothing (Restart slot) slots asked = spares (Restart slot) slots asked (restart_takes_nothing slot)
act_takes_nothing (Stats slot) slots asked = spares (Stats slot) slots asked (stats_takes_nothing slot)

pub start_facts : (slots : ℕ) → Facts (start slots)
start_facts slots = record {
  tablets = λ slot here. absurd (true≢false here);
  last_since = λ s i j x listed inside owned active last late. absurd listed;
  latest = λ i j inside last. absurd inside;
  times = λ s listed. absurd listed;
  own = λ r s point inside is listed of. absurd inside;
}
