-- Commands on schedules under their plans.
use Rattle.std.proofs.Common.{ℕ, ◌≡◌, List, ◌∷◌, true}
use Rattle.model.specs.Cluster.{same_slots, Interval, Parts}
use Rattle.model.specs.Journal.{Change as Made}
use Rattle.model.specs.Acts.{Command, CreateSchedule, EditSchedule, DeleteSchedule, TakeSnapshot, Restore, Change}
use Rattle.model.specs.Entries.{slots_of}
use Rattle.model.specs.Looks.{plan_of}
use Rattle.model.specs.Changes.{planned}
use Rattle.model.specs.History.{outcome}
use Rattle.law_invariants.specs.Invariant.{Inv, Later}
use Rattle.law_invariants.proofs.Ticking.{KeepsAll}
use Rattle.law_invariants.proofs.Judging.{change_keeps}
use Rattle.law_moves.specs.Commands.{IsOfSchedules}
use Rattle.law_moves.proofs.Schedules.{create_schedule_keeps, delete_schedule_keeps}
use Rattle.law_moves.proofs.Editing.{edit_schedule_keeps}
use Rattle.law_moves.proofs.Snapshots.{take_snapshot_keeps}
use Rattle.law_moves.proofs.Restoring.{restore_keeps}

planned_keeps : (command : Command) (slots : List ℕ) (ps : Parts) (activity : List Interval) (changes : List Made) (n : ℕ) → IsOfSchedules command → Later (0 ∷ slots) ps n → Inv ps activity changes
    → same_slots slots (plan_of command ps.master) ≡ true → KeepsAll (Change command slots) n ps activity changes (planned command slots n ps)
unfolding plan_of
planned_keeps (CreateSchedule interval retention namespace) slots ps activity changes n of later inv plan = create_schedule_keeps ps activity changes n interval retention namespace slots later plan inv
planned_keeps (EditSchedule schedule interval retention) slots ps activity changes n of later inv plan = edit_schedule_keeps ps activity changes n interval retention schedule slots later plan inv
planned_keeps (DeleteSchedule schedule) slots ps activity changes n of later inv plan = delete_schedule_keeps ps activity changes n schedule slots later plan inv
planned_keeps (TakeSnapshot schedule) slots ps activity changes n of later inv plan = take_snapshot_keeps ps activity changes n schedule slots later plan inv
planned_keeps (Restore schedule to) slots ps activity changes n of later inv plan = restore_keeps ps activity changes n schedule to slots later plan inv
planned_keeps _ slots ps activity changes n of later inv plan = absurd of

-- a command on schedules keeps what holds
pub schedule_change_keeps : (command : Command) (slots : List ℕ) (ps : Parts) (activity : List Interval) (changes : List Made) (n : ℕ) → IsOfSchedules command → Later (slots_of (Change command slots)) ps n → Inv ps activity changes
    → KeepsAll (Change command slots) n ps activity changes (outcome (Change command slots) n ps)
schedule_change_keeps command slots ps activity changes n of later inv = change_keeps command slots ps activity changes n later inv (λ plan. planned_keeps command slots ps activity changes n of later inv plan)
