-- How many events a coordinator has yet to perform at the most, counted from what the records and the tablets say.
use Rattle.std.specs.Prelude.{ℕ, Bool, true, false, List, [], ◌∷◌, Option, Some, None, ◌+◌, ◌*◌, not, length, if◌then◌else◌, filter}
use Rattle.row_values.specs.Ids.{Id}
use Rattle.model.specs.Tablets.{Tablet, Command, Mark, kind_of, is_done, holds_command}
use Rattle.model.specs.Records.{Listed, Sent, SnapshotRecord, RestorationState, Fencing, Snapshotting, Switching, Restoring, Releasing, Restored, RestorationRecord, CloneState, Accepted, CloneSnapshot, Copying, CloneReleasing, CloneComplete, CloneRecord, is_restored, is_cloned, is_sent, unacked_at}
use Rattle.model.specs.Parts.{Master, Parts}
use Rattle.model.specs.Looks.{is_free, counting}

-- for a command that is not acked, by whether it is marked as sent, lies in the inbox, and is done: an ack too early
-- where a restart lost it, a send, a process and an ack
abbrev pub steps_left : Bool → Bool → Bool → ℕ
steps_left true held true = 1
steps_left false held true = 2
steps_left true true false = 2
steps_left true false false = 4
steps_left false held false = 3

-- for the tablet of a slot, which an operation's record may list without ack
abbrev pub slot_left : List Sent → List Command → List Mark → Id → ℕ → Option Listed → ℕ
slot_left sent inbox done operation slot None = 0
slot_left sent inbox done operation slot (Some l) = steps_left
    (is_sent sent operation slot)
    (holds_command inbox operation (kind_of l.body))
    (is_done done operation (kind_of l.body))

abbrev pub total : {A : Type 0} → (A → ℕ) → List A → ℕ
total count [] = 0
total count (x ∷ xs) = count x + total count xs

-- for the round of a record over its tablets, in these slots
abbrev pub round_left : List Sent → (ℕ → Tablet) → Id → List Listed → List ℕ → ℕ
round_left sent tablet operation ls slots =
    total (λ slot. slot_left sent (tablet slot).inbox (tablet slot).done operation slot (unacked_at ls slot)) slots

-- the moves and the later rounds of a record from a state on, with those of a snapshot that it is yet to make

abbrev pub restoration_moves : RestorationState → ℕ
restoration_moves Fencing = 6
restoration_moves (Snapshotting point own) = 4
restoration_moves (Switching point serving) = 3
restoration_moves (Restoring point serving) = 2
restoration_moves (Releasing point serving) = 1
restoration_moves (Restored point serving) = 0

abbrev pub restoration_rounds : RestorationState → ℕ
restoration_rounds Fencing = 3
restoration_rounds (Snapshotting point own) = 2
restoration_rounds (Switching point serving) = 2
restoration_rounds (Restoring point serving) = 1
restoration_rounds (Releasing point serving) = 0
restoration_rounds (Restored point serving) = 0

abbrev pub clone_moves : CloneState → ℕ
clone_moves Accepted = 5
clone_moves (CloneSnapshot own) = 3
clone_moves (Copying serving copied_at) = 2
clone_moves (CloneReleasing serving copied_at) = 1
clone_moves (CloneComplete serving copied_at) = 0

abbrev pub clone_rounds : CloneState → ℕ
clone_rounds Accepted = 3
clone_rounds (CloneSnapshot own) = 2
clone_rounds (Copying serving copied_at) = 1
clone_rounds (CloneReleasing serving copied_at) = 0
clone_rounds (CloneComplete serving copied_at) = 0

-- for an unfinished record: its moves, its later rounds and its round

abbrev pub snapshot_left : List Sent → (ℕ → Tablet) → List ℕ → SnapshotRecord → ℕ
snapshot_left sent tablet slots r = if r.complete then 0 else 1 + round_left sent tablet r.id r.listed slots

abbrev pub restoration_left : List Sent → (ℕ → Tablet) → List ℕ → RestorationRecord → ℕ
restoration_left sent tablet slots r =
    if is_restored r.state
    then 0
    else restoration_moves r.state + 4 * length slots * restoration_rounds r.state
    + round_left sent tablet r.id r.listed slots

abbrev pub clone_left : List Sent → (ℕ → Tablet) → List ℕ → CloneRecord → ℕ
clone_left sent tablet slots r =
    if is_cloned r.state
    then 0
    else clone_moves r.state + 4 * length slots * clone_rounds r.state
    + round_left sent tablet r.id r.listed slots

-- the slots that are not free, in rising order
abbrev pub slots_taken : Master → List ℕ
slots_taken m = filter (λ slot. not (is_free m slot)) (counting m.slots 1)

abbrev pub events_left_in : Master → (ℕ → Tablet) → List ℕ → ℕ
events_left_in m tablet slots =
    total (snapshot_left m.sent tablet slots) m.snapshots
    + total (restoration_left m.sent tablet slots) m.restorations
    + total (clone_left m.sent tablet slots) m.clones

abbrev pub events_left : Parts → ℕ
events_left ps = events_left_in ps.master ps.tablet (slots_taken ps.master)
