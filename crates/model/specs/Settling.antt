-- Settling: a coordinator performs the event that comes next, under one reading, until no record is unfinished. Each
-- act is performed as that of an entry is: by the stamp rule, and by what the touched parts are told.
use Rattle.std.specs.Prelude.{◌≡◌, ℕ, zero, suc, List, [], ◌∷◌, length, Option, None, option_map, ◌+◌, ◌*◌, ◌-◌, not, filter}
use Rattle.model.specs.Cluster.{option_map_or, Id, Act, Ack, Event, Refusal, NotDone, Reply, Refused, Master, Parts, is_restored, is_cloned}
use Rattle.model.specs.Looks.{free_slots}
use Rattle.model.specs.Work.{next_work, next_act, unfinished_records}
use Rattle.model.specs.Entries.{stamp_of}
use Rattle.model.specs.History.{outcome, told}

-- How many coordinator events are left at the most, until no record is unfinished

abbrev pub unfinished_snapshots : Master → ℕ
unfinished_snapshots m = length (filter (λ r. not r.complete) m.snapshots)

abbrev pub unfinished_restorations : Master → ℕ
unfinished_restorations m = length (filter (λ r. not (is_restored r.state)) m.restorations)

abbrev pub unfinished_clones : Master → ℕ
unfinished_clones m = length (filter (λ c. not (is_cloned c.state)) m.clones)

abbrev pub taken_slots : Master → ℕ
taken_slots m = m.slots - length (free_slots m)

-- each listed tablet costs at most an ack too early, a send, a process and an ack. A snapshot has one round over its
-- tablets and one move; with a snapshot of its own a restoration has four rounds and six moves, a clone three and five
abbrev pub left : Master → ℕ
left m =
    4 * taken_slots m * (unfinished_snapshots m + 4 * unfinished_restorations m + 3 * unfinished_clones m)
    + unfinished_snapshots m + 6 * unfinished_restorations m + 5 * unfinished_clones m

-- The events

-- an event of the caller 0
abbrev pub event_of : ℕ → Act → Event
event_of reading act = record { caller = 0; reading = reading; act = act }

-- the event that comes next under a reading; none where no record is unfinished
abbrev pub next_event : ℕ → Parts → Option Event
next_event reading ps = option_map (event_of reading) (next_act ps)

-- an act under a reading: its stamp, its reply, and the parts that it leaves; and acts, one after the other

abbrev pub stamp_under : ℕ → Act → Parts → ℕ
stamp_under reading act ps = stamp_of (event_of reading act) ps

abbrev pub reply_under : ℕ → Act → Parts → Reply
reply_under reading act ps = (outcome act (stamp_under reading act ps) ps).reply

abbrev pub after_act : ℕ → Act → Parts → Parts
after_act reading act ps = let n = stamp_under reading act ps in told act (outcome act n ps) n ps

abbrev pub after_acts : ℕ → List Act → Parts → Parts
after_acts reading [] ps = ps
after_acts reading (act ∷ acts) ps = after_acts reading acts (after_act reading act ps)

abbrev pub replies_under : ℕ → List Act → Parts → List Reply
replies_under reading [] ps = []
replies_under reading (act ∷ acts) ps =
    reply_under reading act ps ∷ replies_under reading acts (after_act reading act ps)

-- the acts of a coordinator's next events, at most so many: fewer only where nothing comes next any more
abbrev pub coordinated : ℕ → ℕ → Parts → List Act
coordinated zero reading ps = []
coordinated (suc count) reading ps =
    option_map_or (λ act. act ∷ coordinated count reading (after_act reading act ps)) (next_act ps) []

-- the acts by which a coordinator brings every record to its end
abbrev pub settle : ℕ → Parts → List Act
settle reading ps = coordinated (left ps.master) reading ps

-- the act is accepted, or it is an ack that finds its command not done
abbrev pub GoesOn : Act → Reply → Type 0
GoesOn act reply = (why : Refusal) → reply ≡ Refused why
    → (why ≡ NotDone) × ((operation : Id) × ((slot : ℕ) × (act ≡ Ack operation slot)))

abbrev pub EachGoesOn : List Act → List Reply → Type 0
EachGoesOn [] replies = Unit {0}
EachGoesOn (act ∷ acts) [] = ⊥
EachGoesOn (act ∷ acts) (reply ∷ replies) = GoesOn act reply × EachGoesOn acts replies

-- settling, which has at most so many acts, goes on to its end: no record is unfinished behind it
pub record Settles (reading : ℕ) (ps : Parts) : Type 0 where
  pub each : EachGoesOn (settle reading ps) (replies_under reading (settle reading ps) ps)
  pub finished : unfinished_records (after_acts reading (settle reading ps) ps).master ≡ []

-- as long as a record is unfinished, something comes next
abbrev pub AlwaysNext : Master → Type 0
AlwaysNext m = next_work m ≡ None → unfinished_records m ≡ []
