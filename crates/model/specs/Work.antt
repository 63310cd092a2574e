-- What a coordinator does next: for the first unfinished record that no snapshot holds up, it goes on with the first
-- listed tablet that isn't done, or moves the record.
use Rattle.std.specs.Prelude.{ℕ, List, [], ◌∷◌, ◌++◌, Option, Some, None, not, map, if◌then◌else◌, option_map, filter}
use Rattle.model.specs.Cluster.{option_or, Id, Listed, Sent, is_restored, is_cloned, first_unacked, is_sent, Act, Send, Process, Ack, Advance, WorkItem, SendWork, CollectWork, AdvanceWork, Master, Parts}
use Rattle.model.specs.Tablets.{Command}
use Rattle.model.specs.Coordination.{source_slot}
use Rattle.model.specs.Moves.{Progress, snapshot_progress, restoration_progress, clone_progress}

-- the unfinished records: snapshots, then restorations, then clones, each by number
abbrev pub unfinished_records : Master → List Progress
unfinished_records m =
    map snapshot_progress (filter (λ r. not r.complete) m.snapshots)
    ++ map (restoration_progress m) (filter (λ r. not (is_restored r.state)) m.restorations)
    ++ map (clone_progress m) (filter (λ r. not (is_cloned r.state)) m.clones)

-- a command that is sent is to be collected: to be done and acked
abbrev pub work_at : Listed → Id → List Sent → WorkItem
work_at l operation sent =
    if is_sent sent operation l.slot then CollectWork operation l.slot (source_slot l.slot l.body)
    else SendWork operation l.slot

-- what is to be done for a record, by its first listed tablet without ack and the snapshot that its move waits for
abbrev pub work_for : Option Listed → Option Id → Id → List Sent → Option WorkItem
work_for (Some l) awaited operation sent = Some (work_at l operation sent)
work_for None None operation sent = Some (AdvanceWork operation)
work_for None (Some on) operation sent = None

abbrev pub first_work : List Progress → List Sent → Option WorkItem
first_work [] sent = None
first_work (p ∷ ps) sent = option_or (work_for (first_unacked p.listed) p.awaited p.id sent) (first_work ps sent)

-- what a coordinator does next, as the master knows it
abbrev pub next_work : Master → Option WorkItem
next_work m = first_work (unfinished_records m) m.sent

-- a tablet with a command in its inbox does it first
abbrev pub collecting : List Command → Id → ℕ → ℕ → Act
collecting [] operation slot other = Ack operation slot
collecting (c ∷ cs) operation slot other = Process slot other

abbrev pub act_of_work : WorkItem → Parts → Act
act_of_work (SendWork operation slot) ps = Send operation slot
act_of_work (CollectWork operation slot other) ps = collecting (ps.tablet slot).inbox operation slot other
act_of_work (AdvanceWork operation) ps = Advance operation

-- the act of the next event; none where no record is unfinished
abbrev pub next_act : Parts → Option Act
next_act ps = option_map (λ w. act_of_work w ps) (next_work ps.master)
