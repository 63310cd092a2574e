-- Acts by which the master is told no command, to move no record and not to prune.
use Rattle.std.proofs.Common.{◌≡◌, ℕ, Bool, true, false, List, [], ◌∷◌, Option, Some, None, refl, arith, eqb, length, Result, Ok, Err}
use Rattle.std.proofs.lemmas.Bool.{cond_both}
use Rattle.model.specs.Cluster.{Id, Kind, TabletKind as Tablet, Snapshot, Listed, snapshot_with, SnapshotRecord, Interval, last_of}
use Rattle.model.specs.Acts.{Act, Ask, AskKeys, AskTable, Look, Change, Send, Process, Ack, Advance, Remove, Prune, Restart, Stats, Refusal, NoTablet, Counts}
use Rattle.model.specs.Parts.{Master, Parts, Outcome, MasterAct, Ticks, Sends, Acks, Unsends, Removes, Restarts, answered, unless, decided}
use Rattle.model.specs.History.{outcome, look}
use Rattle.model.specs.Drawn.{ids_made}
use Rattle.model.specs.Tablets.{Tablet as TabletPart, Command as TabletCommand, kind_of, is_done, is_empty}
use Rattle.model.specs.Looks.{look_plan, look_keys, look_table, look_present, found_at, judge_keys}
use Rattle.model.specs.RowActs.{count_frozen, write, read, cutoff, compact, stats, restart}
use Rattle.model.specs.Coordination.{send, sending, pending, process, processing, ack, acknowledging}
use Rattle.model.specs.Cleanup.{remove, removing, removing_tablet, removing_snapshot}

-- What the master is told

-- whether it is told a command, to move a record or to prune
abbrev pub is_weighty : MasterAct → Bool
is_weighty Ticks = false
is_weighty (Sends operation slot) = false
is_weighty (Acks operation slot) = false
is_weighty (Unsends operation slot) = false
is_weighty (Removes target) = false
is_weighty Restarts = false
is_weighty _ = true

-- an outcome by which the master is told none of that, and whose reply names nothing that was made
pub record IsPlain (o : Outcome) : Type 0 where
  pub none : is_weighty o.master ≡ false
  pub unmade : ids_made o.reply ≡ []

-- the refusal, or the outcome, is plain where the outcome is
unless_none : (refusal : Option Refusal) (o : Outcome) → IsPlain o → IsPlain (unless refusal o)
unless_none (Some why) o e = record { none = refl; unmade = refl }
unless_none None o e = e

decided_none : {A : Type 0} (judgement : Result A Refusal) (go : A → Outcome) → ((a : A) → IsPlain (go a)) → IsPlain (decided judgement go)
decided_none (Err why) go plain = record { none = refl; unmade = refl }
decided_none (Ok a) go plain = plain a

look_none : (ask : Ask) (n : ℕ) (m : Master) → IsPlain (look ask n m)
unfolding look_plan look_keys look_table look_present
look_none (AskKeys namespace table batch at) n m = decided_none (judge_keys namespace table batch at n m) _ (λ t. record { none = refl; unmade = refl })
look_none (AskTable namespace table at) n m = decided_none (found_at namespace table at n m) _ (λ t. record { none = refl; unmade = refl })
look_none _ n m = record { none = refl; unmade = refl }

sending_none : (found : Option Listed) (operation : Id) (slot : ℕ) → IsPlain (sending found operation slot)
sending_none None operation slot = record { none = refl; unmade = refl }
sending_none (Some l) operation slot = record { none = refl; unmade = refl }

processing_none : (inbox : List TabletCommand) (slot other : ℕ) (source : TabletPart) → IsPlain (processing inbox slot other source)
processing_none [] slot other source = record { none = refl; unmade = refl }
processing_none (c ∷ cs) slot other source = search (unless_none)

acknowledging_none : (found : Option Listed) (operation : Id) (slot : ℕ) (t : TabletPart) → IsPlain (acknowledging found operation slot t)
acknowledging_none None operation slot t = record { none = refl; unmade = refl }
acknowledging_none (Some l) operation slot t =
    cond_both (is_done t.done operation (kind_of l.body)) _ _ IsPlain (λ e. record { none = refl; unmade = refl }) (λ e. record { none = refl; unmade = refl })

removing_tablet_none : (i : Option Interval) (target : Id) (slots : List ℕ) (n : ℕ) (ps : Parts) → IsPlain (removing_tablet i target slots n ps)
removing_tablet_none None target slots n ps = search (unless_none)
removing_tablet_none (Some i) target slots n ps = search (unless_none)

removing_snapshot_none : (r : Option SnapshotRecord) (target : Id) (slots : List ℕ) (n : ℕ) (ps : Parts) → IsPlain (removing_snapshot r target slots n ps)
removing_snapshot_none None target slots n ps = search (unless_none)
removing_snapshot_none (Some r) target slots n ps = search (unless_none)

removing_none : (kind : Kind) (target : Id) (slots : List ℕ) (n : ℕ) (ps : Parts) → IsPlain (removing kind target slots n ps)
removing_none Tablet target slots n ps = removing_tablet_none (last_of ps.master.activity target) target slots n ps
removing_none Snapshot target slots n ps = removing_snapshot_none (snapshot_with ps.master.snapshots target) target slots n ps
removing_none _ target slots n ps = search (unless_none)

restart_none : (slot n : ℕ) (ps : Parts) → IsPlain (restart slot n ps)
unfolding restart
restart_none slot n ps = cond_both (eqb slot 0) _ _ IsPlain (λ e. record { none = refl; unmade = refl }) (λ e. record { none = refl; unmade = refl })

-- whether an act may tell the master any of that
abbrev pub may_weigh : Act → Bool
may_weigh (Change command slots) = true
may_weigh (Advance operation) = true
may_weigh Prune = true
may_weigh _ = false

pub act_none : (act : Act) (n : ℕ) (ps : Parts) → may_weigh act ≡ false → IsPlain (outcome act n ps)
unfolding write read cutoff compact stats send process ack remove
act_none (Change command slots) n ps e = absurd (let q = e in grind arith)
act_none (Look ask) n ps e = look_none ask n ps.master
act_none (Send operation slot) n ps e = sending_none (pending ps.master operation slot) operation slot
act_none (Process slot other) n ps e = processing_none (ps.tablet slot).inbox slot other (ps.tablet other)
act_none (Ack operation slot) n ps e = acknowledging_none (pending ps.master operation slot) operation slot (ps.tablet slot)
act_none (Advance operation) n ps e = absurd (let q = e in grind arith)
act_none (Remove target slots) n ps e = removing_none target.kind target slots n ps
act_none Prune n ps e = absurd (let q = e in grind arith)
act_none (Restart slot) n ps e = restart_none slot n ps
act_none (Stats slot) n ps e = cond_both (is_empty (ps.tablet slot).presence) NoTablet (Counts (ps.tablet slot).cutoff (length (ps.tablet slot).versions) (count_frozen (ps.tablet slot).frozen) (length (ps.tablet slot).inbox)) (λ reply. IsPlain (answered reply)) (λ e. record { none = refl; unmade = refl }) (λ e. record { none = refl; unmade = refl })
act_none _ n ps e = search (unless_none)
