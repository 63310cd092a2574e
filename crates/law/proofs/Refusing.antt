-- A refused entry changes the clocks of the parts that it touches, and nothing else.
use Rattle.std.proofs.Common.{◌≡◌, ℕ, List, [], ◌∷◌, Option, Some, None, Bool, true, false, not, refl, sym, ap, ◌∙◌, cond, eqb, ◌&&◌, length}
use Rattle.std.specs.Prelude.{Result, Ok as Granted, Err as Denied}
use Rattle.std.proofs.lemmas.Bool.{true≢false, cond_both}
use Rattle.model.specs.Cluster.{Id, Kind, Snapshot, TabletKind as Tablet, has, Interval, last_of, Listed, SnapshotRecord, State, first_unacked, snapshot_with}
use Rattle.model.specs.Tablets.{Tablet as Part, Command as Order, act_for, effect, is_done, is_empty, kind_of}
use Rattle.model.specs.Acts.{Act, Look, Change, Send, Process, Ack, Advance, Remove, Prune, Restart, Stats, Ask, AskKeys, AskTable, Command, CreateNamespace, DropNamespace, CreateTable, AddColumn, DropColumn, RenameTable, DropTable, Split, CreateSchedule, EditSchedule, DeleteSchedule, TakeSnapshot, Restore, CloneNamespace, ListTablets, Reply, Refused, Refusal, NotDone, Counts, NoTablet}
use Rattle.model.specs.Parts.{Parts, Ticks, Outcome, answered, decided, refused, unless}
use Rattle.model.specs.Looks.{look_plan, look_keys, look_table, look_present, found_namespace, judge_keys, found_at}
use Rattle.model.specs.Changed.{clone_time}
use Rattle.model.specs.Changes.{judge_create_namespace, judge_drop_namespace, judge_create_table, judge_add_column, judge_drop_column, judge_rename_table, judge_drop_table, judge_split, judge_create_schedule, judge_edit_schedule, judge_delete_schedule, judge_take_snapshot, judge_restore, judge_clone, create_namespace, drop_namespace, create_table, add_column, drop_column, rename_table, drop_table, split, create_schedule, edit_schedule, delete_schedule, take_snapshot, restore, clone_namespace, list_tablets, planned, change}
use Rattle.model.specs.RowActs.{write, read, cutoff, compact, restart, stats, count_frozen}
use Rattle.model.specs.Coordination.{pending, send, sending, process, processing, ack, acknowledging}
use Rattle.model.specs.Moves.{Progress, progress_of, waits_for, moving, advancing, advance}
use Rattle.model.specs.Cleanup.{remove, removing, removing_tablet, removing_snapshot, prune}
use Rattle.model.specs.Entries.{Entry, slots_of}
use Rattle.model.specs.History.{Legal, RefusedTicks, look, master_effect, outcome, replay}
use Rattle.law.proofs.Telling.{command_each, is_refused}

-- where an outcome is a refusal, but not that of an ack too early, it tells the parts nothing but the time
pub record TellsNone (o : Outcome) : Type 0 where
  pub none : (why : Refusal) → o.reply ≡ Refused why → (why ≡ NotDone → ⊥) → (o.master ≡ Ticks) × (o.tablets ≡ [])

accepted_tells : (o : Outcome) → is_refused o.reply ≡ false → TellsNone o
accepted_tells o e = record { none = λ why is other. absurd (true≢false (sym (ap is_refused is) ∙ e)) }

refused_tells : (why : Refusal) → TellsNone (refused why)
refused_tells why = record { none = λ w is other. (refl, refl) }

unless_tells : (why : Option Refusal) (o : Outcome) → TellsNone o → TellsNone (unless why o)
unless_tells (Some why) o h = refused_tells why
unless_tells None o h = h

unless_accepted : (why : Option Refusal) (o : Outcome) → is_refused o.reply ≡ false → TellsNone (unless why o)
unless_accepted why o e = unless_tells why o (accepted_tells o e)

decided_tells : {A : Type 0} (found : Result A Refusal) (accept : A → Outcome) → ((a : A) → is_refused (accept a).reply ≡ false) → TellsNone (decided found accept)
decided_tells (Denied why) accept each = refused_tells why
decided_tells (Granted a) accept each = accepted_tells (accept a) (each a)

look_tells : (ask : Ask) (n : ℕ) (ps : Parts) → TellsNone (look ask n ps.master)
unfolding look_plan look_keys look_table look_present
look_tells (AskKeys namespace table batch at) n ps = decided_tells (judge_keys namespace table batch at n ps.master) _ (λ t. refl)
look_tells (AskTable namespace table at) n ps = decided_tells (found_at namespace table at n ps.master) _ (λ t. refl)
look_tells _ n ps = accepted_tells _ refl

sending_tells : (found : Option Listed) (operation : Id) (slot : ℕ) → TellsNone (sending found operation slot)
sending_tells None operation slot = refused_tells _
sending_tells (Some l) operation slot = accepted_tells _ refl

processing_tells : (inbox : List Order) (slot other : ℕ) (source : Part) → TellsNone (processing inbox slot other source)
processing_tells [] slot other source = refused_tells _
processing_tells (c ∷ cs) slot other source = search (unless_accepted)

acknowledging_tells : (found : Option Listed) (operation : Id) (slot : ℕ) (t : Part) → TellsNone (acknowledging found operation slot t)
acknowledging_tells None operation slot t = refused_tells _
acknowledging_tells (Some l) operation slot t = cond_both (is_done t.done operation (kind_of l.body)) _ _ TellsNone
    (λ did. accepted_tells _ refl)
    (λ early. record { none = λ why is other. absurd (other (let q : why ≡ NotDone = cc in q)) })

moving_tells : (waits : Option Id) (operation : Id) (next : State) → TellsNone (moving waits operation next)
moving_tells (Some on) operation next = refused_tells _
moving_tells None operation next = accepted_tells _ refl

advancing_tells : (found : Option Progress) (operation : Id) → TellsNone (advancing found operation)
advancing_tells None operation = refused_tells _
advancing_tells (Some p) operation = moving_tells (waits_for (first_unacked p.listed) p.awaited) operation p.next

removing_one : (found : Option Interval) (target : Id) (slots : List ℕ) (n : ℕ) (ps : Parts) → TellsNone (removing_tablet found target slots n ps)
removing_one None target slots n ps = search (unless_tells, refused_tells)
removing_one (Some i) target slots n ps = search (unless_accepted)

removing_set : (found : Option SnapshotRecord) (target : Id) (slots : List ℕ) (n : ℕ) (ps : Parts) → TellsNone (removing_snapshot found target slots n ps)
removing_set None target slots n ps = search (unless_tells, refused_tells)
removing_set (Some r) target slots n ps = search (unless_accepted)

removing_tells : (kind : Kind) (target : Id) (slots : List ℕ) (n : ℕ) (ps : Parts) → TellsNone (removing kind target slots n ps)
removing_tells Tablet target slots n ps = removing_one (last_of ps.master.activity target) target slots n ps
removing_tells Snapshot target slots n ps = removing_set (snapshot_with ps.master.snapshots target) target slots n ps
removing_tells _ target slots n ps = search (unless_tells, refused_tells)

act_tells : (act : Act) (n : ℕ) (ps : Parts) → TellsNone (outcome act n ps)
unfolding write read cutoff compact send process ack advance remove prune restart stats
act_tells (Look ask) n ps = look_tells ask n ps
act_tells (Change command slots) n ps = command_each TellsNone command slots n ps refused_tells (λ o is. accepted_tells o is.accepted)
act_tells (Send operation slot) n ps = sending_tells (pending ps.master operation slot) operation slot
act_tells (Process slot other) n ps = processing_tells (ps.tablet slot).inbox slot other (ps.tablet other)
act_tells (Ack operation slot) n ps = acknowledging_tells (pending ps.master operation slot) operation slot (ps.tablet slot)
act_tells (Advance operation) n ps = advancing_tells (progress_of operation.kind ps.master operation) operation
act_tells (Remove target slots) n ps = removing_tells target.kind target slots n ps
act_tells Prune n ps = accepted_tells _ refl
act_tells (Restart slot) n ps = cond_both (eqb slot 0) _ _ TellsNone (λ e. accepted_tells _ refl) (λ e. accepted_tells _ refl)
act_tells (Stats slot) n ps =
    let t = ps.tablet slot in
    cond_both (is_empty t.presence) NoTablet (Counts t.cutoff (length t.versions) (count_frozen t.frozen) (length t.inbox)) (λ reply. TellsNone (answered reply)) (λ e. accepted_tells _ refl) (λ e. accepted_tells _ refl)
act_tells _ n ps = search (unless_accepted)

pub refused_ticks : (e : Entry) (earlier : List Entry) (slots : ℕ) → Legal slots (e ∷ earlier) → RefusedTicks e (replay slots earlier)
refused_ticks e earlier slots legal = λ why is other.
    let ps = replay slots earlier in
    let act = e.event.act in
    let n = e.stamp in
    let none = (act_tells act n ps).none why (sym legal.1.reply ∙ is) other in
    record {
      master = ap (λ a. cond (has (slots_of act) 0) (master_effect a n ps.master) ps.master) none.0;
      tablets = λ slot. ap (λ ts. cond (has (slots_of act) slot && not (eqb slot 0)) (effect (act_for ts slot) n (ps.tablet slot)) (ps.tablet slot)) none.1;
    }
