-- What acts tell the parts: none but a send offers a command, what begins in a part has a number that was not drawn, and
-- a part is cleared where the master knows an interval.
use Rattle.std.proofs.Common.{◌≡◌, ℕ, ◌+◌, length, ◌<◌, Bool, true, false, List, [], ◌∷◌, Option, Some, None, refl, sym, subst, not, Result, Ok, Err, eqb, eqb-true, inl, inr}
use Rattle.std.proofs.lemmas.Bool.{cond_both, true≢false}
use Rattle.model.specs.Cluster.{Id, Kind, TabletKind as Tablet, Snapshot, In, same_slots, part_of, Interval, last_of, Listed, SnapshotRecord, snapshot_with, first_unacked}
use Rattle.model.specs.Tablets.{Told, TabletAct, Child, Clear, Clock, DropFrozen, Make, Offer, SetVersion, HideSince, Write as WriteRows, RaiseCutoff, Compact as CompactTablet, Process as ProcessTablet, Restart as RestartTablet, Tablet as TabletPart, Command as TabletCommand, act_for, is_done, kind_of}
use Rattle.model.specs.Acts.{Act, Change, Command, CreateNamespace, DropNamespace, CreateTable, AddColumn, DropColumn, RenameTable, DropTable, Split, CreateSchedule, EditSchedule, DeleteSchedule, TakeSnapshot, Restore, CloneNamespace, ListTablets, Refusal, StalePlan, OtherSlot, Removed, Look, Write, Read, Cutoff, Compact, Send, Process, Ack, Advance, Remove, Prune, Restart, Stats}
use Rattle.model.specs.Parts.{Master, Parts, Outcome, If, decided, judged, Removes, refusal_in, refused, unless}
use Rattle.model.specs.Looks.{found_namespace, plan_of}
use Rattle.model.specs.Changed.{children, clone_time, next_table, shares}
use Rattle.model.specs.Changes.{tell, tell_children, tell_made, change, planned, create_namespace, drop_namespace, create_table, add_column, drop_column, rename_table, drop_table, split, create_schedule, edit_schedule, delete_schedule, take_snapshot, restore, clone_namespace, list_tablets, judge_clone, judge_create_namespace, judge_drop_namespace, judge_create_table, judge_add_column, judge_drop_column, judge_rename_table, judge_drop_table, judge_split, judge_create_schedule, judge_edit_schedule, judge_delete_schedule, judge_take_snapshot, judge_restore}
use Rattle.model.specs.Coordination.{source_slot, ack, acknowledging, process, processing}
use Rattle.model.specs.Moves.{Progress, advance, advancing, moving, progress_of, waits_for}
use Rattle.model.specs.Cleanup.{snapshot_plan, prune, remove, removing, removing_snapshot, removing_tablet}
use Rattle.model.specs.History.{outcome}
use Rattle.law_invariants.proofs.Finding.{in_mapped}
use Rattle.law_invariants.proofs.Lasting.{last_in}
use Rattle.law_retention.proofs.Changing.{children_new, shares_new}
use Rattle.law_retention.proofs.Outcomes.{compact_by, cutoff_by, look_by, read_by, restart_by, stats_by, write_by}

-- what a slot may be told, but by a send
abbrev pub IsSaid : Master → ℕ → TabletAct → Type 0
IsSaid m slot (Make tablet table low high version) = m.drawn.tablets < tablet.number
IsSaid m slot (Child tablet table low high version versions cutoff) = m.drawn.tablets < tablet.number
IsSaid m slot Clear = (i : Interval) × (In i m.activity × (i.slot ≡ slot))
IsSaid m slot (Offer c) = ⊥
IsSaid m slot Clock = Unit {0}
IsSaid m slot (SetVersion version) = Unit {0}
IsSaid m slot (HideSince ended) = Unit {0}
IsSaid m slot (WriteRows batch) = Unit {0}
IsSaid m slot (RaiseCutoff to) = Unit {0}
IsSaid m slot CompactTablet = Unit {0}
IsSaid m slot (ProcessTablet rows) = Unit {0}
IsSaid m slot (DropFrozen snapshot) = Unit {0}
IsSaid m slot RestartTablet = Unit {0}

-- an outcome that tells each slot what it may be told
pub record Says (m : Master) (o : Outcome) : Type 0 where
  pub says : (slot : ℕ) → IsSaid m slot (act_for o.tablets slot)

said_in : (m : Master) (ts : List Told) (slot : ℕ) → ((t : Told) → In t ts → IsSaid m t.slot t.act) → IsSaid m slot (act_for ts slot)
said_in m [] slot each = tt
said_in m (t ∷ ts) slot each = cond_both (eqb t.slot slot) t.act (act_for ts slot) (IsSaid m slot) (λ e. subst (λ s. IsSaid m s t.act) (eqb-true t.slot slot e) (each t (inl refl))) (λ e. said_in m ts slot (λ u isin. each u (inr isin)))

telling : (m : Master) (o : Outcome) (tells : List Told) → o.tablets ≡ tells → ((t : Told) → In t tells → IsSaid m t.slot t.act) → Says m o
telling m o tells e each = record { says = λ slot. subst (λ ts. IsSaid m slot (act_for ts slot)) (sym e) (said_in m tells slot each) }

silent : (m : Master) (o : Outcome) → o.tablets ≡ [] → Says m o
silent m o e = telling m o [] e (λ t isin. absurd isin)

told_one : (m : Master) (told : Told) (o : Outcome) → o.tablets ≡ told ∷ [] → IsSaid m told.slot told.act → Says m o
told_one m told o e own = telling m o (told ∷ []) e (λ t isin. elim isin [ inl is ↦ subst (λ u. IsSaid m u.slot u.act) is own | inr none ↦ absurd none ])

decided_says : {A : Type 0} (m : Master) (judgement : Result A Refusal) (go : A → Outcome) → ((a : A) → Says m (go a)) → Says m (decided judgement go)
decided_says m (Err why) go accepted = silent m _ refl
decided_says m (Ok a) go accepted = accepted a

-- the refusal, or the outcome, is so where the outcome is
unless_says : (m : Master) (refusal : Option Refusal) (o : Outcome) → Says m o → Says m (unless refusal o)
unless_says m (Some why) o says = silent m _ refl
unless_says m None o says = says

-- the slots are told the same
tell_said : (m : Master) (slots : List ℕ) (a : TabletAct) → ((slot : ℕ) → IsSaid m slot a) → (t : Told) → In t (tell slots a) → IsSaid m t.slot t.act
tell_said m slots a each = in_mapped {A = ℕ} {B = Told} (λ slot. record { slot = slot; act = a }) (λ t. IsSaid m t.slot t.act) slots (λ slot isin. each slot)

made_said : (m : Master) (slots : List ℕ) (place count n : ℕ) (table : Id) (t : Told) → In t (tell_made (shares slots place count n m.drawn.tablets table)) → IsSaid m t.slot t.act
made_said m slots place count n table = in_mapped {A = Interval} {B = Told} (λ i. record { slot = i.slot; act = Make i.tablet i.table i.low i.high 1 }) (λ t. IsSaid m t.slot t.act) (shares slots place count n m.drawn.tablets table)
    (λ i isin. (shares_new slots place count n m.drawn.tablets table i isin).1)

split_said : (m : Master) (parent : Interval) (code low_slot high_slot n version : ℕ) (part : TabletPart) (t : Told) → In t (record { slot = parent.slot; act = HideSince n } ∷ tell_children (children parent code low_slot high_slot n m.drawn.tablets) version part) → IsSaid m t.slot t.act
split_said m parent code low_slot high_slot n version part t (inl is) = subst (λ u. IsSaid m u.slot u.act) is tt
split_said m parent code low_slot high_slot n version part t (inr isin) =
    in_mapped {A = Interval} {B = Told} (λ i. record { slot = i.slot; act = Child i.tablet i.table i.low i.high version (part_of i.low i.high part.versions) part.cutoff }) (λ t. IsSaid m t.slot t.act) (children parent code low_slot high_slot n m.drawn.tablets)
    (λ i there. (children_new parent code low_slot high_slot n m.drawn.tablets i there).1) t isin

-- Commands

planned_says : (command : Command) (slots : List ℕ) (n : ℕ) (ps : Parts) → Says ps.master (planned command slots n ps)
unfolding create_namespace drop_namespace create_table add_column drop_column rename_table drop_table split create_schedule edit_schedule delete_schedule take_snapshot restore clone_namespace list_tablets
planned_says (CreateNamespace name) slots n ps = decided_says ps.master (judge_create_namespace name ps.master) _ (λ a. silent ps.master _ refl)
planned_says (CreateTable namespace table tablets columns) slots n ps = decided_says ps.master (judge_create_table namespace table tablets ps.master) _
    (λ a. telling ps.master _ (tell_made (shares slots 0 (length slots) n ps.master.drawn.tablets (next_table ps.master))) refl (made_said ps.master slots 0 (length slots) n (next_table ps.master)))
planned_says (Split namespace table code) slots n ps = decided_says ps.master (judge_split namespace table code ps.master) _
    (λ f. let parent = f.parent.tablet in let version = f.parent.table.schema.version in let part = ps.tablet parent.slot in
    telling ps.master _ (record { slot = parent.slot; act = HideSince n } ∷ tell_children (children parent code f.low_slot f.high_slot n ps.master.drawn.tablets) version part) refl
    (split_said ps.master parent code f.low_slot f.high_slot n version part))
planned_says (CreateSchedule interval retention namespace) slots n ps = decided_says ps.master (judge_create_schedule interval retention namespace ps.master) _ (λ a. silent ps.master _ refl)
planned_says (TakeSnapshot schedule) slots n ps = decided_says ps.master (judge_take_snapshot schedule n ps.master) _ (λ a. silent ps.master _ refl)
planned_says (Restore schedule to) slots n ps = decided_says ps.master (judge_restore schedule to n ps.master) _ (λ a. silent ps.master _ refl)
planned_says (CloneNamespace source target at) slots n ps = decided_says ps.master (judge_clone source target (clone_time at n) n ps.master) _ (λ a. silent ps.master _ refl)
planned_says (DropNamespace name) slots n ps = decided_says ps.master (judge_drop_namespace name ps.master) _ (λ a. silent ps.master _ refl)
planned_says (AddColumn namespace table name kind) slots n ps = decided_says ps.master (judge_add_column namespace table name ps.master) _
    (λ t. telling ps.master _ (tell slots (SetVersion (t.schema.version + 1))) refl (tell_said ps.master slots (SetVersion (t.schema.version + 1)) (λ slot. tt)))
planned_says (DropColumn namespace table name) slots n ps = decided_says ps.master (judge_drop_column namespace table name ps.master) _
    (λ c. telling ps.master _ (tell slots (SetVersion (c.table.schema.version + 1))) refl (tell_said ps.master slots (SetVersion (c.table.schema.version + 1)) (λ slot. tt)))
planned_says (RenameTable namespace table name) slots n ps = decided_says ps.master (judge_rename_table namespace table name ps.master) _ (λ a. silent ps.master _ refl)
planned_says (DropTable namespace table) slots n ps = decided_says ps.master (judge_drop_table namespace table ps.master) _
    (λ a. telling ps.master _ (tell slots (HideSince n)) refl (tell_said ps.master slots (HideSince n) (λ slot. tt)))
planned_says (EditSchedule schedule interval retention) slots n ps = decided_says ps.master (judge_edit_schedule schedule interval retention ps.master) _ (λ a. silent ps.master _ refl)
planned_says (DeleteSchedule schedule) slots n ps = decided_says ps.master (judge_delete_schedule schedule ps.master) _ (λ a. silent ps.master _ refl)
planned_says (ListTablets namespace) slots n ps = decided_says ps.master (found_namespace ps.master namespace) _ (λ a. silent ps.master _ refl)
planned_says _ slots n ps = silent ps.master _ refl

-- Moves, marks and removals

advancing_says : (m : Master) (p : Option Progress) (operation : Id) → Says m (advancing p operation)
advancing_says m None operation = silent m _ refl
advancing_says m (Some p) operation = by (waits_for (first_unacked p.listed) p.awaited)
  where
    by : (o : Option Id) → Says m (moving o operation p.next)
    by (Some on) = silent m _ refl
    by None = silent m _ refl

processing_says : (m : Master) (inbox : List TabletCommand) (slot other : ℕ) (source : TabletPart) → Says m (processing inbox slot other source)
processing_says m [] slot other source = silent m _ refl
processing_says m (c ∷ cs) slot other source = unless_says m (refusal_in (If (not (eqb other (source_slot slot c.body))) (OtherSlot (source_slot slot c.body)) ∷ [])) _ (told_one m _ _ refl tt)

acknowledging_says : (m : Master) (found : Option Listed) (operation : Id) (slot : ℕ) (t : TabletPart) → Says m (acknowledging found operation slot t)
acknowledging_says m None operation slot t = silent m _ refl
acknowledging_says m (Some l) operation slot t = cond_both (is_done t.done operation (kind_of l.body)) _ _ (Says m) (λ e. silent m _ refl) (λ e. silent m _ refl)

unknown_says : (m : Master) (slots : List ℕ) (why : Refusal) → Says m (judged (If (not (same_slots slots [])) (StalePlan []) ∷ []) (refused why))
unknown_says m slots why = unless_says m (refusal_in (If (not (same_slots slots [])) (StalePlan []) ∷ [])) (refused why) (silent m _ refl)

tablet_says : (i : Option Interval) (target : Id) (slots : List ℕ) (n : ℕ) (ps : Parts) → ((j : Interval) → i ≡ Some j → In j ps.master.activity) → Says ps.master (removing_tablet i target slots n ps)
tablet_says None target slots n ps known = unknown_says ps.master slots _
tablet_says (Some i) target slots n ps known =
    let one : Says ps.master (record { master = Removes target; tablets = record { slot = i.slot; act = Clear } ∷ []; reply = Removed }) = told_one ps.master (record { slot = i.slot; act = Clear }) _ refl (i, (known i refl, refl)) in search (unless_says, one)

snapshot_says : (r : Option SnapshotRecord) (target : Id) (slots : List ℕ) (n : ℕ) (ps : Parts) → Says ps.master (removing_snapshot r target slots n ps)
snapshot_says None target slots n ps = unknown_says ps.master slots _
snapshot_says (Some r) target slots n ps =
    let one : Says ps.master (record { master = Removes target; tablets = tell (snapshot_plan ps.master r) (DropFrozen target); reply = Removed }) = telling ps.master _ (tell (snapshot_plan ps.master r) (DropFrozen target)) refl (tell_said ps.master (snapshot_plan ps.master r) (DropFrozen target) (λ slot. tt)) in search (unless_says, one)

removing_says : (kind : Kind) (target : Id) (slots : List ℕ) (n : ℕ) (ps : Parts) → Says ps.master (removing kind target slots n ps)
removing_says Tablet target slots n ps = tablet_says (last_of ps.master.activity target) target slots n ps (λ j found. (last_in ps.master.activity target j found).0)
removing_says Snapshot target slots n ps = snapshot_says (snapshot_with ps.master.snapshots target) target slots n ps
removing_says _ target slots n ps = unknown_says ps.master slots _

-- Each act

abbrev pub is_send : Act → Bool
is_send (Send operation slot) = true
is_send _ = false

pub act_says : (act : Act) (n : ℕ) (ps : Parts) → is_send act ≡ false → Says ps.master (outcome act n ps)
unfolding change advance prune process ack remove
act_says (Change command plan) n ps e = by (same_slots plan (plan_of command ps.master))
  where
    by : (b : Bool) → Says ps.master (judged (If (not b) (StalePlan (plan_of command ps.master)) ∷ []) (planned command plan n ps))
    by true = planned_says command plan n ps
    by false = silent ps.master _ refl
act_says (Send operation slot) n ps e = absurd (true≢false e)
act_says (Advance operation) n ps e = advancing_says ps.master (progress_of operation.kind ps.master operation) operation
act_says Prune n ps e = silent ps.master (outcome Prune n ps) refl
act_says (Process slot other) n ps e = processing_says ps.master (ps.tablet slot).inbox slot other (ps.tablet other)
act_says (Ack operation slot) n ps e = acknowledging_says ps.master _ operation slot (ps.tablet slot)
act_says (Remove target plan) n ps e = removing_says target.kind target plan n ps
act_says (Look ask) n ps e = look_by (Says ps.master) ask n ps.master (λ reply. silent ps.master _ refl)
act_says (Write place version batch) n ps e = write_by (Says ps.master) place version batch n ps (λ reply. silent ps.master _ refl) (told_one ps.master _ _ refl tt)
act_says (Read places version key at columns) n ps e = read_by (Says ps.master) places version key at columns n ps (λ reply. silent ps.master _ refl)
act_says (Cutoff slot) n ps e = cutoff_by (Says ps.master) slot n ps (λ reply. silent ps.master _ refl) (told_one ps.master _ _ refl tt)
act_says (Compact slot) n ps e = compact_by (Says ps.master) slot n ps (λ reply. silent ps.master _ refl) (λ reply. told_one ps.master _ _ refl tt)
act_says (Stats slot) n ps e = stats_by (Says ps.master) slot n ps (λ reply. silent ps.master _ refl)
act_says (Restart slot) n ps e = restart_by (Says ps.master) slot n ps (silent ps.master _ refl) (told_one ps.master _ _ refl tt)
