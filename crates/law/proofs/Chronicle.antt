-- Which records enter which states, by an event's reply and the records that it adds, is what the master is told; so each record entered
-- the states up to its own once, at the stamps that it keeps.
use Rattle.std.proofs.Common.{◌≡◌, ℕ, ◌+◌, Bool, true, false, List, [], ◌∷◌, ◌++◌, Option, Some, None, refl, sym, ap, subst, ◌∙◌, arith, length, not, Result, Ok, Err, if◌then◌else◌, le_of_lt}
use Rattle.std.specs.Option.{option_map, option_map_or}
use Rattle.std.proofs.lemmas.Bool.{cond_both}
use Rattle.model.specs.Cluster.{Id, Kind, Snapshot, RestorationKind as Restoration, CloneKind as Clone, has, same_slots, Interval, Schedule as ScheduleRecord, SnapshotRecord, RestorationRecord, RestorationState, Fencing, Snapshotting, Switching, Restoring, Releasing, Restored, CloneRecord, CloneState, Accepted, CloneSnapshot, Copying, CloneReleasing, CloneComplete, State, IsCreating, IsComplete, IsFencing, IsSnapshot, IsSwitching, IsRestoring, IsReleasing, IsRestored, IsAccepted, IsCopying, clone_state, first_unacked, is_cloned, is_restored, restoration_state, schedule_of, Master, Parts, Outcome, If, decided, refused, judged, MasterAct, Ticks, Sends, Acks, Unsends, Moves, Removes, Restarts, none_drawn}
use Rattle.model.specs.Journal.{Change as Made}
use Rattle.model.specs.Acts.{Act, Change, Command, CreateNamespace, DropNamespace, CreateTable, AddColumn, DropColumn, RenameTable, DropTable, Split, CreateSchedule, EditSchedule, DeleteSchedule, TakeSnapshot, Restore, CloneNamespace, ListTablets, Refusal, StalePlan, Reply, Advance, Prune, Advanced}
use Rattle.model.specs.Lists.{next_snapshot, numbered_as}
use Rattle.model.specs.Looks.{found_namespace, plan_of}
use Rattle.model.specs.Changed.{clone_begun, clone_time, restoration_begun, snapshot_taken}
use Rattle.model.specs.Changes.{change, planned, create_namespace, drop_namespace, create_table, add_column, drop_column, rename_table, drop_table, split, create_schedule, edit_schedule, delete_schedule, take_snapshot, restore, clone_namespace, list_tablets, judge_clone, judge_create_namespace, judge_drop_namespace, judge_create_table, judge_add_column, judge_drop_column, judge_rename_table, judge_drop_table, judge_split, judge_create_schedule, judge_edit_schedule, judge_delete_schedule, judge_take_snapshot, judge_restore}
use Rattle.model.specs.Coordination.{unfinished_snapshot, unfinished_restoration, unfinished_clone}
use Rattle.model.specs.Moves.{advance, advancing, moving, progress_of, snapshot_progress, restoration_progress, clone_progress, awaited_by_restoration, awaited_by_clone, after_restoration, after_clone, clone_next, given_clone, given_restoration, id_of_snapshot, restoration_next, serving_clone, waits_for}
use Rattle.model.specs.Cleanup.{prune}
use Rattle.model.specs.Drawn.{AreNext, DrawsNext, drawn_by, drawn_entering, drawn_of, drawn_for_clone, new_ids}
use Rattle.model.specs.Entries.{Entry, slots_of}
use Rattle.model.specs.History.{Legal, activity_of, journal_of, master_effect, outcome, replay, told}
use Rattle.model.specs.Entering.{Entering, EntersAt, EntersOnce, all_enter, begun_with, entered, moved_by}
use Rattle.law_invariants.specs.Invariant.{Inv}
use Rattle.law_invariants.proofs.Pending.{unfinished_snapshot_is, unfinished_restoration_is, unfinished_clone_is}
use Rattle.law_clones.proofs.Serving.{clone_scheduled}
use Rattle.law_once.specs.Told.{AllTold, begins_entered, clone_entered, enters, moved_entered, own_entered, restoration_entered, told_entered}
use Rattle.law_once.proofs.Entered.{told_on}
use Rattle.law.proofs.Plain.{act_none, is_weighty, may_weigh}
use Rattle.law.proofs.InTurn.{entry_next}
use Rattle.law.proofs.Law.{legal_holds, stamps_later}

-- What is new, by how many are drawn

no_new : (act : Act) (reply : Reply) (n : ℕ) (m after : Master) (kind : Kind) → DrawsNext act reply n m after → drawn_of kind (drawn_by act reply n m) ≡ 0 → new_ids m after kind ≡ []
no_new act reply n m after kind draws none = by (new_ids m after kind) (draws.given kind ∙ none)
  where
    by : (ids : List Id) → length ids ≡ 0 → ids ≡ []
    by [] e = refl
    by (id ∷ ids) e = absurd (omega (arith, e))

one_new : (act : Act) (reply : Reply) (n : ℕ) (m after : Master) (kind : Kind) → DrawsNext act reply n m after → drawn_of kind (drawn_by act reply n m) ≡ 1 → new_ids m after kind ≡ numbered_as kind (drawn_of kind m.drawn + 1) ∷ []
one_new act reply n m after kind draws one = by (new_ids m after kind) (draws.given kind ∙ one) (draws.next kind)
  where
    by : (ids : List Id) → length ids ≡ 1 → AreNext kind (drawn_of kind m.drawn) ids → ids ≡ numbered_as kind (drawn_of kind m.drawn + 1) ∷ []
    by [] e next = absurd (omega (arith, e))
    by (id ∷ []) e next = ap (λ i. i ∷ []) next.0
    by (id ∷ other ∷ ids) e next = absurd (omega (arith, e))

begun_is : (made : Kind → List Id) (a b c : List Id) (n : ℕ) → made Snapshot ≡ a → made Restoration ≡ b → made Clone ≡ c → begun_with made n ≡ all_enter IsCreating n a ++ all_enter IsFencing n b ++ all_enter IsAccepted n c
begun_is made a b c n x y z =
    ap (λ ids. all_enter IsCreating n ids ++ all_enter IsFencing n (made Restoration) ++ all_enter IsAccepted n (made Clone)) x
    ∙ ap (λ ids. all_enter IsCreating n a ++ all_enter IsFencing n ids ++ all_enter IsAccepted n (made Clone)) y
    ∙ ap (λ ids. all_enter IsCreating n a ++ all_enter IsFencing n b ++ all_enter IsAccepted n ids) z

none_begun : (act : Act) (reply : Reply) (n : ℕ) (m after : Master) → DrawsNext act reply n m after → drawn_of Snapshot (drawn_by act reply n m) ≡ 0 → drawn_of Restoration (drawn_by act reply n m) ≡ 0 → drawn_of Clone (drawn_by act reply n m) ≡ 0
    → begun_with (new_ids m after) n ≡ []
none_begun act reply n m after draws a b c = begun_is (new_ids m after) [] [] [] n (no_new act reply n m after Snapshot draws a) (no_new act reply n m after Restoration draws b) (no_new act reply n m after Clone draws c)

-- Commands

-- an outcome by which just those records enter states that the master is told of
record Enters (act : Act) (n : ℕ) (m : Master) (o : Outcome) : Type 0 where
  same : DrawsNext act o.reply n m (master_effect o.master n m) → (moved_by act o.reply n ++ begun_with (new_ids m (master_effect o.master n m)) n) ≡ told_entered o.master n m

refused_enters : (command : Command) (slots : List ℕ) (n : ℕ) (m : Master) (why : Refusal) → Enters (Change command slots) n m (refused why)
refused_enters command slots n m why = record { same = λ draws. none_begun _ _ n m _ draws refl refl refl }

decided_enters : {A : Type 0} (judgement : Result A Refusal) (go : A → Outcome) (command : Command) (slots : List ℕ) (n : ℕ) (m : Master) → ((a : A) → Enters (Change command slots) n m (go a)) → Enters (Change command slots) n m (decided judgement go)
decided_enters (Err why) go command slots n m accepted = refused_enters command slots n m why
decided_enters (Ok a) go command slots n m accepted = accepted a

-- a clone draws no snapshot and no restoration
clone_none : (o : Option Id) (to : ℕ) (m : Master) → (drawn_of Snapshot (option_map_or (drawn_for_clone to m) o none_drawn) ≡ 0) × (drawn_of Restoration (option_map_or (drawn_for_clone to m) o none_drawn) ≡ 0)
clone_none None to m = (refl, refl)
clone_none (Some ns) to m = (refl, refl)

planned_enters : (command : Command) (slots : List ℕ) (n : ℕ) (ps : Parts) → Enters (Change command slots) n ps.master (planned command slots n ps)
unfolding create_namespace drop_namespace create_table add_column drop_column rename_table drop_table split create_schedule edit_schedule delete_schedule take_snapshot restore clone_namespace list_tablets
planned_enters (TakeSnapshot schedule) slots n ps =
    decided_enters (judge_take_snapshot schedule n ps.master) _ (TakeSnapshot schedule) slots n ps.master
    (λ s. record { same = λ draws. begun_is (new_ids ps.master (snapshot_taken s n ps.master)) _ [] [] n (sym draws.named) (no_new _ _ n ps.master _ Restoration draws refl) (no_new _ _ n ps.master _ Clone draws refl) })
planned_enters (Restore schedule to) slots n ps =
    decided_enters (judge_restore schedule to n ps.master) _ (Restore schedule to) slots n ps.master
    (λ s. record { same = λ draws. begun_is (new_ids ps.master (restoration_begun s to n ps.master)) [] _ [] n (no_new _ _ n ps.master _ Snapshot draws refl) (sym draws.named) (no_new _ _ n ps.master _ Clone draws refl) })
planned_enters (CloneNamespace source target at) slots n ps =
    decided_enters (judge_clone source target (clone_time at n) n ps.master) _ (CloneNamespace source target at) slots n ps.master
    (λ s. record { same = λ draws. begun_is (new_ids ps.master (clone_begun s.namespace source target (clone_time at n) n ps.master)) [] [] _ n (no_new _ _ n ps.master _ Snapshot draws (clone_none _ _ ps.master).0) (no_new _ _ n ps.master _ Restoration draws (clone_none _ _ ps.master).1) (sym draws.named) })
planned_enters (CreateNamespace name) slots n ps = decided_enters (judge_create_namespace name ps.master) _ (CreateNamespace name) slots n ps.master (λ a. record { same = λ draws. none_begun _ _ n ps.master _ draws refl refl refl })
planned_enters (CreateTable namespace table tablets columns) slots n ps =
    decided_enters (judge_create_table namespace table tablets ps.master) _ (CreateTable namespace table tablets columns) slots n ps.master (λ a. record { same = λ draws. none_begun _ _ n ps.master _ draws refl refl refl })
planned_enters (Split namespace table code) slots n ps = decided_enters (judge_split namespace table code ps.master) _ (Split namespace table code) slots n ps.master (λ a. record { same = λ draws. none_begun _ _ n ps.master _ draws refl refl refl })
planned_enters (CreateSchedule interval retention namespace) slots n ps =
    decided_enters (judge_create_schedule interval retention namespace ps.master) _ (CreateSchedule interval retention namespace) slots n ps.master (λ a. record { same = λ draws. none_begun _ _ n ps.master _ draws refl refl refl })
planned_enters (DropNamespace name) slots n ps = decided_enters (judge_drop_namespace name ps.master) _ (DropNamespace name) slots n ps.master (λ a. record { same = λ draws. none_begun _ _ n ps.master _ draws refl refl refl })
planned_enters (AddColumn namespace table name kind) slots n ps =
    decided_enters (judge_add_column namespace table name ps.master) _ (AddColumn namespace table name kind) slots n ps.master (λ a. record { same = λ draws. none_begun _ _ n ps.master _ draws refl refl refl })
planned_enters (DropColumn namespace table name) slots n ps =
    decided_enters (judge_drop_column namespace table name ps.master) _ (DropColumn namespace table name) slots n ps.master (λ a. record { same = λ draws. none_begun _ _ n ps.master _ draws refl refl refl })
planned_enters (RenameTable namespace table name) slots n ps =
    decided_enters (judge_rename_table namespace table name ps.master) _ (RenameTable namespace table name) slots n ps.master (λ a. record { same = λ draws. none_begun _ _ n ps.master _ draws refl refl refl })
planned_enters (DropTable namespace table) slots n ps = decided_enters (judge_drop_table namespace table ps.master) _ (DropTable namespace table) slots n ps.master (λ a. record { same = λ draws. none_begun _ _ n ps.master _ draws refl refl refl })
planned_enters (EditSchedule schedule interval retention) slots n ps =
    decided_enters (judge_edit_schedule schedule interval retention ps.master) _ (EditSchedule schedule interval retention) slots n ps.master (λ a. record { same = λ draws. none_begun _ _ n ps.master _ draws refl refl refl })
planned_enters (DeleteSchedule schedule) slots n ps = decided_enters (judge_delete_schedule schedule ps.master) _ (DeleteSchedule schedule) slots n ps.master (λ a. record { same = λ draws. none_begun _ _ n ps.master _ draws refl refl refl })
planned_enters (ListTablets namespace) slots n ps = decided_enters (found_namespace ps.master namespace) _ (ListTablets namespace) slots n ps.master (λ a. record { same = λ draws. none_begun _ _ n ps.master _ draws refl refl refl })
planned_enters _ slots n ps = record { same = λ draws. none_begun _ _ n ps.master _ draws refl refl refl }

-- Moves

waits_enters : (awaited : Option Id) (operation : Id) (next : State) (n : ℕ) (m : Master)
    → (DrawsNext (Advance operation) (Advanced next) n m (master_effect (Moves operation) n m) → (moved_by (Advance operation) (Advanced next) n ++ begun_with (new_ids m (master_effect (Moves operation) n m)) n) ≡ moved_entered operation.kind operation n m)
    → Enters (Advance operation) n m (moving awaited operation next)
waits_enters (Some on) operation next n m go = record { same = λ draws. none_begun _ _ n m _ draws refl refl refl }
waits_enters None operation next n m go = record { same = go }

-- a move that makes no snapshot enters the one state
quiet_enters : (operation : Id) (next : State) (n : ℕ) (m : Master) → drawn_entering (next ∷ []) ≡ none_drawn → DrawsNext (Advance operation) (Advanced next) n m (master_effect (Moves operation) n m)
    → (moved_by (Advance operation) (Advanced next) n ++ begun_with (new_ids m (master_effect (Moves operation) n m)) n) ≡ enters operation next n ∷ []
quiet_enters operation next n m none draws = ap (λ es. enters operation next n ∷ es) (none_begun _ _ n m _ draws (ap (drawn_of Snapshot) none) (ap (drawn_of Restoration) none) (ap (drawn_of Clone) none))

-- and one that makes its own has this enter its first state
own_enters : (operation : Id) (n : ℕ) (m : Master) → DrawsNext (Advance operation) (Advanced IsSnapshot) n m (master_effect (Moves operation) n m)
    → (moved_by (Advance operation) (Advanced IsSnapshot) n ++ begun_with (new_ids m (master_effect (Moves operation) n m)) n) ≡ enters operation IsSnapshot n ∷ enters (next_snapshot m) IsCreating n ∷ []
own_enters operation n m draws = ap (λ es. enters operation IsSnapshot n ∷ es) (begun_is (new_ids m (master_effect (Moves operation) n m)) (next_snapshot m ∷ []) [] [] n (one_new _ _ n m _ Snapshot draws refl) (no_new _ _ n m _ Restoration draws refl) (no_new _ _ n m _ Clone draws refl))

state_enters : (state : RestorationState) (r : RestorationRecord) (operation : Id) (n : ℕ) (m : Master) → is_restored state ≡ false → DrawsNext (Advance operation) (Advanced (restoration_state (restoration_next state (given_restoration state r m.clock m)))) n m (master_effect (Moves operation) n m)
    → (moved_by (Advance operation) (Advanced (restoration_state (restoration_next state (given_restoration state r m.clock m)))) n ++ begun_with (new_ids m (master_effect (Moves operation) n m)) n) ≡ restoration_entered state operation n m
state_enters Fencing r operation n m open_ draws = own_enters operation n m draws
state_enters (Snapshotting point own) r operation n m open_ draws = quiet_enters operation IsSwitching n m refl draws
state_enters (Switching point serving) r operation n m open_ draws = quiet_enters operation IsRestoring n m refl draws
state_enters (Restoring point serving) r operation n m open_ draws = quiet_enters operation IsReleasing n m refl draws
state_enters (Releasing point serving) r operation n m open_ draws = quiet_enters operation IsRestored n m refl draws
state_enters (Restored point serving) r operation n m open_ draws = absurd (let q = open_ in grind arith)

begins_enters : (o : Option SnapshotRecord) (s : ScheduleRecord) (c : CloneRecord) (n : ℕ) (m : Master) → schedule_of m.schedules c.source ≡ Some s → DrawsNext (Advance c.id) (Advanced (clone_state (clone_next Accepted (given_clone Accepted (id_of_snapshot o) c m.clock m)))) n m (master_effect (Moves c.id) n m)
    → (moved_by (Advance c.id) (Advanced (clone_state (clone_next Accepted (given_clone Accepted (id_of_snapshot o) c m.clock m)))) n ++ begun_with (new_ids m (master_effect (Moves c.id) n m)) n) ≡ begins_entered o c n m
begins_enters (Some q) s c n m e draws = quiet_enters c.id IsCopying n m refl draws
begins_enters None s c n m e draws = own_enters c.id n m draws ∙ ap (λ o. enters c.id IsSnapshot n ∷ own_entered o n m) (sym e)

copy_enters : (state : CloneState) (s : ScheduleRecord) (c : CloneRecord) (n : ℕ) (m : Master) → is_cloned state ≡ false → schedule_of m.schedules c.source ≡ Some s → DrawsNext (Advance c.id) (Advanced (clone_state (clone_next state (given_clone state (id_of_snapshot (serving_clone m c)) c m.clock m)))) n m (master_effect (Moves c.id) n m)
    → (moved_by (Advance c.id) (Advanced (clone_state (clone_next state (given_clone state (id_of_snapshot (serving_clone m c)) c m.clock m)))) n ++ begun_with (new_ids m (master_effect (Moves c.id) n m)) n) ≡ clone_entered state c n m
copy_enters Accepted s c n m open_ e draws = begins_enters (serving_clone m c) s c n m e draws
copy_enters (CloneSnapshot own) s c n m open_ e draws = quiet_enters c.id IsCopying n m refl draws
copy_enters (Copying serving at) s c n m open_ e draws = quiet_enters c.id IsReleasing n m refl draws
copy_enters (CloneReleasing serving at) s c n m open_ e draws = quiet_enters c.id IsComplete n m refl draws
copy_enters (CloneComplete serving at) s c n m open_ e draws = absurd (let q = open_ in grind arith)

snapshot_enters : (found : Option SnapshotRecord) (operation : Id) (n : ℕ) (m : Master) → operation.kind ≡ Snapshot → unfinished_snapshot m.snapshots operation ≡ found → Enters (Advance operation) n m (advancing (option_map snapshot_progress found) operation)
snapshot_enters None operation n m kind found = record { same = λ draws. none_begun _ _ n m _ draws refl refl refl }
snapshot_enters (Some r) operation n m kind found =
    let is = unfinished_snapshot_is m.snapshots operation r found in
    let shown : moved_entered operation.kind operation n m ≡ enters operation IsComplete n ∷ []
    = ap (λ k. moved_entered k operation n m) kind ∙ ap (λ o. option_map_or {T = SnapshotRecord} (λ r. enters r.id IsComplete n ∷ []) o []) found ∙ ap (λ id. enters id IsComplete n ∷ []) is.1.0 in
    waits_enters (waits_for (first_unacked r.listed) None) operation IsComplete n m (λ draws. quiet_enters operation IsComplete n m refl draws ∙ sym shown)

restoration_enters_ : (found : Option RestorationRecord) (operation : Id) (n : ℕ) (m : Master) → operation.kind ≡ Restoration → unfinished_restoration m.restorations operation ≡ found → Enters (Advance operation) n m (advancing (option_map (restoration_progress m) found) operation)
restoration_enters_ None operation n m kind found = record { same = λ draws. none_begun _ _ n m _ draws refl refl refl }
restoration_enters_ (Some r) operation n m kind found =
    let is = unfinished_restoration_is m.restorations operation r found in
    let shown : moved_entered operation.kind operation n m ≡ restoration_entered r.state operation n m
    = ap (λ k. moved_entered k operation n m) kind ∙ ap (λ o. option_map_or {T = RestorationRecord} (λ r. restoration_entered r.state r.id n m) o []) found ∙ ap (λ id. restoration_entered r.state id n m) is.1.0 in
    waits_enters (waits_for (first_unacked r.listed) (awaited_by_restoration r.state m r)) operation (after_restoration m r) n m (λ draws. state_enters r.state r operation n m is.1.1 draws ∙ sym shown)

clone_enters_ : (found : Option CloneRecord) (operation : Id) (n : ℕ) (ps : Parts) (activity : List Interval) (changes : List Made) → operation.kind ≡ Clone → unfinished_clone ps.master.clones operation ≡ found → Inv ps activity changes
    → Enters (Advance operation) n ps.master (advancing (option_map (clone_progress ps.master) found) operation)
clone_enters_ None operation n ps activity changes kind found inv = record { same = λ draws. none_begun _ _ n ps.master _ draws refl refl refl }
clone_enters_ (Some c) operation n ps activity changes kind found inv =
    let m = ps.master in
    let is = unfinished_clone_is m.clones operation c found in
    let s = clone_scheduled m changes c inv.operations is.0 is.1.1 in
    let shown : moved_entered operation.kind operation n m ≡ clone_entered c.state c n m
    = ap (λ k. moved_entered k operation n m) kind ∙ ap (λ o. option_map_or {T = CloneRecord} (λ c. clone_entered c.state c n m) o []) found in
    let next = after_clone m c in
    waits_enters (waits_for (first_unacked c.listed) (awaited_by_clone c.state m c)) operation next n m
    (λ draws. subst (λ id. DrawsNext (Advance id) (Advanced next) n m (master_effect (Moves id) n m) → (moved_by (Advance id) (Advanced next) n ++ begun_with (new_ids m (master_effect (Moves id) n m)) n) ≡ clone_entered c.state c n m) is.1.0
    (copy_enters c.state s.0 c n m is.1.1 s.1.0) draws ∙ sym shown)

kind_enters : (kind : Kind) (operation : Id) (n : ℕ) (ps : Parts) (activity : List Interval) (changes : List Made) → operation.kind ≡ kind → Inv ps activity changes → Enters (Advance operation) n ps.master (advancing (progress_of kind ps.master operation) operation)
kind_enters Snapshot operation n ps activity changes is inv = snapshot_enters (unfinished_snapshot ps.master.snapshots operation) operation n ps.master is refl
kind_enters Restoration operation n ps activity changes is inv = restoration_enters_ (unfinished_restoration ps.master.restorations operation) operation n ps.master is refl
kind_enters Clone operation n ps activity changes is inv = clone_enters_ (unfinished_clone ps.master.clones operation) operation n ps activity changes is refl inv
kind_enters _ operation n ps activity changes is inv = record { same = λ draws. none_begun _ _ n ps.master _ draws refl refl refl }

-- Each act

-- which records enter which states by an event
abbrev pub EntersAs : Act → ℕ → Parts → Type 0
EntersAs act n ps =
    let o = outcome act n ps in
    (moved_by act o.reply n ++ begun_with (new_ids ps.master (told act o n ps).master) n) ≡ (if has (slots_of act) 0 then told_entered o.master n ps.master else [])

plain_told : (a : MasterAct) (n : ℕ) (m : Master) → is_weighty a ≡ false → told_entered a n m ≡ []
plain_told Ticks n m e = refl
plain_told (Sends operation slot) n m e = refl
plain_told (Acks operation slot) n m e = refl
plain_told (Unsends operation slot) n m e = refl
plain_told (Removes target) n m e = refl
plain_told Restarts n m e = refl
plain_told _ n m e = absurd (let q = e in grind arith)

plain_enters : (act : Act) (n : ℕ) (ps : Parts) → may_weigh act ≡ false → moved_by act (outcome act n ps).reply n ≡ [] → drawn_by act (outcome act n ps).reply n ps.master ≡ none_drawn → DrawsNext act (outcome act n ps).reply n ps.master (told act (outcome act n ps) n ps).master → EntersAs act n ps
plain_enters act n ps e moved none draws =
    let o = outcome act n ps in
    ap (λ es. es ++ begun_with (new_ids ps.master (told act o n ps).master) n) moved
    ∙ none_begun act o.reply n ps.master _ draws (ap (drawn_of Snapshot) none) (ap (drawn_of Restoration) none) (ap (drawn_of Clone) none)
    ∙ sym (cond_both (has (slots_of act) 0) (told_entered o.master n ps.master) [] (λ es. es ≡ []) (λ _. plain_told o.master n ps.master (act_none act n ps e).none) (λ _. refl))

act_enters : (act : Act) (n : ℕ) (ps : Parts) (activity : List Interval) (changes : List Made) → Inv ps activity changes → DrawsNext act (outcome act n ps).reply n ps.master (told act (outcome act n ps) n ps).master → EntersAs act n ps
unfolding change advance prune
act_enters (Change command plan) n ps activity changes inv draws = (by (same_slots plan (plan_of command ps.master))).same draws
  where
    by : (b : Bool) → Enters (Change command plan) n ps.master (judged (If (not b) (StalePlan (plan_of command ps.master)) ∷ []) (planned command plan n ps))
    by true = planned_enters command plan n ps
    by false = refused_enters command plan n ps.master (StalePlan (plan_of command ps.master))
act_enters (Advance operation) n ps activity changes inv draws = (kind_enters operation.kind operation n ps activity changes refl inv).same draws
act_enters Prune n ps activity changes inv draws = none_begun _ _ n ps.master _ draws refl refl refl
act_enters act n ps activity changes inv draws = plain_enters act n ps refl refl refl draws

-- which records enter which states by an entry of a legal history
pub entry_enters : (e : Entry) (earlier : List Entry) (slots : ℕ) → Legal slots (e ∷ earlier)
    → entered slots (e ∷ earlier) ≡ (if has (slots_of e.event.act) 0 then told_entered (outcome e.event.act e.stamp (replay slots earlier)).master e.stamp (replay slots earlier).master else []) ++ entered slots earlier
unfolding replay entered
entry_enters e earlier slots legal =
    let ps = replay slots earlier in
    let act = e.event.act in
    let o = outcome act e.stamp ps in
    let before = legal_holds earlier slots legal.0 in
    let draws = entry_next e earlier slots legal in
    ap (λ reply. moved_by act reply e.stamp ++ begun_with (new_ids ps.master (told act o e.stamp ps).master) e.stamp ++ entered slots earlier) legal.1.reply
    ∙ ap (λ es. es ++ entered slots earlier) (act_enters act e.stamp ps (activity_of slots earlier) (journal_of slots earlier) before.inv draws)

-- The induction

pub all_told : (history : List Entry) (slots : ℕ) → Legal slots history → AllTold (replay slots history).master (entered slots history)
unfolding replay entered
all_told [] slots legal = record { known = λ e isin. absurd isin; past = λ e isin. absurd isin; snapshots = λ r isin. absurd isin; restorations = λ r isin. absurd isin; clones = λ c isin. absurd isin }
all_told (e ∷ earlier) slots legal =
    let ps = replay slots earlier in
    let act = e.event.act in
    let o = outcome act e.stamp ps in
    let before = legal_holds earlier slots legal.0 in
    let h = all_told earlier slots legal.0 in
    subst (AllTold (told act o e.stamp ps).master) (sym (entry_enters e earlier slots legal))
    (by (has (slots_of act) 0) _ (λ touched. told_on o.master e.stamp ps.master (journal_of slots earlier) (entered slots earlier) (le_of_lt (stamps_later e ps legal.1.stamp 0 touched)) before.inv.operations h) h)
  where
    by : (b : Bool) {m after : Master} (new : List Entering) {es : List Entering} → (b ≡ true → AllTold after (new ++ es)) → AllTold m es → AllTold (if b then after else m) ((if b then new else []) ++ es)
    by true new go h = go refl
    by false new go h = h

pub enters_once : (history : List Entry) (slots : ℕ) → Legal slots history → EntersOnce (replay slots history) (entered slots history)
enters_once history slots legal =
    let h = all_told history slots legal in record {
      snapshots = λ r isin. (h.snapshots r isin).states;
      restorations = λ r isin. (h.restorations r isin).states;
      clones = λ c isin. (h.clones c isin).states;
    }

pub enters_at : (history : List Entry) (slots : ℕ) → Legal slots history → EntersAt (replay slots history) (entered slots history)
enters_at history slots legal =
    let h = all_told history slots legal in record {
      taken = λ r isin. (h.snapshots r isin).taken;
      points = λ r isin. (h.restorations r isin).point;
      copied = λ c at isin is. (h.clones c isin).copied at is;
      released = λ c l cutoff isin listed is. (h.clones c isin).released l cutoff listed is;
    }
