-- Each entry of a legal history keeps what holds.
use Rattle.std.proofs.Common.{ℕ, ◌≡◌, ◌≤◌, max, List, [], ◌∷◌, true, refl, subst, arith, eqb, eqb-true, le_trans, le_refl, map, fold}
use Rattle.model.specs.Cluster.{has, Interval, Parts, start}
use Rattle.model.specs.Journal as made
use Rattle.model.specs.Acts.{Act, CreateNamespace, DropNamespace, CreateTable, AddColumn, DropColumn, RenameTable, DropTable, ListSchedules, ListSnapshots, ListRestorations, ListClones, ListTablets, CloneNamespace, Split, CreateSchedule, DeleteSchedule, TakeSnapshot, Restore, Look, Change, Write, Read, Cutoff, Compact, Send, Process, Ack, Advance, Remove, Prune, Restart, Stats, EditSchedule}
use Rattle.model.specs.Retained.{RowsFound}
use Rattle.model.specs.Entries.{Entry, slots_of, clock_at, stamp_of, ActAsked}
use Rattle.model.specs.History.{outcome, replay, journal_of, activity_of, scheduled_since, snapshots_taken, Legal}
use Rattle.law_store.proofs.Keys.{either_way}
use Rattle.law_invariants.specs.Invariant.{Inv, Later}
use Rattle.law_invariants.proofs.Ticking.{KeepsAll}
use Rattle.law_changes.proofs.Changing.{catalog_change_keeps}
use Rattle.law_splits.proofs.Splitting.{split_change_keeps}
use Rattle.law_cleanup.proofs.Snapshots.{remove_keeps}
use Rattle.law_cleanup.proofs.Pruning.{prune_keeps}
use Rattle.law_rows.proofs.Keeping.{stats_keeps, restart_keeps, compact_keeps, cutoff_keeps}
use Rattle.law_rows.proofs.Writing.{write_keeps}
use Rattle.law_rows.proofs.Reading.{read_keeps}
use Rattle.law_rows.proofs.Looking.{look_keeps}
use Rattle.law_commands.proofs.Sending.{send_keeps}
use Rattle.law_commands.proofs.Processing.{process_keeps}
use Rattle.law_commands.proofs.Acking.{ack_keeps}
use Rattle.law_moves.proofs.Commanding.{schedule_change_keeps}
use Rattle.law_moves.proofs.Moves.{advance_keeps}
use Rattle.law_clones.proofs.Commanding.{clone_change_keeps}
use Rattle.law_clones.proofs.Moves.{advance_clone_keeps}
use Rattle.law_retention.specs.Facts.{Facts, IsTaken}
use Rattle.law_retention.proofs.Lasting.{rows_found}
use Rattle.law_retention.proofs.Recounting.{none_taken, taken_go_on}
use Rattle.law_retention.proofs.Taking.{act_keeps_facts, start_facts}
use Rattle.law.proofs.Starting.{start_holds}

-- each act keeps what holds
pub act_keeps : (act : Act) (slots n : ℕ) (ps : Parts) (activity : List Interval) (changes : List made.Change) → Later (slots_of act) ps n → ActAsked slots act → RowsFound ps → Inv ps activity changes → KeepsAll act n ps activity changes (outcome act n ps)
act_keeps (Look ask) slots n ps activity changes later asked found inv = look_keeps ask n ps activity changes later inv
act_keeps (Change (Split namespace table code) plan) slots n ps activity changes later asked found inv = split_change_keeps ps activity changes n namespace table code plan later asked.0 inv
act_keeps (Change (CreateSchedule interval retention namespace) plan) slots n ps activity changes later asked found inv = schedule_change_keeps (CreateSchedule interval retention namespace) plan ps activity changes n tt later inv
act_keeps (Change (EditSchedule schedule interval retention) plan) slots n ps activity changes later asked found inv = schedule_change_keeps (EditSchedule schedule interval retention) plan ps activity changes n tt later inv
act_keeps (Change (DeleteSchedule schedule) plan) slots n ps activity changes later asked found inv = schedule_change_keeps (DeleteSchedule schedule) plan ps activity changes n tt later inv
act_keeps (Change (TakeSnapshot schedule) plan) slots n ps activity changes later asked found inv = schedule_change_keeps (TakeSnapshot schedule) plan ps activity changes n tt later inv
act_keeps (Change (Restore schedule to) plan) slots n ps activity changes later asked found inv = schedule_change_keeps (Restore schedule to) plan ps activity changes n tt later inv
act_keeps (Change (CreateNamespace name) plan) slots n ps activity changes later asked found inv = catalog_change_keeps (CreateNamespace name) plan ps activity changes n tt asked.0 later inv
act_keeps (Change (DropNamespace name) plan) slots n ps activity changes later asked found inv = catalog_change_keeps (DropNamespace name) plan ps activity changes n tt asked.0 later inv
act_keeps (Change (CreateTable namespace table tablets columns) plan) slots n ps activity changes later asked found inv = catalog_change_keeps (CreateTable namespace table tablets columns) plan ps activity changes n tt asked.0 later inv
act_keeps (Change (AddColumn namespace table name kind) plan) slots n ps activity changes later asked found inv = catalog_change_keeps (AddColumn namespace table name kind) plan ps activity changes n tt asked.0 later inv
act_keeps (Change (DropColumn namespace table name) plan) slots n ps activity changes later asked found inv = catalog_change_keeps (DropColumn namespace table name) plan ps activity changes n tt asked.0 later inv
act_keeps (Change (RenameTable namespace table name) plan) slots n ps activity changes later asked found inv = catalog_change_keeps (RenameTable namespace table name) plan ps activity changes n tt asked.0 later inv
act_keeps (Change (DropTable namespace table) plan) slots n ps activity changes later asked found inv = catalog_change_keeps (DropTable namespace table) plan ps activity changes n tt asked.0 later inv
act_keeps (Change ListSchedules plan) slots n ps activity changes later asked found inv = catalog_change_keeps ListSchedules plan ps activity changes n tt asked.0 later inv
act_keeps (Change ListSnapshots plan) slots n ps activity changes later asked found inv = catalog_change_keeps ListSnapshots plan ps activity changes n tt asked.0 later inv
act_keeps (Change ListRestorations plan) slots n ps activity changes later asked found inv = catalog_change_keeps ListRestorations plan ps activity changes n tt asked.0 later inv
act_keeps (Change ListClones plan) slots n ps activity changes later asked found inv = catalog_change_keeps ListClones plan ps activity changes n tt asked.0 later inv
act_keeps (Change (ListTablets namespace) plan) slots n ps activity changes later asked found inv = catalog_change_keeps (ListTablets namespace) plan ps activity changes n tt asked.0 later inv
act_keeps (Change (CloneNamespace source target at) plan) slots n ps activity changes later asked found inv = clone_change_keeps ps activity changes n source target at plan later inv
act_keeps (Write place version batch) slots n ps activity changes later asked found inv = write_keeps ps activity changes n place version batch later asked.0.0 inv
act_keeps (Read places version key at columns) slots n ps activity changes later asked found inv = read_keeps ps activity changes n places version key at columns later inv
act_keeps (Cutoff slot) slots n ps activity changes later asked found inv = cutoff_keeps ps activity changes n slot later asked.0 inv
act_keeps (Compact slot) slots n ps activity changes later asked found inv = compact_keeps ps activity changes n slot later asked.0 inv
act_keeps (Send operation slot) slots n ps activity changes later asked found inv = send_keeps ps activity changes n operation slot later asked.0 inv
act_keeps (Process slot other) slots n ps activity changes later asked found inv = process_keeps ps activity changes n slot other later asked.0.0 found inv
act_keeps (Ack operation slot) slots n ps activity changes later asked found inv = ack_keeps ps activity changes n operation slot later asked.0 inv
act_keeps (Advance operation) slots n ps activity changes later asked found inv = advance_keeps ps activity changes n operation later inv (λ kind. advance_clone_keeps ps activity changes n operation later kind inv)
act_keeps (Remove target plan) slots n ps activity changes later asked found inv = remove_keeps ps activity changes n target plan later asked.0 inv
act_keeps Prune slots n ps activity changes later asked found inv = prune_keeps ps activity changes n later inv
act_keeps (Restart slot) slots n ps activity changes later asked found inv = restart_keeps ps activity changes n slot later inv
act_keeps (Stats slot) slots n ps activity changes later asked found inv = stats_keeps ps activity changes n slot later inv

-- a touched clock is below the stamp

rises : (xs : List ℕ) (a : ℕ) → a ≤ fold max a xs
rises [] a = le_refl a
rises (x ∷ xs) a = le_trans (omega arith) (rises xs (max a x))

below_greatest : (slots : List ℕ) (ps : Parts) (a slot : ℕ) → has slots slot ≡ true → clock_at ps slot ≤ fold max a (map (clock_at ps) slots)
below_greatest [] ps a slot is = absurd (let q = is in grind arith)
below_greatest (s ∷ ss) ps a slot is = either_way (eqb s slot)
    (λ e. subst (λ k. clock_at ps k ≤ fold max (max a (clock_at ps s)) (map (clock_at ps) ss)) (eqb-true s slot e) (le_trans (omega arith) (rises (map (clock_at ps) ss) (max a (clock_at ps s)))))
    (λ e. below_greatest ss ps (max a (clock_at ps s)) slot (rw e at is))

pub stamps_later : (e : Entry) (ps : Parts) → e.stamp ≡ stamp_of e.event ps → Later (slots_of e.event.act) ps e.stamp
stamps_later e ps is = λ slot touched. let l = below_greatest (slots_of e.event.act) ps 0 slot touched in omega arith

-- what holds of what a legal history leaves. That a tablet finds the rows that it takes back rests on the facts of
-- retention, and these on the invariants
pub record Holds (slots : ℕ) (history : List Entry) : Type 0 where
  pub inv : Inv (replay slots history) (activity_of slots history) (journal_of slots history)
  pub facts : Facts (replay slots history)
  pub taken : IsTaken (snapshots_taken slots history) (scheduled_since slots history) (replay slots history).master

pub legal_holds : (history : List Entry) (slots : ℕ) → Legal slots history → Holds slots history
unfolding replay journal_of activity_of snapshots_taken scheduled_since
legal_holds [] slots legal = record {
  inv = start_holds slots;
  facts = start_facts slots;
  taken = none_taken (start slots).master (scheduled_since slots []) refl;
}
legal_holds (e ∷ earlier) slots legal =
    let before = legal_holds earlier slots legal.0 in
    let step = legal.1 in
    let ps = replay slots earlier in
    let act = e.event.act in
    let o = outcome act e.stamp ps in
    let activity = activity_of slots earlier in
    let changes = journal_of slots earlier in
    let later = stamps_later e ps step.stamp in
    let keeps : KeepsAll act e.stamp ps activity changes o
    = act_keeps act slots e.stamp ps activity changes later step.asked.act (rows_found ps activity changes before.inv before.facts) before.inv in
    record {
      inv = keeps;
      facts = act_keeps_facts act slots step.asked.act e.stamp ps activity changes later before.inv before.facts _ _ keeps;
      taken = taken_go_on act o e.stamp ps activity changes (snapshots_taken slots earlier) (scheduled_since slots earlier) later before.inv before.taken;
    }
