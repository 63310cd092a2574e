-- After each entry of a legal history what its restores fixed is as it was, and nothing came too late for it.
use Rattle.std.proofs.Common.{ℕ, ◌≡◌, ◌≤◌, ◌<◌, List, [], ◌∷◌, ◌++◌, Option, Some, None, true, false, not, refl, sym, ap, subst, ◌∙◌, arith, le_refl, eqb, eqb-true, Bool}
use Rattle.std.specs.Option.{is_some}
use Rattle.std.proofs.lemmas.Bool.{true≢false, cond_both}
use Rattle.std.proofs.lemmas.Bool.Decides.{nat_tests}
use Rattle.row_values.specs.Slots.{has}
use Rattle.row_values.specs.declared.value.Item.{Item}
use Rattle.row_values.specs.Ids.{Id, same}
use Rattle.row_values.specs.Schema.{numbered}
use Rattle.model.specs.Catalog.{Owner, is_owned_by, owner_of}
use Rattle.model.specs.Activity.{Interval}
use Rattle.model.specs.Tablets.{Told, Tablet, Write as WriteRows, is_serving, serves}
use Rattle.model.specs.Records.{RestorationRecord, RestorationState, Switching, CloneRecord, CloneState, Accepted, Copying, first_unacked}
use Rattle.std.specs.Prelude.{Result, Ok, Err}
use Rattle.model.specs.Acts.{ListTablets, Split, CreateSchedule, EditSchedule, DeleteSchedule, TakeSnapshot, Restore, CloneNamespace, StaleSchema, Fenced, At, Command, CreateNamespace, DropNamespace, CreateTable, AddColumn, DropColumn, RenameTable, DropTable, Act, Change, Write, Advance, Ok, Refusal, Ok as ReplyOk}
use Rattle.model.specs.Journal.{ChangeAct, TableView, table_at}
use Rattle.model.specs.Parts.{Master, Parts, MasterAct, Acks, Removes, BeginsClone, MakesNamespace, DropsNamespace, MakesTable, AddsColumn, DropsColumn, RenamesTable, DropsTable, Moves, Ticks, Check, If, Names, Fault, Outcome, judged, decided, unless}
use Rattle.model.specs.Looks.{found_namespace}
use Rattle.model.specs.Changed.{next_table, clone_time}
use Rattle.model.specs.Changes.{judge_create_namespace, judge_drop_namespace, judge_create_table, judge_add_column, judge_drop_column, judge_rename_table, judge_drop_table, judge_split, judge_create_schedule, judge_edit_schedule, judge_delete_schedule, judge_take_snapshot, judge_restore, judge_clone, create_namespace, drop_namespace, create_table, add_column, drop_column, rename_table, drop_table, split, create_schedule, edit_schedule, delete_schedule, take_snapshot, restore, clone_namespace, list_tablets, planned, change}
use Rattle.model.specs.Moves.{Progress, progress_of, waits_for, moving, advancing, advance, restoration_moved, clone_moved}
use Rattle.model.specs.RowActs.{has_moved, serves_all, write}
use Rattle.model.specs.Coordination.{unfinished_restoration, unfinished_clone}
use Rattle.model.specs.Right.{fixes, is_fixed}
use Rattle.model.specs.Right.{FixedStays}
use Rattle.model.specs.Entries.{Entry, ActAsked, slots_of}
use Rattle.model.specs.History.{outcome, master_effect, next, replay, journal_of, activity_of, Legal, with, with_rows, rows_made, with_master, with_restoration, with_clone, with_either, with_changes}
use Rattle.law_invariants.proofs.Effects.{acked_each, begins_each, moved_each, removed_each}
use Rattle.law_invariants.specs.Invariant.{Inv, Later, Passes}
use Rattle.law_invariants.specs.Operations.{RestorationStateGood, takers}
use Rattle.law_invariants.proofs.Finding.{both_pass, none_or_some, not_some_is, same_equal}
use Rattle.law_invariants.proofs.Records.{owners_first}
use Rattle.law_invariants.proofs.Told.{clock_before}
use Rattle.law_invariants.proofs.Pending.{unfinished_restoration_is, unfinished_clone_is}
use Rattle.law.proofs.Telling.{Commands, command_each}
use Rattle.law.proofs.Law.{legal_holds, stamps_later}
use Rattle.law.proofs.Fixing.{OwnersStand, plain_stand, made_stand, cloned_stand, rows_stand, ViewOwned, plain_owned, made_owned, restored_owned, cloned_owned, rows_owned, soon_fixed, later_fixed, rows_fixed, restore_fixed, stays_home}
use Rattle.row_values.specs.Elements.{In}
use Rattle.law_clones.proofs.Growing.{Becomes, taker_there, unmade}
use Rattle.model.specs.Journal as made
use Rattle.law_invariants.proofs.Unneeded.{not_false}

-- what holds of a journal, beside a list of owners
pub record JournalFixed (os : List Owner) (changes : List made.Change) : Type 0 where
  pub owners : OwnersStand os changes
  pub owned : ViewOwned changes
  pub stays : FixedStays changes

-- the view has a table in the namespace that the list of owners names
abbrev pub Inside : List Owner → List made.Change → Type 0
Inside os changes = (id : Id) (x : ℕ) (v : TableView) → table_at changes x id ≡ Some v → owner_of os id ≡ Some v.namespace

-- Owners are never taken away

abbrev OwnersGrow : List Owner → List Owner → Type 0
OwnersGrow os more = (table ns : Id) → owner_of os table ≡ Some ns → owner_of more table ≡ Some ns

grow_none : (os : List Owner) → OwnersGrow os os
grow_none os table ns e = e

grow_more : (os more : List Owner) → OwnersGrow os (os ++ more)
grow_more os more table ns e = owners_first os more table ns e

restoration_owners : (state : RestorationState) (r : RestorationRecord) (n : ℕ) (m : Master) → (restoration_moved state r n m).catalog.owners ≡ m.catalog.owners
restoration_owners (Switching point serving) r n m = refl
restoration_owners _ r n m = refl

clone_owners : (state : CloneState) (r : CloneRecord) (n : ℕ) (m : Master) → (clone_moved state r n m).catalog.owners ≡ m.catalog.owners
clone_owners Accepted r n m = begins_each (λ k. k.catalog.owners ≡ m.catalog.owners) r n m (λ serving. refl) (λ s. refl) refl
clone_owners _ r n m = refl

pub move_owners : (operation : Id) (n : ℕ) (m : Master) → (master_effect (Moves operation) n m).catalog.owners ≡ m.catalog.owners
move_owners operation n m = moved_each (λ k. k.catalog.owners ≡ m.catalog.owners) operation.kind operation n m refl (λ r e. refl) (λ r e. restoration_owners r.state r n m) (λ c e. clone_owners c.state c n m)

pub acked_owners : (operation : Id) (slot n : ℕ) (m : Master) → (master_effect (Acks operation slot) n m).catalog.owners ≡ m.catalog.owners
acked_owners operation slot n m = acked_each (λ k. k.catalog.owners ≡ m.catalog.owners) operation.kind operation slot n m refl refl refl refl

pub removed_owners : (target : Id) (n : ℕ) (m : Master) → (master_effect (Removes target) n m).catalog.owners ≡ m.catalog.owners
removed_owners target n m = removed_each (λ k. k.catalog.owners ≡ m.catalog.owners) target.kind target n m refl refl refl

effect_owners : (a : MasterAct) (n : ℕ) (m : Master) → OwnersGrow m.catalog.owners (master_effect a n m).catalog.owners
effect_owners (MakesTable namespace name columns slots) n m = grow_more m.catalog.owners _
effect_owners (BeginsClone namespace source target to) n m = grow_more m.catalog.owners _
effect_owners (Moves operation) n m = subst (OwnersGrow m.catalog.owners) (sym (move_owners operation n m)) (grow_none m.catalog.owners)
effect_owners (Acks operation slot) n m = subst (OwnersGrow m.catalog.owners) (sym (acked_owners operation slot n m)) (grow_none m.catalog.owners)
effect_owners (Removes target) n m = subst (OwnersGrow m.catalog.owners) (sym (removed_owners target n m)) (grow_none m.catalog.owners)
effect_owners _ n m = grow_none m.catalog.owners

owners_grow : (e : Entry) (ps : Parts) → OwnersGrow ps.master.catalog.owners (next e ps).master.catalog.owners
owners_grow e ps = cond_both (has (slots_of e.event.act) 0) (master_effect (outcome e.event.act e.stamp ps).master e.stamp ps.master) ps.master (λ m. OwnersGrow ps.master.catalog.owners m.catalog.owners)
    (λ touched. effect_owners (outcome e.event.act e.stamp ps).master e.stamp ps.master) (λ alone. grow_none ps.master.catalog.owners)

-- Commands

abbrev IsPast : List made.Change → ℕ → Type 0
IsPast changes n = (ns : Id) (t : ℕ) → is_fixed changes ns t ≡ true → t < n

plain_fixed : (n : ℕ) (act : ChangeAct) (changes : List made.Change) (os : List Owner) → stays_home act ≡ true → ((ns : Id) (t : ℕ) → fixes act ns t ≡ false)
    → IsPast changes n → JournalFixed os changes → JournalFixed os (with n act changes)
plain_fixed n act changes os home plain past h =
    record { owners = plain_stand n act changes os home h.owners; owned = plain_owned n act changes home h.owned; stays = later_fixed n act changes plain past h.stays }

-- whether the master is told to move a record
abbrev is_move : MasterAct → Bool
is_move (Moves operation) = true
is_move _ = false

-- what the master is told makes one change of the catalog, or none
master_fixed : (a : MasterAct) (n : ℕ) (m : Master) (changes : List made.Change) (os : List Owner) → is_move a ≡ false → IsPast changes n
    → Inside os (with_master a n m changes) → JournalFixed os changes → JournalFixed os (with_master a n m changes)
master_fixed (MakesNamespace name) n m changes os still past inside h = plain_fixed n _ changes os refl (λ ns t. refl) past h
master_fixed (DropsNamespace namespace) n m changes os still past inside h = plain_fixed n _ changes os refl (λ ns t. refl) past h
master_fixed (MakesTable namespace name columns slots) n m changes os still past inside h = record {
  owners = made_stand n (next_table m) namespace name (numbered 1 columns) changes os inside h.owners;
  owned = made_owned n (next_table m) namespace name (numbered 1 columns) changes os inside h.owned;
  stays = later_fixed n _ changes (λ ns t. refl) past h.stays;
}
master_fixed (AddsColumn t name kind) n m changes os still past inside h = plain_fixed n _ changes os refl (λ ns t. refl) past h
master_fixed (DropsColumn t column) n m changes os still past inside h = plain_fixed n _ changes os refl (λ ns t. refl) past h
master_fixed (RenamesTable t name) n m changes os still past inside h = plain_fixed n _ changes os refl (λ ns t. refl) past h
master_fixed (DropsTable table) n m changes os still past inside h = plain_fixed n _ changes os refl (λ ns t. refl) past h
master_fixed (Moves operation) n m changes os still past inside h = absurd (true≢false still)
master_fixed _ n m changes os still past inside h = h

still : (Asked : Type 0) (m : Master) (a : MasterAct) → Commands Asked m a → is_move a ≡ false
still Asked m (Moves operation) told = absurd told
still Asked m _ told = refl

-- Writes

-- whether tablets are told something
abbrev is_told : List Told → Bool
is_told [] = false
is_told (one ∷ rest) = true

-- where tablets are told something no refusal comes
accepted : (checks : List Check) (o : Outcome) → is_told (judged checks o).tablets ≡ true → Passes checks
accepted [] o e = tt
accepted (If true why ∷ checks) o e = absurd (true≢false (sym e))
accepted (If false why ∷ checks) o e = (refl, accepted checks o e)
accepted (Names None why ∷ checks) o e = (refl, accepted checks o e)
accepted (Fault None ∷ checks) o e = (refl, accepted checks o e)
accepted _ o e = absurd (true≢false (sym e))

record IsWritable (t : Tablet) : Type 0 where
  serving : is_serving t.presence ≡ true
  unfenced : t.fence ≡ None

writable : (ps : Parts) (n : ℕ) (place : At) (version : ℕ) (batch : List Item) → is_told (write place version batch n ps).tablets ≡ true
    → IsWritable (ps.tablet place.slot)
unfolding write
writable ps n place version batch e =
    let t = ps.tablet place.slot in
    let checks : List Check = If (not (serves_all t place.tablet batch)) (has_moved place.slot t) ∷ Names t.fence Fenced ∷ If (not (eqb t.version version)) (StaleSchema t.version) ∷ [] in
    let passes = accepted checks (record { master = Ticks; tablets = record { slot = place.slot; act = WriteRows batch } ∷ []; reply = ReplyOk [] }) e in
    let served = (both_pass (serves t place.tablet) _ (not_false (serves_all t place.tablet batch) passes.0)).0 in
    record { serving = (both_pass (is_serving t.presence) (same t.tablet place.tablet) served).0; unfenced = not_some_is t.fence passes.1.0 }

written_fixed : (ps : Parts) (activity : List Interval) (changes : List made.Change) (os : List Owner) (n : ℕ) (place : At) (batch : List Item) → Later (place.slot ∷ []) ps n
    → 1 ≤ place.slot → Inv ps activity changes → IsWritable (ps.tablet place.slot) → JournalFixed os changes
    → JournalFixed os (rows_made n (ps.tablet place.slot).table batch changes)
written_fixed ps activity changes os n place batch later from inv w h =
    let t = ps.tablet place.slot in
    let slot = inv.slots place.slot in
    let here : has (place.slot ∷ []) place.slot ≡ true = grind (arith, nat_tests) in
    record {
      owners = rows_stand batch n t.table changes os h.owners;
      owned = rows_owned batch n t.table changes h.owned;
      stays = rows_fixed batch n t.table changes h.owned (λ ns to fixed owned.
          none_or_some (table_at changes t.cutoff t.table)
          (λ none. absurd (true≢false (sym (slot.shown w.serving w.unfenced t.cutoff (le_refl t.cutoff)) ∙ ap is_some none)))
          (λ v there.
          let home : v.namespace ≡ ns = same_equal v.namespace ns (ap (λ o. is_owned_by o ns) (sym (h.owned.owned t.table t.cutoff v there)) ∙ owned) in
          let owner : owner_of ps.master.catalog.owners t.table ≡ Some ns = inv.master.tables.inside t.table t.cutoff v there ∙ ap Some home in
          let past : to ≤ t.clock = slot.later ns to fixed w.serving w.unfenced owner in
          let less : t.clock < n = clock_before (place.slot ∷ []) ps n place.slot later from here in
          omega arith)) h.stays;
    }

-- Moves

restoration_fixed : (state : RestorationState) (r : RestorationRecord) (m : Master) (changes : List made.Change) (os : List Owner) → RestorationStateGood state m changes r
    → JournalFixed os changes → JournalFixed os (with_restoration state r changes)
restoration_fixed (Switching point serving) r m changes os good h = record {
  owners = h.owners;
  owned = restored_owned point r.namespace r.to changes h.owned;
  stays = restore_fixed point r.namespace r.to changes h.owned good.is_point.later
      (λ ns t fixed own. good.is_point.fixed t (subst (λ k. is_fixed changes k t ≡ true) (sym (same_equal r.namespace ns own)) fixed)) h.stays;
}
restoration_fixed _ r m changes os good h = h

clone_fixed : (state : CloneState) (r : CloneRecord) (ps : Parts) (activity : List Interval) (changes : List made.Change) (os : List Owner) (n : ℕ) → OwnersGrow ps.master.catalog.owners os → ps.master.clock < n → In r ps.master.clones → r.state ≡ state → Inv ps activity changes
    → JournalFixed os changes → JournalFixed os (with_clone state r n changes)
clone_fixed (Copying serving at) r ps activity changes os n grow before kept is inv h =
    let b : Becomes ps activity changes n r serving at = record { before = before; kept = kept; is = is; inv = inv } in
    let good = inv.operations.clones r kept in
    record {
      owners = cloned_stand n r changes os good.tables_apart
          (λ d isin. let p = taker_there r.tablets d.target 0 (let all : takers r.tablets d.target 0 ≡ 1 = good.covers d 0 isin (omega arith) in omega (arith, all)) in
          grow d.target r.target_id (subst (λ t. owner_of ps.master.catalog.owners t ≡ Some r.target_id) p.1.1 (good.pairs p.0 p.1.0).owned)) h.owners;
      owned = cloned_owned n r changes good.tables_apart (unmade ps activity changes n r serving at b) h.owned;
      stays = soon_fixed n (made.NamespaceCloned r.source r.target_id r.target r.to r.tables) changes
          (λ ns t fixes_. let e : r.to ≡ t = eqb-true r.to t (both_pass (same r.source ns) (eqb r.to t) fixes_).1 in let l = good.past in omega arith)
          (λ ns t fixed. let l = inv.master.past ns t fixed in omega (arith, l, before)) h.stays;
    }
clone_fixed _ r ps activity changes os n grow before kept is inv h = h

either_fixed : (restoration : Option RestorationRecord) (clone : Option CloneRecord) (n : ℕ) (m : Master) (changes : List made.Change) (os : List Owner)
    → ((r : RestorationRecord) → restoration ≡ Some r → RestorationStateGood r.state m changes r) → ((r : CloneRecord) → clone ≡ Some r → JournalFixed os (with_clone r.state r n changes))
    → JournalFixed os changes → JournalFixed os (with_either restoration clone n changes)
either_fixed (Some r) clone n m changes os good clones h = restoration_fixed r.state r m changes os (good r refl) h
either_fixed None (Some c) n m changes os good clones h = clones c refl
either_fixed None None n m changes os good clones h = h

advance_fixed : (ps : Parts) (activity : List Interval) (changes : List made.Change) (os : List Owner) (n : ℕ) (operation : Id) → OwnersGrow ps.master.catalog.owners os → ps.master.clock < n → Inv ps activity changes
    → JournalFixed os changes
    → JournalFixed os (with_either (unfinished_restoration ps.master.restorations operation) (unfinished_clone ps.master.clones operation) n changes)
advance_fixed ps activity changes os n operation grow before inv h =
    either_fixed (unfinished_restoration ps.master.restorations operation) (unfinished_clone ps.master.clones operation) n ps.master changes os
    (λ r found. (inv.operations.restorations r (unfinished_restoration_is ps.master.restorations operation r found).0).in_state)
    (λ r found. clone_fixed r.state r ps activity changes os n grow before (unfinished_clone_is ps.master.clones operation r found).0 refl inv h)
    h

-- Each act

if_written : (told : List Told) (n : ℕ) (table : Id) (batch : List Item) (changes : List made.Change) (os : List Owner) → JournalFixed os changes
    → (is_told told ≡ true → JournalFixed os (rows_made n table batch changes)) → JournalFixed os (with_rows told n table batch changes)
if_written [] n table batch changes os h written = h
if_written (one ∷ rest) n table batch changes os h written = written refl

-- an advance tells the master to move its record, or nothing
advanced_fixed : (p : Option Progress) (operation : Id) (n : ℕ) (m : Master) (changes : List made.Change) (os : List Owner) → JournalFixed os changes
    → JournalFixed os (with_either (unfinished_restoration m.restorations operation) (unfinished_clone m.clones operation) n changes)
    → JournalFixed os (with_master (advancing p operation).master n m changes)
advanced_fixed None operation n m changes os h moved_ = h
advanced_fixed (Some p) operation n m changes os h moved_ = by (waits_for (first_unacked p.listed) p.awaited)
  where
    by : (waits : Option Id) → JournalFixed os (with_master (moving waits operation p.next).master n m changes)
    by (Some on) = h
    by None = moved_

act_fixed : (act : Act) (slots n : ℕ) (ps : Parts) (activity : List Interval) (changes : List made.Change) (os : List Owner)
    → OwnersGrow ps.master.catalog.owners os → Later (slots_of act) ps n → ActAsked slots act → Inv ps activity changes
    → Inside os (with_changes act (outcome act n ps) n ps changes) → JournalFixed os changes → JournalFixed os (with_changes act (outcome act n ps) n ps changes)
unfolding advance
act_fixed (Change command plan) slots n ps activity changes os grow later asked inv inside h =
    master_fixed (change command plan n ps).master n ps.master changes os (command_each (λ o. is_move o.master ≡ false) command plan n ps (λ why. refl) (λ o is. still _ ps.master o.master is.told))
    (λ ns t fixed. let past : t ≤ ps.master.clock = inv.master.past ns t fixed in let less : ps.master.clock < n = later 0 refl in omega arith) inside h
act_fixed (Write place version batch) slots n ps activity changes os grow later asked inv inside h =
    if_written (write place version batch n ps).tablets n (ps.tablet place.slot).table batch changes os h
    (λ ok. written_fixed ps activity changes os n place batch later asked.0.0 inv (writable ps n place version batch ok) h)
act_fixed (Advance operation) slots n ps activity changes os grow later asked inv inside h =
    advanced_fixed (progress_of operation.kind ps.master operation) operation n ps.master changes os h (advance_fixed ps activity changes os n operation grow (later 0 refl) inv h)
act_fixed _ slots n ps activity changes os grow later asked inv inside h = h

-- what holds of the journal of a legal history
journal_fixed : (history : List Entry) (slots : ℕ) → Legal slots history → JournalFixed (replay slots history).master.catalog.owners (journal_of slots history)
unfolding replay journal_of
journal_fixed [] slots legal = record {
  owners = λ table ns e. absurd (let q = e in grind arith);
  owned = record { owned = λ id x v e. absurd (let q = e in grind arith) };
  stays = record { none_late = tt; same = tt };
}
journal_fixed (e ∷ earlier) slots legal =
    let before = legal_holds earlier slots legal.0 in
    let after = legal_holds (e ∷ earlier) slots legal in
    let step = legal.1 in
    let ps = replay slots earlier in
    let grow = owners_grow e ps in
    let fixed = journal_fixed earlier slots legal.0 in
    act_fixed e.event.act slots e.stamp ps (activity_of slots earlier) (journal_of slots earlier)
    (next e ps).master.catalog.owners grow
    (stamps_later e ps step.stamp) step.asked.act before.inv after.inv.master.tables.inside
    (record { owners = λ table ns is. grow table ns (fixed.owners table ns is); owned = fixed.owned; stays = fixed.stays })

pub fixed_stays : (history : List Entry) (slots : ℕ) → Legal slots history → FixedStays (journal_of slots history)
fixed_stays history slots legal = (journal_fixed history slots legal).stays

pub owners_stand : (history : List Entry) (slots : ℕ) → Legal slots history → OwnersStand (replay slots history).master.catalog.owners (journal_of slots history)
owners_stand history slots legal = (journal_fixed history slots legal).owners
