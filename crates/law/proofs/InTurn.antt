-- Each entry of a legal history draws the next numbers of each kind, as many as its act takes, and no other.
use Rattle.std.proofs.Common.{if◌then◌else◌, not, ◌||◌, ◌&&◌, eqb, le_refl, ◌≡◌, ℕ, ◌≤◌, ◌<◌, ◌+◌, ◌*◌, ◌/◌, List, [], ◌∷◌, ◌++◌, Option, Some, None, Bool, true, false, refl, sym, ap, subst, ◌∙◌, arith, length, map, take, Result, Ok, Err, ltb, ltb-false, le_trans, le_of_lt, inl, inr}
use Rattle.std.specs.List.{filter}
use Rattle.std.proofs.lemmas.Bool.Decides.{nat_tests}
use Rattle.std.proofs.Math.Nat.{div-mul-le_self}
use Rattle.std.proofs.lemmas.Nat.{le-div}
use Rattle.std.proofs.lemmas.List.Elements.{filter-append}
use Rattle.model.specs.Cluster.{Id, Kind, NamespaceKind as Namespace, TableKind as Table, TabletKind as Tablet, ScheduleKind as Schedule, Snapshot, RestorationKind as Restoration, CloneKind as Clone, same, share_from, same_slots, has, Interval, end_tablet, ended, checked, Master, Parts, Outcome, If, decided, refused, judged, none_drawn, MasterAct, Ticks, Sends, Acks, Unsends, Removes, Restarts, NamespaceRecord, TableRecord, first_schema, in_range, Fence, Told, RestorationRecord, RestorationState, Fencing, Snapshotting, Switching, Restoring, SnapshotRecord, CloneRecord, CloneState, Accepted, CloneSnapshot, Copying, Schedule as ScheduleRecord, schedule_of, is_cloned, State, IsComplete, IsSnapshot, IsSwitching, IsRestoring, IsReleasing, IsRestored, IsCopying, first_unacked, is_snapshotting, named_by_restoration, named_by_clone, restoration_state, clone_state}
use Rattle.row_values.specs.Elements.{In, put_in}
use Rattle.model.specs.Acts.{Act, Change, Command, CreateNamespace, DropNamespace, CreateTable, AddColumn, DropColumn, RenameTable, DropTable, Split, CreateSchedule, EditSchedule, DeleteSchedule, TakeSnapshot, Restore, CloneNamespace, ListTablets, Refusal, StalePlan, Reply, Ok as Granted, Refused, Advance, Prune, Advanced, Making, ANamespace, ATable, TwoTablets, ASchedule, ASnapshot, ARestoration, AClone, Nothing, making_of, Deed, Commands, Advances, Obeys, NoDeed, deed_of, SlotsFull}
use Rattle.model.specs.Lists.{active_tablets, by_table_and_range, listing, new_snapshot, next_snapshot, numbered_as, with_snapshot}
use Rattle.model.specs.Changed.{begins, children, shares, next_namespace, next_restoration, next_schedule, next_table, next_tablet, clone_time, namespace_made, restoration_begun, schedule_made, snapshot_taken, table_made, tablet_split}
use Rattle.law_splits.proofs.Parents.{parent_found}
use Rattle.law_splits.proofs.Splitting.{family_is}
use Rattle.law_invariants.proofs.Effects.{acked_each, removed_each}
use Rattle.law_invariants.proofs.Finding.{in_mapped}
use Rattle.model.specs.Drawn.{AreNext, DrawsNext, DrawsInTurn, beyond, drawn_of, drawn_by, ids_made, named_by, new_ids, own_of, recorded_beyond, reserved_by, shown_of, to_name}
use Rattle.law.proofs.Numbered.{Numbered, WithinTablets, all_numbered, next_tablets, none_new, none_new_tablets, none_reserved, one_beyond}
use Rattle.model.specs.Changes.{split_checks, accepts, change, planned, create_namespace, create_namespace_checks, drop_namespace, create_table, create_table_checks, add_column, drop_column, rename_table, drop_table, split, create_schedule, edit_schedule, delete_schedule, take_snapshot, restore, clone_namespace, list_tablets, judge_clone, judge_create_namespace, judge_drop_namespace, judge_create_table, judge_add_column, judge_drop_column, judge_rename_table, judge_drop_table, judge_split, judge_create_schedule, judge_edit_schedule, judge_delete_schedule, judge_take_snapshot, judge_restore}
use Rattle.model.specs.Entries.{ActAsked, CommandAsked, Entry, slots_of}
use Rattle.model.specs.History.{activity_of, journal_of, Legal, master_effect, outcome, replay, told}
use Rattle.model.specs.Journal.{Change as Made}
use Rattle.model.specs.Looks.{family, found_namespace, found_parent, free_slots, plan_of}
use Rattle.law_invariants.specs.Invariant.{Inv, Later}
use Rattle.law_changes.proofs.Creating.{planned_free}
use Rattle.law_invariants.proofs.Judging.{and_found_is, checked_is}
use Rattle.law_invariants.proofs.Free.{AreFree, least_free}
use Rattle.law_invariants.proofs.Told.{slots_equal}
use Rattle.law.proofs.TabletKinds.{KindsGood, replay_kinds}
use Rattle.law.proofs.Begun.{begun_next}
use Rattle.law_clones.proofs.Serving.{clone_scheduled}
use Rattle.std.proofs.lemmas.List.{append-nil}
use Rattle.law_store.proofs.Keys.{either_way}
use Rattle.model.specs.Coordination.{unfinished_snapshot, unfinished_restoration, unfinished_clone}
use Rattle.model.specs.Moves.{advance, advancing, moving, moved, moved_of, progress_of, snapshot_progress, restoration_progress, awaited_by_restoration, after_restoration, waits_for, completed, restoration_enters, restoration_moved, restoration_next as restoration_goes, given_restoration, clone_progress, awaited_by_clone, after_clone, clone_next, given_clone, id_of_snapshot, serving_clone, with_clones_snapshot, clone_goes, begins_clone, clone_moved}
use Rattle.model.specs.Cleanup.{prune}
use Rattle.law_invariants.proofs.Advancing.{no_clone, no_restoration}
use Rattle.law_invariants.proofs.Pending.{unfinished_restoration_is, unfinished_clone_is}
use Rattle.law.proofs.Plain.{is_weighty, may_weigh, act_none}
use Rattle.law.proofs.Law.{legal_holds, stamps_later}
use Rattle.std.specs.Option.{option_map, option_map_or, option_to_list}
use Rattle.std.proofs.lemmas.Bool.{cond_both}

-- so many of a kind are drawn, the next ones
abbrev pub DrawsKind : Act → Reply → ℕ → Master → Master → Kind → Type 0
DrawsKind act reply n before after kind =
    (drawn_of kind after.drawn ≡ drawn_of kind before.drawn + drawn_of kind (drawn_by act reply n before))
    × ((length (new_ids before after kind) ≡ drawn_of kind (drawn_by act reply n before))
    × AreNext kind (drawn_of kind before.drawn) (new_ids before after kind))

pub next_of : (act : Act) (reply : Reply) (n : ℕ) (before after : Master) → named_by act reply after ≡ to_name act (new_ids before after) → DrawsKind act reply n before after Namespace → DrawsKind act reply n before after Table → DrawsKind act reply n before after Tablet → DrawsKind act reply n before after Schedule
    → DrawsKind act reply n before after Snapshot → DrawsKind act reply n before after Restoration → DrawsKind act reply n before after Clone → DrawsNext act reply n before after
next_of act reply n before after named a b c d e f g = record { count = λ kind. (each kind).0; given = λ kind. (each kind).1.0; next = λ kind. (each kind).1.1; named = named }
  where
    each : (kind : Kind) → DrawsKind act reply n before after kind
    each Namespace = a
    each Table = b
    each Tablet = c
    each Schedule = d
    each Snapshot = e
    each Restoration = f
    each Clone = g

-- of a kind of which none is drawn
unchanged : (kind : Kind) (act : Act) (reply : Reply) (n : ℕ) (before after : Master) → Numbered after → drawn_of kind (drawn_by act reply n before) ≡ 0 → drawn_of kind after.drawn ≡ drawn_of kind before.drawn → DrawsKind act reply n before after kind
unchanged kind act reply n before after h drawn same_ =
    let g : new_ids before after kind ≡ [] = none_new kind before after h same_ in
    (omega (arith, drawn, same_), (ap length g ∙ sym drawn, subst (AreNext kind (drawn_of kind before.drawn)) (sym g) tt))

-- what draws none
pub none_next : (act : Act) (reply : Reply) (n : ℕ) (before after : Master) → Numbered after → drawn_by act reply n before ≡ none_drawn → after.drawn ≡ before.drawn → named_by act reply after ≡ [] → DrawsNext act reply n before after
none_next act reply n before after h drawn same_ unnamed = next_of act reply n before after (unnamed ∙ sym (nothing (deed_of act))) (by Namespace refl) (by Table refl) (by Tablet refl) (by Schedule refl) (by Snapshot refl) (by Restoration refl) (by Clone refl)
  where
    by : (kind : Kind) → drawn_of kind none_drawn ≡ 0 → DrawsKind act reply n before after kind
    by kind zero_ = unchanged kind act reply n before after h (ap (drawn_of kind) drawn ∙ zero_) (ap (drawn_of kind) same_)

    none : (kind : Kind) → new_ids before after kind ≡ []
    none kind = none_new kind before after h (ap (drawn_of kind) same_)

    shown : (making : Making) → shown_of making (new_ids before after) ≡ []
    shown ANamespace = none Namespace
    shown (ATable tablets) = none Table
    shown TwoTablets = none Tablet
    shown ASchedule = none Schedule
    shown ASnapshot = none Snapshot
    shown (ARestoration schedule to) = none Restoration
    shown (AClone source target to) = none Clone
    shown Nothing = refl

    to_name_of : Deed → List Id
    to_name_of deed = elim deed [
      | Commands command ↦ shown_of (making_of command) (new_ids before after)
      | Advances operation ↦ new_ids before after Snapshot
      | Obeys slot ↦ []
      | NoDeed ↦ []
    ]

    nothing : (deed : Deed) → to_name_of deed ≡ []
    nothing (Commands command) = shown (making_of command)
    nothing (Advances operation) = none Snapshot
    nothing _ = refl

-- The tablets of a new table

abbrev before_in : Interval → Interval → Bool
before_in i j = ltb i.table.number j.table.number || (eqb i.table.number j.table.number && ltb i.low j.low)

put_first : (i : Interval) (is : List Interval) → ((j : Interval) → In j is → (i.table ≡ j.table) × (i.low ≤ j.low)) → put_in before_in i is ≡ i ∷ is
put_first i [] low = refl
put_first i (j ∷ is) low =
    let k = low j (inl refl) in
    let n : i.table.number ≡ j.table.number = ap (λ t. t.number) k.0 in
    let l : i.low ≤ j.low = k.1 in
    let e : before_in j i ≡ false = grind (arith, nat_tests) in rw e refl

-- a later share begins no lower
share_up : (count place later : ℕ) → 0 < count → place ≤ later → share_from count place ≤ share_from count later
share_up count place later some le = le-div (place * 65536 / count) (later * 65536) count some (le_trans (div-mul-le_self (place * 65536) count) (omega (arith, le)))

share_low : (slots : List ℕ) (place count n drawn bound : ℕ) (table : Id) → 0 < count → bound ≤ place → (j : Interval) → In j (shares slots place count n drawn table) → (table ≡ j.table) × (share_from count bound ≤ j.low)
share_low [] place count n drawn bound table some le j isin = absurd isin
share_low (slot ∷ slots) place count n drawn bound table some le j (inl e) =
    let l : share_from count bound ≤ share_from count place = share_up count bound place some le in subst (λ k. (table ≡ k.table) × (share_from count bound ≤ k.low)) e (refl, l)
share_low (slot ∷ slots) place count n drawn bound table some le j (inr isin) = share_low slots (place + 1) count n drawn bound table some (omega arith) j isin

shares_in_order : (slots : List ℕ) (place count n drawn : ℕ) (table : Id) → 0 < count → by_table_and_range (shares slots place count n drawn table) ≡ shares slots place count n drawn table
shares_in_order [] place count n drawn table some = refl
shares_in_order (slot ∷ slots) place count n drawn table some =
    let i = begins slot (next_tablet drawn (place + 1)) table (share_from count place) (share_from count (place + 1)) n in
    ap (put_in before_in i) (shares_in_order slots (place + 1) count n drawn table some)
    ∙ put_first i (shares slots (place + 1) count n drawn table) (λ j isin. share_low slots (place + 1) count n drawn place table some (omega arith) j isin)

shares_next : (slots : List ℕ) (place count n drawn first : ℕ) (table : Id) → drawn ≡ first + place → AreNext Tablet drawn (map {A = Interval} (λ i. i.tablet) (shares slots place count n first table))
shares_next [] place count n drawn first table is = tt
shares_next (slot ∷ slots) place count n drawn first table is =
    (ap (numbered_as Tablet) (omega (arith, is)), shares_next slots (place + 1) count n (drawn + 1) first table (omega (arith, is)))

shares_long : (slots : List ℕ) (place count n drawn : ℕ) (table : Id) → length (map {A = Interval} (λ i. i.tablet) (shares slots place count n drawn table)) ≡ length slots
shares_long [] place count n drawn table = refl
shares_long (slot ∷ slots) place count n drawn table = let e = shares_long slots (place + 1) count n drawn table in omega (arith, e)

-- new intervals are all that is new, where they have the next numbers and the others none of these
new_tablets : (old new : List Interval) (m after : Master) → Numbered m → after.clones ≡ m.clones → after.activity ≡ old ++ new → WithinTablets m.drawn.tablets old → AreNext Tablet m.drawn.tablets (map {A = Interval} (λ i. i.tablet) new) → by_table_and_range new ≡ new
    → new_ids m after Tablet ≡ map {A = Interval} (λ i. i.tablet) new
new_tablets old new m after h clones activity within next ordered =
    let is_new = λ (i : Interval). ltb m.drawn.tablets i.tablet.number in
    let found : filter is_new after.activity ≡ new
    = ap (filter is_new) activity ∙ filter-append is_new old new ∙ ap (λ is. is ++ filter is_new new) (none_new_tablets old m.drawn.tablets within) ∙ next_tablets new m.drawn.tablets m.drawn.tablets (le_refl m.drawn.tablets) next in
    ap (λ is. map {A = Interval} (λ i. i.tablet) (by_table_and_range is) ++ beyond m.drawn.tablets (reserved_by after.clones Tablet)) found
    ∙ ap (λ is. map {A = Interval} (λ i. i.tablet) is ++ beyond m.drawn.tablets (reserved_by after.clones Tablet)) ordered
    ∙ ap (λ cs. map {A = Interval} (λ i. i.tablet) new ++ beyond m.drawn.tablets (reserved_by cs Tablet)) clones
    ∙ ap (λ ids. map {A = Interval} (λ i. i.tablet) new ++ ids) (none_reserved Tablet m h) ∙ append-nil _

-- the two children of a split stand in order of range
children_in_order : (p : Interval) (code a b n drawn : ℕ) → p.low ≤ code → by_table_and_range (children p code a b n drawn) ≡ children p code a b n drawn
children_in_order p code a b n drawn le =
    let e : before_in (begins b (next_tablet drawn 2) p.table code p.high n) (begins a (next_tablet drawn 1) p.table p.low code n) ≡ false = grind (arith, nat_tests) in rw e refl

-- One record more

-- the identifier of a record that is added is the one that is new of its kind
one_new : (kind : Kind) {A : Type 0} (id_of : A → Id) (xs : List A) (x : A) (m after : Master) → beyond (drawn_of kind m.drawn) (reserved_by after.clones kind) ≡ [] → recorded_beyond kind (drawn_of kind m.drawn) after ≡ beyond (drawn_of kind m.drawn) (map id_of (xs ++ x ∷ []))
    → ((y : A) → In y xs → (id_of y).number ≤ drawn_of kind m.drawn) → drawn_of kind m.drawn < (id_of x).number → new_ids m after kind ≡ id_of x ∷ []
one_new kind id_of xs x m after reserved recorded within new =
    ap (λ ids. ids ++ beyond (drawn_of kind m.drawn) (reserved_by after.clones kind)) (recorded ∙ one_beyond id_of xs x (drawn_of kind m.drawn) within new) ∙ ap (λ ids. id_of x ∷ ids) reserved

-- and so one is drawn, the next
one_next : (kind : Kind) (act : Act) (reply : Reply) (n : ℕ) (before after : Master) → new_ids before after kind ≡ numbered_as kind (drawn_of kind before.drawn + 1) ∷ [] → drawn_of kind (drawn_by act reply n before) ≡ 1 → drawn_of kind after.drawn ≡ drawn_of kind before.drawn + 1 → DrawsKind act reply n before after kind
one_next kind act reply n before after new drawn grown =
    (omega (arith, drawn, grown), (ap length new ∙ sym drawn, subst (AreNext kind (drawn_of kind before.drawn)) (sym new) (refl, tt)))

-- Commands

-- a record of an outcome by which the next numbers are drawn
record Draws (act : Act) (n : ℕ) (m : Master) (o : Outcome) : Type 0 where
  next : DrawsNext act o.reply n m (master_effect o.master n m)

clock_moves : (m : Master) (n : ℕ) → Numbered m → Numbered (record m { clock = n })
clock_moves m n h = assumption h

refused_next : (command : Command) (slots : List ℕ) (n : ℕ) (m : Master) (why : Refusal) → Numbered m → Draws (Change command slots) n m (refused why)
refused_next command slots n m why h = record { next = none_next (Change command slots) (Refused why) n m (record m { clock = n }) (clock_moves m n h) refl refl refl }

decided_next : {A : Type 0} (judgement : Result A Refusal) (go : A → Outcome) (command : Command) (slots : List ℕ) (n : ℕ) (m : Master) → Numbered m → Numbered (master_effect (decided judgement go).master n m)
    → ((a : A) → judgement ≡ Ok a → Numbered (master_effect (go a).master n m) → Draws (Change command slots) n m (go a)) → Draws (Change command slots) n m (decided judgement go)
decided_next (Err why) go command slots n m h after accepted = refused_next command slots n m why h
decided_next (Ok a) go command slots n m h after accepted = accepted a refl after

-- a command that makes nothing leaves the numbers
made_none : (command : Command) (slots : List ℕ) (act : MasterAct) (tablets : List Told) (n : ℕ) (m : Master) → Numbered (master_effect act n m) → (master_effect act n m).drawn ≡ m.drawn → Draws (Change command slots) n m (accepts act tablets [])
made_none command slots act tablets n m after same_ = record { next = none_next (Change command slots) _ n m (master_effect act n m) after refl same_ refl }

-- a snapshot that is added is the one that is new
snapshots_reserved : (cs : List CloneRecord) (drawn : ℕ) → beyond drawn (reserved_by cs Snapshot) ≡ []
snapshots_reserved [] drawn = refl
snapshots_reserved (c ∷ cs) drawn = snapshots_reserved cs drawn

snapshot_new : (ns schedule : Id) (n : ℕ) (m after : Master) → Numbered m → after.snapshots ≡ (with_snapshot ns schedule n m).snapshots → new_ids m after Snapshot ≡ next_snapshot m ∷ []
snapshot_new ns schedule n m after h snapshots =
    one_new Snapshot {A = SnapshotRecord} (λ r. r.id) m.snapshots (new_snapshot m ns schedule n) m after (snapshots_reserved after.clones m.drawn.snapshots) (ap (λ rs. beyond m.drawn.snapshots (map {A = SnapshotRecord} (λ r. r.id) rs)) snapshots) h.snapshots (omega arith)

planned_next : (command : Command) (slots : List ℕ) (n : ℕ) (ps : Parts) (activity : List Interval) (changes : List Made) → CommandAsked command → ps.master.clock ≤ n → KindsGood ps.master → same_slots slots (plan_of command ps.master) ≡ true → Inv ps activity changes
    → Numbered (master_effect (planned command slots n ps).master n ps.master) → Draws (Change command slots) n ps.master (planned command slots n ps)
unfolding create_namespace drop_namespace create_table add_column drop_column rename_table drop_table split create_schedule edit_schedule delete_schedule take_snapshot restore clone_namespace list_tablets
planned_next (CreateNamespace name) slots n ps activity changes asked le kinds plan inv after =
    let m = ps.master in
    let h = all_numbered ps activity changes inv in
    decided_next (judge_create_namespace name m) _ (CreateNamespace name) slots n m h after
    (λ id e after.
    let is : id ≡ next_namespace m = (let q = (checked_is (Ok (next_namespace m)) (λ id. create_namespace_checks name m) id e).0 in cc) in
    let record_ : NamespaceRecord = record { id = next_namespace m; name = name; from = n; to = None } in
    let new = one_new Namespace {A = NamespaceRecord} (λ r. r.id) m.catalog.namespaces record_ m (namespace_made name n m) (none_reserved Namespace m h) refl h.namespaces (omega arith) in
    let still = λ (kind : Kind). unchanged kind (Change (CreateNamespace name) slots) (Granted (id ∷ [])) n m (namespace_made name n m) after in
    record { next = next_of _ _ n m _ (ap (λ i. i ∷ []) is ∙ sym new) (one_next Namespace (Change (CreateNamespace name) slots) (Granted (id ∷ [])) n m (namespace_made name n m) new refl refl) (still Table refl refl) (still Tablet refl refl) (still Schedule refl refl) (still Snapshot refl refl) (still Restoration refl refl) (still Clone refl refl) })
planned_next (CreateTable namespace table tablets columns) slots n ps activity changes asked le kinds plan inv after =
    let m = ps.master in
    let h = all_numbered ps activity changes inv in
    let command = CreateTable namespace table tablets columns in
    let count = length slots in
    decided_next (judge_create_table namespace table tablets m) _ command slots n m h after
    (λ ns found after.
    let judged = checked_is (found_namespace m namespace) (λ ns. create_table_checks ns table tablets m) ns found in
    let enough : tablets ≤ length (free_slots m) = ltb-false (length (free_slots m)) tablets judged.1.1.1.1.0 in
    let least : slots ≡ take tablets (free_slots m) = slots_equal slots (plan_of command m) plan ∙ planned_free m namespace table tablets columns ns judged.0 enough in
    let long : count ≡ tablets = (subst (AreFree m tablets) (sym least) (least_free m tablets enough)).long in
    let some : 0 < count = (let l : 1 ≤ tablets = asked.2.0 in omega (arith, l, long)) in
    let made = table_made ns table columns slots n m in
    let record_ : TableRecord = record { id = next_table m; namespace = ns; name = table; schema = first_schema columns; from = n; to = None } in
    let new = one_new Table {A = TableRecord} (λ r. r.id) m.catalog.tables record_ m made (none_reserved Table m h) refl h.tables (omega arith) in
    let next = shares_next slots 0 count n m.drawn.tablets m.drawn.tablets (next_table m) (omega arith) in
    let tablets_ = new_tablets m.activity (shares slots 0 count n m.drawn.tablets (next_table m)) m made h refl refl h.tablets next (shares_in_order slots 0 count n m.drawn.tablets (next_table m) some) in
    let still = λ (kind : Kind). unchanged kind (Change command slots) (Granted (next_table m ∷ [])) n m made after in
    record {
      next = next_of _ _ n m _ (sym new) (still Namespace refl refl) (one_next Table (Change command slots) (Granted (next_table m ∷ [])) n m made new refl refl)
          (ap (λ k. m.drawn.tablets + k) long, (ap length tablets_ ∙ shares_long slots 0 count n m.drawn.tablets (next_table m) ∙ long, subst (AreNext Tablet m.drawn.tablets) (sym tablets_) next))
          (still Schedule refl refl) (still Snapshot refl refl) (still Restoration refl refl) (still Clone refl refl);
    })
planned_next (Split namespace table code) slots n ps activity changes asked le kinds plan inv after =
    let m = ps.master in
    let h = all_numbered ps activity changes inv in
    decided_next (judge_split namespace table code m) _ (Split namespace table code) slots n m h after
    (λ f e after.
    let p = f.parent.tablet in
    let by = and_found_is (checked (found_parent m namespace table code) (λ p. split_checks p code m)) (λ p. family p (free_slots m)) (SlotsFull (length (free_slots m)) 2) f e in
    let its = family_is by.0 (free_slots m) f by.1.1 in
    let found = parent_found m namespace table code by.0 (checked_is (found_parent m namespace table code) (λ p. split_checks p code m) by.0 by.1.0).0 in
    let ranged : in_range p.low p.high code ≡ true = ap (λ k. in_range k.tablet.low k.tablet.high code) its.0 ∙ found.1.ranged in
    let low : p.low ≤ code = grind (arith, nat_tests) in
    let new = children p code f.low_slot f.high_slot n m.drawn.tablets in
    let next : AreNext Tablet m.drawn.tablets (map {A = Interval} (λ i. i.tablet) new) = (refl, (ap (numbered_as Tablet) (omega arith), tt)) in
    let ended = in_mapped {A = Interval} {B = Interval} (λ i. record i { to = if same i.tablet p.tablet then ended n i.to else i.to }) (λ i. i.tablet.number ≤ m.drawn.tablets) m.activity h.tablets in
    let tablets_ = new_tablets (end_tablet p.tablet n m.activity) new m (tablet_split p code f.low_slot f.high_slot n m) h refl refl ended next (children_in_order p code f.low_slot f.high_slot n m.drawn.tablets low) in
    let still = λ (kind : Kind). unchanged kind (Change (Split namespace table code) slots) (Granted (next_tablet m.drawn.tablets 1 ∷ next_tablet m.drawn.tablets 2 ∷ [])) n m (tablet_split p code f.low_slot f.high_slot n m) after in
    record { next = next_of _ _ n m _ (sym tablets_) (still Namespace refl refl) (still Table refl refl) (refl, (ap length tablets_, subst (AreNext Tablet m.drawn.tablets) (sym tablets_) next)) (still Schedule refl refl) (still Snapshot refl refl) (still Restoration refl refl) (still Clone refl refl) })
planned_next (CreateSchedule interval retention namespace) slots n ps activity changes asked le kinds plan inv after =
    let m = ps.master in
    let h = all_numbered ps activity changes inv in
    decided_next (judge_create_schedule interval retention namespace m) _ (CreateSchedule interval retention namespace) slots n m h after
    (λ ns e after.
    let record_ : ScheduleRecord = record { id = next_schedule m; namespace = ns; interval = interval; retention = retention; made = n; kept_low = n; last = None } in
    let new = one_new Schedule {A = ScheduleRecord} (λ s. s.id) m.schedules record_ m (schedule_made ns interval retention n m) (none_reserved Schedule m h) refl h.schedules (omega arith) in
    let still = λ (kind : Kind). unchanged kind (Change (CreateSchedule interval retention namespace) slots) (Granted (next_schedule m ∷ [])) n m (schedule_made ns interval retention n m) after in
    record { next = next_of _ _ n m _ (sym new) (still Namespace refl refl) (still Table refl refl) (still Tablet refl refl) (one_next Schedule (Change (CreateSchedule interval retention namespace) slots) (Granted (next_schedule m ∷ [])) n m (schedule_made ns interval retention n m) new refl refl) (still Snapshot refl refl) (still Restoration refl refl) (still Clone refl refl) })
planned_next (TakeSnapshot schedule) slots n ps activity changes asked le kinds plan inv after =
    let m = ps.master in
    let h = all_numbered ps activity changes inv in
    decided_next (judge_take_snapshot schedule n m) _ (TakeSnapshot schedule) slots n m h after
    (λ s e after.
    let new = snapshot_new s.namespace s.id n m (snapshot_taken s n m) h refl in
    let still = λ (kind : Kind). unchanged kind (Change (TakeSnapshot schedule) slots) (Granted (next_snapshot m ∷ [])) n m (snapshot_taken s n m) after in
    record { next = next_of _ _ n m _ (sym new) (still Namespace refl refl) (still Table refl refl) (still Tablet refl refl) (still Schedule refl refl) (one_next Snapshot (Change (TakeSnapshot schedule) slots) (Granted (next_snapshot m ∷ [])) n m (snapshot_taken s n m) new refl refl) (still Restoration refl refl) (still Clone refl refl) })
planned_next (Restore schedule to) slots n ps activity changes asked le kinds plan inv after =
    let m = ps.master in
    let h = all_numbered ps activity changes inv in
    decided_next (judge_restore schedule to n m) _ (Restore schedule to) slots n m h after
    (λ s e after.
    let record_ : RestorationRecord = record { id = next_restoration m; schedule = s.id; namespace = s.namespace; to = to; listed = listing Fence (active_tablets m.catalog.owners m.activity s.namespace); state = Fencing } in
    let new = one_new Restoration {A = RestorationRecord} (λ r. r.id) m.restorations record_ m (restoration_begun s to n m) (none_reserved Restoration m h) refl h.restorations (omega arith) in
    let still = λ (kind : Kind). unchanged kind (Change (Restore schedule to) slots) (Granted (next_restoration m ∷ [])) n m (restoration_begun s to n m) after in
    record { next = next_of _ _ n m _ (sym new) (still Namespace refl refl) (still Table refl refl) (still Tablet refl refl) (still Schedule refl refl) (still Snapshot refl refl) (one_next Restoration (Change (Restore schedule to) slots) (Granted (next_restoration m ∷ [])) n m (restoration_begun s to n m) new refl refl) (still Clone refl refl) })
planned_next (CloneNamespace source target to) slots n ps activity changes asked le kinds plan inv after =
    decided_next (judge_clone source target (clone_time to n) n ps.master) _ (CloneNamespace source target to) slots n ps.master (all_numbered ps activity changes inv) after
    (λ s e after. record { next = begun_next ps activity changes source target to slots n s le kinds inv e after })
planned_next (DropNamespace name) slots n ps activity changes asked le kinds plan inv after =
    decided_next (judge_drop_namespace name ps.master) _ (DropNamespace name) slots n ps.master (all_numbered ps activity changes inv) after (λ found e after. made_none (DropNamespace name) slots _ _ n ps.master after refl)
planned_next (AddColumn namespace table name kind) slots n ps activity changes asked le kinds plan inv after =
    decided_next (judge_add_column namespace table name ps.master) _ (AddColumn namespace table name kind) slots n ps.master (all_numbered ps activity changes inv) after (λ found e after. made_none (AddColumn namespace table name kind) slots _ _ n ps.master after refl)
planned_next (DropColumn namespace table name) slots n ps activity changes asked le kinds plan inv after =
    decided_next (judge_drop_column namespace table name ps.master) _ (DropColumn namespace table name) slots n ps.master (all_numbered ps activity changes inv) after (λ found e after. made_none (DropColumn namespace table name) slots _ _ n ps.master after refl)
planned_next (RenameTable namespace table name) slots n ps activity changes asked le kinds plan inv after =
    decided_next (judge_rename_table namespace table name ps.master) _ (RenameTable namespace table name) slots n ps.master (all_numbered ps activity changes inv) after (λ found e after. made_none (RenameTable namespace table name) slots _ _ n ps.master after refl)
planned_next (DropTable namespace table) slots n ps activity changes asked le kinds plan inv after =
    decided_next (judge_drop_table namespace table ps.master) _ (DropTable namespace table) slots n ps.master (all_numbered ps activity changes inv) after (λ found e after. made_none (DropTable namespace table) slots _ _ n ps.master after refl)
planned_next (EditSchedule schedule interval retention) slots n ps activity changes asked le kinds plan inv after =
    decided_next (judge_edit_schedule schedule interval retention ps.master) _ (EditSchedule schedule interval retention) slots n ps.master (all_numbered ps activity changes inv) after (λ found e after. made_none (EditSchedule schedule interval retention) slots _ _ n ps.master after refl)
planned_next (DeleteSchedule schedule) slots n ps activity changes asked le kinds plan inv after =
    decided_next (judge_delete_schedule schedule ps.master) _ (DeleteSchedule schedule) slots n ps.master (all_numbered ps activity changes inv) after (λ found e after. made_none (DeleteSchedule schedule) slots _ _ n ps.master after refl)
planned_next (ListTablets namespace) slots n ps activity changes asked le kinds plan inv after =
    decided_next (found_namespace ps.master namespace) _ (ListTablets namespace) slots n ps.master (all_numbered ps activity changes inv) after (λ ns e after. record { next = none_next _ _ n ps.master _ after refl refl refl })
planned_next _ slots n ps activity changes asked le kinds plan inv after = record { next = none_next _ _ n ps.master _ after refl refl refl }

-- Moves

-- the record that a restoration has after it entered a state, as the master finds it by its id
own_found : (rs : List RestorationRecord) (r : RestorationRecord) (id own : Id) (point : ℕ) → r.id ≡ id → unfinished_restoration rs id ≡ Some r
    → option_map_or (λ q. option_to_list (named_by_restoration q.state)) (unfinished_restoration (map {A = RestorationRecord} (λ x. record x { listed = if same x.id r.id then [] else x.listed; state = if same x.id r.id then Snapshotting point own else x.state }) rs) id) [] ≡ own ∷ []
own_found [] r id own point is found = absurd (let q = found in grind arith)
own_found (x ∷ rs) r id own point is found = either_way (same x.id id)
    (λ b. let mine : same x.id r.id ≡ true = ap (same x.id) is ∙ b in rw mine (rw b refl))
    (λ b. let rest : unfinished_restoration rs id ≡ Some r = rw b at found in rw b (own_found rs r id own point is rest))

own_cloned : (cs : List CloneRecord) (r : CloneRecord) (id own : Id) → r.id ≡ id → unfinished_clone cs id ≡ Some r
    → option_map_or (λ q. option_to_list (named_by_clone q.state)) (unfinished_clone (map {A = CloneRecord} (λ x. record x { listed = if same x.id r.id then [] else x.listed; state = if same x.id r.id then CloneSnapshot own else x.state }) cs) id) [] ≡ own ∷ []
own_cloned [] r id own is found = absurd (let q = found in grind arith)
own_cloned (x ∷ cs) r id own is found = either_way (same x.id id)
    (λ b. let mine : same x.id r.id ≡ true = ap (same x.id) is ∙ b in rw mine (rw b refl))
    (λ b. let rest : unfinished_clone cs id ≡ Some r = rw b at found in rw b (own_cloned cs r id own is rest))

-- a move into a state that makes no snapshot
quiet_move : (operation : Id) (next : State) (n : ℕ) (before after : Master) → Numbered after → is_snapshotting next ≡ false → after.drawn ≡ before.drawn → DrawsNext (Advance operation) (Advanced next) n before after
quiet_move operation next n before after h e same_ = none_next _ _ n before after h (rw e refl) same_ (rw e refl)

-- a restoration makes a snapshot for itself
own_move : (r : RestorationRecord) (operation : Id) (n : ℕ) (ps : Parts) (activity : List Interval) (changes : List Made) → operation.kind ≡ Restoration → unfinished_restoration ps.master.restorations operation ≡ Some r → Inv ps activity changes → Numbered (restoration_moved Fencing r n ps.master)
    → DrawsNext (Advance operation) (Advanced IsSnapshot) n ps.master (restoration_moved Fencing r n ps.master)
own_move r operation n ps activity changes kind found inv fit =
    let m = ps.master in
    let is = unfinished_restoration_is m.restorations operation r found in
    let after = restoration_enters r (Snapshotting (n + 1) (next_snapshot m)) [] n (with_snapshot r.namespace r.schedule n m) in
    let own : own_of after operation ≡ next_snapshot m ∷ []
    = ap (λ ids. ids ++ option_map_or (λ c. option_to_list (named_by_clone c.state)) (unfinished_clone m.clones operation) []) (own_found m.restorations r operation (next_snapshot m) (n + 1) is.1.0 found)
    ∙ ap (λ c. next_snapshot m ∷ option_map_or {T = CloneRecord} (λ c. option_to_list (named_by_clone c.state)) c []) (no_clone m changes operation inv.operations (λ q. let e = sym kind ∙ q in grind arith)) in
    let new = snapshot_new r.namespace r.schedule n m after (all_numbered ps activity changes inv) refl in
    let still = λ (kind : Kind). unchanged kind (Advance operation) (Advanced IsSnapshot) n m after fit in
    next_of (Advance operation) (Advanced IsSnapshot) n m after (own ∙ sym new) (still Namespace refl refl) (still Table refl refl) (still Tablet refl refl) (still Schedule refl refl) (one_next Snapshot (Advance operation) (Advanced IsSnapshot) n m after new refl refl) (still Restoration refl refl) (still Clone refl refl)

state_next : (state : RestorationState) (r : RestorationRecord) (operation : Id) (n : ℕ) (ps : Parts) (activity : List Interval) (changes : List Made) → operation.kind ≡ Restoration → unfinished_restoration ps.master.restorations operation ≡ Some r → Inv ps activity changes → Numbered (restoration_moved state r n ps.master)
    → DrawsNext (Advance operation) (Advanced (restoration_state (restoration_goes state (given_restoration state r ps.master.clock ps.master)))) n ps.master (restoration_moved state r n ps.master)
state_next Fencing r operation n ps activity changes kind found inv fit = own_move r operation n ps activity changes kind found inv fit
state_next (Snapshotting point own) r operation n ps activity changes kind found inv fit = quiet_move operation IsSwitching n ps.master _ fit refl refl
state_next (Switching point serving) r operation n ps activity changes kind found inv fit = quiet_move operation IsRestoring n ps.master _ fit refl refl
state_next (Restoring point serving) r operation n ps activity changes kind found inv fit = quiet_move operation IsReleasing n ps.master _ fit refl refl
state_next _ r operation n ps activity changes kind found inv fit = quiet_move operation IsRestored n ps.master _ fit refl refl

-- a clone makes a snapshot for itself
own_copy : (o : Option ScheduleRecord) (k : ScheduleRecord) (r : CloneRecord) (operation : Id) (n : ℕ) (ps : Parts) (activity : List Interval) (changes : List Made) → o ≡ Some k → operation.kind ≡ Clone → unfinished_clone ps.master.clones operation ≡ Some r → Inv ps activity changes
    → Numbered (clone_goes Accepted None r n ps.master (with_clones_snapshot o r n ps.master)) → DrawsNext (Advance operation) (Advanced IsSnapshot) n ps.master (clone_goes Accepted None r n ps.master (with_clones_snapshot o r n ps.master))
own_copy None k r operation n ps activity changes e kind found inv fit = absurd (let q = e in grind arith)
own_copy (Some s) k r operation n ps activity changes e kind found inv fit =
    let m = ps.master in
    let is = unfinished_clone_is m.clones operation r found in
    let after = clone_goes Accepted None r n m (with_snapshot r.source s.id n m) in
    let own : own_of after operation ≡ next_snapshot m ∷ []
    = ap (λ q. option_map_or {T = RestorationRecord} (λ r. option_to_list (named_by_restoration r.state)) q [] ++ option_map_or (λ c. option_to_list (named_by_clone c.state)) (unfinished_clone after.clones operation) [])
    (no_restoration m changes operation inv.operations (λ q. let e = sym kind ∙ q in grind arith))
    ∙ own_cloned m.clones r operation (next_snapshot m) is.1.0 found in
    let new = snapshot_new r.source s.id n m after (all_numbered ps activity changes inv) refl in
    let still = λ (kind : Kind). unchanged kind (Advance operation) (Advanced IsSnapshot) n m after fit in
    next_of (Advance operation) (Advanced IsSnapshot) n m after (own ∙ sym new) (still Namespace refl refl) (still Table refl refl) (still Tablet refl refl) (still Schedule refl refl) (one_next Snapshot (Advance operation) (Advanced IsSnapshot) n m after new refl refl) (still Restoration refl refl) (still Clone refl refl)

begins_next : (o : Option SnapshotRecord) (r : CloneRecord) (operation : Id) (n : ℕ) (ps : Parts) (activity : List Interval) (changes : List Made) → In r ps.master.clones → is_cloned r.state ≡ false → operation.kind ≡ Clone → unfinished_clone ps.master.clones operation ≡ Some r → Inv ps activity changes → Numbered (begins_clone o r n ps.master)
    → DrawsNext (Advance operation) (Advanced (clone_state (clone_next Accepted (given_clone Accepted (id_of_snapshot o) r ps.master.clock ps.master)))) n ps.master (begins_clone o r n ps.master)
begins_next (Some q) r operation n ps activity changes there open_ kind found inv fit = quiet_move operation IsCopying n ps.master _ fit refl refl
begins_next None r operation n ps activity changes there open_ kind found inv fit =
    let s = clone_scheduled ps.master changes r inv.operations there open_ in own_copy (schedule_of ps.master.schedules r.source) s.0 r operation n ps activity changes s.1.0 kind found inv fit

copy_next : (state : CloneState) (r : CloneRecord) (operation : Id) (n : ℕ) (ps : Parts) (activity : List Interval) (changes : List Made) → In r ps.master.clones → is_cloned r.state ≡ false → operation.kind ≡ Clone → unfinished_clone ps.master.clones operation ≡ Some r → Inv ps activity changes → Numbered (clone_moved state r n ps.master)
    → DrawsNext (Advance operation) (Advanced (clone_state (clone_next state (given_clone state (id_of_snapshot (serving_clone ps.master r)) r ps.master.clock ps.master)))) n ps.master (clone_moved state r n ps.master)
copy_next Accepted r operation n ps activity changes there open_ kind found inv fit = begins_next (serving_clone ps.master r) r operation n ps activity changes there open_ kind found inv fit
copy_next (CloneSnapshot own) r operation n ps activity changes there open_ kind found inv fit = quiet_move operation IsCopying n ps.master _ fit refl refl
copy_next (Copying serving at) r operation n ps activity changes there open_ kind found inv fit = quiet_move operation IsReleasing n ps.master _ fit refl refl
copy_next _ r operation n ps activity changes there open_ kind found inv fit = quiet_move operation IsComplete n ps.master _ fit refl refl

waits_next : (awaited : Option Id) (operation : Id) (next : State) (n : ℕ) (m : Master) → Numbered (master_effect (moving awaited operation next).master n m) → (Numbered (moved operation n m) → DrawsNext (Advance operation) (Advanced next) n m (moved operation n m)) → Draws (Advance operation) n m (moving awaited operation next)
waits_next (Some on) operation next n m after go = record { next = none_next _ _ n m _ after refl refl refl }
waits_next None operation next n m after go = record { next = go after }

restoration_next : (found : Option RestorationRecord) (operation : Id) (n : ℕ) (ps : Parts) (activity : List Interval) (changes : List Made) → operation.kind ≡ Restoration → unfinished_restoration ps.master.restorations operation ≡ found → Inv ps activity changes
    → Numbered (master_effect (advancing (option_map (restoration_progress ps.master) found) operation).master n ps.master) → Draws (Advance operation) n ps.master (advancing (option_map (restoration_progress ps.master) found) operation)
restoration_next None operation n ps activity changes kind found inv after = record { next = none_next _ _ n ps.master _ after refl refl refl }
restoration_next (Some r) operation n ps activity changes kind found inv after =
    let m = ps.master in
    let is : moved operation n m ≡ restoration_moved r.state r n m = ap (λ k. moved_of k operation n m) kind ∙ ap (λ o. option_map_or {T = RestorationRecord} (λ r. restoration_moved r.state r n m) o (record m { clock = n })) found in
    waits_next (waits_for (first_unacked r.listed) (awaited_by_restoration r.state m r)) operation (after_restoration m r) n m after
    (λ fit. subst (DrawsNext (Advance operation) (Advanced (after_restoration m r)) n m) (sym is) (state_next r.state r operation n ps activity changes kind found inv (subst Numbered is fit)))

copies_next : (found : Option CloneRecord) (operation : Id) (n : ℕ) (ps : Parts) (activity : List Interval) (changes : List Made) → operation.kind ≡ Clone → unfinished_clone ps.master.clones operation ≡ found → Inv ps activity changes
    → Numbered (master_effect (advancing (option_map (clone_progress ps.master) found) operation).master n ps.master) → Draws (Advance operation) n ps.master (advancing (option_map (clone_progress ps.master) found) operation)
copies_next None operation n ps activity changes kind found inv after = record { next = none_next _ _ n ps.master _ after refl refl refl }
copies_next (Some r) operation n ps activity changes kind found inv after =
    let m = ps.master in
    let there = unfinished_clone_is m.clones operation r found in
    let is : moved operation n m ≡ clone_moved r.state r n m = ap (λ k. moved_of k operation n m) kind ∙ ap (λ o. option_map_or {T = CloneRecord} (λ r. clone_moved r.state r n m) o (record m { clock = n })) found in
    waits_next (waits_for (first_unacked r.listed) (awaited_by_clone r.state m r)) operation (after_clone m r) n m after
    (λ fit. subst (DrawsNext (Advance operation) (Advanced (after_clone m r)) n m) (sym is) (copy_next r.state r operation n ps activity changes there.0 there.1.1 kind found inv (subst Numbered is fit)))

snapshot_next : (found : Option SnapshotRecord) (operation : Id) (n : ℕ) (m : Master) → operation.kind ≡ Snapshot → unfinished_snapshot m.snapshots operation ≡ found
    → Numbered (master_effect (advancing (option_map snapshot_progress found) operation).master n m) → Draws (Advance operation) n m (advancing (option_map snapshot_progress found) operation)
snapshot_next None operation n m kind found after = record { next = none_next _ _ n m _ after refl refl refl }
snapshot_next (Some r) operation n m kind found after =
    let is : moved operation n m ≡ completed r n m = ap (λ k. moved_of k operation n m) kind ∙ ap (λ o. option_map_or {T = SnapshotRecord} (λ r. completed r n m) o (record m { clock = n })) found in
    waits_next (waits_for (first_unacked r.listed) None) operation IsComplete n m after
    (λ fit. subst (DrawsNext (Advance operation) (Advanced IsComplete) n m) (sym is) (quiet_move operation IsComplete n m (completed r n m) (subst Numbered is fit) refl refl))

kind_next : (kind : Kind) (operation : Id) (n : ℕ) (ps : Parts) (activity : List Interval) (changes : List Made) → operation.kind ≡ kind → Inv ps activity changes
    → Numbered (master_effect (advancing (progress_of kind ps.master operation) operation).master n ps.master) → Draws (Advance operation) n ps.master (advancing (progress_of kind ps.master operation) operation)
kind_next Clone operation n ps activity changes is inv after = copies_next (unfinished_clone ps.master.clones operation) operation n ps activity changes is refl inv after
kind_next Restoration operation n ps activity changes is inv after = restoration_next (unfinished_restoration ps.master.restorations operation) operation n ps activity changes is refl inv after
kind_next Snapshot operation n ps activity changes is inv after = snapshot_next (unfinished_snapshot ps.master.snapshots operation) operation n ps.master is refl after
kind_next _ operation n ps activity changes is inv after = record { next = none_next _ _ n ps.master _ after refl refl refl }

-- Each act

plain_drawn : (a : MasterAct) (n : ℕ) (m : Master) → is_weighty a ≡ false → (master_effect a n m).drawn ≡ m.drawn
plain_drawn Ticks n m e = refl
plain_drawn (Sends operation slot) n m e = refl
plain_drawn (Acks operation slot) n m e = acked_each (λ k. k.drawn ≡ m.drawn) operation.kind operation slot n m refl refl refl refl
plain_drawn (Unsends operation slot) n m e = refl
plain_drawn (Removes target) n m e = removed_each (λ k. k.drawn ≡ m.drawn) target.kind target n m refl refl refl
plain_drawn Restarts n m e = refl
plain_drawn _ n m e = absurd (let q = e in grind arith)

abbrev Turn : Act → ℕ → Parts → Type 0
Turn act n ps = DrawsNext act (outcome act n ps).reply n ps.master (told act (outcome act n ps) n ps).master

plain_told : (act : Act) (n : ℕ) (ps : Parts) → may_weigh act ≡ false → (told act (outcome act n ps) n ps).master.drawn ≡ ps.master.drawn
plain_told act n ps e =
    cond_both (has (slots_of act) 0) (master_effect (outcome act n ps).master n ps.master) ps.master (λ m. m.drawn ≡ ps.master.drawn) (λ touched. plain_drawn (outcome act n ps).master n ps.master (act_none act n ps e).none) (λ alone. refl)

-- what an act that weighs nothing makes: nothing
plain_next : (act : Act) (n : ℕ) (ps : Parts) → may_weigh act ≡ false → drawn_by act (outcome act n ps).reply n ps.master ≡ none_drawn → named_by act (outcome act n ps).reply (told act (outcome act n ps) n ps).master ≡ ids_made (outcome act n ps).reply
    → Numbered (told act (outcome act n ps) n ps).master → Turn act n ps
plain_next act n ps e none named after = none_next _ _ n ps.master _ after none (plain_told act n ps e) (named ∙ (act_none act n ps e).unmade)

act_next : (act : Act) (slots n : ℕ) (ps : Parts) (activity : List Interval) (changes : List Made) → ActAsked slots act → Later (slots_of act) ps n → KindsGood ps.master → Inv ps activity changes → Numbered (told act (outcome act n ps) n ps).master → Turn act n ps
unfolding change advance prune
act_next (Change command plan) slots n ps activity changes asked later kinds inv after = (by (same_slots plan (plan_of command ps.master)) refl after).next
  where
    by : (b : Bool) → same_slots plan (plan_of command ps.master) ≡ b → Numbered (master_effect (judged (If (not b) (StalePlan (plan_of command ps.master)) ∷ []) (planned command plan n ps)).master n ps.master)
        → Draws (Change command plan) n ps.master (judged (If (not b) (StalePlan (plan_of command ps.master)) ∷ []) (planned command plan n ps))
    by true e fit = planned_next command plan n ps activity changes asked.0 (le_of_lt (later 0 refl)) kinds e inv fit
    by false e fit = refused_next command plan n ps.master (StalePlan (plan_of command ps.master)) (all_numbered ps activity changes inv)
act_next (Advance operation) slots n ps activity changes asked later kinds inv after = (kind_next operation.kind operation n ps activity changes refl inv after).next
act_next Prune slots n ps activity changes asked later kinds inv after = none_next _ _ n ps.master _ after refl refl refl
act_next act slots n ps activity changes asked later kinds inv after = plain_next act n ps refl refl refl after

-- an entry of a legal history draws the next numbers
pub entry_next : (e : Entry) (earlier : List Entry) (slots : ℕ) → Legal slots (e ∷ earlier) → Turn e.event.act e.stamp (replay slots earlier)
unfolding replay
entry_next e earlier slots legal =
    let ps = replay slots earlier in
    act_next e.event.act slots e.stamp ps (activity_of slots earlier) (journal_of slots earlier) legal.1.asked.act (stamps_later e ps legal.1.stamp) (replay_kinds earlier slots) (legal_holds earlier slots legal.0).inv (all_numbered _ _ _ (legal_holds (e ∷ earlier) slots legal).inv)

pub drawn_in_turn : (history : List Entry) (slots : ℕ) → Legal slots history → DrawsInTurn slots history
unfolding replay
drawn_in_turn [] slots legal = tt
drawn_in_turn (e ∷ earlier) slots legal =
    let ps = replay slots earlier in
    let turn = entry_next e earlier slots legal in (
      drawn_in_turn earlier slots legal.0,
      subst (λ reply. DrawsNext e.event.act reply e.stamp ps.master (told e.event.act (outcome e.event.act e.stamp ps) e.stamp ps).master) (sym legal.1.reply) turn,
    )
