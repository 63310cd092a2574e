-- How commands are judged: the refusals of each in order, and else what the parts are told, and the reply.
use Rattle.std.specs.Prelude.{ℕ, ◌+◌, not, ◌&&◌, List, [], ◌∷◌, map, length, is_some, if◌then◌else◌, nat_lt, nat_le, ◌==◌, Option, Some, None, option_map, Result, Ok as Granted, Err as Denied, filter, ok_or, bytes_eq}
use Rattle.model.specs.Cluster.{option_or, Id, same, same_slots, part_of, Column, ColumnKind, NewColumn, column_named, is_open, TableRecord, namespace_named, current_named, current_tables, by_id, Interval, Tablet, TabletAct, Make, Child, SetVersion, HideSince, Told, Schedule, CloneRecord, is_visible, schedule_with, schedule_of, unfinished_of, CreateNamespace, DropNamespace, CreateTable, AddColumn, DropColumn, RenameTable, DropTable, Split, CreateSchedule, EditSchedule, DeleteSchedule, TakeSnapshot, Restore, CloneNamespace, ListSchedules, ListSnapshots, ListRestorations, ListClones, ListTablets, Refusal, UnknownColumn, UnknownSchedule, BadPeriod, NameTaken, NotEmpty, UnderSchedule, NoSchedule, TooMany, SlotsFull, TooEarly, Future, Busy, StalePlan, TooNarrow, NotDue, Ok, Schedules, Snapshots, Restorations, Clones, Tablets, Master, Parts, MasterAct, MakesNamespace, DropsNamespace, MakesTable, AddsColumn, DropsColumn, RenamesTable, DropsTable, SplitsTablet, MakesSchedule, EditsSchedule, DeletesSchedule, TakesSnapshot, BeginsRestoration, BeginsClone, Outcome, Check, If, Names, checked, and_found, decided, judged, answered}
use Rattle.model.specs.Acts.{Command}
use Rattle.model.specs.Schedules.{is_period, low, least_low, next_due, is_due}
use Rattle.model.specs.Lists.{next_snapshot}
use Rattle.model.specs.Operations.{holder, user}
use Rattle.model.specs.Looks.{free_slots, found_namespace, found_table, Parent, found_parent, Family, found_family, plan_of}
use Rattle.model.specs.Changed.{next_namespace, next_table, next_schedule, next_restoration, next_clone, next_tablet, shares, children, sources, clone_time}
use Rattle.model.specs.Lines.{schedule_lines, snapshot_lines, restoration_lines, clone_lines, tablet_lines}

-- the most current namespaces, tables and schedules of a namespace, and columns of a table
abbrev pub most_namespaces : ℕ
most_namespaces = 64

abbrev pub most_tables : ℕ
most_tables = 64

abbrev pub most_columns : ℕ
most_columns = 16

abbrev pub most_schedules : ℕ
most_schedules = 8

abbrev pub count_schedules : List Schedule → Id → ℕ
count_schedules ss ns = length (filter (λ s. same s.namespace ns) ss)

-- the clone that is to make a namespace of this name
abbrev pub clone_named : List CloneRecord → List ℕ → Option Id
clone_named [] name = None
clone_named (r ∷ rs) name =
    if bytes_eq r.target name && not (is_visible r.state) then Some r.id else clone_named rs name

-- the namespace, or the clone that is to make one, that has the name
abbrev pub named : Master → List ℕ → Option Id
named m name = option_or (namespace_named m.catalog.namespaces name) (clone_named m.clones name)

-- how many namespaces are current, or are to be made by a clone
abbrev pub count_namespaces : Master → ℕ
count_namespaces m =
    length (filter (λ r. is_open r.to) m.catalog.namespaces)
    + length (filter (λ r. not (is_visible r.state)) m.clones)

abbrev pub first_table : List TableRecord → Option Id
first_table [] = None
first_table (t ∷ ts) = Some t.id

abbrev pub table_id : Option TableRecord → Option Id
table_id t = option_map {T = TableRecord} (λ t. t.id) t

abbrev pub schedule_id : Option Schedule → Option Id
schedule_id s = option_map {T = Schedule} (λ s. s.id) s

-- the operation that uses a schedule's namespace, or else the namespace's unfinished snapshot
abbrev pub schedule_user : Master → Schedule → Option Id
schedule_user m s = option_or (user m s.namespace) (unfinished_of m.snapshots s.namespace)

-- the tablets in the slots are told the same
abbrev pub tell : List ℕ → TabletAct → List Told
tell slots act = map (λ slot. record { slot = slot; act = act }) slots

-- the tablets of a new table are made
abbrev pub tell_made : List Interval → List Told
tell_made is = map {A = Interval} (λ i. record { slot = i.slot; act = Make i.tablet i.table i.low i.high 1 }) is

-- the children of a split take the parent's versions in their ranges, and its cutoff
abbrev pub tell_children : List Interval → ℕ → Tablet → List Told
tell_children is version parent = map {A = Interval} (λ i. record {
  slot = i.slot;
  act = Child i.tablet i.table i.low i.high version (part_of i.low i.high parent.versions) parent.cutoff;
}) is

-- the command is accepted: what the master and the tablets are told, and what is made
abbrev pub accepts : MasterAct → List Told → List Id → Outcome
accepts act tablets made = record { master = act; tablets = tablets; reply = Ok made }

-- Each command: its refusals in order, its judgement (what was found, or the first refusal), and what it does

abbrev pub create_namespace_checks : List ℕ → Master → List Check
create_namespace_checks name m =
    Names (named m name) NameTaken ∷ If (count_namespaces m == most_namespaces) (TooMany most_namespaces) ∷ []

abbrev pub judge_create_namespace : List ℕ → Master → Result Id Refusal
judge_create_namespace name m = checked (Granted (next_namespace m)) (λ id. create_namespace_checks name m)

unfoldable pub create_namespace : List ℕ → Master → Outcome
create_namespace name m =
    decided (judge_create_namespace name m) (λ id. accepts (MakesNamespace name) [] (id ∷ []))

abbrev pub drop_namespace_checks : Id → Master → List Check
drop_namespace_checks ns m =
    Names (holder m ns) Busy
    ∷ Names (first_table (by_id (current_tables m.catalog.tables ns))) NotEmpty
    ∷ Names (schedule_id (schedule_of m.schedules ns)) UnderSchedule
    ∷ []

abbrev pub judge_drop_namespace : List ℕ → Master → Result Id Refusal
judge_drop_namespace name m = checked (found_namespace m name) (λ ns. drop_namespace_checks ns m)

unfoldable pub drop_namespace : List ℕ → Master → Outcome
drop_namespace name m = decided (judge_drop_namespace name m) (λ ns. accepts (DropsNamespace ns) [] [])

abbrev pub create_table_checks : Id → List ℕ → ℕ → Master → List Check
create_table_checks ns table tablets m =
    let free = length (free_slots m) in
    Names (holder m ns) Busy
    ∷ Names (table_id (current_named m.catalog.tables ns table)) NameTaken
    ∷ If (length (current_tables m.catalog.tables ns) == most_tables) (TooMany most_tables)
    ∷ If (nat_lt free tablets) (SlotsFull free tablets)
    ∷ []

abbrev pub judge_create_table : List ℕ → List ℕ → ℕ → Master → Result Id Refusal
judge_create_table namespace table tablets m =
    checked (found_namespace m namespace) (λ ns. create_table_checks ns table tablets m)

unfoldable pub create_table : List ℕ → List ℕ → ℕ → List NewColumn → List ℕ → ℕ → Master → Outcome
create_table namespace table tablets columns slots n m =
    decided (judge_create_table namespace table tablets m)
    (λ ns. accepts
    (MakesTable ns table columns slots)
    (tell_made (shares slots 0 (length slots) n m.drawn.tablets (next_table m)))
    (next_table m ∷ []))

abbrev pub add_column_checks : TableRecord → List ℕ → Master → List Check
add_column_checks t name m =
    Names (holder m t.namespace) Busy
    ∷ If (is_some (column_named t.schema.columns name)) (NameTaken t.id)
    ∷ If (length t.schema.columns == most_columns) (TooMany most_columns)
    ∷ []

abbrev pub judge_add_column : List ℕ → List ℕ → List ℕ → Master → Result TableRecord Refusal
judge_add_column namespace table name m =
    checked (found_table m namespace table) (λ t. add_column_checks t name m)

unfoldable pub add_column : List ℕ → List ℕ → List ℕ → ColumnKind → List ℕ → Master → Outcome
add_column namespace table name kind slots m =
    decided (judge_add_column namespace table name m)
    (λ t. accepts (AddsColumn t name kind) (tell slots (SetVersion (t.schema.version + 1))) [])

-- a column of a table
pub record ColumnOf : Type 0 where
  pub table : TableRecord
  pub column : Column

abbrev pub column_of : List ℕ → TableRecord → Option ColumnOf
column_of name t = option_map (λ c. record { table = t; column = c }) (column_named t.schema.columns name)

abbrev pub found_column : Master → List ℕ → List ℕ → List ℕ → Result ColumnOf Refusal
found_column m namespace table name = and_found (found_table m namespace table) (column_of name) UnknownColumn

-- no operation holds the namespace
abbrev pub unheld_checks : Id → Master → List Check
unheld_checks ns m = Names (holder m ns) Busy ∷ []

abbrev pub judge_drop_column : List ℕ → List ℕ → List ℕ → Master → Result ColumnOf Refusal
judge_drop_column namespace table name m =
    checked (found_column m namespace table name) (λ c. unheld_checks c.table.namespace m)

unfoldable pub drop_column : List ℕ → List ℕ → List ℕ → List ℕ → Master → Outcome
drop_column namespace table name slots m =
    decided (judge_drop_column namespace table name m)
    (λ c. accepts (DropsColumn c.table c.column) (tell slots (SetVersion (c.table.schema.version + 1))) [])

abbrev pub rename_table_checks : TableRecord → List ℕ → Master → List Check
rename_table_checks t name m =
    Names (holder m t.namespace) Busy
    ∷ Names (table_id (current_named m.catalog.tables t.namespace name)) NameTaken
    ∷ []

abbrev pub judge_rename_table : List ℕ → List ℕ → List ℕ → Master → Result TableRecord Refusal
judge_rename_table namespace table name m =
    checked (found_table m namespace table) (λ t. rename_table_checks t name m)

unfoldable pub rename_table : List ℕ → List ℕ → List ℕ → Master → Outcome
rename_table namespace table name m =
    decided (judge_rename_table namespace table name m) (λ t. accepts (RenamesTable t name) [] [])

abbrev pub judge_drop_table : List ℕ → List ℕ → Master → Result TableRecord Refusal
judge_drop_table namespace table m =
    checked (found_table m namespace table) (λ t. unheld_checks t.namespace m)

unfoldable pub drop_table : List ℕ → List ℕ → List ℕ → ℕ → Master → Outcome
drop_table namespace table slots n m =
    decided (judge_drop_table namespace table m) (λ t. accepts (DropsTable t.id) (tell slots (HideSince n)) [])

abbrev pub split_checks : Parent → ℕ → Master → List Check
split_checks p code m =
    Names (holder m p.table.namespace) Busy ∷ If (code == p.tablet.low) (TooNarrow p.tablet.low) ∷ []

abbrev pub judge_split : List ℕ → List ℕ → ℕ → Master → Result Family Refusal
judge_split namespace table code m =
    found_family (checked (found_parent m namespace table code) (λ p. split_checks p code m)) m

-- a tablet is split: its children take what its part has
abbrev pub splitting : Family → ℕ → ℕ → Master → Tablet → Outcome
splitting f code n m part =
    let parent = f.parent.tablet in
    accepts
    (SplitsTablet parent code f.low_slot f.high_slot)
    (record { slot = parent.slot; act = HideSince n }
    ∷ tell_children
    (children parent code f.low_slot f.high_slot n m.drawn.tablets)
    f.parent.table.schema.version
    part)
    (next_tablet m.drawn.tablets 1 ∷ next_tablet m.drawn.tablets 2 ∷ [])

unfoldable pub split : List ℕ → List ℕ → ℕ → ℕ → Parts → Outcome
split namespace table code n ps =
    decided (judge_split namespace table code ps.master)
    (λ f. splitting f code n ps.master (ps.tablet f.parent.tablet.slot))

abbrev pub create_schedule_checks : Id → ℕ → ℕ → Master → List Check
create_schedule_checks ns interval retention m =
    Names (holder m ns) Busy
    ∷ If (count_schedules m.schedules ns == most_schedules) (TooMany most_schedules)
    ∷ If (not (is_period interval retention)) (BadPeriod interval retention)
    ∷ []

abbrev pub judge_create_schedule : ℕ → ℕ → List ℕ → Master → Result Id Refusal
judge_create_schedule interval retention namespace m =
    checked (found_namespace m namespace) (λ ns. create_schedule_checks ns interval retention m)

unfoldable pub create_schedule : ℕ → ℕ → List ℕ → Master → Outcome
create_schedule interval retention namespace m =
    decided (judge_create_schedule interval retention namespace m)
    (λ ns. accepts (MakesSchedule ns interval retention) [] (next_schedule m ∷ []))

-- the schedule of an identifier
abbrev pub found_schedule : Master → Id → Result Schedule Refusal
found_schedule m schedule = ok_or (schedule_with m.schedules schedule) UnknownSchedule

abbrev pub edit_schedule_checks : ℕ → ℕ → List Check
edit_schedule_checks interval retention = If (not (is_period interval retention)) (BadPeriod interval retention) ∷ []

abbrev pub judge_edit_schedule : Id → ℕ → ℕ → Master → Result Schedule Refusal
judge_edit_schedule schedule interval retention m =
    checked (found_schedule m schedule) (λ s. edit_schedule_checks interval retention)

unfoldable pub edit_schedule : Id → ℕ → ℕ → Master → Outcome
edit_schedule schedule interval retention m =
    decided (judge_edit_schedule schedule interval retention m)
    (λ s. accepts (EditsSchedule s.id interval retention) [] [])

abbrev pub delete_schedule_checks : Schedule → Master → List Check
delete_schedule_checks s m = Names (schedule_user m s) Busy ∷ []

abbrev pub judge_delete_schedule : Id → Master → Result Schedule Refusal
judge_delete_schedule schedule m = checked (found_schedule m schedule) (λ s. delete_schedule_checks s m)

unfoldable pub delete_schedule : Id → Master → Outcome
delete_schedule schedule m =
    decided (judge_delete_schedule schedule m) (λ s. accepts (DeletesSchedule s.id) [] [])

abbrev pub take_snapshot_checks : Schedule → ℕ → Master → List Check
take_snapshot_checks s n m = Names (schedule_user m s) Busy ∷ If (not (is_due s n)) (NotDue (next_due s)) ∷ []

abbrev pub judge_take_snapshot : Id → ℕ → Master → Result Schedule Refusal
judge_take_snapshot schedule n m = checked (found_schedule m schedule) (λ s. take_snapshot_checks s n m)

unfoldable pub take_snapshot : Id → ℕ → Master → Outcome
take_snapshot schedule n m =
    decided (judge_take_snapshot schedule n m) (λ s. accepts (TakesSnapshot s) [] (next_snapshot m ∷ []))

abbrev pub restore_checks : Schedule → ℕ → ℕ → Master → List Check
restore_checks s to n m =
    Names (user m s.namespace) Busy
    ∷ If (nat_lt to (low s n)) (TooEarly (low s n))
    ∷ If (nat_le n to) (Future n)
    ∷ []

abbrev pub judge_restore : Id → ℕ → ℕ → Master → Result Schedule Refusal
judge_restore schedule to n m = checked (found_schedule m schedule) (λ s. restore_checks s to n m)

unfoldable pub restore : Id → ℕ → ℕ → Master → Outcome
restore schedule to n m =
    decided (judge_restore schedule to n m) (λ s. accepts (BeginsRestoration s to) [] (next_restoration m ∷ []))

-- no operation uses the namespace
abbrev pub unused_checks : Id → Master → List Check
unused_checks ns m = Names (user m ns) Busy ∷ []

-- a namespace that may be cloned, to times from the least low end of its schedules' windows on
pub record CloneSource : Type 0 where
  pub namespace : Id
  pub least : ℕ

abbrev pub source_from : Id → Option ℕ → Option CloneSource
source_from ns least = option_map (λ l. record { namespace = ns; least = l }) least

-- a namespace that is found, where it has a schedule
abbrev pub with_window : Result Id Refusal → ℕ → Master → Result CloneSource Refusal
with_window (Denied why) n m = Denied why
with_window (Granted ns) n m = ok_or (source_from ns (least_low m.schedules ns n)) (NoSchedule ns)

-- the namespace that is cloned
abbrev pub found_source : Master → List ℕ → ℕ → Result CloneSource Refusal
found_source m source n = with_window (checked (found_namespace m source) (λ ns. unused_checks ns m)) n m

abbrev pub clone_checks : CloneSource → List ℕ → ℕ → ℕ → Master → List Check
clone_checks s target to n m =
    let free = length (free_slots m) in
    let needed = length (sources m s.namespace to) in
    Names (named m target) NameTaken
    ∷ If (count_namespaces m == most_namespaces) (TooMany most_namespaces)
    ∷ If (nat_lt to s.least) (TooEarly s.least)
    ∷ If (nat_le n to) (Future n)
    ∷ If (nat_lt free needed) (SlotsFull free needed)
    ∷ []

abbrev pub judge_clone : List ℕ → List ℕ → ℕ → ℕ → Master → Result CloneSource Refusal
judge_clone source target to n m = checked (found_source m source n) (λ s. clone_checks s target to n m)

unfoldable pub clone_namespace : List ℕ → List ℕ → Option ℕ → ℕ → Master → Outcome
clone_namespace source target at n m =
    decided (judge_clone source target (clone_time at n) n m)
    (λ s. accepts (BeginsClone s.namespace source target (clone_time at n)) [] (next_clone m ∷ []))

unfoldable pub list_tablets : List ℕ → Master → Outcome
list_tablets namespace m =
    decided (found_namespace m namespace) (λ ns. answered (Tablets (tablet_lines m ns)))

-- a command under its plan
abbrev pub planned : Command → List ℕ → ℕ → Parts → Outcome
planned (CreateNamespace name) slots n ps = create_namespace name ps.master
planned (DropNamespace name) slots n ps = drop_namespace name ps.master
planned (CreateTable namespace table tablets columns) slots n ps =
    create_table namespace table tablets columns slots n ps.master
planned (AddColumn namespace table name kind) slots n ps = add_column namespace table name kind slots ps.master
planned (DropColumn namespace table name) slots n ps = drop_column namespace table name slots ps.master
planned (RenameTable namespace table name) slots n ps = rename_table namespace table name ps.master
planned (DropTable namespace table) slots n ps = drop_table namespace table slots n ps.master
planned (Split namespace table code) slots n ps = split namespace table code n ps
planned (CreateSchedule interval retention namespace) slots n ps =
    create_schedule interval retention namespace ps.master
planned (EditSchedule schedule interval retention) slots n ps =
    edit_schedule schedule interval retention ps.master
planned (DeleteSchedule schedule) slots n ps = delete_schedule schedule ps.master
planned (TakeSnapshot schedule) slots n ps = take_snapshot schedule n ps.master
planned (Restore schedule to) slots n ps = restore schedule to n ps.master
planned (CloneNamespace source target at) slots n ps = clone_namespace source target at n ps.master
planned ListSchedules slots n ps = answered (Schedules (schedule_lines n ps.master))
planned ListSnapshots slots n ps = answered (Snapshots (snapshot_lines ps.master))
planned ListRestorations slots n ps = answered (Restorations (restoration_lines ps.master))
planned ListClones slots n ps = answered (Clones (clone_lines ps.master))
planned (ListTablets namespace) slots n ps = list_tablets namespace ps.master

-- a change: its slots are the plan of its command
unfoldable pub change : Command → List ℕ → ℕ → Parts → Outcome
change command slots n ps =
    let kept = plan_of command ps.master in
    judged (If (not (same_slots slots kept)) (StalePlan kept) ∷ []) (planned command slots n ps)
