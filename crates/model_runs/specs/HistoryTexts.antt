-- The lines of a history: each tells an entry whole, so that the history can be read back from them.
use Rattle.std.specs.Prelude.{ℕ, List, [], ◌∷◌, ◌++◌, Option, Some, None, codes, flat_map, reverse}
use Rattle.std.specs.Fmt.{decimal}
use Rattle.std.specs.List.{join_by}
use Rattle.row_values.specs.declared.value.RowOp.{RowOp}
use Rattle.row_values.specs.declared.value.RowOp.TheVariants.{Upsert, Delete}
use Rattle.row_values.specs.declared.value.Item.{Item}
use Rattle.row_values.specs.Ids.{id_text}
use Rattle.row_values.specs.Schema.{ColumnKind, NewColumn}
use Rattle.model.specs.Acts.{NamedCell, NamedOp, NamedUpsert, NamedDelete, NamedItem, Command, CreateNamespace, DropNamespace, CreateTable, AddColumn, DropColumn, RenameTable, DropTable, Split, CreateSchedule, EditSchedule, DeleteSchedule, TakeSnapshot, Restore, CloneNamespace, ListSchedules, ListSnapshots, ListRestorations, ListClones, ListTablets, Ask, AskPlan, AskKeys, AskTable, AskWork, AskRemovable, AskPresent, At, Act, Look, Change, Write, Read, Cutoff, Compact, Send, Process, Ack, Advance, Remove, Prune, Restart, Stats}
use Rattle.model.specs.Entries.{Entry}
use Rattle.model_runs.specs.Texts.{word, number_word, id_word, time_word, numbers_text, slots_word, version_word, value_text, cell_words, column_kind_text, history_gap, reply_text}

-- Commands, as a script writes them, with whole times

-- ` ht <n>`
abbrev pub exact_words : ℕ → List ℕ
exact_words time = codes " ht" ++ number_word time

-- `<name>:<kind>`
abbrev pub new_column_word : List ℕ → ColumnKind → List ℕ
new_column_word name kind = word (name ++ codes ":" ++ column_kind_text kind)

abbrev pub command_text : Command → List ℕ
command_text (CreateNamespace name) = codes "create_namespace" ++ word name
command_text (DropNamespace name) = codes "drop_namespace" ++ word name
command_text (CreateTable namespace table tablets columns) =
    codes "create_table" ++ word namespace ++ word table ++ codes " tablets" ++ number_word tablets
    ++ flat_map {X = NewColumn} (λ c. new_column_word c.name c.kind) columns
command_text (AddColumn namespace table name kind) =
    codes "add_column" ++ word namespace ++ word table ++ new_column_word name kind
command_text (DropColumn namespace table name) = codes "drop_column" ++ word namespace ++ word table ++ word name
command_text (RenameTable namespace table name) = codes "rename_table" ++ word namespace ++ word table ++ word name
command_text (DropTable namespace table) = codes "drop_table" ++ word namespace ++ word table
command_text (Split namespace table code) = codes "split" ++ word namespace ++ word table ++ number_word code
command_text (CreateSchedule interval retention namespace) =
    codes "create_snapshot_schedule" ++ number_word interval ++ number_word retention ++ word namespace
command_text (EditSchedule schedule interval retention) =
    codes "edit_snapshot_schedule" ++ id_word schedule ++ number_word interval ++ number_word retention
command_text (DeleteSchedule schedule) = codes "delete_snapshot_schedule" ++ id_word schedule
command_text (TakeSnapshot schedule) = codes "take_snapshot" ++ id_word schedule
command_text (Restore schedule to) = codes "restore_snapshot_schedule" ++ id_word schedule ++ exact_words to
command_text (CloneNamespace source target None) = codes "clone_namespace" ++ word source ++ word target
command_text (CloneNamespace source target (Some to)) =
    codes "clone_namespace" ++ word source ++ word target ++ exact_words to
command_text ListSchedules = codes "list_snapshot_schedules"
command_text ListSnapshots = codes "list_snapshots"
command_text ListRestorations = codes "list_snapshot_restorations"
command_text ListClones = codes "list_clones"
command_text (ListTablets namespace) = codes "list_tablets" ++ word namespace

-- Batches, with columns by name in a look and by id in a write

abbrev pub named_op_words : NamedOp → List ℕ
named_op_words (NamedUpsert cells) =
    flat_map {X = NamedCell} (λ c. word (c.column ++ codes "=" ++ value_text c.value)) cells
named_op_words NamedDelete = codes " delete"

abbrev pub named_batch_text : List NamedItem → List ℕ
named_batch_text batch = join_by {X = NamedItem} (λ i. i.key ++ named_op_words i.op) (codes " / ") batch

abbrev pub op_words : RowOp → List ℕ
op_words (Upsert cells) = cell_words decimal cells
op_words Delete = codes " delete"

abbrev pub batch_text : List Item → List ℕ
batch_text batch = join_by {X = Item} (λ i. i.key ++ op_words i.op) (codes " / ") batch

-- Acts

-- ` at <n>` where a time is asked
abbrev pub asked_words : Option ℕ → List ℕ
asked_words None = []
asked_words (Some time) = codes " at" ++ number_word time

abbrev pub ask_text : Ask → List ℕ
ask_text (AskPlan command) = codes "look " ++ command_text command
ask_text (AskKeys namespace table batch at) =
    codes "look_keys" ++ word namespace ++ word table ++ word (named_batch_text batch) ++ asked_words at
ask_text (AskTable namespace table at) = codes "look_table" ++ word namespace ++ word table ++ asked_words at
ask_text AskWork = codes "look_work"
ask_text AskRemovable = codes "look_removable"
ask_text AskPresent = codes "look_present"

-- `<slot>/<tablet>`, with commas between them
abbrev pub places_text : List At → List ℕ
places_text places = join_by {X = At} (λ p. decimal p.slot ++ codes "/" ++ id_text p.tablet) (codes ",") places

-- `*` for all keys
abbrev pub key_word : Option (List ℕ) → List ℕ
key_word None = codes " *"
key_word (Some key) = word key

-- `-` for no column
abbrev pub columns_word : List ℕ → List ℕ
columns_word [] = codes " -"
columns_word (id ∷ ids) = word (numbers_text (id ∷ ids))

abbrev pub act_text : Act → List ℕ
act_text (Look ask) = ask_text ask
act_text (Change command slots) = codes "change" ++ slots_word slots ++ word (command_text command)
act_text (Write place version batch) =
    codes "write" ++ number_word place.slot ++ id_word place.tablet ++ version_word version ++ word (batch_text batch)
act_text (Read places version key at columns) =
    codes "read" ++ word (places_text places) ++ version_word version ++ key_word key ++ columns_word columns
    ++ asked_words at
act_text (Cutoff slot) = codes "cutoff" ++ number_word slot
act_text (Compact slot) = codes "compact" ++ number_word slot
act_text (Send operation slot) = codes "send" ++ id_word operation ++ number_word slot
act_text (Process slot other) = codes "process" ++ number_word slot ++ number_word other
act_text (Ack operation slot) = codes "ack" ++ id_word operation ++ number_word slot
act_text (Advance operation) = codes "advance" ++ id_word operation
act_text (Remove target slots) = codes "remove" ++ id_word target ++ slots_word slots
act_text Prune = codes "prune"
act_text (Restart slot) = codes "restart" ++ number_word slot
act_text (Stats slot) = codes "stats" ++ number_word slot

-- Entries

-- `#<number> <caller> <reading> <stamp> <act> => <reply>`
abbrev pub entry_line : Entry → List ℕ
entry_line e =
    codes "#" ++ decimal e.number ++ number_word e.event.caller ++ number_word e.event.reading ++ time_word e.stamp
    ++ word (act_text e.event.act) ++ codes " => " ++ reply_text history_gap [] e.reply ++ 10 ∷ []

-- a history whose newest entry is first, in order of number
abbrev pub history_text : List Entry → List ℕ
history_text history = flat_map entry_line (reverse history)
