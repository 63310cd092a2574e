-- The command of a script as the book has it: a put, a delete and a batch write rows, a get reads a row and a scan a
-- table.
use Rattle.std.specs.Prelude.{[], ◌∷◌, Some, None, option_map}
use Rattle.model.specs.Acts.{NamedUpsert, NamedDelete}
use Rattle.model.specs.Scripts as book
use Rattle.table_schema.specs.Seen.{column_kind_of}
use Rattle.commands.specs.Times.{script_time_of}
use Rattle.commands.specs.declared.script.ScriptCommand.{ScriptCommand}
use Rattle.commands.specs.declared.script.ScriptCommand.TheVariants as line

abbrev pub script_command_of : ScriptCommand → book.ScriptCommand
script_command_of (line.Tick micros) = book.Tick micros
script_command_of (line.Lag slot micros) = book.Lag slot micros
script_command_of (line.CreateNamespace namespace) = book.CreateNamespace namespace
script_command_of (line.DropNamespace namespace) = book.DropNamespace namespace
script_command_of (line.CreateTable namespace table tablets columns) = book.CreateTable namespace table tablets columns
script_command_of (line.AddColumn namespace table name kind) = book.AddColumn namespace table name (column_kind_of kind)
script_command_of (line.DropColumn namespace table name) = book.DropColumn namespace table name
script_command_of (line.RenameTable namespace table name) = book.RenameTable namespace table name
script_command_of (line.DropTable namespace table) = book.DropTable namespace table
script_command_of (line.Put namespace table key cells) =
    book.WriteRows namespace table (record { key = key; op = NamedUpsert cells } ∷ [])
script_command_of (line.Delete namespace table key) =
    book.WriteRows namespace table (record { key = key; op = NamedDelete } ∷ [])
script_command_of (line.Batch namespace table items) = book.WriteRows namespace table items
script_command_of (line.Get namespace table key) = book.ReadRow namespace table key None
script_command_of (line.GetAt namespace table key at) = book.ReadRow namespace table key (Some (script_time_of at))
script_command_of (line.Scan namespace table) = book.ReadTable namespace table None
script_command_of (line.ScanAt namespace table at) = book.ReadTable namespace table (Some (script_time_of at))
script_command_of (line.Split namespace table code) = book.Split namespace table code
script_command_of (line.CreateSnapshotSchedule interval retention namespace) =
    book.CreateSchedule interval retention namespace
script_command_of (line.EditSnapshotSchedule schedule interval retention) =
    book.EditSchedule schedule interval retention
script_command_of (line.DeleteSnapshotSchedule schedule) = book.DeleteSchedule schedule
script_command_of (line.TakeSnapshot schedule) = book.TakeSnapshot schedule
script_command_of (line.RestoreSnapshotSchedule schedule to) = book.Restore schedule (script_time_of to)
script_command_of (line.CloneNamespace source target to) =
    book.CloneNamespace source target (option_map script_time_of to)
script_command_of line.ListSnapshotSchedules = book.ListSchedules
script_command_of line.ListSnapshots = book.ListSnapshots
script_command_of line.ListSnapshotRestorations = book.ListRestorations
script_command_of line.ListClones = book.ListClones
script_command_of (line.ListTablets namespace) = book.ListTablets namespace
script_command_of line.Cutoff = book.RaiseCutoffs
script_command_of line.Compact = book.CompactTablets
script_command_of line.Cleanup = book.CleanUp
script_command_of (line.Coordinate count) = book.Coordinate count
script_command_of line.Settle = book.Settle
script_command_of line.RestartMaster = book.RestartMaster
script_command_of (line.RestartTablet slot) = book.RestartTablet slot
script_command_of (line.Stats slot) = book.ShowStats slot
script_command_of line.History = book.ShowHistory
