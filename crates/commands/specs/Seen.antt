-- Commands and looks as the book's.
use Rattle.model.specs.Acts as book
use Rattle.table_schema.specs.Seen.{column_kind_of}
use Rattle.commands.specs.declared.command.Command.{Command}
use Rattle.commands.specs.declared.command.Command.TheVariants as command
use Rattle.commands.specs.declared.ask.Ask.{Ask}
use Rattle.commands.specs.declared.ask.Ask.TheVariants as ask

abbrev pub command_of : Command → book.Command
command_of (command.CreateNamespace namespace) = book.CreateNamespace namespace
command_of (command.DropNamespace namespace) = book.DropNamespace namespace
command_of (command.CreateTable namespace table tablets columns) = book.CreateTable namespace table tablets columns
command_of (command.AddColumn namespace table name kind) = book.AddColumn namespace table name (column_kind_of kind)
command_of (command.DropColumn namespace table name) = book.DropColumn namespace table name
command_of (command.RenameTable namespace table name) = book.RenameTable namespace table name
command_of (command.DropTable namespace table) = book.DropTable namespace table
command_of (command.Split namespace table code) = book.Split namespace table code
command_of (command.CreateSnapshotSchedule interval retention namespace) =
    book.CreateSchedule interval retention namespace
command_of (command.EditSnapshotSchedule schedule interval retention) =
    book.EditSchedule schedule interval retention
command_of (command.DeleteSnapshotSchedule schedule) = book.DeleteSchedule schedule
command_of (command.TakeSnapshot schedule) = book.TakeSnapshot schedule
command_of (command.RestoreSnapshotSchedule schedule to) = book.Restore schedule to
command_of (command.CloneNamespace source target to) = book.CloneNamespace source target to
command_of command.ListSnapshotSchedules = book.ListSchedules
command_of command.ListSnapshots = book.ListSnapshots
command_of command.ListSnapshotRestorations = book.ListRestorations
command_of command.ListClones = book.ListClones
command_of (command.ListTablets namespace) = book.ListTablets namespace

abbrev pub ask_of : Ask → book.Ask
ask_of (ask.Plan asked) = book.AskPlan (command_of asked)
ask_of (ask.Keys namespace table batch at) = book.AskKeys namespace table batch at
ask_of (ask.Table namespace table at) = book.AskTable namespace table at
ask_of ask.Work = book.AskWork
ask_of ask.Removable = book.AskRemovable
ask_of ask.Present = book.AskPresent
