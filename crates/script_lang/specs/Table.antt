-- The table of commands, in groups that are looked through one after the other.
use Rattle.std.specs.Prelude.{ℕ, List, ◌++◌, Result, Err}
use Rattle.script_words.specs.declared.cause.Cause.{Cause}
use Rattle.script_words.specs.declared.cause.Cause.TheVariants.{UnknownCommand}
use Rattle.script_places.specs.Words.{Word}
use Rattle.script_places.specs.Places.{Form, look_up}
use Rattle.model.specs.Scripts.{ScriptCommand}
use Rattle.script_lang.specs.Settings as settings
use Rattle.script_lang.specs.Catalog as catalog
use Rattle.script_lang.specs.Rows as rows
use Rattle.script_lang.specs.Tablets as tablets
use Rattle.script_lang.specs.Schedules as schedules
use Rattle.script_lang.specs.Restores as restores
use Rattle.script_lang.specs.Work as work

-- each command
abbrev pub table : List (Form ScriptCommand)
table =
    settings.forms ++ catalog.forms ++ rows.forms ++ tablets.forms ++ schedules.forms ++ restores.forms ++ work.forms

-- the command of a line's first word and those behind it, looked for from a group on
unfoldable pub from_work : ℕ → Word → List Word → Result ScriptCommand Cause
from_work slots w ws = look_up slots work.forms w ws (Err UnknownCommand)

unfoldable pub from_restores : ℕ → Word → List Word → Result ScriptCommand Cause
from_restores slots w ws = look_up slots restores.forms w ws (from_work slots w ws)

unfoldable pub from_schedules : ℕ → Word → List Word → Result ScriptCommand Cause
from_schedules slots w ws = look_up slots schedules.forms w ws (from_restores slots w ws)

unfoldable pub from_tablets : ℕ → Word → List Word → Result ScriptCommand Cause
from_tablets slots w ws = look_up slots tablets.forms w ws (from_schedules slots w ws)

unfoldable pub from_rows : ℕ → Word → List Word → Result ScriptCommand Cause
from_rows slots w ws = look_up slots rows.forms w ws (from_tablets slots w ws)

unfoldable pub from_catalog : ℕ → Word → List Word → Result ScriptCommand Cause
from_catalog slots w ws = look_up slots catalog.forms w ws (from_rows slots w ws)

unfoldable pub command_of : ℕ → Word → List Word → Result ScriptCommand Cause
command_of slots w ws = look_up slots settings.forms w ws (from_catalog slots w ws)
