-- Each form of the table makes what may be asked, of whatever keeps the bounds of its places.
use Rattle.std.proofs.Common.{ℕ, ◌^◌, ◌<◌, ◌≤◌, inl, inr, List, [], ◌∷◌, ◌++◌, subst, arith}
use Rattle.row_values.specs.Elements.{AllOf}
use Rattle.row_values.specs.Batches.{IsKey}
use Rattle.model.specs.Acts.{NamedOp, NamedUpsert, NamedDelete}
use Rattle.model.specs.Entries.{IsNamedOp, IsNamedBatch}
use Rattle.model.specs.Scripts.{ScriptCommand}
use Rattle.model_runs.specs.Courses.{ScriptAsked, key_alone}
use Rattle.script_places.specs.declared.place.Place.{Place}
use Rattle.script_places.specs.Words.{Word}
use Rattle.script_places.specs.Places.{Meaning, Makes, Form}
use Rattle.script_places.specs.Grammar.{Spells, SpelledIn}
use Rattle.script_lang.specs.Table.{table}
use Rattle.script_lang.specs.Limits.{most_number}
use Rattle.script_lang.specs.Settings as settings
use Rattle.script_lang.specs.Catalog as catalog
use Rattle.script_lang.specs.Rows as rows
use Rattle.script_lang.specs.Tablets as tablets
use Rattle.script_lang.specs.Schedules as schedules
use Rattle.script_lang.specs.Restores as restores
use Rattle.script_lang.specs.Work as work
use Rattle.script_asked.proofs.Meanings.{Bounded, bounded}

-- what is made of bounded meanings may be asked
abbrev MayAsk : ℕ → (places : List Place) → Makes ScriptCommand places → Type 0
MayAsk slots [] command = ScriptAsked slots command
MayAsk slots (place ∷ rest) make = (x : Meaning place) → Bounded slots place x → MayAsk slots rest (make x)

spelled_by : (slots : ℕ) (places : List Place) (make : Makes ScriptCommand places) (command : ScriptCommand) (ws : List Word)
    → MayAsk slots places make → Spells slots places make command ws → ScriptAsked slots command
spelled_by slots [] made command ws may s = subst (λ (c : ScriptCommand). ScriptAsked slots c) s.1 may
spelled_by slots (place ∷ rest) make command ws may s =
    spelled_by slots rest (make s.0) command s.2 (may s.0 (bounded slots place s.0 s.1 s.4)) s.5

abbrev pub FormAsks : ℕ → Form ScriptCommand → Type 0
FormAsks slots form = MayAsk slots form.places form.makes

pub spelled_in : (slots : ℕ) (forms : List (Form ScriptCommand)) (command : ScriptCommand) (w : Word) (ws : List Word)
    → AllOf (FormAsks slots) forms → SpelledIn slots forms command w ws → ScriptAsked slots command
spelled_in slots [] command w ws may s = absurd s
spelled_in slots (form ∷ forms) command w ws may (inl s) = spelled_by slots form.places form.makes command ws may.0 s.1
spelled_in slots (form ∷ forms) command w ws may (inr s) = spelled_in slots forms command w ws may.1 s

-- The forms

tick : (slots : ℕ) → FormAsks slots settings.tick
tick slots micros within reading soon = omega (arith, within.1)

lag : (slots : ℕ) → FormAsks slots settings.lag
lag slots slot is micros within reading soon = is

create_namespace : (slots : ℕ) → FormAsks slots catalog.create_namespace
create_namespace slots name is reading soon = (is, tt {0})

drop_namespace : (slots : ℕ) → FormAsks slots catalog.drop_namespace
drop_namespace slots name is reading soon = (is, tt {0})

create_table : (slots : ℕ) → FormAsks slots catalog.create_table
create_table slots namespace is name named _ fixed tablets within columns are reading soon =
    (is, named, within, are.0, are.1, are.2)

add_column : (slots : ℕ) → FormAsks slots catalog.add_column
add_column slots namespace is name named column called reading soon = (is, named, called)

drop_column : (slots : ℕ) → FormAsks slots catalog.drop_column
drop_column slots namespace is name named column called reading soon = (is, named, called)

rename_table : (slots : ℕ) → FormAsks slots catalog.rename_table
rename_table slots namespace is name named other called reading soon = ((is, named, called), tt {0})

drop_table : (slots : ℕ) → FormAsks slots catalog.drop_table
drop_table slots namespace is name named reading soon = (is, named)

-- a batch of one item
one_item : (key : List ℕ) (op : NamedOp) → IsKey key → IsNamedOp op
    → IsNamedBatch (record { key = key; op = op } ∷ [])
one_item key op is does = (omega arith, omega arith, ((is, does), tt {0}))

alone : (key : List ℕ) → IsKey key → IsNamedBatch (key_alone key)
alone key is = one_item key (NamedUpsert []) is (omega arith, tt {0})

put : (slots : ℕ) → FormAsks slots rows.put
put slots namespace is name named key has cells are reading soon =
    (is, named, one_item key (NamedUpsert cells) has are, tt {0})

delete : (slots : ℕ) → FormAsks slots rows.delete
delete slots namespace is name named key has reading soon = (is, named, one_item key NamedDelete has (tt {0}), tt {0})

batch : (slots : ℕ) → FormAsks slots rows.batch
batch slots namespace is name named items are reading soon = (is, named, are, tt {0})

get : (slots : ℕ) → FormAsks slots rows.get
get slots namespace is name named key has reading soon = (is, named, alone key has, tt {0})

get_at : (slots : ℕ) → FormAsks slots rows.get_at
get_at slots namespace is name named key has at early reading soon = (is, named, alone key has, early reading soon)

scan : (slots : ℕ) → FormAsks slots rows.scan
scan slots namespace is name named reading soon = (is, named, tt {0})

scan_at : (slots : ℕ) → FormAsks slots rows.scan_at
scan_at slots namespace is name named at early reading soon = (is, named, early reading soon)

split : (slots : ℕ) → FormAsks slots tablets.split
split slots namespace is name named code within reading soon = (is, named, omega (arith, within.1))

list_tablets : (slots : ℕ) → FormAsks slots tablets.list_tablets
list_tablets slots namespace is reading soon = (is, tt {0})

cutoff : (slots : ℕ) → FormAsks slots tablets.cutoff
cutoff slots reading soon = tt {0}

compact : (slots : ℕ) → FormAsks slots tablets.compact
compact slots reading soon = tt {0}

stats : (slots : ℕ) → FormAsks slots tablets.stats
stats slots slot is reading soon = is

-- a number of 64 bits
number : (n : ℕ) → n ≤ most_number → n < 2 ^ 64
number n within = omega (arith, within)

create_snapshot_schedule : (slots : ℕ) → FormAsks slots schedules.create_snapshot_schedule
create_snapshot_schedule slots interval each retention long namespace is reading soon =
    ((is, number interval each.1, number retention long.1), tt {0})

edit_snapshot_schedule : (slots : ℕ) → FormAsks slots schedules.edit_snapshot_schedule
edit_snapshot_schedule slots schedule _ interval each retention long reading soon =
    ((number interval each.1, number retention long.1), tt {0})

delete_snapshot_schedule : (slots : ℕ) → FormAsks slots schedules.delete_snapshot_schedule
delete_snapshot_schedule slots schedule _ reading soon = (tt {0}, tt {0})

take_snapshot : (slots : ℕ) → FormAsks slots schedules.take_snapshot
take_snapshot slots schedule _ reading soon = (tt {0}, tt {0})

list_snapshot_schedules : (slots : ℕ) → FormAsks slots schedules.list_snapshot_schedules
list_snapshot_schedules slots reading soon = (tt {0}, tt {0})

list_snapshots : (slots : ℕ) → FormAsks slots schedules.list_snapshots
list_snapshots slots reading soon = (tt {0}, tt {0})

restore_snapshot_schedule : (slots : ℕ) → FormAsks slots restores.restore_snapshot_schedule
restore_snapshot_schedule slots schedule _ to early reading soon = (early reading soon, tt {0})

clone_namespace : (slots : ℕ) → FormAsks slots restores.clone_namespace
clone_namespace slots source is target named to early reading soon = ((is, named, early reading soon), tt {0})

list_snapshot_restorations : (slots : ℕ) → FormAsks slots restores.list_snapshot_restorations
list_snapshot_restorations slots reading soon = (tt {0}, tt {0})

list_clones : (slots : ℕ) → FormAsks slots restores.list_clones
list_clones slots reading soon = (tt {0}, tt {0})

cleanup : (slots : ℕ) → FormAsks slots work.cleanup
cleanup slots reading soon = tt {0}

coordinate : (slots : ℕ) → FormAsks slots work.coordinate
coordinate slots count within reading soon = tt {0}

settle : (slots : ℕ) → FormAsks slots work.settle
settle slots reading soon = tt {0}

restart_master : (slots : ℕ) → FormAsks slots work.restart_master
restart_master slots reading soon = omega arith

restart_tablet : (slots : ℕ) → FormAsks slots work.restart_tablet
restart_tablet slots slot is reading soon = is.1

history : (slots : ℕ) → FormAsks slots work.history
history slots reading soon = tt {0}

-- The table, and its groups from each on

abbrev Forms : Type 0
Forms = List (Form ScriptCommand)

abbrev from_work : Forms
from_work = work.forms

abbrev from_restores : Forms
from_restores = restores.forms ++ from_work

abbrev from_schedules : Forms
from_schedules = schedules.forms ++ from_restores

abbrev from_tablets : Forms
from_tablets = tablets.forms ++ from_schedules

abbrev from_rows : Forms
from_rows = rows.forms ++ from_tablets

abbrev from_catalog : Forms
from_catalog = catalog.forms ++ from_rows

settings_ask : (slots : ℕ) → AllOf (FormAsks slots) from_catalog → AllOf (FormAsks slots) table
settings_ask slots others = (tick slots, (lag slots, others))

catalog_ask : (slots : ℕ) → AllOf (FormAsks slots) from_rows → AllOf (FormAsks slots) from_catalog
catalog_ask slots others = (
  create_namespace slots,
  (
    drop_namespace slots,
    (
      create_table slots,
      (
        add_column slots,
        (
          drop_column slots,
          (rename_table slots, (drop_table slots, others)),
        ),
      ),
    ),
  ),
)

rows_ask : (slots : ℕ) → AllOf (FormAsks slots) from_tablets → AllOf (FormAsks slots) from_rows
rows_ask slots others =
    (put slots, (delete slots, (batch slots, (get slots, (get_at slots, (scan slots, (scan_at slots, others)))))))

tablets_ask : (slots : ℕ) → AllOf (FormAsks slots) from_schedules → AllOf (FormAsks slots) from_tablets
tablets_ask slots others = (split slots, (list_tablets slots, (cutoff slots, (compact slots, (stats slots, others)))))

schedules_ask : (slots : ℕ) → AllOf (FormAsks slots) from_restores → AllOf (FormAsks slots) from_schedules
schedules_ask slots others = (
  create_snapshot_schedule slots,
  (
    edit_snapshot_schedule slots,
    (
      delete_snapshot_schedule slots,
      (take_snapshot slots, (list_snapshot_schedules slots, (list_snapshots slots, others))),
    ),
  ),
)

restores_ask : (slots : ℕ) → AllOf (FormAsks slots) from_work → AllOf (FormAsks slots) from_restores
restores_ask slots others = (
  restore_snapshot_schedule slots,
  (
    clone_namespace slots,
    (
      list_snapshot_restorations slots,
      (list_clones slots, others),
    ),
  ),
)

work_ask : (slots : ℕ) → AllOf (FormAsks slots) from_work
work_ask slots = (
  cleanup slots,
  (
    coordinate slots,
    (
      settle slots,
      (
        restart_master slots,
        (
          restart_tablet slots,
          (history slots, tt {0}),
        ),
      ),
    ),
  ),
)

pub all_ask : (slots : ℕ) → AllOf (FormAsks slots) table
all_ask slots =
    settings_ask slots (catalog_ask slots (rows_ask slots (tablets_ask slots (schedules_ask slots (restores_ask slots
    (work_ask slots))))))
