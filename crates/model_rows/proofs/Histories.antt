-- A run of lines is the history of its entries.
use Rattle.std.proofs.Common.{ℕ, zero, suc, List, [], ◌∷◌, Option, Some, None, refl, ap}
use Rattle.std.specs.Option.{option_map_or}
use Rattle.model.specs.Acts.{Act}
use Rattle.model.specs.History.{next, replay, entry_of}
use Rattle.model_rows.specs.Runs.{Line, Tick, Do, Coordinate, Run, IsHistory, entry_on, event_of, begun, done, coordinated, after_line, after}

-- a run before its first line
begun_is_history : (slots : ℕ) → IsHistory slots (begun slots)
unfolding replay
begun_is_history slots = record { parts = refl; given = tt }

done_is_history : (act : Act) (slots : ℕ) (run : Run) → IsHistory slots run → IsHistory slots (done act run)
unfolding replay entry_of
done_is_history act slots run h = record {
  parts = ap (next (entry_on (event_of act run) run.entries run.parts)) h.parts;
  given = (ap (entry_on (event_of act run) run.entries) h.parts, h.given);
}

option_is_history : (act : Option Act) (slots : ℕ) (after_act : Act → Run) (run : Run)
    → IsHistory slots run → ((act : Act) → IsHistory slots (after_act act)) → IsHistory slots (option_map_or after_act act run)
option_is_history None slots after_act run h each = h
option_is_history (Some act) slots after_act run h each = each act

coordinated_is_history : (count slots : ℕ) (run : Run) → IsHistory slots run → IsHistory slots (coordinated count run)
coordinated_is_history zero slots run h = h
coordinated_is_history (suc count) slots run h =
    option_is_history _ slots _ run h (λ act. coordinated_is_history count slots (done act run) (done_is_history act slots run h))

line_is_history : (line : Line) (slots : ℕ) (run : Run) → IsHistory slots run → IsHistory slots (after_line line run)
line_is_history (Tick micros) slots run h = record { parts = h.parts; given = h.given }
line_is_history (Do act) slots run h = done_is_history act slots run h
line_is_history (Coordinate count) slots run h = coordinated_is_history count slots run h

-- whatever lines a run begins with, its entries are the history of their events
pub after_is_history : (lines : List Line) (slots : ℕ) (run : Run) → IsHistory slots run → IsHistory slots (after lines run)
after_is_history [] slots run h = h
after_is_history (line ∷ lines) slots run h = after_is_history lines slots (after_line line run) (line_is_history line slots run h)

pub run_is_history : (lines : List Line) (slots : ℕ) → IsHistory slots (after lines (begun slots))
run_is_history lines slots = after_is_history lines slots (begun slots) (begun_is_history slots)
