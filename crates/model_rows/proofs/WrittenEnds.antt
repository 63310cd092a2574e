-- Where a script's run ends, and what its times mean.
use Rattle.std.proofs.Common.{◌≡◌, [], ◌∷◌, ◌++◌, ◌^◌, ◌-◌, None, Some, codes, true, refl}
use Rattle.model.specs.Acts.{Look, AskPresent, Present}
use Rattle.model.specs.Entries.{Entry}
use Rattle.model.specs.Settling.{event_of}
use Rattle.model.specs.Scripts.{CloneNamespace, CreateNamespace, ListClones, Micros, MinusMinutes, MinusSeconds, ReadRow, Restore, Tick}
use Rattle.model_runs.specs.Running.{Run, begun, run_from}
use Rattle.model_rows.specs.Computed.{the_book}
use Rattle.model_rows.specs.Scripts.{K, S, a, b, c, t, v_is, x}
use Rattle.model_rows.specs.ScriptLines.{get, get_at, lines, numbered_from, prelude, prelude_written, put, uuid, written_by}

-- an empty script
empty_script : written_by [] ≡ []
unfolding the_book
empty_script = refl

-- the four forms of a time, under a reading of 62 seconds
forms_of_time : written_by (prelude
    ++ Tick 61000000
    ∷ put x (v_is 1)
    ∷ Tick 62000000
    ∷ ReadRow a t x (Some (MinusMinutes 1))
    ∷ ReadRow a t x (Some (MinusSeconds 1))
    ∷ ReadRow a t x (Some (Micros 61000000))
    ∷ get_at x 249856000000
    ∷ Restore (S 1) (MinusMinutes 120)
    ∷ CloneNamespace a b (Some (MinusSeconds 1))
    ∷ ListClones
    ∷ CloneNamespace a c None
    ∷ Restore (S 1) (Micros 61000000)
    ∷ [])
    ≡ lines (prelude_written
    ++ codes "6: ok 61000000.0"
    ∷ codes "8: none"
    ∷ codes "9: row v=1"
    ∷ codes "10: row v=1"
    ∷ codes "11: row v=1"
    ∷ codes "12: refused too_early 1000000.3"
    ∷ (codes "13: ok 62000000.5" ++ uuid (K 1))
    ∷ codes "14: 1 clones"
    ∷ (codes " " ++ uuid (K 1) ++ codes " a b ACCEPTED to 61000000.0")
    ∷ (codes "15: refused busy" ++ uuid (K 1))
    ∷ (codes "16: refused busy" ++ uuid (K 1))
    ∷ [])
unfolding the_book
forms_of_time = refl

-- a look has the last stamp that there is
abbrev last_entry : Entry
last_entry = record { number = 1; event = event_of 0 (Look AskPresent); stamp = 2 ^ 62 - 1; reply = Present [] }

abbrev at_the_end : Run
at_the_end = record begun { history = last_entry ∷ [] }

-- the next event would come at the end of time: the run stops, and neither it nor a command after it has an entry or a text
clock_ends : run_from 64 (numbered_from 1 (CreateNamespace a ∷ get x ∷ [])) at_the_end ≡ record at_the_end { stopped = true }
unfolding the_book
clock_ends = refl
