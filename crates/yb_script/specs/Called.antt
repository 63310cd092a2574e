-- What the words ask for that the program is called with.
use Rattle.std.specs.Prelude.{ℕ, if◌then◌else◌, List, [], ◌∷◌, Option, Some, None, unwrap_or, codes, String, string_bytes}
use Rattle.std.specs.Option.{IsSome}
use Rattle.std.specs.Str.{bytes_eq}
use Rattle.std.specs.declared.alloc.Global.{Global}

-- the slots for tablets of a cluster of which the words don't tell how many it has
abbrev pub usual_slots : ℕ
usual_slots = 64

-- how many slots the words ask for, where they are a form: `run`
abbrev pub slots_asked : List (String Global) → Option ℕ
slots_asked (word ∷ []) = if bytes_eq (string_bytes word) (codes "run") then Some usual_slots else None
slots_asked _ = None

abbrev pub IsForm : List (String Global) → Type 0
IsForm words = IsSome (slots_asked words)

-- how many slots the run has
abbrev pub slot_count : List (String Global) → ℕ
slot_count words = unwrap_or (slots_asked words) usual_slots
