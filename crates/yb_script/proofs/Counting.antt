-- How many slots a run has.
use Rattle.std.proofs.Common.{◌≤◌, Bool, true, false, cond, List, [], ◌∷◌, None, Some, arith}
use Rattle.std.specs.Prelude.{String, string_bytes, codes, unwrap_or}
use Rattle.std.specs.Str.{bytes_eq}
use Rattle.std.specs.declared.alloc.Global.{Global}
use Rattle.model.specs.Drawn.{most_slots}
use Rattle.yb_script.specs.Called.{slot_count, usual_slots}

few_either : (asked : Bool) → unwrap_or (cond asked (Some usual_slots) None) usual_slots ≤ most_slots
few_either true = omega arith
few_either false = omega arith

pub few_slots : (words : List (String Global)) → slot_count words ≤ most_slots
few_slots [] = omega arith
few_slots (word ∷ []) = few_either (bytes_eq (string_bytes word) (codes "run"))
few_slots (word ∷ other ∷ words) = omega arith
