-- What reading gives: equal answers have equal parts.
use Rattle.std.proofs.Common.{◌≡◌, Bool, true, false, cond, Option, Some, None, Result, Ok, Err, refl}
use Rattle.script_words.specs.declared.cause.Cause.{Cause}

abbrev pub okay : {A : Type 0} → A → Result A Cause
okay x = Ok x

abbrev pub failed : {A : Type 0} → Cause → Result A Cause
failed cause = Err cause

pub same_ok : {A : Type 0} (x y : A) → okay x ≡ okay y → x ≡ y
same_ok x y e = cc

pub same_cause : {A : Type 0} (c d : Cause) → failed {A = A} c ≡ failed d → c ≡ d
same_cause c d e = cc

-- a test that let something through
pub some_if : {A : Type 0} (b : Bool) (o : Option A) (y : A) → cond b o None ≡ Some y → (b ≡ true) × (o ≡ Some y)
some_if true o y e = (refl, e)
some_if false o y e = absurd cc
