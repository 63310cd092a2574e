-- What a reader may answer whose answer is what reading gives.
use Rattle.std.proofs.Common.{◌≡◌, ℕ, ◌^◌, ◌<◌, List, Result, Ok, Err, refl, sym, ◌∙◌}
use Rattle.std.specs.Prelude.{MatchResult, IfOk, IfErr, IsErr, IsOkUnless}
use Rattle.script_words.specs.declared.cause.Cause.{Cause}
use Rattle.script_lang.specs.declared.script.Script.{Script}
use Rattle.script_lang.specs.declared.script.ScriptLine.{ScriptLine}
use Rattle.script_lang.specs.declared.script.ScriptRefused.{ScriptRefused}
use Rattle.script_lang.specs.declared.script.ScriptRefused.TheVariants.{Line, NoMemory}
use Rattle.script_lang.specs.Script.{script_of, RefusedFor}
use Rattle.script_lang.specs.Grammar.{IsScript, IsRefusedAt, IsRefusedFor}
use Rattle.script_lang.proofs.Scripts.{script_is, script_again, refusal_is, refusal_again}

abbrev Read : Type 0
Read = Result (List ScriptLine) (ℕ × Cause)

abbrev okay : List ScriptLine → Read
okay lines = Ok lines

-- the answer, but for want of memory
abbrev pub Exact : ℕ → List ℕ → Result Script ScriptRefused → Type 0
Exact slots text result = MatchResult result (λ script. script_of slots text ≡ Ok script.lines) (RefusedFor (script_of slots text))

pub is_script : (slots : ℕ) (text : List ℕ) (result : Result Script ScriptRefused) → slots < 2 ^ 64 → Exact slots text result → IfOk result (λ script. IsScript slots text script.lines)
is_script slots text (Ok script) few e = script_is slots text script.lines few e
is_script slots text (Err refused) few e = tt

pub is_refused : (slots : ℕ) (text : List ℕ) (result : Result Script ScriptRefused) → slots < 2 ^ 64 → Exact slots text result → IfErr result (IsRefusedFor slots text)
is_refused slots text (Ok script) few e = tt
is_refused slots text (Err (Line line cause)) few e = refusal_is slots line text cause few e
is_refused slots text (Err NoMemory) few e = tt

pub is_accepted : (slots : ℕ) (text : List ℕ) (result : Result Script ScriptRefused) → slots < 2 ^ 64 → Exact slots text result
    → (found : List ScriptLine) → IsScript slots text found → IsOkUnless result NoMemory
is_accepted slots text (Ok script) few e found is = tt
is_accepted slots text (Err (Line line cause)) few e found is = absurd (let no : okay found ≡ Err (line, cause) = sym (script_again slots text found few is) ∙ e in cc)
is_accepted slots text (Err NoMemory) few e found is = refl

pub is_told : (slots : ℕ) (text : List ℕ) (result : Result Script ScriptRefused) → slots < 2 ^ 64 → Exact slots text result
    → (line : ℕ) (cause : Cause) → IsRefusedAt slots text line cause → IsErr result
is_told slots text (Ok script) few e line cause is = absurd (let no : okay script.lines ≡ Err (line, cause) = sym e ∙ refusal_again slots line text cause few is in cc)
is_told slots text (Err refused) few e line cause is = refl
