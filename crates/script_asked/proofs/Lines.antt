-- Each line of a script.
use Rattle.std.proofs.Common.{ℕ, ◌+◌, inl, inr, List, [], ◌∷◌, sym, subst}
use Rattle.row_values.specs.Elements.{AllOf}
use Rattle.model_runs.specs.Courses.{ScriptAsked}
use Rattle.script_words.specs.Lines.{lines_of}
use Rattle.script_lang.specs.declared.script.ScriptLine.{ScriptLine}
use Rattle.script_lang.specs.Table.{table}
use Rattle.script_lang.specs.Grammar.{AreLines, IsScript}
use Rattle.script_asked.specs.Numbered.{numbered_of}
use Rattle.script_asked.proofs.Forms.{spelled_in, all_ask}

abbrev pub MayBeAsked : ℕ → List ScriptLine → Type 0
MayBeAsked slots found = AllOf (λ c. ScriptAsked slots c.command) (numbered_of found)

lines_asked : (slots : ℕ) (lines : List (List ℕ)) (n : ℕ) (found : List ScriptLine)
    → AreLines slots lines n found → MayBeAsked slots found
lines_asked slots [] n found are = subst (λ (f : List ScriptLine). MayBeAsked slots f) (sym are) (tt {0})
lines_asked slots (line ∷ lines) n found (inl are) = lines_asked slots lines (n + 1) found are.1
lines_asked slots (line ∷ lines) n found (inr are) =
    let spelled = are.2.2 in
    subst (λ (f : List ScriptLine). MayBeAsked slots f) (sym are.3) (
      spelled_in slots table are.0 spelled.0 spelled.1 (all_ask slots) spelled.3,
      lines_asked slots lines (n + 1) are.1 are.4,
    )

pub script_asked : (slots : ℕ) (text : List ℕ) (found : List ScriptLine) → IsScript slots text found
    → MayBeAsked slots found
script_asked slots text found is = lines_asked slots (lines_of text) 1 found is
