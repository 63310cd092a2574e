-- When an accepted event was, if that is told.
use Rattle.std.specs.Prelude.{ℕ, List, [], Option, Some, None}
use Rattle.model_runs.specs.Texts.{time_word}

abbrev pub when_text : Option ℕ → List ℕ
when_text None = []
when_text (Some time) = time_word time
