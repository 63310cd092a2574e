-- Texts that grow at their end.
use Rattle.std.specs.Prelude.{ℕ, ◌≡◌, List, take, length}

-- what stood in the text stands in it still, at its beginning
abbrev pub Begins : List ℕ → List ℕ → Type 0
Begins old new = take (length old) new ≡ old
