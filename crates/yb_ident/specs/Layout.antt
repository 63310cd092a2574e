-- How an identifier lies in the sixteen bytes of a UUID, and which texts are an identifier's.
use Rattle.std.specs.Prelude.{ℕ, ◌≡◌, List, ◌∷◌, drop, Some}
use Rattle.std.specs.Int.{to_be_bytes, w64}
use Rattle.uuid.specs.Text.{parsed}
use Rattle.row_values.specs.Ids.{Id, IsId, kind_digit}

-- four bytes of the kind, six that are fixed, and six of the number, the highest first
abbrev pub layout : Id → List ℕ
layout id = 0 ∷ 0 ∷ 0 ∷ kind_digit id.kind ∷ 0 ∷ 0 ∷ 64 ∷ 0 ∷ 128 ∷ 0 ∷ drop 2 (to_be_bytes w64 id.number)

-- the text is one of the four forms of a UUID, and its bytes are laid out as those of the identifier
abbrev pub Reads : List ℕ → Id → Type 0
Reads text id = IsId id × (parsed text ≡ Some (layout id))
