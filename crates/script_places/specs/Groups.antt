-- The words of items, between slashes.
use Rattle.std.specs.Prelude.{Bool, ◌&&◌, if◌then◌else◌, nat_le, List, [], ◌∷◌, length, codes, bytes_eq}
use Rattle.std.specs.List.{list_all}
use Rattle.script_places.specs.Words.{Word}

abbrev pub slash : Word
slash = codes "/"

unfoldable pub is_slash : Word → Bool
is_slash w = bytes_eq w slash

-- the groups, with this word before those of the first
abbrev pub before_all : Word → List (List Word) → List (List Word)
before_all w [] = (w ∷ []) ∷ []
before_all w (group ∷ groups) = (w ∷ group) ∷ groups

-- what stands between slashes
abbrev pub groups : List Word → List (List Word)
groups [] = [] ∷ []
groups (w ∷ ws) = if is_slash w then [] ∷ groups ws else before_all w (groups ws)

-- a key, and `delete` or 1 to 16 cells
abbrev pub item_fits : List Word → Bool
item_fits group = nat_le 2 (length group) && nat_le (length group) 17

-- at most 64 items
abbrev pub items_fit : List (List Word) → Bool
items_fit items = list_all item_fits items && nat_le (length items) 64
