-- How far a clone is.
use Rattle.model.specs.Records.{CloneState, Accepted, CloneSnapshot, Copying, CloneReleasing, CloneComplete}

-- its targets copy their rows
abbrev pub IsCopying : CloneState → Type 0
IsCopying (Copying serving copied_at) = Unit {0}
IsCopying Accepted = ⊥
IsCopying (CloneSnapshot own) = ⊥
IsCopying (CloneReleasing serving copied_at) = ⊥
IsCopying (CloneComplete serving copied_at) = ⊥
