-- What is made of the records that pass a test, and what becomes of them.
use Rattle.std.specs.Prelude.{Bool, List, [], ◌∷◌, if◌then◌else◌}

-- what is made of the records that pass a test, from the last to the first
abbrev pub gathered : {R B : Type 0} → (R → Bool) → (R → B → B) → B → List R → B
gathered test step start [] = start
gathered test step start (r ∷ rs) =
    if test r then step r (gathered test step start rs) else gathered test step start rs

-- the records that pass a test are changed
abbrev pub changed_where : {R : Type 0} → (R → Bool) → (R → R) → List R → List R
changed_where test change [] = []
changed_where test change (r ∷ rs) = (if test r then change r else r) ∷ changed_where test change rs
