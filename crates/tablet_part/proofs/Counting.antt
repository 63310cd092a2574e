-- How many versions the frozen sets have together, with one more set and without some.
use Rattle.std.proofs.Common.{◌≡◌, ◌≤◌, ◌+◌, Bool, List, [], ◌∷◌, ◌++◌, length, arith}
use Rattle.std.specs.List.{filter}
use Rattle.std.proofs.lemmas.Bool.{cond_both}
use Rattle.model.specs.Tablets.{FrozenSet}
use Rattle.model.specs.RowActs.{count_frozen}

pub count_more : (fs : List FrozenSet) (f : FrozenSet) → count_frozen (fs ++ f ∷ []) ≡ count_frozen fs + length f.versions
count_more [] f = grind arith
count_more (e ∷ fs) f = let rest = count_more fs f in grind (arith, rest)

pub count_fewer : (fs : List FrozenSet) (test : FrozenSet → Bool) → count_frozen (filter test fs) ≤ count_frozen fs
count_fewer [] test = omega arith
count_fewer (f ∷ fs) test =
    let rest = count_fewer fs test in
    cond_both (test f) _ _ (λ gs. count_frozen gs ≤ length f.versions + count_frozen fs) (λ e. omega (arith, rest)) (λ e. omega (arith, rest))
