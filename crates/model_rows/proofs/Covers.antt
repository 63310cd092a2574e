-- Over a split, and over restores to before it and to its stamp, one tablet holds each code at each time.
use Rattle.std.proofs.Common.{◌≡◌, ◌++◌, ℕ, List, [], ◌∷◌, map, refl}
use Rattle.model.specs.Acts.{Split}
use Rattle.model.specs.Stands.{holders}
use Rattle.model_rows.specs.Computed.{the_book}
use Rattle.model_rows.specs.Runs.{Run, after}
use Rattle.model_rows.specs.Scripts.{T, a, early, planned_change, ready, restore, settle, t}

-- how many tablets of the table hold a code at some times
abbrev counts : Run → ℕ → List ℕ → List ℕ
counts run code times = map (λ logical. holders run.parts.master.activity (T 1) code (early logical)) times

abbrev divided : Run
divided = after (planned_change (Split a t 1000) (1 ∷ 2 ∷ 3 ∷ [])) ready

-- none before the table is made
divided_counts : counts divided 120 (1 ∷ 2 ∷ 4 ∷ 5 ∷ 9 ∷ []) ≡ 0 ∷ 1 ∷ 1 ∷ 1 ∷ 1 ∷ []
unfolding the_book
divided_counts = refl

divided_edge_counts : counts divided 999 (4 ∷ 5 ∷ []) ++ counts divided 1000 (4 ∷ 5 ∷ []) ++ counts divided 65535 (4 ∷ 5 ∷ []) ≡ 1 ∷ 1 ∷ 1 ∷ 1 ∷ 1 ∷ 1 ∷ []
unfolding the_book
divided_edge_counts = refl

-- the point of the restore is 14
abbrev brought_back : Run
brought_back = after (restore (early 4) ++ settle) divided

brought_back_counts : counts brought_back 120 (4 ∷ 5 ∷ 12 ∷ 13 ∷ 14 ∷ 50 ∷ []) ≡ 1 ∷ 1 ∷ 1 ∷ 1 ∷ 1 ∷ 1 ∷ []
unfolding the_book
brought_back_counts = refl

abbrev stayed_divided : Run
stayed_divided = after (restore (early 5) ++ settle) divided

stayed_divided_counts : counts stayed_divided 3904 (4 ∷ 5 ∷ 12 ∷ 13 ∷ 14 ∷ 50 ∷ []) ≡ 1 ∷ 1 ∷ 1 ∷ 1 ∷ 1 ∷ 1 ∷ []
unfolding the_book
stayed_divided_counts = refl
