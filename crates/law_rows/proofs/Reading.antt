-- A read changes nothing but clocks.
use Rattle.std.proofs.Common.{ℕ, List, [], ◌∷◌, Option, refl}
use Rattle.std.specs.Option.{option_map}
use Rattle.model.specs.Cluster.{in_order, precedes, time_of, is_future, Interval, At, Read, Rows, Fenced, StaleSchema, Future, TooOld, Parts, If, Names, Fault, answered}
use Rattle.model.specs.Journal.{Change}
use Rattle.model.specs.Entries.{slots_of}
use Rattle.model.specs.RowActs.{read, first_moved, first_fence, stale, first_cutoff, rows_of_places, cut_rows}
use Rattle.law_invariants.specs.Invariant.{Inv, Later}
use Rattle.law_invariants.proofs.Ticking.{refused_keeps, by_checks, KeepsAll, nothing_told}

pub read_keeps : (ps : Parts) (activity : List Interval) (changes : List Change) (n : ℕ) (places : List At) (version : ℕ) (key : Option (List ℕ)) (at : Option ℕ) (columns : List ℕ)
    → Later (slots_of (Read places version key at columns)) ps n → Inv ps activity changes
    → KeepsAll (Read places version key at columns) n ps activity changes (read places version key at columns n ps)
unfolding read
read_keeps ps activity changes n places version key at columns later inv =
    let act = Read places version key at columns in
    let rows = cut_rows columns (in_order (λ r s. precedes r.key s.key) (rows_of_places places key (time_of at n) ps.tablet)) in
    by_checks act n ps activity changes
    (Fault (first_moved key places ps.tablet) ∷ Names (first_fence places ps.tablet) Fenced ∷ Fault (option_map StaleSchema (stale at places version ps.tablet)) ∷ If (is_future at n) (Future n)
    ∷ Fault (option_map (TooOld (time_of at n)) (first_cutoff places at ps.tablet)) ∷ [])
    (answered (Rows rows))
    (λ why. refused_keeps act why n ps activity changes later inv refl)
    (λ passes. nothing_told act (Rows rows) n ps activity changes later inv)
