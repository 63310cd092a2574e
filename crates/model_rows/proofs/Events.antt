-- What single events answer where no text of a script shows it: what a tablet has, what moved, what is stale, and what is removed.
use Rattle.std.proofs.Common.{Some, ◌≡◌, ℕ, [], ◌∷◌, ◌++◌, refl}
use Rattle.model.specs.Acts.{AddColumn, CloneNamespace, Counts, DropTable, InWindow, ListSnapshots, Moved, NotDone, NotPending, Pruned, Removable, Removed, Snapshots, Split, StalePlan, StaleSchema, TooEarly, TooOld}
use Rattle.row_values.specs.Schema.{IntColumn}
use Rattle.model.specs.Tablets.{Hidden, Serving}
use Rattle.model_rows.specs.Computed.{the_book}
use Rattle.model_rows.specs.Runs.{after, shown}
use Rattle.model_rows.specs.Scripts.{B, K, P, R, a, ack, b, change, coordinate, did, early, gave, home, ht, kept_v, last_shown, look_for, look_removable, ok, placed, planned, planned_change, prune, put, ready, refused, remove, restart, restore, settle, stats, t, take_snapshot, tick, v_is, w, write, x}

-- the target's cutoff is the stamp at which it became current
cloned_tablet : shown (put a t (home 1) x (v_is 1) ++ change (CloneNamespace a b (Some (early 4))) ++ settle ++ stats 2) ready
    ≡ placed (early 4) (home 1) ++ ok (early 3) []
    ++ ok (early 5) (K 1 ∷ []) ++ did 14
    ++ gave (early 19) (Counts (early 15) 1 0 0)
unfolding the_book
cloned_tablet = refl

-- a restored tablet has one version of each row, and its cutoff is the restore's point; the snapshot keeps the others
restored_tablet : shown (put a t (home 1) x (v_is 1) ++ put a t (home 1) x (v_is 2) ++ restore (early 3) ++ settle ++ stats 1) ready
    ≡ placed (early 4) (home 1) ++ ok (early 3) []
    ++ placed (early 5) (home 1) ++ ok (early 4) []
    ++ ok (early 6) (R 1 ∷ []) ++ did 18
    ++ gave (early 24) (Counts (early 11) 1 2 0)
unfolding the_book
restored_tablet = refl

-- a write that still goes to the parent of a split
moved_parent : shown (planned_change (Split a t 1000) (1 ∷ 2 ∷ 3 ∷ []) ++ write 1 (B 1) 1 x (kept_v 3)) ready
    ≡ planned (early 4) (1 ∷ 2 ∷ 3 ∷ []) ++ ok (early 5) (B 2 ∷ B 3 ∷ [])
    ++ refused (early 6) (Moved 1 (Hidden (B 1) (early 5)))
unfolding the_book
moved_parent = refl

-- events that were made from what isn't so any more
stale_events : shown
    (write 1 (B 1) 7 x (kept_v 1)
    ++ write 1 (B 9) 1 x (kept_v 1)
    ++ change (AddColumn a t w IntColumn)
    ++ ack (P 1) 1)
    ready
    ≡ refused (early 3) (StaleSchema 1)
    ++ refused (early 4) (Moved 1 (Serving (B 1) 0 65536))
    ++ refused (early 4) (StalePlan (1 ∷ []))
    ++ refused (early 5) (NotPending (P 1))
unfolding the_book
stale_events = refl

-- a restart of a tablet loses a command that was sent: the first event after it is an ack that is refused
lost_command : last_shown (after (put a t (home 1) x (v_is 1) ++ put a t (home 1) x (v_is 2) ++ restore (early 3) ++ coordinate 11 ++ restart 1 ++ coordinate 1) ready) ≡ refused (early 19) NotDone
unfolding the_book
lost_command = refl

abbrev late : ℕ → ℕ
late logical = ht 700000000 logical

-- a dropped table's tablet stays while the window reaches it
kept_in_the_window : shown (put a t (home 1) x (v_is 7) ++ planned_change (DropTable a t) (1 ∷ []) ++ remove (B 1) (1 ∷ [])) ready
    ≡ placed (early 4) (home 1) ++ ok (early 3) []
    ++ planned (early 5) (1 ∷ []) ++ ok (early 6) []
    ++ refused (early 7) (InWindow (early 6) (early 3))
unfolding the_book
kept_in_the_window = refl

old_snapshot_goes : shown
    (take_snapshot ++ settle ++ tick 700000000 ++ look_removable ++ remove (P 1) (1 ∷ []) ++ prune ++ change ListSnapshots)
    ready
    ≡ ok (early 4) (P 1 ∷ []) ++ did 4
    ++ gave (late 0) (Removable (record { target = P 1; slots = 1 ∷ [] } ∷ [])) ++ gave (late 1) Removed ++ gave (late 2) (Pruned 0)
    ++ gave (late 3) (Snapshots [])
unfolding the_book
old_snapshot_goes = refl

-- long after a table was dropped: its tablet, its snapshot and its record
everything_goes : shown
    (put a t (home 1) x (v_is 7)
    ++ take_snapshot ++ settle
    ++ planned_change (DropTable a t) (1 ∷ [])
    ++ tick 2000000000
    ++ look_removable ++ remove (B 1) (1 ∷ []) ++ remove (P 1) [] ++ prune
    ++ look_for a t x [] (Some (early 4))
    ++ restore (early 4))
    ready
    ≡ placed (early 4) (home 1) ++ ok (early 3) []
    ++ ok (early 5) (P 1 ∷ []) ++ did 4
    ++ planned (early 10) (1 ∷ []) ++ ok (early 11) []
    ++ gave (ht 2000000000 0) (Removable (record { target = B 1; slots = 1 ∷ [] } ∷ record { target = P 1; slots = [] } ∷ []))
    ++ gave (ht 2000000000 1) Removed ++ gave (ht 2000000000 2) Removed ++ gave (ht 2000000000 3) (Pruned 1)
    ++ refused (ht 2000000000 4) (TooOld (early 4) (ht 1100000000 3))
    ++ refused (ht 2000000000 5) (TooEarly (ht 1400000000 5))
unfolding the_book
everything_goes = refl
