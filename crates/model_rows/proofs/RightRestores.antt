-- The history of a restore, and of one that undoes it, is right.
use Rattle.std.proofs.Common.{◌≡◌, ◌<◌, ℕ, map, List, [], ◌∷◌, refl, true, true≢false, sym, inl, inr, subst, arith}
use Rattle.std.proofs.lemmas.Bool.{leb-true, ltb-true}
use Rattle.std.proofs.lemmas.Bool.Decides.{nat_tests}
use Rattle.row_values.specs.Ids.{Id}
use Rattle.model.specs.Journal.{Change}
use Rattle.model.specs.Right.{SameThen, fixes, FixedStays}
use Rattle.model.specs.Replies.{Right}
use Rattle.model.specs.History.{journal_of, snapshots_taken}
use Rattle.model.specs.Drawn.{version_by}
use Rattle.model.specs.Records.{SnapshotRecord}
use Rattle.model.specs.Windows.{RestoreAccepted}
use Rattle.model_rows.proofs.RightEntries.{nothing_fixed, plain_stays, look_right, read_right}
use Rattle.model_rows.proofs.RightReads.{made_stays, ready_right}
use Rattle.model_rows.specs.Computed.{the_book}
use Rattle.model_rows.specs.FirstRead.{namespace_made, table_made}
use Rattle.model_rows.specs.Runs.{Run, after, done}
use Rattle.model_rows.specs.Scripts.{N, R, T, a, asking, early, home, kept_v, put, ready, since, t, v_alone, v_is, x}
use Rattle.model_rows.specs.UndoneRestore.{all_changes, been_read, one_restore, place_one, restored, restored_to, restoring, row_of, seen, two_rows, undoing, undone}

-- the journal of it all
its_journal : journal_of 64 been_read.entries ≡ all_changes
unfolding the_book
its_journal = refl

-- What is fixed stays

row_stays : FixedStays (row_of 3 1 ∷ table_made ∷ namespace_made ∷ [])
row_stays = plain_stays (row_of 3 1 ∷ table_made ∷ namespace_made ∷ []) (refl, (refl, (refl, tt)))

rows_stay : FixedStays two_rows
rows_stay = plain_stays two_rows (refl, (refl, (refl, (refl, tt))))

-- what a restore fixed is the same after it, and after all that comes later

at_its_time : (all changes : List Change) (point then_ : ℕ) → ((ns : Id) → SameThen all changes ns (early then_)) → (ns : Id) (to : ℕ)
    → fixes (restored_to point then_).act ns to ≡ true → SameThen all changes ns to
at_its_time all changes point then_ same ns to fixed = let time : early then_ ≡ to = grind (arith, nat_tests) in subst (SameThen all changes ns) time (same ns)

one_stays : FixedStays one_restore
one_stays = record {
  none_late = (rows_stay.none_late, λ ns to fixed of_it. grind (arith, nat_tests));
  same = (
    nothing_fixed one_restore two_rows (refl, (refl, (refl, (refl, tt)))),
    at_its_time one_restore two_rows 11 3 (λ ns. record { name = refl; tables = λ id inside. refl; rows = λ id key inside. refl }),
  );
}

abbrev written_again : List Change
written_again = row_of 25 3 ∷ one_restore

again_stays : FixedStays written_again
again_stays = record {
  none_late = (one_stays.none_late, λ ns to fixed of_it. grind (arith, nat_tests));
  same = (
    (
      nothing_fixed written_again two_rows (refl, (refl, (refl, (refl, tt)))),
      at_its_time written_again two_rows 11 3 (λ ns. record { name = refl; tables = λ id inside. refl; rows = λ id key inside. refl }),
    ),
    λ ns to fixed. absurd (true≢false (sym fixed)),
  );
}

all_stay : FixedStays all_changes
all_stay = record {
  none_late = (again_stays.none_late, λ ns to fixed of_it. grind (arith, nat_tests));
  same = (
    (
      (
        nothing_fixed all_changes two_rows (refl, (refl, (refl, (refl, tt)))),
        at_its_time all_changes two_rows 11 3 (λ ns. record { name = refl; tables = λ id inside. refl; rows = λ id key inside. refl }),
      ),
      λ ns to fixed. absurd (true≢false (sym fixed)),
    ),
    at_its_time all_changes written_again 32 10 (λ ns. record { name = refl; tables = λ id inside. refl; rows = λ id key inside. refl }),
  );
}

-- Each part of the run

abbrev once_written : Run
once_written = after (put a t (home 1) x (v_is 1)) ready

once_written_right : Right 64 once_written.entries
unfolding the_book
once_written_right = (
  look_right 64 ready a (N 1) (T 1) x (v_is 1) (since 2) 1 v_alone ready_right refl refl refl refl refl (inl refl) refl refl refl refl made_stays,
  (inl refl, row_stays),
)

restoring_right : Right 64 restoring.entries
unfolding the_book
restoring_right = (
  (
    look_right 64 once_written a (N 1) (T 1) x (v_is 2) (since 2) 1 v_alone once_written_right refl refl refl refl refl (inl refl) refl refl refl refl row_stays,
    (inl refl, rows_stay),
  ),
  (
    inr (
      refl,
      RestoreAccepted (R 1) (record { by = _; known = refl; unused = refl }) (leb-true (early 3) (early 3) refl, ltb-true (early 3) (early 6) refl),
    ),
    rows_stay,
  ),
)

-- a fence, the own snapshot, what serves the time, the switch, the rows that come back, and the release

restored_right : Right 64 restored.entries
unfolding the_book
restored_right =
    ((((((((((((((((((restoring_right, (inl refl, rows_stay)), (inl (_, _, refl), rows_stay)), (inl refl, rows_stay)), (inl (_, refl), rows_stay)), (inl refl, rows_stay)), (inl (_, _, refl), rows_stay)), (inl refl, rows_stay)), (inl (_, refl), rows_stay)), (inl (_, refl), rows_stay)), (inl (_, refl), one_stays)), (inl refl, one_stays)), (inl (_, _, refl), one_stays)), (inl refl, one_stays)), (inl (_, refl), one_stays)), (inl refl, one_stays)), (inl (_, _, refl), one_stays)), (inl refl, one_stays)), (inl (_, refl), one_stays))

seen_right : Right 64 seen.entries
unfolding the_book
seen_right =
    read_right 64 (done (asking a x []) restored) place_one 2 x (1 ∷ []) (kept_v 1)
    (look_right 64 restored a (N 1) (T 1) x [] (since 11) 2 v_alone restored_right refl refl refl refl refl (inr (inl refl)) refl refl refl refl one_stays)
    refl refl refl refl refl refl one_stays

undoing_right : Right 64 undoing.entries
unfolding the_book
undoing_right = (
  (
    look_right 64 seen a (N 1) (T 1) x (v_is 3) (since 11) 2 v_alone seen_right refl refl refl refl refl (inr (inl refl)) refl refl refl refl one_stays,
    (inl refl, again_stays),
  ),
  (
    inr (
      refl,
      RestoreAccepted (R 2) (record { by = _; known = refl; unused = refl }) (leb-true (early 3) (early 10) refl, ltb-true (early 10) (early 27) refl),
    ),
    again_stays,
  ),
)

undone_right : Right 64 undone.entries
unfolding the_book
undone_right =
    ((((((((((((((((((undoing_right, (inl refl, again_stays)), (inl (_, _, refl), again_stays)), (inl refl, again_stays)), (inl (_, refl), again_stays)), (inl refl, again_stays)), (inl (_, _, refl), again_stays)), (inl refl, again_stays)), (inl (_, refl), again_stays)), (inl (_, refl), again_stays)), (inl (_, refl), all_stay)), (inl refl, all_stay)), (inl (_, _, refl), all_stay)), (inl refl, all_stay)), (inl (_, refl), all_stay)), (inl refl, all_stay)), (inl (_, _, refl), all_stay)), (inl refl, all_stay)), (inl (_, refl), all_stay))

-- the whole history is right: the last read gives what the first restore undid
been_read_right : Right 64 been_read.entries
unfolding the_book
been_read_right =
    read_right 64 (done (asking a x []) undone) place_one 3 x (1 ∷ []) (kept_v 2)
    (look_right 64 undone a (N 1) (T 1) x [] (since 32) 3 v_alone undone_right refl refl refl (refl {a = 3}) refl (inr (inr (inl (refl {a = since 32})))) refl refl refl refl all_stay)
    refl refl refl refl refl refl all_stay

-- a change that comes too late: a row stamped at the time to which the journal has a restore
late_row : FixedStays (row_of 3 9 ∷ one_restore) → ⊥
late_row stays = let after : early 3 < early 3 = stays.none_late.1 (N 1) (early 3) refl refl in omega arith

-- the snapshots that were taken: one on behalf of each restore
its_snapshots : map {A = SnapshotRecord} (λ r. r.at) (snapshots_taken 64 been_read.entries) ≡ early 10 ∷ early 31 ∷ []
unfolding the_book
its_snapshots = refl

-- each restore gave the table a new version of its schema
its_version : version_by all_changes (T 1) ≡ 3
its_version = refl
