-- Refusals of a read without their cause are not right: the tablet of the read serves, has no fence and the version that is asked, and no
-- time is asked.
use Rattle.std.proofs.Common.{[], ◌∷◌, List, refl, inl, inr, true≢false, sym}
use Rattle.model.specs.Acts.{Reply, Refused, Moved, Fenced, StaleSchema, Future, TooOld}
use Rattle.model.specs.Answers.{ReadMoved, ReadFenced, ReadStale, ReadNotYet, ReadTooOld}
use Rattle.model.specs.Entries.{Entry}
use Rattle.model.specs.Replies.{Right}
use Rattle.model.specs.Tablets.{Serving}
use Rattle.model_rows.specs.Computed.{the_book}
use Rattle.model_rows.specs.FirstRead.{written}
use Rattle.model_rows.specs.Runs.{answered, done}
use Rattle.model_rows.specs.Scripts.{B, R, early, reading, x}
use Rattle.model_rows.specs.UndoneRestore.{place_one}

-- the read of the one key, with an answer
abbrev answering : Reply → List Entry
answering reply = answered reply (done (reading place_one 1 x (1 ∷ [])) written).entries

not_moved : Right 64 (answering (Refused (Moved 1 (Serving (B 1) 0 65536)))) → ⊥
unfolding the_book
not_moved right = elim (right.1.0) [
  | ReadMoved slot stands place (inl first) slot_is stands_is ↦ first.1 (refl, refl)
  | ReadMoved slot stands place (inr later) slot_is stands_is ↦ later.1
]

not_fenced : Right 64 (answering (Refused (Fenced (R 1)))) → ⊥
unfolding the_book
not_fenced right = elim (right.1.0) [
  | ReadFenced operation place served (inl first) fenced ↦ first.1 refl
  | ReadFenced operation place served (inr later) fenced ↦ later.1
]

not_stale : Right 64 (answering (Refused (StaleSchema 1))) → ⊥
unfolding the_book
not_stale right = elim (right.1.0) [
  | ReadStale kept place may at_now (inl first) kept_is ↦ first.1 refl
  | ReadStale kept place may at_now (inr later) kept_is ↦ later.1
]

not_to_come : Right 64 (answering (Refused (Future (early 4)))) → ⊥
unfolding the_book
not_to_come right = elim (right.1.0) [ ReadNotYet end may later end_is ↦ true≢false (sym later) ]

not_too_old : Right 64 (answering (Refused (TooOld (early 4) (early 2)))) → ⊥
unfolding the_book
not_too_old right = elim (right.1.0) [
  | ReadTooOld asked cutoff place may (inl first) asked_is cutoff_is ↦ true≢false (sym first.1)
  | ReadTooOld asked cutoff place may (inr later) asked_is cutoff_is ↦ later.1
]
