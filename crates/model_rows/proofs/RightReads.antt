-- The history of a first write and read is right. It isn't where the read answers another value.
use Rattle.std.proofs.Common.{◌≡◌, ℕ, List, [], ◌∷◌, Some, None, refl, ap, sym, ◌∙◌, inl, inr}
use Rattle.row_values.specs.Elements.{In}
use Rattle.row_values.specs.declared.rows.KeyedRow.{KeyedRow}
use Rattle.model.specs.Acts.{Place, Placed, Rows, Refusal, Refused, UnknownTable}
use Rattle.model.specs.Activity.{Interval}
use Rattle.model.specs.Answers.{NoTable, KeysRefused, Faulty, KeysPlaced, GivesRows}
use Rattle.model.specs.Entries.{Entry}
use Rattle.model.specs.Replies.{Right}
use Rattle.model.specs.Right.{FixedStays}
use Rattle.model.specs.History.{journal_of}
use Rattle.model.specs.Looks.{place_of}
use Rattle.model_rows.proofs.RightEntries.{look_right, plain_stays, only_one, read_right, table_found}
use Rattle.model_rows.proofs.Numbers.{first_number, none_is_not_one, two_is_not_one}
use Rattle.model_rows.specs.Computed.{the_book}
use Rattle.model_rows.specs.FirstRead.{made, written, been_read, namespace_made, table_made, changes}
use Rattle.model_rows.specs.UndoneRestore.{place_one}
use Rattle.model_rows.specs.Runs.{after, answered, done}
use Rattle.model_rows.specs.Scripts.{v_alone, asking, since, B, N, T, S, a, early, kept_v, look_for, place, ready, row, t, v_is, x}

its_journal : journal_of 64 been_read.entries ≡ changes
unfolding the_book
its_journal = refl

pub named_stays : FixedStays (namespace_made ∷ [])
named_stays = plain_stays (namespace_made ∷ []) (refl, tt)

pub made_stays : FixedStays (table_made ∷ namespace_made ∷ [])
made_stays = plain_stays (table_made ∷ namespace_made ∷ []) (refl, (refl, tt))

written_stays : FixedStays changes
written_stays = plain_stays changes (refl, (refl, (refl, tt)))

made_right : Right 64 made.entries
unfolding the_book
made_right = (
  ((tt, (inr (refl, inl (N 1, refl)), named_stays)), (refl, named_stays)),
  (inr (refl, inl (T 1, refl)), made_stays),
)

written_right : Right 64 written.entries
unfolding the_book
written_right = (
  look_right 64 made a (N 1) (T 1) x (v_is 1) (since 2) 1 v_alone made_right refl refl refl refl refl (inl refl) refl refl refl refl made_stays,
  (inl refl, written_stays),
)

been_read_right : Right 64 been_read.entries
unfolding the_book
been_read_right =
    read_right 64 (done (asking a x []) written) place_one 1 x (1 ∷ []) (kept_v 1)
    (look_right 64 written a (N 1) (T 1) x [] (since 2) 1 v_alone written_right refl refl refl refl refl (inl refl) refl refl refl refl written_stays)
    refl refl refl refl refl refl written_stays

pub ready_right : Right 64 ready.entries
unfolding the_book
ready_right = (
  (
    ((tt, (inr (refl, inl (N 1, refl)), named_stays)), (refl, named_stays)),
    (inr (refl, inl (T 1, refl)), made_stays),
  ),
  (inr (refl, inl (S 1, refl)), made_stays),
)

abbrev first_slot : List Place → ℕ
first_slot [] = 0
first_slot (p ∷ places) = p.slot

-- the same history with another value, or with no row

abbrev answering : List KeyedRow → List Entry
answering found = answered (Rows found) been_read.entries

another_value_is_wrong : Right 64 (answering (row x (kept_v 2) ∷ [])) → ⊥
unfolding the_book
another_value_is_wrong right = elim (right.1.0) [ GivesRows rows may reached right ↦ two_is_not_one (ap first_number (right.each x)) ]

no_row_is_wrong : Right 64 (answering []) → ⊥
unfolding the_book
no_row_is_wrong right = elim (right.1.0) [ GivesRows rows may reached right ↦ none_is_not_one (ap first_number (right.each x)) ]

-- a look that answers that there is no table
no_table_is_wrong : Right 64 (answered (Refused UnknownTable) (after (look_for a t x [] None) written).entries) → ⊥
unfolding the_book
no_table_is_wrong right = elim (right.1.0) [
  | KeysRefused why refused ↦ elim refused [ NoTable ns reach missing ↦ missing (table_found changes (early 4) a (N 1) (T 1) v_alone refl refl) ]
  | Faulty why table fault ↦ no_fault _ fault
]
  where
    no_fault : (why : Refusal) → None ≡ Some why → ⊥
    no_fault why e = cc

-- a look that answers another slot
another_slot_is_wrong : Right 64 (answered (Placed (place 2 (B 1) 0 65536 ∷ []) 1 v_alone) (after (look_for a t x [] None) written).entries) → ⊥
unfolding the_book
another_slot_is_wrong right = elim (right.1.0) [
  | KeysPlaced places version columns table sound shown home inside placed ↦ slot_of home.interval home.listed placed
]
  where
    slot_of : (i : Interval) → In i (since 2 ∷ []) → place 2 (B 1) 0 65536 ∷ [] ≡ place_of i ∷ [] → ⊥
    slot_of i listed placed = two_is_not_one (ap first_slot placed ∙ sym (ap (λ i. i.slot) (only_one i (since 2) listed)))
