-- The history of a first write and read is legal.
use Rattle.std.proofs.Common.{ap, ◌≡◌, ℕ, ◌<◌, ◌≤◌, ◌^◌, ◌+◌, length, None, List, [], ◌∷◌, refl, arith, true, ltb}
use Rattle.std.proofs.lemmas.Bool.{ltb-true}
use Rattle.model.specs.Times.{end_of_time}
use Rattle.model.specs.Acts.{Reply, Rows, Event, CreateTable, NamedCell, NamedUpsert, AskKeys}
use Rattle.model.specs.Entries.{Entry, ActAsked, CommandAsked, AskAsked, IsName, stamp_of, log_of}
use Rattle.row_values.specs.Elements.{AllOf}
use Rattle.row_values.specs.Batches.{IsValue}
use Rattle.model.specs.History.{Legal, IsStep, replay, entry_of, held, most_entries}
use Rattle.model_rows.proofs.Numbers.{first_number, two_is_not_one}
use Rattle.model_rows.specs.Computed.{the_book}
use Rattle.model_rows.specs.FirstRead.{made, been_read}
use Rattle.model_rows.specs.Runs.{answered}
use Rattle.model_rows.specs.Scripts.{early, kept_v, row, a, t, x, v, new_int, v_is}

-- the entry that an event makes is a step where the event is as it is asked, and time and room are left
step_of : (slots : ℕ) (event : Event) (earlier : List Entry) → ActAsked slots event.act → ltb event.reading (2 ^ 50) ≡ true
    → ltb (stamp_of event (replay slots earlier)) end_of_time ≡ true → ltb (held (log_of event.act) earlier) most_entries ≡ true
    → IsStep slots (entry_of slots event earlier) earlier
unfolding entry_of
step_of slots event earlier asked read in_time room = record {
  asked = record { reading = ltb-true _ _ read; act = asked };
  number = refl;
  stamp = refl;
  before_end = ltb-true _ _ in_time;
  room = ltb-true _ _ room;
  reply = refl;
}

at_most : (n m : ℕ) → ltb n (m + 1) ≡ true → n ≤ m
at_most n m h = let less : n < m + 1 = ltb-true _ _ h in omega arith

between : (n low high : ℕ) → ltb low (n + 1) ≡ true → ltb n (high + 1) ≡ true → (low ≤ n) × (n ≤ high)
between n low high h g = (at_most low n h, at_most n high g)

one_to : (most : ℕ) → ltb 1 (most + 1) ≡ true → (1 ≤ 1) × (1 ≤ most)
one_to most h = between 1 1 most refl h

table_asked : CommandAsked (CreateTable a t 1 (new_int v ∷ []))
table_asked = (one_to 32 refl, one_to 32 refl, one_to 64 refl, one_to 16 refl, (one_to 32 refl, tt), (tt, tt))

made_legal : Legal 64 made.entries
unfolding the_book
made_legal = (
  ((tt, step_of 64 _ _ (one_to 32 refl, tt) refl refl refl), step_of 64 _ _ table_asked refl refl refl),
  step_of 64 _ _ (table_asked, (at_most 1 64 refl, tt)) refl refl refl,
)

key_asked : (cells : List NamedCell) → AllOf (λ s. IsName s.column × IsValue s.value) cells → ltb (length cells) 17 ≡ true
    → AskAsked (AskKeys a t (record { key = x; op = NamedUpsert cells } ∷ []) None)
key_asked cells each few = (one_to 32 refl, one_to 32 refl, (at_most 1 1 refl, at_most 1 64 refl, ((one_to 64 refl, (at_most _ 16 few, each)), tt)), tt)

been_read_legal : Legal 64 been_read.entries
unfolding the_book
been_read_legal = (
  (
    (
      (made_legal, step_of 64 _ _ (key_asked (v_is 1) ((one_to 32 refl, tt), tt) refl) refl refl refl),
      step_of 64 _ _ (one_to 64 refl, (at_most 1 1 refl, (at_most 1 64 refl, ((one_to 64 refl, (at_most 1 16 refl, (tt, tt))), tt)))) refl refl refl,
    ),
    step_of 64 _ _ (key_asked [] tt refl) refl refl refl,
  ),
  step_of 64 _ _ (at_most 1 1 refl, (one_to 64 refl, tt), one_to 64 refl, tt) refl refl refl,
)

-- with another stamp, or another reply, the history isn't legal

abbrev stamped : ℕ → List Entry → List Entry
stamped n [] = []
stamped n (e ∷ earlier) = record e { stamp = n } ∷ earlier

another_stamp : Legal 64 (stamped (early 9) been_read.entries) → ⊥
unfolding the_book
another_stamp legal = let e : early 9 ≡ early 4 = legal.1.stamp in omega arith

another_reply : Legal 64 (answered (Rows (row x (kept_v 2) ∷ [])) been_read.entries) → ⊥
unfolding the_book
another_reply legal = two_is_not_one (ap reply_number legal.1.reply)
  where
    reply_number : Reply → ℕ
    reply_number (Rows rows) = first_number rows
    reply_number _ = 0
