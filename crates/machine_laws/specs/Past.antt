-- The parts of a cluster with a legal history.
use Rattle.std.specs.Prelude.{ℕ, ◌≡◌, ◌≤◌, ◌<◌, ◌+◌, List, [], ◌∷◌, length, slice_get}
use Rattle.step_table.specs.declared.known.Entry as line
use Rattle.step_table.specs.Lists.{total}
use Rattle.model.specs.Acts.{Event}
use Rattle.model.specs.Entries.{Entry}
use Rattle.model.specs.Drawn.{most_slots}
use Rattle.model.specs.History.{Legal, replay, held}
use Rattle.machine_laws.specs.Views.{AnswerView, PartView}
use Rattle.machine_laws.specs.Laid.{kept_in, entries_in, parts_of, HasKind}

-- the history is legal, its entries are in the logs, and the parts are its replay
pub record IsPast {R : Type 0} (slots : ℕ) (history : List Entry) (parts : List (PartView R)) : Type 0 where
  pub legal : Legal slots history
  pub size : length parts ≡ slots + 1
  pub count : length history ≡ total (λ (p : PartView R). length p.log) parts
  pub shows : parts_of parts ≡ replay slots history
  pub holds : (k : ℕ) → k < length parts → entries_in (slice_get parts k) ≡ held k history
  pub kinds : (k : ℕ) → k < length parts → HasKind k (kept_in (slice_get parts k))

-- the parts have a past, and are those of a cluster of at most `most_slots` slots
pub record IsLegal {R : Type 0} (parts : List (PartView R)) : Type 0 where
  pub slots : ℕ
  pub few : slots ≤ most_slots
  pub history : List Entry
  pub past : IsPast slots history parts

-- an entry of a log as the book's
abbrev pub book_entry : line.Entry Event AnswerView → Entry
book_entry e = record { number = e.number; event = e.event; stamp = e.reply.stamp; reply = e.reply.reply }

-- entries in order of number as the book's history, the newest first, in front of earlier ones
abbrev pub book_onto : List (line.Entry Event AnswerView) → List Entry → List Entry
book_onto [] history = history
book_onto (e ∷ es) history = book_onto es (book_entry e ∷ history)

abbrev pub book : List (line.Entry Event AnswerView) → List Entry
book entries = book_onto entries []
