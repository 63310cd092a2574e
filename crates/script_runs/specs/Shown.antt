-- What the line of a look shows, by the answers that came.
use Rattle.std.specs.Prelude.{◌≡◌, ℕ, List, [], ◌∷◌, ◌++◌, length, Option, Some, None}
use Rattle.row_values.specs.Schema.{Column}
use Rattle.model.specs.Entries.{Entry}
use Rattle.model_runs.specs.Courses.{Showing, ShowReply, ShowRow, ShowTable, ShowCount}
use Rattle.model_runs.specs.Running.{read_text, events_text}
use Rattle.model_runs.specs.Texts.{told_text, row_text, rows_text}
use Rattle.machine_laws.specs.Views.{AnswerView}

-- by the columns that the look placed, the newest answer, and how many acts followed
abbrev pub shown_by : Showing → List Column → AnswerView → ℕ → List ℕ
shown_by ShowReply columns a count = told_text a.stamp a.reply
shown_by ShowRow columns a count = read_text (row_text columns) a.stamp a.reply
shown_by ShowTable columns a count = read_text (rows_text columns) a.stamp a.reply
shown_by ShowCount columns a count = events_text count

-- the first of these entries has this answer
abbrev pub HasAnswer : AnswerView → List Entry → Type 0
HasAnswer a [] = ⊥
HasAnswer a (e ∷ earlier) = (a.stamp ≡ e.stamp) × (a.reply ≡ e.reply)

abbrev pub IsNewest : Option AnswerView → List Entry → Type 0
IsNewest None made = made ≡ []
IsNewest (Some a) made = HasAnswer a made

-- so many entries were made, the newest with this answer
pub record IsGrown (newest : Option AnswerView) (count : ℕ) (earlier now : List Entry) : Type 0 where
  pub made : List Entry
  pub is : now ≡ made ++ earlier
  pub count_is : length made ≡ count
  pub newest_is : IsNewest newest made

-- the newest answer, or that of the look where no act followed
abbrev pub last_of : Option AnswerView → AnswerView → AnswerView
last_of None look = look
last_of (Some a) look = a
