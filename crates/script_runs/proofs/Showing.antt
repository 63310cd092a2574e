-- The line of a look tells what the book's does.
use Rattle.std.proofs.Common.{◌≡◌, ℕ, ◌-◌, ◌≤◌, List, [], ◌∷◌, ◌++◌, length, Option, None, Some, refl, sym, ap, subst, ◌∙◌, arith, length-append}
use Rattle.std.specs.Prelude.{Result, Ok, Err}
use Rattle.row_values.specs.declared.rows.KeyedRow.{KeyedRow}
use Rattle.row_values.specs.Schema.{Column}
use Rattle.model.specs.Acts.{Ask, AskPlan, AskKeys, AskTable, AskWork, AskRemovable, AskPresent, Look, Refusal, Reply}
use Rattle.model.specs.Parts.{Outcome, decided}
use Rattle.model.specs.Looks.{look_plan, look_keys, look_table, look_present, judge_keys, found_at}
use Rattle.model.specs.Entries.{Entry}
use Rattle.model.specs.History.{entry_of, look, replay}
use Rattle.model.specs.Parts.{Master}
use Rattle.model_runs.specs.Courses.{Found, FoundSlots, FoundPlaces, FoundTargets, FoundRows, FoundNothing, found_by, Showing, ShowReply, ShowRow, ShowTable, ShowCount}
use Rattle.model_runs.specs.Running.{columns_in, columns_before, rows_or, events_text, shown_text}
use Rattle.model_runs.specs.Texts.{told_text, row_text, rows_text}
use Rattle.machine_laws.specs.Views.{AnswerView}
use Rattle.script_runs.specs.Runs.{RunState, entry_under}
use Rattle.script_runs.specs.Shown.{shown_by, IsNewest, IsGrown, last_of}
use Rattle.script_runs.proofs.Asking.{FollowsFew}

-- A look answers no rows

abbrev pub HasNoRows : Found → Type 0
HasNoRows (FoundSlots slots) = Unit {0}
HasNoRows (FoundPlaces places version columns) = Unit {0}
HasNoRows (FoundTargets targets) = Unit {0}
HasNoRows (FoundRows rows) = ⊥
HasNoRows FoundNothing = Unit {0}

decided_no_rows : {A : Type 0} (judgement : Result A Refusal) (go : A → Outcome) → ((a : A) → HasNoRows (found_by (go a).reply)) → HasNoRows (found_by (decided judgement go).reply)
decided_no_rows (Err why) go each = tt
decided_no_rows (Ok a) go each = each a

look_no_rows : (ask : Ask) (n : ℕ) (m : Master) → HasNoRows (found_by (look ask n m).reply)
unfolding look_plan look_keys look_table look_present
look_no_rows (AskPlan command) n m = tt
look_no_rows (AskKeys namespace table batch at) n m = decided_no_rows (judge_keys namespace table batch at n m) _ (λ t. tt)
look_no_rows (AskTable namespace table at) n m = decided_no_rows (found_at namespace table at n m) _ (λ t. tt)
look_no_rows AskWork n m = tt
look_no_rows AskRemovable n m = tt
look_no_rows AskPresent n m = tt

pub entry_no_rows : (ask : Ask) (s : RunState) → HasNoRows (found_by (entry_under (Look ask) s).reply)
unfolding entry_of
entry_no_rows ask s = look_no_rows ask (entry_under (Look ask) s).stamp (replay s.slots s.history).master

-- so it is told as it is
no_rows_told : (text : List KeyedRow → List ℕ) (found : Found) (other : List ℕ) → HasNoRows found → rows_or text found other ≡ other
no_rows_told text (FoundSlots slots) other h = refl
no_rows_told text (FoundPlaces places version columns) other h = refl
no_rows_told text (FoundTargets targets) other h = refl
no_rows_told text (FoundRows rows) other h = absurd h
no_rows_told text FoundNothing other h = refl

-- What a line shows

abbrev answer_in : Entry → AnswerView
answer_in e = record { stamp = e.stamp; reply = e.reply }

answer_is : (a : AnswerView) (e : Entry) → a.stamp ≡ e.stamp → a.reply ≡ e.reply → a ≡ answer_in e
answer_is a e stamp reply =
    let f : ℕ → Reply → AnswerView = λ n r. record { stamp = n; reply = r } in
    ap (λ n. f n a.reply) stamp ∙ ap (f e.stamp) reply

-- of a look that nothing follows
alone_shows : (showing : Showing) (columns : List Column) (before : List Entry) (seen : Entry) → HasNoRows (found_by seen.reply)
    → shown_by showing columns (answer_in seen) 0 ≡ shown_text showing before (seen ∷ before)
alone_shows ShowReply columns before seen h = refl
alone_shows ShowRow columns before seen h =
    let other = told_text seen.stamp seen.reply in
    no_rows_told (row_text columns) (found_by seen.reply) other h ∙ sym (no_rows_told (row_text (columns_before before)) (found_by seen.reply) other h)
alone_shows ShowTable columns before seen h =
    let other = told_text seen.stamp seen.reply in
    no_rows_told (rows_text columns) (found_by seen.reply) other h ∙ sym (no_rows_told (rows_text (columns_before before)) (found_by seen.reply) other h)
alone_shows ShowCount columns before seen h = let e : 0 ≡ length (seen ∷ before) - length before - 1 = omega arith in ap events_text e

-- of one with acts behind it
newest_shows : (showing : Showing) (e : Entry) (made before : List Entry) (seen : Entry) → FollowsFew showing (length (e ∷ made))
    → shown_by showing (columns_in (found_by seen.reply)) (answer_in e) (length (e ∷ made)) ≡ shown_text showing before (e ∷ (made ++ (seen ∷ before)))
newest_shows ShowReply e made before seen few = refl
newest_shows ShowRow e [] before seen few = refl
newest_shows ShowRow e (k ∷ made) before seen few = let q : length (e ∷ k ∷ made) ≤ 1 = few in absurd (omega arith)
newest_shows ShowTable e [] before seen few = refl
newest_shows ShowTable e (k ∷ made) before seen few = let q : length (e ∷ k ∷ made) ≤ 1 = few in absurd (omega arith)
newest_shows ShowCount e made before seen few =
    let long = length-append made (seen ∷ before) in
    let q : length (e ∷ made) ≡ length (e ∷ (made ++ (seen ∷ before))) - length before - 1 = omega (arith, long) in ap events_text q

made_shows : (showing : Showing) (newest : Option AnswerView) (made before : List Entry) (seen : Entry) → IsNewest newest made → HasNoRows (found_by seen.reply) → FollowsFew showing (length made)
    → shown_by showing (columns_in (found_by seen.reply)) (last_of newest (answer_in seen)) (length made) ≡ shown_text showing before (made ++ (seen ∷ before))
made_shows showing None made before seen is h few =
    subst (λ k. shown_by showing (columns_in (found_by seen.reply)) (answer_in seen) (length k) ≡ shown_text showing before (k ++ (seen ∷ before))) (sym is)
    (alone_shows showing (columns_in (found_by seen.reply)) before seen h)
made_shows showing (Some a) [] before seen is h few = absurd is
made_shows showing (Some a) (e ∷ made) before seen is h few =
    ap (λ b. shown_by showing (columns_in (found_by seen.reply)) b (length (e ∷ made))) (answer_is a e is.0 is.1)
    ∙ newest_shows showing e made before seen few

pub look_shows : (showing : Showing) (newest : Option AnswerView) (count : ℕ) (before now : List Entry) (seen : Entry) (a : AnswerView) → IsGrown newest count (seen ∷ before) now
    → a.stamp ≡ seen.stamp → a.reply ≡ seen.reply → HasNoRows (found_by seen.reply) → FollowsFew showing count
    → shown_by showing (columns_in (found_by a.reply)) (last_of newest a) count ≡ shown_text showing before now
look_shows showing newest count before now seen a grown stamp reply h few =
    ap (λ b. shown_by showing (columns_in (found_by b.reply)) (last_of newest b) count) (answer_is a seen stamp reply)
    ∙ ap (shown_by showing (columns_in (found_by seen.reply)) (last_of newest (answer_in seen))) (sym grown.count_is)
    ∙ made_shows showing newest grown.made before seen grown.newest_is h (subst (FollowsFew showing) (sym grown.count_is) few)
    ∙ ap (shown_text showing before) (sym grown.is)
