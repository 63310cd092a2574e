-- Looks change nothing but clocks.
use Rattle.std.proofs.Common.{ℕ, List, Option}
use Rattle.std.specs.Option.{option_to_list}
use Rattle.std.specs.Prelude.{Result, Ok, Err}
use Rattle.model.specs.Cluster.{TableRecord, Parts, decided, answered, Interval}
use Rattle.model.specs.Journal.{Change}
use Rattle.model.specs.Acts.{Command, NamedItem, Act, Look, AskPlan, AskKeys, AskTable, AskWork, AskRemovable, AskPresent, Ask, Planned, Reply, Refused, Refusal}
use Rattle.model.specs.Lists.{by_range}
use Rattle.model.specs.Looks.{look_plan, look_keys, look_table, look_present, plan_of, found_at, judge_keys, placed, holding, first_code, active_in}
use Rattle.model.specs.Entries.{slots_of}
use Rattle.model.specs.History.{told, outcome}
use Rattle.law_invariants.specs.Invariant.{Inv, Later}
use Rattle.law_invariants.proofs.Ticking.{nothing_told, KeepsAll}
use Rattle.law_invariants.specs.Remembered.{activity_after}

-- a judgement that only answers, refused or not, keeps what holds
decided_told : {A : Type 0} (j : Result A Refusal) (act : Act) (reply : A → Reply) (n : ℕ) (ps : Parts) (activity : List Interval) (changes : List Change) → Later (slots_of act) ps n → Inv ps activity changes
    → Inv (told act (decided j (λ a. answered (reply a))) n ps) (activity_after act (decided j (λ a. answered (reply a))) n ps activity) changes
decided_told (Err why) act reply n ps activity changes later inv = nothing_told act (Refused why) n ps activity changes later inv
decided_told (Ok a) act reply n ps activity changes later inv = nothing_told act (reply a) n ps activity changes later inv

pub keys_keeps : (namespace table : List ℕ) (batch : List NamedItem) (at : Option ℕ) (n : ℕ) (ps : Parts) (activity : List Interval) (changes : List Change) → Later (slots_of (Look (AskKeys namespace table batch at))) ps n
    → Inv ps activity changes → KeepsAll (Look (AskKeys namespace table batch at)) n ps activity changes (look_keys namespace table batch at n ps.master)
unfolding look_keys
keys_keeps namespace table batch at n ps activity changes later inv =
    let m = ps.master in
    let is : TableRecord → List Interval = λ t. option_to_list (holding m t.id (first_code batch)) in
    decided_told (judge_keys namespace table batch at n m) (Look (AskKeys namespace table batch at)) (λ t. (placed (is t) t).reply) n ps activity changes later inv

pub table_keeps : (namespace table : List ℕ) (at : Option ℕ) (n : ℕ) (ps : Parts) (activity : List Interval) (changes : List Change) → Later (slots_of (Look (AskTable namespace table at))) ps n
    → Inv ps activity changes → KeepsAll (Look (AskTable namespace table at)) n ps activity changes (look_table namespace table at n ps.master)
unfolding look_table
table_keeps namespace table at n ps activity changes later inv =
    let m = ps.master in
    decided_told (found_at namespace table at n m) (Look (AskTable namespace table at)) (λ t. (placed (by_range (active_in m t.id)) t).reply) n ps activity changes later inv

plan_keeps : (command : Command) (n : ℕ) (ps : Parts) (activity : List Interval) (changes : List Change) → Later (slots_of (Look (AskPlan command))) ps n → Inv ps activity changes
    → KeepsAll (Look (AskPlan command)) n ps activity changes (look_plan command ps.master)
unfolding look_plan
plan_keeps command n ps activity changes later inv = nothing_told (Look (AskPlan command)) (Planned (plan_of command ps.master)) n ps activity changes later inv

present_keeps : (n : ℕ) (ps : Parts) (activity : List Interval) (changes : List Change) → Later (slots_of (Look AskPresent)) ps n → Inv ps activity changes → KeepsAll (Look AskPresent) n ps activity changes (look_present ps.master)
unfolding look_present
present_keeps n ps activity changes later inv = nothing_told (Look AskPresent) (look_present ps.master).reply n ps activity changes later inv

-- each look keeps what holds
pub look_keeps : (ask : Ask) (n : ℕ) (ps : Parts) (activity : List Interval) (changes : List Change) → Later (slots_of (Look ask)) ps n → Inv ps activity changes → KeepsAll (Look ask) n ps activity changes (outcome (Look ask) n ps)
look_keeps (AskPlan command) n ps activity changes later inv = plan_keeps command n ps activity changes later inv
look_keeps (AskKeys namespace table batch at) n ps activity changes later inv = keys_keeps namespace table batch at n ps activity changes later inv
look_keeps (AskTable namespace table at) n ps activity changes later inv = table_keeps namespace table at n ps activity changes later inv
look_keeps AskWork n ps activity changes later inv = nothing_told (Look AskWork) (outcome (Look AskWork) n ps).reply n ps activity changes later inv
look_keeps AskRemovable n ps activity changes later inv = nothing_told (Look AskRemovable) (outcome (Look AskRemovable) n ps).reply n ps activity changes later inv
look_keeps AskPresent n ps activity changes later inv = present_keeps n ps activity changes later inv
