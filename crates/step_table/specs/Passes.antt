-- A pass and a table as contracts see them, and what the calls of the table do to a pass.
use Rattle.std.specs.Prelude.{ℕ, ◌≡◌, ◌⊎◌, ◌+◌, ◌-◌, List, [], ◌∷◌, ◌++◌, Some}
use mathlib.Core.List.{IsPrefix}
use Rattle.atomic_table.specs.Seated.{TableId}
use Rattle.step_table.specs.declared.known.Entry.{Entry}
use Rattle.step_table.specs.declared.known.Known.{Known}
use Rattle.step_table.specs.Machines.{Core, touched}
use Rattle.step_table.specs.Histories.{history_of, left_by}

pub record TableView (P : Type 0) : Type 0 where
  pub id : TableId
  -- what the parts meant that the table was made over
  pub given : List P

pub record PassView (P E R : Type 0) : Type 0 where
  -- the pass's table
  pub table : TableId
  pub given : List P
  -- the history that the pass has seen, the entries of the given parts first
  pub seen : List (Entry E R)
  -- the entries that were made with it
  pub made : List (Entry E R)
  -- the slots whose lock it found taken
  pub findings : List ℕ
  pub shares : ℕ
  pub splits : ℕ

module _ {P E R : Type 0} where
  -- One entry more, of this event and this reply. It ends the history that the pass has seen now, and what it had seen before ends before it
  pub record EntryAdded (e : E) (r : R) (v w : PassView P E R) : Type 0 where
    pub entry : Entry E R
    pub event : entry.event ≡ e
    pub reply : entry.reply ≡ r
    pub made : w.made ≡ v.made ++ entry ∷ []
    pub before : List (Entry E R)
    pub seen : w.seen ≡ before ++ entry ∷ []
    pub later : IsPrefix v.seen before

  -- a pass that gave one share away
  abbrev pub rest_of : PassView P E R → PassView P E R
  rest_of v = record v { shares = v.shares - 1; splits = v.splits + 1 }

  -- the pass that got that share
  abbrev pub share_of : PassView P E R → PassView P E R
  share_of v = record v { made = []; findings = []; shares = 1; splits = 0 }

module _ {P E D R F : Type 0} (c : Core P E D R F) where
  -- the pass that a table begins with
  abbrev pub first_pass : TableView P → PassView P E R
  first_pass t = record { table = t.id; given = t.given; seen = history_of c t.given; made = []; findings = []; shares = 4096; splits = 0 }

  -- what a seat knows, as a pass
  abbrev pub told : TableId → Known P E R → PassView P E R
  told id v = record { table = id; given = v.given; seen = history_of c v.given ++ v.seen; made = v.mine; findings = v.findings; shares = v.shares; splits = v.splits }

  -- want of memory, or what the machine refuses on the parts that the seen history leaves
  abbrev pub Refuses : E → F → PassView P E R → Type 0
  Refuses e f w = (f ≡ c.no_memory) ⊎ (c.refusal (touched c (left_by c w.given w.seen) e) e ≡ Some f)
