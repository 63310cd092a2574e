-- Right histories: each reply is one that its act can have, and where it speaks of the past it has its cause; and what
-- restores and clones fixed stays as it was.
use Rattle.std.specs.Prelude.{ℕ, List, [], ◌∷◌}
use Rattle.model.specs.Right.{FixedStays}
use Rattle.model.specs.Entries.{Entry}
use Rattle.model.specs.History.{replay, activity_of, journal_of}
pub use Rattle.model.specs.Rules.{MakesNone, MakesOne, MakesTwo, RefusedAs, IsBusy, IsNameTaken, IsSlotsFull, IsMoved, IsClosed, IsTableClosed, IsScheduleClosed, CommandAnswer, ChangeAnswer, look_at, LookAnswer, AnswerRight}

-- each reply is right against the journal before it, and what was fixed stays
abbrev pub Right : ℕ → List Entry → Type 0
Right slots [] = Unit {0}
Right slots (e ∷ earlier) = Right slots earlier
    × (AnswerRight e.event.act e.reply e.stamp (replay slots earlier) (activity_of slots earlier)
    (journal_of slots earlier) × FixedStays (journal_of slots (e ∷ earlier)))
