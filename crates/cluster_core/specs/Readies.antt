-- What is ready to be performed.
use Rattle.std.specs.Prelude.{ℕ, ◌≡◌, ◌<◌, ◌≤◌, List, [], ◌∷◌, map}
use Rattle.model.specs.Acts.{Event}
use Rattle.model.specs.Entries.{touches}
use Rattle.machine_laws.specs.Views.{AnswerView, PartView}
use Rattle.machine_laws.specs.Laid.{told_acts}
use Rattle.machine_laws.specs.Core.{outcome_at, answer_at}
use Rattle.cluster_core.specs.declared.room.PartRoom.{PartRoom}
use Rattle.cluster_core.specs.Tellings.{PartTelling, part_act, ActFits, ActHasRoom, meaning, clock_in}

pub record ReadyView : Type 0 where
  pub event : Event
  pub answer : AnswerView
  -- what each held part is told
  pub acts : List PartTelling

-- each part may be told this at a stamp
abbrev pub AllFit : List PartTelling → ℕ → List (PartView PartRoom) → Type 0
AllFit [] n [] = Unit {0}
AllFit [] n (p ∷ ps) = ⊥
AllFit (a ∷ acts) n [] = ⊥
AllFit (a ∷ acts) n (p ∷ ps) = ActFits a n p.kept × AllFit acts n ps

-- and can do it
abbrev pub AllCan : List PartTelling → ℕ → List (PartView PartRoom) → Type 0
AllCan [] n [] = Unit {0}
AllCan [] n (p ∷ ps) = ⊥
AllCan (a ∷ acts) n [] = ⊥
AllCan (a ∷ acts) n (p ∷ ps) = (ActFits a n p.kept × ActHasRoom a p.room) × AllCan acts n ps

abbrev pub AllLater : ℕ → List (PartView PartRoom) → Type 0
AllLater n [] = Unit {0}
AllLater n (p ∷ ps) = (clock_in p < n) × AllLater n ps

abbrev pub FirstHasRoom : List (PartView PartRoom) → Type 0
FirstHasRoom [] = ⊥
FirstHasRoom (p ∷ ps) = 1 ≤ p.room.log

-- the held parts can do what they are told, and that is the book's
pub record CanApply (held : List (PartView PartRoom)) (r : ReadyView) : Type 0 where
  pub acts : AllCan r.acts r.answer.stamp held
  pub later : AllLater r.answer.stamp held
  pub room : FirstHasRoom held
  pub told : map part_act r.acts ≡ told_acts (outcome_at (map meaning held) r.event) (touches r.event.act)
  pub answer : r.answer ≡ answer_at (map meaning held) r.event
