-- The cluster as a machine: the book's step, on the touched parts.
use Rattle.std.specs.Prelude.{ℕ, ◌≡◌, ◌≤◌, ◌-◌, ◌++◌, List, [], ◌∷◌, length}
use Rattle.std.specs.Option.{option_map}
use Rattle.step_table.specs.declared.known.Entry.{Entry}
use Rattle.step_table.specs.Lists.{pick}
use Rattle.step_table.specs.Machines.{Core}
use Rattle.model.specs.Acts.{Event}
use Rattle.model.specs.Parts.{Parts, Outcome}
use Rattle.model.specs.Entries.{Asked, touches, stamp_of}
use Rattle.model.specs.History.{outcome}
use Rattle.machine_laws.specs.Views.{AnswerView, PartView}
use Rattle.machine_laws.specs.Laid.{lay, told_acts, all_after, AreKinds}
use Rattle.machine_laws.specs.Faults.{StepFault, fault_of}
use Rattle.machine_laws.specs.Past.{IsLegal}

-- What code adds to the book: the room of its parts, how it prepares an event, and what it answers where none is
-- performed
pub record Coding (R D F : Type 0) : Type 1 where
  pub no_room : R
  -- the event that was prepared
  pub event_of : D → Event
  -- the held parts have all that the event needs
  pub CanApply : List (PartView R) → D → Type 0
  pub no_memory : F
  pub refused : StepFault → F

module _ {R : Type 0} where
  abbrev pub laid : List (PartView R) → Event → Parts
  laid held e = lay (touches e.act) held

  -- the stamp, the outcome and the answer of an event on the touched parts
  abbrev pub stamp_at : List (PartView R) → Event → ℕ
  stamp_at held e = stamp_of e (laid held e)

  abbrev pub outcome_at : List (PartView R) → Event → Outcome
  outcome_at held e = outcome e.act (stamp_at held e) (laid held e)

  abbrev pub answer_at : List (PartView R) → Event → AnswerView
  answer_at held e = record { stamp = stamp_at held e; reply = (outcome_at held e).reply }

  -- the first log has one entry more
  abbrev pub first_notes : List (PartView R) → Entry Event AnswerView → List (PartView R)
  first_notes [] e = []
  first_notes (p ∷ ps) e = record p { log = p.log ++ e ∷ [] } ∷ ps

  abbrev pub after_at : List (PartView R) → Event → ℕ → List (PartView R)
  after_at held e number = first_notes
      (all_after (told_acts (outcome_at held e) (touches e.act)) (stamp_at held e) held)
      (record { number = number; event = e; reply = answer_at held e })

-- an event that is asked of a cluster of so many parts, the master's one of them
abbrev pub May : ℕ → Event → Type 0
May count e = (1 ≤ count) × Asked (count - 1) e

-- the held parts are those that an event touches which is asked of a cluster, and the cluster's parts have a legal
-- history as their past
pub record Fits {R : Type 0} (held : List (PartView R)) (e : Event) : Type 0 where
  pub parts : List (PartView R)
  pub legal : IsLegal parts
  pub may : May (length parts) e
  pub touched : held ≡ pick (touches e.act) parts
  pub size : length held ≡ length (touches e.act)
  pub kinds : AreKinds (touches e.act) held

abbrev pub core_of : {R D F : Type 0} → Coding R D F → Core (PartView R) Event D AnswerView F
core_of code = record {
  touches = λ e. touches e.act;
  meaning = λ p. record p { room = code.no_room };
  log = λ p. p.log;
  after = after_at;
  reply = λ held e number. answer_at held e;
  refusal = λ held e. option_map code.refused (fault_of (stamp_at held e) (touches e.act) held);
  no_memory = code.no_memory;
  event_of = code.event_of;
  CanApply = code.CanApply;
  May = May;
  Legal = IsLegal;
  Fits = Fits;
}
