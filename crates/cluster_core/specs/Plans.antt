-- What an event comes to: what the master and the tablets' parts are told, and the reply.
use Rattle.std.specs.Prelude.{ℕ, zero, suc, ◌≡◌, ◌<◌, List, [], ◌∷◌, map, ◌==◌, if◌then◌else◌}
use Rattle.step_table.specs.Helds.{slots_of, parts_of}
use Rattle.model.specs.Times.{end_of_time}
use Rattle.model.specs.Tablets.{Tablet}
use Rattle.model.specs.Acts.{Act, Reply}
use Rattle.model.specs.Parts.{Outcome}
use Rattle.model.specs.Entries.{touches, ActAsked}
use Rattle.model.specs.History.{outcome}
use Rattle.machine_laws.specs.Laid.{AreKinds}
use Rattle.master_part.specs.declared.act.MasterAct.{MasterAct}
use Rattle.master_part.specs.Acts.{act_of, May, IsLawful}
use Rattle.tablet_acts.specs.Tellings.{Telling, Ticks, Suits, FirstIsDue, SlotTelling, told_of}
use Rattle.cluster_core.specs.Held.{Holding, laid}
use Rattle.cluster_core.specs.Tellings.{PartTelling, TellMaster, TellTablet}
use Rattle.cluster_core.specs.Readies.{AllLater}

pub record EventPlanView : Type 0 where
  pub master : MasterAct
  pub tablets : List SlotTelling
  pub reply : Reply

abbrev pub outcome_of : EventPlanView → Outcome
outcome_of p = record { master = act_of p.master; tablets = map told_of p.tablets; reply = p.reply }

-- what the tablet's part of a slot is told: to set its clock where it isn't named
abbrev pub telling_for : List SlotTelling → ℕ → Telling
telling_for [] slot = Ticks
telling_for (t ∷ ts) slot = if t.slot == slot then t.telling else telling_for ts slot

-- what the part of a slot is told
abbrev pub tell_to : MasterAct → List SlotTelling → ℕ → PartTelling
tell_to master tablets zero = TellMaster master
tell_to master tablets (suc slot) = TellTablet (telling_for tablets (suc slot))

abbrev pub tell_all : MasterAct → List SlotTelling → List ℕ → List PartTelling
tell_all master tablets [] = []
tell_all master tablets (k ∷ ks) = tell_to master tablets k ∷ tell_all master tablets ks

-- how many of rising slots are the master's: it can be the first alone
abbrev pub masters_in : List ℕ → ℕ
masters_in [] = 0
masters_in (k ∷ ks) = if k == 0 then 1 else 0

-- each suits the tablet of its slot at a stamp
abbrev pub AllSuit : List SlotTelling → ℕ → (ℕ → Tablet) → Type 0
AllSuit [] n at = Unit {0}
AllSuit (t ∷ ts) n at = Suits t.telling n (at t.slot) × AllSuit ts n at

-- the held parts are those that an act touches which is asked, with clocks before a stamp; they are what a legal history
-- leaves
pub record MayPlan (act : Act) (n : ℕ) (held : Holding) : Type 0 where
  pub slots : slots_of held ≡ touches act
  pub kinds : AreKinds (slots_of held) (parts_of held)
  pub later : AllLater n (parts_of held)
  pub begun : 0 < n
  pub before_end : n < end_of_time
  pub count : ℕ
  pub asked : ActAsked count act
  pub lawful : IsLawful (laid held).master
  pub due : (slot : ℕ) → FirstIsDue ((laid held).tablet slot).inbox n

-- a plan comes to an outcome, and the held parts may be told it at a stamp
pub record ComesTo (o : Outcome) (n : ℕ) (held : Holding) (p : EventPlanView) : Type 0 where
  pub outcome : outcome_of p ≡ o
  pub suits : AllSuit p.tablets n (laid held).tablet
  pub may : May p.master n (laid held).master

-- it comes to what the book says of an act
abbrev pub IsPlan : Act → ℕ → Holding → EventPlanView → Type 0
IsPlan act n held p = ComesTo (outcome act n (laid held)) n held p
