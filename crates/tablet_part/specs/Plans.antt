-- What an act on one tablet comes to, by what its part says.
use Rattle.std.specs.Prelude.{ℕ, [], ◌∷◌, Option, Some, None, Result, Ok, Err}
use Rattle.model.specs.Tablets.{Tablet, TabletAct}
use Rattle.model.specs.Acts.{Reply, Counts as CountsOf, NoTablet}
use Rattle.model.specs.Parts.{Master, Parts, Outcome, Ticks, refused, empty_master}
use Rattle.tablet_part.specs.declared.refused.TabletRefused.{TabletRefused}
use Rattle.tablet_part.specs.Seen.{refusal_of}

-- a cluster of this master, with this tablet's part in every slot: what an act on one tablet reads of a cluster
abbrev pub beside : Master → Tablet → Parts
beside m t = record { master = m; tablet = λ slot. t }

-- an act that does not read the master
abbrev pub alone : Tablet → Parts
alone t = beside (empty_master 0) t

-- the refusal, or the outcome where the part accepts
abbrev pub outcome_by : {A : Type 0} → (A → Outcome) → Result A TabletRefused → Outcome
outcome_by accept (Ok found) = accept found
outcome_by accept (Err why) = refused (refusal_of why)

-- the slot's part is told this, and the reply
abbrev pub telling : ℕ → TabletAct → Reply → Outcome
telling slot act reply = record { master = Ticks; tablets = record { slot = slot; act = act } ∷ []; reply = reply }

-- the counts of a part that has a tablet, as a reply
abbrev pub counts_reply : Option (ℕ × ℕ × ℕ × ℕ) → Reply
counts_reply None = NoTablet
counts_reply (Some c) = CountsOf c.0 c.1 c.2 c.3
