-- What a command comes to, as the book's.
use Rattle.std.specs.Prelude.{ℕ, Bool, false, List, Option, Some, None, map}
use Rattle.row_values.specs.Ids.{Id}
use Rattle.row_values.specs.Store.{part_of}
use Rattle.model.specs.Tablets as tell
use Rattle.model.specs.Tablets.{Tablet, Told, Mark, is_done, kind_of}
use Rattle.model.specs.Records.{Listed}
use Rattle.model.specs.Parts.{Master, Outcome, answered}
use Rattle.cluster_events.specs.SeenReplies.{reply_of}
use Rattle.master_part.specs.Acts.{act_of, May}
use Rattle.master_part.specs.declared.change.PartKind.{PartKind}
use Rattle.master_part.specs.declared.change.PartKind.TheVariants as kind
use Rattle.master_part.specs.declared.change.PartChange.{PartChange}
use Rattle.master_part.specs.declared.decision.Decision.{Decision}
use Rattle.master_part.specs.declared.decision.Decision.TheVariants as decision

-- what a part gets, by what the parts of the slots have
abbrev pub act_by : (ℕ → Tablet) → PartKind → tell.TabletAct
act_by parts (kind.Make tablet table range version) = tell.Make tablet table range.low range.high version
act_by parts (kind.Child parent tablet table range version) =
    tell.Child tablet table range.low range.high version
    (part_of range.low range.high (parts parent).versions) (parts parent).cutoff
act_by parts (kind.Version version) = tell.SetVersion version
act_by parts (kind.Hide ended) = tell.HideSince ended
act_by parts (kind.Offer command) = tell.Offer command
act_by parts kind.Clear = tell.Clear
act_by parts (kind.DropFrozen snapshot) = tell.DropFrozen snapshot

abbrev pub told_by : (ℕ → Tablet) → PartChange → Told
told_by parts c = record { slot = c.slot; act = act_by parts c.kind }

abbrev pub outcome_by : (ℕ → Tablet) → Decision → Outcome
outcome_by parts (decision.Answers reply) = answered (reply_of reply)
outcome_by parts (decision.Accepts act changes reply) =
    record { master = act_of act; tablets = map (told_by parts) changes; reply = reply_of reply }

-- what is accepted may be done
abbrev pub MayDo : Decision → ℕ → Master → Type 0
MayDo (decision.Answers reply) n m = Unit {0}
MayDo (decision.Accepts act changes reply) n m = May act n m

-- whether a tablet's marks have that of an operation's command which is pending there
abbrev pub is_marked : List Mark → Id → Option Listed → Bool
is_marked done operation None = false
is_marked done operation (Some l) = is_done done operation (kind_of l.body)
