-- What a tablet's part is made of, as the book's.
use Rattle.model.specs.Tablets as book
use Rattle.model.specs.Acts as acts
use Rattle.tablet_inbox.specs.Seen.{standing_seen}
use Rattle.tablet_part.specs.declared.presence.Presence.{Presence}
use Rattle.tablet_part.specs.declared.presence.Presence.TheVariants as part
use Rattle.tablet_part.specs.declared.refused.TabletRefused.{TabletRefused}
use Rattle.tablet_part.specs.declared.refused.TabletRefused.TheVariants.{Moved, Fenced, StaleSchema, TooOld}

abbrev pub presence_of : Presence → book.Presence
presence_of part.Empty = book.EmptyPart
presence_of part.Serving = book.ServingPart
presence_of (part.Hidden ended) = book.HiddenPart ended

abbrev pub refusal_of : TabletRefused → acts.Refusal
refusal_of (Moved slot standing) = acts.Moved slot (standing_seen standing)
refusal_of (Fenced operation) = acts.Fenced operation
refusal_of (StaleSchema kept) = acts.StaleSchema kept
refusal_of (TooOld asked cutoff) = acts.TooOld asked cutoff
