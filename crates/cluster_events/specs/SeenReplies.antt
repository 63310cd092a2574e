-- What an event answers, as the book's.
use Rattle.std.specs.Prelude.{option_map}
use Rattle.model.specs.Acts as book
use Rattle.tablet_inbox.specs.Seen.{kind_seen, standing_seen}
use Rattle.cluster_events.specs.SeenStates.{state_of}
use Rattle.cluster_events.specs.declared.work.WorkItem.{WorkItem}
use Rattle.cluster_events.specs.declared.work.WorkItem.TheVariants as work
use Rattle.cluster_events.specs.declared.refusal.Refusal.{Refusal}
use Rattle.cluster_events.specs.declared.refusal.Refusal.TheVariants as why
use Rattle.cluster_events.specs.declared.reply.Reply.{Reply}
use Rattle.cluster_events.specs.declared.reply.Reply.TheVariants as reply

abbrev pub work_of : WorkItem → book.WorkItem
work_of (work.Send operation slot) = book.SendWork operation slot
work_of (work.Collect operation slot other) = book.CollectWork operation slot other
work_of (work.Advance operation) = book.AdvanceWork operation

abbrev pub refusal_of : Refusal → book.Refusal
refusal_of why.UnknownNamespace = book.UnknownNamespace
refusal_of why.UnknownTable = book.UnknownTable
refusal_of why.UnknownColumn = book.UnknownColumn
refusal_of why.UnknownSchedule = book.UnknownSchedule
refusal_of why.UnknownSnapshot = book.UnknownSnapshot
refusal_of why.WrongKind = book.WrongKind
refusal_of (why.BadPeriod interval retention) = book.BadPeriod interval retention
refusal_of (why.NameTaken by) = book.NameTaken by
refusal_of (why.NotEmpty table) = book.NotEmpty table
refusal_of (why.UnderSchedule schedule) = book.UnderSchedule schedule
refusal_of (why.NoSchedule namespace) = book.NoSchedule namespace
refusal_of (why.TooMany limit) = book.TooMany limit
refusal_of (why.SlotsFull free needed) = book.SlotsFull free needed
refusal_of (why.TooEarly low) = book.TooEarly low
refusal_of (why.Future now) = book.Future now
refusal_of (why.Busy operation) = book.Busy operation
refusal_of (why.Fenced operation) = book.Fenced operation
refusal_of (why.Moved slot standing) = book.Moved slot (standing_seen standing)
refusal_of (why.StaleSchema kept) = book.StaleSchema kept
refusal_of (why.StalePlan kept) = book.StalePlan kept
refusal_of (why.CrossTablet first other) = book.CrossTablet first other
refusal_of (why.TooNarrow low) = book.TooNarrow low
refusal_of (why.TooOld asked cutoff) = book.TooOld asked cutoff
refusal_of (why.NotDue next) = book.NotDue next
refusal_of (why.NotPending operation) = book.NotPending operation
refusal_of why.Idle = book.Idle
refusal_of (why.OtherSlot wanted) = book.OtherSlot wanted
refusal_of why.NotDone = book.NotDone
refusal_of (why.Waiting on) = book.Waiting on
refusal_of (why.InWindow at floor) = book.InWindow at floor
refusal_of (why.Listed by) = book.IsListed by

abbrev pub reply_of : Reply → book.Reply
reply_of (reply.Ok made) = book.Ok made
reply_of (reply.Planned slots) = book.Planned slots
reply_of (reply.Placed places version columns) = book.Placed places version columns
reply_of (reply.Work item) = book.Work (option_map work_of item)
reply_of (reply.Removable targets) = book.Removable targets
reply_of (reply.Present slots) = book.Present slots
reply_of (reply.Rows rows) = book.Rows rows
reply_of (reply.CutoffAt cutoff) = book.CutoffAt cutoff
reply_of (reply.Compacted before after) = book.Compacted before after
reply_of reply.Sent = book.SentTo
reply_of (reply.Done operation kind) = book.Done operation (kind_seen kind)
reply_of reply.Acked = book.Acked
reply_of (reply.Advanced state) = book.Advanced (state_of state)
reply_of reply.Removed = book.Removed
reply_of (reply.Pruned count) = book.Pruned count
reply_of (reply.Stats cutoff versions frozen inbox) = book.Counts cutoff versions frozen inbox
reply_of reply.Empty = book.NoTablet
reply_of (reply.Schedules lines) = book.Schedules lines
reply_of (reply.Snapshots lines) = book.Snapshots lines
reply_of (reply.Restorations lines) = book.Restorations lines
reply_of (reply.Clones lines) = book.Clones lines
reply_of (reply.Tablets lines) = book.Tablets lines
reply_of (reply.Refused why) = book.Refused (refusal_of why)
