-- What there is in a cluster, and what may be asked of it, passed on from one place. Declares nothing.
pub use Rattle.model.specs.Words.{first_schema, Namespace, Table, share_from, AllOf, AreRows, Clone, Column, ColumnKind, Id, In, InOrder, IsRange, Item, KeyedRow, Kind, NewColumn, Restoration, Row, RowOp, Schema, Snapshot, Value, Version, absent_row, applied, code_of, column_ids, column_named, cut_to, has, in_order, in_range, is_of_kind, kept, list_all, list_any, numbered, of_key, option_map_or, option_or, part_of, precedes, present, read_of, rising, rows_at, same, same_slots, with_column, without_column, Schedule as ScheduleKind, Tablet as TabletKind, Clone as CloneKind, Restoration as RestorationKind, Table as TableKind, Namespace as NamespaceKind}
pub use Rattle.model.specs.Times.{before_end, end_of_time, ended, ended_by, holds_at, is_below, is_future, is_open, minute, second, time_of}
pub use Rattle.model.specs.Catalog.{Catalog, KeptFrom, NamespaceRecord, Owner, TableRecord, by_id, current_named, current_table, current_tables, end_tables, is_owned_by, kept_from, latest, name_of, namespace_added, namespace_ended, namespace_named, owner_of, owns, set_kept_from, table_added, table_ended, table_named, table_replaced, tables_at}
pub use Rattle.model.specs.Activity.{Interval, active_at, active_within, end_table_tablets, end_tablet, forget, last_of, route}
pub use Rattle.model.specs.Tablets.{Body, BodyKind, Child, Clear, Copy, CopyKind, DropFrozen, Empty, EmptyPart, Fence, FenceKind, Freeze, FreezeKind, FrozenSet, HiddenPart, Hide, HideKind, HideSince, Make, Mark, Offer, Presence, RaiseCutoff, Release, ReleaseKind, RestoreFrom, RestoreFromKind, ServingPart, SetVersion, Standing, Tablet, TabletAct, Told, act_for, effect, holds_command, is_done, is_empty, is_hidden, is_serving, kind_of, rows_of_set, serves, set_of, standing}
pub use Rattle.model.specs.Records.{Accepted, CloneComplete, CloneRecord, CloneReleasing, CloneSnapshot, CloneState, Copying, Fencing, IdPair, IsAccepted, IsComplete, IsCopying, IsCreating, IsFencing, IsReleasing, IsRestored, IsRestoring, IsSnapshot, IsSwitching, Listed, Releasing, RestorationRecord, RestorationState, Restored, Restoring, Schedule, ScheduledNamespace, Sent, SnapshotRecord, Snapshotting, State, Switching, TabletPair, acked_at, clone_state, first_unacked, is_cloned, is_restored, is_sent, is_snapshotting, is_visible, lists_tablet, named_by_clone, named_by_restoration, point_of, restoration_state, schedule_of, schedule_with, scheduled_in, snapshot_state, snapshot_with, unacked, unacked_at, unfinished, unfinished_of, unsent, unsent_at}
pub use Rattle.model.specs.Acts.{AClone, ANamespace, ARestoration, ASchedule, ASnapshot, ATable, Ack, Acked, Act, AddColumn, Advance, AdvanceWork, Advanced, Advances, Ask, AskKeys, AskPlan, AskPresent, AskRemovable, AskTable, AskWork, At, BadPeriod, Busy, Change, CloneLine, CloneNamespace, Clones, CollectWork, Commands, Compacted, Counts, CreateNamespace, CreateSchedule, CreateTable, CrossTablet, Cutoff, CutoffAt, DeleteSchedule, Does, Done, DropColumn, DropNamespace, DropTable, EditSchedule, Enters, Event, Fenced, Future, Idle, InWindow, IsListed, ListClones, ListRestorations, ListSchedules, ListSnapshots, ListTablets, Look, Makes, Making, Moved, NameTaken, NamedCell, NamedDelete, NamedItem, NamedOp, NamedUpsert, NoDeed, NoSchedule, NoSuccess, NoTablet, NotDone, NotDue, NotEmpty, NotPending, Nothing, Obeys, Ok, OtherSlot, Place, Placed, Planned, Present, Process, Prune, Pruned, Read, Refusal, Refused, Removable, Removal, Remove, Removed, RenameTable, Reply, RestorationLine, Restorations, Restore, Rows, ScheduleLine, Schedules, Send, SendWork, SentTo, SlotsFull, SnapshotLine, Snapshots, Split, StalePlan, StaleSchema, Stats, TabletLine, Tablets, TakeSnapshot, TooEarly, TooMany, TooNarrow, TooOld, TwoTablets, UnderSchedule, UnknownColumn, UnknownNamespace, UnknownSchedule, UnknownSnapshot, UnknownTable, Waiting, Work, WorkItem, WrongKind, deed_of, making_of, success_of}
pub use Rattle.model.specs.Parts.{Acks, AddsColumn, BeginsClone, BeginsRestoration, Check, DeletesSchedule, Drawn, DropsColumn, DropsNamespace, DropsTable, EditsSchedule, Fault, If, MakesNamespace, MakesSchedule, MakesTable, Master, MasterAct, Moves, Names, Outcome, Parts, Prunes, Removes, RenamesTable, Restarts, Sends, SplitsTablet, TakesSnapshot, Ticks, Unsends, and_found, answered, checked, decided, judged, none_drawn, refused, start}
