use Rattle.std.proofs.Common.{vec_len, vec_capacity, ◌≡◌, ◌+◌, ◌≤◌, length, map}
use Rattle.std.specs.Vec.Iter.{into_iter_items}
use Rattle.model.specs.History.{Legal, replay}
use Rattle.machine_laws.specs.Laid.{parts_of}
use Rattle.cluster_events.specs.SeenReplies.{reply_of}
use Rattle.cluster_core.proofs.Runs.{Running}
use Rattle.cluster_core.proofs.cluster.Cluster.run_events.Given as goal

abbrev pub invariant-loop-event : goal.invariant-loop-event
invariant-loop-event g l = record {
  can_next : (goal.iterator-loop-event g).can_next l.event-iterator;
  finite : (goal.iterator-loop-event g).is_finite l.event-iterator;
  slots : l.self.slots ≡ l.fn.self.slots;
  running : Running l.fn.self.slots l.fn.events l.fn.self.history l.self.history (map reply_of l.replies.items) (into_iter_items l.event-iterator);
  room : vec_len l.replies + length (into_iter_items l.event-iterator) ≤ vec_capacity l.replies;
  legal : Legal l.self.slots l.self.history;
  parts : parts_of l.self.parts ≡ replay l.self.slots l.self.history;
}
