-- The master's records of clones and its sent marks change while all else stays: what doesn't speak of clones stays as it is, and what
-- speaks of floors goes on with them.
use Rattle.std.proofs.Common.{ℕ, ◌≡◌, ◌≤◌, ◌<◌, ◌⊎◌, List, true, inl, inr, refl, le_refl, lt_of_lt_of_le}
use Rattle.model.specs.Cluster.{Id, In, Interval, Tablet, SnapshotRecord, CloneRecord, Sent, ScheduledNamespace, Master}
use Rattle.model.specs.Journal.{Change}
use Rattle.model.specs.Cleanup.{floor_of}
use Rattle.law_invariants.specs.Remembered.{IsForgotten}
use Rattle.law_invariants.specs.Operations.{SnapshotGood, ScheduledGood}
use Rattle.law_invariants.specs.Invariant.{IsGood, SlotGood, MasterGood}
use Rattle.law_invariants.proofs.Remembering.{forgotten_later}

abbrev pub with_clones : Master → List CloneRecord → List Sent → Master
with_clones m cs s = record m { clones = cs; sent = s }

-- a floor doesn't fall
abbrev pub FloorsRise : Master → Master → Type 0
FloorsRise m k = (ns : Id) → floor_of m ns m.clock ≤ floor_of k ns m.clock

module _ (m : Master) (cs : List CloneRecord) (s : List Sent) where
  pub scheduled_beside : (k : ScheduledNamespace) → FloorsRise m (with_clones m cs s) → ScheduledGood m k → ScheduledGood (with_clones m cs s) k
  scheduled_beside k floors h = record {
    drawn_namespace = h.drawn_namespace;
    from_one = h.from_one;
    last = h.last;
    reached = elim h.reached [ inl l ↦ inl (lt_of_lt_of_le l (floors k.namespace)) | inr q ↦ inr q ];
    has = h.has;
  }

  pub snapshot_beside : (q : SnapshotRecord) → FloorsRise m (with_clones m cs s) → SnapshotGood m q → SnapshotGood (with_clones m cs s) q
  snapshot_beside q floors h =
      let reached : (q.after < floor_of (with_clones m cs s) q.namespace m.clock) ⊎ ((p : SnapshotRecord) × (In p m.snapshots × ((p.namespace ≡ q.namespace) × ((p.at ≡ q.after) × (p.complete ≡ true))))) = elim h.reached [ inl l ↦ inl (lt_of_lt_of_le l (floors q.namespace)) | inr p ↦ inr p ] in
      assumption (reached, h)

  pub forgotten_beside : (i : Interval) → FloorsRise m (with_clones m cs s) → IsForgotten m i → IsForgotten (with_clones m cs s) i
  forgotten_beside i floors h = forgotten_later m (with_clones m cs s) i (le_refl m.clock) floors refl h.unknown h

  pub master_beside : (changes : List Change) → MasterGood m changes → MasterGood (with_clones m cs s) changes
  master_beside changes h = assumption h

  good_beside : (changes : List Change) (t : Tablet) (i : Interval) → IsGood m changes t i → IsGood (with_clones m cs s) changes t i
  good_beside changes t i g = assumption g

  pub slot_beside : (changes : List Change) (slot : ℕ) (t : Tablet) → SlotGood m changes slot t → SlotGood (with_clones m cs s) changes slot t
  slot_beside changes slot t h =
      let each : (i : Interval) → In i m.activity → i.slot ≡ slot → IsGood (with_clones m cs s) changes t i = λ i isin is. good_beside changes t i (h.each i isin is) in
      assumption (each, h)
