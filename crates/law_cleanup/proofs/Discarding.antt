-- The master discards a complete snapshot that retention doesn't need, and that no unfinished record names: its other records go on to be
-- good.
use Rattle.std.proofs.Common.{ℕ, ◌≡◌, ◌≤◌, ◌<◌, List, [], ◌∷◌, ◌⊎◌, inl, inr, sym, ap, subst, ◌∙◌, not}
use Rattle.std.proofs.lemmas.Bool.{cond_both, true≢false}
use Rattle.model.specs.Cluster.{Id, same, In, SnapshotRecord, Master}
use Rattle.model.specs.Journal.{Change}
use Rattle.model.specs.Cleanup.{floor_of}
use Rattle.law_store.proofs.Keys.{either_way}
use Rattle.law_invariants.specs.Operations.{SnapshotsRise, OperationsGood}
use Rattle.law_invariants.proofs.Finding.{same_equal, same_self}
use Rattle.law_cleanup.proofs.Leaving.{operations_left}
use Rattle.law_invariants.proofs.Unneeded.{IsDiscarded, without, discarding, kept_record, was_record}

-- No unfinished record names it

-- The master after it

-- a record is kept, or it is the one
kept_or : (m : Master) (n : ℕ) (target : Id) (r q : SnapshotRecord) → IsDiscarded m n target r → In q m.snapshots → In q (without target m.snapshots) ⊎ (q ≡ r)
kept_or m n target r q d isin = either_way (same q.id target)
    (λ e. inr (d.alone q isin (same_equal q.id target e)))
    (λ e. inl (kept_record target m.snapshots q isin (λ is. true≢false (sym (ap (λ t. same t target) is ∙ same_self target) ∙ e))))

rise_without : (rs : List SnapshotRecord) (target : Id) → SnapshotsRise rs → SnapshotsRise (without target rs)
rise_without [] target h = tt
rise_without (r ∷ rs) target h = cond_both (not (same r.id target)) (r ∷ without target rs) (without target rs) SnapshotsRise
    (λ e. (λ q isin. h.0 q (was_record target rs q isin).0, rise_without rs target h.1))
    (λ e. rise_without rs target h.1)

pub operations_discard : (m : Master) (n : ℕ) (target : Id) (changes : List Change) (r : SnapshotRecord) → m.clock ≤ n → IsDiscarded m n target r → OperationsGood m changes → OperationsGood (discarding m n target) changes
operations_discard m n target changes r le d h = operations_left m n m.activity (without target m.snapshots) (record {
  clock = le;
  was = λ i isin. isin;
  was_taken = λ q isin. (was_record target m.snapshots q isin).0;
  rise = rise_without m.snapshots target h.apart.snapshots_rise;
  taken = λ q isin. elim (kept_or m n target r q d isin) [ inl kept ↦ inl kept | inr is ↦ inr (subst (λ k. k.at < floor_of m k.namespace n) (sym is) d.below) ];
  unfinished = λ q isin open_. kept_record target m.snapshots q isin (λ e. true≢false (sym d.complete ∙ sym (ap (λ k. k.complete) (d.alone q isin e)) ∙ open_));
  named = λ o q there unfinished isin is. kept_record target m.snapshots q isin (λ e. d.restoration o q.id there unfinished is e);
  named_by = λ c q there unfinished isin is. kept_record target m.snapshots q isin (λ e. d.clone c q.id there unfinished is e);
  snapshot = λ q l i isin unfinished lists there is. there;
  restoration = λ o l i isin unfinished lists there is. there;
  clone = λ c l i isin unfinished lists there is. there;
  source = λ c p i isin unfinished paired there is. there;
}) changes h
