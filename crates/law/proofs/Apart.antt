-- After each entry of a legal history no two of the master's records are of one namespace.
use Rattle.std.proofs.Common.{◌≡◌, ◌≢◌, ℕ, Bool, false, List, [], ◌∷◌, ◌++◌, Option, inl, inr, refl, arith, map, not}
use Rattle.std.specs.List.{filter}
use Rattle.std.proofs.lemmas.Bool.{cond_both}
use Rattle.model.specs.Cluster.{In, has, Interval, NamespaceRecord, RestorationRecord, RestorationState, Fencing, CloneRecord, CloneState, Accepted, Copying, is_visible, Act, Master, Parts, Outcome, MasterAct, MakesNamespace, DropsNamespace, Acks, Moves, Removes, Prunes}
use Rattle.model.specs.Journal as made
use Rattle.model.specs.Changed.{next_namespace}
use Rattle.model.specs.Moves.{restoration_moved, clone_moved}
use Rattle.model.specs.Cleanup.{is_old_namespace}
use Rattle.model.specs.Entries.{Entry, slots_of}
use Rattle.model.specs.History.{master_effect, told, outcome, replay, journal_of, activity_of, Legal}
use Rattle.law_store.proofs.Keys.{either_way}
use Rattle.law_invariants.specs.Invariant.{Inv}
use Rattle.law_invariants.proofs.Effects.{acked_each, begins_each, moved_each, removed_each}
use Rattle.law_invariants.proofs.Finding.{apart_by_number, in_added, in_mapped, filter_in}
use Rattle.law_invariants.proofs.Pending.{unfinished_clone_is}
use Rattle.law_answers.proofs.Naming.{RecordsApart}
use Rattle.law.proofs.Law.{legal_holds}

apart_added : (rs : List NamespaceRecord) (r : NamespaceRecord) → ((q : NamespaceRecord) → In q rs → q.id ≢ r.id) → RecordsApart rs → RecordsApart (rs ++ r ∷ [])
apart_added [] r other h = ((λ q isin. absurd isin), tt)
apart_added (p ∷ rs) r other h = (in_added (λ q. p.id ≢ q.id) rs r h.0 (other p (inl refl)), apart_added rs r (λ q isin. other q (inr isin)) h.1)

apart_ended : (rs : List NamespaceRecord) (end_ : NamespaceRecord → Option ℕ) → RecordsApart rs → RecordsApart (map {A = NamespaceRecord} (λ r. record r { to = end_ r }) rs)
apart_ended [] end_ h = tt
apart_ended (r ∷ rs) end_ h = (in_mapped {A = NamespaceRecord} (λ r. record r { to = end_ r }) (λ q. r.id ≢ q.id) rs h.0, apart_ended rs end_ h.1)

apart_left : (rs : List NamespaceRecord) (test : NamespaceRecord → Bool) → RecordsApart rs → RecordsApart (filter test rs)
apart_left [] test h = tt
apart_left (r ∷ rs) test h = either_way (test r)
    (λ b. rw b ((λ q isin. h.0 q (filter_in rs test q isin).0), apart_left rs test h.1))
    (λ b. rw b (apart_left rs test h.1))

-- What the master is told

abbrev Apart : Master → Type 0
Apart m = RecordsApart m.catalog.namespaces

restoration_apart : (state : RestorationState) (r : RestorationRecord) (n : ℕ) (m : Master) → Apart m → Apart (restoration_moved state r n m)
restoration_apart Fencing r n m h = h
restoration_apart _ r n m h = h

clone_apart : (state : CloneState) (r : CloneRecord) (n : ℕ) (m : Master) → (is_visible state ≡ false → (q : NamespaceRecord) → In q m.catalog.namespaces → q.id ≢ r.target_id) → Apart m → Apart (clone_moved state r n m)
clone_apart Accepted r n m other h = begins_each Apart r n m (λ serving. h) (λ s. h) h
clone_apart (Copying serving at) r n m other h = apart_added m.catalog.namespaces _ (other refl) h
clone_apart _ r n m other h = h

effect_apart : (act : MasterAct) (n : ℕ) (ps : Parts) (activity : List Interval) (changes : List made.Change) → Inv ps activity changes → Apart ps.master → Apart (master_effect act n ps.master)
effect_apart (MakesNamespace name) n ps activity changes inv h =
    apart_added ps.master.catalog.namespaces _ (λ q isin. apart_by_number q.id (next_namespace ps.master) (let k = inv.master.namespaces.drawn_before q isin in omega arith)) h
effect_apart (DropsNamespace namespace) n ps activity changes inv h = apart_ended ps.master.catalog.namespaces _ h
effect_apart (Acks operation slot) n ps activity changes inv h = acked_each Apart operation.kind operation slot n ps.master h h h h
effect_apart (Moves operation) n ps activity changes inv h =
    let m = ps.master in
    moved_each Apart operation.kind operation n m h (λ r e. h) (λ r e. restoration_apart r.state r n m h)
    (λ r e. clone_apart r.state r n m (λ unseen q isin. ((inv.operations.clones r (unfinished_clone_is m.clones operation r e).0).no_namespace unseen q isin).0) h)
effect_apart (Removes target) n ps activity changes inv h = removed_each Apart target.kind target n ps.master h h h
effect_apart Prunes n ps activity changes inv h = apart_left ps.master.catalog.namespaces (λ r. not (is_old_namespace ps.master n r)) h
effect_apart _ n ps activity changes inv h = h

told_apart : (act : Act) (o : Outcome) (n : ℕ) (ps : Parts) (activity : List Interval) (changes : List made.Change) → Inv ps activity changes → Apart ps.master → Apart (told act o n ps).master
told_apart act o n ps activity changes inv h = cond_both (has (slots_of act) 0) (master_effect o.master n ps.master) ps.master Apart (λ _. effect_apart o.master n ps activity changes inv h) (λ _. h)

pub records_apart : (history : List Entry) (slots : ℕ) → Legal slots history → RecordsApart (replay slots history).master.catalog.namespaces
unfolding replay
records_apart [] slots legal = tt
records_apart (e ∷ earlier) slots legal =
    told_apart e.event.act (outcome e.event.act e.stamp (replay slots earlier)) e.stamp (replay slots earlier) (activity_of slots earlier) (journal_of slots earlier) (legal_holds earlier slots legal.0).inv (records_apart earlier slots legal.0)
