-- All snapshots that were ever taken follow each other: times rise, and each names the time of the one before it.
use Rattle.std.proofs.Common.{◌+◌, ◌-◌, ◌<◌, ◌≤◌, ◌≡◌, ◌∷◌, ◌++◌, ◌∙◌, ◌⊎◌, ℕ, List, [], Bool, true, false, cond, Option, Some, None, map, refl, sym, ap, subst, inl, inr, arith, le_refl, le_of_lt, le_trans, ltb, not}
use Rattle.std.proofs.lemmas.Bool.{cond_both, true≢false}
use Rattle.std.proofs.lemmas.Bool.Decides.{nat_tests}
use Rattle.std.specs.List.{filter}
use Rattle.std.specs.Option.{is_some, option_map_or}
use Rattle.row_values.specs.Ids.{Clone, Id, Kind, Restoration, Snapshot, same}
use Rattle.row_values.specs.Elements.{In}
use Rattle.row_values.specs.Slots.{has}
use Rattle.model.specs.Activity.{Interval}
use Rattle.model.specs.Acts.{Act}
use Rattle.model.specs.Changed.{begin_scheduled}
use Rattle.model.specs.Cleanup.{removed_of}
use Rattle.model.specs.Coordination.{acked_by, unfinished_clone, unfinished_restoration, unfinished_snapshot}
use Rattle.model.specs.Entries.{slots_of}
use Rattle.model.specs.History.{master_effect, snapshots_since, told}
use Rattle.model.specs.Journal.{Change}
use Rattle.model.specs.Lists.{new_snapshot, set_last_of}
use Rattle.model.specs.Moves.{begins_clone, clone_goes, clone_moved, completed, moved_of, restoration_moved, serving_clone, with_clones_snapshot}
use Rattle.model.specs.Parts.{Acks, DeletesSchedule, MakesSchedule, Master, MasterAct, Moves, Outcome, Parts, Removes, TakesSnapshot}
use Rattle.model.specs.Records.{Accepted, CloneComplete, CloneRecord, CloneReleasing, CloneSnapshot, CloneState, Copying, Fencing, Listed, Releasing, RestorationRecord, RestorationState, Restored, Restoring, Schedule, ScheduledNamespace, SnapshotRecord, Snapshotting, Switching, schedule_of, scheduled_in}
use Rattle.model.specs.Retained.{TimesRise, before_next, last_time}
use Rattle.model.specs.Schedules.{after_in, after_of, or_before}
use Rattle.law_store.proofs.Keys.{either_way}
use Rattle.law_invariants.specs.Invariant.{Inv, Later}
use Rattle.law_invariants.specs.Operations.{OperationsGood}
use Rattle.law_invariants.proofs.Finding.{filter_in, find_is, find_none, in_append, in_mapped, none_or_some, not_same, same_equal, same_self}
use Rattle.law_retention.specs.Facts.{IsTaken}
use Rattle.law_retention.proofs.Scheduling.{after_in_is, newly}

last_past : (rs : List SnapshotRecord) (ns : Id) (last clock : ℕ) → ((r : SnapshotRecord) → In r rs → r.at ≤ clock) → last ≤ clock → last_time rs ns last ≤ clock
last_past [] ns last clock past le = le
last_past (r ∷ rs) ns last clock past le = last_past rs ns (cond (same r.namespace ns) r.at last) clock (λ q there. past q (inr there))
    (cond_both (same r.namespace ns) r.at last (λ x. x ≤ clock) (λ e. past r (inl refl)) (λ e. le))

last_added : (rs : List SnapshotRecord) (new : SnapshotRecord) (ns : Id) (last : ℕ) → last_time (rs ++ new ∷ []) ns last ≡ cond (same new.namespace ns) new.at (last_time rs ns last)
last_added [] new ns last = refl
last_added (r ∷ rs) new ns last = last_added rs new ns (cond (same r.namespace ns) r.at last)

rise_added : (rs : List SnapshotRecord) (new : SnapshotRecord) (ns : Id) (since last : ℕ) → TimesRise rs ns since last
    → (same new.namespace ns ≡ true → (last_time rs ns last < new.at) × (since ≤ new.at → new.after ≡ before_next since (last_time rs ns last))) → TimesRise (rs ++ new ∷ []) ns since last
rise_added [] new ns since last rise next = (next, tt)
rise_added (r ∷ rs) new ns since last rise next = (rise.0, rise_added rs new ns since (cond (same r.namespace ns) r.at last) rise.1 next)

pub none_taken : (m : Master) (since : Id → ℕ) → m.scheduled ≡ [] → IsTaken [] since m
none_taken m since none = record {
  past = λ r there. absurd there;
  since_is = λ s listed. absurd (subst (In s) none listed);
  rise = λ ns since late. tt;
  each = λ s listed. absurd (subst (In s) none listed);
  last = λ s listed. absurd (subst (In s) none listed);
}

-- What a step makes of snapshots and scheduled namespaces

-- a scheduled namespace goes on, or is so from the stamp on
pub record GoesOnAs (m : Master) (s : ScheduledNamespace) : Type 0 where
  pub was : ScheduledNamespace
  pub listed : In was m.scheduled
  pub namespace_is : was.namespace ≡ s.namespace
  pub since_is : was.since ≡ s.since
  pub last_is : was.last ≡ s.last

pub record IsFirst (m : Master) (n : ℕ) (s : ScheduledNamespace) : Type 0 where
  pub since : m.clock < s.since
  pub since_is : s.since ≡ n
  pub last_is : s.last ≡ None
  pub unscheduled : scheduled_in m.scheduled s.namespace ≡ None

-- a kept snapshot was kept before
abbrev IsKnown : Master → SnapshotRecord → Type 0
IsKnown m q = (r : SnapshotRecord) × (In r m.snapshots × (r.id ≡ q.id))

-- no snapshot is made
pub record NoneMade (m : Master) (n : ℕ) (k : Master) : Type 0 where
  pub later : m.clock ≤ k.clock
  pub known : (q : SnapshotRecord) → In q k.snapshots → IsKnown m q
  pub scheduled : (s : ScheduledNamespace) → In s k.scheduled → GoesOnAs m s ⊎ IsFirst m n s

-- one is made
pub record OneMade (m k : Master) : Type 0 where
  pub namespace : Id
  pub schedule : Id
  pub at : ℕ
  pub later : m.clock < at
  pub clock_is : k.clock ≡ at
  pub snapshots_are : k.snapshots ≡ m.snapshots ++ new_snapshot m namespace schedule at ∷ []
  pub scheduled_are : k.scheduled ≡ set_last_of namespace at m.scheduled

abbrev Makes : Master → ℕ → Master → Type 0
Makes m n k = NoneMade m n k ⊎ OneMade m k

they_go : (m : Master) (n : ℕ) (s : ScheduledNamespace) → In s m.scheduled → GoesOnAs m s ⊎ IsFirst m n s
they_go m n s listed = inl (record { was = s; listed = listed; namespace_is = refl; since_is = refl; last_is = refl })

makes_none : (m : Master) (n : ℕ) (k : Master) → m.clock ≤ k.clock → k.snapshots ≡ m.snapshots → k.scheduled ≡ m.scheduled → Makes m n k
makes_none m n k later snapshots scheduled = inl (record {
  later = later;
  known = λ q there. (q, (subst (In q) snapshots there, refl));
  scheduled = λ s listed. they_go m n s (subst (In s) scheduled listed);
})

begun_goes : (found : Option ScheduledNamespace) (m : Master) (ns : Id) (n : ℕ) → m.clock < n → scheduled_in m.scheduled ns ≡ found → (s : ScheduledNamespace) → In s (begin_scheduled found ns n m.scheduled) → GoesOnAs m s ⊎ IsFirst m n s
begun_goes (Some q) m ns n before e s listed = they_go m n s listed
begun_goes None m ns n before e s listed = elim (in_append m.scheduled (newly ns n ∷ []) s listed) [
  | inl old ↦ they_go m n s old
  | inr new ↦ elim new [ inl is ↦ inr (subst (IsFirst m n) is (record { since = before; since_is = refl; last_is = refl; unscheduled = e })) | inr none ↦ absurd none ]
]

-- scheduled namespaces go on where a snapshot becomes complete
reached_goes : (m : Master) (n : ℕ) (r : SnapshotRecord) (s : ScheduledNamespace)
    → In s (map {A = ScheduledNamespace} (λ k. record k { complete = cond (same k.namespace r.namespace) (Some r.at) k.complete }) m.scheduled) → GoesOnAs m s ⊎ IsFirst m n s
reached_goes m n r = in_mapped {A = ScheduledNamespace} {B = ScheduledNamespace} _ (λ s. GoesOnAs m s ⊎ IsFirst m n s) m.scheduled
    (λ k listed. inl (record {
      was = k;
      listed = listed;
      namespace_is = refl;
      since_is = refl;
      last_is = refl;
    }))

mapped_known : (m : Master) (complete : SnapshotRecord → Bool) (listed : SnapshotRecord → List Listed) (q : SnapshotRecord) → In q (map {A = SnapshotRecord} (λ x. record x { complete = complete x; listed = listed x }) m.snapshots) → IsKnown m q
mapped_known m complete listed = in_mapped {A = SnapshotRecord} {B = SnapshotRecord} _ (IsKnown m) m.snapshots (λ x there. (x, (there, refl)))

restoration_makes : (state : RestorationState) (r : RestorationRecord) (n : ℕ) (m : Master) → m.clock < n → Makes m n (restoration_moved state r n m)
restoration_makes Fencing r n m before = inr (record { namespace = r.namespace; schedule = r.schedule; at = n; later = before; clock_is = refl; snapshots_are = refl; scheduled_are = refl })
restoration_makes _ r n m before = makes_none m n _ (le_of_lt before) refl refl

own_makes : (s : Option Schedule) (c : CloneRecord) (n : ℕ) (m : Master) → m.clock < n → Makes m n (clone_goes Accepted None c n m (with_clones_snapshot s c n m))
own_makes None c n m before = makes_none m n _ (le_of_lt before) refl refl
own_makes (Some s) c n m before = inr (record { namespace = c.source; schedule = s.id; at = n; later = before; clock_is = refl; snapshots_are = refl; scheduled_are = refl })

begins_makes : (served : Option SnapshotRecord) (c : CloneRecord) (n : ℕ) (m : Master) → m.clock < n → Makes m n (begins_clone served c n m)
begins_makes (Some s) c n m before = makes_none m n _ (le_of_lt before) refl refl
begins_makes None c n m before = own_makes (schedule_of m.schedules c.source) c n m before

clone_makes : (state : CloneState) (c : CloneRecord) (n : ℕ) (m : Master) → m.clock < n → Makes m n (clone_moved state c n m)
clone_makes Accepted c n m before = begins_makes (serving_clone m c) c n m before
clone_makes _ c n m before = makes_none m n _ (le_of_lt before) refl refl

of_found : {A : Type 0} (m : Master) (n : ℕ) (move : A → Master) (idle : Master) (o : Option A) → ((a : A) → o ≡ Some a → Makes m n (move a)) → Makes m n idle → Makes m n (option_map_or move o idle)
of_found m n move idle None each none = none
of_found m n move idle (Some a) each none = each a refl

moved_makes : (kind : Kind) (id : Id) (n : ℕ) (m : Master) → m.clock < n → Makes m n (moved_of kind id n m)
moved_makes Snapshot id n m before = of_found m n (λ r. completed r n m) (record m { clock = n }) (unfinished_snapshot m.snapshots id)
    (λ r e. inl (record { later = le_of_lt before; known = mapped_known m _ _; scheduled = reached_goes m n r }))
    (makes_none m n _ (le_of_lt before) refl refl)
moved_makes Restoration id n m before = of_found m n (λ r. restoration_moved r.state r n m) (record m { clock = n }) (unfinished_restoration m.restorations id) (λ r e. restoration_makes r.state r n m before) (makes_none m n _ (le_of_lt before) refl refl)
moved_makes Clone id n m before = of_found m n (λ c. clone_moved c.state c n m) (record m { clock = n }) (unfinished_clone m.clones id) (λ c e. clone_makes c.state c n m before) (makes_none m n _ (le_of_lt before) refl refl)
moved_makes _ id n m before = makes_none m n _ (le_of_lt before) refl refl

acked_makes : (kind : Kind) (operation : Id) (slot n : ℕ) (m : Master) → m.clock < n → Makes m n (acked_by kind operation slot n m)
acked_makes Snapshot operation slot n m before = inl (record { later = le_of_lt before; known = mapped_known m (λ x. x.complete) _; scheduled = they_go m n })
acked_makes _ operation slot n m before = makes_none m n _ (le_of_lt before) refl refl

removed_makes : (kind : Kind) (target : Id) (n : ℕ) (m : Master) → m.clock < n → Makes m n (removed_of kind target n m)
removed_makes Snapshot target n m before = inl (record {
  later = le_of_lt before;
  known = λ q there. (q, ((filter_in m.snapshots (λ r. not (same r.id target)) q there).0, refl));
  scheduled = they_go m n;
})
removed_makes _ target n m before = makes_none m n _ (le_of_lt before) refl refl

told_makes : (act : MasterAct) (n : ℕ) (m : Master) → m.clock < n → Makes m n (master_effect act n m)
told_makes (MakesSchedule ns interval retention) n m before =
    inl (record { later = le_of_lt before; known = λ q there. (q, (there, refl)); scheduled = begun_goes (scheduled_in m.scheduled ns) m ns n before refl })
told_makes (DeletesSchedule schedule) n m before =
    inl (record { later = le_of_lt before; known = λ q there. (q, (there, refl)); scheduled = λ s listed. they_go m n s (filter_in m.scheduled _ s listed).0 })
told_makes (TakesSnapshot s) n m before = inr (record { namespace = s.namespace; schedule = s.id; at = n; later = before; clock_is = refl; snapshots_are = refl; scheduled_are = refl })
told_makes (Acks operation slot) n m before = acked_makes operation.kind operation slot n m before
told_makes (Moves operation) n m before = moved_makes operation.kind operation n m before
told_makes (Removes target) n m before = removed_makes target.kind target n m before
told_makes _ n m before = makes_none m n _ (le_of_lt before) refl refl

-- The list goes on

none_since : (rs : List SnapshotRecord) (drawn : ℕ) → ((q : SnapshotRecord) → In q rs → q.id.number ≤ drawn) → filter (λ r. ltb drawn r.id.number) rs ≡ []
none_since [] drawn by = refl
none_since (r ∷ rs) drawn by =
    let le = by r (inl refl) in
    let no_ : ltb drawn r.id.number ≡ false = grind (arith, nat_tests) in
    rw no_ (none_since rs drawn (λ q there. by q (inr there)))

one_since : (rs : List SnapshotRecord) (new : SnapshotRecord) (drawn : ℕ) → ((q : SnapshotRecord) → In q rs → q.id.number ≤ drawn) → drawn < new.id.number → filter (λ r. ltb drawn r.id.number) (rs ++ new ∷ []) ≡ new ∷ []
one_since [] new drawn by above = let yes_ : ltb drawn new.id.number ≡ true = grind (arith, nat_tests) in rw yes_ refl
one_since (r ∷ rs) new drawn by above =
    let le = by r (inl refl) in
    let no_ : ltb drawn r.id.number ≡ false = grind (arith, nat_tests) in
    rw no_ (one_since rs new drawn (λ q there. by q (inr there)) above)

behind : (taken : List SnapshotRecord) → taken ++ [] ≡ taken
behind [] = refl
behind (r ∷ rs) = ap (λ qs. r ∷ qs) (behind rs)

-- a first schedule is later than all of them
first_last : (taken : List SnapshotRecord) (since : Id → ℕ) (m : Master) (n : ℕ) (s : ScheduledNamespace) → IsTaken taken since m → IsFirst m n s → before_next s.since (last_time taken s.namespace 0) ≡ after_of s
first_last taken since m n s h first =
    let past : last_time taken s.namespace 0 ≤ m.clock = last_past taken s.namespace 0 m.clock h.past (omega arith) in
    let late = first.since in
    let less : ltb (last_time taken s.namespace 0) s.since ≡ true = grind (arith, nat_tests) in
    ap (λ b. cond b (s.since - 1) (last_time taken s.namespace 0)) less ∙ ap (λ l. or_before l s.since) (sym first.last_is)

-- the scheduled namespaces are those that have schedules
pub scheduled_are : (m : Master) (changes : List Change) (ns : Id) → OperationsGood m changes → is_some (scheduled_in m.scheduled ns) ≡ is_some (schedule_of m.schedules ns)
scheduled_are m changes ns ops = none_or_some (schedule_of m.schedules ns)
    (λ none. none_or_some (scheduled_in m.scheduled ns)
    (λ unscheduled. ap is_some unscheduled ∙ sym (ap is_some none))
    (λ k some.
    let found = find_is (λ q. same q.namespace ns) m.scheduled k some in
    let has = (ops.scheduled k found.listed).has in
    absurd (true≢false (sym (ap (λ id. same id ns) has.1.1 ∙ found.passes) ∙ find_none (λ q. same q.namespace ns) m.schedules none has.0 has.1.0))))
    (λ t some. none_or_some (scheduled_in m.scheduled ns)
    (λ none.
    let found = find_is (λ q. same q.namespace ns) m.schedules t some in
    let k = (ops.schedules t found.listed).scheduled in
    absurd (true≢false (sym (ap (λ id. same id ns) k.1.1.0 ∙ found.passes) ∙ find_none (λ q. same q.namespace ns) m.scheduled none k.0 k.1.0)))
    (λ k there. ap is_some there ∙ sym (ap is_some some)))

-- since when namespaces have schedules after an entry
abbrev pub since_after : Master → ℕ → (Id → ℕ) → Id → ℕ
since_after m n since ns = cond (is_some (schedule_of m.schedules ns)) (since ns) n

since_stays : (m : Master) (changes : List Change) (n : ℕ) (since : Id → ℕ) (s was : ScheduledNamespace) → OperationsGood m changes → In was m.scheduled → was.namespace ≡ s.namespace → was.since ≡ since was.namespace
    → was.since ≡ since_after m n since s.namespace
since_stays m changes n since s was ops listed namespace_is is =
    let has = (ops.scheduled was listed).has in
    let some : is_some (schedule_of m.schedules s.namespace) ≡ true = none_or_some (schedule_of m.schedules s.namespace)
    (λ none. absurd (true≢false (sym (ap (λ id. same id s.namespace) (has.1.1 ∙ namespace_is) ∙ same_self s.namespace) ∙ find_none (λ q. same q.namespace s.namespace) m.schedules none has.0 has.1.0)))
    (λ t some. ap is_some some) in
    is ∙ ap since namespace_is ∙ ap (λ b. cond b (since s.namespace) n) (sym some)

since_begins : (m : Master) (changes : List Change) (n : ℕ) (since : Id → ℕ) (s : ScheduledNamespace) → OperationsGood m changes → IsFirst m n s → s.since ≡ since_after m n since s.namespace
since_begins m changes n since s ops first =
    let none : is_some (schedule_of m.schedules s.namespace) ≡ false = sym (scheduled_are m changes s.namespace ops) ∙ ap is_some first.unscheduled in
    first.since_is ∙ ap (λ b. cond b (since s.namespace) n) (sym none)

none_goes : (ps : Parts) (activity : List Interval) (changes : List Change) (taken : List SnapshotRecord) (since : Id → ℕ) (n : ℕ) (k : Master) → Inv ps activity changes → IsTaken taken since ps.master → NoneMade ps.master n k
    → IsTaken taken (since_after ps.master n since) k
none_goes ps activity changes taken since n k inv h none =
    let m = ps.master in
    record {
      past = λ r there. le_trans (h.past r there) none.later;
      since_is = λ s listed. elim (none.scheduled s listed) [
        | inl q ↦ sym q.since_is ∙ since_stays m changes n since s q.was inv.operations q.listed q.namespace_is (h.since_is q.was q.listed)
        | inr first ↦ since_begins m changes n since s inv.operations first
      ];
      rise = λ ns from late. (let le = none.later in h.rise ns from (omega (arith, le, late)));
      each = λ s listed. elim (none.scheduled s listed) [
        | inl q ↦ subst (λ ns. TimesRise taken ns s.since 0) q.namespace_is (subst (λ from. TimesRise taken q.was.namespace from 0) q.since_is (h.each q.was q.listed))
        | inr first ↦ h.rise s.namespace s.since first.since
      ];
      last = λ s listed. elim (none.scheduled s listed) [
        | inl q ↦ ap (λ ns. before_next s.since (last_time taken ns 0)) (sym q.namespace_is) ∙ ap (λ from. before_next from (last_time taken q.was.namespace 0)) (sym q.since_is) ∙ h.last q.was q.listed
            ∙ ap (λ l. or_before l q.was.since) q.last_is ∙ ap (or_before s.last) q.since_is
        | inr first ↦ first_last taken since m n s h first
      ];
    }

-- a namespace is scheduled since before the clock
since_past : (ps : Parts) (activity : List Interval) (changes : List Change) (s : ScheduledNamespace) → Inv ps activity changes → In s ps.master.scheduled → s.since ≤ ps.master.clock
since_past ps activity changes s inv listed =
    let h = (inv.operations.scheduled s listed).has in
    let g = inv.operations.schedules h.0 h.1.0 in
    let k = g.scheduled in
    let one : k.0 ≡ s = inv.operations.apart.one_scheduled k.0 s k.1.0 listed (k.1.1.0 ∙ h.1.1) in
    le_trans (subst (λ q. q.since ≤ h.0.kept_low) one k.1.1.1) g.begun

one_goes_last : (taken : List SnapshotRecord) (since : Id → ℕ) (ps : Parts) (activity : List Interval) (changes : List Change) (k : Master) (s : ScheduledNamespace) (made : OneMade ps.master k) → Inv ps activity changes → IsTaken taken since ps.master → In s ps.master.scheduled
    → before_next s.since (last_time (taken ++ new_snapshot ps.master made.namespace made.schedule made.at ∷ []) s.namespace 0) ≡ or_before (cond (same s.namespace made.namespace) (Some made.at) s.last) s.since
one_goes_last taken since ps activity changes k s made inv h listed =
    let m = ps.master in
    let new = new_snapshot m made.namespace made.schedule made.at in
    let is = last_added taken new s.namespace 0 in
    either_way (same s.namespace made.namespace)
    (λ b.
    let mine : made.namespace ≡ s.namespace = sym (same_equal s.namespace made.namespace b) in
    let same_ : same made.namespace s.namespace ≡ true = ap (λ id. same id s.namespace) mine ∙ same_self s.namespace in
    let from = since_past ps activity changes s inv listed in
    let at = made.later in
    let late : ltb made.at s.since ≡ false = grind (arith, nat_tests) in
    ap (before_next s.since) (is ∙ ap (λ c. cond c made.at (last_time taken s.namespace 0)) same_) ∙ ap (λ c. cond c (s.since - 1) made.at) late ∙ ap (λ c. or_before (cond c (Some made.at) s.last) s.since) (sym b))
    (λ b.
    let other : same made.namespace s.namespace ≡ false = not_same made.namespace s.namespace (λ e. (let t : true ≡ false = sym (ap (λ id. same s.namespace id) e ∙ same_self s.namespace) ∙ b in grind arith)) in
    ap (before_next s.since) (is ∙ ap (λ c. cond c made.at (last_time taken s.namespace 0)) other) ∙ h.last s listed ∙ ap (λ c. or_before (cond c (Some made.at) s.last) s.since) (sym b))

one_goes : (taken : List SnapshotRecord) (since : Id → ℕ) (n : ℕ) (ps : Parts) (activity : List Interval) (changes : List Change) (k : Master) (made : OneMade ps.master k) → Inv ps activity changes → IsTaken taken since ps.master
    → IsTaken (taken ++ new_snapshot ps.master made.namespace made.schedule made.at ∷ []) (since_after ps.master n since) k
one_goes taken since n ps activity changes k made inv h =
    let m = ps.master in
    let new = new_snapshot m made.namespace made.schedule made.at in
    let at = made.later in
    let clock : made.at ≡ k.clock = sym made.clock_is in
    let before : (ns : Id) → last_time taken ns 0 < made.at = λ ns. (let le : last_time taken ns 0 ≤ m.clock = last_past taken ns 0 m.clock h.past (omega arith) in omega (arith, le, at)) in
    record {
      past = λ r there. elim (in_append taken (new ∷ []) r there) [
        | inl old ↦ (let le = h.past r old in omega (arith, le, at, clock))
        | inr here ↦ elim here [ inl is ↦ subst (λ x. x ≤ k.clock) (ap (λ x. x.at) is) (subst (λ c. made.at ≤ c) clock (le_refl made.at)) | inr none ↦ absurd none ]
      ];
      since_is = λ s listed. in_mapped {A = ScheduledNamespace} {B = ScheduledNamespace} _ (λ q. q.since ≡ since_after m n since q.namespace) m.scheduled
          (λ q there. since_stays m changes n since q q inv.operations there refl (h.since_is q there))
          s (subst (In s) made.scheduled_are listed);
      rise = λ ns since late. rise_added taken new ns since 0 (h.rise ns since (omega (arith, at, clock, late)))
          (λ mine. (before ns, λ soon. absurd (omega (arith, clock, late, soon))));
      each = λ s listed. in_mapped {A = ScheduledNamespace} {B = ScheduledNamespace} _ (λ q. TimesRise (taken ++ new ∷ []) q.namespace q.since 0) m.scheduled
          (λ q there. rise_added taken new q.namespace q.since 0 (h.each q there)
          (λ mine. (
            before q.namespace,
            λ soon.
                ap (after_in m.scheduled) (same_equal made.namespace q.namespace mine) ∙ after_in_is m.scheduled q there inv.operations.apart.one_scheduled ∙ sym (h.last q there),
          )))
          s (subst (In s) made.scheduled_are listed);
      last = λ s listed. in_mapped {A = ScheduledNamespace} {B = ScheduledNamespace} _ (λ q. before_next q.since (last_time (taken ++ new ∷ []) q.namespace 0) ≡ after_of q) m.scheduled
          (λ q there. one_goes_last taken since ps activity changes k q made inv h there)
          s (subst (In s) made.scheduled_are listed);
    }

makes_goes : (taken : List SnapshotRecord) (since : Id → ℕ) (n : ℕ) (ps : Parts) (activity : List Interval) (changes : List Change) (k : Master) → Inv ps activity changes → IsTaken taken since ps.master → Makes ps.master n k
    → IsTaken (taken ++ snapshots_since ps.master k) (since_after ps.master n since) k
makes_goes taken since n ps activity changes k inv h (inl none) =
    let m = ps.master in
    let by : (q : SnapshotRecord) → In q k.snapshots → q.id.number ≤ m.drawn.snapshots = λ q there. (let r = none.known q there in subst (λ id. id.number ≤ m.drawn.snapshots) r.1.1 (inv.operations.snapshots r.0 r.1.0).drawn) in
    subst (λ rs. IsTaken rs (since_after m n since) k) (sym (ap (λ rs. taken ++ rs) (none_since k.snapshots m.drawn.snapshots by) ∙ behind taken)) (none_goes ps activity changes taken since n k inv h none)
makes_goes taken since n ps activity changes k inv h (inr made) =
    let m = ps.master in
    let new = new_snapshot m made.namespace made.schedule made.at in
    let by : (q : SnapshotRecord) → In q m.snapshots → q.id.number ≤ m.drawn.snapshots = λ q there. (inv.operations.snapshots q there).drawn in
    let is : snapshots_since m k ≡ new ∷ [] = ap (λ rs. filter (λ r. ltb m.drawn.snapshots r.id.number) rs) made.snapshots_are ∙ one_since m.snapshots new m.drawn.snapshots by (next m.drawn.snapshots) in
    subst (λ rs. IsTaken rs (since_after m n since) k) (sym (ap (λ rs. taken ++ rs) is)) (one_goes taken since n ps activity changes k made inv h)
  where
    next : (a : ℕ) → a < a + 1
    next a = omega arith

-- all snapshots that were ever taken follow each other after an act, too
pub taken_go_on : (act : Act) (o : Outcome) (n : ℕ) (ps : Parts) (activity : List Interval) (changes : List Change) (taken : List SnapshotRecord) (since : Id → ℕ) → Later (slots_of act) ps n → Inv ps activity changes → IsTaken taken since ps.master
    → IsTaken (taken ++ snapshots_since ps.master (told act o n ps).master) (since_after ps.master n since) (told act o n ps).master
taken_go_on act o n ps activity changes taken since later inv h =
    makes_goes taken since n ps activity changes (told act o n ps).master inv h
    (cond_both (has (slots_of act) 0) (master_effect o.master n ps.master) ps.master (Makes ps.master n)
    (λ is. told_makes o.master n ps.master (later 0 is)) (λ is. makes_none ps.master n ps.master (le_refl _) refl refl))
