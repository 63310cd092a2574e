-- How the times of snapshots follow each other, where schedules are made and deleted, a snapshot is made, and one is complete.
use Rattle.std.proofs.Common.{◌&&◌, ◌+◌, ◌-◌, ◌<◌, ◌≤◌, ◌≡◌, ◌∷◌, ◌++◌, ◌∙◌, ◌⊎◌, ℕ, List, [], true, false, cond, Option, Some, None, map, not, refl, sym, ap, subst, inl, inr, arith, le_refl, le_trans}
use Rattle.std.proofs.lemmas.Bool.{true≢false}
use Rattle.row_values.specs.Ids.{Id, same}
use Rattle.row_values.specs.Elements.{In}
use Rattle.model.specs.Activity.{Interval}
use Rattle.model.specs.Changed.{begin_scheduled}
use Rattle.model.specs.Coordination.{unfinished_snapshot}
use Rattle.model.specs.Journal.{Change}
use Rattle.model.specs.Lists.{new_snapshot, set_last_of}
use Rattle.model.specs.Parts.{Master, Parts}
use Rattle.model.specs.Records.{ScheduledNamespace, SnapshotRecord, scheduled_in}
use Rattle.model.specs.Schedules.{after_in, after_of, complete_to, or_before}
use Rattle.law_store.proofs.Keys.{either_way}
use Rattle.law_invariants.specs.Invariant.{Inv}
use Rattle.law_invariants.specs.Operations.{OperationsGood}
use Rattle.law_invariants.proofs.Finding.{both_pass, in_append, in_first, in_mapped, in_second, not_passing, same_equal, same_self}
use Rattle.law_invariants.proofs.Ticking.{not_true}
use Rattle.law_retention.specs.Facts.{TimesFollow}
use Rattle.law_retention.proofs.Holding.{WasScheduled, WasTaken}
use Rattle.law_invariants.proofs.Bodies.{snapshot_alone}

-- snapshots that are kept were there
pub they_were_taken : (m : Master) (r : SnapshotRecord) → In r m.snapshots → WasTaken m r
they_were_taken m r there = record { was = r; kept = there; id_is = refl; after_is = refl; at_is = refl }

-- times follow by scheduled namespaces and snapshots alone
pub times_same : (m k : Master) (s : ScheduledNamespace) → k.snapshots ≡ m.snapshots → TimesFollow m s → TimesFollow k s
times_same m k s e times = record {
  complete = λ r inside of complete. times.complete r (subst (In r) e inside) of complete;
  unfinished = λ r inside of open_. times.unfinished r (subst (In r) e inside) of open_;
  last = λ none. times.last (λ r inside of open_. none r (subst (In r) (sym e) inside) of open_);
}

-- A first schedule

none_scheduled : (ks : List ScheduledNamespace) (ns : Id) (k : ScheduledNamespace) → scheduled_in ks ns ≡ None → In k ks → k.namespace ≡ ns → ⊥
none_scheduled [] ns k e inside is = inside
none_scheduled (q ∷ ks) ns k e inside is = either_way (same q.namespace ns)
    (λ b. let none : Some q ≡ None = rw b at e in cc)
    (λ b. elim inside [
      | inl here ↦ true≢false (sym (ap (λ x. same x.namespace ns) here ∙ ap (λ id. same id ns) is ∙ same_self ns) ∙ b)
      | inr later ↦ none_scheduled ks ns k (rw b at e) later is
    ])

abbrev pub newly : Id → ℕ → ScheduledNamespace
newly ns n = record { namespace = ns; since = n; last = None; complete = None }

-- a namespace that is scheduled from a stamp on has no unfinished snapshot, and no later one
newly_follows : (ps : Parts) (activity : List Interval) (changes : List Change) (k : Master) (ns : Id) (n : ℕ) → Inv ps activity changes → ps.master.clock < n → scheduled_in ps.master.scheduled ns ≡ None → k.snapshots ≡ ps.master.snapshots
    → TimesFollow k (newly ns n)
newly_follows ps activity changes k ns n inv before none e =
    let m = ps.master in
    record {
      complete = λ r inside of complete. (let past : r.at ≤ m.clock = (inv.operations.snapshots r (subst (In r) e inside)).past in past_by r.at m.clock n past before);
      unfinished = λ r inside of open_. absurd (let h = (inv.operations.snapshots r (subst (In r) e inside)).scheduled open_ in none_scheduled m.scheduled ns h.0 none h.1.0 (h.1.1.0 ∙ of));
      last = λ all. refl;
    }
  where
    past_by : (a c n : ℕ) → a ≤ c → c < n → a ≤ n - 1
    past_by a c n h g = omega arith

pub begun_was : (found : Option ScheduledNamespace) (m : Master) (ns : Id) (n : ℕ) → m.clock < n → (s : ScheduledNamespace) → In s (begin_scheduled found ns n m.scheduled) → WasScheduled m s ⊎ (m.clock ≤ complete_to s)
begun_was (Some q) m ns n before s listed = inl (record { was = s; listed = listed; namespace_is = refl; later = le_refl _ })
begun_was None m ns n before s listed = elim (in_append m.scheduled (newly ns n ∷ []) s listed) [
  | inl old ↦ inl (record { was = s; listed = old; namespace_is = refl; later = le_refl _ })
  | inr new ↦ elim new [ inl is ↦ inr (subst (λ x. m.clock ≤ complete_to x) is (less m.clock n before)) | inr none ↦ absurd none ]
]
  where
    less : (c n : ℕ) → c < n → c ≤ n - 1
    less c n h = omega arith

pub begun_follows : (found : Option ScheduledNamespace) (ps : Parts) (activity : List Interval) (changes : List Change) (k : Master) (ns : Id) (n : ℕ) → scheduled_in ps.master.scheduled ns ≡ found → Inv ps activity changes → ps.master.clock < n
    → k.snapshots ≡ ps.master.snapshots → ((s : ScheduledNamespace) → In s ps.master.scheduled → TimesFollow ps.master s) → (s : ScheduledNamespace) → In s (begin_scheduled found ns n ps.master.scheduled) → TimesFollow k s
begun_follows (Some q) ps activity changes k ns n found inv before e times s listed = times_same ps.master k s e (times s listed)
begun_follows None ps activity changes k ns n found inv before e times s listed = elim (in_append ps.master.scheduled (newly ns n ∷ []) s listed) [
  | inl old ↦ times_same ps.master k s e (times s old)
  | inr new ↦ elim new [ inl is ↦ subst (TimesFollow k) is (newly_follows ps activity changes k ns n inv before found e) | inr none ↦ absurd none ]
]

-- A snapshot is made

pub after_in_is : (ks : List ScheduledNamespace) (s : ScheduledNamespace) → In s ks → ((q r : ScheduledNamespace) → In q ks → In r ks → q.namespace ≡ r.namespace → q ≡ r) → after_in ks s.namespace ≡ after_of s
after_in_is [] s inside one = absurd inside
after_in_is (q ∷ ks) s inside one = either_way (same q.namespace s.namespace)
    (λ b. rw b (ap after_of (one q s (inl refl) inside (same_equal q.namespace s.namespace b))))
    (λ b. rw b (elim inside [
      | inl here ↦ absurd (true≢false (sym (ap (λ x. same x.namespace s.namespace) here ∙ same_self s.namespace) ∙ b))
      | inr later ↦ after_in_is ks s later (λ x y p q. one x y (inr p) (inr q))
    ]))

pub lasts_were : (m : Master) (ns : Id) (n : ℕ) (s : ScheduledNamespace) → In s (set_last_of ns n m.scheduled) → WasScheduled m s ⊎ (m.clock ≤ complete_to s)
lasts_were m ns n = in_mapped {A = ScheduledNamespace} {B = ScheduledNamespace} _ (λ s. WasScheduled m s ⊎ (m.clock ≤ complete_to s)) m.scheduled
    (λ s listed. inl (record { was = s; listed = listed; namespace_is = refl; later = le_refl _ }))

pub added_taken : (m : Master) (ns schedule : Id) (n : ℕ) (r : SnapshotRecord) → In r (m.snapshots ++ new_snapshot m ns schedule n ∷ []) → WasTaken m r ⊎ (m.drawn.snapshots < r.id.number)
added_taken m ns schedule n r inside = elim (in_append m.snapshots (new_snapshot m ns schedule n ∷ []) r inside) [
  | inl old ↦ inl (they_were_taken m r old)
  | inr new ↦ elim new [ inl is ↦ inr (subst (λ x. m.drawn.snapshots < x.id.number) is (next m.drawn.snapshots)) | inr none ↦ absurd none ]
]
  where
    next : (a : ℕ) → a < a + 1
    next a = omega arith

-- what the parts before and after say of a snapshot that is made
pub record IsMade (ps : Parts) (activity : List Interval) (changes : List Change) (k : Master) (later : List Change) (ns schedule : Id) (n : ℕ) : Type 0 where
  pub inv : Inv ps activity changes
  pub times : (s : ScheduledNamespace) → In s ps.master.scheduled → TimesFollow ps.master s
  pub ops : OperationsGood k later
  pub snapshots_are : k.snapshots ≡ ps.master.snapshots ++ new_snapshot ps.master ns schedule n ∷ []
  pub scheduled_are : k.scheduled ≡ set_last_of ns n ps.master.scheduled

none_unfinished : (ps : Parts) (activity : List Interval) (changes : List Change) (k : Master) (later : List Change) (ns schedule : Id) (n : ℕ) → IsMade ps activity changes k later ns schedule n
    → (q : SnapshotRecord) → In q ps.master.snapshots → q.namespace ≡ ns → q.complete ≡ false → ⊥
none_unfinished ps activity changes k later ns schedule n h q kept of open_ =
    let m = ps.master in
    let new = new_snapshot m ns schedule n in
    let there : In q k.snapshots = subst (In q) (sym h.snapshots_are) (in_first m.snapshots (new ∷ []) q kept) in
    let made : In new k.snapshots = subst (In new) (sym h.snapshots_are) (in_second m.snapshots (new ∷ []) new (inl refl)) in
    let one : q ≡ new = h.ops.apart.one_snapshot q new there made open_ refl of in
    let number : q.id.number ≡ m.drawn.snapshots + 1 = ap (λ x. x.id.number) one in
    let drawn = (h.inv.operations.snapshots q kept).drawn in
    omega (arith, number, drawn)

made_follows_one : (ps : Parts) (activity : List Interval) (changes : List Change) (k : Master) (later : List Change) (ns schedule : Id) (n : ℕ) → IsMade ps activity changes k later ns schedule n → (s : ScheduledNamespace) → In s ps.master.scheduled
    → TimesFollow k (record s { last = cond (same s.namespace ns) (Some n) s.last })
made_follows_one ps activity changes k later ns schedule n h s listed =
    let m = ps.master in
    let new = new_snapshot m ns schedule n in
    let times = h.times s listed in
    let split : (r : SnapshotRecord) → In r k.snapshots → In r m.snapshots ⊎ In r (new ∷ []) = λ r inside. in_append m.snapshots (new ∷ []) r (subst (In r) h.snapshots_are inside) in
    record {
      complete = λ r inside of complete. elim (split r inside) [
        | inl old ↦ times.complete r old of complete
        | inr made ↦ elim made [ inl is ↦ absurd (true≢false (sym complete ∙ ap (λ x. x.complete) (sym is))) | inr none ↦ absurd none ]
      ];
      unfinished = λ r inside of open_. elim (split r inside) [
        | inl old ↦ times.unfinished r old of open_
        | inr made ↦ elim made [
          | inl is ↦ (
              let mine : ns ≡ s.namespace = ap (λ x. x.namespace) is ∙ of in
              let last = times.last (λ q kept of_q left. none_unfinished ps activity changes k later ns schedule n h q kept (of_q ∙ sym mine) left) in
              ap (λ x. x.after) (sym is) ∙ ap (after_in m.scheduled) mine ∙ after_in_is m.scheduled s listed h.inv.operations.apart.one_scheduled ∙ last)
          | inr none ↦ absurd none
        ]
      ];
      last = λ none. either_way (same s.namespace ns)
          (λ b. absurd (none new (subst (In new) (sym h.snapshots_are) (in_second m.snapshots (new ∷ []) new (inl refl))) (sym (same_equal s.namespace ns b)) refl))
          (λ b. ap (λ c. or_before (cond c (Some n) s.last) s.since) b
          ∙ times.last (λ q kept of left. none q (subst (In q) (sym h.snapshots_are) (in_first m.snapshots (new ∷ []) q kept)) of left));
    }

pub made_follows : (ps : Parts) (activity : List Interval) (changes : List Change) (k : Master) (later : List Change) (ns schedule : Id) (n : ℕ) → IsMade ps activity changes k later ns schedule n → (s : ScheduledNamespace) → In s k.scheduled → TimesFollow k s
made_follows ps activity changes k later ns schedule n h s listed =
    in_mapped {A = ScheduledNamespace} {B = ScheduledNamespace} (λ q. record q { last = cond (same q.namespace ns) (Some n) q.last }) (TimesFollow k) ps.master.scheduled
    (λ q there. made_follows_one ps activity changes k later ns schedule n h q there) s (subst (In s) h.scheduled_are listed)

-- A snapshot is complete

pub record IsUnfinished (rs : List SnapshotRecord) (id : Id) (r : SnapshotRecord) : Type 0 where
  pub kept : In r rs
  pub id_is : r.id ≡ id
  pub open_is : r.complete ≡ false

pub unfinished_found : (rs : List SnapshotRecord) (id : Id) (r : SnapshotRecord) → unfinished_snapshot rs id ≡ Some r → IsUnfinished rs id r
unfinished_found [] id r e = cc
unfinished_found (q ∷ rs) id r e = either_way (same q.id id && not q.complete)
    (λ b.
    let first : Some q ≡ Some r = rw b at e in
    let is : q ≡ r = cc in
    let both = both_pass (same q.id id) (not q.complete) b in
    subst (IsUnfinished (q ∷ rs) id) is (record { kept = inl refl; id_is = same_equal q.id id both.0; open_is = not_true q.complete both.1 }))
    (λ b. let rest = unfinished_found rs id r (rw b at e) in record { kept = inr rest.kept; id_is = rest.id_is; open_is = rest.open_is })

-- the scheduled namespace, and a snapshot, as the move leaves them
abbrev pub reached : SnapshotRecord → ScheduledNamespace → ScheduledNamespace
reached r s = record s { complete = cond (same s.namespace r.namespace) (Some r.at) s.complete }

reached_later : (ps : Parts) (activity : List Interval) (changes : List Change) (r : SnapshotRecord) (s : ScheduledNamespace) → Inv ps activity changes → In r ps.master.snapshots → r.complete ≡ false → In s ps.master.scheduled
    → TimesFollow ps.master s → complete_to s ≤ complete_to (reached r s)
reached_later ps activity changes r s inv kept open_ listed times = either_way (same s.namespace r.namespace)
    (λ b.
    let after : r.after ≡ complete_to s = times.unfinished r kept (sym (same_equal s.namespace r.namespace b)) open_ in
    let rises : r.after < r.at = (inv.operations.snapshots r kept).rises in
    let le : complete_to s ≤ r.at = omega (arith, after, rises) in
    subst (λ c. complete_to s ≤ or_before (cond c (Some r.at) s.complete) s.since) (sym b) le)
    (λ b. subst (λ c. complete_to s ≤ or_before (cond c (Some r.at) s.complete) s.since) (sym b) (le_refl _))

pub reached_were : (ps : Parts) (activity : List Interval) (changes : List Change) (r : SnapshotRecord) → Inv ps activity changes → In r ps.master.snapshots → r.complete ≡ false
    → ((s : ScheduledNamespace) → In s ps.master.scheduled → TimesFollow ps.master s) → (s : ScheduledNamespace) → In s (map (reached r) ps.master.scheduled) → WasScheduled ps.master s ⊎ (ps.master.clock ≤ complete_to s)
reached_were ps activity changes r inv kept open_ times =
    in_mapped {A = ScheduledNamespace} {B = ScheduledNamespace} (reached r) (λ s. WasScheduled ps.master s ⊎ (ps.master.clock ≤ complete_to s)) ps.master.scheduled
    (λ s listed. inl (record { was = s; listed = listed; namespace_is = refl; later = reached_later ps activity changes r s inv kept open_ listed (times s listed) }))

-- a snapshot after the move was there, and is complete if it was or is that one
pub record IsLater (m : Master) (r q : SnapshotRecord) : Type 0 where
  pub was : SnapshotRecord
  pub kept : In was m.snapshots
  pub id_is : was.id ≡ q.id
  pub namespace_is : was.namespace ≡ q.namespace
  pub after_is : was.after ≡ q.after
  pub at_is : was.at ≡ q.at
  pub complete_is : q.complete ≡ cond (same was.id r.id) true was.complete

-- each snapshot is still there
pub record IsStill (rs : List SnapshotRecord) (r q : SnapshotRecord) : Type 0 where
  pub now : SnapshotRecord
  pub kept : In now rs
  pub namespace_is : now.namespace ≡ q.namespace
  pub complete_is : now.complete ≡ cond (same q.id r.id) true q.complete

reached_follows_one : (ps : Parts) (activity : List Interval) (changes : List Change) (k : Master) (r : SnapshotRecord) (s : ScheduledNamespace) → Inv ps activity changes → In r ps.master.snapshots → r.complete ≡ false → In s ps.master.scheduled
    → TimesFollow ps.master s → ((q : SnapshotRecord) → In q k.snapshots → IsLater ps.master r q) → ((q : SnapshotRecord) → In q ps.master.snapshots → IsStill k.snapshots r q) → TimesFollow k (reached r s)
reached_follows_one ps activity changes k r s inv kept open_ listed times each still =
    let m = ps.master in
    let ops = inv.operations in
    let le = reached_later ps activity changes r s inv kept open_ listed times in
    let mine : (q : SnapshotRecord) → In q m.snapshots → same q.id r.id ≡ true → q ≡ r = λ q there e. snapshot_alone m.snapshots q r ops.apart.snapshots_rise there kept (same_equal q.id r.id e) in
    record {
      complete = λ q inside of complete.
          let h = each q inside in
          either_way (same h.was.id r.id)
          (λ b.
          let is : h.was ≡ r = mine h.was h.kept b in
          let here : same s.namespace r.namespace ≡ true = ap (λ id. same id r.namespace) (sym of ∙ sym h.namespace_is ∙ ap (λ x. x.namespace) is) ∙ same_self r.namespace in
          let at : q.at ≡ r.at = sym h.at_is ∙ ap (λ x. x.at) is in
          subst (λ c. q.at ≤ or_before (cond c (Some r.at) s.complete) s.since) (sym here) (subst (λ a. a ≤ r.at) (sym at) (le_refl r.at)))
          (λ b.
          let was : h.was.complete ≡ true = ap (λ c. cond c true h.was.complete) (sym b) ∙ sym h.complete_is ∙ complete in
          subst (λ a. a ≤ complete_to (reached r s)) h.at_is (le_trans (times.complete h.was h.kept (h.namespace_is ∙ of) was) le));
      unfinished = λ q inside of left.
          let h = each q inside in
          either_way (same h.was.id r.id)
          (λ b. absurd (true≢false (ap (λ c. cond c true h.was.complete) (sym b) ∙ sym h.complete_is ∙ left)))
          (λ b.
          let was : h.was.complete ≡ false = ap (λ c. cond c true h.was.complete) (sym b) ∙ sym h.complete_is ∙ left in
          let other : same s.namespace r.namespace ≡ false = not_passing (same s.namespace r.namespace) (λ here.
          let one : h.was ≡ r = ops.apart.one_snapshot h.was r h.kept kept was open_ (h.namespace_is ∙ of ∙ same_equal s.namespace r.namespace here) in
          true≢false (sym (ap (λ x. same x.id r.id) one ∙ same_self r.id) ∙ b)) in
          sym h.after_is ∙ times.unfinished h.was h.kept (h.namespace_is ∙ of) was ∙ ap (λ c. or_before (cond c (Some r.at) s.complete) s.since) (sym other));
      last = λ none. either_way (same s.namespace r.namespace)
          (λ b.
          let k_ = (ops.snapshots r kept).scheduled open_ in
          let one : k_.0 ≡ s = ops.apart.one_scheduled k_.0 s k_.1.0 listed (k_.1.1.0 ∙ sym (same_equal s.namespace r.namespace b)) in
          let last : s.last ≡ Some r.at = ap (λ x. x.last) (sym one) ∙ k_.1.1.1 in
          ap (λ l. or_before l s.since) last ∙ ap (λ c. or_before (cond c (Some r.at) s.complete) s.since) (sym b))
          (λ b. times.last (λ q there of left.
          let h = still q there in
          let apart : same q.id r.id ≡ false = not_passing (same q.id r.id) (λ e.
          let is : q ≡ r = mine q there e in
          true≢false (sym (ap (λ id. same id r.namespace) (sym of ∙ ap (λ x. x.namespace) is) ∙ same_self r.namespace) ∙ b)) in
          none h.now h.kept (h.namespace_is ∙ of) (h.complete_is ∙ ap (λ c. cond c true q.complete) apart ∙ left))
          ∙ ap (λ c. or_before (cond c (Some r.at) s.complete) s.since) (sym b));
    }

pub reached_follows : (ps : Parts) (activity : List Interval) (changes : List Change) (k : Master) (r : SnapshotRecord) → Inv ps activity changes → In r ps.master.snapshots → r.complete ≡ false
    → ((s : ScheduledNamespace) → In s ps.master.scheduled → TimesFollow ps.master s) → ((q : SnapshotRecord) → In q k.snapshots → IsLater ps.master r q) → ((q : SnapshotRecord) → In q ps.master.snapshots → IsStill k.snapshots r q)
    → (s : ScheduledNamespace) → In s (map (reached r) ps.master.scheduled) → TimesFollow k s
reached_follows ps activity changes k r inv kept open_ times each still =
    in_mapped {A = ScheduledNamespace} {B = ScheduledNamespace} (reached r) (TimesFollow k) ps.master.scheduled
    (λ s listed. reached_follows_one ps activity changes k r s inv kept open_ listed (times s listed) each still)
