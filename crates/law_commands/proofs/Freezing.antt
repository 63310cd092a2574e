-- A tablet that freezes its versions for a snapshot keeps what holds: the new set reads as the view does.
use Rattle.std.proofs.Common.{ℕ, ◌≡◌, ◌≢◌, ◌≤◌, ◌<◌, List, [], ◌∷◌, ◌++◌, Option, Some, None, true, false, inl, inr, refl, sym, ap, subst, ◌∙◌, arith, leb, leb-true, le_refl, le_trans, le_of_lt, lt_of_lt_of_le}
use Rattle.std.specs.Option.{is_some}
use Rattle.std.proofs.lemmas.Bool.{true≢false}
use Rattle.model.specs.Cluster.{code_of, KeyedRow, Id, same, In, is_open, before_end, in_range, owner_of, Interval, active_at, Listed, SnapshotRecord, RestorationRecord, RestorationState, Fencing, Snapshotting, Switching, Restoring, Releasing, Restored, CloneRecord, CloneState, Accepted, CloneSnapshot, Copying, CloneReleasing, CloneComplete, Master}
use Rattle.row_values.specs.Store.{Version, frozen}
use Rattle.model.specs.Journal.{Change}
use Rattle.model.specs.Tablets.{Tablet, Command, Mark, Body, Freeze, BodyKind, FenceKind, FreezeKind, RestoreFromKind, HideKind, CopyKind, ReleaseKind, FrozenSet, set_of, processed, kind_of, is_done}
use Rattle.model.specs.Stands.{HoldsFrozen, awaited_in}
use Rattle.law_store.proofs.Keys.{either_way}
use Rattle.law_store.proofs.Choosing.{frozen_reads, sorted_frozen}
use Rattle.law_store.proofs.Members.{keys_frozen}
use Rattle.law_invariants.specs.Invariant.{TurnsAt, is_awaited}
use Rattle.law_invariants.specs.Operations.{RestoringGood, RestorationStateGood}
use Rattle.law_invariants.specs.Orders.{FencePlace, ClonePlace, IsFence, IsSetOf, RestorationSlot, ReleasingSlot, CloneSlot}
use Rattle.law_invariants.proofs.Finding.{both_pass, in_append, filter_in, same_equal, same_self}
use Rattle.law_invariants.proofs.DoneMarks.{done_still, done_beside, done_now, done_either}
use Rattle.law_invariants.proofs.Commanded.{IsPending, BySnapshot, ByRestoration as RestorationPends, ByClone as ClonePends}
use Rattle.law_invariants.proofs.Awaiting.{awaits_is}
use Rattle.law_commands.proofs.Doing.{mark_of, mark_pending, orders_done, SetGood, same_restores, awaited_kept, set_good, slot_changed}
use Rattle.law_commands.proofs.Held.{Does, HoldsOf, obeyed_done, marked_after}
use Rattle.law_invariants.proofs.Bodies.{snapshot_alone, no_restoration_freeze, no_clone_freeze}

-- Sets

set_before : (fs : List FrozenSet) (g : FrozenSet) (id : Id) (f : FrozenSet) → set_of fs id ≡ Some f → set_of (fs ++ g ∷ []) id ≡ Some f
set_before [] g id f e = absurd (let q = e in grind arith)
set_before (h ∷ fs) g id f e = either_way (same h.snapshot id) (λ b. rw b (rw b at e)) (λ b. rw b (set_before fs g id f (rw b at e)))

set_behind : (fs : List FrozenSet) (g : FrozenSet) → ((f : FrozenSet) → In f fs → f.snapshot ≡ g.snapshot → ⊥) → set_of (fs ++ g ∷ []) g.snapshot ≡ Some g
set_behind [] g none = rw (same_self g.snapshot) refl
set_behind (h ∷ fs) g none = either_way (same h.snapshot g.snapshot)
    (λ b. absurd (none h (inl refl) (same_equal h.snapshot g.snapshot b)))
    (λ b. rw b (set_behind fs g (λ f isin. none f (inr isin))))

frozen_stamp : (vs : List Version) (at : ℕ) (v : Version) → In v (frozen at vs) → v.stamp ≤ at
frozen_stamp vs at v isin = leb-true v.stamp at (filter_in vs (λ w. leb w.stamp at) v isin).1

-- Marks of another kind than a freeze's

-- marks that are the same but for those of snapshots
pub record OnlyFrozen (done later : List Mark) : Type 0 where
  pub still : (id : Id) (kind : BodyKind) → is_done done id kind ≡ true → is_done later id kind ≡ true
  pub same_ : (id : Id) (kind : BodyKind) → kind ≢ FreezeKind → is_done later id kind ≡ is_done done id kind

fence_kept : (m : Master) (slot : ℕ) (table : Id) (done later : List Mark) (operation : Id) → OnlyFrozen done later → IsFence m slot table done operation → IsFence m slot table later operation
fence_kept m slot table done later operation marks (inl h) = inl (record { restoration = h.restoration; kept = h.kept; id_is = h.id_is; owned = h.owned; place = place_kept h.restoration.state h.restoration h.place })
  where
    place_kept : (state : RestorationState) (r : RestorationRecord) → FencePlace state r m slot done → FencePlace state r m slot later
    place_kept Fencing r p = p
    place_kept (Snapshotting point own) r p = p
    place_kept (Switching point serving) r p = p
    place_kept (Restoring point serving) r p = (p.0, (p.1.0, (p.1.1.0, elim p.1.1.1 [ inl restores ↦ inl restores | inr hides ↦ inr (marks.same_ r.id HideKind (λ e. let q : HideKind ≡ FreezeKind = e in grind arith) ∙ hides) ])))
    place_kept (Releasing point serving) r p = (p.0, (p.1.0, (p.1.1.0, marks.same_ r.id ReleaseKind (λ e. let q : ReleaseKind ≡ FreezeKind = e in grind arith) ∙ p.1.1.1)))
    place_kept (Restored point serving) r p = p
fence_kept m slot table done later operation marks (inr h) = inr (record { clone = h.clone; kept = h.kept; id_is = h.id_is; owned = h.owned; place = place_kept h.clone.state h.clone h.place })
  where
    place_kept : (state : CloneState) (c : CloneRecord) → ClonePlace state c slot done → ClonePlace state c slot later
    place_kept Accepted c p = p
    place_kept (CloneSnapshot own) c p = p
    place_kept (Copying serving at) c p = p
    place_kept (CloneReleasing serving at) c p = (p.0, (p.1.0, (p.1.1.0, marks.same_ c.id ReleaseKind (λ e. let q : ReleaseKind ≡ FreezeKind = e in grind arith) ∙ p.1.1.1)))
    place_kept (CloneComplete serving at) c p = p

-- the tablet with a later clock, other frozen sets, commands and marks
abbrev pub froze : Tablet → ℕ → List FrozenSet → List Command → List Mark → Tablet
froze t n sets inbox done = record t { clock = n; frozen = sets; inbox = inbox; done = done }

releasing_kept : (operation : Id) (l : Listed) (t : Tablet) (n : ℕ) (sets : List FrozenSet) (inbox : List Command) (done : List Mark) → OnlyFrozen t.done done → ReleasingSlot operation l t → ReleasingSlot operation l (froze t n sets inbox done)
releasing_kept operation l t n sets inbox done marks h = let e = marks.same_ operation ReleaseKind (λ e. let q : ReleaseKind ≡ FreezeKind = e in grind arith) in record {
  acked = λ a. marks.still operation ReleaseKind (h.acked a);
  serves = h.serves;
  released = λ did. h.released (sym e ∙ did);
  fenced = λ undone. h.fenced (sym e ∙ undone);
}

restoration_kept : (state : RestorationState) (m : Master) (changes : List Change) (r : RestorationRecord) (slot : ℕ) (t : Tablet) (n : ℕ) (sets : List FrozenSet) (inbox : List Command) (done : List Mark) → t.clock ≤ n → OnlyFrozen t.done done
    → RestorationSlot state m changes r slot t → RestorationSlot state m changes r slot (froze t n sets inbox done)
restoration_kept Fencing m changes r slot t n sets inbox done le marks h = record {
  acked = λ l isin is a. marks.still r.id FenceKind (h.acked l isin is a);
  fenced = λ did. h.fenced (sym (marks.same_ r.id FenceKind (λ e. let q : FenceKind ≡ FreezeKind = e in grind arith)) ∙ did);
}
restoration_kept (Snapshotting point own) m changes r slot t n sets inbox done le marks h = record { fenced = h.fenced }
restoration_kept (Switching point serving) m changes r slot t n sets inbox done le marks h = record { fenced = h.fenced; past = λ i opened is. le_trans (h.past i opened is) le }
restoration_kept (Restoring point serving) m changes r slot t n sets inbox done le marks h = λ l isin is. (let k = h l isin is in record {
  acked = λ a. marks.still r.id (kind_of l.body) (k.acked a);
  fenced = k.fenced;
  restored = λ restores did. (let w = k.restored restores (sym (marks.same_ r.id RestoreFromKind (λ e. let q : RestoreFromKind ≡ FreezeKind = e in grind arith)) ∙ did) in record { serves = w.serves; cutoff_is = w.cutoff_is; rows = w.rows });
  hidden = λ hides did. k.hidden hides (sym (marks.same_ r.id HideKind (λ e. let q : HideKind ≡ FreezeKind = e in grind arith)) ∙ did);
})
restoration_kept (Releasing point serving) m changes r slot t n sets inbox done le marks h = λ l isin is. releasing_kept r.id l t n sets inbox done marks (h l isin is)
restoration_kept (Restored point serving) m changes r slot t n sets inbox done le marks h = tt

clone_kept : (state : CloneState) (m : Master) (changes : List Change) (c : CloneRecord) (slot : ℕ) (t : Tablet) (n : ℕ) (sets : List FrozenSet) (inbox : List Command) (done : List Mark) → t.clock ≤ n → OnlyFrozen t.done done
    → CloneSlot state m changes c slot t → CloneSlot state m changes c slot (froze t n sets inbox done)
clone_kept (Copying serving at) m changes c slot t n sets inbox done le marks h =
    let e = marks.same_ c.id CopyKind (λ e. let q : CopyKind ≡ FreezeKind = e in grind arith) in record {
      acked = λ l isin is a. marks.still c.id CopyKind (h.acked l isin is a);
      empty = λ p paired is undone. h.empty p paired is (sym e ∙ undone);
      copied = λ p paired is did. (let w = h.copied p paired is (sym e ∙ did) in assumption w);
      later = λ serving_ free of. le_trans (h.later serving_ free of) le;
    }
clone_kept (CloneReleasing serving at) m changes c slot t n sets inbox done le marks h = λ l isin is. releasing_kept c.id l t n sets inbox done marks (h l isin is)
clone_kept (CloneComplete serving at) m changes c slot t n sets inbox done le marks h = tt
clone_kept _ m changes c slot t n sets inbox done le marks h = record { empty = h.empty }

-- Times before a restoration's point

opened_none : (to : Option ℕ) → is_open to ≡ true → to ≡ None
opened_none None e = refl
opened_none (Some x) e = absurd (true≢false (sym e))

some_of : (o : Option ℕ) → is_some o ≡ true → (x : ℕ) × (o ≡ Some x)
some_of None e = absurd (true≢false (sym e))
some_of (Some x) e = (x, refl)

-- a tablet that awaits rows froze for snapshots before their point alone
before_rows : (m : Master) (changes : List Change) (slot n : ℕ) (t : Tablet) (operation tablet : Id) (body : Body) (cs : List Command) (s : SnapshotRecord) (l : Listed) (i : Interval) (x : ℕ) → Does m changes slot n t operation tablet body cs
    → In s m.snapshots → s.complete ≡ false → In l s.listed → l.slot ≡ slot → In i m.activity → i.slot ≡ slot → active_at x i ≡ true → x ≤ s.at → is_awaited (awaited_in m.restorations t.tablet t.done) i.to ≡ false
before_rows m changes slot n t operation tablet body cs s l i x d known unfinished lists at isin is active reach =
    let g = d.good.each i isin is in
    let waits = awaited_in m.restorations t.tablet t.done in
    let now = both_pass (leb i.from x) (before_end x i.to) active in
    let from : i.from ≤ x = leb-true i.from x now.0 in
    either_way (is_awaited waits i.to)
    (λ b.
    let both = both_pass (is_open i.to) (is_some waits) b in
    let opened : i.to ≡ None = opened_none i.to both.0 in
    let p = some_of waits both.1 in
    let point = p.0 in
    let begins : i.from ≡ point = subst (TurnsAt point i.from) opened (g.waits point p.1) in
    let w = awaits_is m.restorations t.tablet t.done point p.1 in
    let r = w.restoration in
    let good : RestoringGood m changes r point w.serving = subst (λ q. RestorationStateGood q m changes r) w.state_is (d.operations.restorations r w.known).in_state in
    let k = (d.operations.snapshots s known).known unfinished l lists in
    let mine : i.tablet ≡ l.tablet = sym g.tablet_is ∙ (d.good.each k.interval k.kept (k.slot_is ∙ at)).tablet_is ∙ k.tablet_is in
    let of_snapshot : owner_of m.catalog.owners i.table ≡ Some s.namespace = ((d.operations.snapshots s known).listed_of l i lists isin mine).0 in
    let of_restoration : owner_of m.catalog.owners i.table ≡ Some r.namespace = d.master.listed_of r w.line w.known w.listed i isin (sym g.tablet_is ∙ sym w.tablet_is) in
    let q : Some s.namespace ≡ Some r.namespace = sym of_snapshot ∙ of_restoration in
    let ns : s.namespace ≡ r.namespace = cc in
    let less : s.at < point = good.is_point.snapshots s known ns in
    absurd (omega (arith, begins, from, reach, less)))
    (λ b. b)

-- The body

frozen_by : (m : Master) (changes : List Change) (slot n : ℕ) (t : Tablet) (operation tablet : Id) (cs : List Command) (rows : List KeyedRow) (s : SnapshotRecord) → In s m.snapshots → s.id ≡ operation → s.complete ≡ false
    → In (record { tablet = tablet; slot = slot; body = Freeze s.id s.at; acked = false }) s.listed → Does m changes slot n t operation tablet (Freeze s.id s.at) cs
    → HoldsOf m changes slot (processed (record { operation = operation; tablet = tablet; body = Freeze s.id s.at } ∷ cs) rows n t)
frozen_by m changes slot n t operation tablet cs rows s known id_is unfinished lists d =
    let c : Command = record { operation = operation; tablet = tablet; body = Freeze s.id s.at } in
    let l : Listed = record { tablet = tablet; slot = slot; body = Freeze s.id s.at; acked = false } in
    let u = processed (c ∷ cs) rows n t in
    let le : t.clock ≤ n = le_of_lt d.before in
    let o = d.works.orders in
    let k = (d.operations.snapshots s known).known unfinished l lists in
    let g = d.good.each k.interval k.kept k.slot_is in
    let new : FrozenSet = record { snapshot = s.id; at = s.at; versions = frozen s.at t.versions; cutoff = t.cutoff } in
    let sets = t.frozen ++ new ∷ [] in
    let done = t.done ++ mark_of c ∷ [] in
    let marks : OnlyFrozen t.done done = record {
      still = λ id kind e. done_still t.done (mark_of c) id kind e;
      same_ = λ id kind apart. done_beside t.done (mark_of c) id kind (λ e is. apart (sym is));
    } in
    let restores = same_restores m.restorations t.done (mark_of c) (λ e. let q : FreezeKind ≡ RestoreFromKind = e in grind arith) in
    let fresh : is_done t.done operation FreezeKind ≡ false = o.fresh c (subst (In c) (sym d.inbox) (inl refl)) in
    let new_good : SetGood m changes slot n t new = record {
      past = lt_of_lt_of_le (d.after.snapshot s known id_is) le;
      sorted = sorted_frozen t.versions s.at d.good.good.sorted;
      keys = keys_frozen t.versions s.at (λ key. in_range t.low t.high (code_of key)) d.good.good.keys;
      stands = λ i isin is key x ranged cut reach active. (let h = d.good.each i isin is in
          frozen_reads t.versions s.at key x reach
          ∙ h.stands (before_rows m changes slot n t operation tablet (Freeze s.id s.at) cs s l i x d known unfinished lists refl isin is active reach) key x ranged cut (both_pass (leb i.from x) (before_end x i.to) active).1 (h.viewed x active));
    } in
    let settled : awaited_in m.restorations t.tablet done ≡ awaited_in m.restorations t.tablet t.done = awaited_kept m.restorations t.tablet t.done done restores in
    record {
      good = slot_changed m changes slot t n t.cutoff sets t.fence cs done le restores (le_refl _) (le_trans d.good.good.cutoff le)
          (λ f held. elim (in_append t.frozen (new ∷ []) f held) as (λ _. SetGood m changes slot n t f) [
            | inl old ↦ set_good m changes slot n t f le d.good old
            | inr is ↦ (elim is as (λ _. SetGood m changes slot n t f) [ inl e ↦ subst (SetGood m changes slot n t) e new_good | inr e ↦ absurd e ])
          ])
          (λ serving free. let w = d.good.opens serving free in
          record { interval = w.interval; listed = w.listed; slot_is = w.slot_is; opened = w.opened; begun = le_trans w.begun le; settled = settled ∙ w.settled })
          d.good.shown
          (λ ns to fixed serving free owned. le_trans (d.good.later ns to fixed serving free owned) le)
          d.good;
      works = record {
        orders = orders_done m slot t (record t { frozen = sets }) n c cs le d.inbox (mark_pending m changes operation slot n l d.operations d.pends (marked_after m changes slot n t operation tablet (Freeze s.id s.at) cs d))
            (λ by e. fence_kept m slot t.table t.done done by marks (o.fences by e))
            (λ q there did. elim (done_either t.done (mark_of c) q.id FreezeKind did) as (λ _. HoldsFrozen q.id q.at u) [
              | inl old ↦ (let f = o.holds q there old in record { set = f.set; held = set_before t.frozen new q.id f.set f.held; time = f.time; inside = f.inside })
              | inr is ↦ (
                  let one : s ≡ q = snapshot_alone m.snapshots s q d.operations.apart.snapshots_rise known there (id_is ∙ is.0) in
                  subst (λ z. HoldsFrozen z.id z.at u) one (record {
                    set = new;
                    held = set_behind t.frozen new (λ f held e. true≢false (sym (o.frozen f held) ∙ ap (λ z. is_done t.done z FreezeKind) (e ∙ id_is) ∙ fresh));
                    time = refl;
                    inside = λ v isin. frozen_stamp t.versions s.at v isin;
                  }))
            ])
            (λ f held. elim (in_append t.frozen (new ∷ []) f held) as (λ _. is_done done f.snapshot FreezeKind ≡ true) [
              | inl old ↦ done_still t.done (mark_of c) f.snapshot FreezeKind (o.frozen f old)
              | inr is ↦ (elim is as (λ _. is_done done f.snapshot FreezeKind ≡ true) [
                | inl e ↦ ap (λ z. is_done done z FreezeKind) (ap (λ z. z.snapshot) (sym e) ∙ id_is) ∙ done_now t.done operation FreezeKind
                | inr e ↦ absurd e
              ])
            ])
            (λ f held. elim (in_append t.frozen (new ∷ []) f held) as (λ _. IsSetOf m.snapshots t.tablet f) [
              | inl old ↦ o.sets f old
              | inr is ↦ (elim is as (λ _. IsSetOf m.snapshots t.tablet f) [
                | inl e ↦ subst (IsSetOf m.snapshots t.tablet) e (record { snapshot = s; kept = known; id_is = refl; at_is = refl; line = l; listed = lists; tablet_is = sym k.tablet_is ∙ sym g.tablet_is })
                | inr e ↦ absurd e
              ])
            ])
            g.present o;
        obeyed = obeyed_done m changes slot t u (mark_of c) g.present g.present refl refl refl
            (λ r isin. restoration_kept r.state m changes r slot t n sets cs done le marks (d.works.obeyed.restorations r isin))
            (λ k isin. clone_kept k.state m changes k slot t n sets cs done le marks (d.works.obeyed.clones k isin))
            d.works.obeyed;
      };
    }

-- no other record has a freeze

pub freeze_done : (m : Master) (changes : List Change) (slot n : ℕ) (t : Tablet) (operation tablet snapshot : Id) (at : ℕ) (cs : List Command) (rows : List KeyedRow) → Does m changes slot n t operation tablet (Freeze snapshot at) cs
    → IsPending m operation slot (record { tablet = tablet; slot = slot; body = Freeze snapshot at; acked = false }) → HoldsOf m changes slot (processed (record { operation = operation; tablet = tablet; body = Freeze snapshot at } ∷ cs) rows n t)
freeze_done m changes slot n t operation tablet snapshot at cs rows d (BySnapshot k) =
    let s = k.snapshot in
    let is : Freeze snapshot at ≡ Freeze s.id s.at = (d.operations.snapshots s k.kept).bodies _ k.line.listed in
    subst (λ b. In (record { tablet = tablet; slot = slot; body = b; acked = false }) s.listed → Does m changes slot n t operation tablet b cs → HoldsOf m changes slot (processed (record { operation = operation; tablet = tablet; body = b } ∷ cs) rows n t))
    (sym is) (frozen_by m changes slot n t operation tablet cs rows s k.kept k.id_is k.unfinished) k.line.listed d
freeze_done m changes slot n t operation tablet snapshot at cs rows d (RestorationPends k) =
    absurd (no_restoration_freeze k.restoration.state m changes k.restoration _ snapshot at (d.operations.restorations k.restoration k.kept).in_state k.line.listed refl)
freeze_done m changes slot n t operation tablet snapshot at cs rows d (ClonePends k) = absurd (no_clone_freeze k.clone.state m k.clone _ snapshot at (d.operations.clones k.clone k.kept).in_state k.line.listed refl)
