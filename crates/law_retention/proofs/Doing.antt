-- What a tablet does of a command keeps how far back it goes.
use Rattle.std.proofs.Common.{◌<◌, ◌≤◌, ◌≡◌, ◌∷◌, ◌∙◌, ◌+◌, ℕ, List, [], true, false, Some, max, not, refl, sym, ap, subst, inl, inr, arith, le_refl, le_trans, eqb, eqb-true}
use Rattle.std.proofs.lemmas.Bool.{cond_both}
use Rattle.row_values.specs.Ids.{Id, same}
use Rattle.row_values.specs.Elements.{In}
use Rattle.row_values.specs.Slots.{has}
use Rattle.row_values.specs.declared.rows.KeyedRow.{KeyedRow}
use Rattle.row_values.specs.Store.{frozen}
use Rattle.model.specs.Activity.{Interval, active_at, last_of}
use Rattle.model.specs.Acts.{Process, Idle, OtherSlot, Done, Refused}
use Rattle.model.specs.Catalog.{is_owned_by}
use Rattle.model.specs.Coordination.{process, processing, rows_for, source_slot}
use Rattle.model.specs.Entries.{slots_of}
use Rattle.model.specs.History.{told}
use Rattle.model.specs.Journal.{Change}
use Rattle.model.specs.Parts.{If, Master, Parts}
use Rattle.model.specs.Records.{Copying, Listed, SnapshotRecord, is_visible}
use Rattle.model.specs.Retained.{IsTabletOf}
use Rattle.model.specs.Schedules.{complete_to}
use Rattle.model.specs.Tablets.{act_for, Body, Clock, Command, Copy, Fence, Freeze, FrozenSet, Hide, Mark, Release, RestoreFrom, Tablet, effect, is_empty, kind_of, obeyed, processed}
use Rattle.model.specs.Tablets as tell
use Rattle.law_invariants.specs.Invariant.{Inv, Later}
use Rattle.law_invariants.specs.Operations.{CloneStateGood, CopyingGood, IsActive, IsKnown, ReleasingGood, RestorationStateGood, RestoringGood, VisibleGood}
use Rattle.law_invariants.proofs.Finding.{in_append, same_self, same_equal}
use Rattle.law_invariants.proofs.Frame.{tells}
use Rattle.law_invariants.proofs.Lasting.{last_in}
use Rattle.law_invariants.proofs.Ticking.{master_before}
use Rattle.law_invariants.proofs.Commanded.{IsPending, BySnapshot, ByClone, ByRestoration, pending_is}
use Rattle.law_retention.specs.Facts.{Facts, GoesBack}
use Rattle.law_retention.proofs.Outcomes.{by_refusal}
use Rattle.law_retention.proofs.Reaching.{there_live}
use Rattle.law_retention.proofs.Holding.{HoldsFacts, MasterLike, answer_holds, back_on, holds_like, like_on, on_clock, told_by}
use Rattle.law_retention.proofs.Acts.{KeepsFacts}
use Rattle.law_invariants.proofs.Bodies.{copying_is, no_restoration_copy, no_clone_freeze, no_restoration_freeze, snapshot_alone, no_clone_hide, releasing_is, visible_is, no_clone_restore, restoring_is}

-- a tablet that is like another goes back as far
like_back : (m : Master) (t u : Tablet) → GoesBack m t → u.tablet ≡ t.tablet → u.cutoff ≡ t.cutoff → ((f : FrozenSet) → In f u.frozen → In f t.frozen) → GoesBack m u
like_back m t u back tablet cutoff sets = record {
  live = λ s i listed last owned. subst (λ c. c ≤ max (complete_to s + 1) i.from) (sym cutoff) (back.live s i listed (subst (λ id. last_of m.activity id ≡ Some i) tablet last) owned);
  now = subst (λ c. c ≤ m.clock) (sym cutoff) back.now;
  sets = λ f r i x held inside id_is listed of active after late. back.sets f r i x (sets f held) inside id_is listed (of ∙ tablet) active after late;
}

-- a tablet with an interval from a time on, at which its history is cut, or where it was cut before
cut_back : (ps : Parts) (t u : Tablet) (i : Interval) → Facts ps → GoesBack ps.master t → u.tablet ≡ t.tablet → ((f : FrozenSet) → In f u.frozen → In f t.frozen)
    → In i ps.master.activity → i.tablet ≡ t.tablet → u.cutoff ≤ max t.cutoff i.from → i.from ≤ ps.master.clock → GoesBack ps.master u
cut_back ps t u i facts back tablet sets inside of cut begun =
    let m = ps.master in
    record {
      live = λ s j listed last owned.
          let last_too : last_of m.activity t.tablet ≡ Some j = subst (λ id. last_of m.activity id ≡ Some j) tablet last in
          let latest : i.from ≤ j.from = facts.latest i j inside (ap (last_of m.activity) of ∙ last_too) in
          let was = back.live s j listed last_too owned in
          most u.cutoff t.cutoff i.from (complete_to s + 1) j.from cut was latest;
      now = let past = back.now in at_most u.cutoff t.cutoff i.from m.clock cut past begun;
      sets = λ f r k x held there id_is listed of_ active after late. back.sets f r k x (sets f held) there id_is listed (of_ ∙ tablet) active after late;
    }
  where
    most : (u t i a j : ℕ) → u ≤ max t i → t ≤ max a j → i ≤ j → u ≤ max a j
    most u t i a j h g l = omega arith

    at_most : (u t i n : ℕ) → u ≤ max t i → t ≤ n → i ≤ n → u ≤ n
    at_most u t i n h g l = omega arith

-- the tablet that a record lists is the one in the slot

pub record IsHome (ps : Parts) (slot : ℕ) (l : Listed) : Type 0 where
  pub present : is_empty (ps.tablet slot).presence ≡ false
  pub tablet_is : (ps.tablet slot).tablet ≡ l.tablet

pub known_home : (ps : Parts) (activity : List Interval) (changes : List Change) (slot : ℕ) (l : Listed) → Inv ps activity changes → IsKnown ps.master l → l.slot ≡ slot → IsHome ps slot l
known_home ps activity changes slot l inv known at =
    let g = (inv.slots slot).each known.interval known.kept (known.slot_is ∙ at) in
    record { present = g.present; tablet_is = g.tablet_is ∙ known.tablet_is }

active_home : (ps : Parts) (activity : List Interval) (changes : List Change) (slot : ℕ) (l : Listed) (from : ℕ) → Inv ps activity changes → IsActive ps.master l from → l.slot ≡ slot → IsHome ps slot l
active_home ps activity changes slot l from inv active at =
    let g = (inv.slots slot).each active.interval active.kept (active.slot_is ∙ at) in
    record { present = g.present; tablet_is = g.tablet_is ∙ active.tablet_is }

-- Each body. What counts of the tablet is its presence, its cutoff and its frozen sets

abbrev pub did : Body → Id → Id → List KeyedRow → ℕ → List Command → List Mark → Tablet → Tablet
did b operation tablet rows n inbox done t = record (obeyed b operation tablet rows t) { clock = n; inbox = inbox; done = done }

-- what is to be shown of a body
abbrev pub BodyKeeps : Body → Type 0
BodyKeeps b = (ps : Parts) (activity : List Interval) (changes : List Change) (slot n : ℕ) (operation tablet : Id) (rows : List KeyedRow) (inbox : List Command) (done : List Mark) → Inv ps activity changes → Facts ps
    → IsPending ps.master operation slot (record { tablet = tablet; slot = slot; body = b; acked = false })
    → is_empty (did b operation tablet rows n inbox done (ps.tablet slot)).presence ≡ false → GoesBack ps.master (did b operation tablet rows n inbox done (ps.tablet slot))

fence_keeps : BodyKeeps Fence
fence_keeps ps activity changes slot n operation tablet rows inbox done inv facts pends here =
    let t = ps.tablet slot in like_back ps.master t (did Fence operation tablet rows n inbox done t) (facts.tablets slot here) refl refl (λ f held. held)

-- the set that a tablet freezes goes back as its live store does
frozen_back : (ps : Parts) (activity : List Interval) (changes : List Change) (slot : ℕ) (s : SnapshotRecord) (l : Listed) (i : Interval) (x : ℕ) → Inv ps activity changes → Facts ps → In s ps.master.snapshots → s.complete ≡ false
    → In l s.listed → l.slot ≡ slot → In i ps.master.activity → i.tablet ≡ (ps.tablet slot).tablet → active_at x i ≡ true → s.after < x → (ps.tablet slot).cutoff ≤ x
frozen_back ps activity changes slot s l i x inv facts kept open_ listed at inside of active after =
    let m = ps.master in
    let good = inv.operations.snapshots s kept in
    let home = known_home ps activity changes slot l inv (good.known open_ l listed) at in
    let owner = (good.listed_of l i listed inside (of ∙ home.tablet_is)).0 in
    let there : i.slot ≡ slot = (good.listed_of l i listed inside (of ∙ home.tablet_is)).1 ∙ at in
    let k = good.scheduled open_ in
    let ns : k.0.namespace ≡ s.namespace = k.1.1.0 in
    let owned : IsTabletOf m k.0.namespace i = ap (λ o. is_owned_by o k.0.namespace) owner ∙ ap (λ id. same id k.0.namespace) (sym ns) ∙ same_self k.0.namespace in
    let last = (facts.times k.0 k.1.0).unfinished s kept (sym k.1.1.0) open_ in
    let late : complete_to k.0 < x = subst (λ a. a < x) last after in
    subst (λ z. (ps.tablet z).cutoff ≤ x) there (there_live ps changes activity k.0 i x (record { inv = inv; facts = facts; listed = k.1.0; inside = inside; owned = owned; active = active }) late)

freeze_keeps : (snapshot : Id) (at : ℕ) → BodyKeeps (Freeze snapshot at)
freeze_keeps snapshot at ps activity changes slot n operation tablet rows inbox done inv facts (ByRestoration k) here =
    absurd (no_restoration_freeze k.restoration.state ps.master changes k.restoration _ snapshot at (inv.operations.restorations k.restoration k.kept).in_state k.line.listed refl)
freeze_keeps snapshot at ps activity changes slot n operation tablet rows inbox done inv facts (ByClone k) here =
    absurd (no_clone_freeze k.clone.state ps.master k.clone _ snapshot at (inv.operations.clones k.clone k.kept).in_state k.line.listed refl)
freeze_keeps snapshot at ps activity changes slot n operation tablet rows inbox done inv facts (BySnapshot k) here =
    let m = ps.master in
    let t = ps.tablet slot in
    let s = k.snapshot in
    let back = facts.tablets slot here in
    let new : FrozenSet = record { snapshot = snapshot; at = at; versions = frozen at t.versions; cutoff = t.cutoff } in
    let body : Freeze snapshot at ≡ Freeze s.id s.at = (inv.operations.snapshots s k.kept).bodies _ k.line.listed in
    let id_is : snapshot ≡ s.id = cc in
    record {
      live = back.live;
      now = back.now;
      sets = λ f r i x held inside of listed mine active after late. elim (in_append t.frozen (new ∷ []) f held) [
        | inl old ↦ back.sets f r i x old inside of listed mine active after late
        | inr fresh ↦ elim fresh [
          | inl is ↦ (
              let one : r ≡ s = snapshot_alone m.snapshots r s inv.operations.apart.snapshots_rise inside k.kept (of ∙ ap (λ g. g.snapshot) (sym is) ∙ id_is) in
              let goes : t.cutoff ≤ x = frozen_back ps activity changes slot s _ i x inv facts k.kept k.unfinished k.line.listed k.line.slot_is listed mine active (subst (λ q. q.after < x) one after) in
              subst (λ g. g.cutoff ≤ x) is goes)
          | inr none ↦ absurd none
        ]
      ];
    }

hide_keeps : (ended : ℕ) → BodyKeeps (Hide ended)
hide_keeps ended ps activity changes slot n operation tablet rows inbox done inv facts (BySnapshot k) here =
    absurd (let q : Hide ended ≡ Freeze k.snapshot.id k.snapshot.at = (inv.operations.snapshots k.snapshot k.kept).bodies _ k.line.listed in grind arith)
hide_keeps ended ps activity changes slot n operation tablet rows inbox done inv facts (ByClone k) here =
    absurd (no_clone_hide k.clone.state ps.master k.clone _ ended (inv.operations.clones k.clone k.kept).in_state k.line.listed refl)
hide_keeps ended ps activity changes slot n operation tablet rows inbox done inv facts (ByRestoration k) here =
    let t = ps.tablet slot in
    let home = known_home ps activity changes slot _ inv ((inv.operations.restorations k.restoration k.kept).known k.unfinished _ k.line.listed) k.line.slot_is in
    like_back ps.master t (did (Hide ended) operation tablet rows n inbox done t) (facts.tablets slot home.present) refl refl (λ f held. held)

restore_keeps : (snapshot : Id) (to point version : ℕ) → BodyKeeps (RestoreFrom snapshot to point version)
restore_keeps snapshot to point version ps activity changes slot n operation tablet rows inbox done inv facts (BySnapshot k) here =
    absurd (let q : RestoreFrom snapshot to point version ≡ Freeze k.snapshot.id k.snapshot.at = (inv.operations.snapshots k.snapshot k.kept).bodies _ k.line.listed in grind arith)
restore_keeps snapshot to point version ps activity changes slot n operation tablet rows inbox done inv facts (ByClone k) here =
    absurd (no_clone_restore k.clone.state ps.master k.clone _ snapshot to point version (inv.operations.clones k.clone k.kept).in_state k.line.listed refl)
restore_keeps snapshot to point version ps activity changes slot n operation tablet rows inbox done inv facts (ByRestoration k) here =
    let m = ps.master in
    let t = ps.tablet slot in
    let r = k.restoration in
    let l : Listed = record { tablet = tablet; slot = slot; body = RestoreFrom snapshot to point version; acked = false } in
    let state_good = (inv.operations.restorations r k.kept).in_state in
    let found = restoring_is r.state m changes r l snapshot to point version state_good k.line.listed refl in
    let good : RestoringGood m changes r point snapshot = subst (λ s. RestorationStateGood s m changes r) found.0 state_good in
    let b = good.back l k.line.listed refl in
    let g = (inv.slots slot).each b.now b.kept_now b.slot_now in
    let cut : point ≤ max t.cutoff b.now.from = second point t.cutoff b.now.from (sym b.from_is) in
    cut_back ps t (did (RestoreFrom snapshot to point version) operation tablet rows n inbox done t) b.now facts (facts.tablets slot g.present) refl (λ f held. held) b.kept_now (sym g.tablet_is) cut
    (subst (λ x. x ≤ m.clock) (sym b.from_is) good.begun)
  where
    second : (p c f : ℕ) → p ≡ f → p ≤ max c f
    second p c f e = omega arith

-- a release cuts at the start of an interval of the tablet
release_active : (ps : Parts) (activity : List Interval) (changes : List Change) (slot n : ℕ) (operation tablet : Id) (rows : List KeyedRow) (inbox : List Command) (done : List Mark) (cutoff from : ℕ) (l : Listed) → Inv ps activity changes → Facts ps
    → IsActive ps.master l from → l.slot ≡ slot → cutoff ≡ from → from ≤ ps.master.clock → GoesBack ps.master (did (Release cutoff) operation tablet rows n inbox done (ps.tablet slot))
release_active ps activity changes slot n operation tablet rows inbox done cutoff from l inv facts active at is begun =
    let t = ps.tablet slot in
    let i = active.interval in
    let g = (inv.slots slot).each i active.kept (active.slot_is ∙ at) in
    let from_is : i.from ≡ from = active.from_is in
    let cut : max t.cutoff cutoff ≤ max t.cutoff i.from = second t.cutoff cutoff i.from (is ∙ sym from_is) in
    cut_back ps t (did (Release cutoff) operation tablet rows n inbox done t) i facts (facts.tablets slot g.present) refl (λ f held. held) active.kept (sym g.tablet_is) cut
    (subst (λ x. x ≤ ps.master.clock) (sym from_is) begun)
  where
    second : (c p f : ℕ) → p ≡ f → max c p ≤ max c f
    second c p f e = omega arith

release_keeps : (cutoff : ℕ) → BodyKeeps (Release cutoff)
release_keeps cutoff ps activity changes slot n operation tablet rows inbox done inv facts (BySnapshot k) here =
    absurd (let q : Release cutoff ≡ Freeze k.snapshot.id k.snapshot.at = (inv.operations.snapshots k.snapshot k.kept).bodies _ k.line.listed in grind arith)
release_keeps cutoff ps activity changes slot n operation tablet rows inbox done inv facts (ByRestoration k) here =
    let m = ps.master in
    let r = k.restoration in
    let l : Listed = record { tablet = tablet; slot = slot; body = Release cutoff; acked = false } in
    let state_good = (inv.operations.restorations r k.kept).in_state in
    let found = releasing_is r.state m changes r l cutoff state_good k.line.listed refl in
    let good : ReleasingGood m changes r cutoff found.0 = subst (λ s. RestorationStateGood s m changes r) found.1 state_good in
    release_active ps activity changes slot n operation tablet rows inbox done cutoff cutoff l inv facts (good.active l k.line.listed) refl refl good.begun
release_keeps cutoff ps activity changes slot n operation tablet rows inbox done inv facts (ByClone k) here =
    let m = ps.master in
    let c = k.clone in
    let l : Listed = record { tablet = tablet; slot = slot; body = Release cutoff; acked = false } in
    let state_good = (inv.operations.clones c k.kept).in_state in
    let found = visible_is c.state m c l cutoff state_good k.line.listed refl in
    let good : VisibleGood m c found.1.0 = subst (λ s. CloneStateGood s m c) found.1.1 state_good in
    let body : Release cutoff ≡ Release good.since = good.bodies l k.line.listed in
    let is : cutoff ≡ good.since = cc in
    release_active ps activity changes slot n operation tablet rows inbox done cutoff good.since l inv facts (good.active l k.line.listed) refl is good.begun

copy_keeps : (source : ℕ) (snapshot : Id) (to stamp : ℕ) (table : Id) (low high version : ℕ) → BodyKeeps (Copy source snapshot to stamp table low high version)
copy_keeps source snapshot to stamp table low high version ps activity changes slot n operation tablet rows inbox done inv facts (BySnapshot k) here =
    absurd (let q : Copy source snapshot to stamp table low high version ≡ Freeze k.snapshot.id k.snapshot.at = (inv.operations.snapshots k.snapshot k.kept).bodies _ k.line.listed in grind arith)
copy_keeps source snapshot to stamp table low high version ps activity changes slot n operation tablet rows inbox done inv facts (ByRestoration k) here =
    absurd (no_restoration_copy k.restoration.state ps.master changes k.restoration _ source snapshot to stamp table low high version (inv.operations.restorations k.restoration k.kept).in_state k.line.listed refl)
copy_keeps source snapshot to stamp table low high version ps activity changes slot n operation tablet rows inbox done inv facts (ByClone k) here =
    let m = ps.master in
    let c = k.clone in
    let g = inv.operations.clones c k.kept in
    let l : Listed = record { tablet = tablet; slot = slot; body = Copy source snapshot to stamp table low high version; acked = false } in
    let found = copying_is c.state m c l source snapshot to stamp table low high version g.in_state k.line.listed refl in
    let at = found.1.0 in
    let is : c.state ≡ Copying found.0 at = found.1.1.0 in
    let copied = found.1.1.1 in
    let good : CopyingGood m c found.0 at = subst (λ s. CloneStateGood s m c) is g.in_state in
    let body : Copy source snapshot to stamp table low high version ≡ Copy copied.pair.source_slot found.0 c.to at copied.pair.table copied.pair.low copied.pair.high 1 = copied.body_is in
    let stamp_is : stamp ≡ at = cc in
    let unknown : (i : Interval) → In i m.activity → i.tablet ≡ tablet → ⊥ = λ i inside of. (g.reserved (ap is_visible is) copied.pair copied.paired).unknown i inside (of ∙ copied.tablet_is) in
    record {
      live = λ s i listed last owned. absurd (let there = last_in m.activity tablet i last in unknown i there.0 (same_equal i.tablet tablet there.1));
      now = subst (λ x. x ≤ m.clock) (sym stamp_is) good.begun;
      sets = λ f r i x held inside id_is listed of active after late. absurd (unknown i listed of);
    }

body_keeps : (b : Body) → BodyKeeps b
body_keeps Fence = fence_keeps
body_keeps (Freeze snapshot at) = freeze_keeps snapshot at
body_keeps (Hide ended) = hide_keeps ended
body_keeps (RestoreFrom snapshot to point version) = restore_keeps snapshot to point version
body_keeps (Release cutoff) = release_keeps cutoff
body_keeps (Copy source snapshot to stamp table low high version) = copy_keeps source snapshot to stamp table low high version

-- The act

later_back : (m : Master) (n : ℕ) (u : Tablet) → m.clock ≤ n → GoesBack m u → GoesBack (record m { clock = n }) u
later_back m n u le back = record { live = back.live; now = le_trans back.now le; sets = back.sets }

processing_keeps_facts : (inbox : List Command) (slot other n : ℕ) (ps : Parts) (activity : List Interval) (changes : List Change) → (ps.tablet slot).inbox ≡ inbox → Later (slots_of (Process slot other)) ps n → Inv ps activity changes → Facts ps
    → HoldsFacts (Process slot other) n ps (processing inbox slot other (ps.tablet other))
processing_keeps_facts [] slot other n ps activity changes e later inv facts = answer_holds (Process slot other) (Refused Idle) n ps activity changes later inv facts
processing_keeps_facts (c ∷ cs) slot other n ps activity changes e later inv facts =
    let m = ps.master in
    let act = Process slot other in
    let source = ps.tablet other in
    let rows = rows_for c.body source.frozen in
    let reply = Done c.operation (kind_of c.body) in
    let o = tells slot (tell.Process rows) reply in
    let order = (inv.works slot).orders.orders c (subst (In c) (sym e) (inl refl)) in
    let pends = pending_is m c.operation slot _ order.is_pending in
    let mine : is_empty (effect (tell.Process rows) n (ps.tablet slot)).presence ≡ false → GoesBack m (effect (tell.Process rows) n (ps.tablet slot)) =
    subst (λ q. is_empty (processed q rows n (ps.tablet slot)).presence ≡ false → GoesBack m (processed q rows n (ps.tablet slot))) (sym e)
    (λ here. body_keeps c.body ps activity changes slot n c.operation c.tablet rows cs _ inv facts pends here) in
    by_refusal (HoldsFacts act n ps) (If (not (eqb other (source_slot slot c.body))) (OtherSlot (source_slot slot c.body)) ∷ []) o
    (λ why. answer_holds act (Refused why) n ps activity changes later inv facts)
    (λ passes.
    let k = (told act o n ps).master in
    let like : MasterLike m k = cond_both (has (slots_of act) 0) (record m { clock = n }) m (λ l. MasterLike m l)
    (λ is. on_clock m n m.sent m.catalog refl (master_before (slots_of act) ps n later is)) (λ is. on_clock m m.clock m.sent m.catalog refl (le_refl _)) in
    let holds = holds_like ps activity changes k inv facts like in
    let done : is_empty (effect (tell.Process rows) n (ps.tablet slot)).presence ≡ false → GoesBack k (effect (tell.Process rows) n (ps.tablet slot)) = λ here.
    cond_both (has (slots_of act) 0) (record m { clock = n }) m (λ l. GoesBack l (effect (tell.Process rows) n (ps.tablet slot)))
    (λ is. later_back m n _ (master_before (slots_of act) ps n later is) (mine here)) (λ is. mine here) in
    told_by act o n ps activity changes inv facts holds
    (λ i is. cond_both (eqb slot i) (tell.Process rows) Clock (λ a. is_empty (effect a n (ps.tablet i)).presence ≡ false → GoesBack k (effect a n (ps.tablet i)))
    (λ at. subst (λ j. is_empty (effect (tell.Process rows) n (ps.tablet j)).presence ≡ false → GoesBack k (effect (tell.Process rows) n (ps.tablet j))) (eqb-true slot i at) done)
    (λ at here. back_on ps activity changes k i (effect Clock n (ps.tablet i)) inv holds.on (facts.tablets i here) (like_on k (ps.tablet i) (effect Clock n (ps.tablet i)) here refl refl refl))))

pub process_keeps_facts : (slot other : ℕ) → KeepsFacts (Process slot other) (process slot other)
unfolding process
process_keeps_facts slot other n ps activity changes later inv facts = processing_keeps_facts (ps.tablet slot).inbox slot other n ps activity changes refl later inv facts
