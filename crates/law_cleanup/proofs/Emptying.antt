-- The slots after a tablet is removed: its own is empty, and the others are as they were.
use Rattle.std.specs.Prelude.{true, Some}
use Rattle.std.proofs.Common.{ℕ, ◌≡◌, ◌≢◌, ◌≤◌, ◌<◌, List, None, false, ◌⊎◌, inl, inr, refl, sym, ◌∙◌, arith, le_of_lt}
use Rattle.std.proofs.lemmas.Bool.{true≢false}
use Rattle.model.specs.Cluster.{Id, In, Interval, forget, Listed, RestorationRecord, RestorationState, Fencing, Snapshotting, Switching, Restored, TabletPair, CloneRecord, CloneState, Copying, CloneReleasing, CloneComplete, is_restored, is_cloned, is_visible, Master}
use Rattle.model.specs.Journal.{Change}
use Rattle.model.specs.Tablets.{Tablet, Mark, emptied, is_empty, is_serving}
use Rattle.law_invariants.specs.Operations.{IsOpenOf, IsKnown, CloneStateGood, OperationsGood, IsReserved}
use Rattle.law_invariants.specs.Orders.{IsFence, RestorationSlot, CloneSlot, IsHome, IsTarget, directory, IsFenceIn, IsHomeIn, IsTargetIn, RestorationSlotIn}
use Rattle.law_invariants.specs.Invariant.{IsGood, SlotGood, SlotWorks, IsPast, IsGoodIn, TakesWritesIn}
use Rattle.law_invariants.proofs.Ticking.{past_later}
use Rattle.law_cleanup.proofs.Forgetting.{forgetting, kept_in, was_in, open_was}
use Rattle.law_invariants.proofs.Unneeded.{Unlisted}
use Rattle.law_invariants.proofs.Going.{place_goes, restoration_slot_goes}

-- what stands of a tablet, in a slot, that is forgotten
pub record IsGone (m : Master) (n : ℕ) (tablet : Id) (slot : ℕ) : Type 0 where
  pub before : m.clock < n
  pub unlisted : Unlisted m tablet
  pub there : (i : Interval) → In i m.activity → i.tablet ≡ tablet → i.slot ≡ slot
  pub mine : (i : Interval) → In i m.activity → i.slot ≡ slot → i.tablet ≡ tablet
  pub over : (i : Interval) → In i m.activity → i.tablet ≡ tablet → i.to ≡ None → ⊥

none_left : (m : Master) (n : ℕ) (tablet : Id) (slot : ℕ) (i : Interval) → IsGone m n tablet slot → In i (forgetting m n tablet).activity → i.slot ≡ slot → ⊥
none_left m n tablet slot i g isin at = let w = was_in tablet m.activity i isin in w.1 (g.mine i w.0 at)

-- The slot of the tablet

pub slot_emptied : (m : Master) (n : ℕ) (tablet : Id) (changes : List Change) (slot : ℕ) → IsGone m n tablet slot → SlotGood (forgetting m n tablet) changes slot (emptied n)
slot_emptied m n tablet changes slot g = record {
  good = record { sorted = tt; below = tt; cutoff = omega arith; keys = tt; set_past = λ f held. absurd held; set_sorted = λ f held. absurd held; set_keys = λ f held. absurd held };
  home = λ present. absurd (true≢false present);
  numbered = omega arith;
  each = λ i isin at. absurd (none_left m n tablet slot i g isin at);
  opens = λ serving unfenced. absurd (true≢false (sym serving));
  shown = λ serving unfenced x from. absurd (true≢false (sym serving));
  later = λ ns to is serving unfenced owned. absurd (true≢false (sym serving));
}

-- no unfinished record lists a tablet in it
no_line : (m : Master) (n : ℕ) (tablet : Id) (slot : ℕ) (l : Listed) → IsGone m n tablet slot → (l.tablet ≡ tablet → ⊥) → IsKnown m l → l.slot ≡ slot → ⊥
no_line m n tablet slot l g apart h is = apart (sym h.tablet_is ∙ g.mine h.interval h.kept (h.slot_is ∙ is))

emptied_restorations : (state : RestorationState) (m : Master) (n : ℕ) (tablet : Id) (changes : List Change) (slot : ℕ) (r : RestorationRecord) → IsGone m n tablet slot
    → (is_restored state ≡ false → (l : Listed) → In l r.listed → l.slot ≡ slot → ⊥) → RestorationSlot state (forgetting m n tablet) changes r slot (emptied n)
emptied_restorations Fencing m n tablet changes slot r g free = record { acked = λ l isin is. absurd (free refl l isin is); fenced = λ did. absurd (true≢false (sym did)) }
emptied_restorations (Snapshotting point own) m n tablet changes slot r g free = record { fenced = λ i opened is. absurd (none_left m n tablet slot i g opened.kept is) }
emptied_restorations (Switching point serving) m n tablet changes slot r g free = record {
  fenced = λ i opened is. absurd (none_left m n tablet slot i g opened.kept is);
  past = λ i opened is. absurd (none_left m n tablet slot i g opened.kept is);
}
emptied_restorations (Restored point serving) m n tablet changes slot r g free = tt
emptied_restorations _ m n tablet changes slot r g free = λ l isin is. absurd (free refl l isin is)

emptied_clones : (state : CloneState) (m : Master) (n : ℕ) (tablet : Id) (changes : List Change) (slot : ℕ) (c : CloneRecord) (j : Interval) → IsGone m n tablet slot → In j m.activity → j.slot ≡ slot
    → (is_visible state ≡ false → (p : TabletPair) → In p c.tablets → IsReserved m p) → (is_cloned state ≡ false → (l : Listed) → In l c.listed → l.tablet ≡ tablet → ⊥) → CloneStateGood state m c
    → CloneSlot state (forgetting m n tablet) changes c slot (emptied n)
emptied_clones (Copying serving copied) m n tablet changes slot c j g isin at reserved free h = record {
  acked = λ l lists is. absurd (let b = h.bodies l lists in (reserved refl b.pair b.paired).free j isin (at ∙ sym is ∙ b.slot_is));
  empty = λ p paired is undone. refl;
  copied = λ p paired is done. absurd (true≢false (sym done));
  later = λ serves. absurd (true≢false (sym serves));
}
emptied_clones (CloneReleasing serving copied) m n tablet changes slot c j g isin at reserved free h = λ l lists is. absurd (let a = h.active l lists in free refl l lists (sym a.tablet_is ∙ g.mine a.interval a.kept (a.slot_is ∙ is)))
emptied_clones (CloneComplete serving copied) m n tablet changes slot c j g isin at reserved free h = tt
emptied_clones _ m n tablet changes slot c j g isin at reserved free h = record { empty = λ p paired is. refl }

pub works_emptied : (m : Master) (n : ℕ) (tablet : Id) (changes : List Change) (slot : ℕ) (j : Interval) → IsGone m n tablet slot → In j m.activity → j.slot ≡ slot → OperationsGood m changes
    → SlotWorks (forgetting m n tablet) changes slot (emptied n)
works_emptied m n tablet changes slot j g isin at ops = record {
  orders = record {
    fences = λ operation e. absurd (let q = e in grind arith);
    orders = λ c lists. absurd lists;
    once = tt;
    fresh = λ c lists. absurd lists;
    marks = λ mark lists. absurd lists;
    holds = λ r known did. absurd (true≢false (sym did));
    frozen = λ f lists. absurd lists;
    sets = λ f lists. absurd lists;
    bare = λ vacant. record { frozen = refl; fence = refl; done = refl };
  };
  obeyed = record {
    drawn_table = omega arith;
    home = λ present. absurd (true≢false present);
    snapshots = λ r l known lists is acked same_ present. absurd (true≢false present);
    restorations = λ r known. emptied_restorations r.state m n tablet changes slot r g
        (λ unfinished l lists. no_line m n tablet slot l g (g.unlisted.restoration r l known unfinished lists) ((ops.restorations r known).known unfinished l lists));
    clones = λ c known. (let k = ops.clones c known in emptied_clones c.state m n tablet changes slot c j g isin at k.reserved (λ unfinished l. g.unlisted.clone c l known unfinished) k.in_state);
  };
}

-- The others

good_still : (m : Master) (n : ℕ) (tablet : Id) (changes : List Change) (t : Tablet) (i : Interval) → m.clock ≤ n → IsGood m changes t i → IsGood (forgetting m n tablet) changes t i
good_still m n tablet changes t i le h =
    let past : IsPast n i.from i.to = past_later i.from m.clock n i.to le h.past in
    assumption past

-- an interval in another slot is kept
beside : (m : Master) (n : ℕ) (tablet : Id) (slot other : ℕ) (i : Interval) → IsGone m n tablet slot → other ≢ slot → In i m.activity → i.slot ≡ other → In i (forgetting m n tablet).activity
beside m n tablet slot other i g apart isin at = kept_in tablet m.activity i isin (λ e. apart (sym at ∙ g.there i isin e))

pub slot_beside : (m : Master) (n : ℕ) (tablet : Id) (changes : List Change) (slot other : ℕ) (t : Tablet) → IsGone m n tablet slot → other ≢ slot → SlotGood m changes other t → SlotGood (forgetting m n tablet) changes other t
slot_beside m n tablet changes slot other t g apart h =
    let home : is_empty t.presence ≡ false → (i : Interval) → In i ((forget tablet m.activity)) → i.tablet ≡ t.tablet → i.slot ≡ other = λ present i isin. h.home present i (was_in tablet m.activity i isin).0 in
    let each : (i : Interval) → In i ((forget tablet m.activity)) → i.slot ≡ other → IsGoodIn n m.slots (directory (forgetting m n tablet)) changes t i = λ i isin at. good_still m n tablet changes t i (le_of_lt g.before) (h.each i (was_in tablet m.activity i isin).0 at) in
    let opens : is_serving t.presence ≡ true → t.fence ≡ None → TakesWritesIn ((forget tablet m.activity)) m.restorations other t = λ serving unfenced. (let o = h.opens serving unfenced in record {
      interval = o.interval;
      listed = beside m n tablet slot other o.interval g apart o.listed o.slot_is;
      slot_is = o.slot_is;
      opened = o.opened;
      begun = o.begun;
      settled = o.settled;
    }) in
    assumption (home, each, opens)

open_beside : (m : Master) (n : ℕ) (tablet ns : Id) (slot other : ℕ) (i : Interval) → IsGone m n tablet slot → other ≢ slot → IsOpenOf m ns i → i.slot ≡ other → IsOpenOf (forgetting m n tablet) ns i
open_beside m n tablet ns slot other i g apart h at = record { kept = beside m n tablet slot other i g apart h.kept at; opened = h.opened; owned = h.owned }

fence_beside : (m : Master) (n : ℕ) (tablet table : Id) (slot other : ℕ) (done : List Mark) (operation : Id) → IsGone m n tablet slot → other ≢ slot → IsFence m other table done operation → IsFence (forgetting m n tablet) other table done operation
fence_beside m n tablet table slot other done operation g apart (inl h) =
    inl (record { restoration = h.restoration; kept = h.kept; id_is = h.id_is; owned = h.owned; place = place_goes h.restoration.state h.restoration m.activity (forget tablet m.activity) m.catalog.owners m.catalog.owners other done (λ open_ i opened at. open_beside m n tablet h.restoration.namespace slot other i g apart opened at) h.place })
fence_beside m n tablet table slot other done operation g apart (inr h) = inr h

home_beside : (m : Master) (n : ℕ) (tablet : Id) (slot other : ℕ) (mine : Id) → IsGone m n tablet slot → other ≢ slot → IsHome m other mine ⊎ IsTarget m other mine → IsHome (forgetting m n tablet) other mine ⊎ IsTarget (forgetting m n tablet) other mine
home_beside m n tablet slot other mine g apart (inl h) = inl (record { interval = h.interval; kept = beside m n tablet slot other h.interval g apart h.kept h.slot_is; slot_is = h.slot_is; tablet_is = h.tablet_is })
home_beside m n tablet slot other mine g apart (inr h) = inr h

pub works_beside : (m : Master) (n : ℕ) (tablet : Id) (changes : List Change) (slot other : ℕ) (t : Tablet) → IsGone m n tablet slot → other ≢ slot → SlotWorks m changes other t → SlotWorks (forgetting m n tablet) changes other t
works_beside m n tablet changes slot other t g apart h =
    let o = h.orders in
    let b = h.obeyed in
    let fences : (operation : Id) → t.fence ≡ Some operation → IsFenceIn (directory (forgetting m n tablet)) other t.table t.done operation = λ operation is. fence_beside m n tablet t.table slot other t.done operation g apart (o.fences operation is) in
    let home : is_empty t.presence ≡ false → IsHomeIn ((forget tablet m.activity)) other t.tablet ⊎ IsTargetIn m.clones other t.tablet = λ present. home_beside m n tablet slot other t.tablet g apart (b.home present) in
    let restorations : (r : RestorationRecord) → In r m.restorations → RestorationSlotIn r.state ((forget tablet m.activity)) m.catalog.owners changes r other t = λ r known. restoration_slot_goes r.state r m.activity (forget tablet m.activity) m.catalog.owners m.catalog.owners changes changes other t (λ open_ i opened. open_was m n tablet r.namespace i opened) (λ point serving e. refl) (b.restorations r known) in
    assumption (fences, home, restorations)
