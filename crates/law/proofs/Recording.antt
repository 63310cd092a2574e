-- What the records' states say of the parts follows from what holds after each entry.
use Rattle.std.proofs.Common.{ℕ, ◌≡◌, ◌≢◌, List, Option, Some, None, Bool, true, false, ◌||◌, inl, inr, refl, sym, ap, subst, ◌∙◌, arith}
use Rattle.std.proofs.lemmas.Bool.{true≢false}
use Rattle.row_values.specs.Ids.{Kind, kind_digit, Restoration, Clone, Id, same}
use Rattle.model.specs.Cluster.{In, is_open, is_owned_by, owner_of, Interval, Tablet, BodyKind, FenceKind, kind_of, is_done, holds_command, RestorationRecord, RestorationState, Fencing, Snapshotting, Switching, Restoring, Releasing, Restored, CloneRecord, CloneState, Copying, CloneReleasing, CloneComplete, is_restored, is_cloned, Master, Parts}
use Rattle.model.specs.Journal.{Change}
use Rattle.model.specs.Stands.{was_given, AllFenced, NoneFenced, RestorationStateFacts, CloneStateFacts, FenceFacts, RecordFacts}
use Rattle.law_invariants.specs.Operations.{CloneStateGood}
use Rattle.law_invariants.specs.Orders.{IsAfter, RestorationSlot, CloneSlot, FencedSlot}
use Rattle.law_invariants.specs.Invariant.{SlotWorks, Inv}
use Rattle.law_invariants.proofs.Finding.{same_self, either_is}
use Rattle.law_invariants.proofs.Ordering.{place_left, clone_left}
use Rattle.law_invariants.proofs.DoneMarks.{mark_there, command_there}
use Rattle.law_invariants.proofs.Undoing.{owned_is}

-- Marks and commands

-- a tablet that was given a command has a clock after it
given_after : (m : Master) (changes : List Change) (slot : ℕ) (t : Tablet) (operation : Id) (kind : BodyKind) → SlotWorks m changes slot t → was_given t operation kind ≡ true → IsAfter m t.clock operation kind
given_after m changes slot t operation kind w e = either_is (holds_command t.inbox operation kind) (is_done t.done operation kind) e
    (λ h. let c = command_there t.inbox operation kind h in subst (λ k. IsAfter m t.clock operation k) c.1.1.1 (subst (λ o. IsAfter m t.clock o (kind_of c.0.body)) c.1.1.0 (w.orders.orders c.0 c.1.0).after))
    (λ h. let k = mark_there t.done operation kind h in subst (λ q. IsAfter m t.clock operation q) k.1.1.1 (subst (λ o. IsAfter m t.clock o k.0.kind) k.1.1.0 (w.orders.marks k.0 k.1.0).after))

done_given : (t : Tablet) (operation : Id) (kind : BodyKind) → is_done t.done operation kind ≡ true → was_given t operation kind ≡ true
done_given t operation kind e = second (holds_command t.inbox operation kind) (is_done t.done operation kind) e
  where
    second : (a b : Bool) → b ≡ true → (a || b) ≡ true
    second true b e = refl
    second false b e = e

-- Fences

unfenced : (operation : Id) (fence : Option Id) → fence ≡ None → fence ≢ Some operation
unfenced operation fence none e = let q : None ≡ Some operation = sym none ∙ e in grind arith

kinds_apart : (a b : Id) (k l : Kind) → a ≡ b → a.kind ≡ k → b.kind ≡ l → kind_digit k ≢ kind_digit l → ⊥
kinds_apart a b k l e f g apart = apart (ap kind_digit (sym f) ∙ ap (λ i. kind_digit i.kind) e ∙ ap kind_digit g)

-- no fence outlives its operation
none_fenced : (ps : Parts) (activity : List Interval) (changes : List Change) (r : RestorationRecord) → Inv ps activity changes → In r ps.master.restorations → is_restored r.state ≡ true → NoneFenced r.id ps
none_fenced ps activity changes r inv isin over slot e = elim ((inv.works slot).orders.fences r.id e) [
  | inl h ↦ (
      let is : h.restoration ≡ r = inv.operations.apart.restoration_ids h.restoration r h.kept isin h.id_is in
      true≢false (sym over ∙ ap (λ k. is_restored k.state) (sym is) ∙ place_left h.restoration.state h.restoration ps.master slot (ps.tablet slot).done h.place))
  | inr h ↦ kinds_apart h.clone.id r.id Clone Restoration h.id_is (inv.operations.clones h.clone h.kept).kind_is (inv.operations.restorations r isin).kind_is (λ q. grind arith)
]

none_fenced_clone : (ps : Parts) (activity : List Interval) (changes : List Change) (c : CloneRecord) → Inv ps activity changes → In c ps.master.clones → is_cloned c.state ≡ true → NoneFenced c.id ps
none_fenced_clone ps activity changes c inv isin over slot e = elim ((inv.works slot).orders.fences c.id e) [
  | inl h ↦ kinds_apart h.restoration.id c.id Restoration Clone h.id_is (inv.operations.restorations h.restoration h.kept).kind_is (inv.operations.clones c isin).kind_is (λ q. grind arith)
  | inr h ↦ (
      let is : h.clone ≡ c = inv.operations.apart.clone_ids h.clone c h.kept isin h.id_is in
      true≢false (sym over ∙ ap (λ k. is_cloned k.state) (sym is) ∙ clone_left h.clone.state h.clone slot (ps.tablet slot).done h.place))
]

owned_passes : (owner : Option Id) (ns : Id) → owner ≡ Some ns → is_owned_by owner ns ≡ true
owned_passes None ns e = absurd (let q = e in grind arith)
owned_passes (Some o) ns e = let q : o ≡ ns = cc in ap (λ k. same k ns) q ∙ same_self ns

fence_facts : (ps : Parts) (activity : List Interval) (changes : List Change) (slot : ℕ) (operation : Id) → Inv ps activity changes → (ps.tablet slot).fence ≡ Some operation → FenceFacts ps slot operation
fence_facts ps activity changes slot operation inv e = record {
  by = elim ((inv.works slot).orders.fences operation e) [
    | inl h ↦ inl (
      h.restoration,
      (
        h.kept,
        (
          h.id_is,
          place_left h.restoration.state h.restoration ps.master slot (ps.tablet slot).done h.place,
          owned_passes (owner_of ps.master.catalog.owners (ps.tablet slot).table) h.restoration.namespace h.owned,
        ),
      ),
    )
    | inr h ↦ inr (
      h.clone,
      (
        h.kept,
        (
          h.id_is,
          clone_left h.clone.state h.clone slot (ps.tablet slot).done h.place,
          owned_passes (owner_of ps.master.catalog.owners (ps.tablet slot).table) h.clone.target_id h.owned,
        ),
      ),
    )
  ];
}

-- States

open_is : (to : Option ℕ) → is_open to ≡ true → to ≡ None
open_is None e = refl
open_is (Some x) e = absurd (true≢false (sym e))

all_fenced : (ps : Parts) (r : RestorationRecord) → ((slot : ℕ) → FencedSlot ps.master r slot (ps.tablet slot)) → AllFenced r.id r.namespace ps
all_fenced ps r each i isin opened owned =
    (each i.slot).fenced i (record { kept = isin; opened = open_is i.to opened; owned = owned_is (owner_of ps.master.catalog.owners i.table) r.namespace owned }) refl

restoration_facts : (state : RestorationState) (ps : Parts) (activity : List Interval) (changes : List Change) (r : RestorationRecord) → r.state ≡ state → Inv ps activity changes → In r ps.master.restorations
    → ((slot : ℕ) → RestorationSlot state ps.master changes r slot (ps.tablet slot)) → RestorationStateFacts state r ps changes
restoration_facts Fencing ps activity changes r is inv isin each = λ l lists acked. (
    let did = (each l.slot).acked l lists refl acked in
    ((each l.slot).fenced did, (given_after ps.master changes l.slot (ps.tablet l.slot) r.id FenceKind (inv.works l.slot) (done_given (ps.tablet l.slot) r.id FenceKind did)).restoration r isin refl))
restoration_facts (Snapshotting point own) ps activity changes r is inv isin each = all_fenced ps r each
restoration_facts (Switching point serving) ps activity changes r is inv isin each = all_fenced ps r (λ slot. record { fenced = (each slot).fenced })
restoration_facts (Restoring point serving) ps activity changes r is inv isin each = λ l lists there. (let h = each l.slot l lists refl in record {
  fenced = h.fenced;
  restored = λ takes did. (let k = h.restored takes did in (k.cutoff_is, k.rows));
})
restoration_facts (Releasing point serving) ps activity changes r is inv isin each = λ l lists acked. (let h = each l.slot l lists refl in unfenced r.id (ps.tablet l.slot).fence (h.released (h.acked acked)))
restoration_facts (Restored point serving) ps activity changes r is inv isin each = none_fenced ps activity changes r inv isin (ap is_restored is)

clone_facts : (state : CloneState) (ps : Parts) (activity : List Interval) (changes : List Change) (c : CloneRecord) → c.state ≡ state → Inv ps activity changes → In c ps.master.clones
    → CloneStateGood state ps.master c → ((slot : ℕ) → CloneSlot state ps.master changes c slot (ps.tablet slot)) → CloneStateFacts state c ps changes
clone_facts (Copying serving at) ps activity changes c is inv isin good each = λ l lists acked. (
    let b = good.bodies l lists in
    let source = (inv.operations.clones c isin).sources (ap is_cloned is) b.pair b.paired in
    record {
      pair = b.pair;
      paired = b.paired;
      target_is = sym b.tablet_is;
      slot_is = sym b.slot_is;
      tables = source.pair;
      cloned = source.paired;
      table_is = source.target_is;
      copy = (each l.slot).copied b.pair b.paired (sym b.slot_is) ((each l.slot).acked l lists refl acked);
    })
clone_facts (CloneReleasing serving at) ps activity changes c is inv isin good each = λ l lists acked. (let h = each l.slot l lists refl in unfenced c.id (ps.tablet l.slot).fence (h.released (h.acked acked)))
clone_facts (CloneComplete serving at) ps activity changes c is inv isin good each = none_fenced_clone ps activity changes c inv isin (ap is_cloned is)
clone_facts _ ps activity changes c is inv isin good each = tt

pub all_recorded : (ps : Parts) (activity : List Interval) (changes : List Change) → Inv ps activity changes → RecordFacts ps changes
all_recorded ps activity changes inv = record {
  snapshots = λ r isin. record { frozen = λ l lists acked same_ present. (let w = inv.works l.slot in w.orders.holds r isin (w.obeyed.snapshots r l isin lists refl acked same_ present)) };
  restorations = λ r isin. restoration_facts r.state ps activity changes r refl inv isin (λ slot. (inv.works slot).obeyed.restorations r isin);
  clones = λ c isin. clone_facts c.state ps activity changes c refl inv isin (inv.operations.clones c isin).in_state (λ slot. (inv.works slot).obeyed.clones c isin);
  after_rows = λ r point isin at c table key op there is owned. inv.journal.undone r point isin at c table key op there is owned;
  after_fence = λ slot r isin given. (given_after ps.master changes slot (ps.tablet slot) r.id FenceKind (inv.works slot) given).restoration r isin refl;
  after_point = λ slot r point kind isin at later given. (given_after ps.master changes slot (ps.tablet slot) r.id kind (inv.works slot) given).point r point isin refl at later;
  fences = λ slot operation e. fence_facts ps activity changes slot operation inv e;
  once = λ slot. (inv.works slot).orders.once;
  fresh = λ slot c isin. (inv.works slot).orders.fresh c isin;
}
