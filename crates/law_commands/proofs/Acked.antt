-- An ack changes a record's list alone, and there one mark: what holds of the records goes on.
use Rattle.std.specs.Prelude.{Some}
use Rattle.std.proofs.Common.{ℕ, ◌≡◌, ◌≤◌, ◌<◌, List, [], ◌∷◌, Bool, true, false, cond, ◌&&◌, ◌||◌, ◌⊎◌, inl, inr, map, refl, sym, ap, subst, ◌∙◌, not, eqb, eqb-true, le_refl}
use Rattle.std.specs.Option.{option_or, option_map}
use Rattle.model.specs.Cluster.{Id, same, In, kept_from, owner_of, Interval, active_within, Freeze, Listed, Sent, SnapshotRecord, RestorationRecord, RestorationState, Fencing, Snapshotting, Restoring, Releasing, CloneRecord, CloneState, CloneSnapshot, Copying, CloneReleasing, acked_at, is_restored, is_cloned, is_visible, ScheduledNamespace, Master}
use Rattle.model.specs.Journal.{Change}
use Rattle.model.specs.Coordination.{acked_snapshot, acked_restoration, acked_clone}
use Rattle.model.specs.Stands.{is_restore}
use Rattle.model.specs.Operations.{restoration_of, clone_with}
use Rattle.model.specs.Schedules.{floor, least_low}
use Rattle.model.specs.Cleanup.{floor_of}
use Rattle.law_store.proofs.Keys.{either_way}
use Rattle.law_invariants.specs.Operations.{Grounds, grounds, IsKnownIn, IsActiveIn, RestorationStateIn, RestorationIn, CloneStateIn, CloneIn, SnapshotsRise, OperationsApart, Uses, IsKnown, IsListed, IsReached, SnapshotGood, IsAfterSwitch, RestorationGood, CloneGood, IsSent, OperationsGood, ScheduledGood}
use Rattle.law_invariants.proofs.Finding.{in_mapped, map_in, either_is}
use Rattle.law_invariants.proofs.Going.{GroundsGo, restoration_goes, clone_goes}
use Rattle.law_invariants.proofs.Recording.{SnapshotOn}
use Rattle.model.specs.Drawn.{drawn_of}

-- Lists

abbrev pub ack_if : Bool → ℕ → List Listed → List Listed
ack_if b slot ls = cond b (acked_at slot ls) ls

-- a line of a list after an ack, as it was before it
pub record Was (ls : List Listed) (b : Bool) (slot : ℕ) (l : Listed) : Type 0 where
  pub line : Listed
  pub listed : In line ls
  pub tablet_is : l.tablet ≡ line.tablet
  pub slot_is : l.slot ≡ line.slot
  pub body_is : l.body ≡ line.body
  pub acked : l.acked ≡ true → (line.acked ≡ true) ⊎ ((b ≡ true) × (line.slot ≡ slot))

pub was : (b : Bool) (ls : List Listed) (slot : ℕ) (l : Listed) → In l (ack_if b slot ls) → Was ls b slot l
was true ls slot l isin = in_mapped {A = Listed} {B = Listed} (λ k. record k { acked = k.acked || eqb k.slot slot }) (Was ls true slot) ls
    (λ k there. record {
      line = k;
      listed = there;
      tablet_is = refl;
      slot_is = refl;
      body_is = refl;
      acked = λ a. either_is k.acked (eqb k.slot slot) a (λ x. inl x) (λ x. inr (refl, eqb-true k.slot slot x));
    })
    l isin
was false ls slot l isin = record { line = l; listed = isin; tablet_is = refl; slot_is = refl; body_is = refl; acked = λ a. inl a }

-- a line is there after it
pub record Now (ls : List Listed) (l : Listed) : Type 0 where
  pub line : Listed
  pub listed : In line ls
  pub tablet_is : line.tablet ≡ l.tablet
  pub slot_is : line.slot ≡ l.slot
  pub body_is : line.body ≡ l.body

pub now : (b : Bool) (ls : List Listed) (slot : ℕ) (l : Listed) → In l ls → Now (ack_if b slot ls) l
now true ls slot l isin = record {
  line = record l { acked = l.acked || eqb l.slot slot };
  listed = map_in {A = Listed} {B = Listed} (λ k. record k { acked = k.acked || eqb k.slot slot }) ls l isin;
  tablet_is = refl;
  slot_is = refl;
  body_is = refl;
}
now false ls slot l isin = record { line = l; listed = isin; tablet_is = refl; slot_is = refl; body_is = refl }

ack_empty : (b : Bool) (slot : ℕ) (ls : List Listed) → ls ≡ [] → ack_if b slot ls ≡ []
ack_empty true slot ls e = ap (acked_at slot) e
ack_empty false slot ls e = e

-- Records

abbrev pub if_same : Id → Id → ℕ → List Listed → List Listed
if_same own id slot ls = ack_if (same own id) slot ls

abbrev pub ack_snapshot : Id → ℕ → SnapshotRecord → SnapshotRecord
ack_snapshot id slot r = record r { listed = if_same r.id id slot r.listed }

abbrev pub ack_restoration : Id → ℕ → RestorationRecord → RestorationRecord
ack_restoration id slot r = record r { listed = if_same r.id id slot r.listed }

abbrev pub ack_clone : Id → ℕ → CloneRecord → CloneRecord
ack_clone id slot r = record r { listed = if_same r.id id slot r.listed }

-- the master after an ack, by whichever record has the identifier
abbrev pub acked_all : Id → ℕ → Master → Master
acked_all id slot m = record m { snapshots = acked_snapshot id slot m.snapshots; restorations = acked_restoration id slot m.restorations; clones = acked_clone id slot m.clones }

pub each_snapshot : (m : Master) (id : Id) (slot : ℕ) (P : SnapshotRecord → Type 0) → ((r : SnapshotRecord) → In r m.snapshots → P (ack_snapshot id slot r)) → (r : SnapshotRecord) → In r (acked_all id slot m).snapshots → P r
each_snapshot m id slot P h r isin = in_mapped (ack_snapshot id slot) P m.snapshots h r isin

pub all_restorations : (m : Master) (id : Id) (slot : ℕ) (P : RestorationRecord → Type 0) → ((r : RestorationRecord) → In r m.restorations → P (ack_restoration id slot r)) → (r : RestorationRecord) → In r (acked_all id slot m).restorations → P r
all_restorations m id slot P h r isin = in_mapped (ack_restoration id slot) P m.restorations h r isin

pub all_clones : (m : Master) (id : Id) (slot : ℕ) (P : CloneRecord → Type 0) → ((c : CloneRecord) → In c m.clones → P (ack_clone id slot c)) → (c : CloneRecord) → In c (acked_all id slot m).clones → P c
all_clones m id slot P h c isin = in_mapped (ack_clone id slot) P m.clones h c isin

pub snapshot_stays : (m : Master) (id : Id) (slot : ℕ) (r : SnapshotRecord) → In r m.snapshots → In (ack_snapshot id slot r) (acked_all id slot m).snapshots
snapshot_stays m id slot r isin = map_in (ack_snapshot id slot) m.snapshots r isin

pub restoration_stays : (m : Master) (id : Id) (slot : ℕ) (r : RestorationRecord) → In r m.restorations → In (ack_restoration id slot r) (acked_all id slot m).restorations
restoration_stays m id slot r isin = map_in (ack_restoration id slot) m.restorations r isin

pub clone_stays : (m : Master) (id : Id) (slot : ℕ) (c : CloneRecord) → In c m.clones → In (ack_clone id slot c) (acked_all id slot m).clones
clone_stays m id slot c isin = map_in (ack_clone id slot) m.clones c isin

-- each two
pub pairs : {A : Type 0} (f : A → A) (R : A → A → Type 0) (xs : List A) → ((q r : A) → In q xs → In r xs → R (f q) (f r)) → (q r : A) → In q (map f xs) → In r (map f xs) → R q r
pairs f R xs h q r inq inr_ = in_mapped f (λ a. R a r) xs (λ a ina. in_mapped f (λ b. R (f a) b) xs (λ b inb. h a b ina inb) r inr_) q inq

rise_acked : (rs : List SnapshotRecord) (id : Id) (slot : ℕ) → SnapshotsRise rs → SnapshotsRise (map (ack_snapshot id slot) rs)
rise_acked [] id slot h = tt
rise_acked (r ∷ rs) id slot h = (in_mapped (ack_snapshot id slot) (λ q. (r.id.number < q.id.number) × (r.at < q.at)) rs h.0, rise_acked rs id slot h.1)

apart_acked : (m : Master) (id : Id) (slot : ℕ) → OperationsApart m.schedules m.scheduled m.snapshots m.restorations m.clones
    → OperationsApart m.schedules m.scheduled (acked_all id slot m).snapshots (acked_all id slot m).restorations (acked_all id slot m).clones
apart_acked m id slot h =
    let fs = ack_snapshot id slot in
    let fr = ack_restoration id slot in
    let fc = ack_clone id slot in
    record {
      schedule_ids = h.schedule_ids;
      one_scheduled = h.one_scheduled;
      snapshots_rise = rise_acked m.snapshots id slot h.snapshots_rise;
      one_snapshot = pairs fs (λ q r. q.complete ≡ false → r.complete ≡ false → q.namespace ≡ r.namespace → q ≡ r) m.snapshots (λ q r inq inr_ a b c. ap fs (h.one_snapshot q r inq inr_ a b c));
      restoration_ids = pairs fr (λ q r. q.id ≡ r.id → q ≡ r) m.restorations (λ q r inq inr_ a. ap fr (h.restoration_ids q r inq inr_ a));
      one_restoration = pairs fr (λ q r. is_restored q.state ≡ false → is_restored r.state ≡ false → q.namespace ≡ r.namespace → q ≡ r) m.restorations (λ q r inq inr_ a b c. ap fr (h.one_restoration q r inq inr_ a b c));
      clone_ids = pairs fc (λ q r. q.id ≡ r.id → q ≡ r) m.clones (λ q r inq inr_ a. ap fc (h.clone_ids q r inq inr_ a));
      one_clone = λ c d ns inc ind. pairs fc (λ q r. is_cloned q.state ≡ false → is_cloned r.state ≡ false → Uses q ns → Uses r ns → q ≡ r) m.clones (λ q r inq inr_ a b e g. ap fc (h.one_clone q r ns inq inr_ a b e g)) c d inc ind;
      one_operation = λ r c inr_ inc. all_restorations m id slot (λ q. is_restored q.state ≡ false → is_cloned c.state ≡ false → Uses c q.namespace → ⊥)
          (λ q inq. all_clones m id slot (λ d. is_restored q.state ≡ false → is_cloned d.state ≡ false → Uses d q.namespace → ⊥) (λ d ind a b e. h.one_operation q d inq ind a b e) c inc) r inr_;
      one_target = λ c d p q inc ind. pairs fc (λ a b. is_cloned a.state ≡ false → is_cloned b.state ≡ false → In p a.tablets → In q b.tablets → p.slot ≡ q.slot → a ≡ b) m.clones
          (λ a b ina inb x y z w v. ap fc (h.one_target a b p q ina inb x y z w v)) c d inc ind;
      one_made = λ c d p q inc ind. pairs fc (λ a b. is_visible a.state ≡ false → is_visible b.state ≡ false → In p a.tablets → In q b.tablets → p.target ≡ q.target → a ≡ b) m.clones
          (λ a b ina inb x y z w v. ap fc (h.one_made a b p q ina inb x y z w v)) c d inc ind;
      one_name = pairs fc (λ q r. is_visible q.state ≡ false → is_visible r.state ≡ false → q.target ≡ r.target → q ≡ r) m.clones (λ q r inq inr_ a b e. ap fc (h.one_name q r inq inr_ a b e));
    }

-- Floors

restoration_time : (rs : List RestorationRecord) (id : Id) (slot : ℕ) (ns : Id) → option_map (λ r. r.to) (restoration_of (map (ack_restoration id slot) rs) ns) ≡ option_map (λ r. r.to) (restoration_of rs ns)
restoration_time [] id slot ns = refl
restoration_time (r ∷ rs) id slot ns = either_way (same r.namespace ns && not (is_restored r.state)) (λ b. rw b refl) (λ b. rw b (restoration_time rs id slot ns))

clone_time : (cs : List CloneRecord) (id : Id) (slot : ℕ) (ns : Id) → option_map (λ r. r.to) (clone_with (map (ack_clone id slot) cs) ns) ≡ option_map (λ r. r.to) (clone_with cs ns)
clone_time [] id slot ns = refl
clone_time (c ∷ cs) id slot ns = either_way ((same c.target_id ns || same c.source ns) && not (is_cloned c.state)) (λ b. rw b refl) (λ b. rw b (clone_time cs id slot ns))

pub floor_acked : (m : Master) (id : Id) (slot : ℕ) (ns : Id) (n : ℕ) → floor_of (acked_all id slot m) ns n ≡ floor_of m ns n
floor_acked m id slot ns n =
    ap (λ t. floor (least_low m.schedules ns n) (option_or t (option_map (λ r. r.to) (clone_with (map (ack_clone id slot) m.clones) ns))) n) (restoration_time m.restorations id slot ns)
    ∙ ap (λ t. floor (least_low m.schedules ns n) (option_or (option_map (λ r. r.to) (restoration_of m.restorations ns)) t) n) (clone_time m.clones id slot ns)

-- Intervals and lists

known_acked : (activity : List Interval) (l k : Listed) → l.tablet ≡ k.tablet → l.slot ≡ k.slot → IsKnownIn activity k → IsKnownIn activity l
known_acked activity l k tablet at h = record { interval = h.interval; kept = h.kept; tablet_is = h.tablet_is ∙ sym tablet; slot_is = h.slot_is ∙ sym at }

listed_acked : (b : Bool) (ls : List Listed) (slot : ℕ) (i : Interval) → IsListed ls i → IsListed (ack_if b slot ls) i
listed_acked b ls slot i h = let k = now b ls slot h.line h.listed in record { line = k.line; listed = k.listed; tablet_is = k.tablet_is ∙ h.tablet_is; slot_is = k.slot_is ∙ h.slot_is }

active_acked : (activity : List Interval) (l k : Listed) (from : ℕ) → l.tablet ≡ k.tablet → l.slot ≡ k.slot → IsActiveIn activity k from → IsActiveIn activity l from
active_acked activity l k from tablet at h = record { interval = h.interval; kept = h.kept; tablet_is = h.tablet_is ∙ sym tablet; slot_is = h.slot_is ∙ sym at; opened = h.opened; from_is = h.from_is }

-- Schedules and snapshots

reached_acked : (m : Master) (id : Id) (slot : ℕ) (ns : Id) (after : ℕ) → IsReached m ns after → IsReached (acked_all id slot m) ns after
reached_acked m id slot ns after (inl h) = inl (subst (λ y. after < y) (sym (floor_acked m id slot ns m.clock)) h)
reached_acked m id slot ns after (inr h) = inr (ack_snapshot id slot h.0, (snapshot_stays m id slot h.0 h.1.0, h.1.1))

scheduled_acked : (m : Master) (id : Id) (slot : ℕ) (k : ScheduledNamespace) → ScheduledGood m k → ScheduledGood (acked_all id slot m) k
scheduled_acked m id slot k h = record { drawn_namespace = h.drawn_namespace; from_one = h.from_one; last = h.last; reached = reached_acked m id slot k.namespace _ h.reached; has = h.has }

snapshot_acked : (m : Master) (id : Id) (slot : ℕ) (r : SnapshotRecord) → SnapshotGood m r → SnapshotGood (acked_all id slot m) (ack_snapshot id slot r)
snapshot_acked m id slot r h =
    let b = same r.id id in
    let bodies : (l : Listed) → In l (if_same r.id id slot r.listed) → l.body ≡ Freeze r.id r.at = λ l isin. (let w = was b r.listed slot l isin in w.body_is ∙ h.bodies w.line w.listed) in
    let drawn_listed : (l : Listed) → In l (if_same r.id id slot r.listed) → l.tablet.number ≤ m.drawn.tablets = λ l isin. (let w = was b r.listed slot l isin in subst (λ t. t.number ≤ m.drawn.tablets) (sym w.tablet_is) (h.drawn_listed w.line w.listed)) in
    let listed_of : (l : Listed) (i : Interval) → In l (if_same r.id id slot r.listed) → In i m.activity → i.tablet ≡ l.tablet → (owner_of m.catalog.owners i.table ≡ Some r.namespace) × (i.slot ≡ l.slot) = λ l i isin there is. (let w = was b r.listed slot l isin in let k = h.listed_of w.line i w.listed there (is ∙ w.tablet_is) in (k.0, k.1 ∙ sym w.slot_is)) in
    let known : r.complete ≡ false → (l : Listed) → In l (if_same r.id id slot r.listed) → IsKnown (acked_all id slot m) l = λ unfinished l isin. (let w = was b r.listed slot l isin in known_acked m.activity l w.line w.tablet_is w.slot_is (h.known unfinished w.line w.listed)) in
    let lists : (i : Interval) → In i m.activity → owner_of m.catalog.owners i.table ≡ Some r.namespace → active_within r.after r.at i ≡ true → IsListed (if_same r.id id slot r.listed) i = λ i there owned active. listed_acked b r.listed slot i (h.lists i there owned active) in
    let reached : (r.after < floor_of (acked_all id slot m) r.namespace m.clock) ⊎ ((q : SnapshotRecord) × (In q (acked_snapshot id slot m.snapshots) × ((q.namespace ≡ r.namespace) × ((q.at ≡ r.after) × (q.complete ≡ true))))) = elim h.reached [
      | inl low ↦ inl (subst (λ y. r.after < y) (sym (floor_acked m id slot r.namespace m.clock)) low)
      | inr q ↦ inr (ack_snapshot id slot q.0, (snapshot_stays m id slot q.0 q.1.0, q.1.1))
    ] in
    assumption (bodies, drawn_listed, listed_of, known, lists, reached)

-- the ground goes on with acked snapshots
acked_on : (id : Id) (slot : ℕ) (q : SnapshotRecord) → SnapshotOn q (ack_snapshot id slot q)
acked_on id slot q = record { id_is = refl; namespace_is = refl; after_is = refl; at_is = refl; complete = λ e. e; lines = λ l isin. (let k = now (same q.id id) q.listed slot l isin in (k.line, (k.listed, k.tablet_is))) }

grounds_acked : (m : Master) (id : Id) (slot : ℕ) (changes : List Change) → GroundsGo (grounds m) (grounds (acked_all id slot m)) changes changes
grounds_acked m id slot changes = record { clock = le_refl m.clock; slots = le_refl m.slots; drawn = λ kind. le_refl (drawn_of kind m.drawn); owned = λ table ns is. is; switched = λ ns point is. is }

-- Restorations: their lines are acked

state_acked : (state : RestorationState) (g : Grounds) (id : Id) (slot : ℕ) (changes : List Change) (r : RestorationRecord) → RestorationStateIn state g changes r → RestorationStateIn state g changes (ack_restoration id slot r)
state_acked Fencing g id slot changes r h = let b = same r.id id in record {
  bodies = λ l isin. (let w = was b r.listed slot l isin in w.body_is ∙ h.bodies w.line w.listed);
  lists = λ i opened. listed_acked b r.listed slot i (h.lists i opened);
  opens = λ l isin. (let w = was b r.listed slot l isin in let k = h.opens w.line w.listed in (k.0, (k.1.0, (k.1.1.0 ∙ sym w.tablet_is, k.1.1.1 ∙ sym w.slot_is))));
}
state_acked (Snapshotting point own) g id slot changes r h =
    let empty = ack_empty (same r.id id) slot r.listed h.empty in
    record { is_point = h.is_point; empty = empty; soon = h.soon; before = h.before; snapshot = h.snapshot; kept = h.kept; id_is = h.id_is; at_is = h.at_is; namespace_is = h.namespace_is; alone = h.alone }
state_acked (Restoring point serving) g id slot changes r h = let b = same r.id id in record {
  is_point = h.is_point;
  begun = h.begun;
  serves = h.serves;
  calm = h.calm;
  switched = h.switched;
  bodies = λ l isin. (let w = was b r.listed slot l isin in subst (IsAfterSwitch r.to point serving) (sym w.body_is) (h.bodies w.line w.listed));
  back = λ l isin restores. (
      let w = was b r.listed slot l isin in
      let k = h.back w.line w.listed (ap is_restore (sym w.body_is) ∙ restores) in record {
        then_ = k.then_;
        kept_then = k.kept_then;
        tablet_then = k.tablet_then ∙ sym w.tablet_is;
        active = k.active;
        now = k.now;
        kept_now = k.kept_now;
        tablet_now = k.tablet_now ∙ sym w.tablet_is;
        slot_now = k.slot_now ∙ sym w.slot_is;
        opened = k.opened;
        from_is = k.from_is;
      });
  gone = λ l i isin hides there is. (let w = was b r.listed slot l isin in h.gone w.line i w.listed (ap is_restore (sym w.body_is) ∙ hides) there (is ∙ w.tablet_is));
  opens = λ i opened. (
      let k = h.opens i opened in
      let w = now b r.listed slot k.is_listed.line k.is_listed.listed in record {
        from_is = k.from_is;
        is_listed = record { line = w.line; listed = w.listed; tablet_is = w.tablet_is ∙ k.is_listed.tablet_is; slot_is = w.slot_is ∙ k.is_listed.slot_is };
        restores = ap is_restore w.body_is ∙ k.restores;
      });
}
state_acked (Releasing point serving) g id slot changes r h = let b = same r.id id in record {
  is_point = h.is_point;
  begun = h.begun;
  switched = h.switched;
  bodies = λ l isin. (let w = was b r.listed slot l isin in w.body_is ∙ h.bodies w.line w.listed);
  active = λ l isin. (let w = was b r.listed slot l isin in active_acked g.activity l w.line point w.tablet_is w.slot_is (h.active w.line w.listed));
  opens = λ i opened. listed_acked b r.listed slot i (h.opens i opened);
}
state_acked _ g id slot changes r h = assumption (ack_empty (same r.id id) slot r.listed h.empty, h)

restoration_acked : (m : Master) (id : Id) (slot : ℕ) (changes : List Change) (r : RestorationRecord) → RestorationGood m changes r → RestorationGood (acked_all id slot m) changes (ack_restoration id slot r)
restoration_acked m id slot changes r old =
    let g = grounds (acked_all id slot m) in
    let h : RestorationIn g changes r = restoration_goes (grounds m) g changes changes (grounds_acked m id slot changes) r (λ unfinished. record {
      space = record { came = λ i there owner. (there, owner); tables = λ t there of. there; fixed = λ to is. is };
      lines = record { stays = λ l i lists there is. there; was = λ l i lists known there is. there };
      named = λ q there is. (ack_snapshot id slot q, (snapshot_stays m id slot q there, acked_on id slot q));
      taken = λ point q at there. each_snapshot m id slot (λ q. q.namespace ≡ r.namespace → (p : SnapshotRecord) × (In p m.snapshots × SnapshotOn p q)) (λ q inq is. (q, (inq, acked_on id slot q))) q there;
      points = λ point at h. h;
      schedule = λ k there id_is is. (k, (there, (id_is, is)));
    }) old in
    let known : is_restored r.state ≡ false → (l : Listed) → In l (if_same r.id id slot r.listed) → IsKnown m l = λ unfinished l isin. (let w = was (same r.id id) r.listed slot l isin in known_acked m.activity l w.line w.tablet_is w.slot_is (h.known unfinished w.line w.listed)) in
    let in_state : RestorationStateIn r.state g changes (ack_restoration id slot r) = state_acked r.state g id slot changes r h.in_state in
    assumption (known, in_state, h)

-- Clones

clone_state_acked : (state : CloneState) (g : Grounds) (id : Id) (slot : ℕ) (c : CloneRecord) → CloneStateIn state g c → CloneStateIn state g (ack_clone id slot c)
clone_state_acked (CloneSnapshot own) g id slot c h = record { empty = ack_empty (same c.id id) slot c.listed h.empty; snapshot = h.snapshot; kept = h.kept; id_is = h.id_is; namespace_is = h.namespace_is; reaches = h.reaches }
clone_state_acked (Copying serving at) g id slot c h = let b = same c.id id in record {
  begun = h.begun;
  later = h.later;
  serves = h.serves;
  bodies = λ l isin. (
      let w = was b c.listed slot l isin in
      let k = h.bodies w.line w.listed in record { pair = k.pair; paired = k.paired; tablet_is = w.tablet_is ∙ k.tablet_is; slot_is = w.slot_is ∙ k.slot_is; body_is = w.body_is ∙ k.body_is });
  all = λ p paired. (let k = h.all p paired in let w = now b c.listed slot k.0 k.1.0 in (w.line, (w.listed, (w.tablet_is ∙ k.1.1.0, w.slot_is ∙ k.1.1.1))));
}
clone_state_acked (CloneReleasing serving at) g id slot c h = let b = same c.id id in record {
  since = h.since;
  begun = h.begun;
  later = h.later;
  copied = h.copied;
  bodies = λ l isin. (let w = was b c.listed slot l isin in w.body_is ∙ h.bodies w.line w.listed);
  active = λ l isin. (let w = was b c.listed slot l isin in active_acked g.activity l w.line h.since w.tablet_is w.slot_is (h.active w.line w.listed));
  listed_of = λ l i isin there is. (let w = was b c.listed slot l isin in h.listed_of w.line i w.listed there (is ∙ w.tablet_is));
  opens = λ i opened. listed_acked b c.listed slot i (h.opens i opened);
}
clone_state_acked _ g id slot c h = ack_empty (same c.id id) slot c.listed h

clone_acked : (m : Master) (id : Id) (slot : ℕ) (changes : List Change) (c : CloneRecord) → CloneGood m changes c → CloneGood (acked_all id slot m) changes (ack_clone id slot c)
clone_acked m id slot changes c old =
    let g = grounds (acked_all id slot m) in
    let h : CloneIn g (acked_all id slot m).restorations changes c = clone_goes (grounds m) g changes changes (grounds_acked m id slot changes) m.restorations (acked_all id slot m).restorations c (λ unfinished. record {
      space = record { came = λ i there owner. (there, owner); tables = λ t there of. there; fixed = λ to is. is };
      lines = λ owner. record { stays = λ l i lists there is. there; was = λ l i lists known there is. there };
      named = λ q there is. (ack_snapshot id slot q, (snapshot_stays m id slot q there, acked_on id slot q));
      schedule = λ k there is. (k, (there, is));
      source = λ p paired k. k;
      reserved = λ unseen p paired k. record {
        free = k.free;
        unknown = k.unknown;
        no_snapshot = λ r l isin. each_snapshot m id slot (λ q. In l q.listed → l.tablet ≡ p.target → ⊥) (λ q inq lists is. let w = was (same q.id id) q.listed slot l lists in k.no_snapshot q w.line inq w.listed (sym w.tablet_is ∙ is)) r isin;
        no_restoration = λ r l isin. all_restorations m id slot (λ q. In l q.listed → l.tablet ≡ p.target → ⊥) (λ q inq lists is. let w = was (same q.id id) q.listed slot l lists in k.no_restoration q w.line inq w.listed (sym w.tablet_is ∙ is)) r isin;
      };
      names = λ unseen r there free. free r there;
      schedules = λ unseen k there is. (k, (there, is));
    }) old in
    let drawn_listed : (l : Listed) → In l (if_same c.id id slot c.listed) → l.tablet.number ≤ m.drawn.tablets = λ l isin. (let w = was (same c.id id) c.listed slot l isin in subst (λ t. t.number ≤ m.drawn.tablets) (sym w.tablet_is) (h.drawn_listed w.line w.listed)) in
    let in_state : CloneStateIn c.state g (ack_clone id slot c) = clone_state_acked c.state g id slot c h.in_state in
    assumption (drawn_listed, in_state, h)

-- All

sent_acked : (m : Master) (id : Id) (slot : ℕ) (mark : Sent) → IsSent m.snapshots m.restorations m.clones mark → IsSent (acked_all id slot m).snapshots (acked_all id slot m).restorations (acked_all id slot m).clones mark
sent_acked m id slot mark (inl k) = let r = k.0 in let l = k.1.1.2 in let w = now (same r.id id) r.listed slot l.0 l.1.0 in
    inl (ack_snapshot id slot r, (snapshot_stays m id slot r k.1.0, (k.1.1.0, k.1.1.1, (w.line, (w.listed, w.slot_is ∙ l.1.1)))))
sent_acked m id slot mark (inr (inl k)) = let r = k.0 in let l = k.1.1.2 in let w = now (same r.id id) r.listed slot l.0 l.1.0 in
    inr (inl (ack_restoration id slot r, (restoration_stays m id slot r k.1.0, (k.1.1.0, k.1.1.1, (w.line, (w.listed, w.slot_is ∙ l.1.1))))))
sent_acked m id slot mark (inr (inr k)) = let r = k.0 in let l = k.1.1.2 in let w = now (same r.id id) r.listed slot l.0 l.1.0 in
    inr (inr (ack_clone id slot r, (clone_stays m id slot r k.1.0, (k.1.1.0, k.1.1.1, (w.line, (w.listed, w.slot_is ∙ l.1.1))))))

pub operations_acked : (m : Master) (id : Id) (slot : ℕ) (changes : List Change) → OperationsGood m changes → OperationsGood (acked_all id slot m) changes
operations_acked m id slot changes h = record {
  kept = λ ns. subst (λ y. kept_from m.catalog.kept_from ns ≤ y) (sym (floor_acked m id slot ns m.clock)) (h.kept ns);
  owners = h.owners;
  apart = apart_acked m id slot h.apart;
  schedules = h.schedules;
  scheduled = λ k isin. scheduled_acked m id slot k (h.scheduled k isin);
  snapshots = each_snapshot m id slot (SnapshotGood (acked_all id slot m)) (λ r isin. snapshot_acked m id slot r (h.snapshots r isin));
  restorations = all_restorations m id slot (RestorationGood (acked_all id slot m) changes) (λ r isin. restoration_acked m id slot changes r (h.restorations r isin));
  clones = all_clones m id slot (CloneGood (acked_all id slot m) changes) (λ c isin. clone_acked m id slot changes c (h.clones c isin));
  sent = λ mark isin. sent_acked m id slot mark (h.sent mark isin);
}
