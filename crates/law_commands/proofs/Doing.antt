-- What goes on to hold where a tablet does its first command: of its other commands and its marks, of operations that don't hold its
-- namespace, and of its store.
use Rattle.model.specs.Cluster.{ended_by, code_of, Id, same, In, in_range, owner_of, Interval, Listed, SnapshotRecord, RestorationRecord, RestorationState, Fencing, Snapshotting, Switching, Restoring, Releasing, Restored, TabletPair, CloneRecord, CloneState, Accepted, CloneSnapshot, Copying, CloneReleasing, CloneComplete, is_restored, is_cloned, is_visible, Master}
use Rattle.std.proofs.Common.{ℕ, ◌≡◌, ◌≢◌, ◌≤◌, ◌<◌, ◌+◌, List, [], ◌∷◌, ◌++◌, Option, Some, None, true, false, cond, ◌&&◌, inl, inr, refl, sym, ap, subst, ◌∙◌, arith, le_trans, lt_of_lt_of_le, not}
use Rattle.std.specs.List.{list_any}
use Rattle.std.specs.Option.{is_some, option_or}
use Rattle.std.proofs.lemmas.Bool.{true≢false}
use Rattle.model.specs.Drawn.{drawn_of}
use Rattle.model.specs.Journal.{Change, table_at}
use Rattle.model.specs.Right.{is_fixed}
use Rattle.model.specs.Tablets.{Tablet, Command, Mark, Body, RestoreFrom, Hide, FenceKind, FreezeKind, RestoreFromKind, FrozenSet, kind_of, is_done, holds_command, is_empty, is_serving, HiddenPart}
use Rattle.model.specs.Stands.{NoneTwice, HoldsFrozen, awaited_in, awaited_of, is_restore}
use Rattle.law_store.specs.Sorted.{Sorted, EachKey}
use Rattle.law_invariants.specs.Invariant.{MasterGood, IsOpen, SlotGood, SetStands, is_awaited, OverBy, TurnsAt, ComesFrom, StandsIn}
use Rattle.law_invariants.specs.Operations.{IsOpenOf, IsAfterSwitch, RestorationStateGood, CloneStateGood, OperationsGood}
use Rattle.law_invariants.specs.Orders.{IsFence, IsAfter, IsMark, IsSetOf, OrdersGood, restoring_stage, stage_of_restoration, cloning_stage, stage_of_clone, RestorationSlot, CloneSlot}
use Rattle.law_invariants.proofs.Finding.{in_added}
use Rattle.law_invariants.proofs.Ticking.{below_later, over_later}
use Rattle.law_invariants.proofs.Ordering.{order_later, mark_later}
use Rattle.law_invariants.proofs.DoneMarks.{command_held, done_beside}
use Rattle.law_invariants.proofs.Commanded.{IsPending, BySnapshot, ByRestoration as RestorationPends, ByClone as ClonePends, snapshot_no_restoration, snapshot_no_clone, restoration_no_clone, none_in}

-- Marks

abbrev pub mark_of : Command → Mark
mark_of c = record { operation = c.operation; kind = kind_of c.body }

after_stage : (b : Body) (r : RestorationRecord) (point : ℕ) (serving : Id) → IsAfterSwitch r.to point serving b → restoring_stage (kind_of b) ≤ 2
after_stage (RestoreFrom snapshot to at version) r point serving h = omega arith
after_stage (Hide ended) r point serving h = omega arith
after_stage _ r point serving h = absurd h

-- in which of its states a restoration's listed tablet has its body
restoration_stage : (state : RestorationState) (m : Master) (changes : List Change) (r : RestorationRecord) (l : Listed) → RestorationStateGood state m changes r → In l r.listed → restoring_stage (kind_of l.body) ≤ stage_of_restoration state
restoration_stage Fencing m changes r l h isin = rw (h.bodies l isin) (omega arith)
restoration_stage (Restoring point serving) m changes r l h isin = after_stage l.body r point serving (h.bodies l isin)
restoration_stage (Releasing point serving) m changes r l h isin = rw (h.bodies l isin) (omega arith)
restoration_stage _ m changes r l h isin = absurd (none_in r.listed l h.empty isin)

clone_stage : (state : CloneState) (m : Master) (c : CloneRecord) (l : Listed) → CloneStateGood state m c → In l c.listed → cloning_stage (kind_of l.body) ≤ stage_of_clone state
clone_stage (CloneSnapshot own) m c l h isin = absurd (none_in c.listed l h.empty isin)
clone_stage (Copying serving at) m c l h isin = rw (h.bodies l isin).body_is (omega arith)
clone_stage (CloneReleasing serving at) m c l h isin = rw (h.bodies l isin) (omega arith)
clone_stage _ m c l h isin = absurd (none_in c.listed l h isin)

-- a command that was pending may be marked
pub mark_pending : (m : Master) (changes : List Change) (operation : Id) (slot n : ℕ) (l : Listed) → OperationsGood m changes → IsPending m operation slot l → IsAfter m n operation (kind_of l.body)
    → IsMark m n (record { operation = operation; kind = kind_of l.body })
mark_pending m changes operation slot n l ops (BySnapshot k) after = let g = ops.snapshots k.snapshot k.kept in record {
  drawn = subst (λ o. o.number ≤ drawn_of o.kind m.drawn) k.id_is (subst (λ kind. k.snapshot.id.number ≤ drawn_of kind m.drawn) (sym g.kind_is) g.drawn);
  after = after;
  by_snapshot = λ r isin is. ap kind_of (g.bodies l k.line.listed);
  by_restoration = λ r isin is. absurd (snapshot_no_restoration m changes k.snapshot r ops k.kept isin (k.id_is ∙ sym is));
  by_clone = λ c isin is. absurd (snapshot_no_clone m changes k.snapshot c ops k.kept isin (k.id_is ∙ sym is));
}
mark_pending m changes operation slot n l ops (RestorationPends k) after = let g = ops.restorations k.restoration k.kept in record {
  drawn = subst (λ o. o.number ≤ drawn_of o.kind m.drawn) k.id_is (subst (λ kind. k.restoration.id.number ≤ drawn_of kind m.drawn) (sym g.kind_is) g.drawn);
  after = after;
  by_snapshot = λ r isin is. absurd (snapshot_no_restoration m changes r k.restoration ops isin k.kept (is ∙ sym k.id_is));
  by_restoration = λ r isin is. (
      let one : k.restoration ≡ r = ops.apart.restoration_ids k.restoration r k.kept isin (k.id_is ∙ sym is) in
      subst (λ q. restoring_stage (kind_of l.body) ≤ stage_of_restoration q.state) one (restoration_stage k.restoration.state m changes k.restoration l g.in_state k.line.listed));
  by_clone = λ c isin is. absurd (restoration_no_clone m changes k.restoration c ops k.kept isin (k.id_is ∙ sym is));
}
mark_pending m changes operation slot n l ops (ClonePends k) after = let g = ops.clones k.clone k.kept in record {
  drawn = subst (λ o. o.number ≤ drawn_of o.kind m.drawn) k.id_is (subst (λ kind. k.clone.id.number ≤ drawn_of kind m.drawn) (sym g.kind_is) g.drawn);
  after = after;
  by_snapshot = λ r isin is. absurd (snapshot_no_clone m changes r k.clone ops isin k.kept (is ∙ sym k.id_is));
  by_restoration = λ r isin is. absurd (restoration_no_clone m changes r k.clone ops isin k.kept (is ∙ sym k.id_is));
  by_clone = λ c isin is. (
      let one : k.clone ≡ c = ops.apart.clone_ids k.clone c k.kept isin (k.id_is ∙ sym is) in
      subst (λ q. cloning_stage (kind_of l.body) ≤ stage_of_clone q.state) one (clone_stage k.clone.state m k.clone l g.in_state k.line.listed));
}

-- Commands and marks after the first command

-- the tablet as a body leaves it, its clock at a stamp, with the commands behind the first and one more mark
abbrev pub done_with : Tablet → ℕ → List Command → List Mark → Tablet
done_with v n cs done = record v { clock = n; inbox = cs; done = done }

fresh_left : (t : Tablet) (c : Command) (cs : List Command) (d : Command) → holds_command cs c.operation (kind_of c.body) ≡ false → is_done t.done d.operation (kind_of d.body) ≡ false → In d cs
    → is_done (t.done ++ mark_of c ∷ []) d.operation (kind_of d.body) ≡ false
fresh_left t c cs d once fresh isin =
    done_beside t.done (mark_of c) d.operation (kind_of d.body) (λ o k. true≢false (sym (command_held cs d c.operation (kind_of c.body) isin (sym o) (sym k)) ∙ once)) ∙ fresh

pub orders_done : (m : Master) (slot : ℕ) (t v : Tablet) (n : ℕ) (c : Command) (cs : List Command) → t.clock ≤ n → t.inbox ≡ c ∷ cs → IsMark m n (mark_of c)
    → ((operation : Id) → v.fence ≡ Some operation → IsFence m slot v.table (t.done ++ mark_of c ∷ []) operation)
    → ((r : SnapshotRecord) → In r m.snapshots → is_done (t.done ++ mark_of c ∷ []) r.id FreezeKind ≡ true → HoldsFrozen r.id r.at (done_with v n cs (t.done ++ mark_of c ∷ [])))
    → ((f : FrozenSet) → In f v.frozen → is_done (t.done ++ mark_of c ∷ []) f.snapshot FreezeKind ≡ true) → ((f : FrozenSet) → In f v.frozen → IsSetOf m.snapshots v.tablet f)
    → is_empty v.presence ≡ false → OrdersGood m slot t → OrdersGood m slot (done_with v n cs (t.done ++ mark_of c ∷ []))
orders_done m slot t v n c cs le is marked fences holds frozen sets present h =
    let once : NoneTwice (c ∷ cs) = subst NoneTwice is h.once in record {
      fences = fences;
      orders = λ d isin. order_later m slot t.clock n d le (h.orders d (subst (In d) (sym is) (inr isin)));
      once = once.1;
      fresh = λ d isin. fresh_left t c cs d once.0 (h.fresh d (subst (In d) (sym is) (inr isin))) isin;
      marks = λ k isin. in_added (IsMark m n) t.done (mark_of c) (λ q old. mark_later m t.clock n q le (h.marks q old)) marked k isin;
      holds = holds;
      frozen = frozen;
      sets = sets;
      bare = λ vacant. absurd (true≢false (sym vacant ∙ present));
    }

-- The namespace of a slot

-- the slot's tablet is one of the namespace
pub record IsHere (m : Master) (slot : ℕ) (ns : Id) : Type 0 where
  pub interval : Interval
  pub kept : In interval m.activity
  pub slot_is : interval.slot ≡ slot
  pub owned : owner_of m.catalog.owners interval.table ≡ Some ns

pub table_here : (m : Master) (changes : List Change) (slot : ℕ) (t : Tablet) (ns : Id) → SlotGood m changes slot t → IsHere m slot ns → owner_of m.catalog.owners t.table ≡ Some ns
table_here m changes slot t ns h here = ap (owner_of m.catalog.owners) (h.each here.interval here.kept here.slot_is).table_is ∙ here.owned

pub owner_here : (m : Master) (changes : List Change) (slot : ℕ) (t : Tablet) (ns other : Id) (i : Interval) → SlotGood m changes slot t → IsHere m slot ns → In i m.activity → i.slot ≡ slot
    → owner_of m.catalog.owners i.table ≡ Some other → other ≡ ns
owner_here m changes slot t ns other i h here isin is owned =
    let q : Some other ≡ Some ns = sym owned ∙ ap (owner_of m.catalog.owners) (sym (h.each i isin is).table_is) ∙ table_here m changes slot t ns h here in cc

-- where an unfinished restoration lists the slot, it is one of the namespace
pub lists_here : (m : Master) (changes : List Change) (slot : ℕ) (t : Tablet) (ns : Id) (r : RestorationRecord) (l : Listed) → MasterGood m changes → OperationsGood m changes → SlotGood m changes slot t → IsHere m slot ns
    → In r m.restorations → is_restored r.state ≡ false → In l r.listed → l.slot ≡ slot → r.namespace ≡ ns
lists_here m changes slot t ns r l master ops h here isin unfinished lists at =
    let k = (ops.restorations r isin).known unfinished l lists in
    owner_here m changes slot t ns r.namespace k.interval h here k.kept (k.slot_is ∙ at) (master.listed_of r l isin lists k.interval k.kept k.tablet_is)

-- and so it is where the slot's tablet has its fence
pub fence_here : (m : Master) (changes : List Change) (slot : ℕ) (t : Tablet) (ns : Id) (r : RestorationRecord) → OperationsGood m changes → OrdersGood m slot t → owner_of m.catalog.owners t.table ≡ Some ns
    → In r m.restorations → t.fence ≡ Some r.id → r.namespace ≡ ns
fence_here m changes slot t ns r ops o owned isin fenced = elim (o.fences r.id fenced) as (λ _. r.namespace ≡ ns) [
  | inl k ↦ (
      let one : k.restoration ≡ r = ops.apart.restoration_ids k.restoration r k.kept isin k.id_is in
      let q : Some r.namespace ≡ Some ns = ap (λ z. Some z.namespace) (sym one) ∙ sym k.owned ∙ owned in cc)
  | inr k ↦ absurd (restoration_no_clone m changes r k.clone ops isin k.kept (sym k.id_is))
]

-- Operations that don't hold the namespace

pub apart_in : (state : RestorationState) (m : Master) (changes : List Change) (r : RestorationRecord) (slot : ℕ) (t u : Tablet) → (is_restored state ≡ false → (l : Listed) → In l r.listed → l.slot ≡ slot → ⊥)
    → (is_restored state ≡ false → (i : Interval) → IsOpenOf m r.namespace i → i.slot ≡ slot → ⊥) → is_done u.done r.id FenceKind ≡ is_done t.done r.id FenceKind → (is_restored state ≡ false → t.fence ≡ Some r.id → ⊥)
    → RestorationSlot state m changes r slot t → RestorationSlot state m changes r slot u
apart_in Fencing m changes r slot t u unlisted closed marks unfenced h = record {
  acked = λ l isin is. absurd (unlisted refl l isin is);
  fenced = λ did. absurd (unfenced refl (h.fenced (sym marks ∙ did)));
}
apart_in (Snapshotting point own) m changes r slot t u unlisted closed marks unfenced h = record { fenced = λ i opened is. absurd (closed refl i opened is) }
apart_in (Switching point serving) m changes r slot t u unlisted closed marks unfenced h = record { fenced = λ i opened is. absurd (closed refl i opened is); past = λ i opened is. absurd (closed refl i opened is) }
apart_in (Restored point serving) m changes r slot t u unlisted closed marks unfenced h = tt
apart_in _ m changes r slot t u unlisted closed marks unfenced h = λ l isin is. absurd (unlisted refl l isin is)

-- a restoration that doesn't hold the namespace of a slot has nothing there
pub apart_restoration : (m : Master) (changes : List Change) (slot : ℕ) (t u : Tablet) (ns : Id) (r : RestorationRecord) → MasterGood m changes → OperationsGood m changes → SlotGood m changes slot t → OrdersGood m slot t
    → IsHere m slot ns → In r m.restorations → (is_restored r.state ≡ false → r.namespace ≡ ns → ⊥) → is_done u.done r.id FenceKind ≡ is_done t.done r.id FenceKind → RestorationSlot r.state m changes r slot t
    → RestorationSlot r.state m changes r slot u
apart_restoration m changes slot t u ns r master ops good o here isin other marks h = apart_in r.state m changes r slot t u
    (λ unfinished l lists at. other unfinished (lists_here m changes slot t ns r l master ops good here isin unfinished lists at))
    (λ unfinished i opened at. other unfinished (owner_here m changes slot t ns r.namespace i good here opened.kept at opened.owned))
    marks
    (λ unfinished fenced. other unfinished (fence_here m changes slot t ns r ops o (table_here m changes slot t ns good here) isin fenced))
    h

pub apart_of : (state : CloneState) (m : Master) (changes : List Change) (c : CloneRecord) (slot : ℕ) (u : Tablet) → (is_visible state ≡ false → (p : TabletPair) → In p c.tablets → p.slot ≡ slot → ⊥)
    → (is_visible state ≡ true → is_cloned state ≡ false → (l : Listed) → In l c.listed → l.slot ≡ slot → ⊥)
    → (is_visible state ≡ false → is_serving u.presence ≡ true → u.fence ≡ None → owner_of m.catalog.owners u.table ≡ Some c.source → c.to ≤ u.clock)
    → CloneStateGood state m c → CloneSlot state m changes c slot u
apart_of (Copying serving at) m changes c slot u unpaired unlisted later good = record {
  acked = λ l isin is. absurd (let b = good.bodies l isin in unpaired refl b.pair b.paired (sym b.slot_is ∙ is));
  empty = λ p paired is. absurd (unpaired refl p paired is);
  copied = λ p paired is. absurd (unpaired refl p paired is);
  later = later refl;
}
apart_of (CloneReleasing serving at) m changes c slot u unpaired unlisted later good = λ l isin is. absurd (unlisted refl refl l isin is)
apart_of (CloneComplete serving at) m changes c slot u unpaired unlisted later good = tt
apart_of _ m changes c slot u unpaired unlisted later good = record { empty = λ p paired is. absurd (unpaired refl p paired is) }

active_owner : (state : CloneState) (m : Master) (changes : List Change) (slot : ℕ) (t : Tablet) (ns : Id) (c : CloneRecord) (l : Listed) → SlotGood m changes slot t → IsHere m slot ns → CloneStateGood state m c → is_visible state ≡ true → is_cloned state ≡ false
    → In l c.listed → l.slot ≡ slot → c.target_id ≡ ns
active_owner Accepted m changes slot t ns c l h here good seen unfinished isin is = absurd (true≢false (sym seen))
active_owner (CloneReleasing serving at) m changes slot t ns c l h here good seen unfinished isin is =
    let k = good.active l isin in owner_here m changes slot t ns c.target_id k.interval h here k.kept (k.slot_is ∙ is) (good.listed_of l k.interval isin k.kept k.tablet_is)
active_owner (CloneComplete serving at) m changes slot t ns c l h here good seen unfinished isin is = absurd (true≢false unfinished)
active_owner _ m changes slot t ns c l h here good seen unfinished isin is = absurd (true≢false (sym seen))

-- a clone that doesn't hold the namespace of a slot has nothing there
pub apart_clone : (m : Master) (changes : List Change) (slot : ℕ) (t u : Tablet) (ns : Id) (c : CloneRecord) → OperationsGood m changes → SlotGood m changes slot t → IsHere m slot ns → In c m.clones
    → (is_cloned c.state ≡ false → c.target_id ≡ ns → ⊥) → (is_visible c.state ≡ false → is_serving u.presence ≡ true → u.fence ≡ None → owner_of m.catalog.owners u.table ≡ Some c.source → c.to ≤ u.clock)
    → CloneSlot c.state m changes c slot u
apart_clone m changes slot t u ns c ops good here isin other later = apart_of c.state m changes c slot u
    (λ unseen p paired at. ((ops.clones c isin).reserved unseen p paired).free here.interval here.kept (here.slot_is ∙ sym at))
    (λ seen unfinished l lists at. other unfinished (active_owner c.state m changes slot t ns c l good here (ops.clones c isin).in_state seen unfinished lists at))
    later (ops.clones c isin).in_state

-- The store

pub awaited_of_kept : (state : RestorationState) (r : RestorationRecord) (tablet : Id) (done later : List Mark) → is_done later r.id RestoreFromKind ≡ is_done done r.id RestoreFromKind → awaited_of state r tablet later ≡ awaited_of state r tablet done
awaited_of_kept (Restoring point serving) r tablet done later e = ap (λ d. cond (list_any (λ l. same l.tablet tablet && is_restore l.body) r.listed && not d) (Some point) None) e
awaited_of_kept _ r tablet done later e = refl

-- a tablet awaits the same rows under marks by which it took the same
abbrev pub SameRestores : List RestorationRecord → List Mark → List Mark → Type 0
SameRestores rs done later = (r : RestorationRecord) → In r rs → is_done later r.id RestoreFromKind ≡ is_done done r.id RestoreFromKind

pub awaited_kept : (rs : List RestorationRecord) (tablet : Id) (done later : List Mark) → SameRestores rs done later → awaited_in rs tablet later ≡ awaited_in rs tablet done
awaited_kept [] tablet done later e = refl
awaited_kept (r ∷ rs) tablet done later e =
    ap (λ q. option_or q (awaited_in rs tablet later)) (awaited_of_kept r.state r tablet done later (e r (inl refl)))
    ∙ ap (option_or (awaited_of r.state r tablet done)) (awaited_kept rs tablet done later (λ q isin. e q (inr isin)))

-- a mark of another kind
pub same_restores : (rs : List RestorationRecord) (done : List Mark) (k : Mark) → k.kind ≢ RestoreFromKind → SameRestores rs done (done ++ k ∷ [])
same_restores rs done k apart = λ r isin. done_beside done k r.id RestoreFromKind (λ o is. apart is)

-- the tablet with a later clock, another cutoff, fence and inbox, other frozen sets and marks
abbrev pub changed : Tablet → ℕ → ℕ → List FrozenSet → Option Id → List Command → List Mark → Tablet
changed t n cutoff sets fence inbox done = record t { clock = n; cutoff = cutoff; frozen = sets; fence = fence; inbox = inbox; done = done }

-- a frozen set is good
pub record SetGood (m : Master) (changes : List Change) (slot n : ℕ) (t : Tablet) (f : FrozenSet) : Type 0 where
  pub past : f.at < n
  pub sorted : Sorted f.versions
  pub keys : EachKey (λ key. in_range t.low t.high (code_of key)) f.versions
  pub stands : (i : Interval) → In i m.activity → i.slot ≡ slot → SetStands f changes i

pub set_good : (m : Master) (changes : List Change) (slot n : ℕ) (t : Tablet) (f : FrozenSet) → t.clock ≤ n → SlotGood m changes slot t → In f t.frozen → SetGood m changes slot n t f
set_good m changes slot n t f le h isin = record {
  past = lt_of_lt_of_le (h.good.set_past f isin) le;
  sorted = h.good.set_sorted f isin;
  keys = h.good.set_keys f isin;
  stands = λ i there at. (h.each i there at).sets f isin;
}

pub slot_changed : (m : Master) (changes : List Change) (slot : ℕ) (t : Tablet) (n cutoff : ℕ) (sets : List FrozenSet) (fence : Option Id) (inbox : List Command) (done : List Mark) → t.clock ≤ n → SameRestores m.restorations t.done done
    → t.cutoff ≤ cutoff → cutoff ≤ n → ((f : FrozenSet) → In f sets → SetGood m changes slot n t f)
    → (is_serving t.presence ≡ true → fence ≡ None → IsOpen m slot (changed t n cutoff sets fence inbox done))
    → (is_serving t.presence ≡ true → fence ≡ None → (x : ℕ) → cutoff ≤ x → is_some (table_at changes x t.table) ≡ true)
    → ((ns : Id) (to : ℕ) → is_fixed changes ns to ≡ true → is_serving t.presence ≡ true → fence ≡ None → owner_of m.catalog.owners t.table ≡ Some ns → to ≤ n)
    → SlotGood m changes slot t → SlotGood m changes slot (changed t n cutoff sets fence inbox done)
slot_changed m changes slot t n cutoff sets fence inbox done le marks up within each_set opens shown later h =
    let awaits : awaited_in m.restorations t.tablet done ≡ awaited_in m.restorations t.tablet t.done = awaited_kept m.restorations t.tablet t.done done marks in
    record {
      good = record {
        sorted = h.good.sorted;
        below = below_later t.versions (t.clock + 1) (n + 1) (omega arith) h.good.below;
        cutoff = within;
        keys = h.good.keys;
        set_past = λ f isin. (each_set f isin).past;
        set_sorted = λ f isin. (each_set f isin).sorted;
        set_keys = λ f isin. (each_set f isin).keys;
      };
      home = h.home;
      numbered = h.numbered;
      each = λ i isin is. let g = h.each i isin is in
          let over : OverBy n i.from i.to = over_later i.to i.from t.clock n le g.over in
          let waits : (point : ℕ) → awaited_in m.restorations t.tablet done ≡ Some point → TurnsAt point i.from i.to = λ point e. g.waits point (sym awaits ∙ e) in
          let comes : (r : RestorationRecord) (point : ℕ) → In r m.restorations → awaited_of r.state r t.tablet done ≡ Some point → i.to ≡ None → ComesFrom changes r.namespace i point r.to = λ r point known e opened. g.comes r point known (sym (awaited_of_kept r.state r t.tablet t.done done (marks r known)) ∙ e) opened in
          let serves : i.to ≡ None → awaited_in m.restorations t.tablet done ≡ None → is_serving t.presence ≡ true = λ opened none. g.serves opened (sym awaits ∙ none) in
          let hidden : (at : ℕ) → t.presence ≡ HiddenPart at → is_awaited (awaited_in m.restorations t.tablet done) i.to ≡ false → ended_by at i.to ≡ true = λ at out counted. g.hidden at out (ap (λ p. is_awaited p i.to) (sym awaits) ∙ counted) in
          let stands : is_awaited (awaited_in m.restorations t.tablet done) i.to ≡ false → StandsIn (changed t n cutoff sets fence inbox done) changes i = λ counted key x ranged cut before there. g.stands (ap (λ p. is_awaited p i.to) (sym awaits) ∙ counted) key x ranged (le_trans up cut) before there in
          let sets_now : (f : FrozenSet) → In f sets → SetStands f changes i = λ f held. (each_set f held).stands i isin is in
          assumption (over, waits, comes, serves, hidden, stands, sets_now);
      opens = opens;
      shown = shown;
      later = later;
    }
