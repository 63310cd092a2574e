-- The records of operations go on to be good while the master's clock, catalog and activity go on, and no record changes.
use Rattle.std.proofs.Common.{ℕ, ◌≡◌, ◌≤◌, ◌<◌, ◌+◌, List, [], ◌∷◌, Option, Some, None, true, false, ◌&&◌, ◌⊎◌, inl, inr, refl, sym, ap, subst, ◌∙◌, arith, not, eqb, leb, ltb, lt-ltb, leb-true, le_refl, le_trans, lt_of_lt_of_le}
use Rattle.std.specs.Option.{is_some, option_or, option_map}
use Rattle.std.proofs.lemmas.Bool.{true≢false}
use Rattle.std.proofs.lemmas.Bool.Decides.{nat_tests}
use Rattle.model.specs.Cluster.{Kind, NamespaceKind as Namespace, TabletKind as Tablet, ScheduleKind, Snapshot, Id, same, In, is_open, before_end, Catalog, NamespaceRecord, TableRecord, owner_of, kept_from, Interval, active_at, active_within, Listed, Schedule, SnapshotRecord, RestorationRecord, TabletPair, CloneRecord, CloneState, CloneComplete, Sent, is_restored, is_cloned, is_visible, ScheduledNamespace, Master, Drawn}
use Rattle.model.specs.Journal.{Change}
use Rattle.model.specs.Stands.{before_restore}
use Rattle.model.specs.Operations.{holder, restoration_of, clone_to}
use Rattle.model.specs.Looks.{has_target, is_reserved}
use Rattle.model.specs.Cleanup.{floor_of}
use Rattle.model.specs.Drawn.{drawn_of}
use Rattle.model.specs.Right.{is_fixed}
use Rattle.law_store.proofs.Keys.{either_way}
use Rattle.law_invariants.specs.Operations.{grounds, IsSent, IsKnown, IsListed, IsOpenOf, ScheduleGood, SnapshotGood, is_switched, RestorationGood, IsSource, IsReserved, CloneGood, OperationsGood, ScheduledGood}
use Rattle.law_invariants.proofs.Going.{GroundsGo, NamespaceGoes, LinesGo, restoration_goes, clone_goes}
use Rattle.law_invariants.proofs.Recording.{same_on}
use Rattle.law_invariants.proofs.Finding.{both_pass, passes_both, same_self, either_passes}
use Rattle.law_invariants.proofs.Remembering.{floor_rises}

-- What holds a namespace, and reserves a slot

-- the namespace of an unfinished restoration is held
pub is_held : (rs : List RestorationRecord) (r : RestorationRecord) → In r rs → is_restored r.state ≡ false → is_some (restoration_of rs r.namespace) ≡ true
is_held [] r isin unfinished = absurd isin
is_held (q ∷ rs) r (inl e) unfinished =
    let here : same q.namespace r.namespace ≡ true = ap (λ k. same k.namespace r.namespace) e ∙ same_self r.namespace in
    let still : not (is_restored q.state) ≡ true = ap (λ k. not (is_restored k.state)) e ∙ ap not unfinished in
    let both : (same q.namespace r.namespace && not (is_restored q.state)) ≡ true = passes_both _ _ here still in
    rw both refl
is_held (q ∷ rs) r (inr isin) unfinished =
    let rest = is_held rs r isin unfinished in
    either_way (same q.namespace r.namespace && not (is_restored q.state)) (λ b. rw b refl) (λ b. rw b rest)

-- and so is the target of an unfinished clone
is_made : (cs : List CloneRecord) (c : CloneRecord) → In c cs → is_cloned c.state ≡ false → is_some (clone_to cs c.target_id) ≡ true
is_made [] c isin unfinished = absurd isin
is_made (q ∷ cs) c (inl e) unfinished =
    let here : same q.target_id c.target_id ≡ true = ap (λ k. same k.target_id c.target_id) e ∙ same_self c.target_id in
    let still : not (is_cloned q.state) ≡ true = ap (λ k. not (is_cloned k.state)) e ∙ ap not unfinished in
    let both : (same q.target_id c.target_id && not (is_cloned q.state)) ≡ true = passes_both _ _ here still in
    rw both refl
is_made (q ∷ cs) c (inr isin) unfinished =
    let rest = is_made cs c isin unfinished in
    either_way (same q.target_id c.target_id && not (is_cloned q.state)) (λ b. rw b refl) (λ b. rw b rest)

pub held_first : (r : Option RestorationRecord) (clone : Option Id) → is_some r ≡ true → is_some (option_or (option_map (λ k. k.id) r) clone) ≡ true
held_first None clone e = absurd (let q = e in grind arith)
held_first (Some r) clone e = refl

pub held_second : (r : Option RestorationRecord) (clone : Option CloneRecord) → is_some clone ≡ true → is_some (option_or (option_map (λ k. k.id) r) (option_map (λ k. k.id) clone)) ≡ true
held_second None None e = absurd (let q = e in grind arith)
held_second None (Some c) e = refl
held_second (Some r) clone e = refl

-- no unfinished operation holds the namespace
pub record NotHeld (m : Master) (ns : Id) : Type 0 where
  pub restoration : (r : RestorationRecord) → In r m.restorations → is_restored r.state ≡ false → r.namespace ≡ ns → ⊥
  pub clone : (c : CloneRecord) → In c m.clones → is_cloned c.state ≡ false → c.target_id ≡ ns → ⊥

pub not_held : (m : Master) (ns : Id) → is_some (holder m ns) ≡ false → NotHeld m ns
not_held m ns free = record {
  restoration = λ r isin unfinished is. (
      let held : is_some (holder m r.namespace) ≡ true = held_first (restoration_of m.restorations r.namespace) _ (is_held m.restorations r isin unfinished) in
      true≢false (sym held ∙ ap (λ k. is_some (holder m k)) is ∙ free));
  clone = λ c isin unfinished is. (
      let held : is_some (holder m c.target_id) ≡ true = held_second (restoration_of m.restorations c.target_id) (clone_to m.clones c.target_id) (is_made m.clones c isin unfinished) in
      true≢false (sym held ∙ ap (λ k. is_some (holder m k)) is ∙ free));
}

has_its : (ps : List TabletPair) (p : TabletPair) → In p ps → has_target ps p.slot ≡ true
has_its [] p isin = absurd isin
has_its (q ∷ ps) p (inl e) = let k : eqb q.slot p.slot ≡ true = ap (λ z. eqb z.slot p.slot) e ∙ (let s : eqb p.slot p.slot ≡ true = grind (arith, nat_tests) in s) in rw k refl
has_its (q ∷ ps) p (inr isin) = either_passes (eqb q.slot p.slot) (has_target ps p.slot) (has_its ps p isin)

-- an unfinished clone has reserved the slots of its targets
pub target_reserved : (cs : List CloneRecord) (c : CloneRecord) (p : TabletPair) → In c cs → is_cloned c.state ≡ false → In p c.tablets → is_reserved cs p.slot ≡ true
target_reserved [] c p isin unfinished paired = absurd isin
target_reserved (q ∷ cs) c p (inl e) unfinished paired =
    let open_ : is_cloned q.state ≡ false = ap (λ k. is_cloned k.state) e ∙ unfinished in
    let has_it : has_target q.tablets p.slot ≡ true = has_its q.tablets p (subst (λ k. In p k.tablets) (sym e) paired) in
    rw (open_, has_it) refl
target_reserved (q ∷ cs) c p (inr isin) unfinished paired = either_passes (not (is_cloned q.state) && has_target q.tablets p.slot) (is_reserved cs p.slot) (target_reserved cs c p isin unfinished paired)

-- How a master goes on

-- an open interval of a table that no operation holds is closed at a stamp
pub record IsClosed (m : Master) (n : ℕ) (i j : Interval) : Type 0 where
  pub opened : i.to ≡ None
  pub is : j ≡ record i { to = Some n }
  pub free : (ns : Id) → owner_of m.catalog.owners i.table ≡ Some ns → NotHeld m ns

abbrev pub GoesOn : Master → ℕ → Interval → Interval → Type 0
GoesOn m n i j = (j ≡ i) ⊎ IsClosed m n i j

-- an interval of a new tablet, in a free slot
pub record IsNew (m : Master) (c : Catalog) (j : Interval) : Type 0 where
  pub drawn : m.drawn.tablets < j.tablet.number
  pub later : m.clock < j.from
  pub free : (ns : Id) → owner_of c.owners j.table ≡ Some ns → NotHeld m ns
  pub unreserved : is_reserved m.clones j.slot ≡ false
  pub vacant : (i : Interval) → In i m.activity → i.slot ≡ j.slot → ⊥

-- the master with another clock, catalog, activity, other drawn numbers and sent marks
abbrev pub going : Master → ℕ → Catalog → List Interval → Drawn → List Sent → Master
going m n c a d s = record m { clock = n; catalog = c; activity = a; drawn = d; sent = s }

-- a namespace's record was there, and was open if it is
pub record WasNamed (m : Master) (r : NamespaceRecord) : Type 0 where
  pub was : NamespaceRecord
  pub kept : In was m.catalog.namespaces
  pub id_is : r.id ≡ was.id
  pub name_is : r.name ≡ was.name
  pub opened : is_open r.to ≡ true → is_open was.to ≡ true

-- or it is a new one, under a name that no clone is to give
pub record NewName (m : Master) (r : NamespaceRecord) : Type 0 where
  pub drawn : m.drawn.namespaces < r.id.number
  pub free : (c : CloneRecord) → In c m.clones → is_visible c.state ≡ false → r.name ≡ c.target → ⊥

pub record Onward (m : Master) (n : ℕ) (c : Catalog) (a : List Interval) (d : Drawn) (changes new : List Change) : Type 0 where
  pub clock : m.clock ≤ n
  pub drawn : (kind : Kind) → drawn_of kind m.drawn ≤ drawn_of kind d
  pub owned : (table ns : Id) → owner_of m.catalog.owners table ≡ Some ns → owner_of c.owners table ≡ Some ns
  pub owners : (table : Id) → table.number ≤ m.drawn.tables → owner_of c.owners table ≡ owner_of m.catalog.owners table
  pub tables : (i : Interval) → In i m.activity → i.table.number ≤ m.drawn.tables
  pub kept : (i : Interval) → In i m.activity → (j : Interval) × (In j a × GoesOn m n i j)
  pub came : (j : Interval) → In j a → ((i : Interval) × (In i m.activity × GoesOn m n i j)) ⊎ IsNew m c j
  pub fixed : (ns : Id) (to : ℕ) → is_fixed new ns to ≡ is_fixed changes ns to
  pub switched : (ns : Id) (point : ℕ) → is_switched changes ns point ≡ true → is_switched new ns point ≡ true
  -- the catalog's records: those of tables of a namespace that is held stay, and of namespaces none comes under a reserved name
  pub tables_held : (ns : Id) (r : TableRecord) → In r c.tables → r.namespace ≡ ns → (NotHeld m ns → ⊥) → In r m.catalog.tables
  pub names : (r : NamespaceRecord) → In r c.namespaces → WasNamed m r ⊎ NewName m r
  pub before : (ns : Id) (point : ℕ) → is_switched changes ns point ≡ true → before_restore new ns point new ≡ before_restore changes ns point changes

-- what an interval keeps
pub record Alike (i j : Interval) : Type 0 where
  pub slot : j.slot ≡ i.slot
  pub tablet : j.tablet ≡ i.tablet
  pub table : j.table ≡ i.table
  pub low : j.low ≡ i.low
  pub high : j.high ≡ i.high
  pub from : j.from ≡ i.from

pub alike_on : (m : Master) (n : ℕ) (i j : Interval) → GoesOn m n i j → Alike i j
alike_on m n i j (inl e) = record { slot = ap (λ k. k.slot) e; tablet = ap (λ k. k.tablet) e; table = ap (λ k. k.table) e; low = ap (λ k. k.low) e; high = ap (λ k. k.high) e; from = ap (λ k. k.from) e }
alike_on m n i j (inr c) = let e = c.is in
    record { slot = ap (λ k. k.slot) e; tablet = ap (λ k. k.tablet) e; table = ap (λ k. k.table) e; low = ap (λ k. k.low) e; high = ap (λ k. k.high) e; from = ap (λ k. k.from) e }

-- one that is open is as it was
open_same : (m : Master) (n : ℕ) (i j : Interval) → GoesOn m n i j → j.to ≡ None → j ≡ i
open_same m n i j (inl e) opened = e
open_same m n i j (inr c) opened = absurd (let q : Some n ≡ None = sym (ap (λ k. k.to) c.is) ∙ opened in grind arith)

-- and so is one of a namespace that is held
held_same : (m : Master) (n : ℕ) (i j : Interval) (ns : Id) → GoesOn m n i j → owner_of m.catalog.owners i.table ≡ Some ns → (NotHeld m ns → ⊥) → j ≡ i
held_same m n i j ns (inl e) owner held = e
held_same m n i j ns (inr c) owner held = absurd (held (c.free ns owner))

pub held_stays : (m : Master) (n : ℕ) (c : Catalog) (a : List Interval) (d : Drawn) (changes new : List Change) (ns : Id) (i : Interval) → Onward m n c a d changes new → In i m.activity
    → owner_of m.catalog.owners i.table ≡ Some ns → (NotHeld m ns → ⊥) → In i a
held_stays m n c a d changes new ns i o isin owner held = let k = o.kept i isin in subst (λ j. In j a) (held_same m n i k.0 ns k.1.1 owner held) k.1.0

-- an interval of a held namespace was there
pub held_came : (m : Master) (n : ℕ) (c : Catalog) (a : List Interval) (d : Drawn) (changes new : List Change) (ns : Id) (j : Interval) → Onward m n c a d changes new → In j a
    → owner_of c.owners j.table ≡ Some ns → (NotHeld m ns → ⊥) → In j m.activity × (owner_of m.catalog.owners j.table ≡ Some ns)
held_came m n c a d changes new ns j o isin owner held = elim (o.came j isin) [
  | inl old ↦ (
      let i = old.0 in
      let alike = alike_on m n i j old.1.1 in
      let was : owner_of m.catalog.owners i.table ≡ Some ns = sym (o.owners i.table (o.tables i old.1.0)) ∙ ap (owner_of c.owners) (sym alike.table) ∙ owner in
      let e : j ≡ i = held_same m n i j ns old.1.1 was held in
      (subst (λ k. In k m.activity) (sym e) old.1.0, ap (λ k. owner_of m.catalog.owners k.table) e ∙ was))
  | inr made ↦ absurd (held (made.free ns owner))
]

pub open_on : (m : Master) (n : ℕ) (c : Catalog) (a : List Interval) (d : Drawn) (s : List Sent) (changes new : List Change) (ns : Id) (i : Interval) → Onward m n c a d changes new → (NotHeld m ns → ⊥)
    → IsOpenOf m ns i → IsOpenOf (going m n c a d s) ns i
open_on m n c a d s changes new ns i o held h = record { kept = held_stays m n c a d changes new ns i o h.kept h.owned held; opened = h.opened; owned = o.owned i.table ns h.owned }

pub open_was : (m : Master) (n : ℕ) (c : Catalog) (a : List Interval) (d : Drawn) (s : List Sent) (changes new : List Change) (ns : Id) (i : Interval) → Onward m n c a d changes new → (NotHeld m ns → ⊥)
    → IsOpenOf (going m n c a d s) ns i → IsOpenOf m ns i
open_was m n c a d s changes new ns i o held h = let k = held_came m n c a d changes new ns i o h.kept h.owned held in record { kept = k.0; opened = h.opened; owned = k.1 }

known_on : (m : Master) (n : ℕ) (c : Catalog) (a : List Interval) (d : Drawn) (s : List Sent) (changes new : List Change) (l : Listed) → Onward m n c a d changes new → IsKnown m l → IsKnown (going m n c a d s) l
known_on m n c a d s changes new l o h = let k = o.kept h.interval h.kept in let e = alike_on m n h.interval k.0 k.1.1 in
    record { interval = k.0; kept = k.1.0; tablet_is = e.tablet ∙ h.tablet_is; slot_is = e.slot ∙ h.slot_is }

-- Schedules and snapshots

schedule_on : (m : Master) (n : ℕ) (c : Catalog) (a : List Interval) (d : Drawn) (s : List Sent) (changes new : List Change) (k : Schedule) → Onward m n c a d changes new → ScheduleGood m k → ScheduleGood (going m n c a d s) k
schedule_on m n c a d s changes new k o h = record {
  drawn = le_trans h.drawn (o.drawn ScheduleKind);
  drawn_namespace = le_trans h.drawn_namespace (o.drawn Namespace);
  begun = le_trans h.begun o.clock;
  scheduled = h.scheduled;
}

scheduled_on : (m : Master) (n : ℕ) (c : Catalog) (a : List Interval) (d : Drawn) (s : List Sent) (changes new : List Change) (k : ScheduledNamespace) → Onward m n c a d changes new → ScheduledGood m k → ScheduledGood (going m n c a d s) k
scheduled_on m n c a d s changes new k o h = record {
  drawn_namespace = le_trans h.drawn_namespace (o.drawn Namespace);
  from_one = h.from_one;
  last = le_trans h.last o.clock;
  reached = elim h.reached [ inl l ↦ inl (lt_of_lt_of_le l (floor_rises m (going m n c a d s) k.namespace (record { clock = o.clock; schedules = refl; restorations = refl; clones = refl }))) | inr q ↦ inr q ];
  has = h.has;
}

within_was : (m : Master) (n x y : ℕ) (i j : Interval) → GoesOn m n i j → active_within x y j ≡ true → active_within x y i ≡ true
within_was m n x y i j (inl e) h = ap (active_within x y) (sym e) ∙ h
within_was m n x y i j (inr c) h =
    let k = both_pass (leb i.from y) (before_end (x + 1) (Some n)) (ap (active_within x y) (sym c.is) ∙ h) in
    passes_both (leb i.from y) (before_end (x + 1) i.to) k.0 (ap (before_end (x + 1)) c.opened)

within_from : (x y : ℕ) (i : Interval) → active_within x y i ≡ true → i.from ≤ y
within_from x y i h = leb-true i.from y (both_pass (leb i.from y) (before_end (x + 1) i.to) h).0

listed_on : (ls : List Listed) (i j : Interval) → Alike i j → IsListed ls i → IsListed ls j
listed_on ls i j e h = record { line = h.line; listed = h.listed; tablet_is = h.tablet_is ∙ sym e.tablet; slot_is = h.slot_is ∙ sym e.slot }

snapshot_on : (m : Master) (n : ℕ) (c : Catalog) (a : List Interval) (d : Drawn) (s : List Sent) (changes new : List Change) (r : SnapshotRecord) → Onward m n c a d changes new → SnapshotGood m r → SnapshotGood (going m n c a d s) r
snapshot_on m n c a d s changes new r o h = record {
  kind_is = h.kind_is;
  drawn = le_trans h.drawn (o.drawn Snapshot);
  drawn_namespace = le_trans h.drawn_namespace (o.drawn Namespace);
  rises = h.rises;
  past = le_trans h.past o.clock;
  bodies = h.bodies;
  drawn_listed = λ l isin. le_trans (h.drawn_listed l isin) (o.drawn Tablet);
  listed_of = λ l j isin there is. elim (o.came j there) [
    | inl old ↦ (
        let e = alike_on m n old.0 j old.1.1 in
        let k = h.listed_of l old.0 isin old.1.0 (sym e.tablet ∙ is) in
        (ap (owner_of c.owners) e.table ∙ o.owned old.0.table r.namespace k.0, e.slot ∙ k.1))
    | inr made ↦ absurd (let l1 = made.drawn in let l2 = h.drawn_listed l isin in let e : j.tablet.number ≡ l.tablet.number = ap (λ id. id.number) is in omega arith)
  ];
  known = λ unfinished l isin. known_on m n c a d s changes new l o (h.known unfinished l isin);
  lists = λ j there owner active. elim (o.came j there) [
    | inl old ↦ (
        let e = alike_on m n old.0 j old.1.1 in
        let was : owner_of m.catalog.owners old.0.table ≡ Some r.namespace = sym (o.owners old.0.table (o.tables old.0 old.1.0)) ∙ ap (owner_of c.owners) (sym e.table) ∙ owner in
        listed_on r.listed old.0 j e (h.lists old.0 old.1.0 was (within_was m n r.after r.at old.0 j old.1.1 active)))
    | inr made ↦ absurd (let l1 = made.later in let l2 = within_from r.after r.at j active in let l3 = h.past in omega arith)
  ];
  reached = elim h.reached [ inl l ↦ inl (lt_of_lt_of_le l (floor_rises m (going m n c a d s) r.namespace (record { clock = o.clock; schedules = refl; restorations = refl; clones = refl }))) | inr q ↦ inr q ];
  scheduled = h.scheduled;
}

-- Restorations and clones

-- what the master keeps of the tablets that a restoration lists
pub record ListedOf (m : Master) (r : RestorationRecord) : Type 0 where
  pub drawn : (l : Listed) → In l r.listed → l.tablet.number ≤ m.drawn.tablets
  pub owner : (l : Listed) → In l r.listed → (i : Interval) → In i m.activity → i.tablet ≡ l.tablet → owner_of m.catalog.owners i.table ≡ Some r.namespace

pub visible_later : (state : CloneState) → is_visible state ≡ false → is_cloned state ≡ false
visible_later (CloneComplete serving at) e = e
visible_later _ e = refl

active_still : (m : Master) (n x : ℕ) (i j : Interval) → x < n → GoesOn m n i j → active_at x i ≡ true → active_at x j ≡ true
active_still m n x i j l (inl e) h = ap (active_at x) e ∙ h
active_still m n x i j l (inr c) h =
    ap (active_at x) c.is ∙ passes_both (leb i.from x) (ltb x n) (both_pass (leb i.from x) (before_end x i.to) h).0 (lt-ltb x n l)

module _ (m : Master) (n : ℕ) (c : Catalog) (a : List Interval) (d : Drawn) (s : List Sent) (changes new : List Change) (o : Onward m n c a d changes new) where
  grounds_on : GroundsGo (grounds m) (grounds (going m n c a d s)) changes new
  grounds_on = record { clock = o.clock; slots = le_refl m.slots; drawn = o.drawn; owned = o.owned; switched = o.switched }

  space_on : (ns : Id) → (NotHeld m ns → ⊥) → NamespaceGoes (grounds m) (grounds (going m n c a d s)) changes new ns
  space_on ns held = record {
    came = λ i there owner. held_came m n c a d changes new ns i o there owner held;
    tables = λ t there of. o.tables_held ns t there of held;
    fixed = λ to is. sym (o.fixed ns to) ∙ is;
  }

  lines_on : (ns : Id) (ls : List Listed) → (NotHeld m ns → ⊥) → ((l : Listed) → In l ls → l.tablet.number ≤ m.drawn.tablets)
      → ((l : Listed) (i : Interval) → In l ls → In i m.activity → i.tablet ≡ l.tablet → owner_of m.catalog.owners i.table ≡ Some ns) → LinesGo m.activity a ls
  lines_on ns ls held drawn owner = record {
    stays = λ l i isin there is. held_stays m n c a d changes new ns i o there (owner l i isin there is) held;
    was = λ l j isin known there is. elim (o.came j there) [
      | inl old ↦ (
          let t : old.0.tablet ≡ l.tablet = sym (alike_on m n old.0 j old.1.1).tablet ∙ is in
          subst (λ k. In k m.activity) (sym (held_same m n old.0 j ns old.1.1 (owner l old.0 isin old.1.0 t) held)) old.1.0)
      | inr made ↦ absurd (let l1 = made.drawn in let l2 = drawn l isin in let e : j.tablet.number ≡ l.tablet.number = ap (λ id. id.number) is in omega arith)
    ];
  }

  restoration_on : (r : RestorationRecord) → In r m.restorations → ListedOf m r → RestorationGood m changes r → RestorationGood (going m n c a d s) new r
  restoration_on r isin of = restoration_goes (grounds m) (grounds (going m n c a d s)) changes new grounds_on r (λ unfinished.
      let held : NotHeld m r.namespace → ⊥ = λ free. free.restoration r isin unfinished refl in
      record {
        space = space_on r.namespace held;
        lines = lines_on r.namespace r.listed held of.drawn (λ l i lists there is. of.owner l lists i there is);
        named = λ q there is. (q, (there, same_on q));
        taken = λ point q at there is. (q, (there, same_on q));
        points = λ point at h. h;
        schedule = λ k there id_is is. (k, (there, (id_is, is)));
      })

  source_on : (k : CloneRecord) (p : TabletPair) → k.to < m.clock → IsSource m k p → IsSource (going m n c a d s) k p
  source_on k p past h = let j = o.kept h.interval h.kept in let e = alike_on m n h.interval j.0 j.1.1 in record {
    interval = j.0;
    kept = j.1.0;
    tablet_is = e.tablet ∙ h.tablet_is;
    slot_is = e.slot ∙ h.slot_is;
    low_is = e.low ∙ h.low_is;
    high_is = e.high ∙ h.high_is;
    active = active_still m n k.to h.interval j.0 (lt_of_lt_of_le past o.clock) j.1.1 h.active;
    owned = ap (owner_of c.owners) e.table ∙ o.owned h.interval.table k.source h.owned;
    pair = h.pair;
    paired = h.paired;
    source_is = h.source_is ∙ sym e.table;
    target_is = h.target_is;
  }

  reserved_on : (p : TabletPair) → is_reserved m.clones p.slot ≡ true → p.target.number ≤ m.drawn.tablets → IsReserved m p → IsReserved (going m n c a d s) p
  reserved_on p taken drawn h = record {
    free = λ j there is. elim (o.came j there) [
      | inl old ↦ h.free old.0 old.1.0 (sym (alike_on m n old.0 j old.1.1).slot ∙ is)
      | inr made ↦ true≢false (sym taken ∙ ap (is_reserved m.clones) (sym is) ∙ made.unreserved)
    ];
    unknown = λ j there is. elim (o.came j there) [
      | inl old ↦ h.unknown old.0 old.1.0 (sym (alike_on m n old.0 j old.1.1).tablet ∙ is)
      | inr made ↦ absurd (let l1 = made.drawn in let e : j.tablet.number ≡ p.target.number = ap (λ id. id.number) is in omega arith)
    ];
    no_snapshot = h.no_snapshot;
    no_restoration = h.no_restoration;
  }

  clone_on : (k : CloneRecord) → In k m.clones → CloneGood m changes k → CloneGood (going m n c a d s) new k
  clone_on k isin h = clone_goes (grounds m) (grounds (going m n c a d s)) changes new grounds_on m.restorations m.restorations k (λ unfinished.
      let held : NotHeld m k.target_id → ⊥ = λ free. free.clone k isin unfinished refl in
      record {
        space = space_on k.target_id held;
        lines = lines_on k.target_id k.listed held h.drawn_listed;
        named = λ q there is. (q, (there, same_on q));
        schedule = λ t there is. (t, (there, is));
        source = λ p paired. source_on k p h.past;
        reserved = λ unseen p paired. reserved_on p (target_reserved m.clones k p isin unfinished paired) (h.pairs p paired).drawn;
        names = λ unseen r there free. elim (o.names r there) [
          | inl old ↦ (let w = free old.was old.kept in (λ e. w.0 (sym old.id_is ∙ e), λ opened e. w.1 (old.opened opened) (sym old.name_is ∙ e)))
          | inr made ↦ (λ e. (let l1 = made.drawn in let l2 = h.drawn_target in let q : r.id.number ≡ k.target_id.number = ap (λ i. i.number) e in absurd (omega arith)), λ opened e. made.free k isin unseen e)
        ];
        schedules = λ unseen t there is. (t, (there, is));
      }) h

-- with sent marks that are good
pub operations_sent : (m : Master) (n : ℕ) (c : Catalog) (a : List Interval) (d : Drawn) (s : List Sent) (changes new : List Change) → Onward m n c a d changes new
    → ((ns : Id) → kept_from c.kept_from ns ≤ floor_of (going m n c a d s) ns n)
    → ((table ns : Id) → owner_of c.owners table ≡ Some ns → ns.number ≤ d.namespaces) → ((mark : Sent) → In mark s → IsSent m.snapshots m.restorations m.clones mark) → ((r : RestorationRecord) → In r m.restorations → ListedOf m r) → OperationsGood m changes
    → OperationsGood (going m n c a d s) new
operations_sent m n c a d s changes new o kept owners marks of h = record {
  sent = marks;
  owners = owners;
  kept = kept;
  apart = h.apart;
  schedules = λ k isin. schedule_on m n c a d s changes new k o (h.schedules k isin);
  scheduled = λ k isin. scheduled_on m n c a d s changes new k o (h.scheduled k isin);
  snapshots = λ r isin. snapshot_on m n c a d s changes new r o (h.snapshots r isin);
  restorations = λ r isin. restoration_on m n c a d s changes new o r isin (of r isin) (h.restorations r isin);
  clones = λ k isin. clone_on m n c a d s changes new o k isin (h.clones k isin);
}

-- with fewer sent marks
pub operations_on : (m : Master) (n : ℕ) (c : Catalog) (a : List Interval) (d : Drawn) (s : List Sent) (changes new : List Change) → Onward m n c a d changes new
    → ((ns : Id) → kept_from c.kept_from ns ≤ floor_of (going m n c a d s) ns n)
    → ((table ns : Id) → owner_of c.owners table ≡ Some ns → ns.number ≤ d.namespaces) → ((mark : Sent) → In mark s → In mark m.sent) → ((r : RestorationRecord) → In r m.restorations → ListedOf m r) → OperationsGood m changes → OperationsGood (going m n c a d s) new
operations_on m n c a d s changes new o kept owners marks of h = operations_sent m n c a d s changes new o kept owners (λ mark isin. h.sent mark (marks mark isin)) of h
