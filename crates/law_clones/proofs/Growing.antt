-- A clone's target becomes current: what it finds, and what holds of the records of others, with the target's catalog and its tablets'
-- activity.
use Rattle.std.proofs.Common.{ℕ, ◌≡◌, ◌≤◌, ◌<◌, ◌+◌, List, [], ◌∷◌, ◌++◌, Some, None, true, false, ◌&&◌, ◌⊎◌, inl, inr, refl, sym, ap, subst, ◌∙◌, arith, leb, leb-true, eqb, eqb-true, le_refl, le_trans, le_of_lt, lt_of_lt_of_le}
use Rattle.std.specs.Option.{is_some}
use Rattle.model.specs.Cluster.{Id, same, In, IsRange, TableRecord, owner_of, Interval, active_within, is_cloned, Listed, Schedule, SnapshotRecord, RestorationRecord, IdPair, TabletPair, CloneRecord, Copying, ScheduledNamespace, is_restored, is_visible, Master, Parts}
use Rattle.model.specs.Restored.{target_added, cloned_activity}
use Rattle.model.specs.Journal.{Change, source_of, table_at}
use Rattle.model.specs.Cleanup.{floor_of}
use Rattle.model.specs.Drawn.{drawn_of}
use Rattle.model.specs.Right.{is_fixed}
use Rattle.law_store.proofs.Keys.{either_way}
use Rattle.law_invariants.specs.Operations.{grounds, Uses, takers, IsKnown, IsListed, IsOpenOf, ScheduleGood, ScheduledGood, SnapshotGood, RestorationGood, CopyingGood, CloneStateGood, CloneGood}
use Rattle.law_invariants.specs.Invariant.{Inv}
use Rattle.law_invariants.proofs.Finding.{none_or_some, both_pass, same_equal, in_append, in_first, in_second, in_mapped, map_in}
use Rattle.law_invariants.proofs.Overlap.{holder_there}
use Rattle.law_invariants.proofs.Remembering.{floor_rises, kept_all}
use Rattle.law_invariants.proofs.Going.{GroundsGo, NamespaceGoes, restoration_goes}
use Rattle.law_invariants.proofs.Recording.{same_on}
use Rattle.law_clones.proofs.Serving.{clone_floor}
use Rattle.law_clones.proofs.Viewing.{clone, by_source}
use Rattle.law_clones.proofs.Counting.{taken, TakesOver}
use Rattle.law_clones.proofs.Cataloguing.{MayTake, cloned_is}

-- a clone whose targets copy their rows is to make them current
pub record Becomes (ps : Parts) (activity : List Interval) (changes : List Change) (n : ℕ) (r : CloneRecord) (serving : Id) (at : ℕ) : Type 0 where
  pub before : ps.master.clock < n
  pub kept : In r ps.master.clones
  pub is : r.state ≡ Copying serving at
  pub inv : Inv ps activity changes

-- the master with the target's catalog and its tablets' activity
abbrev pub grown : Master → CloneRecord → ℕ → Master
grown m r n = record m { clock = n; catalog = target_added r n m.catalog; activity = m.activity ++ cloned_activity n r.tablets }

-- the journal has one more clone
pub fixed_is : (n : ℕ) (r : CloneRecord) (changes : List Change) (ns : Id) (t : ℕ) → is_fixed (clone n r changes) ns t ≡ true → ((ns ≡ r.source) × (t ≡ r.to)) ⊎ (is_fixed changes ns t ≡ true)
fixed_is n r changes ns t e = either_way (same r.source ns && eqb r.to t)
    (λ b. let k = both_pass (same r.source ns) (eqb r.to t) b in inl (sym (same_equal r.source ns k.0), sym (eqb-true r.to t k.1)))
    (λ b. inr (rw b at e))

pub taker_there : (ps : List TabletPair) (table : Id) (code : ℕ) → 1 ≤ takers ps table code → (p : TabletPair) × (In p ps × (p.table ≡ table))
taker_there [] table code l = absurd (omega (arith, l))
taker_there (p ∷ ps) table code l = either_way (same p.table table)
    (λ b. (p, (inl refl, same_equal p.table table b)))
    (λ b. let k : 1 ≤ 0 + takers ps table code = rw b at l in let h = taker_there ps table code (omega (arith, k)) in (h.0, (inr h.1.0, h.1.1)))

module _ (ps : Parts) (activity : List Interval) (changes : List Change) (n : ℕ) (r : CloneRecord) (serving : Id) (at : ℕ) (b : Becomes ps activity changes n r serving at) where
  -- What holds before

  pub good : CloneGood ps.master changes r
  good = b.inv.operations.clones r b.kept

  pub copying : CopyingGood ps.master r serving at
  copying = subst (λ s. CloneStateGood s ps.master r) b.is good.in_state

  pub dark : is_visible r.state ≡ false
  dark = ap is_visible b.is

  pub pair_of : (p : TabletPair) → In p r.tablets → (d : IdPair) × (In d r.tables × (d.target ≡ p.table))
  pair_of p isin = let k = good.sources (ap is_cloned b.is) p isin in (k.pair, (k.paired, k.target_is))

  -- each target's table has a tablet
  taker_of : (d : IdPair) → In d r.tables → (p : TabletPair) × (In p r.tablets × (p.table ≡ d.target))
  taker_of d isin = let one = good.covers d 0 isin (omega arith) in taker_there r.tablets d.target 0 (omega (arith, one))

  pub unlisted : (p : TabletPair) (i : Interval) → In p r.tablets → In i activity → (i.tablet ≡ p.target → ⊥) × (i.table ≡ p.table → ⊥)
  unlisted p i paired isin = b.inv.remembered.reserved r p i b.kept dark paired isin

  pub fresh : (d : IdPair) (i : Interval) → In d r.tables → In i activity → i.table ≡ d.target → ⊥
  fresh d i paired isin e = let p = taker_of d paired in (unlisted p.0 i p.1.0 isin).1 (e ∙ sym p.1.1)

  -- the view has none of the target's tables yet
  pub unmade : (d : IdPair) (x : ℕ) → In d r.tables → table_at changes x d.target ≡ None
  unmade d x paired = none_or_some (table_at changes x d.target) (λ none. none)
      (λ v some. absurd (
      let one = b.inv.cover.whole d.target 0 x (omega arith) (ap is_some some) in
      let h = holder_there activity d.target 0 x (omega (arith, one)) in
      fresh d h.0 paired h.1.0 (same_equal h.0.table d.target (both_pass (same h.0.table d.target) _ h.1.1).0)))

  pub owned_target : (d : IdPair) → In d r.tables → owner_of ps.master.catalog.owners d.target ≡ Some r.target_id
  owned_target d paired = let p = taker_of d paired in ap (owner_of ps.master.catalog.owners) (sym p.1.1) ∙ (good.pairs p.0 p.1.0).owned

  pub takes : TakesOver activity changes r
  takes = record {
    apart = good.tables_apart;
    unmade = unmade;
    fresh = fresh;
    paired = pair_of;
    covers = good.covers;
    ranges = λ p isin. (
        let k = good.sources (ap is_cloned b.is) p isin in
        let g = b.inv.cover.ranges k.interval (kept_all b.inv.remembered k.interval k.kept) in
        subst (λ l. IsRange (record { low = l; high = p.high })) k.low_is (subst (λ h. IsRange (record { low = k.interval.low; high = h })) k.high_is g));
  }

  pub takes_catalog : MayTake ps.master.catalog ps.master.drawn.tables changes r
  takes_catalog = record {
    apart = good.tables_apart;
    source = good.owned;
    target = owned_target;
    drawn_target = λ d paired. (let p = taker_of d paired in subst (λ t. t.number ≤ ps.master.drawn.tables) p.1.1 (good.pairs p.0 p.1.0).drawn_table);
    none = good.no_table dark;
    unmade = unmade;
    known = le_trans (b.inv.operations.kept r.source) (clone_floor ps.master changes r ps.master.clock b.inv.operations b.kept (ap is_cloned b.is));
  }

  -- Intervals

  pub by_interval : (P : Interval → Type 0) → ((i : Interval) → In i ps.master.activity → P i) → ((p : TabletPair) → In p r.tablets → P (taken n p)) → (j : Interval) → In j (grown ps.master r n).activity → P j
  by_interval P old new j isin = elim (in_append ps.master.activity (cloned_activity n r.tablets) j isin) [
    | inl there ↦ old j there
    | inr came ↦ in_mapped {A = TabletPair} {B = Interval} (taken n) P r.tablets new j came
  ]

  pub stays : (i : Interval) → In i ps.master.activity → In i (grown ps.master r n).activity
  stays i isin = in_first ps.master.activity (cloned_activity n r.tablets) i isin

  pub begins : (p : TabletPair) → In p r.tablets → In (taken n p) (grown ps.master r n).activity
  begins p isin = in_second ps.master.activity (cloned_activity n r.tablets) (taken n p) (map_in {A = TabletPair} {B = Interval} (taken n) r.tablets p isin)

  -- one that was there is of no target
  pub aside : (i : Interval) → In i ps.master.activity → source_of r.tables i.table ≡ None
  aside i isin = by_source r.tables i.table (λ e. e) (λ d paired e. absurd (fresh d i paired (kept_all b.inv.remembered i isin) (sym e)))

  -- another namespace has no interval that begins
  pub was_there : (ns : Id) (i : Interval) → (ns ≡ r.target_id → ⊥) → In i (grown ps.master r n).activity → owner_of ps.master.catalog.owners i.table ≡ Some ns → In i ps.master.activity
  was_there ns i apart isin = by_interval (λ i. owner_of ps.master.catalog.owners i.table ≡ Some ns → In i ps.master.activity)
      (λ i there owner. there)
      (λ p paired owner. absurd (apart (let q : Some ns ≡ Some r.target_id = sym owner ∙ (good.pairs p paired).owned in cc))) i isin

  pub open_was : (ns : Id) (i : Interval) → (ns ≡ r.target_id → ⊥) → IsOpenOf (grown ps.master r n) ns i → IsOpenOf ps.master ns i
  open_was ns i apart h = record { kept = was_there ns i apart h.kept h.owned; opened = h.opened; owned = h.owned }

  pub open_on : (ns : Id) (i : Interval) → IsOpenOf ps.master ns i → IsOpenOf (grown ps.master r n) ns i
  open_on ns i h = record { kept = stays i h.kept; opened = h.opened; owned = h.owned }

  pub known_on : (l : Listed) → IsKnown ps.master l → IsKnown (grown ps.master r n) l
  known_on l h = record { interval = h.interval; kept = stays h.interval h.kept; tablet_is = h.tablet_is; slot_is = h.slot_is }

  table_was : (ns : Id) (t : TableRecord) → (ns ≡ r.target_id → ⊥) → In t (grown ps.master r n).catalog.tables → t.namespace ≡ ns → In t ps.master.catalog.tables
  table_was ns t apart isin of = elim (in_append ps.master.catalog.tables _ t isin) [
    | inl there ↦ there
    | inr came ↦ absurd (let k = cloned_is ps.master.catalog.tables r.target_id r.to n r.tables t came in apart (sym of ∙ ap (λ q. q.namespace) (sym k.is)))
  ]

  -- Schedules and snapshots

  up : ps.master.clock ≤ n
  up = le_of_lt b.before

  pub floors : (ns : Id) → floor_of ps.master ns ps.master.clock ≤ floor_of (grown ps.master r n) ns n
  floors ns = floor_rises ps.master (grown ps.master r n) ns (record { clock = up; schedules = refl; restorations = refl; clones = refl })

  pub schedule_grown : (k : Schedule) → ScheduleGood ps.master k → ScheduleGood (grown ps.master r n) k
  schedule_grown k h = record { drawn = h.drawn; drawn_namespace = h.drawn_namespace; begun = le_trans h.begun up; scheduled = h.scheduled }

  pub scheduled_grown : (k : ScheduledNamespace) → ScheduledGood ps.master k → ScheduledGood (grown ps.master r n) k
  scheduled_grown k h = record {
    drawn_namespace = h.drawn_namespace;
    from_one = h.from_one;
    last = le_trans h.last up;
    reached = elim h.reached [ inl l ↦ inl (lt_of_lt_of_le l (floors k.namespace)) | inr q ↦ inr q ];
    has = h.has;
  }

  pub snapshot_grown : (q : SnapshotRecord) → In q ps.master.snapshots → SnapshotGood ps.master q → SnapshotGood (grown ps.master r n) q
  snapshot_grown q known h = record {
    kind_is = h.kind_is;
    drawn = h.drawn;
    drawn_namespace = h.drawn_namespace;
    rises = h.rises;
    past = le_trans h.past up;
    bodies = h.bodies;
    drawn_listed = h.drawn_listed;
    listed_of = λ l i isin. by_interval (λ i. i.tablet ≡ l.tablet → (owner_of ps.master.catalog.owners i.table ≡ Some q.namespace) × (i.slot ≡ l.slot))
        (λ i there. h.listed_of l i isin there)
        (λ p paired e. absurd ((good.reserved dark p paired).no_snapshot q l known isin (sym e))) i;
    known = λ unfinished l isin. known_on l (h.known unfinished l isin);
    lists = by_interval (λ i. owner_of ps.master.catalog.owners i.table ≡ Some q.namespace → active_within q.after q.at i ≡ true → IsListed q.listed i)
        (λ i there. h.lists i there)
        (λ p paired owner active. absurd (let f = leb-true n q.at (both_pass (leb n q.at) true active).0 in let l = h.past in let z = b.before in omega arith));
    reached = elim h.reached [ inl l ↦ inl (lt_of_lt_of_le l (floors q.namespace)) | inr k ↦ inr k ];
    scheduled = h.scheduled;
  }

  -- Restorations

  pub grounds_grown : GroundsGo (grounds ps.master) (grounds (grown ps.master r n)) changes (clone n r changes)
  grounds_grown = record { clock = up; slots = le_refl ps.master.slots; drawn = λ kind. le_refl (drawn_of kind ps.master.drawn); owned = λ table ns is. is; switched = λ ns point is. is }

  pub space_grown : (ns : Id) → (ns ≡ r.target_id → ⊥) → (ns ≡ r.source → ⊥) → NamespaceGoes (grounds ps.master) (grounds (grown ps.master r n)) changes (clone n r changes) ns
  space_grown ns apart other = record {
    came = λ i there owner. (was_there ns i apart there owner, owner);
    tables = λ t there of. table_was ns t apart there of;
    fixed = λ to fixed. elim (fixed_is n r changes ns to fixed) [ inl k ↦ absurd (other k.0) | inr old ↦ old ];
  }

  -- no unfinished restoration is of the clone's namespaces
  pub other_use : (x : RestorationRecord) → In x ps.master.restorations → is_restored x.state ≡ false → Uses r x.namespace → ⊥
  other_use x isin open_ uses = b.inv.operations.apart.one_operation x r isin b.kept open_ (ap is_cloned b.is) uses

  pub restoration_grown : (x : RestorationRecord) → In x ps.master.restorations → RestorationGood ps.master changes x → RestorationGood (grown ps.master r n) (clone n r changes) x
  restoration_grown x isin = restoration_goes (grounds ps.master) (grounds (grown ps.master r n)) changes (clone n r changes) grounds_grown x (λ open_. record {
    space = space_grown x.namespace (λ e. other_use x isin open_ (inr (sym e))) (λ e. other_use x isin open_ (inl (sym e)));
    lines = record {
      stays = λ l i lists there is. stays i there;
      was = λ l i lists known. by_interval (λ i. i.tablet ≡ l.tablet → In i ps.master.activity) (λ i there is. there) (λ p paired e. absurd ((good.reserved dark p paired).no_restoration x l isin lists (sym e))) i;
    };
    named = λ q there is. (q, (there, same_on q));
    taken = λ point q at there is. (q, (there, same_on q));
    points = λ point at h. h;
    schedule = λ k there id_is is. (k, (there, (id_is, is)));
  })
