-- An act takes nothing that a time needs where the master keeps the catalog and the activity of the time, the stores from which
-- rows are had are the same, and each tablet has what it had.
use Rattle.std.proofs.Common.{◌&&◌, ◌≤◌, ◌≡◌, ◌∷◌, ◌++◌, ◌∙◌, ◌<◌, ◌+◌, ℕ, List, [], Bool, true, false, cond, Option, Some, None, map, min, not, refl, sym, ap, subst, arith, le_trans, leb, unwrap_or}
use Rattle.std.specs.Option.{option_map}
use Rattle.row_values.specs.Elements.{In}
use Rattle.row_values.specs.Ids.{Id, same}
use Rattle.model.specs.Activity.{Interval, active_at, route}
use Rattle.model.specs.Acts.{Act}
use Rattle.model.specs.Catalog.{kept_from, owns, tables_at}
use Rattle.model.specs.Cleanup.{floor_of}
use Rattle.model.specs.Journal.{Change}
use Rattle.model.specs.Lists.{new_snapshot}
use Rattle.model.specs.Looks.{place_of}
use Rattle.model.specs.Parts.{Master, Parts}
use Rattle.model.specs.Records.{Schedule, ScheduledNamespace, SnapshotRecord, unfinished}
use Rattle.model.specs.Retained.{IsTabletOf, ReachesBack, floor_now, from_set, live, source_at, source_for}
use Rattle.model.specs.Schedules.{serving}
use Rattle.model.specs.Tablets.{Tablet, set_of}
use Rattle.model.specs.Taking.{ScheduleStays, SetKept, StillActive, StillServes, TakesNothingNeeded, changed_from, names_at, read_from, replaced_from, untimed}
use Rattle.model.specs.Times.{before_end}
use Rattle.law_store.proofs.Keys.{either_way}
use Rattle.law_invariants.specs.Invariant.{Inv}
use Rattle.law_invariants.proofs.Finding.{find_added, find_before, find_beside, first_fails, none_or_some, second_fails}
use Rattle.law_invariants.proofs.Remembering.{floor_rises}
use Rattle.law_retention.specs.Facts.{Facts}
use Rattle.law_retention.proofs.Reaching.{rows_reached, set_is}
use Rattle.law_retention.proofs.Retaining.{there_at}

-- What a time needs of the master

-- of the catalog and the activity
pub record TimeUntaken (m k : Master) (ns : Id) (to : ℕ) : Type 0 where
  pub names : names_at k.catalog.namespaces ns to ≡ names_at m.catalog.namespaces ns to
  pub tables : map untimed (tables_at k.catalog.tables ns to) ≡ map untimed (tables_at m.catalog.tables ns to)
  pub owners : (table : Id) → owns m.catalog.owners ns table ≡ true → owns k.catalog.owners ns table ≡ true
  pub kept : kept_from k.catalog.kept_from ns ≡ kept_from m.catalog.kept_from ns
  pub places : (table : Id) (code : ℕ) → owns m.catalog.owners ns table ≡ true → option_map place_of (route k.activity table code to) ≡ option_map place_of (route m.activity table code to)
  pub active : (i : Interval) → In i m.activity → IsTabletOf m ns i → active_at to i ≡ true → StillActive k.activity i to

-- of the snapshots: by them each tablet's rows are had from the same store
pub record SourcesStay (m k : Master) (tablet : ℕ → Tablet) (ns : Id) (to : ℕ) : Type 0 where
  pub serves : StillServes (serving m.snapshots ns to) (serving k.snapshots ns to)
  pub source : (i : Interval) → In i m.activity → IsTabletOf m ns i → active_at to i ≡ true
      → source_at (serving k.snapshots ns to) (unfinished k.snapshots ns) (tablet i.slot) to ≡ source_at (serving m.snapshots ns to) (unfinished m.snapshots ns) (tablet i.slot) to

pub record MasterUntaken (act : Act) (ps : Parts) (k : Master) : Type 0 where
  pub later : ps.master.clock ≤ k.clock
  pub times : (s : ScheduledNamespace) (to : ℕ) → In s ps.master.scheduled → before_end to (changed_from act k) ≡ true → before_end to (replaced_from act ps s.namespace) ≡ true → TimeUntaken ps.master k s.namespace to
  pub sources : (s : ScheduledNamespace) (to : ℕ) → In s ps.master.scheduled → floor_of ps.master s.namespace k.clock ≤ to → SourcesStay ps.master k ps.tablet s.namespace to
  pub schedules : (s : Schedule) → In s ps.master.schedules → ScheduleStays act s ps.master k

-- Tablets

-- a tablet has the frozen sets and the live store that it had
pub record HasSame (t u : Tablet) : Type 0 where
  pub frozen : u.frozen ≡ t.frozen
  pub versions : u.versions ≡ t.versions
  pub cutoff : u.cutoff ≡ t.cutoff

live_same : (t u : Tablet) → HasSame t u → live u ≡ live t
live_same t u h = ap (λ vs. live (record u { versions = vs })) h.versions ∙ ap (λ c. live (record t { cutoff = c })) h.cutoff

pub source_same : (served left : Option SnapshotRecord) (t u : Tablet) (to : ℕ) → HasSame t u → source_at served left u to ≡ source_at served left t to
source_same (Some r) left t u to h = ap (λ fs. option_map from_set (set_of fs r.id)) h.frozen
source_same None None t u to h = ap Some (live_same t u h)
source_same None (Some r) t u to h =
    ap (λ fs. Some (cond (leb to r.at) (unwrap_or (option_map from_set (set_of fs r.id)) (live u)) (live u))) h.frozen
    ∙ ap (λ l. Some (cond (leb to r.at) (unwrap_or (option_map from_set (set_of t.frozen r.id)) l) l)) (live_same t u h)

set_same : (served : Option SnapshotRecord) (slot : ℕ) (ps after : Parts) → HasSame (ps.tablet slot) (after.tablet slot) → SetKept served slot ps after
set_same None slot ps after h = tt
set_same (Some r) slot ps after h = ap (λ fs. set_of fs r.id) h.frozen

-- the floor doesn't fall as time goes on
pub floor_up : (m : Master) (ns : Id) (n : ℕ) → m.clock ≤ n → floor_now m ns ≤ floor_of m ns n
floor_up m ns n le = floor_rises m (record m { clock = n }) ns (record { clock = le; schedules = refl; restorations = refl; clones = refl })

-- what an act leaves takes nothing
pub untaken : (act : Act) (ps after : Parts) (activity later_activity : List Interval) (changes later_changes : List Change) → Inv ps activity changes → Facts ps → Inv after later_activity later_changes → MasterUntaken act ps after.master
    → ((i : Interval) → In i ps.master.activity → (after.tablet i.slot).tablet ≡ i.tablet → HasSame (ps.tablet i.slot) (after.tablet i.slot)) → TakesNothingNeeded act ps after
untaken act ps after activity later_activity changes later_changes inv facts inv_after master tablets = record {
  needed = λ s to had low past point.
      let m = ps.master in
      let time = master.times s to had past point in
      let sources = master.sources s to had low in
      let floor : floor_now m s.namespace ≤ to = le_trans (floor_up m s.namespace after.master.clock master.later) low in
      record {
        catalog = record {
          names = time.names;
          tables = time.tables;
          owners = time.owners;
          kept = subst (λ x. x ≤ to) (sym time.kept) (le_trans (inv.operations.kept s.namespace) floor);
        };
        places = time.places;
        serves = sources.serves;
        tablets = λ i inside owned active.
            let still = time.active i inside owned active in
            let at : still.interval.slot ≡ i.slot = ap (λ p. p.slot) still.place in
            let is : still.interval.tablet ≡ i.tablet = ap (λ p. p.tablet) still.place in
            let present = there_at after later_activity later_changes still.interval i.slot i.tablet inv_after still.listed at is in
            let same_ = tablets i inside present.tablet_is in
            let source : source_for after s.namespace i.slot to ≡ source_for ps s.namespace i.slot to =
            source_same (serving after.master.snapshots s.namespace to) (unfinished after.master.snapshots s.namespace) (ps.tablet i.slot) (after.tablet i.slot) to same_ ∙ sources.source i inside owned active in
            record {
              present = present;
              active = still;
              set = set_same (serving m.snapshots s.namespace to) i.slot ps after same_;
              reaches = subst (λ o. ReachesBack o to) (sym source) (rows_reached ps changes activity s i to inv facts had inside owned floor active).0;
              reads = λ key. ap (λ o. read_from o key (min to (ps.tablet i.slot).clock)) source;
            };
      };
  schedules = master.schedules;
}

-- A master that keeps these as they are

pub same_time : (m k : Master) (ns : Id) (to : ℕ) → k.catalog ≡ m.catalog → k.activity ≡ m.activity → TimeUntaken m k ns to
same_time m k ns to catalog activity = record {
  names = ap (λ c. names_at c.namespaces ns to) catalog;
  tables = ap (λ c. map untimed (tables_at c.tables ns to)) catalog;
  owners = λ table owned. subst (λ c. owns c.owners ns table ≡ true) (sym catalog) owned;
  kept = ap (λ c. kept_from c.kept_from ns) catalog;
  places = λ table code owned. ap (λ is. option_map place_of (route is table code to)) activity;
  active = λ i inside owned active. record { interval = i; listed = subst (In i) (sym activity) inside; place = refl; table = refl; active = active };
}

serves_self : (served : Option SnapshotRecord) → StillServes served served
serves_self None = tt
serves_self (Some r) = refl

pub same_sources : (m k : Master) (tablet : ℕ → Tablet) (ns : Id) (to : ℕ) → k.snapshots ≡ m.snapshots → SourcesStay m k tablet ns to
same_sources m k tablet ns to e = record {
  serves = subst (λ rs. StillServes (serving m.snapshots ns to) (serving rs ns to)) (sym e) (serves_self (serving m.snapshots ns to));
  source = λ i inside owned active. ap (λ rs. source_at (serving rs ns to) (unfinished rs ns) (tablet i.slot) to) e;
}

-- One that makes a snapshot

cond_same : {A : Type 0} (b : Bool) (x : A) → cond b x x ≡ x
cond_same true x = refl
cond_same false x = refl

-- of a new snapshot no tablet has a frozen set yet
new_source : (served : Option SnapshotRecord) (new : SnapshotRecord) (t : Tablet) (to : ℕ) → set_of t.frozen new.id ≡ None → source_at served (Some new) t to ≡ source_at served None t to
new_source (Some r) new t to none = refl
new_source None new t to none =
    ap (λ o. Some (cond (leb to new.at) (unwrap_or (option_map from_set o) (live t)) (live t))) none ∙ ap Some (cond_same (leb to new.at) (live t))

no_set : (ps : Parts) (activity : List Interval) (changes : List Change) (slot : ℕ) (new : SnapshotRecord) → Inv ps activity changes → ps.master.drawn.snapshots < new.id.number → set_of (ps.tablet slot).frozen new.id ≡ None
no_set ps activity changes slot new inv drawn = none_or_some (set_of (ps.tablet slot).frozen new.id)
    (λ none. none)
    (λ f some.
    let held = set_is (ps.tablet slot).frozen new.id f some in
    let set = (inv.works slot).orders.sets f held.0 in
    let by = (inv.operations.snapshots set.snapshot set.kept).drawn in
    let number : set.snapshot.id.number ≡ new.id.number = ap (λ id. id.number) (set.id_is ∙ held.1) in
    absurd (omega (arith, by, number, drawn)))

pub made_sources : (ps : Parts) (activity : List Interval) (changes : List Change) (k : Master) (of schedule : Id) (n : ℕ) (ns : Id) (to : ℕ) → Inv ps activity changes → k.snapshots ≡ ps.master.snapshots ++ new_snapshot ps.master of schedule n ∷ []
    → SourcesStay ps.master k ps.tablet ns to
made_sources ps activity changes k of schedule n ns to inv e =
    let m = ps.master in
    let new = new_snapshot m of schedule n in
    let serve : SnapshotRecord → Bool = λ r. (same r.namespace ns && r.complete) && leb to r.at in
    let open_ : SnapshotRecord → Bool = λ r. same r.namespace ns && not r.complete in
    let serves : serving k.snapshots ns to ≡ serving m.snapshots ns to =
    ap (λ rs. serving rs ns to) e ∙ find_beside serve m.snapshots new (first_fails (same of ns && false) (leb to n) (second_fails (same of ns) false refl)) in
    record {
      serves = subst (λ o. StillServes (serving m.snapshots ns to) o) (sym serves) (serves_self (serving m.snapshots ns to));
      source = λ i inside owned active.
          let t = ps.tablet i.slot in
          ap (λ o. source_at o (unfinished k.snapshots ns) t to) serves
          ∙ ap (λ rs. source_at (serving m.snapshots ns to) (unfinished rs ns) t to) e
          ∙ none_or_some (unfinished m.snapshots ns)
          (λ none. either_way (same of ns)
          (λ b.
          let passes : open_ new ≡ true = ap (λ c. c && true) b in
          ap (λ o. source_at (serving m.snapshots ns to) o t to) (find_added open_ m.snapshots new none passes)
          ∙ new_source (serving m.snapshots ns to) new t to (no_set ps activity changes i.slot new inv (next m.drawn.snapshots))
          ∙ ap (λ o. source_at (serving m.snapshots ns to) o t to) (sym none))
          (λ b. ap (λ o. source_at (serving m.snapshots ns to) o t to) (find_beside open_ m.snapshots new (first_fails (same of ns) true b))))
          (λ q some. ap (λ o. source_at (serving m.snapshots ns to) o t to) (find_before open_ m.snapshots (new ∷ []) q some ∙ sym some));
    }
  where
    next : (a : ℕ) → a < a + 1
    next a = omega arith
