-- Where what a time needs of the master is as before, and each tablet that is present keeps what it had, nothing that the
-- time needs is taken.
use Rattle.std.proofs.Common.{ap, arith, le_trans, map, refl, subst, sym, ℕ, ◌≡◌, ◌≤◌, ◌∙◌, min, List, Option, Some, None, true}
use Rattle.std.specs.Option.{option_map}
use Rattle.row_values.specs.Ids.{Id}
use Rattle.row_values.specs.Elements.{In}
use Rattle.model.specs.Acts.{Act}
use Rattle.model.specs.Activity.{Interval, active_at, route}
use Rattle.model.specs.Catalog.{owns, tables_at}
use Rattle.model.specs.Cleanup.{floor_of}
use Rattle.model.specs.Looks.{place_of}
use Rattle.model.specs.Parts.{Parts}
use Rattle.model.specs.Records.{ScheduledNamespace, SnapshotRecord, unfinished}
use Rattle.model.specs.Schedules.{serving}
use Rattle.model.specs.Retained.{IsPresent, IsTabletOf, ReachesBack, floor_now, source_at, source_for}
use Rattle.model.specs.Taking.{Unchanged, SetKept, StillServes, TabletKept, TakesNothingNeeded, names_at, read_from, untimed}
use Rattle.model.specs.Journal.{Change}
use Rattle.law_invariants.specs.Invariant.{Inv}
use Rattle.law_retention.specs.Facts.{Facts}
use Rattle.law_retention.proofs.Reaching.{rows_reached}
use Rattle.law_retention.proofs.Retaining.{is_there}
use Rattle.law_retention.proofs.Sources.{AreLike, CountsIfAny, TabletStays, source_alike, source_reads}

-- what a time of a scheduled namespace needs is as before
pub record TimeStays (Counts : Id → Type 0) (before after : Parts) (s : ScheduledNamespace) (to : ℕ) : Type 0 where
  pub names : names_at after.master.catalog.namespaces s.namespace to ≡ names_at before.master.catalog.namespaces s.namespace to
  pub tables : map untimed (tables_at after.master.catalog.tables s.namespace to) ≡ map untimed (tables_at before.master.catalog.tables s.namespace to)
  pub serving_like : AreLike (serving after.master.snapshots s.namespace to) (serving before.master.snapshots s.namespace to)
  pub left_like : AreLike (unfinished after.master.snapshots s.namespace) (unfinished before.master.snapshots s.namespace)
  pub serving_counts : CountsIfAny Counts (serving before.master.snapshots s.namespace to)
  pub left_counts : CountsIfAny Counts (unfinished before.master.snapshots s.namespace)
  -- where each interval that was active goes on to be known
  pub places : (table : Id) (code : ℕ) → ((i : Interval) → In i before.master.activity → i.table ≡ table → active_at to i ≡ true → In i after.master.activity)
      → route after.master.activity table code to ≡ route before.master.activity table code to

-- what is as before at each time from the floor on
pub record Stays (Counts : Id → Type 0) (before after : Parts) : Type 0 where
  pub later : before.master.clock ≤ after.master.clock
  pub owners : after.master.catalog.owners ≡ before.master.catalog.owners
  pub scheduled : after.master.scheduled ≡ before.master.scheduled
  pub schedules : after.master.schedules ≡ before.master.schedules
  pub floors : (ns : Id) → floor_now after.master ns ≡ floor_of before.master ns after.master.clock
  pub times : (s : ScheduledNamespace) (to : ℕ) → In s after.master.scheduled → floor_now after.master s.namespace ≤ to → TimeStays Counts before after s to
  pub active : (s : ScheduledNamespace) (i : Interval) (to : ℕ) → In s after.master.scheduled → In i before.master.activity → IsTabletOf after.master s.namespace i → floor_now after.master s.namespace ≤ to
      → active_at to i ≡ true → In i after.master.activity
  pub tablets : (i : Interval) → In i before.master.activity → IsPresent after i.slot i.tablet → TabletStays Counts (before.tablet i.slot) (after.tablet i.slot)
  pub cutoffs : (slot : ℕ) → (before.tablet slot).cutoff ≤ (before.tablet slot).clock

still_serves : (served was : Option SnapshotRecord) → AreLike served was → StillServes was served
still_serves None None like = tt
still_serves (Some q) None like = tt
still_serves None (Some r) like = absurd like
still_serves (Some q) (Some r) like = ap Some like.id_is

set_kept : (Counts : Id → Type 0) (served : Option SnapshotRecord) (slot : ℕ) (before after : Parts) → CountsIfAny Counts served → TabletStays Counts (before.tablet slot) (after.tablet slot)
    → SetKept served slot before after
set_kept Counts None slot before after counts stays = tt
set_kept Counts (Some r) slot before after counts stays = stays.sets r.id counts

-- a time at or above the cutoff, or the clock where that is earlier, is at or above the cutoff
above_cutoff : (to cutoff clock : ℕ) → cutoff ≤ clock → cutoff ≤ to → cutoff ≤ min to clock
above_cutoff to cutoff clock past above = omega arith

by_clock : (to clock : ℕ) → min to clock ≤ clock
by_clock to clock = omega arith

tablet_kept : (Counts : Id → Type 0) (before after : Parts) (activity : List Interval) (changes : List Change) (s : ScheduledNamespace) (to : ℕ) (i : Interval) → Inv after activity changes → Facts after
    → Stays Counts before after → In s after.master.scheduled → floor_now after.master s.namespace ≤ to
    → In i before.master.activity → IsTabletOf before.master s.namespace i → active_at to i ≡ true → TabletKept before after s.namespace to i
tablet_kept Counts before after activity changes s to i inv facts stays listed from inside owned active =
    let m = before.master in
    let k = after.master in
    let t = before.tablet i.slot in
    let u = after.tablet i.slot in
    let time = stays.times s to listed from in
    let owned_now : IsTabletOf k s.namespace i = subst (λ os. owns os s.namespace i.table ≡ true) (sym stays.owners) owned in
    let known = stays.active s i to listed inside owned_now from active in
    let present = is_there after activity changes i inv known in
    let tablet = stays.tablets i inside present in
    let reaches : ReachesBack (source_for after s.namespace i.slot to) to = (rows_reached after changes activity s i to inv facts listed known owned_now from active).0 in
    let same : source_for after s.namespace i.slot to ≡ source_at (serving m.snapshots s.namespace to) (unfinished m.snapshots s.namespace) u to
    = source_alike (serving k.snapshots s.namespace to) (serving m.snapshots s.namespace to) (unfinished k.snapshots s.namespace) (unfinished m.snapshots s.namespace) u to time.serving_like time.left_like in
    record {
      present = present;
      active = record { interval = i; listed = known; place = refl; table = refl; active = active };
      set = set_kept Counts (serving m.snapshots s.namespace to) i.slot before after time.serving_counts tablet;
      reaches = reaches;
      reads = λ key.
          ap (λ source. read_from source key (min to t.clock)) same
          ∙ source_reads Counts (serving m.snapshots s.namespace to) (unfinished m.snapshots s.namespace) t u to (min to t.clock) key tablet time.serving_counts time.left_counts
          (by_clock to t.clock) (above_cutoff to t.cutoff t.clock (stays.cutoffs i.slot)) (subst (λ source. ReachesBack source to) same reaches);
    }

-- where the invariants and the facts hold of the parts after, nothing that a time needs is taken
pub staying_takes_nothing : (Counts : Id → Type 0) (act : Act) (before after : Parts) (activity : List Interval) (changes : List Change) → Inv after activity changes → Facts after
    → Stays Counts before after → TakesNothingNeeded act before after
staying_takes_nothing Counts act before after activity changes inv facts stays = record {
  needed = λ s to had low past point.
      let listed : In s after.master.scheduled = subst (In s) (sym stays.scheduled) had in
      let from : floor_now after.master s.namespace ≤ to = subst (λ f. f ≤ to) (sym (stays.floors s.namespace)) low in
      let time = stays.times s to listed from in
      record {
        catalog = record {
          names = time.names;
          tables = time.tables;
          owners = λ table owned. subst (λ os. owns os s.namespace table ≡ true) (sym stays.owners) owned;
          kept = le_trans (inv.operations.kept s.namespace) from;
        };
        places = λ table code owned. ap (λ i. option_map place_of i) (time.places table code
            (λ i inside is active.
            let owned_now : IsTabletOf after.master s.namespace i = subst (λ os. owns os s.namespace i.table ≡ true) (sym stays.owners) (subst (λ id. owns before.master.catalog.owners s.namespace id ≡ true) (sym is) owned) in
            stays.active s i to listed inside owned_now from active));
        serves = still_serves (serving after.master.snapshots s.namespace to) (serving before.master.snapshots s.namespace to) time.serving_like;
        tablets = λ i inside owned active. tablet_kept Counts before after activity changes s to i inv facts stays listed from inside owned active;
      };
  schedules = λ s inside. Unchanged s (subst (In s) (sym stays.schedules) inside) refl;
}
