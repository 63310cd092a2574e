-- Retention holds where what holds after each entry does, and how far back tablets go, and how snapshots follow each other.
use Rattle.std.proofs.Common.{◌&&◌, ◌≤◌, ◌≡◌, ◌∷◌, ◌∙◌, not, ℕ, List, [], true, false, None, refl, sym, ap, subst, inl, inr, arith, ◌-◌, ◌*◌, max}
use Rattle.std.proofs.lemmas.Bool.{true≢false}
use Rattle.std.specs.Option.{option_map_or}
use Rattle.row_values.specs.Ids.{Id, same}
use Rattle.row_values.specs.Elements.{In}
use Rattle.model.specs.Times.{minute}
use Rattle.model.specs.Activity.{Interval, active_at}
use Rattle.model.specs.Catalog.{owner_of}
use Rattle.model.specs.Journal.{Change}
use Rattle.model.specs.Parts.{Master, Parts}
use Rattle.model.specs.Records.{Schedule, ScheduledNamespace, SnapshotRecord, unfinished}
use Rattle.model.specs.Retained.{IsPresent, IsTabletOf, OneUnfinished, Retained, floor_now}
use Rattle.model.specs.Schedules.{after_of, complete_to, low}
use Rattle.model.specs.Tablets.{is_empty}
use Rattle.law_invariants.specs.Invariant.{Inv}
use Rattle.law_invariants.specs.Operations.{OperationsGood, SnapshotsRise}
use Rattle.law_invariants.proofs.Remembering.{never_forgotten}
use Rattle.law_invariants.proofs.Finding.{find_none, none_or_some, passes_both, same_equal, same_self}
use Rattle.law_invariants.proofs.Undoing.{owned_is}
use Rattle.law_retention.specs.Facts.{Facts, IsTaken, TimesFollow}
use Rattle.law_retention.proofs.Recounting.{scheduled_are}
use Rattle.law_retention.proofs.Reaching.{rows_reached, unfinished_is}

-- an interval that the master keeps is of a tablet that is there
pub is_there : (ps : Parts) (activity : List Interval) (changes : List Change) (i : Interval) → Inv ps activity changes → In i ps.master.activity → IsPresent ps i.slot i.tablet
is_there ps activity changes i inv inside = let g = (inv.slots i.slot).each i inside refl in record { held = g.present; tablet_is = g.tablet_is; known = (i, (inside, (refl, refl))) }

pub there_at : (ps : Parts) (activity : List Interval) (changes : List Change) (i : Interval) (slot : ℕ) (tablet : Id) → Inv ps activity changes → In i ps.master.activity → i.slot ≡ slot → i.tablet ≡ tablet → IsPresent ps slot tablet
there_at ps activity changes i slot tablet inv inside at is =
    let there = is_there ps activity changes i inv inside in
    record {
      held = subst (λ s. is_empty (ps.tablet s).presence ≡ false) at there.held;
      tablet_is = subst (λ s. (ps.tablet s).tablet ≡ tablet) at (there.tablet_is ∙ is);
      known = (i, (inside, (at, is)));
    }

-- one unfinished snapshot

later_apart : (rs : List SnapshotRecord) (r : SnapshotRecord) (ns : Id) → SnapshotsRise (r ∷ rs) → ((q : SnapshotRecord) → In q rs → q.complete ≡ false → q.namespace ≡ ns → q ≡ r) → unfinished rs ns ≡ None
later_apart rs r ns rise one = none_or_some (unfinished rs ns)
    (λ none. none)
    (λ q some.
    let left = unfinished_is rs ns q some in
    let is : q ≡ r = one q left.kept left.open_is left.namespace_is in
    let rises = (rise.0 q left.kept).0 in
    absurd (let k : q.id.number ≡ r.id.number = ap (λ x. x.id.number) is in omega arith))

one_left : (rs : List SnapshotRecord) (ns : Id) → SnapshotsRise rs
    → ((q r : SnapshotRecord) → In q rs → In r rs → q.complete ≡ false → r.complete ≡ false → q.namespace ≡ r.namespace → q ≡ r) → OneUnfinished rs ns
one_left [] ns rise one = tt
one_left (r ∷ rs) ns rise one = (
  λ is open_. later_apart rs r ns rise (λ q inside left of. one q r (inr inside) (inl refl) left open_ (of ∙ sym (same_equal r.namespace ns is))),
  one_left rs ns rise.1 (λ q r a b. one q r (inr a) (inr b)),
)

-- the window of a schedule begins since its namespace is scheduled
since_before : (ps : Parts) (changes : List Change) (s : ScheduledNamespace) (t : Schedule) → OperationsGood ps.master changes → In s ps.master.scheduled → In t ps.master.schedules → t.namespace ≡ s.namespace
    → s.since ≤ low t ps.master.clock
since_before ps changes s t ops listed inside is =
    let h = (ops.schedules t inside).scheduled in
    let one : h.0 ≡ s = ops.apart.one_scheduled h.0 s h.1.0 listed (h.1.1.0 ∙ is) in
    most s.since t.kept_low (ps.master.clock - t.retention * minute) (subst (λ k. k.since ≤ t.kept_low) one h.1.1.1)
  where
    most : (a b c : ℕ) → a ≤ b → a ≤ max b c
    most a b c le = omega arith

-- the last complete snapshot is the one before the unfinished one, or the last one
complete_after : (m : Master) (s : ScheduledNamespace) → TimesFollow m s → complete_to s ≡ option_map_or (λ r. r.after) (unfinished m.snapshots s.namespace) (after_of s)
complete_after m s times = none_or_some (unfinished m.snapshots s.namespace)
    (λ none. sym (times.last (λ r inside is left. true≢false (sym (passes_both (same r.namespace s.namespace) (not r.complete) (ap (λ id. same id s.namespace) is ∙ same_self s.namespace) (ap not left))
    ∙ find_none (λ q. same q.namespace s.namespace && not q.complete) m.snapshots none r inside))) ∙ sym (ap (λ o. option_map_or (λ q. q.after) o (after_of s)) none))
    (λ q some. let left = unfinished_is m.snapshots s.namespace q some in sym (times.unfinished q left.kept left.namespace_is left.open_is) ∙ sym (ap (λ o. option_map_or (λ q. q.after) o (after_of s)) some))

pub facts_retain : (ps : Parts) (activity : List Interval) (changes : List Change) (taken : List SnapshotRecord) (since : Id → ℕ) → Inv ps activity changes → Facts ps → IsTaken taken since ps.master → Retained ps activity taken since
facts_retain ps activity changes taken since inv facts h =
    let m = ps.master in
    let kept : (s : ScheduledNamespace) (i : Interval) (x : ℕ) → In i activity → IsTabletOf m s.namespace i → floor_now m s.namespace ≤ x → active_at x i ≡ true → In i m.activity = λ s i x ever owned low active.
    elim (inv.remembered.each i ever) [ inl here ↦ here | inr gone ↦ absurd (never_forgotten m s.namespace i x gone (owned_is (owner_of m.catalog.owners i.table) s.namespace owned) low active) ] in
    record {
      scheduled = λ s listed. record {
        active_present = λ i x ever owned low active. let k = kept s i x ever owned low active in (k, is_there ps activity changes i inv k);
        reaches = λ i to ever owned low past active. rows_reached ps changes activity s i to inv facts listed (kept s i to ever owned low active) owned low active;
        cutoffs = λ slot i here last owned. (facts.tablets slot here).live s i listed last owned;
        times = h.each s listed;
        last = sym (h.last s listed);
        complete = complete_after m s (facts.times s listed);
        none_later = λ r kept_ of complete. (facts.times s listed).complete r kept_ of complete;
        unfinished_one = one_left m.snapshots s.namespace inv.operations.apart.snapshots_rise inv.operations.apart.one_snapshot;
        since_is = h.since_is s listed;
        windows = λ t inside is. since_before ps changes s t inv.operations listed inside is;
        catalog = inv.operations.kept s.namespace;
      };
      have_schedules = λ ns. scheduled_are m changes ns inv.operations;
      listed = record {
        snapshots = λ r l inside left lists. let k = (inv.operations.snapshots r inside).known left l lists in there_at ps activity changes k.interval l.slot l.tablet inv k.kept k.slot_is k.tablet_is;
        restorations = λ r l inside left lists. let k = (inv.operations.restorations r inside).known left l lists in there_at ps activity changes k.interval l.slot l.tablet inv k.kept k.slot_is k.tablet_is;
        clones = λ c p inside left pairs. let k = (inv.operations.clones c inside).sources left p pairs in there_at ps activity changes k.interval p.source_slot p.source inv k.kept k.slot_is k.tablet_is;
      };
      cutoffs = λ slot here. (facts.tablets slot here).now;
      catalog = λ ns. inv.master.tables.kept ns;
    }
