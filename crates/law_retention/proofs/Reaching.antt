-- The rows at each time from the floor on can be had: it follows from how far back each tablet goes, and from how the times
-- of snapshots follow each other.
use Rattle.std.proofs.Common.{◌⊎◌, Bool, ◌||◌, ltb-true, ◌+◌, ◌<◌, ◌≤◌, ◌≡◌, ◌∷◌, ◌∙◌, ◌&&◌, ℕ, List, [], true, false, Option, Some, None, not, max, refl, sym, ap, subst, inl, inr, arith, leb, leb-true, leb-false, le_refl, le_of_lt, unwrap_or}
use Rattle.std.proofs.lemmas.Bool.{cond_both, true≢false}
use Rattle.std.proofs.lemmas.Bool.Decides.{nat_tests}
use Rattle.std.specs.Option.{option_map}
use Rattle.row_values.specs.Ids.{Id, same}
use Rattle.row_values.specs.Elements.{In}
use Rattle.model.specs.Times.{before_end}
use Rattle.model.specs.Activity.{Interval, active_at, active_within, last_of}
use Rattle.model.specs.Catalog.{owner_of, owns}
use Rattle.model.specs.Cleanup.{floor_of}
use Rattle.model.specs.Journal.{Change}
use Rattle.model.specs.Parts.{Master, Parts}
use Rattle.model.specs.Records.{Listed, ScheduledNamespace, SnapshotRecord, lists_tablet, unfinished}
use Rattle.model.specs.Retained.{IsTabletOf, ReachesBack, WillServe, floor_now, from_set, live, source_at, source_for}
use Rattle.model.specs.Schedules.{complete_to, serving}
use Rattle.model.specs.Tablets.{FrozenSet, Tablet, set_of}
use Rattle.law_store.proofs.Keys.{either_way}
use Rattle.law_invariants.specs.Invariant.{Inv}
use Rattle.law_invariants.specs.Operations.{IsListed, OperationsGood, SnapshotsRise}
use Rattle.law_invariants.proofs.Finding.{none_or_some, both_pass, passes_both, same_equal, same_self}
use Rattle.law_invariants.proofs.Ticking.{not_true}
use Rattle.law_invariants.proofs.Lasting.{last_in}
use Rattle.law_invariants.proofs.Undoing.{owned_is}
use Rattle.law_retention.specs.Facts.{Facts, GoesBack, LastSince, TimesFollow}
use Rattle.law_retention.proofs.Growing.{no_last}
use Rattle.law_invariants.proofs.Unneeded.{any_in}

-- Which snapshot serves

pub record Serves (rs : List SnapshotRecord) (ns : Id) (to : ℕ) (r : SnapshotRecord) : Type 0 where
  pub kept : In r rs
  pub namespace_is : r.namespace ≡ ns
  pub complete : r.complete ≡ true
  pub late : to ≤ r.at
  -- each other one that is late enough is not earlier
  pub first : (q : SnapshotRecord) → In q rs → q.namespace ≡ ns → q.complete ≡ true → to ≤ q.at → r.at ≤ q.at

passes_here : (r : SnapshotRecord) (ns : Id) (to : ℕ) → r.namespace ≡ ns → r.complete ≡ true → to ≤ r.at → ((same r.namespace ns && r.complete) && leb to r.at) ≡ true
passes_here r ns to is complete late =
    passes_both (same r.namespace ns && r.complete) (leb to r.at)
    (passes_both (same r.namespace ns) r.complete (ap (λ id. same id ns) is ∙ same_self ns) complete)
    (grind (arith, nat_tests))

serving_is : (rs : List SnapshotRecord) (ns : Id) (to : ℕ) (r : SnapshotRecord) → SnapshotsRise rs → serving rs ns to ≡ Some r → Serves rs ns to r
serving_is [] ns to r rise e = cc
serving_is (p ∷ rs) ns to r rise e =
    let here = (same p.namespace ns && p.complete) && leb to p.at in
    either_way here
    (λ yes_.
    let first : Some p ≡ Some r = rw yes_ at e in
    let is : p ≡ r = cc in
    let both = both_pass (same p.namespace ns && p.complete) (leb to p.at) yes_ in
    let of = both_pass (same p.namespace ns) p.complete both.0 in
    subst (λ x. Serves (p ∷ rs) ns to x) is (record {
      kept = inl refl;
      namespace_is = same_equal p.namespace ns of.0;
      complete = of.1;
      late = leb-true to p.at both.1;
      first = λ q inside of_ complete late. elim inside [ inl same_ ↦ subst (λ x. p.at ≤ x.at) same_ (le_refl p.at) | inr later ↦ le_of_lt (rise.0 q later).1 ];
    }))
    (λ no_.
    let rest = serving_is rs ns to r rise.1 (rw no_ at e) in record {
      kept = inr rest.kept;
      namespace_is = rest.namespace_is;
      complete = rest.complete;
      late = rest.late;
      first = λ q inside of complete late. elim inside [
        | inl same_ ↦ absurd (true≢false (sym (passes_here p ns to (ap (λ x. x.namespace) same_ ∙ of) (ap (λ x. x.complete) same_ ∙ complete) (subst (λ x. to ≤ x.at) (sym same_) late)) ∙ no_))
        | inr later ↦ rest.first q later of complete late
      ];
    })

none_serves : (rs : List SnapshotRecord) (ns : Id) (to : ℕ) (q : SnapshotRecord) → serving rs ns to ≡ None → In q rs → q.namespace ≡ ns → q.complete ≡ true → to ≤ q.at → ⊥
none_serves [] ns to q e inside of complete late = inside
none_serves (p ∷ rs) ns to q e inside of complete late =
    let here = (same p.namespace ns && p.complete) && leb to p.at in
    either_way here
    (λ yes_. let none : Some p ≡ None = rw yes_ at e in cc)
    (λ no_. elim inside [
      | inl same_ ↦ true≢false (sym (passes_here p ns to (ap (λ x. x.namespace) same_ ∙ of) (ap (λ x. x.complete) same_ ∙ complete) (subst (λ x. to ≤ x.at) (sym same_) late)) ∙ no_)
      | inr later ↦ none_serves rs ns to q (rw no_ at e) later of complete late
    ])

pub record IsLeft (rs : List SnapshotRecord) (ns : Id) (r : SnapshotRecord) : Type 0 where
  pub kept : In r rs
  pub namespace_is : r.namespace ≡ ns
  pub open_is : r.complete ≡ false

pub unfinished_is : (rs : List SnapshotRecord) (ns : Id) (r : SnapshotRecord) → unfinished rs ns ≡ Some r → IsLeft rs ns r
unfinished_is [] ns r e = cc
unfinished_is (p ∷ rs) ns r e =
    let here = same p.namespace ns && not p.complete in
    either_way here
    (λ yes_.
    let first : Some p ≡ Some r = rw yes_ at e in
    let is : p ≡ r = cc in
    let both = both_pass (same p.namespace ns) (not p.complete) yes_ in
    subst (λ x. IsLeft (p ∷ rs) ns x) is (record { kept = inl refl; namespace_is = same_equal p.namespace ns both.0; open_is = not_true p.complete both.1 }))
    (λ no_. let rest = unfinished_is rs ns r (rw no_ at e) in record { kept = inr rest.kept; namespace_is = rest.namespace_is; open_is = rest.open_is })

-- The tablets

-- a tablet was active between the snapshot before and this one
within : (r : SnapshotRecord) (i : Interval) (to : ℕ) → active_at to i ≡ true → r.after < to → to ≤ r.at → active_within r.after r.at i ≡ true
within r i to active after late =
    let both = both_pass (leb i.from to) (before_end to i.to) active in
    let from : i.from ≤ to = leb-true i.from to both.0 in
    passes_both (leb i.from r.at) (before_end (r.after + 1) i.to) (grind (arith, nat_tests)) (ends i.to both.1)
  where
    ends : (end : Option ℕ) → before_end to end ≡ true → before_end (r.after + 1) end ≡ true
    ends None e = refl
    ends (Some end) e = let l : to < end = ltb-true to end e in grind (arith, nat_tests)

is_listed : (ls : List Listed) (l : Listed) (tablet : Id) → In l ls → l.tablet ≡ tablet → lists_tablet tablet ls ≡ true
is_listed ls l tablet inside is = any_in (λ k. same k.tablet tablet) ls l inside (ap (λ id. same id tablet) is ∙ same_self tablet)

-- the snapshot before the one that serves is earlier than the time
after_before : (m : Master) (changes : List Change) (s : ScheduledNamespace) (r : SnapshotRecord) (to : ℕ) → OperationsGood m changes → Serves m.snapshots s.namespace to r → floor_now m s.namespace ≤ to → r.after < to
after_before m changes s r to ops serves low =
    let good = ops.snapshots r serves.kept in
    let ns : s.namespace ≡ r.namespace = sym serves.namespace_is in
    elim good.reached [
      | inl past ↦ (let low_too : floor_of m r.namespace m.clock ≤ to = subst (λ k. floor_of m k m.clock ≤ to) ns low in omega (arith, past, low_too))
      | inr h ↦ (
          let q = h.0 in
          let at_is : q.at ≡ r.after = h.1.1.1.0 in
          either_way (leb to q.at)
          (λ e.
          let late : to ≤ q.at = leb-true to q.at e in
          let first : r.at ≤ q.at = serves.first q h.1.0 (h.1.1.0 ∙ serves.namespace_is) h.1.1.1.1 late in
          let rises : r.after < r.at = good.rises in
          absurd (omega (arith, at_is, first, rises)))
          (λ e. let early : q.at < to = leb-false to q.at e in omega (arith, at_is, early)))
    ]

-- the last complete snapshot is kept, unless it is below the floor
pub record IsKeptAt (rs : List SnapshotRecord) (ns : Id) (at : ℕ) : Type 0 where
  pub snapshot : SnapshotRecord
  pub kept : In snapshot rs
  pub namespace_is : snapshot.namespace ≡ ns
  pub complete : snapshot.complete ≡ true
  pub at_is : snapshot.at ≡ at

none_left : (rs : List SnapshotRecord) (ns : Id) (q : SnapshotRecord) → unfinished rs ns ≡ None → In q rs → q.namespace ≡ ns → q.complete ≡ false → ⊥
none_left [] ns q e inside of open_ = inside
none_left (p ∷ rs) ns q e inside of open_ =
    either_way (same p.namespace ns && not p.complete)
    (λ yes_. let none : Some p ≡ None = rw yes_ at e in cc)
    (λ no_. elim inside [
      | inl same_ ↦ (
          let passes : (same p.namespace ns && not p.complete) ≡ true = passes_both (same p.namespace ns) (not p.complete) (ap (λ x. same x.namespace ns) same_ ∙ ap (λ id. same id ns) of ∙ same_self ns) (ap (λ x. not x.complete) same_ ∙ ap not open_) in
          true≢false (sym passes ∙ no_))
      | inr later ↦ none_left rs ns q (rw no_ at e) later of open_
    ])

last_kept : (m : Master) (changes : List Change) (s : ScheduledNamespace) → OperationsGood m changes → In s m.scheduled → TimesFollow m s → (complete_to s < floor_now m s.namespace) ⊎ IsKeptAt m.snapshots s.namespace (complete_to s)
last_kept m changes s ops listed times = none_or_some (unfinished m.snapshots s.namespace)
    (λ none.
    let last = times.last (λ r kept of open_. none_left m.snapshots s.namespace r none kept of open_) in
    elim (ops.scheduled s listed).reached [
      | inl past ↦ inl (subst (λ a. a < floor_now m s.namespace) last past)
      | inr h ↦ inr (record {
        snapshot = h.0;
        kept = h.1.0;
        namespace_is = h.1.1.0;
        complete = not_false h.0.complete (λ open_. none_left m.snapshots s.namespace h.0 none h.1.0 h.1.1.0 open_);
        at_is = h.1.1.1 ∙ last;
      })
    ])
    (λ r some.
    let left = unfinished_is m.snapshots s.namespace r some in
    let after = times.unfinished r left.kept left.namespace_is left.open_is in
    elim (ops.snapshots r left.kept).reached [
      | inl past ↦ inl (subst (λ ns. complete_to s < floor_now m ns) left.namespace_is (subst (λ a. a < floor_now m r.namespace) after past))
      | inr h ↦ inr (record { snapshot = h.0; kept = h.1.0; namespace_is = h.1.1.0 ∙ left.namespace_is; complete = h.1.1.1.1; at_is = h.1.1.1.0 ∙ after })
    ])
  where
    not_false : (b : Bool) → (b ≡ false → ⊥) → b ≡ true
    not_false true h = refl
    not_false false h = absurd (h refl)

-- what is past the last complete snapshot, where none serves a time from the floor on
pub unserved_late : (m : Master) (changes : List Change) (s : ScheduledNamespace) (to : ℕ) → OperationsGood m changes → In s m.scheduled → TimesFollow m s → serving m.snapshots s.namespace to ≡ None → floor_now m s.namespace ≤ to
    → complete_to s < to
unserved_late m changes s to ops listed times none low = elim (last_kept m changes s ops listed times) [
  | inl past ↦ omega (arith, past, low)
  | inr h ↦ either_way (leb to (complete_to s))
      (λ e. let late : to ≤ complete_to s = leb-true _ _ e in
      absurd (none_serves m.snapshots s.namespace to h.snapshot none h.kept h.namespace_is h.complete (subst (λ at. to ≤ at) (sym h.at_is) late)))
      (λ e. leb-false to (complete_to s) e)
]

-- the live store of a tablet that is active at a time past the last complete snapshot
live_reaches : (m : Master) (s : ScheduledNamespace) (t : Tablet) (i j : Interval) (to : ℕ) → GoesBack m t → LastSince m → In s m.scheduled → In i m.activity → i.tablet ≡ t.tablet → IsTabletOf m s.namespace i
    → IsTabletOf m s.namespace j → last_of m.activity t.tablet ≡ Some j → active_at to i ≡ true → complete_to s < to → t.cutoff ≤ to
live_reaches m s t i j to back since listed inside is owned owned_last last active late =
    let last_too : last_of m.activity i.tablet ≡ Some j = ap (last_of m.activity) is ∙ last in
    let begun : j.from ≤ to = since s i j to listed inside owned active last_too late in
    let cut = back.live s j listed last owned_last in
    most t.cutoff (complete_to s) j.from to cut late begun
  where
    most : (c a b x : ℕ) → c ≤ max (a + 1) b → a < x → b ≤ x → c ≤ x
    most c a b x h l k = omega arith

pub set_is : (fs : List FrozenSet) (id : Id) (f : FrozenSet) → set_of fs id ≡ Some f → In f fs × (f.snapshot ≡ id)
set_is [] id f e = cc
set_is (g ∷ fs) id f e = either_way (same g.snapshot id)
    (λ yes_. let first : Some g ≡ Some f = rw yes_ at e in let is : g ≡ f = cc in (inl is, ap (λ x. x.snapshot) (sym is) ∙ same_equal g.snapshot id yes_))
    (λ no_. let rest = set_is fs id f (rw no_ at e) in (inr rest.0, rest.1))

-- all that is known of a tablet that was active at a time
pub record IsThere (ps : Parts) (changes : List Change) (activity : List Interval) (s : ScheduledNamespace) (i : Interval) (to : ℕ) : Type 0 where
  pub inv : Inv ps activity changes
  pub facts : Facts ps
  pub listed : In s ps.master.scheduled
  pub inside : In i ps.master.activity
  pub owned : IsTabletOf ps.master s.namespace i
  pub active : active_at to i ≡ true

there_listed : (ps : Parts) (changes : List Change) (activity : List Interval) (s : ScheduledNamespace) (i : Interval) (to : ℕ) (r : SnapshotRecord) → IsThere ps changes activity s i to
    → In r ps.master.snapshots → r.namespace ≡ s.namespace → r.after < to → to ≤ r.at → IsListed r.listed i
there_listed ps changes activity s i to r h kept of after late =
    let good = h.inv.operations.snapshots r kept in
    let ns : s.namespace ≡ r.namespace = sym of in
    good.lists i h.inside (owned_is (owner_of ps.master.catalog.owners i.table) s.namespace h.owned ∙ ap Some ns) (within r i to h.active after late)

pub there_live : (ps : Parts) (changes : List Change) (activity : List Interval) (s : ScheduledNamespace) (i : Interval) (to : ℕ) → IsThere ps changes activity s i to → complete_to s < to
    → (ps.tablet i.slot).cutoff ≤ to
there_live ps changes activity s i to h late =
    let m = ps.master in
    let t = ps.tablet i.slot in
    let g = (h.inv.slots i.slot).each i h.inside refl in
    let back = h.facts.tablets i.slot g.present in
    none_or_some (last_of m.activity t.tablet)
    (λ none. absurd (no_last m.activity t.tablet i None h.inside (sym g.tablet_is) none))
    (λ j some.
    let found = last_in m.activity t.tablet j some in
    let is : j.tablet ≡ t.tablet = same_equal j.tablet t.tablet found.1 in
    let home : j.slot ≡ i.slot = (h.inv.slots i.slot).home g.present j found.0 is in
    let of : j.table ≡ i.table = sym ((h.inv.slots i.slot).each j found.0 home).table_is ∙ g.table_is in
    let owned : IsTabletOf m s.namespace j = subst (λ k. owns m.catalog.owners s.namespace k ≡ true) (sym of) h.owned in
    live_reaches m s t i j to back h.facts.last_since h.listed h.inside (sym g.tablet_is) h.owned owned some h.active late)

-- a frozen set that is there goes back to the time, or else the live store does
by_set_or_live : (o : Option FrozenSet) (t : Tablet) (to : ℕ) → t.cutoff ≤ to → ((set : FrozenSet) → o ≡ Some set → set.cutoff ≤ to) → (unwrap_or (option_map from_set o) (live t)).cutoff ≤ to
by_set_or_live None t to reaches of_set = reaches
by_set_or_live (Some set) t to reaches of_set = of_set set refl

reaches_with : (served left : Option SnapshotRecord) (ps : Parts) (changes : List Change) (activity : List Interval) (s : ScheduledNamespace) (i : Interval) (to : ℕ) → IsThere ps changes activity s i to → floor_now ps.master s.namespace ≤ to
    → serving ps.master.snapshots s.namespace to ≡ served → unfinished ps.master.snapshots s.namespace ≡ left
    → ReachesBack (source_at served left (ps.tablet i.slot) to) to × WillServe served left i.tablet to
reaches_with (Some r) left ps changes activity s i to h low e f =
    let m = ps.master in
    let t = ps.tablet i.slot in
    let serves = serving_is m.snapshots s.namespace to r h.inv.operations.apart.snapshots_rise e in
    let after = after_before m changes s r to h.inv.operations serves low in
    let lists = there_listed ps changes activity s i to r h serves.kept serves.namespace_is after serves.late in
    let g = (h.inv.slots i.slot).each i h.inside refl in
    let w = h.inv.works i.slot in
    let did = w.obeyed.snapshots r lists.line serves.kept lists.listed lists.slot_is (ap (λ b. b || lists.line.acked) serves.complete) (g.tablet_is ∙ sym lists.tablet_is) g.present in
    let held = w.orders.holds r serves.kept did in
    let set = set_is t.frozen r.id held.set held.held in
    let back = h.facts.tablets i.slot g.present in
    let reaches : held.set.cutoff ≤ to = back.sets held.set r i to set.0 serves.kept (sym set.1) h.inside (sym g.tablet_is) h.active after serves.late in
    (subst (λ o. ReachesBack (option_map from_set o) to) (sym held.held) reaches, tt)
reaches_with None None ps changes activity s i to h low e f =
    (there_live ps changes activity s i to h (unserved_late ps.master changes s to h.inv.operations h.listed (h.facts.times s h.listed) e low), tt)
reaches_with None (Some r) ps changes activity s i to h low e f =
    let m = ps.master in
    let t = ps.tablet i.slot in
    let left = unfinished_is m.snapshots s.namespace r f in
    let times = h.facts.times s h.listed in
    let late = unserved_late m changes s to h.inv.operations h.listed times e low in
    let after_is = times.unfinished r left.kept left.namespace_is left.open_is in
    let after : r.after < to = subst (λ x. x < to) (sym after_is) late in
    let reaches = there_live ps changes activity s i to h late in
    let g = (h.inv.slots i.slot).each i h.inside refl in
    let back = h.facts.tablets i.slot g.present in
    let by_set = by_set_or_live (set_of t.frozen r.id) t to reaches in (
      cond_both (leb to r.at) (unwrap_or (option_map from_set (set_of t.frozen r.id)) (live t)) (live t) (λ source. source.cutoff ≤ to)
          (λ b. by_set (λ set q. let there = set_is t.frozen r.id set q in back.sets set r i to there.0 left.kept (sym there.1) h.inside (sym g.tablet_is) h.active after (leb-true to r.at b)))
          (λ b. reaches),
      λ soon. let lists = there_listed ps changes activity s i to r h left.kept left.namespace_is after soon in is_listed r.listed lists.line i.tablet lists.listed lists.tablet_is,
    )

-- the rows of a tablet at each time from the floor on at which it was active can be had
pub rows_reached : (ps : Parts) (changes : List Change) (activity : List Interval) (s : ScheduledNamespace) (i : Interval) (to : ℕ) → Inv ps activity changes → Facts ps → In s ps.master.scheduled
    → In i ps.master.activity → IsTabletOf ps.master s.namespace i → floor_now ps.master s.namespace ≤ to → active_at to i ≡ true
    → ReachesBack (source_for ps s.namespace i.slot to) to × WillServe (serving ps.master.snapshots s.namespace to) (unfinished ps.master.snapshots s.namespace) i.tablet to
rows_reached ps changes activity s i to inv facts listed inside owned low active =
    reaches_with (serving ps.master.snapshots s.namespace to) (unfinished ps.master.snapshots s.namespace) ps changes activity s i to
    (record { inv = inv; facts = facts; listed = listed; inside = inside; owned = owned; active = active }) low refl refl
