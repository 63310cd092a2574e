-- A prune, and the removal of a tablet or of a snapshot, take nothing that a time needs.
use Rattle.std.proofs.Common.{◌||◌, leb-true, ◌<◌, ◌≤◌, ◌≡◌, ◌∷◌, ◌∙◌, ◌&&◌, ℕ, List, [], Bool, true, false, Option, Some, None, cond, not, map, refl, sym, ap, subst, inl, inr, le_refl, le_trans, le_of_lt, arith, eqb, leb, ltb, ltb-false}
use Rattle.std.proofs.lemmas.Bool.{cond_both, true≢false}
use Rattle.std.proofs.lemmas.Bool.Decides.{nat_tests}
use Rattle.std.specs.List.{filter}
use Rattle.row_values.specs.Ids.{Id, Kind, Snapshot, Tablet as TabletKind, same}
use Rattle.row_values.specs.Elements.{In}
use Rattle.row_values.specs.Slots.{has, same_slots}
use Rattle.std.specs.Option.{option_map_or}
use Rattle.model.specs.Times.{before_end, ended_by, holds_at}
use Rattle.model.specs.Activity.{Interval, active_at, forget, last_of, route}
use Rattle.model.specs.Acts.{InWindow, Moved, Prune, Refusal, Refused, Remove, Removed, StalePlan, UnknownSnapshot}
use Rattle.model.specs.Catalog.{NamespaceRecord, by_id, owner_of, tables_at}
use Rattle.model.specs.Cleanup.{floor_of_table, hidden_at, is_hidden_as, lister_of_snapshot, lister_of_tablet, remove, removed_of, removing, removing_snapshot, removing_tablet, snapshot_plan, removable_snapshot, removable_tablet, floor_of, is_old_namespace, is_old_table, prune, prune_to, pruned}
use Rattle.model.specs.Entries.{IsRemovable, slots_of}
use Rattle.model.specs.History.{told}
use Rattle.model.specs.Journal.{Change}
use Rattle.model.specs.Parts.{Fault, If, Master, Outcome, Parts, Removes, refused}
use Rattle.model.specs.Records.{SnapshotRecord, snapshot_with, unfinished}
use Rattle.model.specs.Taking.{TakesNothingNeeded, names_at, untimed}
use Rattle.law_store.proofs.Keys.{either_way}
use Rattle.law_invariants.specs.Invariant.{Inv, Later}
use Rattle.law_invariants.proofs.Finding.{both_pass, filter_in, in_filter, not_passing, same_equal, same_self}
use Rattle.law_invariants.proofs.Frame.{touched}
use Rattle.law_invariants.proofs.Ticking.{master_before, not_true}
use Rattle.model.specs.Tablets.{Clear, Clock, Empty, TabletAct, act_for, standing, DropFrozen, FrozenSet, Tablet, effect, is_empty, set_of}
use Rattle.row_values.specs.Ranges.{in_range}
use Rattle.model.specs.Schedules.{serving}
use Rattle.law_retention.proofs.Outcomes.{by_refusal}
use Rattle.law_retention.proofs.Sources.{AreLike, CountsIfAny, TabletStays, like_self}
use Rattle.law_retention.proofs.Staying.{staying_takes_nothing}
use Rattle.law_retention.proofs.Acting.{answer_takes_nothing, Every, IsHarmless, TakesNothing, every_counts, same_stays, ticked_stays}
use Rattle.law_invariants.proofs.Undoing.{owned_is}
use Rattle.law_retention.specs.Facts.{Facts}
use Rattle.law_invariants.proofs.Remembering.{active_ends}
use Rattle.law_invariants.proofs.Unneeded.{removed_below, not_false, nothing_keeps, IsDiscarded, discarding, is_discarded, not_holding, prune_floor}

-- Lists

-- what passes goes on to be there where only what doesn't pass is left out
pub filter_left : {A : Type 0} (test kept : A → Bool) (xs : List A) → ((x : A) → In x xs → test x ≡ true → kept x ≡ true) → filter test (filter kept xs) ≡ filter test xs
filter_left test kept [] all = refl
filter_left test kept (x ∷ xs) all =
    let rest = filter_left test kept xs (λ y inside. all y (inr inside)) in
    either_way (test x)
    (λ yes_. let stays = all x (inl refl) yes_ in rw stays (rw yes_ (ap (λ ys. x ∷ ys) rest)))
    (λ no_. cond_both (kept x) (x ∷ filter kept xs) (filter kept xs) (λ ys. filter test ys ≡ cond (test x) (x ∷ filter test xs) (filter test xs)) (λ b. rw no_ rest) (λ b. rw no_ rest))

-- A prune

pub young : (x mark from : ℕ) (to : Option ℕ) → mark ≤ x → holds_at x from to ≡ true → not (ended_by mark to) ≡ true
young x mark from to le held = either_way (ended_by mark to) (λ over. absurd (not_holding x mark from to le over held)) (λ goes_on. ap not goes_on)

names_pruned : (m : Master) (n to : ℕ) (ns : Id) → floor_of m ns n ≤ to → names_at (pruned n m).catalog.namespaces ns to ≡ names_at m.catalog.namespaces ns to
names_pruned m n to ns low = ap (λ rs. map {A = NamespaceRecord} (λ r. r.name) rs)
    (filter_left (λ r. holds_at to r.from r.to && same r.id ns) (λ r. not (is_old_namespace m n r)) m.catalog.namespaces
    (λ r inside passes.
    let both = both_pass (holds_at to r.from r.to) (same r.id ns) passes in
    let mark : prune_to m r.id n ≤ to = subst (λ id. prune_to m id n ≤ to) (sym (same_equal r.id ns both.1)) (le_trans (prune_floor m n ns) low) in
    young to (prune_to m r.id n) r.from r.to mark both.0))

tables_pruned : (m : Master) (n to : ℕ) (ns : Id) → floor_of m ns n ≤ to → tables_at (pruned n m).catalog.tables ns to ≡ tables_at m.catalog.tables ns to
tables_pruned m n to ns low = ap by_id
    (filter_left (λ r. holds_at to r.from r.to && same r.namespace ns) (λ r. not (is_old_table m n r)) m.catalog.tables
    (λ r inside passes.
    let both = both_pass (holds_at to r.from r.to) (same r.namespace ns) passes in
    let mark : prune_to m r.namespace n ≤ to = subst (λ id. prune_to m id n ≤ to) (sym (same_equal r.namespace ns both.1)) (le_trans (prune_floor m n ns) low) in
    young to (prune_to m r.namespace n) r.from r.to mark both.0))

pub prune_takes_nothing : IsHarmless Prune prune
unfolding prune
prune_takes_nothing n ps activity changes later inv later_activity later_changes inv_after facts_after =
    let m = ps.master in
    staying_takes_nothing Every Prune ps (told Prune (prune n ps) n ps) later_activity later_changes inv_after facts_after (record {
      later = master_before (slots_of Prune) ps n later refl;
      owners = refl;
      scheduled = refl;
      schedules = refl;
      floors = λ ns. refl;
      times = λ s to listed from. record {
        names = names_pruned m n to s.namespace from;
        tables = ap (λ rs. map untimed rs) (tables_pruned m n to s.namespace from);
        serving_like = like_self _;
        left_like = like_self _;
        serving_counts = every_counts _;
        left_counts = every_counts _;
        places = λ table code there. refl;
      };
      active = λ s i to listed inside owned low active. inside;
      tablets = λ i inside there. cond_both (touched Prune i.slot) (record (ps.tablet i.slot) { clock = n }) (ps.tablet i.slot) (λ u. TabletStays Every (ps.tablet i.slot) u)
          (λ b. ticked_stays (ps.tablet i.slot) n) (λ b. same_stays (ps.tablet i.slot));
      cutoffs = λ slot. (inv.slots slot).good.cutoff;
    })

-- The removal of a tablet

-- a code's route goes by tablets that stay
route_left : (target : Id) (is : List Interval) (table : Id) (code x : ℕ) → ((i : Interval) → In i is → i.table ≡ table → active_at x i ≡ true → same i.tablet target ≡ false)
    → route (forget target is) table code x ≡ route is table code x
route_left target [] table code x stays = refl
route_left target (i ∷ is) table code x stays =
    let rest = route_left target is table code x (λ j inside. stays j (inr inside)) in
    let here = same i.table table && (active_at x i && in_range i.low i.high code) in
    either_way here
    (λ yes_.
    let both = both_pass (same i.table table) (active_at x i && in_range i.low i.high code) yes_ in
    let kept = stays i (inl refl) (same_equal i.table table both.0) (both_pass (active_at x i) (in_range i.low i.high code) both.1).0 in
    rw kept (rw yes_ refl))
    (λ no_. cond_both (not (same i.tablet target)) (i ∷ forget target is) (forget target is) (λ js. route js table code x ≡ cond here (Some i) (route is table code x))
    (λ b. rw no_ rest) (λ b. rw no_ rest))

still_in : (target : Id) (is : List Interval) (i : Interval) → In i is → same i.tablet target ≡ false → In i (forget target is)
still_in target is i inside apart = in_filter is (λ j. not (same j.tablet target)) i inside (ap not apart)

forgotten_takes_nothing : (ps : Parts) (after : ℕ → Tablet) (activity later_activity : List Interval) (changes later_changes : List Change) (n : ℕ) (target : Id) (slots : List ℕ)
    → ps.master.clock ≤ n → Inv ps activity changes → ((i : Interval) → In i ps.master.activity → i.tablet ≡ target → ended_by (floor_of_table ps.master i.table n) i.to ≡ true)
    → ((slot : ℕ) → is_empty (after slot).presence ≡ false → TabletStays Every (ps.tablet slot) (after slot))
    → Inv (record { master = record ps.master { clock = n; activity = forget target ps.master.activity }; tablet = after }) later_activity later_changes
    → Facts (record { master = record ps.master { clock = n; activity = forget target ps.master.activity }; tablet = after })
    → TakesNothingNeeded (Remove target slots) ps (record { master = record ps.master { clock = n; activity = forget target ps.master.activity }; tablet = after })
forgotten_takes_nothing ps after activity later_activity changes later_changes n target slots before inv below tablets inv_after facts_after =
    let m = ps.master in
    let left : Parts = record { master = record m { clock = n; activity = forget target m.activity }; tablet = after } in
    staying_takes_nothing Every (Remove target slots) ps left later_activity later_changes inv_after facts_after (record {
      later = before;
      owners = refl;
      scheduled = refl;
      schedules = refl;
      floors = λ ns. refl;
      times = λ s to listed from. record {
        names = refl;
        tables = refl;
        serving_like = like_self _;
        left_like = like_self _;
        serving_counts = every_counts _;
        left_counts = every_counts _;
        places = λ table code there. route_left target m.activity table code to
            (λ i inside is active. not_true (same i.tablet target) (filter_in m.activity (λ j. not (same j.tablet target)) i (there i inside is active)).1);
      };
      -- the tablet had ended by the floor
      active = λ s i to listed inside owned low active. still_in target m.activity i inside
          (not_passing (same i.tablet target) (λ e.
          let over = below i inside (same_equal i.tablet target e) in
          let owner = owned_is (owner_of m.catalog.owners i.table) s.namespace owned in
          let floor : floor_of_table m i.table n ≡ floor_of m s.namespace n = ap (λ o. option_map_or (λ k. floor_of m k n) o n) owner in
          active_ends i.to to (floor_of m s.namespace n) low (both_pass (leb i.from to) (before_end to i.to) active).1 (subst (λ f. ended_by f i.to ≡ true) floor over)));
      tablets = λ i inside there. tablets i.slot there.held;
      cutoffs = λ slot. (inv.slots slot).good.cutoff;
    })

-- The removal of a snapshot

-- each frozen set but those of the removed snapshot
other_set : (fs : List FrozenSet) (target snapshot : Id) → (snapshot ≡ target → ⊥) → set_of (filter (λ f. not (same f.snapshot target)) fs) snapshot ≡ set_of fs snapshot
other_set [] target snapshot apart = refl
other_set (f ∷ fs) target snapshot apart =
    let rest = other_set fs target snapshot apart in
    either_way (same f.snapshot snapshot)
    (λ is. let other : same f.snapshot target ≡ false = not_passing (same f.snapshot target) (λ e. apart (sym (same_equal f.snapshot snapshot is) ∙ same_equal f.snapshot target e)) in
    rw other (rw is refl))
    (λ isnt. cond_both (not (same f.snapshot target)) (f ∷ filter (λ g. not (same g.snapshot target)) fs) (filter (λ g. not (same g.snapshot target)) fs)
    (λ gs. set_of gs snapshot ≡ cond (same f.snapshot snapshot) (Some f) (set_of fs snapshot)) (λ b. rw isnt rest) (λ b. rw isnt rest))

unfrozen_stays : (t : Tablet) (target : Id) (n : ℕ) → TabletStays (λ snapshot. snapshot ≡ target → ⊥) t (effect (DropFrozen target) n t)
unfrozen_stays t target n = record { sets = λ snapshot counts. other_set t.frozen target snapshot counts; rises = le_refl _; reads = λ key x above past. refl }

-- the snapshot that serves a time is another one
still_serving : (rs : List SnapshotRecord) (target ns : Id) (to : ℕ) → ((r : SnapshotRecord) → In r rs → r.namespace ≡ ns → to ≤ r.at → same r.id target ≡ false)
    → serving (filter (λ r. not (same r.id target)) rs) ns to ≡ serving rs ns to
still_serving [] target ns to stays = refl
still_serving (r ∷ rs) target ns to stays =
    let rest = still_serving rs target ns to (λ q inside. stays q (inr inside)) in
    let here = (same r.namespace ns && r.complete) && leb to r.at in
    either_way here
    (λ yes_.
    let both = both_pass (same r.namespace ns && r.complete) (leb to r.at) yes_ in
    let kept = stays r (inl refl) (same_equal r.namespace ns (both_pass (same r.namespace ns) r.complete both.0).0) (leb-true to r.at both.1) in
    rw kept (rw yes_ refl))
    (λ no_. cond_both (not (same r.id target)) (r ∷ filter (λ q. not (same q.id target)) rs) (filter (λ q. not (same q.id target)) rs)
    (λ qs. serving qs ns to ≡ cond here (Some r) (serving rs ns to)) (λ b. rw no_ rest) (λ b. rw no_ rest))

still_unfinished : (rs : List SnapshotRecord) (target ns : Id) → ((r : SnapshotRecord) → In r rs → r.complete ≡ false → same r.id target ≡ false)
    → unfinished (filter (λ r. not (same r.id target)) rs) ns ≡ unfinished rs ns
still_unfinished [] target ns stays = refl
still_unfinished (r ∷ rs) target ns stays =
    let rest = still_unfinished rs target ns (λ q inside. stays q (inr inside)) in
    let here = same r.namespace ns && not r.complete in
    either_way here
    (λ yes_.
    let kept = stays r (inl refl) (not_true r.complete (both_pass (same r.namespace ns) (not r.complete) yes_).1) in
    rw kept (rw yes_ refl))
    (λ no_. cond_both (not (same r.id target)) (r ∷ filter (λ q. not (same q.id target)) rs) (filter (λ q. not (same q.id target)) rs)
    (λ qs. unfinished qs ns ≡ cond here (Some r) (unfinished rs ns)) (λ b. rw no_ rest) (λ b. rw no_ rest))

-- what serves a time, and what is unfinished, isn't the removed snapshot
serving_apart : (rs : List SnapshotRecord) (target ns : Id) (to : ℕ) → ((r : SnapshotRecord) → In r rs → r.namespace ≡ ns → to ≤ r.at → same r.id target ≡ false)
    → CountsIfAny (λ snapshot. snapshot ≡ target → ⊥) (serving rs ns to)
serving_apart [] target ns to stays = tt
serving_apart (r ∷ rs) target ns to stays = cond_both ((same r.namespace ns && r.complete) && leb to r.at) (Some r) (serving rs ns to) (CountsIfAny (λ snapshot. snapshot ≡ target → ⊥))
    (λ yes_ is.
    let both = both_pass (same r.namespace ns && r.complete) (leb to r.at) yes_ in
    let kept = stays r (inl refl) (same_equal r.namespace ns (both_pass (same r.namespace ns) r.complete both.0).0) (leb-true to r.at both.1) in
    true≢false (sym (ap (λ id. same id target) is ∙ same_self target) ∙ kept))
    (λ no_. serving_apart rs target ns to (λ q inside. stays q (inr inside)))

unfinished_apart : (rs : List SnapshotRecord) (target ns : Id) → ((r : SnapshotRecord) → In r rs → r.complete ≡ false → same r.id target ≡ false)
    → CountsIfAny (λ snapshot. snapshot ≡ target → ⊥) (unfinished rs ns)
unfinished_apart [] target ns stays = tt
unfinished_apart (r ∷ rs) target ns stays = cond_both (same r.namespace ns && not r.complete) (Some r) (unfinished rs ns) (CountsIfAny (λ snapshot. snapshot ≡ target → ⊥))
    (λ yes_ is. true≢false (sym (ap (λ id. same id target) is ∙ same_self target) ∙ stays r (inl refl) (not_true r.complete (both_pass (same r.namespace ns) (not r.complete) yes_).1)))
    (λ no_. unfinished_apart rs target ns (λ q inside. stays q (inr inside)))

discarded_takes_nothing : (ps : Parts) (after : ℕ → Tablet) (activity later_activity : List Interval) (changes later_changes : List Change) (n : ℕ) (target : Id) (slots : List ℕ) (r : SnapshotRecord)
    → Inv ps activity changes → IsDiscarded ps.master n target r
    → ((slot : ℕ) → TabletStays (λ snapshot. snapshot ≡ target → ⊥) (ps.tablet slot) (after slot))
    → Inv (record { master = discarding ps.master n target; tablet = after }) later_activity later_changes → Facts (record { master = discarding ps.master n target; tablet = after })
    → TakesNothingNeeded (Remove target slots) ps (record { master = discarding ps.master n target; tablet = after })
discarded_takes_nothing ps after activity later_activity changes later_changes n target slots r inv d tablets inv_after facts_after =
    let m = ps.master in
    let left : Parts = record { master = discarding m n target; tablet = after } in
    let young : (ns : Id) (to : ℕ) → floor_of m ns n ≤ to → (q : SnapshotRecord) → In q m.snapshots → q.namespace ≡ ns → to ≤ q.at → same q.id target ≡ false = λ ns to from q inside of late.
    not_passing (same q.id target) (λ e.
    let is : q ≡ r = d.alone q inside (same_equal q.id target e) in
    let low : floor_of m r.namespace n ≤ to = subst (λ k. floor_of m k n ≤ to) (sym of ∙ ap (λ x. x.namespace) is) from in
    let past : r.at < floor_of m r.namespace n = d.below in
    let there : to ≤ r.at = subst (λ x. to ≤ x.at) is late in
    omega arith) in
    let open_ : (q : SnapshotRecord) → In q m.snapshots → q.complete ≡ false → same q.id target ≡ false = λ q inside open_.
    not_passing (same q.id target) (λ e. true≢false (sym d.complete ∙ sym (ap (λ x. x.complete) (d.alone q inside (same_equal q.id target e))) ∙ open_)) in
    staying_takes_nothing (λ snapshot. snapshot ≡ target → ⊥) (Remove target slots) ps left later_activity later_changes inv_after facts_after (record {
      later = le_of_lt d.before;
      owners = refl;
      scheduled = refl;
      schedules = refl;
      floors = λ ns. refl;
      times = λ s to listed from. record {
        names = refl;
        tables = refl;
        serving_like = subst (λ o. AreLike o (serving m.snapshots s.namespace to)) (sym (still_serving m.snapshots target s.namespace to (young s.namespace to from))) (like_self _);
        left_like = subst (λ o. AreLike o (unfinished m.snapshots s.namespace)) (sym (still_unfinished m.snapshots target s.namespace open_)) (like_self _);
        serving_counts = serving_apart m.snapshots target s.namespace to (young s.namespace to from);
        left_counts = unfinished_apart m.snapshots target s.namespace open_;
        places = λ table code there. refl;
      };
      active = λ s i to listed inside owned low active. inside;
      tablets = λ i inside there. tablets i.slot;
      cutoffs = λ slot. (inv.slots slot).good.cutoff;
    })

-- The act

-- what each of the slots is told, or else nothing
pub either_told : (P : TabletAct → Type 0) (slots : List ℕ) (what : TabletAct) (slot : ℕ) → P what → P Clock → P (act_for (map (λ i. record { slot = i; act = what }) slots) slot)
either_told P [] what slot told_ quiet = quiet
either_told P (i ∷ slots) what slot told_ quiet = cond_both (eqb i slot) what (act_for (map (λ j. record { slot = j; act = what }) slots) slot) P (λ e. told_) (λ e. either_told P slots what slot told_ quiet)

refused_removal : (target : Id) (slots : List ℕ) (n : ℕ) (ps : Parts) (activity : List Interval) (changes : List Change) → Later (slots_of (Remove target slots)) ps n → Inv ps activity changes
    → (why : Refusal) → TakesNothing (Remove target slots) n ps (refused why)
refused_removal target slots n ps activity changes later inv why = answer_takes_nothing (Remove target slots) (Refused why) n ps activity changes later inv

pub has_only : (slots : List ℕ) (slot : ℕ) → same_slots slots (slot ∷ []) ≡ true → has slots slot ≡ true
has_only [] slot same_ = absurd (true≢false (sym same_))
has_only (i ∷ slots) slot same_ = ap (λ b. b || has slots slot) (both_pass (eqb i slot) (same_slots slots []) same_).0

-- a tablet's removal

removing_tablet_takes_nothing : (found : Option Interval) (target : Id) (slots : List ℕ) (n : ℕ) (ps : Parts) (activity : List Interval) (changes : List Change)
    → last_of ps.master.activity target ≡ found → target.kind ≡ TabletKind → Later (slots_of (Remove target slots)) ps n → Inv ps activity changes
    → TakesNothing (Remove target slots) n ps (removing_tablet found target slots n ps)
removing_tablet_takes_nothing None target slots n ps activity changes e kind later inv =
    by_refusal (TakesNothing (Remove target slots) n ps) (If (not (same_slots slots [])) (StalePlan []) ∷ []) (refused (Moved 0 Empty))
    (refused_removal target slots n ps activity changes later inv)
    (λ passes. refused_removal target slots n ps activity changes later inv (Moved 0 Empty))
removing_tablet_takes_nothing (Some i) target slots n ps activity changes e kind later inv =
    let t = ps.tablet i.slot in
    let o : Outcome = record { master = Removes target; tablets = record { slot = i.slot; act = Clear } ∷ []; reply = Removed } in
    by_refusal (TakesNothing (Remove target slots) n ps)
    (If (not (same_slots slots (i.slot ∷ []))) (StalePlan (i.slot ∷ []))
    ∷ If (not (is_hidden_as target t)) (Moved i.slot (standing t))
    ∷ Fault (removable_tablet (hidden_at t.presence) (floor_of_table ps.master i.table n) (lister_of_tablet ps.master target))
    ∷ [])
    o
    (refused_removal target slots n ps activity changes later inv)
    (λ passes.
    let act = Remove target slots in
    let after = (told act o n ps).tablet in
    let unneeded = nothing_keeps (ltb (floor_of_table ps.master i.table n) (hidden_at t.presence)) (lister_of_tablet ps.master target) (InWindow (hidden_at t.presence) (floor_of_table ps.master i.table n)) passes.1.1.0 in
    let below = removed_below ps activity changes n target i inv e (not_false (is_hidden_as target t) passes.1.0) (ltb-false _ _ unneeded.0) unneeded.1 in
    let tablets : (slot : ℕ) → is_empty (after slot).presence ≡ false → TabletStays Every (ps.tablet slot) (after slot) = λ slot.
    cond_both (touched act slot) (effect (act_for o.tablets slot) n (ps.tablet slot)) (ps.tablet slot) (λ u. is_empty u.presence ≡ false → TabletStays Every (ps.tablet slot) u)
    (λ b. cond_both (eqb i.slot slot) Clear Clock (λ a. is_empty (effect a n (ps.tablet slot)).presence ≡ false → TabletStays Every (ps.tablet slot) (effect a n (ps.tablet slot)))
    (λ c held. absurd (true≢false held)) (λ c held. ticked_stays (ps.tablet slot) n))
    (λ b held. same_stays (ps.tablet slot)) in
    subst (λ k. (later_activity : List Interval) (later_changes : List Change) → Inv (record { master = removed_of k target n ps.master; tablet = after }) later_activity later_changes → Facts (record { master = removed_of k target n ps.master; tablet = after })
    → TakesNothingNeeded act ps (record { master = removed_of k target n ps.master; tablet = after })) (sym kind)
    (λ later_activity later_changes. forgotten_takes_nothing ps after activity later_activity changes later_changes n target slots (master_before (slots_of act) ps n later refl) inv below tablets))

-- a snapshot's removal

removing_snapshot_takes_nothing : (found : Option SnapshotRecord) (target : Id) (slots : List ℕ) (n : ℕ) (ps : Parts) (activity : List Interval) (changes : List Change)
    → snapshot_with ps.master.snapshots target ≡ found → target.kind ≡ Snapshot → Later (slots_of (Remove target slots)) ps n → Inv ps activity changes
    → TakesNothing (Remove target slots) n ps (removing_snapshot found target slots n ps)
removing_snapshot_takes_nothing None target slots n ps activity changes e kind later inv =
    by_refusal (TakesNothing (Remove target slots) n ps) (If (not (same_slots slots [])) (StalePlan []) ∷ []) (refused UnknownSnapshot)
    (refused_removal target slots n ps activity changes later inv)
    (λ passes. refused_removal target slots n ps activity changes later inv UnknownSnapshot)
removing_snapshot_takes_nothing (Some r) target slots n ps activity changes e kind later inv =
    let plan = snapshot_plan ps.master r in
    let floor = floor_of ps.master r.namespace n in
    let o : Outcome = record { master = Removes target; tablets = map (λ slot. record { slot = slot; act = DropFrozen target }) plan; reply = Removed } in
    by_refusal (TakesNothing (Remove target slots) n ps)
    (If (not (same_slots slots plan)) (StalePlan plan)
    ∷ Fault (removable_snapshot r.at (floor_of ps.master r.namespace n) (lister_of_snapshot ps.master r))
    ∷ [])
    o
    (refused_removal target slots n ps activity changes later inv)
    (λ passes.
    let act = Remove target slots in
    let after = (told act o n ps).tablet in
    let unneeded = nothing_keeps (leb floor r.at) (lister_of_snapshot ps.master r) (InWindow r.at floor) passes.1.0 in
    let late : leb floor r.at ≡ false = unneeded.0 in
    let below : r.at < floor = grind (arith, nat_tests) in
    let d = is_discarded ps.master n changes target r (later 0 refl) inv.operations e below unneeded.1 in
    let tablets : (slot : ℕ) → TabletStays (λ snapshot. snapshot ≡ target → ⊥) (ps.tablet slot) (after slot) = λ slot.
    cond_both (touched act slot) (effect (act_for o.tablets slot) n (ps.tablet slot)) (ps.tablet slot) (λ u. TabletStays (λ snapshot. snapshot ≡ target → ⊥) (ps.tablet slot) u)
    (λ b. either_told (λ a. TabletStays (λ snapshot. snapshot ≡ target → ⊥) (ps.tablet slot) (effect a n (ps.tablet slot))) plan (DropFrozen target) slot
    (unfrozen_stays (ps.tablet slot) target n) (record { sets = λ snapshot counts. refl; rises = le_refl _; reads = λ key x above past. refl }))
    (λ b. record { sets = λ snapshot counts. refl; rises = le_refl _; reads = λ key x above past. refl }) in
    subst (λ k. (later_activity : List Interval) (later_changes : List Change) → Inv (record { master = removed_of k target n ps.master; tablet = after }) later_activity later_changes → Facts (record { master = removed_of k target n ps.master; tablet = after })
    → TakesNothingNeeded act ps (record { master = removed_of k target n ps.master; tablet = after })) (sym kind)
    (λ later_activity later_changes. discarded_takes_nothing ps after activity later_activity changes later_changes n target slots r inv d tablets))

removing_takes_nothing : (kind : Kind) (target : Id) (slots : List ℕ) (n : ℕ) (ps : Parts) (activity : List Interval) (changes : List Change) → target.kind ≡ kind → IsRemovable kind
    → Later (slots_of (Remove target slots)) ps n → Inv ps activity changes → TakesNothing (Remove target slots) n ps (removing kind target slots n ps)
removing_takes_nothing TabletKind target slots n ps activity changes kind asked later inv = removing_tablet_takes_nothing (last_of ps.master.activity target) target slots n ps activity changes refl kind later inv
removing_takes_nothing Snapshot target slots n ps activity changes kind asked later inv = removing_snapshot_takes_nothing (snapshot_with ps.master.snapshots target) target slots n ps activity changes refl kind later inv
removing_takes_nothing _ target slots n ps activity changes kind asked later inv = absurd asked

pub remove_takes_nothing : (target : Id) (slots : List ℕ) → IsRemovable target.kind → IsHarmless (Remove target slots) (remove target slots)
unfolding remove
remove_takes_nothing target slots asked n ps activity changes later inv = removing_takes_nothing target.kind target slots n ps activity changes refl asked later inv
