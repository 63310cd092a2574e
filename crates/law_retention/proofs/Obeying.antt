-- What a tablet does of a command takes nothing that a time needs: what it freezes reads as its live store does, and where it takes
-- back rows, the times before the point are read from frozen sets.
use Rattle.std.proofs.Common.{◌&&◌, ◌+◌, ◌<◌, ◌≤◌, ◌≡◌, ◌∷◌, ◌++◌, ◌∙◌, ℕ, List, [], Bool, true, false, cond, Option, Some, None, min, not, refl, sym, ap, subst, inl, arith, eqb, eqb-true, le_refl, le_trans, leb, leb-true, unwrap_or}
use Rattle.std.proofs.lemmas.Bool.{cond_both, true≢false}
use Rattle.std.specs.Option.{option_map}
use Rattle.row_values.specs.declared.rows.KeyedRow.{KeyedRow}
use Rattle.row_values.specs.Elements.{In}
use Rattle.row_values.specs.Ids.{Id, same}
use Rattle.row_values.specs.Slots.{has}
use Rattle.row_values.specs.Store.{frozen, read_of}
use Rattle.model.specs.Activity.{Interval}
use Rattle.model.specs.Acts.{Act, Process, Idle, OtherSlot, Done, Refusal, Refused}
use Rattle.model.specs.Catalog.{owner_of, owns}
use Rattle.model.specs.Cleanup.{floor_of}
use Rattle.model.specs.Coordination.{process, processing, rows_for, source_slot}
use Rattle.model.specs.Entries.{slots_of}
use Rattle.model.specs.History.{master_effect, told}
use Rattle.model.specs.Journal.{Change}
use Rattle.model.specs.Parts.{If, Master, Outcome, Parts, Ticks, refused}
use Rattle.model.specs.Records.{Copying, Listed, ScheduledNamespace, SnapshotRecord, is_visible, point_of, unfinished}
use Rattle.model.specs.Retained.{IsTabletOf, floor_now, from_set, live, source_at}
use Rattle.model.specs.Schedules.{complete_to, serving}
use Rattle.model.specs.Tablets.{act_for, Body, Clock, Command, Copy, Fence, Freeze, FrozenSet, Hide, Mark, Release, RestoreFrom, Tablet, TabletAct, effect, kind_of, processed, set_of}
use Rattle.model.specs.Tablets as tell
use Rattle.model.specs.Taking.{Unchanged, SetKept, TakesNothingNeeded, read_from, replaced_from, takes_back}
use Rattle.model.specs.Times.{before_end}
use Rattle.law_store.proofs.Choosing.{frozen_reads}
use Rattle.law_store.proofs.Keys.{either_way}
use Rattle.law_invariants.specs.Invariant.{Inv, Later}
use Rattle.law_invariants.proofs.Finding.{both_pass, find_added, find_before, find_beside, find_is, none_or_some, not_passing, same_equal, same_self}
use Rattle.law_invariants.proofs.Frame.{tells, touched}
use Rattle.law_invariants.proofs.Ticking.{master_before}
use Rattle.law_invariants.proofs.Undoing.{owned_is}
use Rattle.law_invariants.proofs.Commanded.{IsPending, BySnapshot, ByClone, ByRestoration, pending_is}
use Rattle.law_retention.specs.Facts.{Facts, own_point}
use Rattle.law_retention.proofs.Advances.{before_point}
use Rattle.law_retention.proofs.Commands.{Leaves, answer_leaves}
use Rattle.law_retention.proofs.Doing.{did, known_home, process_keeps_facts}
use Rattle.law_retention.proofs.Outcomes.{by_refusal}
use Rattle.law_retention.proofs.Reaching.{rows_reached, unfinished_is, unserved_late}
use Rattle.law_retention.proofs.Retaining.{is_there}
use Rattle.law_retention.proofs.Untaken.{floor_up, same_sources, same_time}
use Rattle.law_invariants.proofs.Bodies.{copying_is, no_restoration_copy, no_clone_freeze, no_restoration_freeze, snapshot_alone, no_clone_restore, restoring_is}

-- What a tablet keeps

abbrev SetStays : Option SnapshotRecord → Tablet → Tablet → Type 0
SetStays None t u = Unit {0}
SetStays (Some r) t u = set_of u.frozen r.id ≡ set_of t.frozen r.id

set_kept : (served : Option SnapshotRecord) (slot : ℕ) (ps after : Parts) → SetStays served (ps.tablet slot) (after.tablet slot) → SetKept served slot ps after
set_kept None slot ps after stays = tt
set_kept (Some r) slot ps after stays = stays

-- a tablet has what a time needs of it
pub record Keeps (m : Master) (ns : Id) (to : ℕ) (t u : Tablet) : Type 0 where
  pub set : SetStays (serving m.snapshots ns to) t u
  pub reads : (key : List ℕ) → read_from (source_at (serving m.snapshots ns to) (unfinished m.snapshots ns) u to) key (min to t.clock)
      ≡ read_from (source_at (serving m.snapshots ns to) (unfinished m.snapshots ns) t to) key (min to t.clock)

chosen_same : (b : Bool) (o : Option FrozenSet) (t u : Tablet) (key : List ℕ) (x : ℕ) → u.versions ≡ t.versions
    → read_of (cond b (unwrap_or (option_map from_set o) (live u)) (live u)).versions key x ≡ read_of (cond b (unwrap_or (option_map from_set o) (live t)) (live t)).versions key x
chosen_same true (Some f) t u key x versions = refl
chosen_same true None t u key x versions = ap (λ vs. read_of vs key x) versions
chosen_same false o t u key x versions = ap (λ vs. read_of vs key x) versions

reads_same : (served left : Option SnapshotRecord) (t u : Tablet) (to x : ℕ) (key : List ℕ) → u.versions ≡ t.versions → u.frozen ≡ t.frozen → read_from (source_at served left u to) key x ≡ read_from (source_at served left t to) key x
reads_same (Some r) left t u to x key versions sets = ap (λ fs. read_from (option_map from_set (set_of fs r.id)) key x) sets
reads_same None None t u to x key versions sets = ap (λ vs. read_of vs key x) versions
reads_same None (Some r) t u to x key versions sets =
    ap (λ fs. read_of (cond (leb to r.at) (unwrap_or (option_map from_set (set_of fs r.id)) (live u)) (live u)).versions key x) sets
    ∙ chosen_same (leb to r.at) (set_of t.frozen r.id) t u key x versions

sets_same : (served : Option SnapshotRecord) (t u : Tablet) → u.frozen ≡ t.frozen → SetStays served t u
sets_same None t u sets = tt
sets_same (Some r) t u sets = ap (λ fs. set_of fs r.id) sets

keeps_same : (m : Master) (ns : Id) (to : ℕ) (t u : Tablet) → u.versions ≡ t.versions → u.frozen ≡ t.frozen → Keeps m ns to t u
keeps_same m ns to t u versions sets = record {
  set = sets_same (serving m.snapshots ns to) t u sets;
  reads = λ key. reads_same (serving m.snapshots ns to) (unfinished m.snapshots ns) t u to (min to t.clock) key versions sets;
}

-- Each body

-- a time of a scheduled namespace at which the slot's tablet was active
pub record IsTime (ps : Parts) (slot other : ℕ) (s : ScheduledNamespace) (to : ℕ) (i : Interval) : Type 0 where
  pub had : In s ps.master.scheduled
  pub low : floor_now ps.master s.namespace ≤ to
  pub before : before_end to (replaced_from (Process slot other) ps s.namespace) ≡ true
  pub inside : In i ps.master.activity
  pub at : i.slot ≡ slot
  pub owned : IsTabletOf ps.master s.namespace i

abbrev pub BodyLeaves : Body → Type 0
BodyLeaves b = (ps : Parts) (activity : List Interval) (changes : List Change) (slot other n : ℕ) (operation tablet : Id) (rows : List KeyedRow) (cs : List Command) (done : List Mark) (s : ScheduledNamespace) (to : ℕ) (i : Interval)
    → Inv ps activity changes → Facts ps → (ps.tablet slot).inbox ≡ record { operation = operation; tablet = tablet; body = b } ∷ cs
    → IsPending ps.master operation slot (record { tablet = tablet; slot = slot; body = b; acked = false }) → IsTime ps slot other s to i
    → (did b operation tablet rows n cs done (ps.tablet slot)).tablet ≡ i.tablet → Keeps ps.master s.namespace to (ps.tablet slot) (did b operation tablet rows n cs done (ps.tablet slot))

fence_leaves : BodyLeaves Fence
fence_leaves ps activity changes slot other n operation tablet rows cs done s to i inv facts e pends time is = keeps_same ps.master s.namespace to (ps.tablet slot) _ refl refl

hide_leaves : (ended : ℕ) → BodyLeaves (Hide ended)
hide_leaves ended ps activity changes slot other n operation tablet rows cs done s to i inv facts e pends time is = keeps_same ps.master s.namespace to (ps.tablet slot) _ refl refl

release_leaves : (cutoff : ℕ) → BodyLeaves (Release cutoff)
release_leaves cutoff ps activity changes slot other n operation tablet rows cs done s to i inv facts e pends time is = keeps_same ps.master s.namespace to (ps.tablet slot) _ refl refl

-- a set that is new is that of an unfinished snapshot, and reads as the live store up to its time

freeze_set : (served : Option SnapshotRecord) (t : Tablet) (new : FrozenSet) → ((r : SnapshotRecord) → served ≡ Some r → same new.snapshot r.id ≡ false) → SetStays served t (record t { frozen = t.frozen ++ new ∷ [] })
freeze_set None t new apart = tt
freeze_set (Some r) t new apart = find_beside (λ f. same f.snapshot r.id) t.frozen new (apart r refl)

frozen_chosen : (b : Bool) (t : Tablet) (at x : ℕ) (key : List ℕ) (new : FrozenSet) → new.versions ≡ frozen at t.versions → (b ≡ true → x ≤ at)
    → read_of (cond b (from_set new) (live t)).versions key x ≡ read_of t.versions key x
frozen_chosen true t at x key new versions by = ap (λ vs. read_of vs key x) versions ∙ frozen_reads t.versions at key x (by refl)
frozen_chosen false t at x key new versions by = refl

freeze_read : (served left : Option SnapshotRecord) (t : Tablet) (new : FrozenSet) (at to x : ℕ) (key : List ℕ) → new.versions ≡ frozen at t.versions → ((r : SnapshotRecord) → served ≡ Some r → same new.snapshot r.id ≡ false)
    → ((q : SnapshotRecord) → left ≡ Some q → same new.snapshot q.id ≡ true → leb to q.at ≡ true → x ≤ at)
    → read_from (source_at served left (record t { frozen = t.frozen ++ new ∷ [] }) to) key x ≡ read_from (source_at served left t to) key x
freeze_read (Some r) left t new at to x key versions apart by = ap (λ o. read_from (option_map from_set o) key x) (find_beside (λ f. same f.snapshot r.id) t.frozen new (apart r refl))
freeze_read None None t new at to x key versions apart by = refl
freeze_read None (Some q) t new at to x key versions apart by =
    let u : Tablet = record t { frozen = t.frozen ++ new ∷ [] } in
    none_or_some (set_of t.frozen q.id)
    (λ none. either_way (same new.snapshot q.id)
    (λ b.
    let now : set_of u.frozen q.id ≡ Some new = find_added (λ f. same f.snapshot q.id) t.frozen new none b in
    ap (λ o. read_of (cond (leb to q.at) (unwrap_or (option_map from_set o) (live t)) (live t)).versions key x) now
    ∙ frozen_chosen (leb to q.at) t at x key new versions (λ soon. by q refl b soon)
    ∙ sym (ap (λ o. read_of (cond (leb to q.at) (unwrap_or (option_map from_set o) (live t)) (live t)).versions key x) none ∙ ap (λ l. read_of l.versions key x) (both_same (leb to q.at) (live t))))
    (λ b. ap (λ o. read_of (cond (leb to q.at) (unwrap_or (option_map from_set o) (live t)) (live t)).versions key x) (find_beside (λ f. same f.snapshot q.id) t.frozen new b)))
    (λ f some.
    let now : set_of u.frozen q.id ≡ Some f = find_before (λ g. same g.snapshot q.id) t.frozen (new ∷ []) f some in
    ap (λ o. read_of (cond (leb to q.at) (unwrap_or (option_map from_set o) (live t)) (live t)).versions key x) (now ∙ sym some))
  where
    both_same : {A : Type 0} (b : Bool) (a : A) → cond b a a ≡ a
    both_same true a = refl
    both_same false a = refl

freeze_leaves : (snapshot : Id) (at : ℕ) → BodyLeaves (Freeze snapshot at)
freeze_leaves snapshot at ps activity changes slot other n operation tablet rows cs done s to i inv facts e (ByRestoration k) time is =
    absurd (no_restoration_freeze k.restoration.state ps.master changes k.restoration _ snapshot at (inv.operations.restorations k.restoration k.kept).in_state k.line.listed refl)
freeze_leaves snapshot at ps activity changes slot other n operation tablet rows cs done s to i inv facts e (ByClone k) time is =
    absurd (no_clone_freeze k.clone.state ps.master k.clone _ snapshot at (inv.operations.clones k.clone k.kept).in_state k.line.listed refl)
freeze_leaves snapshot at ps activity changes slot other n operation tablet rows cs done s to i inv facts e (BySnapshot k) time is =
    let m = ps.master in
    let t = ps.tablet slot in
    let q = k.snapshot in
    let new : FrozenSet = record { snapshot = snapshot; at = at; versions = frozen at t.versions; cutoff = t.cutoff } in
    let body : Freeze snapshot at ≡ Freeze q.id q.at = (inv.operations.snapshots q k.kept).bodies _ k.line.listed in
    let id_is : snapshot ≡ q.id = cc in
    let at_is : at ≡ q.at = cc in
    let apart : (r : SnapshotRecord) → serving m.snapshots s.namespace to ≡ Some r → same snapshot r.id ≡ false = λ r some.
    let found = find_is (λ x. (same x.namespace s.namespace && x.complete) && leb to x.at) m.snapshots r some in
    let complete = (both_pass (same r.namespace s.namespace) r.complete (both_pass (same r.namespace s.namespace && r.complete) (leb to r.at) found.passes).0).1 in
    not_passing (same snapshot r.id) (λ b.
    let one : q ≡ r = snapshot_alone m.snapshots q r inv.operations.apart.snapshots_rise k.kept found.listed (sym id_is ∙ same_equal snapshot r.id b) in
    true≢false (sym complete ∙ ap (λ x. x.complete) (sym one) ∙ k.unfinished)) in
    let by : (r : SnapshotRecord) → unfinished m.snapshots s.namespace ≡ Some r → same snapshot r.id ≡ true → leb to r.at ≡ true → min to t.clock ≤ at = λ r some b soon.
    let left = unfinished_is m.snapshots s.namespace r some in
    let one : q ≡ r = snapshot_alone m.snapshots q r inv.operations.apart.snapshots_rise k.kept left.kept (sym id_is ∙ same_equal snapshot r.id b) in
    let late : to ≤ r.at = leb-true to r.at soon in
    let same_at : at ≡ r.at = at_is ∙ ap (λ x. x.at) one in
    least to t.clock at (subst (λ y. to ≤ y) (sym same_at) late) in
    record {
      set = freeze_did (serving m.snapshots s.namespace to) t new (freeze_set (serving m.snapshots s.namespace to) t new apart);
      reads = λ key. reads_same (serving m.snapshots s.namespace to) (unfinished m.snapshots s.namespace) (record t { frozen = t.frozen ++ new ∷ [] }) _ to (min to t.clock) key refl refl
          ∙ freeze_read (serving m.snapshots s.namespace to) (unfinished m.snapshots s.namespace) t new at to (min to t.clock) key refl apart by;
    }
  where
    least : (a c b : ℕ) → a ≤ b → min a c ≤ b
    least a c b h = omega arith

    freeze_did : (served : Option SnapshotRecord) (t : Tablet) (new : FrozenSet) → SetStays served t (record t { frozen = t.frozen ++ new ∷ [] }) → SetStays served t (record t { frozen = t.frozen ++ new ∷ []; clock = n; inbox = cs; done = done })
    freeze_did None t new h = tt
    freeze_did (Some r) t new h = h

-- before the point a snapshot serves each time
restore_leaves : (snapshot : Id) (at point version : ℕ) → BodyLeaves (RestoreFrom snapshot at point version)
restore_leaves snapshot at point version ps activity changes slot other n operation tablet rows cs done s to i inv facts e (BySnapshot k) time is =
    absurd (let q : RestoreFrom snapshot at point version ≡ Freeze k.snapshot.id k.snapshot.at = (inv.operations.snapshots k.snapshot k.kept).bodies _ k.line.listed in grind arith)
restore_leaves snapshot at point version ps activity changes slot other n operation tablet rows cs done s to i inv facts e (ByClone k) time is =
    absurd (no_clone_restore k.clone.state ps.master k.clone _ snapshot at point version (inv.operations.clones k.clone k.kept).in_state k.line.listed refl)
restore_leaves snapshot at point version ps activity changes slot other n operation tablet rows cs done s to i inv facts e (ByRestoration k) time is =
    let m = ps.master in
    let t = ps.tablet slot in
    let r = k.restoration in
    let l : Listed = record { tablet = tablet; slot = slot; body = RestoreFrom snapshot at point version; acked = false } in
    let good = inv.operations.restorations r k.kept in
    let state = (restoring_is r.state m changes r l snapshot at point version good.in_state k.line.listed refl).0 in
    let home = known_home ps activity changes slot l inv (good.known k.unfinished l k.line.listed) k.line.slot_is in
    let owner = inv.master.listed_of r l k.kept k.line.listed i time.inside (sym is ∙ home.tablet_is) in
    let one : s.namespace ≡ r.namespace = some_same (sym (owned_is (owner_of m.catalog.owners i.table) s.namespace time.owned) ∙ owner) in
    let part : same operation r.id ≡ true = ap (λ id. same id r.id) (sym k.id_is) ∙ same_self r.id in
    let early : to < point = before_point (Process slot other) ps activity changes r point s.namespace to inv k.kept k.unfinished
    (ap (λ cs_. cond (takes_back cs_ r.id) (point_of r.state) None) e ∙ ap (λ b. cond (b && true) (point_of r.state) None) part ∙ ap point_of state) one time.before in
    let own : point ≤ complete_to s + 1 = facts.own r s point k.kept (ap own_point state) time.had one in
    none_or_some (serving m.snapshots s.namespace to)
    (λ none. absurd (let late = unserved_late m changes s to inv.operations time.had (facts.times s time.had) none time.low in omega (arith, early, own, late)))
    (λ q some. record {
      set = sets_same (serving m.snapshots s.namespace to) t _ refl;
      reads = λ key. ap (λ o. read_from (source_at o (unfinished m.snapshots s.namespace) (did (RestoreFrom snapshot at point version) operation tablet rows n cs done t) to) key (min to t.clock)) some
          ∙ ap (λ o. read_from (source_at o (unfinished m.snapshots s.namespace) t to) key (min to t.clock)) (sym some);
    })
  where
    some_same : {a b : Id} → Some a ≡ Some b → a ≡ b
    some_same e = cc

-- a copy is another tablet's
copy_leaves : (source : ℕ) (snapshot : Id) (at stamp : ℕ) (table : Id) (low high version : ℕ) → BodyLeaves (Copy source snapshot at stamp table low high version)
copy_leaves source snapshot at stamp table low high version ps activity changes slot other n operation tablet rows cs done s to i inv facts e (BySnapshot k) time is =
    absurd (let q : Copy source snapshot at stamp table low high version ≡ Freeze k.snapshot.id k.snapshot.at = (inv.operations.snapshots k.snapshot k.kept).bodies _ k.line.listed in grind arith)
copy_leaves source snapshot at stamp table low high version ps activity changes slot other n operation tablet rows cs done s to i inv facts e (ByRestoration k) time is =
    absurd (no_restoration_copy k.restoration.state ps.master changes k.restoration _ source snapshot at stamp table low high version (inv.operations.restorations k.restoration k.kept).in_state k.line.listed refl)
copy_leaves source snapshot at stamp table low high version ps activity changes slot other n operation tablet rows cs done s to i inv facts e (ByClone k) time is =
    let m = ps.master in
    let c = k.clone in
    let g = inv.operations.clones c k.kept in
    let l : Listed = record { tablet = tablet; slot = slot; body = Copy source snapshot at stamp table low high version; acked = false } in
    let found = copying_is c.state m c l source snapshot at stamp table low high version g.in_state k.line.listed refl in
    let state : c.state ≡ Copying found.0 found.1.0 = found.1.1.0 in
    let copied = found.1.1.1 in
    absurd ((g.reserved (ap is_visible state) copied.pair copied.paired).unknown i time.inside (sym is ∙ copied.tablet_is))

body_leaves : (b : Body) → BodyLeaves b
body_leaves Fence = fence_leaves
body_leaves (Freeze snapshot at) = freeze_leaves snapshot at
body_leaves (Hide ended) = hide_leaves ended
body_leaves (RestoreFrom snapshot to point version) = restore_leaves snapshot to point version
body_leaves (Release cutoff) = release_leaves cutoff
body_leaves (Copy source snapshot to stamp table low high version) = copy_leaves source snapshot to stamp table low high version

-- The act

-- a master that sets its clock at most
pub record IsQuiet (m k : Master) : Type 0 where
  pub later : m.clock ≤ k.clock
  pub catalog : k.catalog ≡ m.catalog
  pub activity : k.activity ≡ m.activity
  pub snapshots : k.snapshots ≡ m.snapshots
  pub scheduled : k.scheduled ≡ m.scheduled
  pub schedules : k.schedules ≡ m.schedules
  pub floors : (ns : Id) (n : ℕ) → floor_of k ns n ≡ floor_of m ns n

quiet_if : (b : Bool) (m : Master) (n : ℕ) → (b ≡ true → m.clock ≤ n) → IsQuiet m (cond b (record m { clock = n }) m)
quiet_if true m n le = record { later = le refl; catalog = refl; activity = refl; snapshots = refl; scheduled = refl; schedules = refl; floors = λ ns n_. refl }
quiet_if false m n le = record { later = le_refl _; catalog = refl; activity = refl; snapshots = refl; scheduled = refl; schedules = refl; floors = λ ns n_. refl }

-- where each tablet keeps what a time needs of it
tablets_leave : (slot other : ℕ) (ps after : Parts) (activity later_activity : List Interval) (changes later_changes : List Change) → Inv ps activity changes → Inv after later_activity later_changes → Facts after → IsQuiet ps.master after.master
    → ((s : ScheduledNamespace) (to : ℕ) (i : Interval) → In s ps.master.scheduled → floor_now ps.master s.namespace ≤ to → before_end to (replaced_from (Process slot other) ps s.namespace) ≡ true → In i ps.master.activity
    → IsTabletOf ps.master s.namespace i → (after.tablet i.slot).tablet ≡ i.tablet → Keeps ps.master s.namespace to (ps.tablet i.slot) (after.tablet i.slot))
    → TakesNothingNeeded (Process slot other) ps after
tablets_leave slot other ps after activity later_activity changes later_changes inv inv_after facts_after quiet tablets = record {
  needed = λ s to had low past point.
      let m = ps.master in
      let k = after.master in
      let time = same_time m k s.namespace to quiet.catalog quiet.activity in
      let floor : floor_now m s.namespace ≤ to = le_trans (floor_up m s.namespace k.clock quiet.later) low in
      let from : floor_now k s.namespace ≤ to = subst (λ f. f ≤ to) (sym (quiet.floors s.namespace k.clock)) low in
      record {
        catalog = record { names = time.names; tables = time.tables; owners = time.owners; kept = subst (λ x. x ≤ to) (sym time.kept) (le_trans (inv.operations.kept s.namespace) floor) };
        places = time.places;
        serves = (same_sources m k ps.tablet s.namespace to quiet.snapshots).serves;
        tablets = λ i inside owned active.
            let known : In i k.activity = subst (In i) (sym quiet.activity) inside in
            let owned_now : IsTabletOf k s.namespace i = subst (λ c. owns c.owners s.namespace i.table ≡ true) (sym quiet.catalog) owned in
            let present = is_there after later_activity later_changes i inv_after known in
            let keeps = tablets s to i had floor point inside owned present.tablet_is in
            record {
              present = present;
              active = time.active i inside owned active;
              set = set_kept (serving m.snapshots s.namespace to) i.slot ps after keeps.set;
              reaches = (rows_reached after later_changes later_activity s i to inv_after facts_after (subst (In s) (sym quiet.scheduled) had) known owned_now from active).0;
              reads = λ key. ap (λ rs. read_from (source_at (serving rs s.namespace to) (unfinished rs s.namespace) (after.tablet i.slot) to) key (min to (ps.tablet i.slot).clock)) quiet.snapshots ∙ keeps.reads key;
            };
      };
  schedules = λ s there. Unchanged s (subst (In s) (sym quiet.schedules) there) refl;
}

quiet_after : (act : Act) (o : Outcome) (n : ℕ) (ps : Parts) → o.master ≡ Ticks → Later (slots_of act) ps n → IsQuiet ps.master (told act o n ps).master
quiet_after act o n ps ticks later = subst (λ a. IsQuiet ps.master (cond (has (slots_of act) 0) (master_effect a n ps.master) ps.master)) (sym ticks) (quiet_if (has (slots_of act) 0) ps.master n (master_before (slots_of act) ps n later))

answers : (slot other n : ℕ) (ps : Parts) (activity : List Interval) (changes : List Change) → Later (slots_of (Process slot other)) ps n → Inv ps activity changes → Facts ps → (why : Refusal) → Leaves (Process slot other) n ps (refused why)
answers slot other n ps activity changes later inv facts why =
    let q = quiet_after (Process slot other) (refused why) n ps refl later in
    answer_leaves (Process slot other) (Refused why) n ps activity changes inv facts q.later q.catalog q.activity q.snapshots q.schedules

processing_leaves : (inbox : List Command) (slot other n : ℕ) (ps : Parts) (activity : List Interval) (changes : List Change) → (ps.tablet slot).inbox ≡ inbox → Later (slots_of (Process slot other)) ps n → Inv ps activity changes → Facts ps
    → Facts (told (Process slot other) (processing inbox slot other (ps.tablet other)) n ps) → Leaves (Process slot other) n ps (processing inbox slot other (ps.tablet other))
processing_leaves [] slot other n ps activity changes e later inv facts facts_after = answers slot other n ps activity changes later inv facts Idle
processing_leaves (c ∷ cs) slot other n ps activity changes e later inv facts facts_after =
    let m = ps.master in
    let act = Process slot other in
    let source = ps.tablet other in
    let rows = rows_for c.body source.frozen in
    let o = tells slot (tell.Process rows) (Done c.operation (kind_of c.body)) in
    let order = (inv.works slot).orders.orders c (subst (In c) (sym e) (inl refl)) in
    let pends = pending_is m c.operation slot _ order.is_pending in
    by_refusal (λ q. Facts (told act q n ps) → Leaves act n ps q) (If (not (eqb other (source_slot slot c.body))) (OtherSlot (source_slot slot c.body)) ∷ []) o
    (λ why facts_. answers slot other n ps activity changes later inv facts why)
    (λ passes facts_ later_activity later_changes inv_after. tablets_leave slot other ps (told act o n ps) activity later_activity changes later_changes inv inv_after facts_ (quiet_after act o n ps refl later)
    (λ s to i had low before inside owned.
    let t = ps.tablet i.slot in
    cond_both (touched act i.slot) (effect (act_for o.tablets i.slot) n t) t (λ u. u.tablet ≡ i.tablet → Keeps m s.namespace to t u)
    (λ b. cond_both (eqb slot i.slot) (tell.Process rows) Clock (λ a. (effect a n t).tablet ≡ i.tablet → Keeps m s.namespace to t (effect a n t))
    (λ at.
    let is : slot ≡ i.slot = eqb-true slot i.slot at in
    let mine : (effect (tell.Process rows) n (ps.tablet slot)).tablet ≡ i.tablet → Keeps m s.namespace to (ps.tablet slot) (effect (tell.Process rows) n (ps.tablet slot)) =
    subst (λ q. (processed q rows n (ps.tablet slot)).tablet ≡ i.tablet → Keeps m s.namespace to (ps.tablet slot) (processed q rows n (ps.tablet slot))) (sym e)
    (λ of. body_leaves c.body ps activity changes slot other n c.operation c.tablet rows cs _ s to i inv facts e pends
    (record { had = had; low = low; before = before; inside = inside; at = sym is; owned = owned }) of) in
    subst (λ j. (effect (tell.Process rows) n (ps.tablet j)).tablet ≡ i.tablet → Keeps m s.namespace to (ps.tablet j) (effect (tell.Process rows) n (ps.tablet j))) is mine)
    (λ at of. keeps_same m s.namespace to t _ refl refl))
    (λ b of. keeps_same m s.namespace to t t refl refl)))
    facts_after

pub process_leaves : (slot other n : ℕ) (ps : Parts) (activity : List Interval) (changes : List Change) → Later (slots_of (Process slot other)) ps n → Inv ps activity changes → Facts ps → Leaves (Process slot other) n ps (process slot other n ps)
unfolding process
process_leaves slot other n ps activity changes later inv facts =
    processing_leaves (ps.tablet slot).inbox slot other n ps activity changes refl later inv facts (process_keeps_facts slot other n ps activity changes later inv facts)
