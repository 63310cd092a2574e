-- An advance of a restoration keeps what holds, where its switch does.
use Rattle.std.proofs.Common.{ℕ, ◌≡◌, ◌<◌, ◌+◌, List, [], ◌∷◌, Some, None, true, false, refl, sym, ap, subst, ◌∙◌, arith}
use Rattle.std.specs.Option.{option_map, option_map_or, unwrap_or}
use Rattle.std.proofs.lemmas.Bool.{true≢false}
use Rattle.model.specs.Cluster.{RestorationKind as Restoration, Id, In, Interval, Listed, RestorationRecord, RestorationState, Fencing, Snapshotting, Switching, Restoring, Releasing, Restored, is_restored, unfinished_of, point_of, Advance, Master, Parts}
use Rattle.model.specs.Journal.{Change as Made}
use Rattle.model.specs.Schedules.{serving}
use Rattle.model.specs.Coordination.{unfinished_restoration, unfinished_clone}
use Rattle.model.specs.Lists.{next_snapshot}
use Rattle.model.specs.Moves.{progress_of, restoration_progress, awaited_by_restoration, after_restoration, released, brought_back, restoration_moved, moved_of, advance}
use Rattle.model.specs.History.{with_either, with_restoration}
use Rattle.law_invariants.specs.Invariant.{Inv, Later}
use Rattle.law_invariants.proofs.Ticking.{KeepsAll}
use Rattle.law_invariants.proofs.Recording.{Records, recorded}
use Rattle.law_invariants.proofs.Slots.{parts_with, records_keep}
use Rattle.law_invariants.proofs.Advancing.{alone_keeps, moves, advance_by, mapped_some}
use Rattle.law_invariants.proofs.Pending.{unfinished_restoration_is}
use Rattle.law_invariants.proofs.Taking.{taken, MayTake, taken_onto}
use Rattle.law_moves.proofs.Entering.{enters, entered_keeps}
use Rattle.law_moves.proofs.Moving.{releases, finishes}
use Rattle.law_moves.proofs.Preparing.{snapshots_own, serves_it}

-- the restoration that an advance moves
pub record Moved (ps : Parts) (operation : Id) (r : RestorationRecord) : Type 0 where
  pub kind : operation.kind ≡ Restoration
  pub found : unfinished_restoration ps.master.restorations operation ≡ Some r
  pub there : In r ps.master.restorations
  pub acked : (l : Listed) → In l r.listed → l.acked ≡ true
  pub unawaited : awaited_by_restoration r.state ps.master r ≡ None

pub moved_is : (operation : Id) (r : RestorationRecord) (n : ℕ) (k : Master) → operation.kind ≡ Restoration → unfinished_restoration k.restorations operation ≡ Some r → moved_of operation.kind operation n k ≡ restoration_moved r.state r n k
moved_is operation r n k kind found = ap (λ q. moved_of q operation n k) kind ∙ ap (λ o. option_map_or {T = RestorationRecord} (λ r. restoration_moved r.state r n k) o (record k { clock = n })) found

-- a move that makes no change and leaves the activity
quiet_keeps : (ps : Parts) (activity : List Interval) (changes : List Made) (n : ℕ) (operation : Id) (r : RestorationRecord) (state : RestorationState) (w : Records) → Later (0 ∷ []) ps n → Moved ps operation r → r.state ≡ state
    → restoration_moved state r n ps.master ≡ recorded ps.master w → (restoration_moved state r n (record ps.master { activity = activity })).activity ≡ activity → with_restoration state r changes ≡ changes → Inv (parts_with ps w) activity changes
    → KeepsAll (Advance operation) n ps activity changes (moves operation (after_restoration ps.master r))
quiet_keeps ps activity changes n operation r state w later v is master stays quiet inv =
    alone_keeps (Advance operation) (moves operation (after_restoration ps.master r)) n ps activity activity changes changes (recorded ps.master w) refl refl
    (moved_is operation r n ps.master v.kind v.found ∙ ap (λ st. restoration_moved st r n ps.master) is ∙ master)
    (ap (λ k. k.activity) (moved_is operation r n (record ps.master { activity = activity }) v.kind v.found) ∙ ap (λ st. (restoration_moved st r n (record ps.master { activity = activity })).activity) is ∙ stays)
    (ap (λ o. with_either o (unfinished_clone ps.master.clones operation) n changes) v.found ∙ ap (λ st. with_restoration st r changes) is ∙ quiet) inv

fencing_keeps : (ps : Parts) (activity : List Interval) (changes : List Made) (n : ℕ) (operation : Id) (r : RestorationRecord) → Later (0 ∷ []) ps n → Moved ps operation r → r.state ≡ Fencing → Inv ps activity changes
    → KeepsAll (Advance operation) n ps activity changes (moves operation (after_restoration ps.master r))
fencing_keeps ps activity changes n operation r later v is inv =
    let m = ps.master in
    let before : m.clock < n = later 0 refl in
    let a = inv.operations.apart in
    let unfinished : is_restored r.state ≡ false = ap is_restored is in
    let t = (inv.operations.restorations r v.there).scheduled unfinished in
    let k = (inv.operations.schedules t.0 t.1.0).scheduled in
    let ns_is : k.0.namespace ≡ r.namespace = k.1.1.0 ∙ t.1.1.1 in
    let calm : unfinished_of m.snapshots r.namespace ≡ None = sym (ap (λ st. awaited_by_restoration st m r) is) ∙ v.unawaited in
    let may : MayTake m r.namespace r.schedule = record {
      scheduled = (k.0, (k.1.0, ns_is));
      calm = calm;
      early = λ q point isin open_ at e. (
          let same_ : q ≡ r = a.one_restoration q r isin v.there open_ unfinished (sym e) in
          let k : None ≡ Some point = sym (ap point_of (ap (λ x. x.state) same_ ∙ is)) ∙ at in grind arith);
    } in
    let w0 = taken r.namespace r.schedule n m in
    let now = records_keep ps activity changes w0 (taken_onto ps activity changes n r.namespace r.schedule before may inv) inv in
    let e = snapshots_own ps activity changes n r before v.there is v.acked inv now in
    let w1 = enters r (Snapshotting (n + 1) (next_snapshot m)) [] n (recorded m w0) in
    let w : Records = record { clock = n; schedules = w1.schedules; scheduled = w1.scheduled; snapshots = w1.snapshots; restorations = w1.restorations; sent = w1.sent; drawn = w1.drawn } in
    quiet_keeps ps activity changes n operation r Fencing w later v is refl refl refl
    (entered_keeps (parts_with ps w0) activity changes n r (Snapshotting (n + 1) (next_snapshot m)) [] e now)

snapshotting_keeps : (ps : Parts) (activity : List Interval) (changes : List Made) (n : ℕ) (operation : Id) (r : RestorationRecord) (point : ℕ) (own : Id) → Later (0 ∷ []) ps n → Moved ps operation r → r.state ≡ Snapshotting point own → Inv ps activity changes
    → KeepsAll (Advance operation) n ps activity changes (moves operation (after_restoration ps.master r))
snapshotting_keeps ps activity changes n operation r point own later v is inv =
    let m = ps.master in
    let before : m.clock < n = later 0 refl in
    let state = Switching point (unwrap_or (option_map (λ s. s.id) (serving m.snapshots r.namespace r.to)) own) in
    let e = serves_it ps activity changes n r point own before v.there is (sym (ap (λ st. awaited_by_restoration st m r) is) ∙ v.unawaited) inv in
    quiet_keeps ps activity changes n operation r (Snapshotting point own) (enters r state [] n m) later v is refl refl refl (entered_keeps ps activity changes n r state [] e inv)

restoring_keeps : (ps : Parts) (activity : List Interval) (changes : List Made) (n : ℕ) (operation : Id) (r : RestorationRecord) (point : ℕ) (serving_ : Id) → Later (0 ∷ []) ps n → Moved ps operation r → r.state ≡ Restoring point serving_ → Inv ps activity changes
    → KeepsAll (Advance operation) n ps activity changes (moves operation (after_restoration ps.master r))
restoring_keeps ps activity changes n operation r point serving_ later v is inv =
    let m = ps.master in
    let new = released point (brought_back r.listed) in
    let e = releases ps activity changes n r point serving_ (later 0 refl) v.there is v.acked inv in
    quiet_keeps ps activity changes n operation r (Restoring point serving_) (enters r (Releasing point serving_) new n m) later v is refl refl refl (entered_keeps ps activity changes n r (Releasing point serving_) new e inv)

releasing_keeps : (ps : Parts) (activity : List Interval) (changes : List Made) (n : ℕ) (operation : Id) (r : RestorationRecord) (point : ℕ) (serving_ : Id) → Later (0 ∷ []) ps n → Moved ps operation r → r.state ≡ Releasing point serving_ → Inv ps activity changes
    → KeepsAll (Advance operation) n ps activity changes (moves operation (after_restoration ps.master r))
releasing_keeps ps activity changes n operation r point serving_ later v is inv =
    let m = ps.master in
    let e = finishes ps activity changes n r point serving_ (later 0 refl) v.there is v.acked inv in
    quiet_keeps ps activity changes n operation r (Releasing point serving_) (enters r (Restored point serving_) [] n m) later v is refl refl refl (entered_keeps ps activity changes n r (Restored point serving_) [] e inv)

-- what is to be shown of the switch
abbrev pub SwitchKeeps : ℕ → Parts → List Interval → List Made → Id → Type 0
SwitchKeeps n ps activity changes operation = (r : RestorationRecord) (point : ℕ) (serving_ : Id) → Moved ps operation r → r.state ≡ Switching point serving_ → KeepsAll (Advance operation) n ps activity changes (moves operation (after_restoration ps.master r))

by_state : (state : RestorationState) (ps : Parts) (activity : List Interval) (changes : List Made) (n : ℕ) (operation : Id) (r : RestorationRecord) → Later (0 ∷ []) ps n → Moved ps operation r → r.state ≡ state → is_restored state ≡ false → Inv ps activity changes
    → SwitchKeeps n ps activity changes operation → KeepsAll (Advance operation) n ps activity changes (moves operation (after_restoration ps.master r))
by_state Fencing ps activity changes n operation r later v is open_ inv switch = fencing_keeps ps activity changes n operation r later v is inv
by_state (Snapshotting point own) ps activity changes n operation r later v is open_ inv switch = snapshotting_keeps ps activity changes n operation r point own later v is inv
by_state (Switching point serving_) ps activity changes n operation r later v is open_ inv switch = switch r point serving_ v is
by_state (Restoring point serving_) ps activity changes n operation r later v is open_ inv switch = restoring_keeps ps activity changes n operation r point serving_ later v is inv
by_state (Releasing point serving_) ps activity changes n operation r later v is open_ inv switch = releasing_keeps ps activity changes n operation r point serving_ later v is inv
by_state (Restored point serving_) ps activity changes n operation r later v is open_ inv switch = absurd (true≢false open_)

pub advance_restoration_by : (ps : Parts) (activity : List Interval) (changes : List Made) (n : ℕ) (operation : Id) → Later (0 ∷ []) ps n → operation.kind ≡ Restoration → Inv ps activity changes → SwitchKeeps n ps activity changes operation
    → KeepsAll (Advance operation) n ps activity changes (advance operation n ps)
advance_restoration_by ps activity changes n operation later kind inv switch =
    let m = ps.master in
    advance_by operation n ps activity changes later inv (λ p is acked unawaited.
    let found = mapped_some (restoration_progress m) (unfinished_restoration m.restorations operation) p (ap (λ k. progress_of k m operation) (sym kind) ∙ is) in
    let r = found.0 in
    let there = unfinished_restoration_is m.restorations operation r found.1.0 in
    let v : Moved ps operation r = record {
      kind = kind;
      found = found.1.0;
      there = there.0;
      acked = λ l isin. acked l (subst (λ q. In l q.listed) found.1.1 isin);
      unawaited = ap (λ q. q.awaited) found.1.1 ∙ unawaited;
    } in
    subst (λ q. KeepsAll (Advance operation) n ps activity changes (moves operation q.next)) found.1.1 (by_state r.state ps activity changes n operation r later v refl there.1.1 inv switch))
