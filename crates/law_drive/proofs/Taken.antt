-- The slots that are not free hold what records list, and no event that comes next takes another one.
use Rattle.std.proofs.Common.{ℕ, ◌≡◌, ◌≤◌, ◌<◌, ◌+◌, ◌*◌, zero, suc, List, [], ◌∷◌, Bool, true, false, cond, ◌&&◌, ◌||◌, ◌⊎◌, Option, Some, None, inl, inr, refl, sym, ap, subst, ◌∙◌, arith, map, not, eqb, length, le_refl}
use Rattle.std.specs.Option.{option_map_or}
use Rattle.std.specs.List.{filter}
use Rattle.std.proofs.Math.Nat.{mul-le-mul}
use Rattle.std.proofs.lemmas.Bool.{true≢false}
use Rattle.std.proofs.lemmas.Bool.Decides.{nat_tests}
use Rattle.row_values.specs.Ids.{Kind, Id, Snapshot, Restoration, Clone, same}
use Rattle.row_values.specs.Elements.{In}
use Rattle.row_values.specs.Slots.{has}
use Rattle.model.specs.Activity.{Interval}
use Rattle.model.specs.Journal.{Change as Made}
use Rattle.model.specs.Tablets.{Tablet}
use Rattle.model.specs.Records.{Listed, Schedule, SnapshotRecord, RestorationRecord, RestorationState, Fencing, Snapshotting, Switching, Restoring, Releasing, Restored, CloneRecord, CloneState, Accepted, CloneSnapshot, Copying, CloneReleasing, CloneComplete, TabletPair, is_restored, is_cloned, schedule_of}
use Rattle.model.specs.Restored.{cloned_activity}
use Rattle.model.specs.Parts.{Master, Parts}
use Rattle.model.specs.Looks.{is_free, is_reserved, has_target, counting}
use Rattle.model.specs.Coordination.{acked_by, acked as acked_master}
use Rattle.model.specs.Moves.{Progress, moved, moved_of, completed, restoration_moved, clone_moved, begins_clone, clone_goes, with_clones_snapshot, clone_next, given_clone, serving_clone, id_of_snapshot, with_target}
use Rattle.law_store.proofs.Keys.{either_way}
use Rattle.law_invariants.specs.Invariant.{Inv}
use Rattle.law_invariants.specs.Operations.{OperationsGood}
use Rattle.law_invariants.proofs.Finding.{in_append, in_filter, in_mapped, map_in, same_equal, both_pass, either_passes, passes_both}
use Rattle.law_invariants.proofs.Plans.{has_in, in_has}
use Rattle.law_moves.proofs.Switching.{interval_is}
use Rattle.law_commands.proofs.Acked.{ack_clone}
use Rattle.law_drive.specs.Counting.{round_left, snapshot_left, restoration_left, clone_left, restoration_moves, restoration_rounds, clone_moves, clone_rounds, total, slots_taken, events_left_in}
use Rattle.law_drive.proofs.Totals.{total_most, total_fewer}
use Rattle.law_drive.proofs.Steps.{eqb_self}
use Rattle.law_drive.proofs.Falling.{finished_on}
use Rattle.law_drive.proofs.Choosing.{Unfinished, OfSnapshot, OfRestoration, OfClone, snapshot_found, restoration_found, clone_found}
use Rattle.law_drive.proofs.Going.{RowsFrom, OwnRows, SourceRows}
use Rattle.law_drive.proofs.Moving.{clone_then}

-- a tablet or an unfinished clone has the slot
abbrev pub IsTaken : Master → ℕ → Type 0
IsTaken m slot = ((i : Interval) × (In i m.activity × (i.slot ≡ slot)))
    ⊎ ((c : CloneRecord) × (In c m.clones × ((is_cloned c.state ≡ false) × ((p : TabletPair) × (In p c.tablets × (p.slot ≡ slot))))))

target_has : (pairs : List TabletPair) (slot : ℕ) (p : TabletPair) → In p pairs → p.slot ≡ slot → has_target pairs slot ≡ true
target_has [] slot p isin is = absurd isin
target_has (q ∷ pairs) slot p (inl e) is = ap (λ b. b || has_target pairs slot) (subst (λ k. eqb q.slot k ≡ true) (ap (λ k. k.slot) e ∙ is) (eqb_self q.slot))
target_has (q ∷ pairs) slot p (inr isin) is = either_passes (eqb q.slot slot) (has_target pairs slot) (target_has pairs slot p isin is)

reserved_has : (cs : List CloneRecord) (slot : ℕ) (c : CloneRecord) (p : TabletPair) → In c cs → is_cloned c.state ≡ false → In p c.tablets → p.slot ≡ slot → is_reserved cs slot ≡ true
reserved_has [] slot c p isin still paired is = absurd isin
reserved_has (d ∷ cs) slot c p (inl e) still paired is =
    subst (λ k. ((not (is_cloned k.state) && has_target k.tablets slot) || is_reserved cs slot) ≡ true) (sym e)
    (ap (λ b. b || is_reserved cs slot) (passes_both _ _ (ap not still) (target_has c.tablets slot p paired is)))
reserved_has (d ∷ cs) slot c p (inr isin) still paired is = either_passes _ (is_reserved cs slot) (reserved_has cs slot c p isin still paired is)

pub not_free : (m : Master) (slot : ℕ) → IsTaken m slot → is_free m slot ≡ false
not_free m slot (inl (i, (isin, is))) =
    ap (λ b. not (b || is_reserved m.clones slot)) (has_in (map (λ j. j.slot) m.activity) slot (subst (λ s. In s (map (λ (j : Interval). j.slot) m.activity)) is (map_in (λ (j : Interval). j.slot) m.activity i isin)))
not_free m slot (inr (c, (isin, (still, (p, (paired, is)))))) =
    ap not (either_passes (has (map (λ j. j.slot) m.activity) slot) (is_reserved m.clones slot) (reserved_has m.clones slot c p isin still paired is))

has_target_is : (pairs : List TabletPair) (slot : ℕ) → has_target pairs slot ≡ true → (p : TabletPair) × (In p pairs × (p.slot ≡ slot))
has_target_is [] slot e = absurd (true≢false (sym e))
has_target_is (q ∷ pairs) slot e = either_way (eqb q.slot slot)
    (λ b. (q, (inl refl, eqb_is q.slot slot b)))
    (λ b. let r = has_target_is pairs slot (ap (λ c. c || has_target pairs slot) (sym b) ∙ e) in (r.0, (inr r.1.0, r.1.1)))
  where
    eqb_is : (a b : ℕ) → eqb a b ≡ true → a ≡ b
    eqb_is a b e = grind (arith, nat_tests)

reserved_is : (cs : List CloneRecord) (slot : ℕ) → is_reserved cs slot ≡ true → (c : CloneRecord) × (In c cs × ((is_cloned c.state ≡ false) × ((p : TabletPair) × (In p c.tablets × (p.slot ≡ slot)))))
reserved_is [] slot e = absurd (true≢false (sym e))
reserved_is (c ∷ cs) slot e = either_way (not (is_cloned c.state) && has_target c.tablets slot)
    (λ b. let h = both_pass (not (is_cloned c.state)) (has_target c.tablets slot) b in (c, (inl refl, (still (is_cloned c.state) h.0, has_target_is c.tablets slot h.1))))
    (λ b. let r = reserved_is cs slot (ap (λ k. k || is_reserved cs slot) (sym b) ∙ e) in (r.0, (inr r.1.0, r.1.1)))
  where
    still : (b : Bool) → not b ≡ true → b ≡ false
    still false e = refl
    still true e = absurd (true≢false (sym e))

pub taken_is : (m : Master) (slot : ℕ) → not (is_free m slot) ≡ true → IsTaken m slot
taken_is m slot e = by_tests (has (map (λ j. j.slot) m.activity) slot) (is_reserved m.clones slot) refl refl e
  where
    by_tests : (a b : Bool) → has (map (λ j. j.slot) m.activity) slot ≡ a → is_reserved m.clones slot ≡ b → not (not (a || b)) ≡ true → IsTaken m slot
    by_tests true b x y e = inl (in_mapped (λ (j : Interval). j.slot) (λ s. s ≡ slot → (i : Interval) × (In i m.activity × (i.slot ≡ slot))) m.activity (λ i isin is. (i, (isin, is))) slot (in_has (map (λ j. j.slot) m.activity) slot x) refl)
    by_tests false true x y e = inr (reserved_is m.clones slot y)
    by_tests false false x y e = absurd (true≢false (sym e))

-- Slots

counting_has : (count from slot : ℕ) → from ≤ slot → slot < from + count → In slot (counting count from)
counting_has zero from slot le less = absurd (omega (arith, le, less))
counting_has (suc count) from slot le less = either_way (eqb from slot)
    (λ e. inl (eqb_is from slot e))
    (λ e. inr (counting_has count (from + 1) slot (let apart = e in next_le from slot le e) (omega (arith, less))))
  where
    eqb_is : (a b : ℕ) → eqb a b ≡ true → a ≡ b
    eqb_is a b e = grind (arith, nat_tests)

    next_le : (a b : ℕ) → a ≤ b → eqb a b ≡ false → a + 1 ≤ b
    next_le a b le e = grind (arith, nat_tests)

is_slot_taken : (m : Master) (slot : ℕ) → 1 ≤ slot → slot ≤ m.slots → IsTaken m slot → In slot (slots_taken m)
is_slot_taken m slot from to taken = in_filter (counting m.slots 1) (λ s. not (is_free m s)) slot (counting_has m.slots 1 slot from (omega (arith, to))) (ap not (not_free m slot taken))

-- a pending command is for a tablet in one of them
pub rows_taken : (ps : Parts) (activity : List Interval) (changes : List Made) (slot : ℕ) (l : Listed) → Inv ps activity changes → RowsFrom ps.master slot l → In slot (slots_taken ps.master) × (1 ≤ slot)
rows_taken ps activity changes slot l inv (OwnRows i kept at is) =
    let g = (inv.slots slot).each i kept at in
    let from : 1 ≤ slot = subst (λ s. 1 ≤ s) at g.slot_from in
    (is_slot_taken ps.master slot from (subst (λ s. s ≤ ps.master.slots) at g.slot_to) (inl (i, (kept, at))), from)
rows_taken ps activity changes slot l inv (SourceRows c kept serving at state p paired here is) =
    let g = (inv.operations.clones c kept).pairs p paired in
    let from : 1 ≤ slot = subst (λ s. 1 ≤ s) here g.slot_from in
    (is_slot_taken ps.master slot from (subst (λ s. s ≤ ps.master.slots) here g.slot_to) (inr (c, (kept, (ap is_cloned state, (p, (paired, here)))))), from)

-- Fewer slots

-- no other slots are taken
pub record TakesNone (m after : Master) : Type 0 where
  pub slots : after.slots ≡ m.slots
  pub each : (slot : ℕ) → IsTaken after slot → IsTaken m slot

length_total : {A : Type 0} (xs : List A) → length xs ≡ total (λ (x : A). 1) xs
length_total [] = refl
length_total (x ∷ xs) = let rest = length_total xs in omega (arith, rest)

record FewerSlots (less more : List ℕ) : Type 0 where
  totals : (f : ℕ → ℕ) → total f less ≤ total f more
  long : length less ≤ length more

fewer_slots : (m after : Master) → TakesNone m after → FewerSlots (slots_taken after) (slots_taken m)
fewer_slots m after none =
    let totals : (f : ℕ → ℕ) → total f (slots_taken after) ≤ total f (slots_taken m) = λ f.
    subst (λ n. total f (filter (λ s. not (is_free after s)) (counting n 1)) ≤ total f (slots_taken m)) (sym none.slots)
    (total_fewer f (λ s. not (is_free after s)) (λ s. not (is_free m s)) (counting m.slots 1) (λ s taken. ap not (not_free m s (none.each s (taken_is after s taken))))) in
    record {
      totals = totals;
      long = let le = totals (λ s. 1) in let a = length_total (slots_taken after) in let b = length_total (slots_taken m) in omega (arith, le, a, b);
    }

weight_fewer : (moves rounds a b x y : ℕ) → a ≤ b → x ≤ y → moves + 4 * a * rounds + x ≤ moves + 4 * b * rounds + y
weight_fewer moves rounds a b x y le less = let product : 4 * a * rounds ≤ 4 * b * rounds = mul-le-mul {n₁ = 4 * a} {m₁ = rounds} {n₂ = 4 * b} {m₂ = rounds} (omega (arith, le)) (le_refl rounds) in sums (4 * a * rounds) (4 * b * rounds) product
  where
    sums : (p q : ℕ) → p ≤ q → moves + p + x ≤ moves + q + y
    sums p q product = omega (arith, product, less)

pub left_fewer : (m after : Master) (tablet : ℕ → Tablet) → TakesNone m after → events_left_in after tablet (slots_taken after) ≤ events_left_in after tablet (slots_taken m)
left_fewer m after tablet none =
    let f = fewer_slots m after none in
    let less = slots_taken after in
    let more = slots_taken m in
    let round : (id : Id) (ls : List Listed) → round_left after.sent tablet id ls less ≤ round_left after.sent tablet id ls more = λ id ls. f.totals _ in
    let a = total_most (snapshot_left after.sent tablet less) (snapshot_left after.sent tablet more) after.snapshots (λ r isin. finished_on r.complete _ _ (λ _. one_more _ _ (round r.id r.listed))) in
    let b = total_most (restoration_left after.sent tablet less) (restoration_left after.sent tablet more) after.restorations
    (λ r isin. finished_on (is_restored r.state) _ _ (λ _. weight_fewer (restoration_moves r.state) (restoration_rounds r.state) (length less) (length more) _ _ f.long (round r.id r.listed))) in
    let c = total_most (clone_left after.sent tablet less) (clone_left after.sent tablet more) after.clones
    (λ r isin. finished_on (is_cloned r.state) _ _ (λ _. weight_fewer (clone_moves r.state) (clone_rounds r.state) (length less) (length more) _ _ f.long (round r.id r.listed))) in
    omega (arith, a, b, c)
  where
    one_more : (x y : ℕ) → x ≤ y → 1 + x ≤ 1 + y
    one_more x y le = omega (arith, le)

-- What comes next takes no other slots

pub takes_none : (m : Master) → TakesNone m m
takes_none m = record { slots = refl; each = λ slot taken. taken }

acked_clones : (m : Master) (operation : Id) (slot n : ℕ) (i : ℕ) → IsTaken (acked_by Clone operation slot n m) i → IsTaken m i
acked_clones m operation slot n i (inl here) = inl here
acked_clones m operation slot n i (inr (c, (isin, (still, pair)))) =
    in_mapped (ack_clone operation slot) (λ d. is_cloned d.state ≡ false → ((p : TabletPair) × (In p d.tablets × (p.slot ≡ i))) → IsTaken m i) m.clones (λ d ind open_ found. inr (d, (ind, (open_, found)))) c isin still pair

acked_none : (kind : Kind) (m : Master) (operation : Id) (slot n : ℕ) → TakesNone m (acked_by kind operation slot n m)
acked_none Clone m operation slot n = record { slots = refl; each = λ i taken. acked_clones m operation slot n i taken }
acked_none Snapshot m operation slot n = record { slots = refl; each = λ i taken. taken }
acked_none Restoration m operation slot n = record { slots = refl; each = λ i taken. taken }
acked_none _ m operation slot n = record { slots = refl; each = λ i taken. taken }

pub ack_takes_none : (m : Master) (operation : Id) (slot n : ℕ) → TakesNone m (acked_master operation slot n m)
ack_takes_none m operation slot n = acked_none operation.kind m operation slot n

-- at a switch, tablets that were there are active again
switch_takes : (m : Master) (r : RestorationRecord) (point : ℕ) (serving : Id) (n : ℕ) → TakesNone m (restoration_moved (Switching point serving) r n m)
switch_takes m r point serving n = record { slots = refl; each = λ slot taken. by_taken slot taken }
  where
    by_taken : (slot : ℕ) → IsTaken (restoration_moved (Switching point serving) r n m) slot → IsTaken m slot
    by_taken slot (inl (i, (isin, is))) = interval_is (λ j. j.slot ≡ slot → IsTaken m slot) m r point (λ j inj at. inl (j, (inj, at))) (λ j inj owner active at. inl (j, (inj, at))) i isin is
    by_taken slot (inr there) = inr there

restoration_takes : (state : RestorationState) (m : Master) (r : RestorationRecord) (n : ℕ) → TakesNone m (restoration_moved state r n m)
restoration_takes (Switching point serving) m r n = switch_takes m r point serving n
restoration_takes _ m r n = record { slots = refl; each = λ slot taken. taken }

-- a clone that moves was unfinished, and has the slots that it had
clones_took : (m : Master) (changes : List Made) (r : CloneRecord) (state : CloneState) (listed : List Listed) (slot : ℕ) → OperationsGood m changes → In r m.clones → is_cloned r.state ≡ false → (c : CloneRecord) → In c (map (clone_then r state listed) m.clones)
    → is_cloned c.state ≡ false → ((p : TabletPair) × (In p c.tablets × (p.slot ≡ slot))) → IsTaken m slot
clones_took m changes r state listed slot ops kept still = in_mapped (clone_then r state listed) (λ c. is_cloned c.state ≡ false → ((p : TabletPair) × (In p c.tablets × (p.slot ≡ slot))) → IsTaken m slot) m.clones
    (λ d ind open_ found. inr (
      d,
      (
        ind,
        (
          either_way (same d.id r.id)
              (λ e. let one : r ≡ d = ops.apart.clone_ids r d kept ind (sym (same_equal d.id r.id e)) in subst (λ k. is_cloned k.state ≡ false) one still)
              (λ e. let was : is_cloned d.state ≡ is_cloned (cond (same d.id r.id) state d.state) = ap (λ b. is_cloned (cond b state d.state)) (sym e) in was ∙ open_),
          found,
        ),
      ),
    ))

clone_goes_none : (state : CloneState) (serving : Option Id) (m beside : Master) (changes : List Made) (r : CloneRecord) (n : ℕ) → OperationsGood m changes → In r m.clones → is_cloned r.state ≡ false → beside.slots ≡ m.slots → beside.clones ≡ m.clones
    → ((i : Interval) → In i beside.activity → IsTaken m i.slot) → TakesNone m (clone_goes state serving r n m beside)
clone_goes_none state serving m beside changes r n ops kept still slots clones activity = record { slots = slots; each = λ slot taken. by_taken slot taken }
  where
    by_taken : (slot : ℕ) → IsTaken (clone_goes state serving r n m beside) slot → IsTaken m slot
    by_taken slot (inl (i, (isin, is))) = subst (IsTaken m) is (activity i isin)
    by_taken slot (inr (c, (isin, (open_, found)))) =
        let g = given_clone state serving r n m in
        clones_took m changes r (clone_next state g) g.listed slot ops kept still c (subst (λ cs. In c (map (clone_then r (clone_next state g) g.listed) cs)) clones isin) open_ found

has_it : (m : Master) (i : Interval) → In i m.activity → IsTaken m i.slot
has_it m i isin = inl (i, (isin, refl))

begins_none : (serving : Option SnapshotRecord) (schedule : Option Schedule) (m : Master) (changes : List Made) (r : CloneRecord) (n : ℕ) → schedule_of m.schedules r.source ≡ schedule → OperationsGood m changes → In r m.clones → is_cloned r.state ≡ false
    → TakesNone m (begins_clone serving r n m)
begins_none (Some s) schedule m changes r n by ops kept still = clone_goes_none Accepted (Some s.id) m m changes r n ops kept still refl refl (has_it m)
begins_none None None m changes r n by ops kept still =
    subst (λ k. TakesNone m (clone_goes Accepted None r n m (with_clones_snapshot k r n m))) (sym by) (clone_goes_none Accepted None m m changes r n ops kept still refl refl (has_it m))
begins_none None (Some s) m changes r n by ops kept still =
    subst (λ k. TakesNone m (clone_goes Accepted None r n m (with_clones_snapshot k r n m))) (sym by) (clone_goes_none Accepted None m (with_clones_snapshot (Some s) r n m) changes r n ops kept still refl refl (has_it m))

clone_takes : (state : CloneState) (m : Master) (changes : List Made) (r : CloneRecord) (n : ℕ) → OperationsGood m changes → In r m.clones → is_cloned r.state ≡ false → TakesNone m (clone_moved state r n m)
clone_takes Accepted m changes r n ops kept still = begins_none (serving_clone m r) (schedule_of m.schedules r.source) m changes r n refl ops kept still
clone_takes (CloneSnapshot own) m changes r n ops kept still = clone_goes_none (CloneSnapshot own) (id_of_snapshot (serving_clone m r)) m m changes r n ops kept still refl refl (has_it m)
clone_takes (Copying serving at) m changes r n ops kept still = clone_goes_none (Copying serving at) None m (with_target r n m) changes r n ops kept still refl refl
    (λ i isin. elim (in_append m.activity (cloned_activity n r.tablets) i isin) [
      | inl old ↦ has_it m i old
      | inr new ↦ in_mapped {A = TabletPair} {B = Interval} (λ p. record { slot = p.slot; tablet = p.target; table = p.table; low = p.low; high = p.high; from = n; to = None }) (λ j. IsTaken m j.slot) r.tablets
          (λ p paired. inr (r, (kept, (still, (p, (paired, refl)))))) i new
    ])
clone_takes (CloneReleasing serving at) m changes r n ops kept still = clone_goes_none (CloneReleasing serving at) None m m changes r n ops kept still refl refl (has_it m)
clone_takes (CloneComplete serving at) m changes r n ops kept still = record { slots = refl; each = λ slot taken. taken }

pub move_takes_none : (m : Master) (changes : List Made) (n : ℕ) (p : Progress) → OperationsGood m changes → Unfinished m p → TakesNone m (moved p.id n m)
move_takes_none m changes n p ops (OfSnapshot r kept still is) = subst (λ q. TakesNone m (moved q.id n m)) is
    (subst (λ k. TakesNone m (moved_of k r.id n m)) (sym (ops.snapshots r kept).kind_is)
    (subst (λ found. TakesNone m (option_map_or (λ q. completed q n m) found (record m { clock = n }))) (sym (snapshot_found m changes r ops kept still))
    (record { slots = refl; each = λ slot taken. taken })))
move_takes_none m changes n p ops (OfRestoration r kept still is) = subst (λ q. TakesNone m (moved q.id n m)) is
    (subst (λ k. TakesNone m (moved_of k r.id n m)) (sym (ops.restorations r kept).kind_is)
    (subst (λ found. TakesNone m (option_map_or (λ q. restoration_moved q.state q n m) found (record m { clock = n }))) (sym (restoration_found m changes r ops kept still))
    (restoration_takes r.state m r n)))
move_takes_none m changes n p ops (OfClone r kept still is) = subst (λ q. TakesNone m (moved q.id n m)) is
    (subst (λ k. TakesNone m (moved_of k r.id n m)) (sym (ops.clones r kept).kind_is)
    (subst (λ found. TakesNone m (option_map_or (λ q. clone_moved q.state q n m) found (record m { clock = n }))) (sym (clone_found m changes r ops kept still))
    (clone_takes r.state m changes r n ops kept still)))
