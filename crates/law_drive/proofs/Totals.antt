-- Totals over lists, and how many events are left by them at the most.
use Rattle.std.proofs.Common.{ℕ, ◌≡◌, ◌≤◌, ◌+◌, ◌*◌, zero, suc, List, [], ◌∷◌, ◌++◌, Bool, true, false, cond, Option, Some, None, inl, inr, refl, sym, ap, subst, arith, map, not, length, le_refl}
use Rattle.std.specs.List.{filter}
use Rattle.std.proofs.lemmas.Bool.{cond_both}
use Rattle.row_values.specs.Ids.{Id}
use Rattle.row_values.specs.Elements.{In}
use Rattle.model.specs.Tablets.{Tablet, Command, Mark}
use Rattle.model.specs.Records.{Listed, Sent, RestorationState, Fencing, Snapshotting, Switching, Restoring, Releasing, Restored, CloneRecord, CloneState, Accepted, CloneSnapshot, Copying, CloneReleasing, CloneComplete, is_restored, is_cloned, unacked_at}
use Rattle.model.specs.Parts.{Master, Parts}
use Rattle.model.specs.Journal.{Change as Made}
use Rattle.law_invariants.specs.Operations.{OperationsGood, CloneStateGood}
use Rattle.model.specs.Looks.{is_free, counting}
use Rattle.model.specs.Settling.{left, taken_slots, unfinished_snapshots, unfinished_restorations, unfinished_clones}
use Rattle.law_drive.specs.Counting.{steps_left, slot_left, round_left, restoration_moves, restoration_rounds, clone_moves, clone_rounds, snapshot_left, restoration_left, clone_left, total, slots_taken, events_left}

pub total_most : {A : Type 0} (f g : A → ℕ) (xs : List A) → ((a : A) → In a xs → f a ≤ g a) → total f xs ≤ total g xs
total_most f g [] each = le_refl 0
total_most f g (x ∷ xs) each = let first = each x (inl refl) in let rest = total_most f g xs (λ a isin. each a (inr isin)) in omega (arith, first, rest)

-- where one of them is less by so many
pub total_less : {A : Type 0} (f g : A → ℕ) (xs : List A) (d : ℕ) (one : A) → ((a : A) → In a xs → f a ≤ g a) → In one xs → f one + d ≤ g one → total f xs + d ≤ total g xs
total_less f g [] d one each isin less = absurd isin
total_less f g (x ∷ xs) d one each isin less = elim isin [
  | inl is ↦ let rest = total_most f g xs (λ a there. each a (inr there)) in let mine : f x + d ≤ g x = subst (λ a. f a + d ≤ g a) (sym is) less in omega (arith, mine, rest)
  | inr there ↦ let first = each x (inl refl) in let rest = total_less f g xs d one (λ a k. each a (inr k)) there less in omega (arith, first, rest)
]

pub total_mapped : {A B : Type 0} (f : B → ℕ) (h : A → B) (xs : List A) → total f (map h xs) ≡ total (λ a. f (h a)) xs
total_mapped f h [] = refl
total_mapped f h (x ∷ xs) = ap (λ n. f (h x) + n) (total_mapped f h xs)

pub total_added : {A : Type 0} (f : A → ℕ) (xs : List A) (y : A) → total f (xs ++ y ∷ []) ≡ total f xs + f y
total_added f [] y = omega arith
total_added f (x ∷ xs) y = let rest = total_added f xs y in omega (arith, rest)

-- of fewer
pub total_fewer : {A : Type 0} (f : A → ℕ) (test other : A → Bool) (xs : List A) → ((a : A) → test a ≡ true → other a ≡ true) → total f (filter test xs) ≤ total f (filter other xs)
total_fewer f test other [] each = le_refl 0
total_fewer f test other (x ∷ xs) each =
    let rest = total_fewer f test other xs each in
    let less = filter test xs in
    let more = filter other xs in
    cond_both (test x) (x ∷ less) less (λ ys. total f ys ≤ total f (cond (other x) (x ∷ more) more))
    (λ e. subst (λ b. total f (x ∷ less) ≤ total f (cond b (x ∷ more) more)) (sym (each x e)) (let fits : f x + total f less ≤ f x + total f more = omega (arith, rest) in fits))
    (λ _. cond_both (other x) (x ∷ more) more (λ ys. total f less ≤ total f ys)
    (λ _. let fits : total f less ≤ f x + total f more = omega (arith, rest) in fits)
    (λ _. rest))

pub round_most : (sent : List Sent) (tablet : ℕ → Tablet) (operation : Id) (ls : List Listed) (slots : List ℕ) → round_left sent tablet operation ls slots ≤ 4 * length slots
round_most sent tablet operation ls [] = le_refl 0
round_most sent tablet operation ls (s ∷ ss) =
    let rest = round_most sent tablet operation ls ss in
    let one = slot_most sent (tablet s).inbox (tablet s).done operation s (unacked_at ls s) in
    let fits : slot_left sent (tablet s).inbox (tablet s).done operation s (unacked_at ls s) + round_left sent tablet operation ls ss ≤ 4 * suc (length ss) = omega (arith, rest, one) in fits
  where
    steps_most : (a b c : Bool) → steps_left a b c ≤ 4
    steps_most true b true = omega arith
    steps_most false b true = omega arith
    steps_most true true false = omega arith
    steps_most true false false = omega arith
    steps_most false b false = omega arith

    slot_most : (sent : List Sent) (inbox : List Command) (done : List Mark) (operation : Id) (s : ℕ) (found : Option Listed) → slot_left sent inbox done operation s found ≤ 4
    slot_most sent inbox done operation s None = omega arith
    slot_most sent inbox done operation s (Some l) = steps_most _ _ _

-- of all records

pub total_bound : {A : Type 0} (f : A → ℕ) (test : A → Bool) (most : ℕ) (xs : List A) → ((a : A) → In a xs → f a ≤ cond (test a) most 0) → total f xs ≤ most * length (filter test xs)
total_bound f test most [] each = omega arith
total_bound f test most (x ∷ xs) each = by_test (test x) (each x (inl refl)) (total_bound f test most xs (λ a isin. each a (inr isin)))
  where
    by_test : (b : Bool) → f x ≤ cond b most 0 → total f xs ≤ most * length (filter test xs) → f x + total f xs ≤ most * length (cond b (x ∷ filter test xs) (filter test xs))
    by_test true one rest = let fits : f x + total f xs ≤ most * suc (length (filter test xs)) = omega (arith, one, rest) in fits
    by_test false one rest = omega (arith, one, rest)

finished_none : (b : Bool) (n most : ℕ) → n ≤ most → cond b 0 n ≤ cond (not b) most 0
finished_none true n most le = le_refl 0
finished_none false n most le = le

restoration_bound : (state : RestorationState) (count round : ℕ) → round ≤ 4 * count → restoration_moves state + 4 * count * restoration_rounds state + round ≤ 6 + 16 * count
restoration_bound Fencing count round le = omega (arith, le)
restoration_bound (Snapshotting point own) count round le = omega (arith, le)
restoration_bound (Switching point serving) count round le = omega (arith, le)
restoration_bound (Restoring point serving) count round le = omega (arith, le)
restoration_bound (Releasing point serving) count round le = omega (arith, le)
restoration_bound (Restored point serving) count round le = omega (arith, le)

clone_bound : (state : CloneState) (count round : ℕ) → (state ≡ Accepted → round ≡ 0) → round ≤ 4 * count → clone_moves state + 4 * count * clone_rounds state + round ≤ 5 + 12 * count
clone_bound Accepted count round none le = let e = none refl in omega (arith, e)
clone_bound (CloneSnapshot own) count round none le = omega (arith, le)
clone_bound (Copying serving at) count round none le = omega (arith, le)
clone_bound (CloneReleasing serving at) count round none le = omega (arith, le)
clone_bound (CloneComplete serving at) count round none le = omega (arith, le)

-- a list of no tablets has no round
pub round_none : (sent : List Sent) (tablet : ℕ → Tablet) (operation : Id) (ls : List Listed) (slots : List ℕ) → ls ≡ [] → round_left sent tablet operation ls slots ≡ 0
round_none sent tablet operation ls slots empty = subst (λ k. round_left sent tablet operation k slots ≡ 0) (sym empty) (nothing slots)
  where
    nothing : (ss : List ℕ) → round_left sent tablet operation [] ss ≡ 0
    nothing [] = refl
    nothing (s ∷ ss) = let rest = nothing ss in omega (arith, rest)

accepted_none : (state : CloneState) (m : Master) (c : CloneRecord) → CloneStateGood state m c → state ≡ Accepted → c.listed ≡ []
accepted_none Accepted m c h e = h
accepted_none (CloneSnapshot own) m c h e = h.empty
accepted_none (Copying serving at) m c h e = absurd (let q = e in grind arith)
accepted_none (CloneReleasing serving at) m c h e = absurd (let q = e in grind arith)
accepted_none (CloneComplete serving at) m c h e = h

taken_free : (m : Master) (slots : List ℕ) → length (filter (λ s. not (is_free m s)) slots) + length (filter (is_free m) slots) ≡ length slots
taken_free m [] = refl
taken_free m (s ∷ slots) = by_test (is_free m s) (taken_free m slots)
  where
    by_test : (b : Bool) → length (filter (λ k. not (is_free m k)) slots) + length (filter (is_free m) slots) ≡ length slots
        → length (cond (not b) (s ∷ filter (λ k. not (is_free m k)) slots) (filter (λ k. not (is_free m k)) slots)) + length (cond b (s ∷ filter (is_free m) slots) (filter (is_free m) slots)) ≡ suc (length slots)
    by_test true rest = let fits : length (filter (λ k. not (is_free m k)) slots) + suc (length (filter (is_free m) slots)) ≡ suc (length slots) = omega (arith, rest) in fits
    by_test false rest = let fits : suc (length (filter (λ k. not (is_free m k)) slots)) + length (filter (is_free m) slots) ≡ suc (length slots) = omega (arith, rest) in fits

counting_long : (count from : ℕ) → length (counting count from) ≡ count
counting_long zero from = refl
counting_long (suc count) from = ap suc (counting_long count (from + 1))

taken_many : (m : Master) → length (slots_taken m) ≡ taken_slots m
taken_many m =
    let all = taken_free m (counting m.slots 1) in
    let long = counting_long m.slots 1 in omega (arith, all, long)

pub within_left : (ps : Parts) (changes : List Made) → OperationsGood ps.master changes → events_left ps ≤ left ps.master
within_left ps changes ops =
    let m = ps.master in
    let slots = slots_taken m in
    let count = taken_many m in
    let a : total (snapshot_left m.sent ps.tablet slots) m.snapshots ≤ (1 + 4 * length slots) * unfinished_snapshots m =
    total_bound (snapshot_left m.sent ps.tablet slots) (λ r. not r.complete) (1 + 4 * length slots) m.snapshots
    (λ r isin. finished_none r.complete (1 + round_left m.sent ps.tablet r.id r.listed slots) (1 + 4 * length slots) (let most = round_most m.sent ps.tablet r.id r.listed slots in omega (arith, most))) in
    let b : total (restoration_left m.sent ps.tablet slots) m.restorations ≤ (6 + 16 * length slots) * unfinished_restorations m =
    total_bound (restoration_left m.sent ps.tablet slots) (λ r. not (is_restored r.state)) (6 + 16 * length slots) m.restorations
    (λ r isin. finished_none (is_restored r.state) _ (6 + 16 * length slots) (restoration_bound r.state (length slots) _ (round_most m.sent ps.tablet r.id r.listed slots))) in
    let c : total (clone_left m.sent ps.tablet slots) m.clones ≤ (5 + 12 * length slots) * unfinished_clones m =
    total_bound (clone_left m.sent ps.tablet slots) (λ r. not (is_cloned r.state)) (5 + 12 * length slots) m.clones
    (λ r isin. finished_none (is_cloned r.state) _ (5 + 12 * length slots) (clone_bound r.state (length slots) _
    (λ accepted. round_none m.sent ps.tablet r.id r.listed slots (accepted_none r.state m r (ops.clones r isin).in_state accepted)) (round_most m.sent ps.tablet r.id r.listed slots))) in
    sums (length slots) (taken_slots m) (unfinished_snapshots m) (unfinished_restorations m) (unfinished_clones m) _ _ _ count a b c
  where
    sums : (slots taken s r k x y z : ℕ) → slots ≡ taken → x ≤ (1 + 4 * slots) * s → y ≤ (6 + 16 * slots) * r → z ≤ (5 + 12 * slots) * k → x + y + z ≤ 4 * taken * (s + 4 * r + 3 * k) + s + 6 * r + 5 * k
    sums slots taken s r k x y z is a b c = subst (λ t. x + y + z ≤ 4 * t * (s + 4 * r + 3 * k) + s + 6 * r + 5 * k) is (omega (arith, a, b, c))
