-- The events that are left fall where those of one record do, and none's rise.
use Rattle.std.proofs.Common.{ℕ, ◌≡◌, ◌≤◌, ◌<◌, ◌+◌, ◌*◌, List, Bool, true, false, cond, refl, sym, subst, arith, length, le_refl}
use Rattle.std.proofs.lemmas.Bool.{true≢false}
use Rattle.row_values.specs.Ids.{Id}
use Rattle.row_values.specs.Elements.{In}
use Rattle.model.specs.Tablets.{Tablet}
use Rattle.model.specs.Records.{Listed, Sent, SnapshotRecord, RestorationRecord, CloneRecord, is_restored, is_cloned, unacked_at}
use Rattle.model.specs.Parts.{Master}
use Rattle.model.specs.Moves.{Progress, snapshot_progress, restoration_progress, clone_progress}
use Rattle.law_drive.specs.Counting.{slot_left, round_left, restoration_moves, restoration_rounds, clone_moves, clone_rounds, snapshot_left, restoration_left, clone_left, total, events_left_in}
use Rattle.law_drive.proofs.Totals.{total_most, total_less}
use Rattle.law_drive.proofs.Choosing.{Unfinished, OfSnapshot, OfRestoration, OfClone}

pub added_most : (a b c : ℕ) → b ≤ c → a + b ≤ a + c
added_most a b c le = omega (arith, le)

pub added_less : (a b c : ℕ) → b + 1 ≤ c → a + b + 1 ≤ a + c
added_less a b c le = omega (arith, le)

-- what is left of a round

abbrev pub RoundOn : List Sent → List Sent → (ℕ → Tablet) → (ℕ → Tablet) → Id → List Listed → Type 0
RoundOn sent new tablet after operation ls =
    (i : ℕ) → slot_left new (after i).inbox (after i).done operation i (unacked_at ls i) ≤ slot_left sent (tablet i).inbox (tablet i).done operation i (unacked_at ls i)

-- an event less is left for a slot
abbrev pub SlotLess : List Sent → List Sent → (ℕ → Tablet) → (ℕ → Tablet) → Id → List Listed → ℕ → Type 0
SlotLess sent new tablet after operation ls i =
    slot_left new (after i).inbox (after i).done operation i (unacked_at ls i) + 1 ≤ slot_left sent (tablet i).inbox (tablet i).done operation i (unacked_at ls i)

pub round_on : (sent new : List Sent) (tablet after : ℕ → Tablet) (operation : Id) (ls : List Listed) (slots : List ℕ) → RoundOn sent new tablet after operation ls → round_left new after operation ls slots ≤ round_left sent tablet operation ls slots
round_on sent new tablet after operation ls slots each = total_most {A = ℕ} (λ i. slot_left new (after i).inbox (after i).done operation i (unacked_at ls i)) (λ i. slot_left sent (tablet i).inbox (tablet i).done operation i (unacked_at ls i)) slots
    (λ i _. each i)

pub round_less : (sent new : List Sent) (tablet after : ℕ → Tablet) (operation : Id) (ls : List Listed) (slots : List ℕ) (slot : ℕ) → RoundOn sent new tablet after operation ls → In slot slots → SlotLess sent new tablet after operation ls slot
    → round_left new after operation ls slots + 1 ≤ round_left sent tablet operation ls slots
round_less sent new tablet after operation ls slots slot each isin less = total_less {A = ℕ} (λ i. slot_left new (after i).inbox (after i).done operation i (unacked_at ls i)) (λ i. slot_left sent (tablet i).inbox (tablet i).done operation i (unacked_at ls i)) slots 1 slot
    (λ i _. each i) isin less

-- and of a record

pub finished_on : (b : Bool) (n m : ℕ) → (b ≡ false → n ≤ m) → cond b 0 n ≤ cond b 0 m
finished_on true n m le = le_refl 0
finished_on false n m le = le refl

pub unfinished_less : (b : Bool) (n m : ℕ) → b ≡ false → n + 1 ≤ m → cond b 0 n + 1 ≤ cond b 0 m
unfinished_less false n m still le = le
unfinished_less true n m still le = absurd (true≢false still)

-- no unfinished record has more left
pub record AllOn (m : Master) (new : List Sent) (tablet after : ℕ → Tablet) : Type 0 where
  pub each : (p : Progress) → Unfinished m p → RoundOn m.sent new tablet after p.id p.listed

pub snapshots_on : (m : Master) (new : List Sent) (tablet after : ℕ → Tablet) (slots : List ℕ) → AllOn m new tablet after → (r : SnapshotRecord) → In r m.snapshots → snapshot_left new after slots r ≤ snapshot_left m.sent tablet slots r
snapshots_on m new tablet after slots all r isin = finished_on r.complete (1 + round_left new after r.id r.listed slots) (1 + round_left m.sent tablet r.id r.listed slots)
    (λ still. let le = round_on m.sent new tablet after r.id r.listed slots (all.each (snapshot_progress r) (OfSnapshot r isin still refl)) in omega (arith, le))

pub restorations_on : (m : Master) (new : List Sent) (tablet after : ℕ → Tablet) (slots : List ℕ) → AllOn m new tablet after → (r : RestorationRecord) → In r m.restorations → restoration_left new after slots r ≤ restoration_left m.sent tablet slots r
restorations_on m new tablet after slots all r isin = finished_on (is_restored r.state) _ _
    (λ still. let le = round_on m.sent new tablet after r.id r.listed slots (all.each (restoration_progress m r) (OfRestoration r isin still refl)) in added_most (restoration_moves r.state + 4 * length slots * restoration_rounds r.state) _ _ le)

pub clones_on : (m : Master) (new : List Sent) (tablet after : ℕ → Tablet) (slots : List ℕ) → AllOn m new tablet after → (r : CloneRecord) → In r m.clones → clone_left new after slots r ≤ clone_left m.sent tablet slots r
clones_on m new tablet after slots all r isin = finished_on (is_cloned r.state) _ _
    (λ still. let le = round_on m.sent new tablet after r.id r.listed slots (all.each (clone_progress m r) (OfClone r isin still refl)) in added_most (clone_moves r.state + 4 * length slots * clone_rounds r.state) _ _ le)

-- the totals of the records with other sent marks and tablets
abbrev pub left_with : Master → List Sent → (ℕ → Tablet) → List ℕ → ℕ
left_with m new after slots = total (snapshot_left new after slots) m.snapshots + total (restoration_left new after slots) m.restorations + total (clone_left new after slots) m.clones

pub one_less : (m : Master) (new : List Sent) (tablet after : ℕ → Tablet) (slots : List ℕ) (p : Progress) (slot : ℕ) → AllOn m new tablet after → Unfinished m p → In slot slots → SlotLess m.sent new tablet after p.id p.listed slot
    → left_with m new after slots < events_left_in m tablet slots
one_less m new tablet after slots p slot all (OfSnapshot r kept still is) isin less =
    let mine = round_less m.sent new tablet after r.id r.listed slots slot (all.each (snapshot_progress r) (OfSnapshot r kept still refl)) isin (subst (λ q. SlotLess m.sent new tablet after q.id q.listed slot) (sym is) less) in
    let a = total_less (snapshot_left new after slots) (snapshot_left m.sent tablet slots) m.snapshots 1 r (snapshots_on m new tablet after slots all) kept (unfinished_less r.complete (1 + round_left new after r.id r.listed slots) (1 + round_left m.sent tablet r.id r.listed slots) still (omega (arith, mine))) in
    let b = total_most (restoration_left new after slots) (restoration_left m.sent tablet slots) m.restorations (restorations_on m new tablet after slots all) in
    let c = total_most (clone_left new after slots) (clone_left m.sent tablet slots) m.clones (clones_on m new tablet after slots all) in
    omega (arith, a, b, c)
one_less m new tablet after slots p slot all (OfRestoration r kept still is) isin less =
    let mine = round_less m.sent new tablet after r.id r.listed slots slot (all.each (restoration_progress m r) (OfRestoration r kept still refl)) isin (subst (λ q. SlotLess m.sent new tablet after q.id q.listed slot) (sym is) less) in
    let a = total_most (snapshot_left new after slots) (snapshot_left m.sent tablet slots) m.snapshots (snapshots_on m new tablet after slots all) in
    let b = total_less (restoration_left new after slots) (restoration_left m.sent tablet slots) m.restorations 1 r (restorations_on m new tablet after slots all) kept (unfinished_less (is_restored r.state) _ _ still (added_less (restoration_moves r.state + 4 * length slots * restoration_rounds r.state) _ _ mine)) in
    let c = total_most (clone_left new after slots) (clone_left m.sent tablet slots) m.clones (clones_on m new tablet after slots all) in
    omega (arith, a, b, c)
one_less m new tablet after slots p slot all (OfClone r kept still is) isin less =
    let mine = round_less m.sent new tablet after r.id r.listed slots slot (all.each (clone_progress m r) (OfClone r kept still refl)) isin (subst (λ q. SlotLess m.sent new tablet after q.id q.listed slot) (sym is) less) in
    let a = total_most (snapshot_left new after slots) (snapshot_left m.sent tablet slots) m.snapshots (snapshots_on m new tablet after slots all) in
    let b = total_most (restoration_left new after slots) (restoration_left m.sent tablet slots) m.restorations (restorations_on m new tablet after slots all) in
    let c = total_less (clone_left new after slots) (clone_left m.sent tablet slots) m.clones 1 r (clones_on m new tablet after slots all) kept (unfinished_less (is_cloned r.state) _ _ still (added_less (clone_moves r.state + 4 * length slots * clone_rounds r.state) _ _ mine)) in
    omega (arith, a, b, c)
