-- A tablet that does the first command of its inbox keeps what holds.
use Rattle.std.proofs.Common.{ℕ, ◌≡◌, ◌≤◌, List, [], ◌∷◌, Bool, true, false, inl, refl, sym, subst, arith, not, eqb, eqb-true}
use Rattle.std.specs.Option.{option_map}
use Rattle.std.proofs.lemmas.Bool.{true≢false}
use Rattle.std.proofs.lemmas.Bool.Decides.{nat_tests}
use Rattle.model.specs.Cluster.{Id, In, Interval, Process, Idle, OtherSlot, Done, Master, Parts, If}
use Rattle.model.specs.Journal.{Change}
use Rattle.model.specs.Tablets.{Tablet, Command, Body, Fence, Freeze, RestoreFrom, Hide, Copy, Release, kind_of, processed, set_of}
use Rattle.model.specs.Coordination.{source_slot, rows_for, processing, process}
use Rattle.model.specs.Entries.{slots_of}
use Rattle.model.specs.Retained.{FindsRows, ReachesBack, RowsFound, from_set}
use Rattle.law_invariants.specs.Invariant.{SlotGood, SlotWorks, Inv, Later}
use Rattle.law_invariants.proofs.Ticking.{refused_keeps, by_checks, KeepsAll}
use Rattle.law_invariants.proofs.Frame.{one_told, rows_told, touched, tells}
use Rattle.law_invariants.proofs.Told.{clock_before, has_it}
use Rattle.law_invariants.proofs.Commanded.{IsPending, pending_is}
use Rattle.law_commands.proofs.Held.{Does, HoldsOf}
use Rattle.law_commands.proofs.Fencing.{fence_done}
use Rattle.law_commands.proofs.Freezing.{freeze_done}
use Rattle.law_commands.proofs.Releasing.{release_done}
use Rattle.law_commands.proofs.Hiding.{hide_done}
use Rattle.law_commands.proofs.Restores.{restore_done}
use Rattle.law_commands.proofs.Copies.{IsPart, copy_done}
use Rattle.model.specs.Tablets as tell

not_false : (b : Bool) → not b ≡ false → b ≡ true
not_false true e = refl
not_false false e = absurd (true≢false e)

body_done : (b : Body) (m : Master) (changes : List Change) (tablets : ℕ → Tablet) (slot other n : ℕ) (operation tablet : Id) (cs : List Command)
    → other ≡ source_slot slot b → FindsRows b (tablets (source_slot slot b)).frozen → IsPart m changes other (tablets other) → Does m changes slot n (tablets slot) operation tablet b cs
    → IsPending m operation slot (record { tablet = tablet; slot = slot; body = b; acked = false })
    → HoldsOf m changes slot (processed (record { operation = operation; tablet = tablet; body = b } ∷ cs) (rows_for b (tablets other).frozen) n (tablets slot))
body_done Fence m changes tablets slot other n operation tablet cs at finds part d p = fence_done m changes slot n (tablets slot) operation tablet cs [] d p
body_done (Freeze snapshot at_) m changes tablets slot other n operation tablet cs at finds part d p = freeze_done m changes slot n (tablets slot) operation tablet snapshot at_ cs [] d p
body_done (Release cutoff) m changes tablets slot other n operation tablet cs at finds part d p = release_done m changes slot n (tablets slot) operation tablet cutoff cs [] d p
body_done (Hide ended) m changes tablets slot other n operation tablet cs at finds part d p = hide_done m changes slot n (tablets slot) operation tablet ended cs [] d p
body_done (RestoreFrom snapshot to point version) m changes tablets slot other n operation tablet cs at finds part d p =
    restore_done m changes slot n (tablets slot) operation tablet snapshot to point version cs [] finds d p
body_done (Copy source snapshot to stamp table low high version) m changes tablets slot other n operation tablet cs at finds part d p =
    copy_done m changes slot n (tablets slot) (tablets other) operation tablet source snapshot to stamp table low high version cs (subst (λ s. IsPart m changes s (tablets other)) at part)
    (subst (λ s. ReachesBack (option_map from_set (set_of (tablets s).frozen snapshot)) to) (sym at) finds) d p

pub first_touched : (slot other : ℕ) → 1 ≤ slot → touched (Process slot other) slot ≡ true
first_touched slot other from = grind (arith, nat_tests)

process_of : (inbox : List Command) (ps : Parts) (activity : List Interval) (changes : List Change) (n slot other : ℕ) → (ps.tablet slot).inbox ≡ inbox → Later (slots_of (Process slot other)) ps n → 1 ≤ slot → RowsFound ps → Inv ps activity changes
    → KeepsAll (Process slot other) n ps activity changes (processing inbox slot other (ps.tablet other))
process_of [] ps activity changes n slot other e later from found inv = refused_keeps (Process slot other) Idle n ps activity changes later inv refl
process_of (c ∷ cs) ps activity changes n slot other e later from found inv =
    let m = ps.master in
    let t = ps.tablet slot in
    let act = Process slot other in
    let frozen = (ps.tablet other).frozen in
    let rows = rows_for c.body frozen in
    let reply = Done c.operation (kind_of c.body) in
    let lies : In c (ps.tablet slot).inbox = subst (In c) (sym e) (inl refl) in
    let order = (inv.works slot).orders.orders c lies in
    let pends = pending_is m c.operation slot _ order.is_pending in
    let d : Does m changes slot n t c.operation c.tablet c.body cs = record {
      master = inv.master;
      operations = inv.operations;
      good = inv.slots slot;
      works = inv.works slot;
      before = clock_before (slot ∷ other ∷ []) ps n slot later from (has_it slot (other ∷ []));
      inbox = e;
      pends = pends;
      after = order.after;
    } in
    by_checks act n ps activity changes (If (not (eqb other (source_slot slot c.body))) (OtherSlot (source_slot slot c.body)) ∷ []) (tells slot (tell.Process rows) reply)
    (λ why. refused_keeps act why n ps activity changes later inv refl)
    (λ passes.
    let at : other ≡ source_slot slot c.body = eqb-true other (source_slot slot c.body) (not_false _ passes.0) in
    let h = body_done c.body m changes ps.tablet slot other n c.operation c.tablet cs at (found slot c lies) (record { good = inv.slots other; works = inv.works other }) d pends in
    one_told act reply slot (tell.Process rows) n ps activity changes later (first_touched slot other from) inv.master (λ i apart. inv.slots i)
    (subst (λ q. SlotGood m changes slot (processed q rows n t)) (sym e) h.good)
    inv.operations inv.journal (rows_told act reply slot (tell.Process rows) n ps changes later inv.rows_past) (λ i apart. inv.works i)
    (subst (λ q. SlotWorks m changes slot (processed q rows n t)) (sym e) h.works)
    inv.remembered inv.cover)

pub process_keeps : (ps : Parts) (activity : List Interval) (changes : List Change) (n slot other : ℕ) → Later (slots_of (Process slot other)) ps n → 1 ≤ slot → RowsFound ps → Inv ps activity changes
    → KeepsAll (Process slot other) n ps activity changes (process slot other n ps)
unfolding process
process_keeps ps activity changes n slot other later from found inv = process_of (ps.tablet slot).inbox ps activity changes n slot other refl later from found inv
