-- A clone has its target's tablets copy the rows of the snapshot that serves its time; where none does, it makes one first.
use Rattle.std.proofs.Common.{ℕ, ◌≡◌, ◌≤◌, ◌<◌, ◌+◌, List, [], ◌∷◌, Option, Some, None, Bool, true, false, cond, ◌&&◌, ◌||◌, inl, inr, refl, sym, ap, subst, ◌∙◌, arith, leb, le_refl, le_trans, le_of_lt}
use Rattle.std.specs.Option.{unwrap_or, is_some}
use Rattle.std.proofs.lemmas.Bool.{true≢false}
use Rattle.std.proofs.lemmas.Bool.Decides.{nat_tests}
use Rattle.model.specs.Cluster.{Id, same, In, before_end, Interval, owner_of, Tablet, Copy, Release, CopyKind, FreezeKind, is_serving, is_done, Listed, Schedule, SnapshotRecord, TabletPair, CloneRecord, CloneState, Accepted, CloneSnapshot, Copying, is_visible, unfinished_of, Master, Parts}
use Rattle.model.specs.Journal.{Change as Made}
use Rattle.model.specs.Lists.{next_snapshot, new_snapshot, with_snapshot}
use Rattle.model.specs.Schedules.{serving}
use Rattle.model.specs.Moves.{clone_enters, with_clones_snapshot, copies, begins_clone, id_of_snapshot, serving_clone, awaited_by_clone, incomplete, is_complete}
use Rattle.law_store.proofs.Keys.{either_way}
use Rattle.law_invariants.specs.Operations.{IsCopied, CloneStateGood}
use Rattle.law_invariants.specs.Orders.{ClonePlace, CloneSlot, ReservedSlot, stage_of_clone}
use Rattle.law_invariants.specs.Invariant.{Inv}
use Rattle.law_invariants.proofs.Finding.{none_or_some, both_pass, same_equal, in_mapped, map_in, in_second}
use Rattle.law_invariants.proofs.Slots.{done_mark, records_keep}
use Rattle.law_invariants.proofs.Recording.{recorded}
use Rattle.law_invariants.proofs.Taking.{MayTake, taken, taken_onto}
use Rattle.law_invariants.proofs.Using.{one_snapshot}
use Rattle.law_clones.proofs.Entering.{Step, Enters, entering_keeps, from_one}
use Rattle.law_clones.proofs.Serving.{clone_scheduled, clone_served}
use Rattle.law_invariants.proofs.Serving.{serving_some}
use Rattle.law_clones.proofs.Advancing.{MayMove, MovedKeeps, ticked_keeps}

-- a state before the copies
abbrev pub is_early : CloneState → Bool
is_early Accepted = true
is_early (CloneSnapshot own) = true
is_early _ = false

early_dark : (state : CloneState) → is_early state ≡ true → false ≡ is_visible state
early_dark Accepted e = refl
early_dark (CloneSnapshot own) e = refl
early_dark _ e = absurd (true≢false (sym e))

early_still : (state : CloneState) (serving : Id) (at : ℕ) → is_early state ≡ true → state ≡ Copying serving at → ⊥
early_still state serving at e is = true≢false (sym e ∙ ap is_early is)

early_stage : (state : CloneState) → is_early state ≡ true → stage_of_clone state ≡ 0
early_stage Accepted e = refl
early_stage (CloneSnapshot own) e = refl
early_stage _ e = absurd (true≢false (sym e))

early_place : (state : CloneState) (r : CloneRecord) (slot : ℕ) (done : _) → is_early state ≡ true → ClonePlace state r slot done → ⊥
early_place Accepted r slot done e h = h
early_place (CloneSnapshot own) r slot done e h = h
early_place _ r slot done e h = absurd (true≢false (sym e))

early_slot : (state : CloneState) (m : Master) (changes : List Made) (r : CloneRecord) (slot : ℕ) (t : Tablet) → is_early state ≡ true → CloneSlot state m changes r slot t → ReservedSlot r slot t
early_slot Accepted m changes r slot t e h = h
early_slot (CloneSnapshot own) m changes r slot t e h = h
early_slot _ m changes r slot t e h = absurd (true≢false (sym e))

-- a tablet of the namespace of a complete snapshot that takes writes stamps only later ones
pub past_snapshot : (ps : Parts) (activity : List Interval) (changes : List Made) (slot : ℕ) (s : SnapshotRecord) → Inv ps activity changes → In s ps.master.snapshots → s.complete ≡ true → is_serving (ps.tablet slot).presence ≡ true
    → (ps.tablet slot).fence ≡ None → owner_of ps.master.catalog.owners (ps.tablet slot).table ≡ Some s.namespace → s.at ≤ (ps.tablet slot).clock
past_snapshot ps activity changes slot s inv kept complete serves unfenced owner =
    let t = ps.tablet slot in
    let o = (inv.slots slot).opens serves unfenced in
    let i = o.interval in
    let g = (inv.slots slot).each i o.listed o.slot_is in
    let h = inv.operations.snapshots s kept in
    either_way (leb i.from s.at)
    (λ b.
    let open_ : before_end (s.after + 1) i.to ≡ true = ap (before_end (s.after + 1)) o.opened in
    let line = h.lists i o.listed (ap (owner_of ps.master.catalog.owners) (sym g.table_is) ∙ owner) (rw b open_) in
    let done = (inv.works slot).obeyed.snapshots s line.line kept line.listed (line.slot_is ∙ o.slot_is) (ap (λ c. c || line.line.acked) complete) (g.tablet_is ∙ sym line.tablet_is) g.present in
    let mark = done_mark t.done s.id FreezeKind done in
    le_of_lt (((inv.works slot).orders.marks mark.0 mark.1.0).after.snapshot s kept (sym mark.1.1)))
    (λ b. let begun = o.begun in let late : s.at < i.from = (grind (arith, nat_tests)) in omega arith)

copies_of : (r : CloneRecord) (snapshot : Id) (n : ℕ) (P : Listed → Type 0)
    → ((p : TabletPair) → In p r.tablets → P (record { tablet = p.target; slot = p.slot; body = Copy p.source_slot snapshot r.to n p.table p.low p.high 1; acked = false })) → (l : Listed) → In l (copies snapshot r.to n r.tablets) → P l
copies_of r snapshot n P go l isin = in_mapped {A = TabletPair} {B = Listed} (λ p. record { tablet = p.target; slot = p.slot; body = Copy p.source_slot snapshot r.to n p.table p.low p.high 1; acked = false }) P r.tablets go l isin

copying_keeps : (ps : Parts) (activity : List Interval) (changes : List Made) (n : ℕ) (r : CloneRecord) (s : SnapshotRecord) → ps.master.clock < n → is_early r.state ≡ true → MayMove ps.master r → serving_clone ps.master r ≡ Some s → Inv ps activity changes
    → Inv (record { master = clone_enters r (Copying s.id n) (copies s.id r.to n r.tablets) n ps.master; tablet = ps.tablet }) activity changes
copying_keeps ps activity changes n r s before early may served inv =
    let m = ps.master in
    let q : Parts = record { master = record m { clock = n }; tablet = ps.tablet } in
    let v : Step = record { clone = r; state = Copying s.id n; listed = copies s.id r.to n r.tablets } in
    let h = ticked_keeps ps activity changes n (le_of_lt before) inv in
    let c = inv.operations.clones r may.kept in
    let serves = clone_served m changes r s inv.operations may.kept may.unfinished served in
    let w : Enters q changes v = record {
      steps = record {
        kept = may.kept;
        kind_is = c.kind_is;
        unfinished = may.unfinished;
        acked = may.acked;
        seen = λ dark. sym (early_dark r.state early);
        stage = subst (λ x. x ≤ 1) (sym (early_stage r.state early)) (omega arith);
        copied = λ at is. inr (early_stage r.state early);
        released = λ l at. copies_of r s.id n (λ l. l.body ≡ Release at → stage_of_clone r.state ≤ 1) (λ p paired body. absurd (let k = body in grind arith)) l;
      };
      still = λ serving at is. early_still r.state serving at early is;
      drawn_listed = copies_of r s.id n (λ l. l.tablet.number ≤ m.drawn.tablets) (λ p paired. (c.pairs p paired).drawn);
      in_state = record {
        begun = le_refl _;
        later = (let l = c.past in omega arith);
        serves = record {
          serving = serves.serving;
          kept = serves.kept;
          id_is = serves.id_is;
          complete = serves.complete;
          namespace_is = serves.namespace_is;
          after = serves.after;
          reaches = serves.reaches;
        };
        bodies = copies_of r s.id n (IsCopied _ s.id n) (λ p paired. record { pair = p; paired = paired; tablet_is = refl; slot_is = refl; body_is = refl });
        all = λ p paired. (_, (map_in {A = TabletPair} {B = Listed} (λ p. record { tablet = p.target; slot = p.slot; body = Copy p.source_slot s.id r.to n p.table p.low p.high 1; acked = false }) r.tablets p paired, (refl, refl)));
      };
      slots = λ slot. (let t = ps.tablet slot in record {
        acked = λ l isin is. copies_of r s.id n (λ l. l.acked ≡ true → is_done t.done r.id CopyKind ≡ true) (λ p paired e. absurd (true≢false (sym e))) l isin;
        empty = λ p paired is undone. (early_slot r.state m changes r slot t early ((inv.works slot).obeyed.clones r may.kept)).empty p paired is;
        copied = λ p paired is done. absurd (
            let mark = done_mark t.done r.id CopyKind done in
            from_one mark.0.kind (stage_of_clone r.state) (((inv.works slot).orders.marks mark.0 mark.1.0).by_clone r may.kept (sym mark.1.1)) (early_stage r.state early));
        later = λ serving unfenced owner. le_trans serves.reaches
            (past_snapshot ps activity changes slot serves.serving inv serves.kept serves.complete serving unfenced (owner ∙ ap Some (sym serves.namespace_is)));
      });
      place = λ slot place. absurd (early_place r.state r slot (ps.tablet slot).done early place);
    } in
    entering_keeps q activity changes v w h

-- its own snapshot

own_keeps : (ps : Parts) (activity : List Interval) (changes : List Made) (n : ℕ) (r : CloneRecord) (s : Schedule) → ps.master.clock < n → r.state ≡ Accepted → MayMove ps.master r → In s ps.master.schedules → s.namespace ≡ r.source
    → unfinished_of ps.master.snapshots r.source ≡ None → Inv ps activity changes
    → Inv (record { master = clone_enters r (CloneSnapshot (next_snapshot ps.master)) [] n (with_snapshot r.source s.id n ps.master); tablet = ps.tablet }) activity changes
own_keeps ps activity changes n r s before e may there of calm inv =
    let m = ps.master in
    let ops = inv.operations in
    let c = ops.clones r may.kept in
    let k = (ops.schedules s there).scheduled in
    let take : MayTake m r.source s.id = record {
      scheduled = (k.0, (k.1.0, k.1.1.0 ∙ of));
      calm = calm;
      early = λ k point isin unfinished at is. ops.apart.one_operation k r isin may.kept unfinished may.unfinished (inl is);
    } in
    let own = taken r.source s.id n m in
    let h = records_keep ps activity changes own (taken_onto ps activity changes n r.source s.id before take inv) inv in
    let q : Parts = record { master = recorded m own; tablet = ps.tablet } in
    let v : Step = record { clone = r; state = CloneSnapshot (next_snapshot m); listed = [] } in
    let w : Enters q changes v = record {
      steps = record {
        kept = may.kept;
        kind_is = c.kind_is;
        unfinished = may.unfinished;
        acked = may.acked;
        seen = λ dark. ap is_visible e;
        stage = subst (λ x. x ≤ 0) (sym (early_stage r.state (ap is_early e))) (le_refl _);
        copied = λ at is. (let k : None ≡ Some at = is in grind arith);
        released = λ l at isin body. absurd isin;
      };
      still = λ serving at is. early_still r.state serving at (ap is_early e) is;
      drawn_listed = λ l isin. absurd isin;
      in_state = record {
        empty = refl;
        snapshot = new_snapshot m r.source s.id n;
        kept = in_second m.snapshots (new_snapshot m r.source s.id n ∷ []) _ (inl refl);
        id_is = refl;
        namespace_is = refl;
        reaches = (let l = c.past in omega arith);
      };
      slots = λ slot. (let g = early_slot r.state m changes r slot (ps.tablet slot) (ap is_early e) ((inv.works slot).obeyed.clones r may.kept) in record { empty = g.empty });
      place = λ slot place. absurd (early_place r.state r slot (ps.tablet slot).done (ap is_early e) place);
    } in
    entering_keeps q activity changes v w h

-- The moves

beginning : (o : Option SnapshotRecord) (ps : Parts) (activity : List Interval) (changes : List Made) (n : ℕ) (r : CloneRecord) → serving_clone ps.master r ≡ o → ps.master.clock < n → r.state ≡ Accepted → MayMove ps.master r → Inv ps activity changes
    → Inv (record { master = begins_clone o r n ps.master; tablet = ps.tablet }) (begins_clone o r n (record ps.master { activity = activity })).activity changes
beginning (Some s) ps activity changes n r served before e may inv = copying_keeps ps activity changes n r s before (ap is_early e) may served inv
beginning None ps activity changes n r none before e may inv =
    let m = ps.master in
    let k = clone_scheduled m changes r inv.operations may.kept may.unfinished in
    let waits : awaited_by_clone r.state m r ≡ unfinished_of m.snapshots r.source =
    ap (λ state. awaited_by_clone state m r) e ∙ ap (λ o. cond (is_some o) None (unfinished_of m.snapshots r.source)) none in
    subst (λ o. Inv (record { master = clone_enters r (CloneSnapshot (next_snapshot m)) [] n (with_clones_snapshot o r n m); tablet = ps.tablet })
    (clone_enters r (CloneSnapshot (next_snapshot m)) [] n (with_clones_snapshot o r n (record m { activity = activity }))).activity changes) (sym k.1.0)
    (own_keeps ps activity changes n r k.0 before e may k.1.1.0 k.1.1.1 (sym waits ∙ may.unawaited) inv)

pub accepted_moves : (ps : Parts) (activity : List Interval) (changes : List Made) (n : ℕ) (r : CloneRecord) → ps.master.clock < n → r.state ≡ Accepted → MayMove ps.master r → Inv ps activity changes → MovedKeeps Accepted ps activity changes n r
accepted_moves ps activity changes n r before e may inv = beginning (serving_clone ps.master r) ps activity changes n r refl before e may inv

complete_is : (rs : List SnapshotRecord) (id : Id) → is_complete rs id ≡ true → (q : SnapshotRecord) × (In q rs × ((q.id ≡ id) × (q.complete ≡ true)))
complete_is [] id e = absurd (true≢false (sym e))
complete_is (r ∷ rs) id e = either_way (same r.id id && r.complete)
    (λ b. let t = both_pass (same r.id id) r.complete b in (r, (inl refl, (same_equal r.id id t.0, t.1))))
    (λ b. let k : is_complete rs id ≡ true = rw b at e in let h = complete_is rs id k in (h.0, (inr h.1.0, h.1.1)))

-- where its own snapshot is complete, one serves its time
own_serves : (ps : Parts) (activity : List Interval) (changes : List Made) (r : CloneRecord) (own : Id) → r.state ≡ CloneSnapshot own → MayMove ps.master r → Inv ps activity changes → serving_clone ps.master r ≡ None → ⊥
own_serves ps activity changes r own e may inv none =
    let m = ps.master in
    let ops = inv.operations in
    let waits : incomplete m.snapshots own ≡ None = ap (λ state. awaited_by_clone state m r) (sym e) ∙ may.unawaited in
    let over : is_complete m.snapshots own ≡ true = either_way (is_complete m.snapshots own) (λ b. b) (λ b. absurd (let k : Some own ≡ None = rw b at waits in grind arith)) in
    let q = complete_is m.snapshots own over in
    let g = subst (λ state. CloneStateGood state m r) e (ops.clones r may.kept).in_state in
    let one : q.0 ≡ g.snapshot = one_snapshot m.snapshots q.0 g.snapshot ops.apart.snapshots_rise q.1.0 g.kept (q.1.1.0 ∙ sym g.id_is) in
    let found = serving_some m.snapshots r.source r.to g.snapshot g.kept (record { namespace_is = g.namespace_is; complete = ap (λ x. x.complete) (sym one) ∙ q.1.1.1; reaches = g.reaches }) in
    let no : Some found.0 ≡ None = sym found.1 ∙ none in grind arith

pub snapshot_moves : (ps : Parts) (activity : List Interval) (changes : List Made) (n : ℕ) (r : CloneRecord) (own : Id) → ps.master.clock < n → r.state ≡ CloneSnapshot own → MayMove ps.master r → Inv ps activity changes
    → MovedKeeps (CloneSnapshot own) ps activity changes n r
snapshot_moves ps activity changes n r own before e may inv =
    let m = ps.master in
    none_or_some (serving_clone m r)
    (λ none. absurd (own_serves ps activity changes r own e may inv none))
    (λ s some. subst (λ o. Inv (record { master = clone_enters r (Copying (unwrap_or (id_of_snapshot o) own) n) (copies (unwrap_or (id_of_snapshot o) own) r.to n r.tablets) n m; tablet = ps.tablet }) activity changes) (sym some)
    (copying_keeps ps activity changes n r s before (ap is_early e) may some inv))
