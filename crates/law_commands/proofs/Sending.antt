-- A command that is sent keeps what holds: it is pending, and the tablet's clock is after the entry of its record's state.
use Rattle.std.proofs.Common.{ℕ, ◌≡◌, ◌≤◌, List, [], ◌∷◌, ◌++◌, Option, Some, None, Bool, true, false, cond, ◌||◌, inl, inr, refl, sym, ap, subst, ◌∙◌, arith, le_refl, le_trans, le_of_lt}
use Rattle.std.proofs.lemmas.Bool.{cond_both, true≢false}
use Rattle.std.proofs.lemmas.Bool.Decides.{nat_tests}
use Rattle.model.specs.Cluster.{Id, In, Interval, Listed, Sent, is_sent, Send, SentTo, NotPending, Master, Parts}
use Rattle.model.specs.Journal.{Change}
use Rattle.model.specs.Tablets.{Tablet, Command, Offer, offered, kind_of, is_done, holds_command}
use Rattle.model.specs.Stands.{NoneTwice}
use Rattle.model.specs.Coordination.{pending, command_for, sending, send, sent_to}
use Rattle.model.specs.Entries.{slots_of}
use Rattle.law_store.proofs.Keys.{either_way}
use Rattle.law_invariants.specs.Invariant.{SlotGood, SlotWorks, Inv, Later}
use Rattle.law_invariants.specs.Operations.{IsSent, OperationsGood}
use Rattle.law_invariants.specs.Orders.{IsOrder, OrdersGood}
use Rattle.law_invariants.proofs.Finding.{in_append, in_added}
use Rattle.law_invariants.proofs.Ticking.{refused_keeps, KeepsAll, master_before, master_ticked, slot_ticked, tablet_before, tablet_ticked}
use Rattle.law_invariants.proofs.Frame.{master_marked, inbox_changed, touched, slot_told}
use Rattle.law_invariants.proofs.Remembering.{FloorsHold, remembered_on, floor_rises}
use Rattle.law_invariants.proofs.Operating.{operations_sent}
use Rattle.law_invariants.proofs.Ordering.{rows_same, orders_on, obeyed_on, order_later, mark_later, obeyed_mild}
use Rattle.law_invariants.proofs.Undoing.{same_rows, journal_on}
use Rattle.law_invariants.proofs.Working.{tables_drawn, all_listed, same_fixed, onward_ticked, work_later}
use Rattle.law_invariants.proofs.Hearing.{clocks_rise, rows_on}
use Rattle.law_invariants.proofs.Told.{clock_before, has_second}
use Rattle.law_invariants.proofs.DoneMarks.{command_there, command_held}
use Rattle.law_invariants.proofs.Commanded.{IsPending, BySnapshot, ByRestoration, ByClone, pending_is, pending_line, after_pending}

orders_inbox : (m : Master) (slot : ℕ) (t : Tablet) (n : ℕ) (inbox : List Command) → t.clock ≤ n → ((c : Command) → In c inbox → IsOrder m slot n c) → NoneTwice inbox
    → ((c : Command) → In c inbox → is_done t.done c.operation (kind_of c.body) ≡ false) → OrdersGood m slot t → OrdersGood m slot (record t { clock = n; inbox = inbox })
orders_inbox m slot t n inbox le orders once fresh h = record {
  fences = h.fences;
  orders = orders;
  once = once;
  fresh = fresh;
  marks = λ mark isin. mark_later m t.clock n mark le (h.marks mark isin);
  holds = λ r isin did. (let f = h.holds r isin did in record { set = f.set; held = f.held; time = f.time; inside = f.inside });
  frozen = h.frozen;
  sets = h.sets;
  bare = λ vacant. (let b = h.bare vacant in record { frozen = b.frozen; fence = b.fence; done = b.done });
}

-- a command that an inbox doesn't hold goes behind the others
none_twice : (cs : List Command) (c : Command) → NoneTwice cs → holds_command cs c.operation (kind_of c.body) ≡ false → NoneTwice (cs ++ c ∷ [])
none_twice [] c h e = (refl, tt)
none_twice (d ∷ ds) c h e = (
  either_way (holds_command (ds ++ c ∷ []) d.operation (kind_of d.body))
      (λ b. let k = command_there (ds ++ c ∷ []) d.operation (kind_of d.body) b in
      absurd (elim (in_append ds (c ∷ []) k.0 k.1.0) as (λ _. ⊥) [
        | inl old ↦ true≢false (sym (command_held ds k.0 d.operation (kind_of d.body) old k.1.1.0 k.1.1.1) ∙ h.0)
        | inr new ↦ true≢false (sym (command_held (d ∷ ds) d c.operation (kind_of c.body) (inl refl) (sym k.1.1.0 ∙ sym (one ds c k.0 new)) (sym k.1.1.1 ∙ sym (kind_one ds c k.0 new))) ∙ e)
      ]))
      (λ b. b),
  none_twice ds c h.1 (rest_free d ds c e),
)
  where
    one : (ds : List Command) (c k : Command) → In k (c ∷ []) → c.operation ≡ k.operation
    one ds c k (inl e) = ap (λ q. q.operation) e
    one ds c k (inr e) = absurd e

    kind_one : (ds : List Command) (c k : Command) → In k (c ∷ []) → kind_of c.body ≡ kind_of k.body
    kind_one ds c k (inl e) = ap (λ q. kind_of q.body) e
    kind_one ds c k (inr e) = absurd e

    rest_free : (d : Command) (ds : List Command) (c : Command) → holds_command (d ∷ ds) c.operation (kind_of c.body) ≡ false → holds_command ds c.operation (kind_of c.body) ≡ false
    rest_free d ds c e = either_way (holds_command ds c.operation (kind_of c.body))
        (λ b. let k = command_there ds c.operation (kind_of c.body) b in
        absurd (true≢false (sym (command_held (d ∷ ds) k.0 c.operation (kind_of c.body) (inr k.1.0) k.1.1.0 k.1.1.1) ∙ e)))
        (λ b. b)

order_one : (m : Master) (slot n : ℕ) (c d : Command) → IsOrder m slot n c → In d (c ∷ []) → IsOrder m slot n d
order_one m slot n c d h (inl e) = subst (IsOrder m slot n) e h
order_one m slot n c d h (inr e) = absurd e

fresh_one : (t : Tablet) (c d : Command) → is_done t.done c.operation (kind_of c.body) ≡ false → In d (c ∷ []) → is_done t.done d.operation (kind_of d.body) ≡ false
fresh_one t c d h (inl e) = subst (λ q. is_done t.done q.operation (kind_of q.body) ≡ false) e h
fresh_one t c d h (inr e) = absurd e

orders_offered : (m : Master) (slot : ℕ) (t : Tablet) (n : ℕ) (c : Command) → t.clock ≤ n → IsOrder m slot n c → OrdersGood m slot t → OrdersGood m slot (offered c n t)
orders_offered m slot t n c le order h = cond_both (is_done t.done c.operation (kind_of c.body) || holds_command t.inbox c.operation (kind_of c.body)) t.inbox (t.inbox ++ c ∷ [])
    (λ inbox. OrdersGood m slot (record t { clock = n; inbox = inbox }))
    (λ given. orders_inbox m slot t n t.inbox le (λ d isin. order_later m slot t.clock n d le (h.orders d isin)) h.once h.fresh h)
    (λ new. let e = neither (is_done t.done c.operation (kind_of c.body)) (holds_command t.inbox c.operation (kind_of c.body)) new in
    orders_inbox m slot t n (t.inbox ++ c ∷ []) le
    (λ d isin. elim (in_append t.inbox (c ∷ []) d isin) as (λ _. IsOrder m slot n d) [ inl old ↦ order_later m slot t.clock n d le (h.orders d old) | inr is ↦ order_one m slot n c d order is ])
    (none_twice t.inbox c h.once e.1)
    (λ d isin. elim (in_append t.inbox (c ∷ []) d isin) as (λ _. is_done t.done d.operation (kind_of d.body) ≡ false) [ inl old ↦ h.fresh d old | inr is ↦ fresh_one t c d e.0 is ])
    h)
  where
    neither : (a b : Bool) → (a || b) ≡ false → (a ≡ false) × (b ≡ false)
    neither true b e = absurd (true≢false e)
    neither false b e = (refl, e)

pub offered_works : (m : Master) (changes : List Change) (slot : ℕ) (t : Tablet) (n : ℕ) (c : Command) → t.clock ≤ n → IsOrder m slot n c → SlotWorks m changes slot t → SlotWorks m changes slot (offered c n t)
offered_works m changes slot t n c le order h = record {
  orders = orders_offered m slot t n c le order h.orders;
  obeyed = obeyed_mild m changes slot t n t.version t.versions t.cutoff (offered c n t).inbox le (rows_same t) (λ r l point serving isin is lists at e. e) h.obeyed;
}

-- The act

lists_slot : (m : Master) (operation : Id) (slot : ℕ) (l : Listed) → IsPending m operation slot l → IsSent m.snapshots m.restorations m.clones (record { operation = operation; slot = slot })
lists_slot m operation slot l (BySnapshot k) = inl (k.snapshot, (k.kept, (k.id_is, k.unfinished, (l, (k.line.listed, k.line.slot_is)))))
lists_slot m operation slot l (ByRestoration k) = inr (inl (k.restoration, (k.kept, (k.id_is, k.unfinished, (l, (k.line.listed, k.line.slot_is))))))
lists_slot m operation slot l (ByClone k) = inr (inr (k.clone, (k.kept, (k.id_is, k.unfinished, (l, (k.line.listed, k.line.slot_is))))))

-- one more sent mark is that of the pending command
marks_sent : (m : Master) (changes : List Change) (operation : Id) (slot : ℕ) (l : Listed) (mark : Sent) → IsPending m operation slot l → OperationsGood m changes
    → In mark (cond (is_sent m.sent operation slot) m.sent (m.sent ++ record { operation = operation; slot = slot } ∷ [])) → IsSent m.snapshots m.restorations m.clones mark
marks_sent m changes operation slot l mark p ops = cond_both (is_sent m.sent operation slot) m.sent (m.sent ++ record { operation = operation; slot = slot } ∷ [])
    (λ marks. In mark marks → IsSent m.snapshots m.restorations m.clones mark)
    (λ there isin. ops.sent mark isin)
    (λ new isin. in_added (IsSent m.snapshots m.restorations m.clones) m.sent (record { operation = operation; slot = slot }) ops.sent (lists_slot m operation slot l p) mark isin)

second_sent : (operation : Id) (slot : ℕ) → 1 ≤ slot → touched (Send operation slot) slot ≡ true
second_sent operation slot from = grind (arith, nat_tests)

is_line : (l : Listed) (slot : ℕ) → l.slot ≡ slot → l.acked ≡ false → l ≡ record { tablet = l.tablet; slot = slot; body = l.body; acked = false }
is_line l slot at unacked = ap (λ s. record { tablet = l.tablet; slot = s; body = l.body; acked = l.acked }) at ∙ ap (λ a. record { tablet = l.tablet; slot = slot; body = l.body; acked = a }) unacked

sent_by : (found : Option Listed) (ps : Parts) (activity : List Interval) (changes : List Change) (n : ℕ) (operation : Id) (slot : ℕ) → pending ps.master operation slot ≡ found → Later (slots_of (Send operation slot)) ps n → 1 ≤ slot
    → Inv ps activity changes → KeepsAll (Send operation slot) n ps activity changes (sending found operation slot)
sent_by None ps activity changes n operation slot e later from inv = refused_keeps (Send operation slot) (NotPending operation) n ps activity changes later inv refl
sent_by (Some l) ps activity changes n operation slot e later from inv =
    let m = ps.master in
    let t = ps.tablet slot in
    let act = Send operation slot in
    let s = (sent_to operation slot n m).sent in
    let c = command_for operation l in
    let early : m.clock ≤ n = master_before (slots_of act) ps n later refl in
    let before : t.clock ≤ n = le_of_lt (clock_before (0 ∷ slot ∷ []) ps n slot later from (has_second slot)) in
    let p = pending_is m operation slot l e in
    let line = pending_line m operation slot l p in
    let order : IsOrder m slot n c = record {
      is_pending = e ∙ ap Some (is_line l slot line.0 line.1);
      after = after_pending m changes operation slot n l (kind_of l.body) inv.operations (later 0 refl) p;
    } in
    let o = onward_ticked m n changes changes early (tables_drawn m activity inv.remembered) (same_fixed changes) in
    let floors : FloorsHold m (record m { clock = n; sent = s }) = record { clock = early; schedules = refl; restorations = refl; clones = refl } in
    let tells_ = sending (Some l) operation slot in
    record {
      master = master_marked (record m { clock = n }) s changes (master_ticked m n changes early inv.master);
      slots = λ i. slot_ticked m n changes i _ early
          (slot_told (SlotGood m changes) act SentTo slot (Offer c) n ps later (second_sent operation slot from) (λ j u le h. tablet_ticked m n changes j u le h) (λ j apart. inv.slots j)
          (inbox_changed m changes slot t n (offered c n t).inbox before (inv.slots slot)) i);
      remembered = remembered_on m (record m { clock = n; sent = s }) activity floors refl refl (le_refl _) (le_refl _) inv.remembered;
      cover = inv.cover;
      operations = operations_sent m n m.catalog m.activity m.drawn s changes changes o (λ ns. le_trans (inv.operations.kept ns) (floor_rises m (record m { clock = n; sent = s }) ns floors)) inv.operations.owners
          (λ mark isin. marks_sent m changes operation slot l mark p inv.operations isin) (all_listed m changes inv.master) inv.operations;
      rows_past = rows_on m n m.catalog m.activity m.drawn s changes changes ps.tablet _ early (clocks_rise act tells_ n ps (λ i b. tablet_before (slots_of act) ps n i later b))
          (λ i isin. inl isin) (λ b table key op isin is. isin) inv.rows_past;
      journal = journal_on m n m.catalog m.activity m.drawn s changes changes (same_rows changes) (λ ns to. refl) (le_refl _) (le_refl _) (λ table lower. refl) inv.journal;
      works = λ i. (
          let w = slot_told (SlotWorks m changes) act SentTo slot (Offer c) n ps later (second_sent operation slot from) (λ j u le h. work_later m n changes j u le h) (λ j apart. inv.works j)
          (offered_works m changes slot t n c before order (inv.works slot)) i in record {
            orders = orders_on m n m.catalog m.activity m.drawn s changes changes i _ o w.orders;
            obeyed = obeyed_on m n m.catalog m.activity m.drawn s changes changes i _ o (λ k serving at d key isin is paired. refl) inv.operations w.obeyed;
          });
    }

pub send_keeps : (ps : Parts) (activity : List Interval) (changes : List Change) (n : ℕ) (operation : Id) (slot : ℕ) → Later (slots_of (Send operation slot)) ps n → 1 ≤ slot → Inv ps activity changes
    → KeepsAll (Send operation slot) n ps activity changes (send operation slot n ps)
unfolding send
send_keeps ps activity changes n operation slot later from inv = sent_by (pending ps.master operation slot) ps activity changes n operation slot refl later from inv
