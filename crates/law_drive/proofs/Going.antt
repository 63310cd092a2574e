-- What comes next is accepted, or is an ack that finds its command not done.
use Rattle.std.proofs.Common.{ℕ, ◌≡◌, List, [], ◌∷◌, Bool, true, false, Option, Some, None, inl, refl, sym, ap, subst, ◌∙◌, arith, not, eqb}
use Rattle.std.proofs.lemmas.Bool.{cond_both, true≢false}
use Rattle.row_values.specs.Ids.{Id}
use Rattle.row_values.specs.Elements.{In}
use Rattle.model.specs.Activity.{Interval}
use Rattle.model.specs.Journal.{Change as Made}
use Rattle.model.specs.Tablets.{Command, Body, Fence, Freeze, RestoreFrom, Hide, Release, kind_of, is_done}
use Rattle.model.specs.Records.{Listed, RestorationRecord, RestorationState, Fencing, Restoring, Releasing, CloneRecord, CloneState, Accepted, CloneSnapshot, Copying, CloneReleasing, CloneComplete, TabletPair, is_restored, is_cloned, is_visible, first_unacked}
use Rattle.model.specs.Acts.{Act, Send, Process, Ack, Advance, Reply, Refused, NotDone, Refusal, SentTo, Done, Acked, Advanced}
use Rattle.model.specs.Parts.{Master, Parts, Outcome, If, Acks, Unsends, judged}
use Rattle.model.specs.Coordination.{pending, sending, send, processing, process, acknowledging, ack, source_slot}
use Rattle.model.specs.Moves.{Progress, moving, advancing, advance, waits_for, progress_of}
use Rattle.model.specs.Work.{next_act}
use Rattle.model.specs.History.{outcome}
use Rattle.model.specs.Settling.{GoesOn, reply_under, stamp_under}
use Rattle.law_invariants.specs.Operations.{OperationsGood, RestorationStateGood, IsAfterSwitch, CloneStateGood, IsKnown}
use Rattle.law_invariants.specs.Invariant.{Inv}
use Rattle.law_invariants.proofs.Commanded.{IsPending, BySnapshot, ByRestoration, ByClone, pending_is, none_in}
use Rattle.law_drive.proofs.Steps.{eqb_self}
use Rattle.law_drive.proofs.Choosing.{Unfinished, progress_pending, progress_found, first_at, Choice, ChoseSend, ChoseAck, ChoseProcess, ChoseMove, choice}

-- Where a command takes its rows

-- a pending command takes rows of its own slot, which has a tablet that the master knows; or it is a copy into a slot that
-- a clone has reserved
pub data RowsFrom (m : Master) (slot : ℕ) (l : Listed) : Type 0 where
  OwnRows : (i : Interval) (kept : In i m.activity) (at : i.slot ≡ slot) (is : source_slot slot l.body ≡ slot) → RowsFrom m slot l
  SourceRows : (c : CloneRecord) (kept : In c m.clones) (serving : Id) (copied_at : ℕ) (state : c.state ≡ Copying serving copied_at) (p : TabletPair) (paired : In p c.tablets) (at : p.slot ≡ slot) (is : source_slot slot l.body ≡ p.source_slot) → RowsFrom m slot l

own_rows : (m : Master) (slot : ℕ) (l : Listed) (body : Body) → l.body ≡ body → source_slot slot body ≡ slot → l.slot ≡ slot → IsKnown m l → RowsFrom m slot l
own_rows m slot l body is own at known = OwnRows known.interval known.kept (known.slot_is ∙ at) (ap (source_slot slot) is ∙ own)

switched_rows : (body : Body) (m : Master) (r : RestorationRecord) (point slot : ℕ) (serving : Id) (l : Listed) → l.body ≡ body → IsAfterSwitch r.to point serving body → l.slot ≡ slot → IsKnown m l → RowsFrom m slot l
switched_rows (RestoreFrom snapshot to at version) m r point slot serving l is after here known = own_rows m slot l (RestoreFrom snapshot to at version) is refl here known
switched_rows (Hide ended) m r point slot serving l is after here known = own_rows m slot l (Hide ended) is refl here known
switched_rows _ m r point slot serving l is after here known = absurd after

restoration_rows : (state : RestorationState) (m : Master) (changes : List Made) (r : RestorationRecord) (slot : ℕ) (l : Listed) → RestorationStateGood state m changes r → is_restored state ≡ false → In l r.listed → l.slot ≡ slot → IsKnown m l → RowsFrom m slot l
restoration_rows Fencing m changes r slot l h still isin at known = own_rows m slot l Fence (h.bodies l isin) refl at known
restoration_rows (Restoring point serving) m changes r slot l h still isin at known = switched_rows l.body m r point slot serving l refl (h.bodies l isin) at known
restoration_rows (Releasing point serving) m changes r slot l h still isin at known = own_rows m slot l (Release point) (h.bodies l isin) refl at known
restoration_rows _ m changes r slot l h still isin at known = absurd (none_in r.listed l h.empty isin)

clone_rows : (state : CloneState) (m : Master) (c : CloneRecord) (slot : ℕ) (l : Listed) → CloneStateGood state m c → c.state ≡ state → In c m.clones → In l c.listed → l.slot ≡ slot → RowsFrom m slot l
clone_rows Accepted m c slot l h is kept isin at = absurd (none_in c.listed l h isin)
clone_rows (CloneSnapshot own) m c slot l h is kept isin at = absurd (none_in c.listed l h.empty isin)
clone_rows (Copying serving copied_at) m c slot l h is kept isin at =
    let b = h.bodies l isin in SourceRows c kept serving copied_at is b.pair b.paired (sym b.slot_is ∙ at) (ap (source_slot slot) b.body_is)
clone_rows (CloneReleasing serving copied_at) m c slot l h is kept isin at =
    let a = h.active l isin in own_rows m slot l (Release h.since) (h.bodies l isin) refl at (record { interval = a.interval; kept = a.kept; tablet_is = a.tablet_is; slot_is = a.slot_is })
clone_rows (CloneComplete serving copied_at) m c slot l h is kept isin at = absurd (none_in c.listed l h isin)

pub rows_from : (m : Master) (changes : List Made) (operation : Id) (slot : ℕ) (l : Listed) → OperationsGood m changes → IsPending m operation slot l → RowsFrom m slot l
rows_from m changes operation slot l ops (BySnapshot k) =
    let g = ops.snapshots k.snapshot k.kept in own_rows m slot l (Freeze k.snapshot.id k.snapshot.at) (g.bodies l k.line.listed) refl k.line.slot_is (g.known k.unfinished l k.line.listed)
rows_from m changes operation slot l ops (ByRestoration k) =
    let g = ops.restorations k.restoration k.kept in restoration_rows k.restoration.state m changes k.restoration slot l g.in_state k.unfinished k.line.listed k.line.slot_is (g.known k.unfinished l k.line.listed)
rows_from m changes operation slot l ops (ByClone k) = clone_rows k.clone.state m k.clone slot l (ops.clones k.clone k.kept).in_state refl k.kept k.line.listed k.line.slot_is

copying_open : (state : CloneState) (serving : Id) (at : ℕ) → state ≡ Copying serving at → is_cloned state ≡ false
copying_open state serving at e = ap is_cloned e

-- no tablet is in a slot that is reserved
reserved_free : (m : Master) (changes : List Made) (slot : ℕ) (i : Interval) (c : CloneRecord) (serving : Id) (at : ℕ) (p : TabletPair) → OperationsGood m changes → In i m.activity → i.slot ≡ slot → In c m.clones → c.state ≡ Copying serving at
    → In p c.tablets → p.slot ≡ slot → ⊥
reserved_free m changes slot i c serving at p ops kept is in_c state paired here =
    ((ops.clones c in_c).reserved (ap is_visible state) p paired).free i kept (is ∙ sym here)

-- two commands that are pending in one slot take their rows from one place
rows_agree : (m : Master) (changes : List Made) (slot : ℕ) (a b : Listed) → OperationsGood m changes → RowsFrom m slot a → RowsFrom m slot b → source_slot slot a.body ≡ source_slot slot b.body
rows_agree m changes slot a b ops (OwnRows i kept at is) (OwnRows j kept_j at_j is_j) = is ∙ sym is_j
rows_agree m changes slot a b ops (OwnRows i kept at is) (SourceRows c in_c serving time state p paired here from) = absurd (reserved_free m changes slot i c serving time p ops kept at in_c state paired here)
rows_agree m changes slot a b ops (SourceRows c in_c serving time state p paired here from) (OwnRows i kept at is) = absurd (reserved_free m changes slot i c serving time p ops kept at in_c state paired here)
rows_agree m changes slot a b ops (SourceRows c in_c s t state p paired here from) (SourceRows d in_d s' t' state' q paired' here' from') =
    let one : c ≡ d = ops.apart.one_target c d p q in_c in_d (copying_open c.state s t state) (copying_open d.state s' t' state') paired paired' (here ∙ sym here') in
    let pair : p ≡ q = (ops.clones d in_d).one_slot p q (subst (λ k. In p k.tablets) one paired) paired' (here ∙ sym here') in
    from ∙ ap (λ k. k.source_slot) pair ∙ sym from'

-- Replies

-- a reply that is no refusal
accepted : (act : Act) (reply other : Reply) → reply ≡ other → ((why : Refusal) → other ≡ Refused why → ⊥) → GoesOn act reply
accepted act reply other is never = λ why e. absurd (never why (sym is ∙ e))

send_goes : (ps : Parts) (operation : Id) (slot n : ℕ) (l : Listed) → pending ps.master operation slot ≡ Some l → (outcome (Send operation slot) n ps).reply ≡ SentTo
unfolding send
send_goes ps operation slot n l e = ap (λ found. (sending found operation slot).reply) e

ack_goes : (ps : Parts) (operation : Id) (slot n : ℕ) (l : Listed) → pending ps.master operation slot ≡ Some l → GoesOn (Ack operation slot) (outcome (Ack operation slot) n ps).reply
unfolding ack
ack_goes ps operation slot n l e = subst (λ found. GoesOn (Ack operation slot) (acknowledging found operation slot (ps.tablet slot)).reply) (sym e)
    (cond_both (is_done (ps.tablet slot).done operation (kind_of l.body)) (record { master = Acks operation slot; tablets = []; reply = Acked }) (record { master = Unsends operation slot; tablets = []; reply = Refused NotDone }) (λ (o : Outcome). GoesOn (Ack operation slot) o.reply)
    (λ _ why is. absurd (never why is))
    (λ _ why is. (let q : Refused NotDone ≡ Refused why = is in not_done why q, (operation, (slot, refl)))))
  where
    not_done : (why : Refusal) → Refused NotDone ≡ Refused why → why ≡ NotDone
    not_done why e = cc

    never : (why : Refusal) → Acked ≡ Refused why → ⊥
    never why e = let q = e in grind arith

pub judged_on : (b : Bool) (why : Refusal) (o : Outcome) → b ≡ false → judged (If b why ∷ []) o ≡ o
judged_on false why o e = refl
judged_on true why o e = absurd (true≢false e)

process_goes : (ps : Parts) (slot other n : ℕ) (c : Command) (cs : List Command) → (ps.tablet slot).inbox ≡ c ∷ cs → other ≡ source_slot slot c.body → (outcome (Process slot other) n ps).reply ≡ Done c.operation (kind_of c.body)
unfolding process
process_goes ps slot other n c cs e is =
    ap (λ inbox. (processing inbox slot other (ps.tablet other)).reply) e
    ∙ ap (λ o. o.reply) (judged_on _ _ _ (subst (λ k. not (eqb other k) ≡ false) is (ap not (eqb_self other))))

advance_goes : (ps : Parts) (operation : Id) (n : ℕ) (p : Progress) → progress_of operation.kind ps.master operation ≡ Some p → waits_for (first_unacked p.listed) p.awaited ≡ None → (outcome (Advance operation) n ps).reply ≡ Advanced p.next
unfolding advance
advance_goes ps operation n p e free = ap (λ found. (advancing found operation).reply) e ∙ ap (λ on. (moving on operation p.next).reply) free

-- What comes next

-- the first command of an inbox takes its rows from where the listed tablet's does
pub first_source : (ps : Parts) (activity : List Interval) (changes : List Made) → Inv ps activity changes → (p : Progress) (l : Listed) (c : Command) (cs : List Command) → Unfinished ps.master p → first_unacked p.listed ≡ Some l
    → (ps.tablet l.slot).inbox ≡ c ∷ cs → source_slot l.slot l.body ≡ source_slot l.slot c.body
first_source ps activity changes inv p l c cs record_ first held =
    let m = ps.master in
    let ops = inv.operations in
    let mine = pending_is m p.id l.slot l (progress_pending m changes p l.slot ops record_ ∙ first_at p.listed l first) in
    let order = (inv.works l.slot).orders.orders c (subst (In c) (sym held) (inl refl)) in
    let line : Listed = record { tablet = c.tablet; slot = l.slot; body = c.body; acked = false } in
    rows_agree m changes l.slot l line ops (rows_from m changes p.id l.slot l ops mine) (rows_from m changes c.operation l.slot line ops (pending_is m c.operation l.slot line order.is_pending))

pub waits_none : (found : Option Listed) (awaited : Option Id) → found ≡ None → awaited ≡ None → waits_for found awaited ≡ None
waits_none None awaited e f = f
waits_none (Some l) awaited e f = absurd (let q = e in grind arith)

by_choice : (ps : Parts) (activity : List Interval) (changes : List Made) → Inv ps activity changes → (reading : ℕ) (act : Act) → Choice ps act → GoesOn act (reply_under reading act ps)
by_choice ps activity changes inv reading act (ChoseSend p record_ l first unsent is) = subst (λ a. GoesOn a (reply_under reading a ps)) is
    (let n = stamp_under reading (Send p.id l.slot) ps in
    accepted _ _ SentTo (send_goes ps p.id l.slot n l (progress_pending ps.master changes p l.slot inv.operations record_ ∙ first_at p.listed l first)) (λ why e. let q = e in grind arith))
by_choice ps activity changes inv reading act (ChoseAck p record_ l first sent held is) = subst (λ a. GoesOn a (reply_under reading a ps)) is
    (ack_goes ps p.id l.slot (stamp_under reading (Ack p.id l.slot) ps) l (progress_pending ps.master changes p l.slot inv.operations record_ ∙ first_at p.listed l first))
by_choice ps activity changes inv reading act (ChoseProcess p record_ l first c cs held is) = subst (λ a. GoesOn a (reply_under reading a ps)) is
    (let other = source_slot l.slot l.body in
    let n = stamp_under reading (Process l.slot other) ps in
    accepted _ _ (Done c.operation (kind_of c.body)) (process_goes ps l.slot other n c cs held (first_source ps activity changes inv p l c cs record_ first held)) (λ why e. let q = e in grind arith))
by_choice ps activity changes inv reading act (ChoseMove p record_ all free is) = subst (λ a. GoesOn a (reply_under reading a ps)) is
    (let n = stamp_under reading (Advance p.id) ps in
    accepted _ _ (Advanced p.next) (advance_goes ps p.id n p (progress_found ps.master changes p inv.operations record_) (waits_none (first_unacked p.listed) p.awaited all free)) (λ why e. let q = e in grind arith))

pub goes_on : (ps : Parts) (activity : List Interval) (changes : List Made) → Inv ps activity changes → (reading : ℕ) (act : Act) → next_act ps ≡ Some act → GoesOn act (reply_under reading act ps)
goes_on ps activity changes inv reading act is = by_choice ps activity changes inv reading act (choice ps act is)
