-- The time of the first command of an inbox has come by any stamp after its tablet's clock, as the law's orders have it.
use Rattle.std.proofs.Common.{ℕ, ◌≡◌, ◌<◌, List, [], ◌∷◌, Some, true, inl, map, refl, sym, ap, subst, ◌∙◌, arith, Option, false}
use Rattle.row_values.specs.Ids.{Id}
use Rattle.row_values.specs.Elements.{In}
use Rattle.row_values.specs.Slots.{has}
use Rattle.step_table.proofs.Lists.{either_way}
use Rattle.model.specs.Tablets.{Tablet, Body, Fence, Freeze, RestoreFrom, Hide, Copy, Release, ReleaseKind, Command, kind_of}
use Rattle.model.specs.Records.{Listed, RestorationRecord, RestorationState, Fencing, Snapshotting, Switching, Restoring, Releasing, Restored, CloneRecord, CloneState, Accepted, CloneSnapshot, Copying, CloneReleasing, CloneComplete, point_of}
use Rattle.model.specs.Journal.{Change}
use Rattle.model.specs.Stands.{is_after_switch, copied_at}
use Rattle.model.specs.Acts.{Event}
use Rattle.model.specs.Parts.{Master, Parts}
use Rattle.model.specs.Entries.{Entry, touches, slots_of}
use Rattle.model.specs.History.{Legal, replay, journal_of}
use Rattle.law_invariants.specs.Operations.{RestorationStateGood, CloneStateGood, OperationsGood, IsAfterSwitch}
use Rattle.law_invariants.specs.Orders.{IsAfter, IsOrder}
use Rattle.law_invariants.proofs.Commanded.{IsPending, BySnapshot, ByRestoration, ByClone, pending_is, none_in}
use Rattle.law.proofs.Law.{legal_holds}
use Rattle.machine_laws.specs.Laid.{lay, tablet_in, kept_in}
use Rattle.machine_laws.specs.Core.{Fits}
use Rattle.machine_laws.proofs.Lawful.{held_replayed}
use Rattle.machine_laws.proofs.Slots.{has_rising}
use Rattle.machine_laws.proofs.Stamps.{lay_meant}
use Rattle.tablet_part.specs.Obeying.{IsDue}
use Rattle.tablet_acts.specs.Tellings.{FirstIsDue}
use Rattle.cluster_core.specs.Coding.{coding}
use Rattle.cluster_core.specs.Held.{Part}
use Rattle.cluster_core.specs.Tellings.{meaning}
use Rattle.cluster_core.specs.Readies.{AllLater}
use Rattle.cluster_core.proofs.Laying.{at_none, slot_later}

-- the body that an unfinished record lists has had its time

switched_due : (b : Body) (time point n : ℕ) (serving : Id) → IsAfterSwitch time point serving b → (is_after_switch (kind_of b) ≡ true → point < n) → IsDue b n
switched_due Fence time point n serving is after = tt
switched_due (Freeze snapshot at) time point n serving is after = tt
switched_due (RestoreFrom snapshot to at version) time point n serving is after = let same = is.1.1 in let past = after refl in omega (arith, same, past)
switched_due (Hide ended) time point n serving is after = tt
switched_due (Copy source snapshot to stamp table low high version) time point n serving is after = absurd is
switched_due (Release cutoff) time point n serving is after = absurd is

restoration_due : (state : RestorationState) (m : Master) (changes : List Change) (r : RestorationRecord) (l : Listed) (n : ℕ) → RestorationStateGood state m changes r → In l r.listed
    → ((at : ℕ) → point_of state ≡ Some at → is_after_switch (kind_of l.body) ≡ true → at < n) → IsDue l.body n
restoration_due Fencing m changes r l n good isin after = subst (λ (b : Body). IsDue b n) (sym (good.bodies l isin)) tt
restoration_due (Snapshotting point own) m changes r l n good isin after = absurd (none_in r.listed l good.empty isin)
restoration_due (Switching point serving) m changes r l n good isin after = absurd (none_in r.listed l good.empty isin)
restoration_due (Restoring point serving) m changes r l n good isin after = switched_due l.body r.to point n serving (good.bodies l isin) (after point refl)
restoration_due (Releasing point serving) m changes r l n good isin after =
    let body = good.bodies l isin in
    let past = after point refl (ap (λ (b : Body). is_after_switch (kind_of b)) body) in
    subst (λ (b : Body). IsDue b n) (sym body) (omega (arith, past))
restoration_due (Restored point serving) m changes r l n good isin after = absurd (none_in r.listed l good.empty isin)

clone_due : (state : CloneState) (m : Master) (c : CloneRecord) (l : Listed) (n : ℕ) → CloneStateGood state m c → In l c.listed → ((at : ℕ) → copied_at state ≡ Some at → at < n)
    → ((at : ℕ) → l.body ≡ Release at → kind_of l.body ≡ ReleaseKind → at < n) → IsDue l.body n
clone_due Accepted m c l n good isin copied released = absurd (none_in c.listed l good isin)
clone_due (CloneSnapshot own) m c l n good isin copied released = absurd (none_in c.listed l good.empty isin)
clone_due (Copying serving at) m c l n good isin copied released =
    let past = copied at refl in subst (λ (b : Body). IsDue b n) (sym (good.bodies l isin).body_is) (omega (arith, past))
clone_due (CloneReleasing serving at) m c l n good isin copied released =
    let body = good.bodies l isin in
    let past = released good.since body (ap kind_of body) in
    subst (λ (b : Body). IsDue b n) (sym body) (omega (arith, past))
clone_due (CloneComplete serving at) m c l n good isin copied released = absurd (none_in c.listed l good isin)

module _ (m : Master) (changes : List Change) (slot clock n : ℕ) (ops : OperationsGood m changes) (less : clock < n) where
  pending_due : (operation : Id) (l : Listed) → IsAfter m clock operation (kind_of l.body) → IsPending m operation slot l → IsDue l.body n
  pending_due operation l after (BySnapshot k) = subst (λ (b : Body). IsDue b n) (sym ((ops.snapshots k.snapshot k.kept).bodies l k.line.listed)) tt
  pending_due operation l after (ByRestoration k) =
      let r = k.restoration in
      restoration_due r.state m changes r l n (ops.restorations r k.kept).in_state k.line.listed (λ at is kind. let past = after.point r at k.kept k.id_is is kind in omega (arith, past, less))
  pending_due operation l after (ByClone k) =
      let c = k.clone in
      clone_due c.state m c l n (ops.clones c k.kept).in_state k.line.listed
      (λ at is. let past = after.copied c at k.kept k.id_is is in omega (arith, past, less))
      (λ at body kind. let past = after.released c l at k.kept k.id_is k.line.listed body kind in omega (arith, past, less))

  inbox_due : (inbox : List Command) → ((c : Command) → In c inbox → IsOrder m slot clock c) → FirstIsDue inbox n
  inbox_due [] orders = tt
  inbox_due (c ∷ cs) orders =
      let order = orders c (inl refl) in
      let l : Listed = record { tablet = c.tablet; slot = slot; body = c.body; acked = false } in
      pending_due c.operation l order.after (pending_is m c.operation slot l order.is_pending)

first_is_due : (slots : ℕ) (history : List Entry) → Legal slots history → (slot n : ℕ) → ((replay slots history).tablet slot).clock < n → FirstIsDue ((replay slots history).tablet slot).inbox n
first_is_due slots history legal slot n less =
    let ps = replay slots history in
    let t = ps.tablet slot in
    let inv = (legal_holds history slots legal).inv in
    inbox_due ps.master (journal_of slots history) slot t.clock n inv.operations less t.inbox (inv.works slot).orders.orders

-- so it is of each held tablet, and of the empty ones of the other slots
pub held_due : (e : Event) (ks : List ℕ) (ps : List Part) (n : ℕ) → ks ≡ touches e.act → Fits (map meaning ps) e → 0 < n → AllLater n ps → (slot : ℕ) → FirstIsDue ((lay ks ps).tablet slot).inbox n
held_due e ks ps n same fits begun later slot =
    let js = touches e.act in
    let legal = fits.legal in
    let is : lay ks ps ≡ lay js (map meaning ps) = ap (λ (is : List ℕ). lay is ps) same ∙ sym (lay_meant coding js ps) in
    either_way (has (slots_of e.act) slot)
    (λ t. let kept = ap (λ (p : Parts). p.tablet slot) is ∙ (held_replayed e (map meaning ps) fits).tablets slot t in
    subst (λ (x : Tablet). FirstIsDue x.inbox n) (sym kept)
    (first_is_due legal.slots legal.history legal.past.legal slot n (subst (λ (x : Tablet). x.clock < n) kept (slot_later n ks ps slot begun later))))
    (λ f. let none = ap (λ (p : Parts). p.tablet slot) is ∙ ap (λ (p : Option Part). tablet_in (kept_in p)) (at_none js (map meaning ps) slot (has_rising (slots_of e.act) slot ∙ f)) in
    subst (λ (x : Tablet). FirstIsDue x.inbox n) (sym none) tt)
