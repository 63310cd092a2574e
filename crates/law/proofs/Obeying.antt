-- No tablet does a command of an operation twice: where a tablet is that did one, its part has the mark.
use Rattle.std.proofs.Common.{◌≡◌, ℕ, ◌+◌, length, ◌≤◌, ◌<◌, true, false, List, [], ◌∷◌, ◌++◌, map, Option, Some, None, ◌⊎◌, inl, inr, refl, sym, ap, subst, ◌∙◌, arith, cond, if◌then◌else◌, not, eqb, ◌&&◌, le_refl, le_trans}
use Rattle.std.proofs.lemmas.Bool.{cond_both, true≢false}
use Rattle.std.proofs.lemmas.Bool.Decides.{nat_tests}
use Rattle.model.specs.Cluster.{Id, same, In, has, KeyedRow, ended, owns, Interval, active_at, end_tablet, Listed, acked_at, TabletPair, RestorationRecord, RestorationState, Switching, CloneRecord, CloneState, Accepted, CloneSnapshot, Copying, CloneReleasing, CloneComplete, is_cloned, is_visible, Master, MasterAct, MakesTable, DropsTable, SplitsTablet, BeginsClone, Acks, Moves, Removes, Outcome, Parts, If}
use Rattle.model.specs.Journal.{Change as Made}
use Rattle.model.specs.Restored.{begun_at, end_namespace_tablets, cloned_activity}
use Rattle.model.specs.Lists.{tablets_active_at, intervals_in}
use Rattle.model.specs.Changed.{next_table, shares, children, new_clone}
use Rattle.model.specs.Coordination.{command_for, pending, send, sending, source_slot, rows_for, process, processing}
use Rattle.model.specs.Moves.{restoration_moved, clone_moved}
use Rattle.model.specs.Tablets.{Tablet as TabletPart, TabletAct, Child, Clear, Clock, Make, Offer, Process as ProcessTablet, Body, RestoreFrom, Hide, Copy, BodyKind, CopyKind, Command as TabletCommand, Mark, act_for, effect, is_done, is_empty, kind_of, obeyed, processed}
use Rattle.model.specs.Acts.{Act, Send, Process, Done, OtherSlot}
use Rattle.model.specs.Entries.{ActAsked, Entry, slots_of}
use Rattle.model.specs.History.{Legal, master_effect, outcome, replay, told}
use Rattle.model.specs.Once.{NoneAgain, Obeyed, commands_done, obeyed_by}
use Rattle.law_store.proofs.Keys.{either_way}
use Rattle.law_invariants.specs.Invariant.{Inv}
use Rattle.law_invariants.specs.Operations.{Alone, CloneStateGood, OperationsGood}
use Rattle.law_invariants.specs.Orders.{CloneSlotIn}
use Rattle.law_invariants.proofs.Effects.{acked_each, begins_each, moved_each, removed_each}
use Rattle.law_invariants.proofs.Finding.{in_append, in_added, in_mapped, filter_in, same_equal}
use Rattle.law_invariants.proofs.Pending.{unfinished_clone_is}
use Rattle.law_invariants.proofs.DoneMarks.{done_now, done_still}
use Rattle.law_invariants.proofs.Commanded.{IsPending, BySnapshot, ByRestoration, ByClone, none_in, pending_is}
use Rattle.law_invariants.proofs.Frame.{tells}
use Rattle.law_commands.proofs.Processing.{first_touched}
use Rattle.law_clones.proofs.Pairing.{tablet_pair}
use Rattle.law_retention.proofs.Changing.{children_new, shares_new}
use Rattle.law_retention.proofs.Outcomes.{by_refusal}
use Rattle.law_once.proofs.Given.{done_of_body}
use Rattle.law.proofs.Law.{legal_holds}
use Rattle.law.proofs.PartMoves.{copy_is}
use Rattle.law.proofs.Saying.{IsSaid, act_says}

-- The master

-- a target that a clone is yet to make current
record IsToCome (cs : List CloneRecord) (p : TabletPair) : Type 0 where
  clone : CloneRecord
  kept : In clone cs
  hidden : is_visible clone.state ≡ false
  paired : In p clone.tablets

-- where an interval comes from: the master knew its tablet in its slot, or the tablet is new, or was a clone's target
abbrev Came : Master → Interval → Type 0
Came m i =
    ((j : Interval) × (In j m.activity × ((j.slot ≡ i.slot) × (j.tablet ≡ i.tablet))))
    ⊎ ((m.drawn.tablets < i.tablet.number)
    ⊎ ((p : TabletPair) × (IsToCome m.clones p × ((p.slot ≡ i.slot) × (p.target ≡ i.tablet)))))

-- the tablets that are known, and that are to come, go on as they are; others are new
record GoesOn (m new : Master) : Type 0 where
  drawn : m.drawn.tablets ≤ new.drawn.tablets
  activity : (i : Interval) → In i new.activity → Came m i
  targets : (p : TabletPair) → IsToCome new.clones p → IsToCome m.clones p ⊎ (m.drawn.tablets < p.target.number)

knew : (m : Master) (i : Interval) → In i m.activity → Came m i
knew m i isin = inl (i, (isin, (refl, refl)))

-- the master has the same tablets and clones
same_go : (m new : Master) → m.drawn.tablets ≤ new.drawn.tablets → new.activity ≡ m.activity → new.clones ≡ m.clones → GoesOn m new
same_go m new drawn activity clones = record {
  drawn = drawn;
  activity = λ i isin. knew m i (subst (In i) activity isin);
  targets = λ p h. inl (subst (λ cs. IsToCome cs p) clones h);
}

ended_came : (m : Master) (end_ : Interval → Option ℕ) (i : Interval) → In i (map {A = Interval} (λ j. record j { to = end_ j }) m.activity) → Came m i
ended_came m end_ = in_mapped {A = Interval} {B = Interval} (λ j. record j { to = end_ j }) (Came m) m.activity (λ j isin. inl (j, (isin, (refl, refl))))

more_came : (m : Master) (is js : List Interval) → ((i : Interval) → In i is → Came m i) → ((i : Interval) → In i js → Came m i) → (i : Interval) → In i (is ++ js) → Came m i
more_came m is js old new i isin = elim (in_append is js i isin) [ inl there ↦ old i there | inr came ↦ new i came ]

activity_goes : (m new : Master) → m.drawn.tablets ≤ new.drawn.tablets → new.clones ≡ m.clones → ((i : Interval) → In i new.activity → Came m i) → GoesOn m new
activity_goes m new drawn clones came = record { drawn = drawn; activity = came; targets = λ p h. inl (subst (λ cs. IsToCome cs p) clones h) }

-- a clone's record enters a state: what is to come was so before
entered_go : (m new : Master) (r : CloneRecord) (state : CloneState) (listed : List Listed) → Alone (λ c. c.id) m.clones → In r m.clones → (is_visible state ≡ false → is_visible r.state ≡ false) → m.drawn.tablets ≤ new.drawn.tablets
    → new.clones ≡ map {A = CloneRecord} (λ x. record x { listed = cond (same x.id r.id) listed x.listed; state = cond (same x.id r.id) state x.state }) m.clones → ((i : Interval) → In i new.activity → Came m i) → GoesOn m new
entered_go m new r state listed alone there hides drawn clones came = record {
  drawn = drawn;
  activity = came;
  targets = λ p h. inl (
      in_mapped {A = CloneRecord} {B = CloneRecord} (λ x. record x { listed = cond (same x.id r.id) listed x.listed; state = cond (same x.id r.id) state x.state })
      (λ c. is_visible c.state ≡ false → In p c.tablets → IsToCome m.clones p) m.clones
      (λ x isin. cond_both (same x.id r.id) state x.state (λ s. is_visible s ≡ false → In p x.tablets → IsToCome m.clones p)
      (λ e hidden paired. record { clone = x; kept = isin; hidden = subst (λ c. is_visible c.state ≡ false) (sym (alone x r isin there (same_equal x.id r.id e))) (hides hidden); paired = paired })
      (λ e hidden paired. record { clone = x; kept = isin; hidden = hidden; paired = paired }))
      h.clone (subst (In h.clone) clones h.kept) h.hidden h.paired);
}

-- Moves

restoration_go : (state : RestorationState) (r : RestorationRecord) (n : ℕ) (m : Master) → GoesOn m (restoration_moved state r n m)
restoration_go (Switching point serving) r n m = activity_goes m _ (le_refl _) refl
    (more_came m (end_namespace_tablets m.catalog.owners r.namespace point m.activity) (map (begun_at point) (tablets_active_at m.catalog.owners m.activity r.namespace r.to))
    (ended_came m (λ i. cond (owns m.catalog.owners r.namespace i.table) (ended point i.to) i.to))
    (in_mapped {A = Interval} {B = Interval} (begun_at point) (Came m) (tablets_active_at m.catalog.owners m.activity r.namespace r.to)
    (λ j isin. inl (j, ((filter_in m.activity (λ i. owns m.catalog.owners r.namespace i.table) j (filter_in (intervals_in m.catalog.owners m.activity r.namespace) (active_at r.to) j isin).0).0, (refl, refl))))))
restoration_go _ r n m = same_go m _ (le_refl _) refl refl

clone_go : (state : CloneState) (r : CloneRecord) (n : ℕ) (m : Master) → Alone (λ c. c.id) m.clones → In r m.clones → r.state ≡ state → GoesOn m (clone_moved state r n m)
clone_go Accepted r n m alone there is = begins_each (GoesOn m) r n m
    (λ serving. entered_go m _ r _ _ alone there (λ e. ap is_visible is) (le_refl _) refl (knew m))
    (λ s. entered_go m _ r _ _ alone there (λ e. ap is_visible is) (le_refl _) refl (knew m))
    (entered_go m _ r _ _ alone there (λ e. ap is_visible is) (le_refl _) refl (knew m))
clone_go (CloneSnapshot own) r n m alone there is = entered_go m _ r _ _ alone there (λ e. ap is_visible is) (le_refl _) refl (knew m)
clone_go (Copying serving at) r n m alone there is = entered_go m _ r _ _ alone there (λ e. ap is_visible is) (le_refl _) refl
    (more_came m m.activity (cloned_activity n r.tablets) (knew m)
    (in_mapped {A = TabletPair} {B = Interval} (λ p. record { slot = p.slot; tablet = p.target; table = p.table; low = p.low; high = p.high; from = n; to = None }) (Came m) r.tablets
    (λ p isin. inr (inr (p, (record { clone = r; kept = there; hidden = ap is_visible is; paired = isin }, (refl, refl)))))))
clone_go (CloneReleasing serving at) r n m alone there is = entered_go m _ r _ _ alone there (λ e. absurd (true≢false e)) (le_refl _) refl (knew m)
clone_go (CloneComplete serving at) r n m alone there is = same_go m _ (le_refl _) refl refl

-- Each act

more : (a b : ℕ) → a ≤ a + b
more a b = omega arith

effect_go : (act : MasterAct) (n : ℕ) (m : Master) → Alone (λ c. c.id) m.clones → GoesOn m (master_effect act n m)
effect_go (MakesTable namespace name columns slots) n m alone = activity_goes m _ (more _ _) refl
    (more_came m m.activity (shares slots 0 (length slots) n m.drawn.tablets (next_table m)) (knew m) (λ i isin. inr (inl (shares_new slots 0 (length slots) n m.drawn.tablets (next_table m) i isin).1)))
effect_go (DropsTable table) n m alone = activity_goes m _ (le_refl _) refl (ended_came m (λ i. cond (same i.table table) (ended n i.to) i.to))
effect_go (SplitsTablet parent code low_slot high_slot) n m alone = activity_goes m _ (more _ _) refl
    (more_came m (end_tablet parent.tablet n m.activity) (children parent code low_slot high_slot n m.drawn.tablets) (ended_came m (λ i. cond (same i.tablet parent.tablet) (ended n i.to) i.to))
    (λ i isin. inr (inl (children_new parent code low_slot high_slot n m.drawn.tablets i isin).1)))
effect_go (BeginsClone namespace source target to) n m alone = record {
  drawn = more _ _;
  activity = knew m;
  targets = λ p h. in_added (λ c. is_visible c.state ≡ false → In p c.tablets → IsToCome m.clones p ⊎ (m.drawn.tablets < p.target.number)) m.clones (new_clone namespace source target to m)
      (λ c there hidden paired. inl (record { clone = c; kept = there; hidden = hidden; paired = paired })) (λ hidden paired. inr (tablet_pair _ _ _ _ p paired).above) h.clone h.kept h.hidden h.paired;
}
effect_go (Acks operation slot) n m alone =
    acked_each (GoesOn m) operation.kind operation slot n m (same_go m _ (le_refl _) refl refl) (same_go m _ (le_refl _) refl refl) (same_go m _ (le_refl _) refl refl) (record {
      drawn = le_refl _;
      activity = knew m;
      targets = λ p h. inl (in_mapped {A = CloneRecord} {B = CloneRecord} (λ x. record x { listed = cond (same x.id operation) (acked_at slot x.listed) x.listed })
          (λ c. is_visible c.state ≡ false → In p c.tablets → IsToCome m.clones p) m.clones (λ x isin hidden paired. record { clone = x; kept = isin; hidden = hidden; paired = paired }) h.clone h.kept h.hidden h.paired);
    })
effect_go (Moves operation) n m alone =
    moved_each (GoesOn m) operation.kind operation n m (same_go m _ (le_refl _) refl refl) (λ r e. same_go m _ (le_refl _) refl refl) (λ r e. restoration_go r.state r n m)
    (λ c e. clone_go c.state c n m alone (unfinished_clone_is m.clones operation c e).0 refl)
effect_go (Removes target) n m alone =
    removed_each (GoesOn m) target.kind target n m (same_go m _ (le_refl _) refl refl)
    (activity_goes m _ (le_refl _) refl (λ i isin. knew m i (filter_in m.activity (λ i. not (same i.tablet target)) i isin).0)) (same_go m _ (le_refl _) refl refl)
effect_go _ n m alone = same_go m _ (le_refl _) refl refl

-- The parts

-- a part keeps its marks, or a new tablet begins in it, or it is cleared where the master knew an interval
abbrev PartGoes : Master → ℕ → TabletPart → TabletPart → Type 0
PartGoes m slot t u =
    ((operation : Id) (kind : BodyKind) → is_done t.done operation kind ≡ true → is_done u.done operation kind ≡ true)
    ⊎ (((is_empty u.presence ≡ false) × (m.drawn.tablets < u.tablet.number))
    ⊎ ((is_empty u.presence ≡ true) × ((i : Interval) × (In i m.activity × (i.slot ≡ slot)))))

processed_marks : (inbox : List TabletCommand) (rows : List KeyedRow) (n : ℕ) (t : TabletPart) (operation : Id) (kind : BodyKind) → is_done t.done operation kind ≡ true → is_done (processed inbox rows n t).done operation kind ≡ true
processed_marks [] rows n t operation kind e = e
processed_marks (c ∷ cs) rows n t operation kind e =
    let mark : Mark = record { operation = c.operation; kind = kind_of c.body } in
    subst (λ d. is_done (d ++ mark ∷ []) operation kind ≡ true) (sym (done_of_body c.body c.operation c.tablet rows t)) (done_still t.done mark operation kind e)

said_goes : (m : Master) (slot : ℕ) (a : TabletAct) (n : ℕ) (t : TabletPart) → IsSaid m slot a → PartGoes m slot t (effect a n t)
said_goes m slot (Make tablet table low high version) n t h = inr (inl (refl, h))
said_goes m slot (Child tablet table low high version versions cutoff) n t h = inr (inl (refl, h))
said_goes m slot (Offer c) n t h = absurd h
said_goes m slot (ProcessTablet rows) n t h = inl (processed_marks t.inbox rows n t)
said_goes m slot Clear n t h = inr (inr (refl, h))
said_goes m slot _ n t h = inl (λ operation kind e. e)

sending_goes : (m : Master) (found : Option Listed) (operation : Id) (slot n i : ℕ) (t : TabletPart) → PartGoes m i t (effect (act_for (sending found operation slot).tablets i) n t)
sending_goes m None operation slot n i t = inl (λ operation kind e. e)
sending_goes m (Some l) operation slot n i t = cond_both (eqb slot i) (Offer (command_for operation l)) Clock (λ a. PartGoes m i t (effect a n t)) (λ _. inl (λ operation kind e. e)) (λ _. inl (λ operation kind e. e))

tells_goes : (act : Act) (n : ℕ) (ps : Parts) (slot : ℕ) → PartGoes ps.master slot (ps.tablet slot) (effect (act_for (outcome act n ps).tablets slot) n (ps.tablet slot))
unfolding send
tells_goes (Send operation to) n ps slot = sending_goes ps.master (pending ps.master operation to) operation to n slot (ps.tablet slot)
tells_goes act n ps slot = said_goes ps.master slot _ n (ps.tablet slot) ((act_says act n ps refl).says slot)

part_goes : (act : Act) (n : ℕ) (ps : Parts) (slot : ℕ) → PartGoes ps.master slot (ps.tablet slot) ((told act (outcome act n ps) n ps).tablet slot)
part_goes act n ps slot = cond_both (has (slots_of act) slot && not (eqb slot 0)) (effect (act_for (outcome act n ps).tablets slot) n (ps.tablet slot)) (ps.tablet slot) (PartGoes ps.master slot (ps.tablet slot))
    (λ _. tells_goes act n ps slot) (λ _. inl (λ operation kind e. e))

master_goes : (act : Act) (n : ℕ) (ps : Parts) → Alone (λ c. c.id) ps.master.clones → GoesOn ps.master (told act (outcome act n ps) n ps).master
master_goes act n ps alone = cond_both (has (slots_of act) 0) (master_effect (outcome act n ps).master n ps.master) ps.master (GoesOn ps.master) (λ _. effect_go (outcome act n ps).master n ps.master alone) (λ _. same_go ps.master ps.master (le_refl _) refl refl)

-- Marks

-- a tablet did a command: wherever the master knows it, and where it is to come, the part has the mark
record DoneIn (ps : Parts) (o : Obeyed) : Type 0 where
  drawn : o.tablet.number ≤ ps.master.drawn.tablets
  home : (i : Interval) → In i ps.master.activity → i.tablet ≡ o.tablet → is_done (ps.tablet i.slot).done o.operation o.kind ≡ true
  target : (p : TabletPair) → IsToCome ps.master.clones p → p.target ≡ o.tablet → is_done (ps.tablet p.slot).done o.operation o.kind ≡ true

-- a new tablet isn't in a slot that is reserved
not_reserved : (state : CloneState) (ps : Parts) (changes : List Made) (c : CloneRecord) (p : TabletPair) → is_visible state ≡ false → In p c.tablets → CloneSlotIn state ps.master.catalog.owners changes c p.slot (ps.tablet p.slot) → is_empty (ps.tablet p.slot).presence ≡ false
    → (ps.tablet p.slot).tablet ≡ p.target
not_reserved (Copying serving at) ps changes c p hidden paired h held = either_way (is_done (ps.tablet p.slot).done c.id CopyKind)
    (λ did. (h.copied p paired refl did).tablet_is)
    (λ did. absurd (true≢false (sym (h.empty p paired refl did) ∙ held)))
not_reserved (CloneReleasing serving at) ps changes c p hidden paired h held = absurd (true≢false hidden)
not_reserved (CloneComplete serving at) ps changes c p hidden paired h held = absurd (true≢false hidden)
not_reserved _ ps changes c p hidden paired h held = absurd (true≢false (sym (h.empty p paired refl) ∙ held))

past : (a b c : ℕ) → a < b → b ≡ c → c ≤ a → ⊥
past a b c less e le = omega arith

-- marks stay with the tablets that are known and to come
done_goes : (ps new : Parts) (activity : List Interval) (changes : List Made) (activity_new : List Interval) (changes_new : List Made) → Inv ps activity changes → Inv new activity_new changes_new → GoesOn ps.master new.master → ((slot : ℕ) → PartGoes ps.master slot (ps.tablet slot) (new.tablet slot))
    → (o : Obeyed) → DoneIn ps o → DoneIn new o
done_goes ps new activity changes activity_new changes_new inv inv_new go parts o h = record {
  drawn = le_trans h.drawn go.drawn;
  home = λ i isin is. elim (go.activity i isin) [
    | inl old ↦ known i isin is (subst (λ s. is_done (ps.tablet s).done o.operation o.kind ≡ true) old.1.1.0 (h.home old.0 old.1.0 (old.1.1.1 ∙ is)))
    | inr other ↦ elim other [
      | inl above ↦ absurd (past _ _ _ above (ap (λ x. x.number) is) h.drawn)
      | inr p ↦ known i isin is (subst (λ s. is_done (ps.tablet s).done o.operation o.kind ≡ true) p.1.1.0 (h.target p.0 p.1.0 (p.1.1.1 ∙ is)))
    ]
  ];
  target = λ p coming is. elim (go.targets p coming) [
    | inl old ↦ elim (parts p.slot) [
      | inl keeps ↦ keeps o.operation o.kind (h.target p old is)
      | inr other ↦ elim other [
        | inl begun ↦ absurd (
            let tablet_is = not_reserved coming.clone.state new changes_new coming.clone p coming.hidden coming.paired ((inv_new.works p.slot).obeyed.clones coming.clone coming.kept) begun.0 in
            past _ _ _ begun.1 (ap (λ x. x.number) (tablet_is ∙ is)) h.drawn)
        | inr cleared ↦ absurd (((inv.operations.clones old.clone old.kept).reserved old.hidden p old.paired).free cleared.1.0 cleared.1.1.0 cleared.1.1.1)
      ]
    ]
    | inr above ↦ absurd (past _ _ _ above (ap (λ x. x.number) is) h.drawn)
  ];
}
  where
    known : (i : Interval) → In i new.master.activity → i.tablet ≡ o.tablet → is_done (ps.tablet i.slot).done o.operation o.kind ≡ true → is_done (new.tablet i.slot).done o.operation o.kind ≡ true
    known i isin is did =
        let good = (inv_new.slots i.slot).each i isin refl in
        elim (parts i.slot) [
          | inl keeps ↦ keeps o.operation o.kind did
          | inr other ↦ elim other [
            | inl begun ↦ absurd (past _ _ _ begun.1 (ap (λ x. x.number) (good.tablet_is ∙ is)) h.drawn)
            | inr cleared ↦ absurd (true≢false (sym cleared.0 ∙ good.present))
          ]
        ]

-- What a tablet does now

-- a tablet is known in the slot, or is to come there
abbrev IsPlaced : Master → ℕ → Id → Type 0
IsPlaced m slot tablet =
    ((i : Interval) × (In i m.activity × ((i.slot ≡ slot) × (i.tablet ≡ tablet))))
    ⊎ ((p : TabletPair) × (IsToCome m.clones p × ((p.slot ≡ slot) × (p.target ≡ tablet))))

-- the master knows a tablet in the slot of a pending command, but a copy
clone_known : (state : CloneState) (m : Master) (c : CloneRecord) (l : Listed) → is_cloned state ≡ false → In l c.listed → (kind_of l.body ≡ CopyKind → ⊥) → CloneStateGood state m c → (i : Interval) × (In i m.activity × (i.slot ≡ l.slot))
clone_known Accepted m c l open_ listed no_copy g = absurd (none_in c.listed l g listed)
clone_known (CloneSnapshot own) m c l open_ listed no_copy g = absurd (none_in c.listed l g.empty listed)
clone_known (Copying serving at) m c l open_ listed no_copy g = absurd (no_copy (ap kind_of (g.bodies l listed).body_is))
clone_known (CloneReleasing serving at) m c l open_ listed no_copy g = let a = g.active l listed in (a.interval, (a.kept, a.slot_is))
clone_known (CloneComplete serving at) m c l open_ listed no_copy g = absurd (true≢false open_)

pending_known : (m : Master) (changes : List Made) (operation : Id) (slot : ℕ) (l : Listed) → OperationsGood m changes → (kind_of l.body ≡ CopyKind → ⊥) → IsPending m operation slot l → (i : Interval) × (In i m.activity × (i.slot ≡ slot))
pending_known m changes operation slot l ops no_copy (BySnapshot k) = let a = (ops.snapshots k.snapshot k.kept).known k.unfinished l k.line.listed in (a.interval, (a.kept, a.slot_is ∙ k.line.slot_is))
pending_known m changes operation slot l ops no_copy (ByRestoration k) = let a = (ops.restorations k.restoration k.kept).known k.unfinished l k.line.listed in (a.interval, (a.kept, a.slot_is ∙ k.line.slot_is))
pending_known m changes operation slot l ops no_copy (ByClone k) =
    let a = clone_known k.clone.state m k.clone l k.unfinished k.line.listed no_copy (ops.clones k.clone k.kept).in_state in (a.0, (a.1.0, a.1.1 ∙ k.line.slot_is))

-- what does a command holds a tablet, where that is placed
record IsDoing (m : Master) (slot : ℕ) (u : TabletPart) : Type 0 where
  held : is_empty u.presence ≡ false
  placed : IsPlaced m slot u.tablet

stays_doing : (ps : Parts) (activity : List Interval) (changes : List Made) (slot : ℕ) (operation : Id) (l : Listed) (u : TabletPart) → Inv ps activity changes → IsPending ps.master operation slot l → (kind_of l.body ≡ CopyKind → ⊥) → u.tablet ≡ (ps.tablet slot).tablet
    → (is_empty (ps.tablet slot).presence ≡ false → is_empty u.presence ≡ false) → IsDoing ps.master slot u
stays_doing ps activity changes slot operation l u inv pends no_copy same_tablet stays =
    let k = pending_known ps.master changes operation slot l inv.operations no_copy pends in
    let good = (inv.slots slot).each k.0 k.1.0 k.1.1 in record {
      held = stays good.present;
      placed = inl (k.0, (k.1.0, (k.1.1, sym good.tablet_is ∙ sym same_tablet)));
    }

body_doing : (body : Body) (ps : Parts) (activity : List Interval) (changes : List Made) (slot : ℕ) (operation tablet : Id) (rows : List KeyedRow) → Inv ps activity changes → IsPending ps.master operation slot (record { tablet = tablet; slot = slot; body = body; acked = false })
    → IsDoing ps.master slot (obeyed body operation tablet rows (ps.tablet slot))
body_doing (RestoreFrom snapshot to at version) ps activity changes slot operation tablet rows inv pends = stays_doing ps activity changes slot operation _ _ inv pends (λ e. let q = e in grind arith) refl (λ h. refl)
body_doing (Hide at) ps activity changes slot operation tablet rows inv pends = stays_doing ps activity changes slot operation _ _ inv pends (λ e. let q = e in grind arith) refl (λ h. refl)
body_doing (Copy source snapshot to stamp table low high version) ps activity changes slot operation tablet rows inv pends =
    let k = copy_is ps.master changes operation slot source _ snapshot table to stamp low high version inv.operations pends refl in record {
      held = refl;
      placed = inr (k.pair, (record { clone = k.clone; kept = k.known; hidden = k.hidden; paired = k.paired }, (k.slot_is, k.tablet_is)));
    }
body_doing _ ps activity changes slot operation tablet rows inv pends = stays_doing ps activity changes slot operation _ _ inv pends (λ e. let q = e in grind arith) refl (λ h. h)

-- a tablet that is placed in the slot did no command of those that its part has no mark of
not_done : (ps : Parts) (slot : ℕ) (o : Obeyed) → IsPlaced ps.master slot o.tablet → is_done (ps.tablet slot).done o.operation o.kind ≡ false → DoneIn ps o → ⊥
not_done ps slot o (inl known) fresh h = true≢false (sym (subst (λ s. is_done (ps.tablet s).done o.operation o.kind ≡ true) known.1.1.0 (h.home known.0 known.1.0 known.1.1.1)) ∙ fresh)
not_done ps slot o (inr coming) fresh h = true≢false (sym (subst (λ s. is_done (ps.tablet s).done o.operation o.kind ≡ true) coming.1.1.0 (h.target coming.0 coming.1.0 coming.1.1.1)) ∙ fresh)

-- a part that holds a tablet with the mark of a command: the tablet is marked wherever it is known, and to come
done_here : (ps : Parts) (activity : List Interval) (changes : List Made) (slot : ℕ) (operation : Id) (kind : BodyKind) → Inv ps activity changes → is_empty (ps.tablet slot).presence ≡ false → is_done (ps.tablet slot).done operation kind ≡ true
    → DoneIn ps (record { operation = operation; kind = kind; tablet = (ps.tablet slot).tablet })
done_here ps activity changes slot operation kind inv held did = record {
  drawn = (inv.slots slot).numbered;
  home = λ i isin is. subst (λ s. is_done (ps.tablet s).done operation kind ≡ true) (sym ((inv.slots slot).home held i isin is)) did;
  target = λ p coming is. elim ((inv.works slot).obeyed.home held) [
    | inl known ↦ absurd (((inv.operations.clones coming.clone coming.kept).reserved coming.hidden p coming.paired).unknown known.interval known.kept (known.tablet_is ∙ sym is))
    | inr target ↦ (
        let one : target.clone ≡ coming.clone = inv.operations.apart.one_made target.clone coming.clone target.pair p target.kept coming.kept (ap is_visible target.state_is) coming.hidden target.paired coming.paired (target.tablet_is ∙ sym is) in
        let same_pair : target.pair ≡ p = (inv.operations.clones coming.clone coming.kept).one_target target.pair p (subst (λ c. In target.pair c.tablets) one target.paired) coming.paired (target.tablet_is ∙ sym is) in
        subst (λ s. is_done (ps.tablet s).done operation kind ≡ true) (sym target.slot_is ∙ ap (λ q. q.slot) same_pair) did)
  ];
}

-- Over a history

-- no command is done again, and each that was done is marked
record DoneOnce (ps : Parts) (os : List Obeyed) : Type 0 where
  once : NoneAgain os
  each : (o : Obeyed) → In o os → DoneIn ps o

none_now : (ps new : Parts) (activity : List Interval) (changes : List Made) (activity_new : List Interval) (changes_new : List Made) (os : List Obeyed) → Inv ps activity changes → Inv new activity_new changes_new → GoesOn ps.master new.master
    → ((slot : ℕ) → PartGoes ps.master slot (ps.tablet slot) (new.tablet slot)) → DoneOnce ps os → DoneOnce new os
none_now ps new activity changes activity_new changes_new os inv inv_new go parts h = record { once = h.once; each = λ o isin. done_goes ps new activity changes activity_new changes_new inv inv_new go parts o (h.each o isin) }

self : (n : ℕ) → eqb n n ≡ true
self n = grind (arith, nat_tests)

-- a tablet does the first command of its inbox
one_more : (ps : Parts) (activity : List Interval) (changes : List Made) (activity_new : List Interval) (changes_new : List Made) (slot other n : ℕ) (c : TabletCommand) (cs : List TabletCommand) (rows : List KeyedRow) (os : List Obeyed) → Inv ps activity changes → 1 ≤ slot → (ps.tablet slot).inbox ≡ c ∷ cs
    → let new = told (Process slot other) (tells slot (ProcessTablet rows) (Done c.operation (kind_of c.body))) n ps in Inv new activity_new changes_new → DoneOnce new os → DoneOnce ps os
    → DoneOnce new (record { operation = c.operation; kind = kind_of c.body; tablet = (new.tablet slot).tablet } ∷ os)
one_more ps activity changes activity_new changes_new slot other n c cs rows os inv from e inv_new h before =
    let t = ps.tablet slot in
    let new = told (Process slot other) (tells slot (ProcessTablet rows) (Done c.operation (kind_of c.body))) n ps in
    let orders = (inv.works slot).orders in
    let lies : In c t.inbox = subst (In c) (sym e) (inl refl) in
    let doing = body_doing c.body ps activity changes slot c.operation c.tablet rows inv (pending_is ps.master c.operation slot _ (orders.orders c lies).is_pending) in
    let touched = first_touched slot other from in
    let first : new.tablet slot ≡ processed (c ∷ cs) rows n t = (ap (λ b. if b then effect (act_for (record { slot = slot; act = ProcessTablet rows } ∷ []) slot) n t else t) touched ∙ ap (λ b. effect (if b then ProcessTablet rows else Clock) n t) (self slot) ∙ ap (λ i. processed i rows n t) e) in
    let o : Obeyed = record { operation = c.operation; kind = kind_of c.body; tablet = (new.tablet slot).tablet } in
    let tablet_is : (new.tablet slot).tablet ≡ (obeyed c.body c.operation c.tablet rows t).tablet = ap (λ u. u.tablet) first in
    let held : is_empty (new.tablet slot).presence ≡ false = ap (λ u. is_empty u.presence) first ∙ doing.held in
    let did : is_done (new.tablet slot).done c.operation (kind_of c.body) ≡ true = ap (λ u. is_done u.done c.operation (kind_of c.body)) first ∙ done_now (obeyed c.body c.operation c.tablet rows t).done c.operation (kind_of c.body) in
    record {
      once = (h.once, λ isin. not_done ps slot o (subst (IsPlaced ps.master slot) (sym tablet_is) doing.placed) (orders.fresh c lies) (before.each o isin));
      each = λ q isin. elim isin [
        | inl is ↦ subst (DoneIn new) is (done_here new activity_new changes_new slot c.operation (kind_of c.body) inv_new held did)
        | inr old ↦ h.each q old
      ];
    }

abbrev DoesOnce : Act → ℕ → Parts → List Obeyed → Outcome → Type 0
DoesOnce act n ps os o = DoneOnce (told act o n ps) (obeyed_by act o.reply (told act o n ps) ++ os)

processing_once : (inbox : List TabletCommand) (ps : Parts) (activity : List Interval) (changes : List Made) (activity_new : List Interval) (changes_new : List Made) (slot other n : ℕ) (os : List Obeyed) → Inv ps activity changes → 1 ≤ slot → (ps.tablet slot).inbox ≡ inbox
    → Inv (told (Process slot other) (processing inbox slot other (ps.tablet other)) n ps) activity_new changes_new → DoneOnce (told (Process slot other) (processing inbox slot other (ps.tablet other)) n ps) os → DoneOnce ps os
    → DoesOnce (Process slot other) n ps os (processing inbox slot other (ps.tablet other))
processing_once [] ps activity changes activity_new changes_new slot other n os inv from e inv_new h before = h
processing_once (c ∷ cs) ps activity changes activity_new changes_new slot other n os inv from e inv_new h before =
    by_refusal (λ o. Inv (told (Process slot other) o n ps) activity_new changes_new → DoneOnce (told (Process slot other) o n ps) os → DoesOnce (Process slot other) n ps os o)
    (If (not (eqb other (source_slot slot c.body))) (OtherSlot (source_slot slot c.body)) ∷ []) (tells slot (ProcessTablet (rows_for c.body (ps.tablet other).frozen)) (Done c.operation (kind_of c.body)))
    (λ why i k. k)
    (λ passes i k. one_more ps activity changes activity_new changes_new slot other n c cs (rows_for c.body (ps.tablet other).frozen) os inv from e i k before)
    inv_new h

act_once : (act : Act) (ps : Parts) (activity : List Interval) (changes : List Made) (activity_new : List Interval) (changes_new : List Made) (slots n : ℕ) (os : List Obeyed) → ActAsked slots act → Inv ps activity changes → Inv (told act (outcome act n ps) n ps) activity_new changes_new
    → DoneOnce (told act (outcome act n ps) n ps) os → DoneOnce ps os → DoesOnce act n ps os (outcome act n ps)
unfolding process
act_once (Process slot other) ps activity changes activity_new changes_new slots n os asked inv inv_new h before = processing_once (ps.tablet slot).inbox ps activity changes activity_new changes_new slot other n os inv asked.0.0 refl inv_new h before
act_once _ ps activity changes activity_new changes_new slots n os asked inv inv_new h before = h

all_once : (history : List Entry) (slots : ℕ) → Legal slots history → DoneOnce (replay slots history) (commands_done slots history)
unfolding replay commands_done
all_once [] slots legal = record { once = tt; each = λ o isin. absurd isin }
all_once (e ∷ earlier) slots legal =
    let ps = replay slots earlier in
    let act = e.event.act in
    let n = e.stamp in
    let new = told act (outcome act n ps) n ps in
    let before = all_once earlier slots legal.0 in
    let inv = (legal_holds earlier slots legal.0).inv in
    let inv_new = (legal_holds (e ∷ earlier) slots legal).inv in
    let kept = none_now ps new _ _ _ _ (commands_done slots earlier) inv inv_new (master_goes act n ps inv.operations.apart.clone_ids) (part_goes act n ps) before in
    subst (λ reply. DoneOnce new (obeyed_by act reply new ++ commands_done slots earlier)) (sym legal.1.reply) (act_once act ps _ _ _ _ slots n (commands_done slots earlier) legal.1.asked.act inv inv_new kept before)

-- no tablet does a command of an operation twice
pub none_again : (history : List Entry) (slots : ℕ) → Legal slots history → NoneAgain (commands_done slots history)
none_again history slots legal = (all_once history slots legal).once
