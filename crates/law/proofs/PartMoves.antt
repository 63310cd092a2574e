-- The parts' versions are those of the journal's schemas: through what tablets do of their commands.
use Rattle.std.proofs.Common.{◌≡◌, ◌≢◌, ℕ, ◌≤◌, true, false, List, [], ◌∷◌, ◌++◌, None, inl, refl, sym, ap, subst, ◌∙◌, arith, not, eqb}
use Rattle.std.proofs.lemmas.Bool.{cond_both}
use Rattle.model.specs.Cluster.{KeyedRow, Id, In, has, Interval, Listed, RestorationRecord, RestorationState, Fencing, Restoring, Releasing, CloneRecord, CloneState, CloneSnapshot, Copying, CloneReleasing, TabletPair, is_visible, Process, Idle, Done, OtherSlot, Master, Parts, If, refused}
use Rattle.model.specs.Journal as made
use Rattle.model.specs.Tablets as tell
use Rattle.model.specs.Tablets.{Tablet, Command, Body, Fence, Freeze, RestoreFrom, Hide, Copy, Release, BodyKind, RestoreFromKind, CopyKind, Mark, kind_of, is_done, processed, obeyed}
use Rattle.model.specs.Stands.{awaited_in, is_restore}
use Rattle.model.specs.Drawn.{version_by}
use Rattle.model.specs.Coordination.{source_slot, rows_for, processing, process}
use Rattle.model.specs.Entries.{slots_of}
use Rattle.model.specs.History.{told}
use Rattle.law_invariants.specs.Invariant.{Inv, Later}
use Rattle.law_invariants.specs.Operations.{OperationsGood, RestorationStateGood, CloneStateGood, IsAfterSwitch}
use Rattle.law_invariants.proofs.Frame.{tells, slot_told}
use Rattle.law_commands.proofs.Doing.{awaited_kept, same_restores}
use Rattle.law_invariants.proofs.DoneMarks.{done_beside}
use Rattle.law_invariants.proofs.Commanded.{IsPending, BySnapshot, ByRestoration, ByClone, IsUnacked, pending_is, none_in}
use Rattle.law_commands.proofs.Processing.{first_touched}
use Rattle.law_retention.proofs.Outcomes.{by_refusal}
use Rattle.law.proofs.PartVersions.{IsComing, IsCopying, VersionsGood}
use Rattle.law.proofs.PartCommands.{Leads, Leaves, light_leaves, answers_light}

-- what holds of one part
record PartGood (m : Master) (changes : List made.Change) (slot : ℕ) (t : Tablet) : Type 0 where
  active : (i : Interval) → In i m.activity → i.to ≡ None → i.slot ≡ slot → awaited_in m.restorations t.tablet t.done ≡ None → t.version ≡ version_by changes i.table
  copied : (p : TabletPair) (id : Id) → IsCopying m.clones p id → p.slot ≡ slot → is_done t.done id CopyKind ≡ true → t.version ≡ 1

part_of : (m : Master) (tablet : ℕ → Tablet) (changes : List made.Change) → VersionsGood m tablet changes → (slot : ℕ) → PartGood m changes slot (tablet slot)
part_of m tablet changes h slot = record {
  active = λ i isin opened at. subst (λ s. awaited_in m.restorations (tablet s).tablet (tablet s).done ≡ None → (tablet s).version ≡ version_by changes i.table) at (h.active i isin opened);
  copied = λ p id c at. subst (λ s. is_done (tablet s).done id CopyKind ≡ true → (tablet s).version ≡ 1) at (h.copied p id c);
}

all_parts : (m : Master) (old tablet : ℕ → Tablet) (changes : List made.Change) → VersionsGood m old changes → ((slot : ℕ) → PartGood m changes slot (tablet slot)) → VersionsGood m tablet changes
all_parts m old tablet changes h parts = record {
  active = λ i isin opened came. (parts i.slot).active i isin opened refl came;
  coming = h.coming;
  copied = λ p id c did. (parts p.slot).copied p id c refl did;
}

-- a command that gives no version

kept_part : (m : Master) (changes : List made.Change) (slot : ℕ) (t v : Tablet) (k : Mark) → k.kind ≢ RestoreFromKind → k.kind ≢ CopyKind → v.version ≡ t.version → v.tablet ≡ t.tablet → v.done ≡ t.done ++ k ∷ [] → PartGood m changes slot t → PartGood m changes slot v
kept_part m changes slot t v k no_restore no_copy version tablet done h = record {
  active = λ i isin opened at came. version ∙ h.active i isin opened at
      (sym (awaited_kept m.restorations t.tablet t.done (t.done ++ k ∷ []) (same_restores m.restorations t.done k no_restore))
      ∙ ap (awaited_in m.restorations t.tablet) (sym done) ∙ ap (λ x. awaited_in m.restorations x v.done) (sym tablet) ∙ came);
  copied = λ p id c at did. version ∙ h.copied p id c at (sym (done_beside t.done k id CopyKind (λ of is. no_copy is)) ∙ ap (λ d. is_done d id CopyKind) (sym done) ∙ did);
}

-- a command to take back rows

record RestoreIs (m : Master) (slot : ℕ) (tablet from : Id) (to at version : ℕ) : Type 0 where
  coming : IsComing m.restorations tablet version
  now : Interval
  kept : In now m.activity
  slot_is : now.slot ≡ slot
  tablet_is : now.tablet ≡ tablet

restore_state : (state : RestorationState) (m : Master) (changes : List made.Change) (r : RestorationRecord) (slot : ℕ) (l : Listed) (from : Id) (to at version : ℕ) → In r m.restorations → r.state ≡ state → IsUnacked r.listed slot l → l.body ≡ RestoreFrom from to at version
    → RestorationStateGood state m changes r → RestoreIs m slot l.tablet from to at version
restore_state (Restoring point serving) m changes r slot l from to at version known is k body g =
    let b = g.back l k.listed (ap is_restore body) in
    record {
      coming = record { restoration = r; known = known; point = point; serving = serving; state_is = is; line = l; listed = k.listed; tablet_is = refl; from = from; to = to; at = at; body_is = body };
      now = b.now;
      kept = b.kept_now;
      slot_is = b.slot_now ∙ k.slot_is;
      tablet_is = b.tablet_now;
    }
restore_state Fencing m changes r slot l from to at version known is k body g = absurd (let q : Fence ≡ RestoreFrom from to at version = sym (g.bodies l k.listed) ∙ body in grind arith)
restore_state (Releasing point serving) m changes r slot l from to at version known is k body g = absurd (let q : Release point ≡ RestoreFrom from to at version = sym (g.bodies l k.listed) ∙ body in grind arith)
restore_state _ m changes r slot l from to at version known is k body g = absurd (none_in r.listed l g.empty k.listed)

clone_restores : (state : CloneState) (m : Master) (c : CloneRecord) (slot : ℕ) (l : Listed) (from : Id) (to at version : ℕ) → IsUnacked c.listed slot l → l.body ≡ RestoreFrom from to at version → CloneStateGood state m c → ⊥
clone_restores (CloneSnapshot own) m c slot l from to at version k body g = none_in c.listed l g.empty k.listed
clone_restores (Copying serving copied) m c slot l from to at version k body g =
    let b = g.bodies l k.listed in let q : Copy b.pair.source_slot serving c.to copied b.pair.table b.pair.low b.pair.high 1 ≡ RestoreFrom from to at version = sym b.body_is ∙ body in grind arith
clone_restores (CloneReleasing serving copied) m c slot l from to at version k body g = let q : Release g.since ≡ RestoreFrom from to at version = sym (g.bodies l k.listed) ∙ body in grind arith
clone_restores _ m c slot l from to at version k body g = none_in c.listed l g k.listed

restore_is : (m : Master) (changes : List made.Change) (operation : Id) (slot : ℕ) (l : Listed) (from : Id) (to at version : ℕ) → OperationsGood m changes → IsPending m operation slot l → l.body ≡ RestoreFrom from to at version → RestoreIs m slot l.tablet from to at version
restore_is m changes operation slot l from to at version ops (BySnapshot k) body =
    absurd (let q : Freeze k.snapshot.id k.snapshot.at ≡ RestoreFrom from to at version = sym ((ops.snapshots k.snapshot k.kept).bodies l k.line.listed) ∙ body in grind arith)
restore_is m changes operation slot l from to at version ops (ByRestoration k) body = restore_state k.restoration.state m changes k.restoration slot l from to at version k.kept refl k.line body (ops.restorations k.restoration k.kept).in_state
restore_is m changes operation slot l from to at version ops (ByClone k) body = absurd (clone_restores k.clone.state m k.clone slot l from to at version k.line body (ops.clones k.clone k.kept).in_state)

-- a command to copy

pub record CopyIs (m : Master) (slot : ℕ) (tablet : Id) (version : ℕ) : Type 0 where
  pub one : version ≡ 1
  pub free : (i : Interval) → In i m.activity → i.slot ≡ slot → ⊥
  pub clone : CloneRecord
  pub known : In clone m.clones
  pub hidden : is_visible clone.state ≡ false
  pub pair : TabletPair
  pub paired : In pair clone.tablets
  pub slot_is : pair.slot ≡ slot
  pub tablet_is : pair.target ≡ tablet

restore_copies : (state : RestorationState) (m : Master) (changes : List made.Change) (r : RestorationRecord) (slot : ℕ) (l : Listed) (k : BodyKind) → kind_of l.body ≡ CopyKind → IsUnacked r.listed slot l → RestorationStateGood state m changes r → ⊥
restore_copies Fencing m changes r slot l k body u g = let q : kind_of Fence ≡ CopyKind = ap kind_of (sym (g.bodies l u.listed)) ∙ body in grind arith
restore_copies (Restoring point serving) m changes r slot l k body u g = never l.body body (g.bodies l u.listed)
  where
    never : (b : Body) → kind_of b ≡ CopyKind → IsAfterSwitch r.to point serving b → ⊥
    never (Copy source snapshot to stamp table low high version) e h = h
    never _ e h = let q = e in grind arith
restore_copies (Releasing point serving) m changes r slot l k body u g = let q : kind_of (Release point) ≡ CopyKind = ap kind_of (sym (g.bodies l u.listed)) ∙ body in grind arith
restore_copies _ m changes r slot l k body u g = none_in r.listed l g.empty u.listed

copy_state : (state : CloneState) (m : Master) (changes : List made.Change) (c : CloneRecord) (slot source : ℕ) (l : Listed) (snapshot table : Id) (to stamp low high version : ℕ) → In c m.clones → c.state ≡ state → OperationsGood m changes → IsUnacked c.listed slot l
    → l.body ≡ Copy source snapshot to stamp table low high version → CloneStateGood state m c → CopyIs m slot l.tablet version
copy_state (Copying serving copied) m changes c slot source l snapshot table to stamp low high version known is ops u body g =
    let b = g.bodies l u.listed in
    let same_ : Copy b.pair.source_slot serving c.to copied b.pair.table b.pair.low b.pair.high 1 ≡ Copy source snapshot to stamp table low high version = sym b.body_is ∙ body in
    record {
      one = (let q : 1 ≡ version = cc in sym q);
      free = λ i isin at. ((ops.clones c known).reserved (ap is_visible is) b.pair b.paired).free i isin (at ∙ sym u.slot_is ∙ b.slot_is);
      clone = c;
      known = known;
      hidden = ap is_visible is;
      pair = b.pair;
      paired = b.paired;
      slot_is = sym b.slot_is ∙ u.slot_is;
      tablet_is = sym b.tablet_is;
    }
copy_state (CloneSnapshot own) m changes c slot source l snapshot table to stamp low high version known is ops u body g = absurd (none_in c.listed l g.empty u.listed)
copy_state (CloneReleasing serving copied) m changes c slot source l snapshot table to stamp low high version known is ops u body g = absurd (let q : Release g.since ≡ Copy source snapshot to stamp table low high version = sym (g.bodies l u.listed) ∙ body in grind arith)
copy_state _ m changes c slot source l snapshot table to stamp low high version known is ops u body g = absurd (none_in c.listed l g u.listed)

pub copy_is : (m : Master) (changes : List made.Change) (operation : Id) (slot source : ℕ) (l : Listed) (snapshot table : Id) (to stamp low high version : ℕ) → OperationsGood m changes → IsPending m operation slot l → l.body ≡ Copy source snapshot to stamp table low high version → CopyIs m slot l.tablet version
copy_is m changes operation slot source l snapshot table to stamp low high version ops (BySnapshot k) body =
    absurd (let q : Freeze k.snapshot.id k.snapshot.at ≡ Copy source snapshot to stamp table low high version = sym ((ops.snapshots k.snapshot k.kept).bodies l k.line.listed) ∙ body in grind arith)
copy_is m changes operation slot source l snapshot table to stamp low high version ops (ByRestoration k) body = absurd (restore_copies k.restoration.state m changes k.restoration slot l CopyKind (ap kind_of body) k.line (ops.restorations k.restoration k.kept).in_state)
copy_is m changes operation slot source l snapshot table to stamp low high version ops (ByClone k) body = copy_state k.clone.state m changes k.clone slot source l snapshot table to stamp low high version k.kept refl ops k.line body (ops.clones k.clone k.kept).in_state

-- a tablet does a command
part_done : (body : Body) (ps : Parts) (activity : List Interval) (changes : List made.Change) (slot n : ℕ) (operation tablet : Id) (cs : List Command) (rows : List KeyedRow) → Inv ps activity changes → VersionsGood ps.master ps.tablet changes
    → IsPending ps.master operation slot (record { tablet = tablet; slot = slot; body = body; acked = false }) → PartGood ps.master changes slot (processed (record { operation = operation; tablet = tablet; body = body } ∷ cs) rows n (ps.tablet slot))
part_done Fence ps activity changes slot n operation tablet cs rows inv h pends =
    kept_part ps.master changes slot (ps.tablet slot) _ (record { operation = operation; kind = tell.FenceKind }) (λ e. let q = e in grind arith) (λ e. let q = e in grind arith) refl refl refl (part_of ps.master ps.tablet changes h slot)
part_done (Freeze snapshot at) ps activity changes slot n operation tablet cs rows inv h pends =
    kept_part ps.master changes slot (ps.tablet slot) _ (record { operation = operation; kind = tell.FreezeKind }) (λ e. let q = e in grind arith) (λ e. let q = e in grind arith) refl refl refl (part_of ps.master ps.tablet changes h slot)
part_done (Hide ended) ps activity changes slot n operation tablet cs rows inv h pends =
    kept_part ps.master changes slot (ps.tablet slot) _ (record { operation = operation; kind = tell.HideKind }) (λ e. let q = e in grind arith) (λ e. let q = e in grind arith) refl refl refl (part_of ps.master ps.tablet changes h slot)
part_done (Release cutoff) ps activity changes slot n operation tablet cs rows inv h pends =
    kept_part ps.master changes slot (ps.tablet slot) _ (record { operation = operation; kind = tell.ReleaseKind }) (λ e. let q = e in grind arith) (λ e. let q = e in grind arith) refl refl refl (part_of ps.master ps.tablet changes h slot)
part_done (RestoreFrom from to at version) ps activity changes slot n operation tablet cs rows inv h pends =
    let k = restore_is ps.master changes operation slot _ from to at version inv.operations pends refl in
    record {
      active = λ i isin opened here came. (
          let tablet_is : i.tablet ≡ tablet = sym ((inv.slots slot).each i isin here).tablet_is ∙ ((inv.slots slot).each k.now k.kept k.slot_is).tablet_is ∙ k.tablet_is in
          h.coming i version isin opened (subst (λ x. IsComing ps.master.restorations x version) (sym tablet_is) k.coming));
      copied = λ p id c here did. absurd (((inv.operations.clones c.clone c.known).reserved (ap is_visible c.state_is) p c.paired).free k.now k.kept (k.slot_is ∙ sym here));
    }
part_done (Copy source snapshot to stamp table low high version) ps activity changes slot n operation tablet cs rows inv h pends =
    let k = copy_is ps.master changes operation slot source _ snapshot table to stamp low high version inv.operations pends refl in
    record { active = λ i isin opened here came. absurd (k.free i isin here); copied = λ p id c here did. k.one }

ticked_part : (m : Master) (changes : List made.Change) (slot n : ℕ) (t : Tablet) → PartGood m changes slot t → PartGood m changes slot (record t { clock = n })
ticked_part m changes slot n t h = record { active = h.active; copied = h.copied }

process_of : (inbox : List Command) (ps : Parts) (activity : List Interval) (changes : List made.Change) (n slot other : ℕ) → (ps.tablet slot).inbox ≡ inbox → Later (slots_of (Process slot other)) ps n → 1 ≤ slot → Leads ps activity changes
    → Leaves (Process slot other) n ps changes (processing inbox slot other (ps.tablet other))
process_of [] ps activity changes n slot other e later from h = light_leaves (Process slot other) n ps activity changes (refused Idle) (answers_light _) (λ table. refl) h
process_of (c ∷ cs) ps activity changes n slot other e later from h =
    let m = ps.master in
    let act = Process slot other in
    let rows = rows_for c.body (ps.tablet other).frozen in
    let reply = Done c.operation (kind_of c.body) in
    let lies : In c (ps.tablet slot).inbox = subst (In c) (sym e) (inl refl) in
    let pends = pending_is m c.operation slot _ ((h.inv.works slot).orders.orders c lies).is_pending in
    let done : PartGood m changes slot (processed (c ∷ cs) rows n (ps.tablet slot)) = part_done c.body ps activity changes slot n c.operation c.tablet cs rows h.inv h.good pends in
    by_refusal (Leaves act n ps changes) (If (not (eqb other (source_slot slot c.body))) (OtherSlot (source_slot slot c.body)) ∷ []) (tells slot (tell.Process rows) reply)
    (λ why. light_leaves act n ps activity changes (refused why) (answers_light _) (λ table. refl) h)
    (λ passes held tabled.
    let parts = slot_told (PartGood m changes) act reply slot (tell.Process rows) n ps later (first_touched slot other from) (λ i t le p. ticked_part m changes i n t p) (λ i apart. part_of m ps.tablet changes h.good i)
    (subst (λ q. PartGood m changes slot (processed q rows n (ps.tablet slot))) (sym e) done) in
    let all : VersionsGood m (told act (tells slot (tell.Process rows) reply) n ps).tablet changes = all_parts m ps.tablet _ changes h.good parts in
    cond_both (has (slots_of act) 0) (record m { clock = n }) m (λ k. VersionsGood k (told act (tells slot (tell.Process rows) reply) n ps).tablet changes) (λ b. record { active = all.active; coming = all.coming; copied = all.copied }) (λ b. all))

pub process_leaves : (ps : Parts) (activity : List Interval) (changes : List made.Change) (n slot other : ℕ) → Later (slots_of (Process slot other)) ps n → 1 ≤ slot → Leads ps activity changes → Leaves (Process slot other) n ps changes (process slot other n ps)
unfolding process
process_leaves ps activity changes n slot other later from h = process_of (ps.tablet slot).inbox ps activity changes n slot other refl later from h
