-- The parts' versions are those of the journal's schemas: through moves of records.
use Rattle.std.proofs.Common.{◌≡◌, ℕ, ◌<◌, ◌+◌, Bool, true, false, List, ◌∷◌, ◌++◌, Option, Some, None, inl, inr, refl, sym, ap, subst, ◌∙◌, arith, cond, map, if◌then◌else◌}
use Rattle.std.specs.Option.{option_map, option_map_or}
use Rattle.std.proofs.lemmas.Bool.{true≢false}
use Rattle.model.specs.Cluster.{Id, Kind, Snapshot, RestorationKind as Restoration, CloneKind as Clone, same, In, Interval, active_at, TableRecord, owner_of, owns, is_owned_by, current_table, Tablet, Mark, RestoreFrom, Hide, CopyKind, is_done, Listed, Schedule, SnapshotRecord, RestorationRecord, RestorationState, Fencing, Snapshotting, Switching, Restoring, Releasing, Restored, CloneRecord, CloneState, Accepted, CloneSnapshot, Copying, CloneReleasing, CloneComplete, TabletPair, is_restored, is_cloned, is_visible, first_unacked, schedule_of, State, Advance, NotPending, Waiting, Master, Parts, refused}
use Rattle.model.specs.Journal as made
use Rattle.model.specs.Journal.{NamespaceRestored, NamespaceCloned, TableView, table_at, is_in, source_of}
use Rattle.model.specs.Stands.{awaited_in, awaited_of}
use Rattle.model.specs.Drawn.{version_by, first_version}
use Rattle.model.specs.Coordination.{unfinished_snapshot, unfinished_restoration, unfinished_clone}
use Rattle.model.specs.Moves.{Progress, advance, advancing, moving, moved_of, progress_of, waits_for, completed, restoration_moved, clone_moved, begins_clone, clone_goes, with_clones_snapshot, serving_clone, snapshot_progress, restoration_progress, clone_progress}
use Rattle.model.specs.History.{told, with_either, with_restoration, with_clone}
use Rattle.model.specs.Restored.{version_of, cloned_activity}
use Rattle.law_store.proofs.Keys.{either_way}
use Rattle.law_invariants.specs.Invariant.{Inv}
use Rattle.law_invariants.specs.Orders.{cloning_stage, stage_of_clone, CopyingSlot, CloneSlot}
use Rattle.law_invariants.specs.Operations.{CopyingGood, CloneStateGood}
use Rattle.law_invariants.proofs.Advancing.{mapped_some, no_restoration, no_clone, moves, all_acked}
use Rattle.law_invariants.proofs.Finding.{same_equal, in_append, in_mapped}
use Rattle.law_invariants.proofs.Listing.{one_place}
use Rattle.law_invariants.proofs.Pending.{unfinished_restoration_is, unfinished_clone_is}
use Rattle.law_invariants.proofs.Slots.{done_is}
use Rattle.law_invariants.proofs.Using.{mapped_is}
use Rattle.law_moves.proofs.Entering.{entering, entered, entering_it, entering_other, awaited_mapped}
use Rattle.law_moves.proofs.Moving.{releases}
use Rattle.law_moves.proofs.Switching.{IsSwitch, turned, listed_then, interval_is, ended_mine, awaited_back, awaited_other, other_was, origin, line_is, other_namespace, not_mine}
use Rattle.law_invariants.proofs.Covering.{not_open}
use Rattle.law_clones.proofs.Growing.{Becomes, takes_catalog}
use Rattle.law_clones.proofs.Viewing.{source_is, by_source}
use Rattle.law.proofs.PartVersions.{IsComing, IsCopying, VersionsGood, MasterGoes, PartStays, versions_go, versions_told, still, parts_stay}
use Rattle.law.proofs.PartCommands.{Leads, Leaves, Held, Tabled, drawn_in, light_leaves, answers_light}

-- parts that stay have the versions of a journal, under a master
abbrev Reaches : Parts → Master → List made.Change → Type 0
Reaches ps new more = (tablet : ℕ → Tablet) → ((slot : ℕ) → PartStays (ps.tablet slot) (tablet slot)) → Held (record { master = new; tablet = tablet }) → Tabled new more → VersionsGood new tablet more

goes_reach : (ps : Parts) (activity : List Interval) (changes : List made.Change) (new : Master) (more : List made.Change) → Leads ps activity changes
    → ((tablet : ℕ → Tablet) → ((slot : ℕ) → PartStays (ps.tablet slot) (tablet slot)) → Held (record { master = new; tablet = tablet }) → MasterGoes ps.master new ps.tablet tablet changes more) → Reaches ps new more
goes_reach ps activity changes new more h goes tablet parts held tabled =
    versions_go ps.master new ps.tablet tablet changes more (goes tablet parts held) (λ slot. inl (parts slot)) (drawn_in ps activity changes h.inv) held h.good

-- A restoration enters a state in which it brings back nothing

enters_reach : (ps : Parts) (activity : List Interval) (changes : List made.Change) (new : Master) (r : RestorationRecord) (state : RestorationState) (listed : List Listed) → Leads ps activity changes → In r ps.master.restorations
    → new.activity ≡ ps.master.activity → new.restorations ≡ map (entering r state listed) ps.master.restorations → new.clones ≡ ps.master.clones
    → ((point : ℕ) (serving : Id) → state ≡ Restoring point serving → ⊥) → ((tablet : Id) (done : List Mark) → awaited_of state (entered r state listed) tablet done ≡ None)
    → ((i : Interval) → In i ps.master.activity → awaited_of r.state r (ps.tablet i.slot).tablet (ps.tablet i.slot).done ≡ None) → Reaches ps new changes
enters_reach ps activity changes new r state listed h there same_activity same_restorations same_clones none unawaited settled = goes_reach ps activity changes new changes h (λ tablet parts held.
    let m = ps.master in
    record {
      opens = λ i isin opened. inl (subst (In i) same_activity isin);
      versions = λ i isin. refl;
      awaits = λ i isin opened e. (
          let t = ps.tablet i.slot in
          sym (awaited_mapped m.restorations (entering r state listed) t.tablet t.done (λ x in_x. either_way (same x.id r.id)
          (λ b.
          let one : r ≡ x = sym (h.inv.operations.apart.restoration_ids x r in_x there (same_equal x.id r.id b)) in
          subst (λ x. awaited_of (entering r state listed x).state (entering r state listed x) t.tablet t.done ≡ awaited_of x.state x t.tablet t.done) one
          (ap (λ y. awaited_of y.state y t.tablet t.done) (entering_it r state listed) ∙ unawaited t.tablet t.done ∙ sym (settled i isin)))
          (λ b. ap (λ y. awaited_of y.state y t.tablet t.done) (entering_other r state listed x b))))
          ∙ subst (λ rs. awaited_in rs t.tablet t.done ≡ None) same_restorations e);
      comes = λ tablet version c. (
          let k = mapped_is (entering r state listed) m.restorations c.restoration (subst (In c.restoration) same_restorations c.known) in
          either_way (same k.0.id r.id)
          (λ b. absurd (none c.point c.serving (sym (ap (λ q. cond q state k.0.state) b) ∙ ap (λ y. y.state) k.1.1 ∙ c.state_is)))
          (λ b. record {
            restoration = c.restoration;
            known = subst (λ y. In y m.restorations) (sym (entering_other r state listed k.0 b) ∙ k.1.1) k.1.0;
            point = c.point;
            serving = c.serving;
            state_is = c.state_is;
            line = c.line;
            listed = c.listed;
            tablet_is = c.tablet_is;
            from = c.from;
            to = c.to;
            at = c.at;
            body_is = c.body_is;
          }));
      copies = λ p id k did. subst (λ cs. IsCopying cs p id) same_clones k;
    })

-- A switch: what the namespace has from the point on awaits its rows, under the version that its table then has

not_in : (ns id : Id) (owner : Option Id) (view : Option TableView) → ((v : TableView) → view ≡ Some v → owner ≡ Some v.namespace) → is_owned_by owner ns ≡ false → is_in ns view ≡ false
not_in ns id owner None inside other = refl
not_in ns id owner (Some v) inside other = ap (λ o. is_owned_by o ns) (sym (inside v refl)) ∙ other

version_is : (o : Option TableRecord) (v : ℕ) → option_map (λ r. r.schema.version) o ≡ Some v → option_map_or (λ r. r.schema.version) o 0 ≡ v
version_is None v e = absurd (let q = e in grind arith)
version_is (Some r) v e = cc

line_version : (b : Bool) (serving from : Id) (to point x y at v version : ℕ) → cond b (RestoreFrom serving to point v) (Hide point) ≡ RestoreFrom from x y version → v ≡ version
line_version true serving from to point x y at v version e = cc
line_version false serving from to point x y at v version e = absurd (let q = e in grind arith)

switch_reach : (ps : Parts) (activity : List Interval) (changes : List made.Change) (n : ℕ) (r : RestorationRecord) (point : ℕ) (serving : Id) → Leads ps activity changes → IsSwitch ps activity changes n r point serving
    → Reaches ps (turned ps.master r point serving n) (record { stamp = point; act = NamespaceRestored r.namespace r.to } ∷ changes)
switch_reach ps activity changes n r point serving h s tablet parts held tabled =
    let m = ps.master in
    let ns = r.namespace in
    let new = turned m r point serving n in
    let more = record { stamp = point; act = NamespaceRestored ns r.to } ∷ changes in
    let listed = listed_then m r point serving in
    let beside : (table : Id) → owns m.catalog.owners ns table ≡ false → version_by more table ≡ version_by changes table = λ table other.
    ap (λ b. if b then version_by changes table + 1 else version_by changes table) (not_in ns table (owner_of m.catalog.owners table) (table_at changes r.to table) (λ v e. h.inv.master.tables.inside table r.to v e) other) in
    let mine_awaits : (i : Interval) → In i new.activity → i.to ≡ None → owns m.catalog.owners ns i.table ≡ true → awaited_in new.restorations (ps.tablet i.slot).tablet (ps.tablet i.slot).done ≡ None → ⊥ = interval_is
    (λ j. j.to ≡ None → owns m.catalog.owners ns j.table ≡ true → awaited_in new.restorations (ps.tablet j.slot).tablet (ps.tablet j.slot).done ≡ None → ⊥) m r point
    (λ i there opened mine came. not_open point i.to (ap (λ k. k.to) (sym (ended_mine m ns point i mine)) ∙ opened))
    (λ i there owner active opened mine came. let q : Some point ≡ None = sym (awaited_back ps activity changes n r point serving i.slot i s (record { kept = there; at = refl }) owner active) ∙ came in grind arith) in
    let back : VersionsGood new ps.tablet more = record {
      active = λ i isin opened came. either_way (owns m.catalog.owners ns i.table)
          (λ mine. absurd (mine_awaits i isin opened mine came))
          (λ other.
          let kept = other_was m r point i isin other in
          h.good.active i kept opened (sym (awaited_other ps activity changes n r point serving i.slot i s (record { kept = kept; at = refl }) other) ∙ came) ∙ sym (beside i.table other));
      coming = λ i version isin opened c. (
          let k = mapped_is (entering r (Restoring point serving) listed) m.restorations c.restoration c.known in
          let o = origin m r point i isin in
          either_way (same k.0.id r.id)
          (λ b.
          let line : In c.line listed = subst (In c.line) (sym (ap (λ y. y.listed) k.1.1) ∙ ap (λ q. cond q listed k.0.listed) b) c.listed in
          let l = line_is m r point serving c.line line in
          let table_is : l.interval.table ≡ i.table = sym (one_place ps activity changes o.was l.interval h.inv o.kept l.kept (o.tablet_is ∙ sym c.tablet_is ∙ ap (λ j. j.tablet) (sym l.is))).table_is ∙ o.table_is in
          let given : version_of new.catalog.tables l.interval.table ≡ version = line_version (active_at r.to l.interval) serving c.from r.to point c.to c.at 0 _ version (ap (λ j. j.body) l.is ∙ c.body_is) in
          sym given ∙ ap (version_of new.catalog.tables) table_is ∙ version_is (current_table new.catalog.tables i.table) (version_by more i.table) (tabled i isin opened))
          (λ b.
          let is : k.0 ≡ c.restoration = sym (entering_other r (Restoring point serving) listed k.0 b) ∙ k.1.1 in
          let known : In c.restoration m.restorations = subst (λ y. In y m.restorations) is k.1.0 in
          let owner : owner_of m.catalog.owners i.table ≡ Some c.restoration.namespace = ap (owner_of m.catalog.owners) (sym o.table_is) ∙ h.inv.master.listed_of c.restoration c.line known c.listed o.was o.kept (o.tablet_is ∙ sym c.tablet_is) in
          let apart : c.restoration.namespace ≡ ns → ⊥ = other_namespace ps activity changes n r point serving c.restoration s known (ap (λ y. same y.id r.id) (sym is) ∙ b) (ap is_restored c.state_is) in
          let other = not_mine m ns c.restoration.namespace i.table owner apart in
          h.good.coming i version (other_was m r point i isin other) opened (record {
            restoration = c.restoration;
            known = known;
            point = c.point;
            serving = c.serving;
            state_is = c.state_is;
            line = c.line;
            listed = c.listed;
            tablet_is = c.tablet_is;
            from = c.from;
            to = c.to;
            at = c.at;
            body_is = c.body_is;
          }) ∙ sym (beside i.table other)));
      copied = h.good.copied;
    } in
    versions_told new ps.tablet tablet more parts (λ i isin. (held i isin).0) back

state_reaches : (state : RestorationState) (ps : Parts) (activity : List Interval) (changes : List made.Change) (n : ℕ) (r : RestorationRecord) → ps.master.clock < n → Leads ps activity changes → In r ps.master.restorations → r.state ≡ state → is_restored state ≡ false
    → ((l : Listed) → In l r.listed → l.acked ≡ true) → Reaches ps (restoration_moved state r n ps.master) (with_restoration state r changes)
state_reaches Fencing ps activity changes n r before h there is unfinished acked =
    enters_reach ps activity changes _ r _ _ h there refl refl refl (λ point serving e. let q = e in grind arith) (λ tablet done. refl) (λ i isin. ap (λ s. awaited_of s r (ps.tablet i.slot).tablet (ps.tablet i.slot).done) is)
state_reaches (Snapshotting point own) ps activity changes n r before h there is unfinished acked =
    enters_reach ps activity changes _ r _ _ h there refl refl refl (λ point serving e. let q = e in grind arith) (λ tablet done. refl) (λ i isin. ap (λ s. awaited_of s r (ps.tablet i.slot).tablet (ps.tablet i.slot).done) is)
state_reaches (Switching point serving) ps activity changes n r before h there is unfinished acked =
    switch_reach ps activity changes n r point serving h (record { before = before; there = there; is = is; inv = h.inv })
state_reaches (Restoring point serving) ps activity changes n r before h there is unfinished acked =
    enters_reach ps activity changes _ r _ _ h there refl refl refl (λ point serving e. let q = e in grind arith) (λ tablet done. refl)
    (λ i isin. (releases ps activity changes n r point serving before there is acked h.inv).settled i.slot ((h.inv.slots i.slot).each i isin refl).present)
state_reaches (Releasing point serving) ps activity changes n r before h there is unfinished acked =
    enters_reach ps activity changes _ r _ _ h there refl refl refl (λ point serving e. let q = e in grind arith) (λ tablet done. refl) (λ i isin. ap (λ s. awaited_of s r (ps.tablet i.slot).tablet (ps.tablet i.slot).done) is)
state_reaches (Restored point serving) ps activity changes n r before h there is unfinished acked = absurd (true≢false unfinished)

-- A clone

abbrev clone_entering : CloneRecord → CloneState → List Listed → CloneRecord → CloneRecord
clone_entering r state listed x = record x { listed = cond (same x.id r.id) listed x.listed; state = cond (same x.id r.id) state x.state }

-- a clone that begins to copy had not copied
entered_copies : (ps : Parts) (r : CloneRecord) (state : CloneState) (listed : List Listed) (new : Master) → new.clones ≡ map (clone_entering r state listed) ps.master.clones
    → ((serving : Id) (at slot : ℕ) → state ≡ Copying serving at → is_done (ps.tablet slot).done r.id CopyKind ≡ false)
    → (p : TabletPair) (id : Id) → IsCopying new.clones p id → is_done (ps.tablet p.slot).done id CopyKind ≡ true → IsCopying ps.master.clones p id
entered_copies ps r state listed new same_clones fresh p id k did =
    let j = mapped_is (clone_entering r state listed) ps.master.clones k.clone (subst (In k.clone) same_clones k.known) in
    either_way (same j.0.id r.id)
    (λ b.
    let copying : state ≡ Copying k.serving k.at = sym (ap (λ q. cond q state j.0.state) b) ∙ ap (λ y. y.state) j.1.1 ∙ k.state_is in
    let id_is : r.id ≡ id = sym (same_equal j.0.id r.id b) ∙ ap (λ y. y.id) j.1.1 ∙ k.id_is in
    absurd (true≢false (sym did ∙ ap (λ x. is_done (ps.tablet p.slot).done x CopyKind) (sym id_is) ∙ fresh k.serving k.at p.slot copying)))
    (λ b.
    let is : j.0 ≡ k.clone = sym (ap (λ q. record j.0 { listed = cond q listed j.0.listed; state = cond q state j.0.state }) b) ∙ j.1.1 in
    record { clone = k.clone; known = subst (λ y. In y ps.master.clones) is j.1.0; serving = k.serving; at = k.at; state_is = k.state_is; paired = k.paired; id_is = k.id_is })

clone_reach : (ps : Parts) (activity : List Interval) (changes : List made.Change) (new : Master) (r : CloneRecord) (state : CloneState) (listed : List Listed) → Leads ps activity changes
    → new.activity ≡ ps.master.activity → new.restorations ≡ ps.master.restorations → new.clones ≡ map (clone_entering r state listed) ps.master.clones
    → ((serving : Id) (at slot : ℕ) → state ≡ Copying serving at → is_done (ps.tablet slot).done r.id CopyKind ≡ false) → Reaches ps new changes
clone_reach ps activity changes new r state listed h same_activity same_restorations same_clones fresh = goes_reach ps activity changes new changes h (λ tablet parts held. record {
  opens = λ i isin opened. inl (subst (In i) same_activity isin);
  versions = λ i isin. refl;
  awaits = λ i isin opened e. subst (λ rs. awaited_in rs (ps.tablet i.slot).tablet (ps.tablet i.slot).done ≡ None) same_restorations e;
  comes = λ tablet version k. subst (λ rs. IsComing rs tablet version) same_restorations k;
  copies = entered_copies ps r state listed new same_clones fresh;
})

-- before it copies no target has
not_copied : (ps : Parts) (activity : List Interval) (changes : List made.Change) (r : CloneRecord) (slot : ℕ) → Inv ps activity changes → In r ps.master.clones → stage_of_clone r.state ≡ 0 → is_done (ps.tablet slot).done r.id CopyKind ≡ false
not_copied ps activity changes r slot inv there stage = either_way (is_done (ps.tablet slot).done r.id CopyKind)
    (λ did. absurd (
    let k = done_is (ps.tablet slot).done r.id CopyKind did in
    let l = ((inv.works slot).orders.marks k.0 k.1.0).by_clone r there (sym k.1.1.0) in
    let e : cloning_stage k.0.kind ≡ 1 = ap cloning_stage k.1.1.1 in omega arith))
    (λ b. b)

-- the target's tablets have copied, and are active
becomes_reach : (ps : Parts) (activity : List Interval) (changes : List made.Change) (n : ℕ) (r : CloneRecord) (serving : Id) (at : ℕ) (listed : List Listed) (new : Master) → Leads ps activity changes → In r ps.master.clones → r.state ≡ Copying serving at
    → ((l : Listed) → In l r.listed → l.acked ≡ true) → new.activity ≡ ps.master.activity ++ cloned_activity n r.tablets → new.restorations ≡ ps.master.restorations → new.clones ≡ map (clone_entering r (CloneReleasing serving at) listed) ps.master.clones
    → Reaches ps new (record { stamp = n; act = NamespaceCloned r.source r.target_id r.target r.to r.tables } ∷ changes)
becomes_reach ps activity changes n r serving at listed new h there is acked same_activity same_restorations same_clones =
    let m = ps.master in
    let more = record { stamp = n; act = NamespaceCloned r.source r.target_id r.target r.to r.tables } ∷ changes in
    let good = h.inv.operations.clones r there in
    let dark : is_visible r.state ≡ false = ap is_visible is in
    let b : Becomes ps activity changes (m.clock + 1) r serving at = record { before = omega arith; kept = there; is = is; inv = h.inv } in
    let take = takes_catalog ps activity changes (m.clock + 1) r serving at b in
    let copying : CopyingGood m r serving at = subst (λ st. CloneStateGood st m r) is good.in_state in
    goes_reach ps activity changes new more h (λ tablet parts held. record {
      opens = λ i isin opened. elim (in_append m.activity (cloned_activity n r.tablets) i (subst (In i) same_activity isin)) [
        | inl was ↦ inl was
        | inr begun ↦ (
            let j = in_mapped {A = TabletPair} {B = Interval} (λ p. record { slot = p.slot; tablet = p.target; table = p.table; low = p.low; high = p.high; from = n; to = None })
            (λ i. (p : TabletPair) × (In p r.tablets × ((p.slot ≡ i.slot) × ((p.target ≡ i.tablet) × (p.table ≡ i.table))))) r.tablets (λ p paired. (p, (paired, (refl, (refl, refl))))) i begun in
            let p = j.0 in
            let l = copying.all p j.1.0 in
            let slots : CopyingSlot m changes r at p.slot (ps.tablet p.slot) = subst (λ st. CloneSlot st m changes r p.slot (ps.tablet p.slot)) is ((h.inv.works p.slot).obeyed.clones r there) in
            let did : is_done (ps.tablet p.slot).done r.id CopyKind ≡ true = slots.acked l.0 l.1.0 l.1.1.1 (acked l.0 l.1.0) in
            let one : (ps.tablet i.slot).version ≡ 1 = ap (λ s. (ps.tablet s).version) (sym j.1.1.0) ∙ h.good.copied p r.id (record { clone = r; known = there; serving = serving; at = at; state_is = is; paired = j.1.0; id_is = refl }) did in
            let source = good.sources (ap is_cloned is) p j.1.0 in
            let first : version_by more i.table ≡ 1 = ap (version_by more) (sym (source.target_is ∙ j.1.1.1.1)) ∙ ap (λ o. first_version o (version_by changes source.pair.target)) (source_is r.tables source.pair take.apart source.paired) in
            inr (record {
              version = elim (parts i.slot) [
                | inl e ↦ e.0 ∙ one ∙ sym first
                | inr gone ↦ absurd (true≢false (sym gone.0 ∙ (held i isin).0))
              ];
              apart = λ version c. (good.reserved dark p j.1.0).no_restoration c.restoration c.line (subst (In c.restoration) same_restorations c.known) c.listed (c.tablet_is ∙ sym j.1.1.1.0);
            }))
      ];
      versions = λ i isin. by_source r.tables i.table (λ none. ap (λ o. first_version o (version_by changes i.table)) none)
          (λ d paired target. absurd (good.no_tablet dark i isin (ap (owner_of m.catalog.owners) (sym target) ∙ take.target d paired)));
      awaits = λ i isin opened e. subst (λ rs. awaited_in rs (ps.tablet i.slot).tablet (ps.tablet i.slot).done ≡ None) same_restorations e;
      comes = λ tablet version k. subst (λ rs. IsComing rs tablet version) same_restorations k;
      copies = entered_copies ps r (CloneReleasing serving at) listed new same_clones (λ serving at slot e. absurd (let q = e in grind arith));
    })

clone_reaches : (state : CloneState) (ps : Parts) (activity : List Interval) (changes : List made.Change) (n : ℕ) (r : CloneRecord) → Leads ps activity changes → In r ps.master.clones → r.state ≡ state → is_cloned state ≡ false
    → ((l : Listed) → In l r.listed → l.acked ≡ true) → Reaches ps (clone_moved state r n ps.master) (with_clone state r n changes)
clone_reaches Accepted ps activity changes n r h there is unfinished acked = begun (serving_clone ps.master r)
  where
    fresh : (serving : Id) (at slot : ℕ) (state : CloneState) → state ≡ Copying serving at → is_done (ps.tablet slot).done r.id CopyKind ≡ false
    fresh serving at slot state e = not_copied ps activity changes r slot h.inv there (ap stage_of_clone is)

    own : (o : Option Schedule) → Reaches ps (clone_goes Accepted None r n ps.master (with_clones_snapshot o r n ps.master)) changes
    own None = clone_reach ps activity changes _ r _ _ h refl refl refl (λ serving at slot e. fresh serving at slot _ e)
    own (Some s) = clone_reach ps activity changes _ r _ _ h refl refl refl (λ serving at slot e. fresh serving at slot _ e)

    begun : (o : Option SnapshotRecord) → Reaches ps (begins_clone o r n ps.master) changes
    begun (Some k) = clone_reach ps activity changes _ r _ _ h refl refl refl (λ serving at slot e. fresh serving at slot _ e)
    begun None = own (schedule_of ps.master.schedules r.source)
clone_reaches (CloneSnapshot own) ps activity changes n r h there is unfinished acked = clone_reach ps activity changes _ r _ _ h refl refl refl (λ serving at slot e. not_copied ps activity changes r slot h.inv there (ap stage_of_clone is))
clone_reaches (Copying serving at) ps activity changes n r h there is unfinished acked = becomes_reach ps activity changes n r serving at _ _ h there is acked refl refl refl
clone_reaches (CloneReleasing serving at) ps activity changes n r h there is unfinished acked = clone_reach ps activity changes _ r _ _ h refl refl refl (λ serving at slot e. absurd (let q = e in grind arith))
clone_reaches (CloneComplete serving at) ps activity changes n r h there is unfinished acked = absurd (true≢false unfinished)

-- By the kind of the operation

acked_in : (ls : List Listed) (p : Progress) → ls ≡ p.listed → ((l : Listed) → In l p.listed → l.acked ≡ true) → (l : Listed) → In l ls → l.acked ≡ true
acked_in ls p is acked l isin = acked l (subst (In l) is isin)

by_kind : (kind : Kind) (ps : Parts) (activity : List Interval) (changes : List made.Change) (n : ℕ) (operation : Id) (p : Progress) → operation.kind ≡ kind → ps.master.clock < n → Leads ps activity changes → progress_of kind ps.master operation ≡ Some p
    → ((l : Listed) → In l p.listed → l.acked ≡ true)
    → Reaches ps (moved_of kind operation n ps.master) (with_either (unfinished_restoration ps.master.restorations operation) (unfinished_clone ps.master.clones operation) n changes)
by_kind Snapshot ps activity changes n operation p is before h found acked =
    let m = ps.master in
    let f = mapped_some snapshot_progress (unfinished_snapshot m.snapshots operation) p found in
    let quiet : with_either (unfinished_restoration m.restorations operation) (unfinished_clone m.clones operation) n changes ≡ changes
    = ap (λ o. with_either o (unfinished_clone m.clones operation) n changes) (no_restoration m changes operation h.inv.operations (λ e. let q = sym is ∙ e in grind arith))
    ∙ ap (λ o. with_either None o n changes) (no_clone m changes operation h.inv.operations (λ e. let q = sym is ∙ e in grind arith)) in
    subst (λ o. Reaches ps (option_map_or (λ r. completed r n m) o (record m { clock = n })) (with_either (unfinished_restoration m.restorations operation) (unfinished_clone m.clones operation) n changes)) (sym f.1.0)
    (subst (Reaches ps (completed f.0 n m)) (sym quiet) (goes_reach ps activity changes (completed f.0 n m) changes h (λ tablet parts held. still m (completed f.0 n m) ps.tablet tablet changes changes refl refl refl (λ table. refl))))
by_kind Restoration ps activity changes n operation p is before h found acked =
    let m = ps.master in
    let f = mapped_some (restoration_progress m) (unfinished_restoration m.restorations operation) p found in
    let there = unfinished_restoration_is m.restorations operation f.0 f.1.0 in
    let quiet : with_either (unfinished_restoration m.restorations operation) (unfinished_clone m.clones operation) n changes ≡ with_restoration f.0.state f.0 changes
    = ap (λ o. with_either o (unfinished_clone m.clones operation) n changes) f.1.0 in
    subst (λ o. Reaches ps (option_map_or (λ r. restoration_moved r.state r n m) o (record m { clock = n })) (with_either (unfinished_restoration m.restorations operation) (unfinished_clone m.clones operation) n changes)) (sym f.1.0)
    (subst (Reaches ps (restoration_moved f.0.state f.0 n m)) (sym quiet) (state_reaches f.0.state ps activity changes n f.0 before h there.0 refl there.1.1 (acked_in f.0.listed p (ap (λ q. q.listed) f.1.1) acked)))
by_kind Clone ps activity changes n operation p is before h found acked =
    let m = ps.master in
    let f = mapped_some (clone_progress m) (unfinished_clone m.clones operation) p found in
    let there = unfinished_clone_is m.clones operation f.0 f.1.0 in
    let quiet : with_either (unfinished_restoration m.restorations operation) (unfinished_clone m.clones operation) n changes ≡ with_clone f.0.state f.0 n changes
    = ap (λ o. with_either o (unfinished_clone m.clones operation) n changes) (no_restoration m changes operation h.inv.operations (λ e. let q = sym is ∙ e in grind arith)) ∙ ap (λ o. with_either None o n changes) f.1.0 in
    subst (λ o. Reaches ps (option_map_or (λ r. clone_moved r.state r n m) o (record m { clock = n })) (with_either (unfinished_restoration m.restorations operation) (unfinished_clone m.clones operation) n changes)) (sym f.1.0)
    (subst (Reaches ps (clone_moved f.0.state f.0 n m)) (sym quiet) (clone_reaches f.0.state ps activity changes n f.0 h there.0 refl there.1.1 (acked_in f.0.listed p (ap (λ q. q.listed) f.1.1) acked)))
by_kind _ ps activity changes n operation p is before h found acked = absurd (let q = found in grind arith)

moving_leaves : (first : Option Listed) (awaited : Option Id) (operation : Id) (next : State) (n : ℕ) (ps : Parts) (activity : List Interval) (changes : List made.Change) → Leads ps activity changes → (first ≡ None → Leaves (Advance operation) n ps changes (moves operation next))
    → Leaves (Advance operation) n ps changes (moving (waits_for first awaited) operation next)
moving_leaves (Some l) awaited operation next n ps activity changes h go = light_leaves (Advance operation) n ps activity changes (refused (Waiting l.tablet)) (answers_light _) (λ table. refl) h
moving_leaves None (Some on) operation next n ps activity changes h go = light_leaves (Advance operation) n ps activity changes (refused (Waiting on)) (answers_light _) (λ table. refl) h
moving_leaves None None operation next n ps activity changes h go = go refl

by_progress : (p : Option Progress) (ps : Parts) (activity : List Interval) (changes : List made.Change) (n : ℕ) (operation : Id) → progress_of operation.kind ps.master operation ≡ p → ps.master.clock < n → Leads ps activity changes
    → Leaves (Advance operation) n ps changes (advancing p operation)
by_progress None ps activity changes n operation e before h = light_leaves (Advance operation) n ps activity changes (refused (NotPending operation)) (answers_light _) (λ table. refl) h
by_progress (Some p) ps activity changes n operation e before h = moving_leaves (first_unacked p.listed) p.awaited operation p.next n ps activity changes h (λ none held tabled.
    by_kind operation.kind ps activity changes n operation p refl before h e (all_acked p.listed none) (told (Advance operation) (moves operation p.next) n ps).tablet
    (λ slot. parts_stay (Advance operation) (moves operation p.next) n ps slot refl) held tabled)

pub advance_leaves : (ps : Parts) (activity : List Interval) (changes : List made.Change) (n : ℕ) (operation : Id) → ps.master.clock < n → Leads ps activity changes → Leaves (Advance operation) n ps changes (advance operation n ps)
unfolding advance
advance_leaves ps activity changes n operation before h = by_progress (progress_of operation.kind ps.master operation) ps activity changes n operation refl before h
