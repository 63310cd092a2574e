-- The parts' versions are those of the journal's schemas: through acts that change no schema, and begin no tablet.
use Rattle.std.proofs.Common.{◌≡◌, ℕ, ◌≤◌, ◌<◌, Bool, true, false, List, [], ◌∷◌, ◌++◌, Option, Some, None, ◌&&◌, ◌||◌, ◌⊎◌, inl, inr, refl, sym, ap, subst, ◌∙◌, arith, cond, map, not, eqb}
use Rattle.std.proofs.lemmas.Bool.{cond_both, true≢false}
use Rattle.model.specs.Cluster.{Item, Id, Kind, TabletKind, Snapshot, RestorationKind as Restoration, CloneKind as Clone, same, In, has, Interval, ended, Listed, RestorationRecord, Fencing, Restoring, CloneRecord, Accepted, Copying, TabletPair, acked_at, Act, Master, Parts, Outcome, MasterAct, Ticks, MakesNamespace, DropsNamespace, MakesTable, AddsColumn, DropsColumn, RenamesTable, DropsTable, SplitsTablet, MakesSchedule, EditsSchedule, DeletesSchedule, TakesSnapshot, BeginsRestoration, BeginsClone, Sends, Acks, Unsends, Moves, Removes, Prunes, Restarts}
use Rattle.model.specs.Journal as made
use Rattle.model.specs.Tablets.{Tablet, RestoreFrom, CopyKind, is_done, is_empty, TabletAct, Clock, Make, Child, SetVersion, HideSince, Write as WriteRows, RaiseCutoff, Compact as CompactTablet, Offer, Process as ProcessTablet, Clear, DropFrozen, Restart as RestartTablet, effect, act_for, Told}
use Rattle.model.specs.Stands.{awaited_in}
use Rattle.model.specs.Drawn.{version_by}
use Rattle.model.specs.Entries.{slots_of}
use Rattle.model.specs.Coordination.{acked_by}
use Rattle.model.specs.Cleanup.{removed_of}
use Rattle.model.specs.History.{told, master_effect, with_master, rows_made, with_rows}
use Rattle.law_invariants.proofs.Finding.{in_append, filter_in}
use Rattle.law_invariants.proofs.Using.{mapped_is}
use Rattle.law_commands.proofs.Acked.{ack_restoration, ack_clone}
use Rattle.law_commands.proofs.AckedSlots.{awaited_acked}
use Rattle.law_moves.proofs.Restoring.{awaited_beside}

-- a restoration has switched, and lists a tablet to take back its rows under a version
pub record IsComing (rs : List RestorationRecord) (tablet : Id) (version : ℕ) : Type 0 where
  pub restoration : RestorationRecord
  pub known : In restoration rs
  pub point : ℕ
  pub serving : Id
  pub state_is : restoration.state ≡ Restoring point serving
  pub line : Listed
  pub listed : In line restoration.listed
  pub tablet_is : line.tablet ≡ tablet
  pub from : Id
  pub to : ℕ
  pub at : ℕ
  pub body_is : line.body ≡ RestoreFrom from to at version

-- a clone copies, and a target is of it
pub record IsCopying (cs : List CloneRecord) (p : TabletPair) (id : Id) : Type 0 where
  pub clone : CloneRecord
  pub known : In clone cs
  pub serving : Id
  pub at : ℕ
  pub state_is : clone.state ≡ Copying serving at
  pub paired : In p clone.tablets
  pub id_is : clone.id ≡ id

pub record VersionsGood (m : Master) (tablet : ℕ → Tablet) (changes : List made.Change) : Type 0 where
  pub active : (i : Interval) → In i m.activity → i.to ≡ None → awaited_in m.restorations (tablet i.slot).tablet (tablet i.slot).done ≡ None
      → (tablet i.slot).version ≡ version_by changes i.table
  pub coming : (i : Interval) (version : ℕ) → In i m.activity → i.to ≡ None → IsComing m.restorations i.tablet version → version ≡ version_by changes i.table
  pub copied : (p : TabletPair) (id : Id) → IsCopying m.clones p id → is_done (tablet p.slot).done id CopyKind ≡ true → (tablet p.slot).version ≡ 1

-- What leaves them

-- an interval that begins: its part has its table's version, and no restoration lists its tablet
pub record IsBegun (new : Master) (tablet : ℕ → Tablet) (more : List made.Change) (i : Interval) : Type 0 where
  pub version : (tablet i.slot).version ≡ version_by more i.table
  pub apart : (version : ℕ) → IsComing new.restorations i.tablet version → ⊥

pub record MasterGoes (m new : Master) (old tablet : ℕ → Tablet) (changes more : List made.Change) : Type 0 where
  pub opens : (i : Interval) → In i new.activity → i.to ≡ None → In i m.activity ⊎ IsBegun new tablet more i
  pub versions : (i : Interval) → In i m.activity → version_by more i.table ≡ version_by changes i.table
  pub awaits : (i : Interval) → In i m.activity → i.to ≡ None → awaited_in new.restorations (old i.slot).tablet (old i.slot).done ≡ None → awaited_in m.restorations (old i.slot).tablet (old i.slot).done ≡ None
  pub comes : (tablet : Id) (version : ℕ) → IsComing new.restorations tablet version → IsComing m.restorations tablet version
  pub copies : (p : TabletPair) (id : Id) → IsCopying new.clones p id → is_done (old p.slot).done id CopyKind ≡ true → IsCopying m.clones p id

-- a part keeps its tablet with its version and marks, or is empty
abbrev pub PartStays : Tablet → Tablet → Type 0
PartStays t v = ((v.version ≡ t.version) × ((v.tablet ≡ t.tablet) × (v.done ≡ t.done))) ⊎ ((is_empty v.presence ≡ true) × (v.done ≡ []))

-- or gets a new one
abbrev pub IsFresh : Master → Tablet → Type 0
IsFresh m v = (m.drawn.tablets < v.tablet.number) × (v.done ≡ [])

pub versions_go : (m new : Master) (old tablet : ℕ → Tablet) (changes more : List made.Change) → MasterGoes m new old tablet changes more → ((slot : ℕ) → PartStays (old slot) (tablet slot) ⊎ IsFresh m (tablet slot))
    → ((i : Interval) → In i m.activity → i.tablet.number ≤ m.drawn.tablets) → ((i : Interval) → In i new.activity → (is_empty (tablet i.slot).presence ≡ false) × ((tablet i.slot).tablet ≡ i.tablet)) → VersionsGood m old changes → VersionsGood new tablet more
versions_go m new old tablet changes more g parts drawn held h = record {
  active = λ i isin opened came. elim (g.opens i isin opened) [
    | inr begun ↦ begun.version
    | inl was_in ↦ elim (parts i.slot) [
      | inr fresh ↦ absurd (let k = drawn i was_in in let q : (tablet i.slot).tablet.number ≡ i.tablet.number = ap (λ x. x.number) (held i isin).1 in let l : m.drawn.tablets < (tablet i.slot).tablet.number = fresh.0 in omega arith)
      | inl stays ↦ elim stays [
        | inl e ↦ (
            let was : awaited_in new.restorations (old i.slot).tablet (old i.slot).done ≡ None
            = ap (λ t. awaited_in new.restorations t (old i.slot).done) (sym e.1.0) ∙ ap (awaited_in new.restorations (tablet i.slot).tablet) (sym e.1.1) ∙ came in
            e.0 ∙ h.active i was_in opened (g.awaits i was_in opened was) ∙ sym (g.versions i was_in))
        | inr gone ↦ absurd (true≢false (sym gone.0 ∙ (held i isin).0))
      ]
    ]
  ];
  coming = λ i version isin opened c. elim (g.opens i isin opened) [
    | inr begun ↦ absurd (begun.apart version c)
    | inl was_in ↦ h.coming i version was_in opened (g.comes i.tablet version c) ∙ sym (g.versions i was_in)
  ];
  copied = λ p id c did. elim (parts p.slot) [
    | inr fresh ↦ absurd (true≢false (sym did ∙ ap (λ d. is_done d id CopyKind) fresh.1))
    | inl stays ↦ elim stays [
      | inl e ↦ (let was : is_done (old p.slot).done id CopyKind ≡ true = ap (λ d. is_done d id CopyKind) (sym e.1.1) ∙ did in e.0 ∙ h.copied p id (g.copies p id c was) was)
      | inr gone ↦ absurd (true≢false (sym did ∙ ap (λ d. is_done d id CopyKind) gone.1))
    ]
  ];
}

-- the same of parts that stay
pub versions_told : (m : Master) (old tablet : ℕ → Tablet) (changes : List made.Change) → ((slot : ℕ) → PartStays (old slot) (tablet slot)) → ((i : Interval) → In i m.activity → is_empty (tablet i.slot).presence ≡ false) → VersionsGood m old changes
    → VersionsGood m tablet changes
versions_told m old tablet changes parts present h = record {
  active = λ i isin opened came. elim (parts i.slot) [
    | inl e ↦ e.0 ∙ h.active i isin opened (ap (λ t. awaited_in m.restorations t (old i.slot).done) (sym e.1.0) ∙ ap (awaited_in m.restorations (tablet i.slot).tablet) (sym e.1.1) ∙ came)
    | inr gone ↦ absurd (true≢false (sym gone.0 ∙ present i isin))
  ];
  coming = h.coming;
  copied = λ p id c did. elim (parts p.slot) [
    | inl e ↦ e.0 ∙ h.copied p id c (ap (λ d. is_done d id CopyKind) (sym e.1.1) ∙ did)
    | inr gone ↦ absurd (true≢false (sym did ∙ ap (λ d. is_done d id CopyKind) gone.1))
  ];
}

pub still : (m new : Master) (old tablet : ℕ → Tablet) (changes more : List made.Change) → new.activity ≡ m.activity → new.restorations ≡ m.restorations → new.clones ≡ m.clones → ((table : Id) → version_by more table ≡ version_by changes table)
    → MasterGoes m new old tablet changes more
still m new old tablet changes more a r c v = record {
  opens = λ i isin opened. inl (subst (In i) a isin);
  versions = λ i isin. v i.table;
  awaits = λ i isin opened e. subst (λ rs. awaited_in rs (old i.slot).tablet (old i.slot).done ≡ None) r e;
  comes = λ tablet version k. subst (λ rs. IsComing rs tablet version) r k;
  copies = λ p id k did. subst (λ cs. IsCopying cs p id) c k;
}

-- What a tablet is told

abbrev pub is_light : TabletAct → Bool
is_light (Make tablet table low high version) = false
is_light (Child tablet table low high version versions cutoff) = false
is_light (SetVersion version) = false
is_light (ProcessTablet rows) = false
is_light _ = true

pub light_stays : (a : TabletAct) (n : ℕ) (t : Tablet) → is_light a ≡ true → PartStays t (effect a n t)
light_stays Clear n t e = inr (refl, refl)
light_stays Clock n t e = inl (refl, (refl, refl))
light_stays (HideSince at) n t e = inl (refl, (refl, refl))
light_stays (WriteRows batch) n t e = inl (refl, (refl, refl))
light_stays (RaiseCutoff to) n t e = inl (refl, (refl, refl))
light_stays CompactTablet n t e = inl (refl, (refl, refl))
light_stays (Offer command) n t e = inl (refl, (refl, refl))
light_stays (DropFrozen snapshot) n t e = inl (refl, (refl, refl))
light_stays RestartTablet n t e = inl (refl, (refl, refl))
light_stays _ n t e = absurd (true≢false (sym e))

pub parts_stay : (act : Act) (o : Outcome) (n : ℕ) (ps : Parts) (slot : ℕ) → is_light (act_for o.tablets slot) ≡ true → PartStays (ps.tablet slot) ((told act o n ps).tablet slot)
parts_stay act o n ps slot light = cond_both (has (slots_of act) slot && not (eqb slot 0)) (effect (act_for o.tablets slot) n (ps.tablet slot)) (ps.tablet slot) (PartStays (ps.tablet slot))
    (λ e. light_stays (act_for o.tablets slot) n (ps.tablet slot) light) (λ e. inl (refl, (refl, refl)))

-- What the master is told

abbrev pub is_calm : MasterAct → Bool
is_calm (MakesTable namespace name columns slots) = false
is_calm (AddsColumn table name kind) = false
is_calm (DropsColumn table column) = false
is_calm (SplitsTablet parent code low_slot high_slot) = false
is_calm (Moves operation) = false
is_calm _ = true

-- an interval that is open after some have ended was there
pub still_open : (is : List Interval) (ends : Interval → Bool) (n : ℕ) (i : Interval) → In i (map {A = Interval} (λ i. record i { to = cond (ends i) (ended n i.to) i.to }) is) → i.to ≡ None → In i is
still_open is ends n i isin opened =
    let k = mapped_is {A = Interval} (λ i. record i { to = cond (ends i) (ended n i.to) i.to }) is i isin in
    let to_is : cond (ends k.0) (ended n k.0.to) k.0.to ≡ None = ap (λ j. j.to) k.1.1 ∙ opened in
    let was : k.0.to ≡ None = never k.0.to (ends k.0) to_is in
    subst (λ j. In j is) (ap (λ to. record k.0 { to = to }) (was ∙ sym to_is) ∙ k.1.1) k.1.0
  where
    never : (to : Option ℕ) (b : Bool) → cond b (ended n to) to ≡ None → to ≡ None
    never None b e = refl
    never (Some x) true e = e
    never (Some x) false e = e

ack_comes : (rs : List RestorationRecord) (id : Id) (slot : ℕ) (tablet : Id) (version : ℕ) → IsComing (map (ack_restoration id slot) rs) tablet version → IsComing rs tablet version
ack_comes rs id slot tablet version c =
    let k = mapped_is (ack_restoration id slot) rs c.restoration c.known in
    let lines : In c.line (ack_restoration id slot k.0).listed = subst (λ r. In c.line r.listed) (sym k.1.1) c.listed in
    let l = line_was (same k.0.id id) k.0.listed lines in
    record {
      restoration = k.0;
      known = k.1.0;
      point = c.point;
      serving = c.serving;
      state_is = ap (λ r. r.state) k.1.1 ∙ c.state_is;
      line = l.0;
      listed = l.1.0;
      tablet_is = l.1.1.0 ∙ c.tablet_is;
      from = c.from;
      to = c.to;
      at = c.at;
      body_is = l.1.1.1 ∙ c.body_is;
    }
  where
    line_was : (b : Bool) (ls : List Listed) → In c.line (cond b (acked_at slot ls) ls) → (l : Listed) × (In l ls × ((l.tablet ≡ c.line.tablet) × (l.body ≡ c.line.body)))
    line_was true ls isin = let k = mapped_is {A = Listed} (λ l. record l { acked = l.acked || eqb l.slot slot }) ls c.line isin in (k.0, (k.1.0, (ap (λ l. l.tablet) k.1.1, ap (λ l. l.body) k.1.1)))
    line_was false ls isin = (c.line, (isin, (refl, refl)))

ack_copies : (cs : List CloneRecord) (id : Id) (slot : ℕ) (p : TabletPair) (of : Id) → IsCopying (map (ack_clone id slot) cs) p of → IsCopying cs p of
ack_copies cs id slot p of c =
    let k = mapped_is (ack_clone id slot) cs c.clone c.known in
    record {
      clone = k.0;
      known = k.1.0;
      serving = c.serving;
      at = c.at;
      state_is = ap (λ d. d.state) k.1.1 ∙ c.state_is;
      paired = subst (λ d. In p d.tablets) (sym k.1.1) c.paired;
      id_is = ap (λ d. d.id) k.1.1 ∙ c.id_is;
    }

acked_goes : (kind : Kind) (operation : Id) (slot n : ℕ) (m : Master) (old tablet : ℕ → Tablet) (changes : List made.Change) → MasterGoes m (acked_by kind operation slot n m) old tablet changes changes
acked_goes Restoration operation slot n m old tablet changes = record {
  opens = λ i isin opened. inl isin;
  versions = λ i isin. refl;
  awaits = λ i isin opened e. sym (awaited_acked m.restorations operation slot (old i.slot).tablet (old i.slot).done) ∙ e;
  comes = λ tablet version k. ack_comes m.restorations operation slot tablet version k;
  copies = λ p id k did. k;
}
acked_goes Clone operation slot n m old tablet changes = record {
  opens = λ i isin opened. inl isin;
  versions = λ i isin. refl;
  awaits = λ i isin opened e. e;
  comes = λ tablet version k. k;
  copies = λ p id k did. ack_copies m.clones operation slot p id k;
}
acked_goes Snapshot operation slot n m old tablet changes = still m _ old tablet changes changes refl refl refl (λ table. refl)
acked_goes _ operation slot n m old tablet changes = still m _ old tablet changes changes refl refl refl (λ table. refl)

removed_goes : (kind : Kind) (target : Id) (n : ℕ) (m : Master) (old tablet : ℕ → Tablet) (changes : List made.Change) → MasterGoes m (removed_of kind target n m) old tablet changes changes
removed_goes TabletKind target n m old tablet changes = record {
  opens = λ i isin opened. inl (filter_in m.activity (λ i. not (same i.tablet target)) i isin).0;
  versions = λ i isin. refl;
  awaits = λ i isin opened e. e;
  comes = λ tablet version k. k;
  copies = λ p id k did. k;
}
removed_goes _ target n m old tablet changes = still m _ old tablet changes changes refl refl refl (λ table. refl)

begun_goes : (rs : List RestorationRecord) (r : RestorationRecord) (tablet : Id) (version : ℕ) → r.state ≡ Fencing → IsComing (rs ++ r ∷ []) tablet version → IsComing rs tablet version
begun_goes rs r tablet version fencing c = elim (in_append rs (r ∷ []) c.restoration c.known) [
  | inl old ↦ record { restoration = c.restoration; known = old; point = c.point; serving = c.serving; state_is = c.state_is; line = c.line; listed = c.listed; tablet_is = c.tablet_is; from = c.from; to = c.to; at = c.at; body_is = c.body_is }
  | inr new ↦ elim new [ inl e ↦ absurd (let q : Fencing ≡ Restoring c.point c.serving = sym fencing ∙ ap (λ k. k.state) e ∙ c.state_is in grind arith) | inr none ↦ absurd none ]
]

cloned_goes : (cs : List CloneRecord) (c : CloneRecord) (p : TabletPair) (id : Id) → c.state ≡ Accepted → IsCopying (cs ++ c ∷ []) p id → IsCopying cs p id
cloned_goes cs c p id accepted k = elim (in_append cs (c ∷ []) k.clone k.known) [
  | inl old ↦ record { clone = k.clone; known = old; serving = k.serving; at = k.at; state_is = k.state_is; paired = k.paired; id_is = k.id_is }
  | inr new ↦ elim new [ inl e ↦ absurd (let q : Accepted ≡ Copying k.serving k.at = sym accepted ∙ ap (λ d. d.state) e ∙ k.state_is in grind arith) | inr none ↦ absurd none ]
]

pub master_goes : (a : MasterAct) (n : ℕ) (m : Master) (old tablet : ℕ → Tablet) (changes : List made.Change) → is_calm a ≡ true → MasterGoes m (master_effect a n m) old tablet changes (with_master a n m changes)
master_goes (DropsTable table) n m old tablet changes e = record {
  opens = λ i isin opened. inl (still_open m.activity (λ i. same i.table table) n i isin opened);
  versions = λ i isin. refl;
  awaits = λ i isin opened e. e;
  comes = λ tablet version k. k;
  copies = λ p id k did. k;
}
master_goes (BeginsRestoration schedule to) n m old tablet changes e = record {
  opens = λ i isin opened. inl isin;
  versions = λ i isin. refl;
  awaits = λ i isin opened e. sym (awaited_beside m.restorations _ (old i.slot).tablet (old i.slot).done refl) ∙ e;
  comes = λ tablet version k. begun_goes m.restorations _ tablet version refl k;
  copies = λ p id k did. k;
}
master_goes (BeginsClone namespace source target to) n m old tablet changes e = record {
  opens = λ i isin opened. inl isin;
  versions = λ i isin. refl;
  awaits = λ i isin opened e. e;
  comes = λ tablet version k. k;
  copies = λ p id k did. cloned_goes m.clones _ p id refl k;
}
master_goes (Acks operation slot) n m old tablet changes e = acked_goes operation.kind operation slot n m old tablet changes
master_goes (Removes target) n m old tablet changes e = removed_goes target.kind target n m old tablet changes
master_goes Ticks n m old tablet changes e = still m _ old tablet changes changes refl refl refl (λ table. refl)
master_goes (MakesNamespace name) n m old tablet changes e = still m _ old tablet changes _ refl refl refl (λ table. refl)
master_goes (DropsNamespace namespace) n m old tablet changes e = still m _ old tablet changes _ refl refl refl (λ table. refl)
master_goes (RenamesTable table name) n m old tablet changes e = still m _ old tablet changes _ refl refl refl (λ table. refl)
master_goes (MakesSchedule namespace interval retention) n m old tablet changes e = still m _ old tablet changes changes refl refl refl (λ table. refl)
master_goes (EditsSchedule schedule interval retention) n m old tablet changes e = still m _ old tablet changes changes refl refl refl (λ table. refl)
master_goes (DeletesSchedule schedule) n m old tablet changes e = still m _ old tablet changes changes refl refl refl (λ table. refl)
master_goes (TakesSnapshot schedule) n m old tablet changes e = still m _ old tablet changes changes refl refl refl (λ table. refl)
master_goes (Sends operation slot) n m old tablet changes e = still m _ old tablet changes changes refl refl refl (λ table. refl)
master_goes (Unsends operation slot) n m old tablet changes e = still m _ old tablet changes changes refl refl refl (λ table. refl)
master_goes Prunes n m old tablet changes e = still m _ old tablet changes changes refl refl refl (λ table. refl)
master_goes Restarts n m old tablet changes e = still m _ old tablet changes changes refl refl refl (λ table. refl)
master_goes _ n m old tablet changes e = absurd (true≢false (sym e))

-- Acts that change no version

pub record IsLight (o : Outcome) : Type 0 where
  pub calm : is_calm o.master ≡ true
  pub light : (slot : ℕ) → is_light (act_for o.tablets slot) ≡ true

rows_version : (items : List Item) (n : ℕ) (table id : Id) (changes : List made.Change) → version_by (rows_made n table items changes) id ≡ version_by changes id
rows_version [] n table id changes = refl
rows_version (item ∷ items) n table id changes = rows_version items n table id (record { stamp = n; act = made.RowChanged table item.key item.op } ∷ changes)

pub written_version : (ts : List Told) (n : ℕ) (table id : Id) (batch : List Item) (changes : List made.Change) → version_by (with_rows ts n table batch changes) id ≡ version_by changes id
written_version [] n table id batch changes = refl
written_version (t ∷ ts) n table id batch changes = rows_version batch n table id changes

pub calm_version : (a : MasterAct) (n : ℕ) (m : Master) (changes : List made.Change) (table : Id) → is_calm a ≡ true → version_by (with_master a n m changes) table ≡ version_by changes table
calm_version (MakesTable namespace name columns slots) n m changes table e = absurd (true≢false (sym e))
calm_version (AddsColumn t name kind) n m changes table e = absurd (true≢false (sym e))
calm_version (DropsColumn t column) n m changes table e = absurd (true≢false (sym e))
calm_version (Moves operation) n m changes table e = absurd (true≢false (sym e))
calm_version _ n m changes table e = refl

-- such an outcome leaves the parts with the versions of a journal that changes no schema
pub light_left : (act : Act) (o : Outcome) (n : ℕ) (ps : Parts) (changes more : List made.Change) → IsLight o → ((table : Id) → version_by more table ≡ version_by changes table) → VersionsGood ps.master ps.tablet changes
    → ((i : Interval) → In i ps.master.activity → i.tablet.number ≤ ps.master.drawn.tablets)
    → ((i : Interval) → In i (told act o n ps).master.activity → (is_empty ((told act o n ps).tablet i.slot).presence ≡ false) × (((told act o n ps).tablet i.slot).tablet ≡ i.tablet))
    → VersionsGood (told act o n ps).master (told act o n ps).tablet more
light_left act o n ps changes more l same_ h drawn held =
    let new = (told act o n ps).tablet in
    let master : MasterGoes ps.master (told act o n ps).master ps.tablet new changes more =
    cond_both (has (slots_of act) 0) (master_effect o.master n ps.master) ps.master (λ m. MasterGoes ps.master m ps.tablet new changes more)
    (λ e. let g = master_goes o.master n ps.master ps.tablet new changes l.calm in record {
      opens = λ i isin opened. elim (g.opens i isin opened) [ inl was ↦ inl was | inr begun ↦ inr (record { version = begun.version ∙ calm_version o.master n ps.master changes i.table l.calm ∙ sym (same_ i.table); apart = begun.apart }) ];
      versions = λ i isin. same_ i.table;
      awaits = g.awaits;
      comes = g.comes;
      copies = g.copies;
    })
    (λ e. still ps.master ps.master ps.tablet new changes more refl refl refl same_) in
    versions_go ps.master (told act o n ps).master ps.tablet new changes more master (λ slot. inl (parts_stay act o n ps slot (l.light slot))) drawn held h
