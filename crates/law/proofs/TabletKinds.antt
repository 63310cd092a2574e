-- After each entry the tables and tablets that the master knows, and those that clones are to make, have identifiers of
-- their kinds.
use Rattle.std.proofs.Common.{ℕ, ◌≡◌, ◌∙◌, List, [], ◌∷◌, ◌++◌, map, Option, Some, None, false, cond, inl, inr, refl, sym, ap, not, length, ◌+◌}
use Rattle.std.proofs.lemmas.Bool.{cond_both, true≢false}
use Rattle.model.specs.Cluster.{Id, TableKind as Table, TabletKind as Tablet, same, In, has, ended, Interval, active_at, end_tablet, Listed, acked_at, IdPair, TabletPair, RestorationRecord, RestorationState, Switching, CloneRecord, CloneState, Accepted, Copying, CloneComplete, State, first_unacked, Schema}
use Rattle.model.specs.Catalog.{owns, TableRecord, change_table, end_table, end_tables, tables_at}
use Rattle.model.specs.Restored.{begun_at, end_namespace_tablets, cloned_activity, back_at, cloned_tables, tables_back}
use Rattle.model.specs.Lists.{tablets_active_at, intervals_in}
use Rattle.model.specs.Changed.{next_table, shares, children, pair_tables, pair_tablets, new_clone, clone_time}
use Rattle.model.specs.Moves.{restoration_moved, clone_moved, Progress, advance, advancing, moving, progress_of, waits_for}
use Rattle.model.specs.Cleanup.{prune, is_old_table}
use Rattle.model.specs.Parts.{Master, MasterAct, MakesTable, AddsColumn, DropsColumn, RenamesTable, DropsTable, SplitsTablet, BeginsClone, Acks, Moves, Removes, Prunes, Outcome, Parts, decided, unless}
use Rattle.model.specs.Entries.{Entry, slots_of}
use Rattle.model.specs.History.{master_effect, outcome, replay}
use Rattle.law_invariants.proofs.Effects.{acked_each, begins_each, moved_each, removed_each}
use Rattle.law_invariants.proofs.Finding.{in_append, in_added, in_mapped, filter_in}
use Rattle.law_invariants.proofs.Pending.{unfinished_clone_is}
use Rattle.model.specs.Acts.{Act, AddColumn, Advance, Change, CloneNamespace, Command, CreateNamespace, CreateSchedule, CreateTable, DeleteSchedule, DropColumn, DropNamespace, DropTable, EditSchedule, ListTablets, Prune, Refusal, RenameTable, Restore, Split, TakeSnapshot, UnknownColumn}
use Rattle.std.specs.Prelude.{Err as Denied, Ok as Granted, Result}
use Rattle.law.proofs.Telling.{Commands, told_each}
use Rattle.law.proofs.Plain.{act_none, is_weighty}
use Rattle.model.specs.Changes.{add_column, add_column_checks, change, clone_namespace, column_of, create_namespace, create_schedule, create_table, delete_schedule, drop_column, drop_namespace, drop_table, edit_schedule, found_column, judge_add_column, judge_clone, judge_create_namespace, judge_create_schedule, judge_create_table, judge_delete_schedule, judge_drop_column, judge_drop_namespace, judge_drop_table, judge_edit_schedule, judge_rename_table, judge_restore, judge_split, judge_take_snapshot, list_tablets, planned, rename_table, rename_table_checks, restore, split, take_snapshot, unheld_checks}
use Rattle.law_invariants.proofs.Judging.{and_found_is, checked_is}
use Rattle.law_clones.proofs.Cataloguing.{cloned_is}
use Rattle.law_changes.proofs.Schemas.{column_found}
use Rattle.model.specs.Looks.{found_namespace, found_table}
use Rattle.law_invariants.proofs.Cataloguing.{table_is}
use Rattle.law_moves.proofs.Backing.{then_is}

pub record KindsIn (activity : List Interval) (tables : List TableRecord) (clones : List CloneRecord) : Type 0 where
  pub active : (i : Interval) → In i activity → i.tablet.kind ≡ Tablet
  pub targets : (c : CloneRecord) (p : TabletPair) → In c clones → In p c.tablets → p.target.kind ≡ Tablet
  pub made : (t : TableRecord) → In t tables → t.id.kind ≡ Table
  pub pairs : (c : CloneRecord) (d : IdPair) → In c clones → In d c.tables → d.target.kind ≡ Table

abbrev pub KindsGood : Master → Type 0
KindsGood m = KindsIn m.activity m.catalog.tables m.clones

abbrev OfTablet : Interval → Type 0
OfTablet i = i.tablet.kind ≡ Tablet

abbrev OfTable : TableRecord → Type 0
OfTable t = t.id.kind ≡ Table

more_tables : (ts us : List TableRecord) → ((t : TableRecord) → In t ts → OfTable t) → ((t : TableRecord) → In t us → OfTable t) → (t : TableRecord) → In t (ts ++ us) → OfTable t
more_tables ts us old new t isin = elim (in_append ts us t isin) [ inl there ↦ old t there | inr came ↦ new t came ]

-- a table's record gives way to another of the same table
changed_tables : (ts : List TableRecord) (t : TableRecord) (name : List ℕ) (schema : Schema) (n : ℕ) → OfTable t → ((t : TableRecord) → In t ts → OfTable t) → (u : TableRecord) → In u (change_table t name schema n ts) → OfTable u
changed_tables ts t name schema n own old = in_added OfTable (end_table t.id n ts) (record t { name = name; schema = schema; from = n; to = None })
    (in_mapped {A = TableRecord} {B = TableRecord} (λ r. record r { to = cond (same r.id t.id) (ended n r.to) r.to }) OfTable ts old) own

more_good : (is js : List Interval) → ((i : Interval) → In i is → OfTablet i) → ((i : Interval) → In i js → OfTablet i) → (i : Interval) → In i (is ++ js) → OfTablet i
more_good is js old new i isin = elim (in_append is js i isin) [ inl there ↦ old i there | inr came ↦ new i came ]

shares_good : (slots : List ℕ) (place count n drawn : ℕ) (table : Id) (i : Interval) → In i (shares slots place count n drawn table) → OfTablet i
shares_good [] place count n drawn table i isin = absurd isin
shares_good (slot ∷ slots) place count n drawn table i (inl e) = sym (ap (λ k. k.tablet.kind) e)
shares_good (slot ∷ slots) place count n drawn table i (inr isin) = shares_good slots (place + 1) count n drawn table i isin

children_good : (parent : Interval) (code low_slot high_slot n drawn : ℕ) (i : Interval) → In i (children parent code low_slot high_slot n drawn) → OfTablet i
children_good parent code low_slot high_slot n drawn i (inl e) = sym (ap (λ k. k.tablet.kind) e)
children_good parent code low_slot high_slot n drawn i (inr (inl e)) = sym (ap (λ k. k.tablet.kind) e)
children_good parent code low_slot high_slot n drawn i (inr (inr none)) = absurd none

pairs_good : (is : List Interval) (slots : List ℕ) (drawn : ℕ) (tables : List IdPair) (p : TabletPair) → In p (pair_tablets is slots drawn tables) → p.target.kind ≡ Tablet
pairs_good [] slots drawn tables p isin = absurd isin
pairs_good (i ∷ is) [] drawn tables p isin = absurd isin
pairs_good (i ∷ is) (slot ∷ slots) drawn tables p (inl e) = sym (ap (λ k. k.target.kind) e)
pairs_good (i ∷ is) (slot ∷ slots) drawn tables p (inr isin) = pairs_good is slots (drawn + 1) tables p isin

paired_good : (ts : List TableRecord) (drawn : ℕ) (d : IdPair) → In d (pair_tables ts drawn) → d.target.kind ≡ Table
paired_good [] drawn d isin = absurd isin
paired_good (t ∷ ts) drawn d (inl e) = sym (ap (λ k. k.target.kind) e)
paired_good (t ∷ ts) drawn d (inr isin) = paired_good ts (drawn + 1) d isin

-- Moves

restoration_kinds : (state : RestorationState) (r : RestorationRecord) (n : ℕ) (m : Master) → KindsGood m → KindsGood (restoration_moved state r n m)
restoration_kinds (Switching point serving) r n m h = record {
  active = more_good (end_namespace_tablets m.catalog.owners r.namespace point m.activity) (map (begun_at point) (tablets_active_at m.catalog.owners m.activity r.namespace r.to))
      (in_mapped {A = Interval} {B = Interval} (λ i. record i { to = cond (owns m.catalog.owners r.namespace i.table) (ended point i.to) i.to }) OfTablet m.activity h.active)
      (in_mapped {A = Interval} {B = Interval} (begun_at point) OfTablet (tablets_active_at m.catalog.owners m.activity r.namespace r.to)
      (λ i isin. h.active i (filter_in m.activity (λ i. owns m.catalog.owners r.namespace i.table) i (filter_in (intervals_in m.catalog.owners m.activity r.namespace) (active_at r.to) i isin).0).0));
  targets = h.targets;
  made = more_tables (end_tables r.namespace point m.catalog.tables) (tables_back m.catalog.tables r.namespace r.to point)
      (in_mapped {A = TableRecord} {B = TableRecord} (λ t. record t { to = cond (same t.namespace r.namespace) (ended point t.to) t.to }) OfTable m.catalog.tables h.made)
      (in_mapped {A = TableRecord} {B = TableRecord} (back_at m.catalog.tables point) OfTable (tables_at m.catalog.tables r.namespace r.to)
      (λ t isin. h.made t (then_is m.catalog.tables r.namespace r.to t isin).0));
  pairs = h.pairs;
}
restoration_kinds _ r n m h = h

-- records of clones that enter states keep their targets
entered_kinds : (r : CloneRecord) (state : CloneState) (listed : List Listed) (cs : List CloneRecord) → ((c : CloneRecord) (p : TabletPair) → In c cs → In p c.tablets → p.target.kind ≡ Tablet)
    → (c : CloneRecord) (p : TabletPair) → In c (map {A = CloneRecord} (λ x. record x { listed = cond (same x.id r.id) listed x.listed; state = cond (same x.id r.id) state x.state }) cs) → In p c.tablets → p.target.kind ≡ Tablet
entered_kinds r state listed cs h c p isin = in_mapped {A = CloneRecord} {B = CloneRecord} (λ x. record x { listed = cond (same x.id r.id) listed x.listed; state = cond (same x.id r.id) state x.state })
    (λ c. In p c.tablets → p.target.kind ≡ Tablet) cs (λ c there. h c p there) c isin

entered_pairs : (r : CloneRecord) (state : CloneState) (listed : List Listed) (cs : List CloneRecord) → ((c : CloneRecord) (d : IdPair) → In c cs → In d c.tables → d.target.kind ≡ Table)
    → (c : CloneRecord) (d : IdPair) → In c (map {A = CloneRecord} (λ x. record x { listed = cond (same x.id r.id) listed x.listed; state = cond (same x.id r.id) state x.state }) cs) → In d c.tables → d.target.kind ≡ Table
entered_pairs r state listed cs h c d isin = in_mapped {A = CloneRecord} {B = CloneRecord} (λ x. record x { listed = cond (same x.id r.id) listed x.listed; state = cond (same x.id r.id) state x.state })
    (λ c. In d c.tables → d.target.kind ≡ Table) cs (λ c there. h c d there) c isin

clone_kinds : (state : CloneState) (r : CloneRecord) (n : ℕ) (m : Master) → In r m.clones → KindsGood m → KindsGood (clone_moved state r n m)
clone_kinds Accepted r n m there h = begins_each KindsGood r n m
    (λ serving. record { active = h.active; targets = entered_kinds r _ _ m.clones h.targets; made = h.made; pairs = entered_pairs r _ _ m.clones h.pairs })
    (λ s. record { active = h.active; targets = entered_kinds r _ _ m.clones h.targets; made = h.made; pairs = entered_pairs r _ _ m.clones h.pairs })
    (record { active = h.active; targets = entered_kinds r _ _ m.clones h.targets; made = h.made; pairs = entered_pairs r _ _ m.clones h.pairs })
clone_kinds (Copying serving at) r n m there h = record {
  active = more_good m.activity (cloned_activity n r.tablets) h.active
      (in_mapped {A = TabletPair} {B = Interval} (λ p. record { slot = p.slot; tablet = p.target; table = p.table; low = p.low; high = p.high; from = n; to = None }) OfTablet r.tablets (λ p isin. h.targets r p there isin));
  targets = entered_kinds r _ _ m.clones h.targets;
  made = more_tables m.catalog.tables (cloned_tables r.tables m.catalog.tables r.target_id r.to n) h.made
      (λ t isin. let k = cloned_is m.catalog.tables r.target_id r.to n r.tables t isin in sym (ap (λ t. t.id.kind) k.is) ∙ h.pairs r k.pair there k.paired);
  pairs = entered_pairs r _ _ m.clones h.pairs;
}
clone_kinds (CloneComplete serving at) r n m there h = h
clone_kinds _ r n m there h = record { active = h.active; targets = entered_kinds r _ _ m.clones h.targets; made = h.made; pairs = entered_pairs r _ _ m.clones h.pairs }

-- What the master is told

-- the table that a command changes is one
abbrev KnownTable : MasterAct → Type 0
KnownTable (AddsColumn t name kind) = OfTable t
KnownTable (DropsColumn t column) = OfTable t
KnownTable (RenamesTable t name) = OfTable t
KnownTable _ = Unit {0}

effect_kinds : (act : MasterAct) (n : ℕ) (m : Master) → KnownTable act → KindsGood m → KindsGood (master_effect act n m)
effect_kinds (MakesTable namespace name columns slots) n m known h = record {
  active = more_good m.activity (shares slots 0 (length slots) n m.drawn.tablets (next_table m)) h.active (shares_good slots 0 (length slots) n m.drawn.tablets (next_table m));
  targets = h.targets;
  made = in_added OfTable m.catalog.tables _ h.made refl;
  pairs = h.pairs;
}
effect_kinds (AddsColumn t name kind) n m known h = record { active = h.active; targets = h.targets; made = changed_tables m.catalog.tables t _ _ n known h.made; pairs = h.pairs }
effect_kinds (DropsColumn t column) n m known h = record { active = h.active; targets = h.targets; made = changed_tables m.catalog.tables t _ _ n known h.made; pairs = h.pairs }
effect_kinds (RenamesTable t name) n m known h = record { active = h.active; targets = h.targets; made = changed_tables m.catalog.tables t _ _ n known h.made; pairs = h.pairs }
effect_kinds (DropsTable table) n m known h = record {
  active = in_mapped {A = Interval} {B = Interval} (λ i. record i { to = cond (same i.table table) (ended n i.to) i.to }) OfTablet m.activity h.active;
  targets = h.targets;
  made = in_mapped {A = TableRecord} {B = TableRecord} (λ r. record r { to = cond (same r.id table) (ended n r.to) r.to }) OfTable m.catalog.tables h.made;
  pairs = h.pairs;
}
effect_kinds (SplitsTablet parent code low_slot high_slot) n m known h = record {
  active = more_good (end_tablet parent.tablet n m.activity) (children parent code low_slot high_slot n m.drawn.tablets)
      (in_mapped {A = Interval} {B = Interval} (λ i. record i { to = cond (same i.tablet parent.tablet) (ended n i.to) i.to }) OfTablet m.activity h.active)
      (children_good parent code low_slot high_slot n m.drawn.tablets);
  targets = h.targets;
  made = h.made;
  pairs = h.pairs;
}
effect_kinds (BeginsClone namespace source target to) n m known h = record {
  active = h.active;
  targets = λ c p. in_added (λ c. In p c.tablets → p.target.kind ≡ Tablet) m.clones (new_clone namespace source target to m) (λ c there. h.targets c p there)
      (λ paired. pairs_good _ _ _ _ p paired) c;
  made = h.made;
  pairs = λ c d. in_added (λ c. In d c.tables → d.target.kind ≡ Table) m.clones (new_clone namespace source target to m) (λ c there. h.pairs c d there)
      (λ paired. paired_good _ _ d paired) c;
}
effect_kinds (Acks operation slot) n m known h =
    acked_each KindsGood operation.kind operation slot n m h h h (record {
      active = h.active;
      targets = λ c p. in_mapped {A = CloneRecord} {B = CloneRecord} (λ x. record x { listed = cond (same x.id operation) (acked_at slot x.listed) x.listed }) (λ c. In p c.tablets → p.target.kind ≡ Tablet) m.clones (λ c there. h.targets c p there) c;
      made = h.made;
      pairs = λ c d. in_mapped {A = CloneRecord} {B = CloneRecord} (λ x. record x { listed = cond (same x.id operation) (acked_at slot x.listed) x.listed }) (λ c. In d c.tables → d.target.kind ≡ Table) m.clones (λ c there. h.pairs c d there) c;
    })
effect_kinds (Moves operation) n m known h =
    moved_each KindsGood operation.kind operation n m h (λ r e. h) (λ r e. restoration_kinds r.state r n m h)
    (λ r e. clone_kinds r.state r n m (unfinished_clone_is m.clones operation r e).0 h)
effect_kinds (Removes target) n m known h =
    removed_each KindsGood target.kind target n m h
    (record { active = λ i isin. h.active i (filter_in m.activity (λ i. not (same i.tablet target)) i isin).0; targets = h.targets; made = h.made; pairs = h.pairs }) h
effect_kinds Prunes n m known h = record { active = h.active; targets = h.targets; made = λ t isin. h.made t (filter_in m.catalog.tables (λ r. not (is_old_table m n r)) t isin).0; pairs = h.pairs }
effect_kinds _ n m known h = h

-- no other act tells it of a table
plain_known : (act : MasterAct) → is_weighty act ≡ false → KnownTable act
plain_known (AddsColumn t name kind) e = absurd (true≢false e)
plain_known (DropsColumn t column) e = absurd (true≢false e)
plain_known (RenamesTable t name) e = absurd (true≢false e)
plain_known _ e = tt

command_known : (Asked : Type 0) (m : Master) (a : MasterAct) → Commands Asked m a → KindsGood m → KnownTable a
command_known Asked m (AddsColumn t name kind) told h = h.made t told.0
command_known Asked m (DropsColumn t column) told h = h.made t told.0
command_known Asked m (RenamesTable t name) told h = h.made t told.0
command_known Asked m _ told h = tt

outcome_known : (act : Act) (n : ℕ) (ps : Parts) → KindsGood ps.master → KnownTable (outcome act n ps).master
outcome_known act n ps h = told_each KnownTable act n ps (λ command slots a is told. command_known _ ps.master a told h) (λ operation. tt) tt plain_known

-- what any history leaves
pub replay_kinds : (history : List Entry) (slots : ℕ) → KindsGood (replay slots history).master
unfolding replay
replay_kinds [] slots = record { active = λ i isin. absurd isin; targets = λ c p isin. absurd isin; made = λ t isin. absurd isin; pairs = λ c d isin. absurd isin }
replay_kinds (e ∷ earlier) slots =
    let ps = replay slots earlier in
    let o = outcome e.event.act e.stamp ps in
    cond_both (has (slots_of e.event.act) 0) (master_effect o.master e.stamp ps.master) ps.master KindsGood
    (λ _. effect_kinds o.master e.stamp ps.master (outcome_known e.event.act e.stamp ps (replay_kinds earlier slots)) (replay_kinds earlier slots))
    (λ _. replay_kinds earlier slots)
