-- What an accepted command to restore or to clone made is kept, as it was asked, and the journal has no restore and no clone but theirs.
use Rattle.std.proofs.Common.{◌≡◌, ℕ, ◌+◌, ◌≤◌, Bool, true, false, List, [], ◌∷◌, ◌++◌, Option, Some, None, ◌⊎◌, inl, inr, refl, sym, ap, subst, ◌∙◌, arith, map, not, ◌&&◌, Result, Ok, Err, le_trans}
use Rattle.std.specs.Option.{option_map}
use Rattle.std.proofs.lemmas.Bool.{true≢false}
use Rattle.model.specs.Cluster.{Id, same, In, Interval, holds_at, TableRecord, kept_from, owner_of, tables_at, Fencing, RestorationRecord, CloneRecord, Schedule as ScheduleRecord, schedule_with, Master, Parts, Outcome, If, decided, judged, refused, Fence, same_slots}
use Rattle.model.specs.Restored.{record_at}
use Rattle.model.specs.Journal.{Change as Made, TableView, is_in, table_at}
use Rattle.model.specs.Acts.{Command, CreateNamespace, DropNamespace, CreateTable, AddColumn, DropColumn, RenameTable, DropTable, Split, CreateSchedule, EditSchedule, DeleteSchedule, TakeSnapshot, Restore, CloneNamespace, ListTablets, Refusal, UnknownSchedule, StalePlan, making_of, Making, ANamespace, ATable, TwoTablets, ASchedule, ASnapshot, ARestoration, AClone, Nothing}
use Rattle.model.specs.Looks.{found_namespace, plan_of}
use Rattle.model.specs.Changed.{clone_time, new_clone, next_restoration, pair_tables}
use Rattle.model.specs.Lists.{active_tablets, listing}
use Rattle.model.specs.Changes.{change, planned, create_namespace, drop_namespace, create_table, add_column, drop_column, rename_table, drop_table, split, create_schedule, edit_schedule, delete_schedule, take_snapshot, restore, clone_namespace, list_tablets, found_schedule, restore_checks, judge_clone, judge_create_namespace, judge_drop_namespace, judge_create_table, judge_add_column, judge_drop_column, judge_rename_table, judge_drop_table, judge_split, judge_create_schedule, judge_edit_schedule, judge_delete_schedule, judge_take_snapshot, judge_restore}
use Rattle.model.specs.Drawn.{ids_made}
use Rattle.model.specs.History.{master_effect}
use Rattle.model.specs.Once.{CloneAsked, RestoreAsked, clones_in, is_paired, restores_in}
use Rattle.law_store.proofs.Keys.{either_way}
use Rattle.law_invariants.specs.Invariant.{Inv, view_of}
use Rattle.law_invariants.proofs.Finding.{find_is, in_append, in_first, in_second, map_in, same_equal, same_self, both_pass}
use Rattle.law_invariants.proofs.Judging.{checked_is, found_is}
use Rattle.law_moves.proofs.Backing.{then_has, then_is}
use Rattle.law_clones.proofs.Accepting.{floor_from}
use Rattle.law_clones.proofs.Commanding.{may_clone}
use Rattle.law_once.specs.Made.{is_command}
use Rattle.law_once.proofs.Kept.{CloneGoes, RestorationGoes, stay}

-- What is kept of a command

-- the restoration of an accepted command to restore
pub record IsKeptRestore (a : RestoreAsked) (rs : List RestorationRecord) : Type 0 where
  pub restoration : RestorationRecord
  pub kept : In restoration rs
  pub id_is : restoration.id ≡ a.operation
  pub schedule_is : restoration.schedule ≡ a.schedule
  pub namespace_is : a.namespace ≡ Some restoration.namespace
  pub to_is : restoration.to ≡ a.to

-- and the clone of one to clone
pub record IsKeptClone (a : CloneAsked) (cs : List CloneRecord) : Type 0 where
  pub clone : CloneRecord
  pub kept : In clone cs
  pub id_is : clone.id ≡ a.operation
  pub source_is : a.source ≡ Some clone.source
  pub target_is : clone.target ≡ a.target
  pub to_is : clone.to ≡ a.to
  pub tables : (table : Id) → is_paired clone.tables table ≡ is_in clone.source (table_at a.before a.to table)

pub restore_goes : (a : RestoreAsked) (rs more : List RestorationRecord) → ((r : RestorationRecord) → In r rs → RestorationGoes r more) → IsKeptRestore a rs → IsKeptRestore a more
restore_goes a rs more go h =
    let g = go h.restoration h.kept in
    record { restoration = g.restoration; kept = g.kept; id_is = g.id_is ∙ h.id_is; schedule_is = g.schedule_is ∙ h.schedule_is; namespace_is = h.namespace_is ∙ ap Some (sym g.namespace_is); to_is = g.to_is ∙ h.to_is }

pub clone_goes : (a : CloneAsked) (cs more : List CloneRecord) → ((c : CloneRecord) → In c cs → CloneGoes c more) → IsKeptClone a cs → IsKeptClone a more
clone_goes a cs more go h =
    let g = go h.clone h.kept in
    record {
      clone = g.clone;
      kept = g.kept;
      id_is = g.id_is ∙ h.id_is;
      source_is = h.source_is ∙ ap Some (sym g.source_is);
      target_is = g.target_is ∙ h.target_is;
      to_is = g.to_is ∙ h.to_is;
      tables = λ table. ap (λ ds. is_paired ds table) g.tables_are ∙ h.tables table ∙ ap (λ ns. is_in ns (table_at a.before a.to table)) (sym g.source_is);
    }

-- The tables of a clone's source

paired_then : (ts : List TableRecord) (drawn : ℕ) (table : Id) → is_paired (pair_tables ts drawn) table ≡ true → (t : TableRecord) × (In t ts × (t.id ≡ table))
paired_then [] drawn table e = absurd (true≢false (sym e))
paired_then (t ∷ ts) drawn table e = either_way (same t.id table)
    (λ b. (t, (inl refl, same_equal t.id table b)))
    (λ b. let rest : is_paired (pair_tables ts (drawn + 1)) table ≡ true = rw b at e in let k = paired_then ts (drawn + 1) table rest in (k.0, (inr k.1.0, k.1.1)))

then_paired : (ts : List TableRecord) (drawn : ℕ) (table : Id) (t : TableRecord) → In t ts → t.id ≡ table → is_paired (pair_tables ts drawn) table ≡ true
then_paired [] drawn table t isin is = absurd isin
then_paired (u ∷ ts) drawn table t (inl e) is = let b : same u.id table ≡ true = ap (λ k. same k.id table) e ∙ ap (λ k. same k table) is ∙ same_self table in rw b refl
then_paired (u ∷ ts) drawn table t (inr isin) is = let rest = then_paired ts (drawn + 1) table t isin is in either_way (same u.id table) (λ b. rw b refl) (λ b. rw b rest)

-- a table is one of the source's at the time just where the view has it so
source_tables : (ps : Parts) (activity : List Interval) (changes : List Made) (ns : Id) (to drawn : ℕ) → Inv ps activity changes → kept_from ps.master.catalog.kept_from ns ≤ to
    → (table : Id) → is_paired (pair_tables (tables_at ps.master.catalog.tables ns to) drawn) table ≡ is_in ns (table_at changes to table)
source_tables ps activity changes ns to drawn inv kept table = by_owner (owner_of ps.master.catalog.owners table) refl
  where
    ids : List TableRecord
    ids = tables_at ps.master.catalog.tables ns to

    -- where no table of the source has the identifier
    none : ((t : TableRecord) → In t ids → t.id ≡ table → ⊥) → is_in ns (table_at changes to table) ≡ false → is_paired (pair_tables ids drawn) table ≡ is_in ns (table_at changes to table)
    none apart e = either_way (is_paired (pair_tables ids drawn) table)
        (λ b. let k = paired_then ids drawn table b in absurd (apart k.0 k.1.0 k.1.1))
        (λ b. b ∙ sym e)

    owned : (t : TableRecord) → In t ids → t.id ≡ table → owner_of ps.master.catalog.owners table ≡ Some ns
    owned t isin is =
        let k = then_is ps.master.catalog.tables ns to t isin in
        ap (owner_of ps.master.catalog.owners) (sym is) ∙ inv.master.tables.owned t k.0 ∙ ap Some k.1.1

    by_record : (r : Option TableRecord) → record_at ps.master.catalog.tables table to ≡ r → table_at changes to table ≡ option_map view_of r → owner_of ps.master.catalog.owners table ≡ Some ns → is_paired (pair_tables ids drawn) table ≡ is_in ns (table_at changes to table)
    by_record None e view owner = none
        (λ t isin is. let k = then_is ps.master.catalog.tables ns to t isin in
        (let q : None ≡ Some t = sym e ∙ ap (λ i. record_at ps.master.catalog.tables i to) (sym is) ∙ inv.master.tables.found to t k.0 k.1.0 in grind arith))
        (ap (is_in ns) view)
    by_record (Some r) e view owner =
        let f = find_is (λ (r : TableRecord). holds_at to r.from r.to && same r.id table) ps.master.catalog.tables r e in
        let both = both_pass (holds_at to r.from r.to) (same r.id table) f.passes in
        let is : r.id ≡ table = same_equal r.id table both.1 in
        let q : Some ns ≡ Some r.namespace = sym owner ∙ ap (owner_of ps.master.catalog.owners) (sym is) ∙ inv.master.tables.owned r f.listed in
        let own : r.namespace ≡ ns = cc in
        then_paired ids drawn table r (then_has ps.master.catalog.tables ns to r f.listed both.0 own) is
        ∙ sym (ap (is_in ns) view ∙ ap (λ k. same k ns) own ∙ same_self ns)

    by_view : (v : Option TableView) → table_at changes to table ≡ v → (other : Id) → owner_of ps.master.catalog.owners table ≡ Some other → same other ns ≡ false → is_in ns (table_at changes to table) ≡ false
    by_view None e other owner apart = ap (is_in ns) e
    by_view (Some v) e other owner apart =
        let q : Some other ≡ Some v.namespace = sym owner ∙ inv.master.tables.inside table to v e in
        let is : v.namespace ≡ other = cc in ap (is_in ns) e ∙ ap (λ k. same k ns) is ∙ apart

    by_owner : (o : Option Id) → owner_of ps.master.catalog.owners table ≡ o → is_paired (pair_tables ids drawn) table ≡ is_in ns (table_at changes to table)
    by_owner None e = none (λ t isin is. (let q : None ≡ Some ns = sym e ∙ owned t isin is in grind arith)) (ap (is_in ns) (inv.master.tables.unmade table to e))
    by_owner (Some other) e = either_way (same other ns)
        (λ b.
        let is : other ≡ ns = same_equal other ns b in
        let owner : owner_of ps.master.catalog.owners table ≡ Some ns = e ∙ ap Some is in
        by_record (record_at ps.master.catalog.tables table to) refl (inv.master.tables.viewed table ns to owner kept) owner)
        (λ b. none
        (λ t isin is. (let q : Some other ≡ Some ns = sym e ∙ owned t isin is in let z : other ≡ ns = cc in true≢false (sym (ap (λ k. same k ns) z ∙ same_self ns) ∙ b)))
        (by_view (table_at changes to table) refl other e b))

-- Commands

-- how the records go on by a command, and what it asked for is kept
pub record Asks (command : Command) (n : ℕ) (m : Master) (changes : List Made) (o : Outcome) : Type 0 where
  pub is : is_command o.master ≡ true
  pub restorations : (r : RestorationRecord) → In r m.restorations → RestorationGoes r (master_effect o.master n m).restorations
  pub clones : (c : CloneRecord) → In c m.clones → CloneGoes c (master_effect o.master n m).clones
  pub restorations_were : (r : RestorationRecord) → In r (master_effect o.master n m).restorations
      → In r.id (map {A = RestoreAsked} (λ a. a.operation) (restores_in (making_of command) (ids_made o.reply) m)) ⊎ In r.id (map {A = RestorationRecord} (λ q. q.id) m.restorations)
  pub clones_were : (c : CloneRecord) → In c (master_effect o.master n m).clones
      → In c.id (map {A = CloneAsked} (λ a. a.operation) (clones_in (making_of command) (ids_made o.reply) n m changes)) ⊎ In c.id (map {A = CloneRecord} (λ q. q.id) m.clones)
  pub asked : (a : RestoreAsked) → In a (restores_in (making_of command) (ids_made o.reply) m) → IsKeptRestore a (master_effect o.master n m).restorations
  pub asked_clones : (a : CloneAsked) → In a (clones_in (making_of command) (ids_made o.reply) n m changes) → IsKeptClone a (master_effect o.master n m).clones

quiet_asks : (command : Command) (n : ℕ) (m : Master) (changes : List Made) (o : Outcome) → is_command o.master ≡ true → (master_effect o.master n m).restorations ≡ m.restorations → (master_effect o.master n m).clones ≡ m.clones
    → restores_in (making_of command) (ids_made o.reply) m ≡ [] → clones_in (making_of command) (ids_made o.reply) n m changes ≡ [] → Asks command n m changes o
quiet_asks command n m changes o is restorations clones restores cloned =
    let go = stay m (master_effect o.master n m) restorations clones in record {
      is = is;
      restorations = go.restorations;
      clones = go.clones;
      restorations_were = λ r isin. inr (go.restorations_were r isin);
      clones_were = λ c isin. inr (go.clones_were c isin);
      asked = λ a isin. absurd (subst (In a) restores isin);
      asked_clones = λ a isin. absurd (subst (In a) cloned isin);
    }

refused_asks : (command : Command) (n : ℕ) (m : Master) (changes : List Made) (why : Refusal) → Asks command n m changes (refused why)
refused_asks command n m changes why = quiet_asks command n m changes (refused why) refl refl refl (no_restores (making_of command)) (no_clones (making_of command))
  where
    no_restores : (making : Making) → restores_in making [] m ≡ []
    no_restores ANamespace = refl
    no_restores (ATable tablets) = refl
    no_restores TwoTablets = refl
    no_restores ASchedule = refl
    no_restores ASnapshot = refl
    no_restores (ARestoration schedule to) = refl
    no_restores (AClone source target to) = refl
    no_restores Nothing = refl

    no_clones : (making : Making) → clones_in making [] n m changes ≡ []
    no_clones ANamespace = refl
    no_clones _ = refl

decided_asks : {A : Type 0} (judgement : Result A Refusal) (go : A → Outcome) (command : Command) (n : ℕ) (m : Master) (changes : List Made) → ((a : A) → judgement ≡ Ok a → Asks command n m changes (go a)) → Asks command n m changes (decided judgement go)
decided_asks (Err why) go command n m changes accepted = refused_asks command n m changes why
decided_asks (Ok a) go command n m changes accepted = accepted a refl

planned_asks : (command : Command) (slots : List ℕ) (n : ℕ) (ps : Parts) (activity : List Interval) (changes : List Made) → ps.master.clock ≤ n → Inv ps activity changes → Asks command n ps.master changes (planned command slots n ps)
unfolding create_namespace drop_namespace create_table add_column drop_column rename_table drop_table split create_schedule edit_schedule delete_schedule take_snapshot restore clone_namespace list_tablets
planned_asks (Restore schedule to) slots n ps activity changes le inv =
    let m = ps.master in
    decided_asks (judge_restore schedule to n m) _ (Restore schedule to) n m changes
    (λ s e.
    let found = found_is (schedule_with m.schedules schedule) UnknownSchedule s (checked_is (found_schedule m schedule) (λ s. restore_checks s to n m) s e).0 in
    let its : s.id ≡ schedule = same_equal s.id schedule (find_is (λ (k : ScheduleRecord). same k.id schedule) m.schedules s found).passes in
    let new : RestorationRecord = (record { id = next_restoration m; schedule = s.id; namespace = s.namespace; to = to; listed = listing Fence (active_tablets m.catalog.owners m.activity s.namespace); state = Fencing }) in
    record {
      is = refl;
      restorations = λ r isin. record { restoration = r; kept = in_first m.restorations (new ∷ []) r isin; id_is = refl; schedule_is = refl; namespace_is = refl; to_is = refl };
      clones = λ c isin. record { clone = c; kept = isin; id_is = refl; source_is = refl; target_is = refl; to_is = refl; tables_are = refl };
      restorations_were = λ r isin. elim (in_append m.restorations (new ∷ []) r isin) [
        | inl old ↦ inr (map_in {A = RestorationRecord} (λ q. q.id) m.restorations r old)
        | inr one ↦ (elim one [ inl is ↦ inl (inl (ap (λ (q : RestorationRecord). q.id) is)) | inr none ↦ absurd none ])
      ];
      clones_were = λ c isin. inr (map_in {A = CloneRecord} (λ q. q.id) m.clones c isin);
      asked = λ a isin. elim isin [
        | inl is ↦ subst (λ a. IsKeptRestore a (m.restorations ++ new ∷ [])) is (record {
          restoration = new;
          kept = in_second m.restorations (new ∷ []) new (inl refl);
          id_is = refl;
          schedule_is = its;
          namespace_is = ap (option_map {T = ScheduleRecord} (λ k. k.namespace)) found;
          to_is = refl;
        })
        | inr none ↦ absurd none
      ];
      asked_clones = λ a isin. absurd isin;
    })
planned_asks (CloneNamespace source target at) slots n ps activity changes le inv =
    let m = ps.master in
    let to = clone_time at n in
    decided_asks (judge_clone source target to n m) _ (CloneNamespace source target at) n m changes
    (λ s e.
    let may = may_clone ps activity changes source target to n s inv e in
    let new = new_clone s.namespace source target to m in
    let kept : kept_from m.catalog.kept_from s.namespace ≤ to = le_trans (inv.operations.kept s.namespace) (floor_from ps activity changes s.namespace s.least target to n le may.1) in
    record {
      is = refl;
      restorations = λ r isin. record { restoration = r; kept = isin; id_is = refl; schedule_is = refl; namespace_is = refl; to_is = refl };
      clones = λ c isin. record { clone = c; kept = in_first m.clones (new ∷ []) c isin; id_is = refl; source_is = refl; target_is = refl; to_is = refl; tables_are = refl };
      restorations_were = λ r isin. inr (map_in {A = RestorationRecord} (λ q. q.id) m.restorations r isin);
      clones_were = λ c isin. elim (in_append m.clones (new ∷ []) c isin) [
        | inl old ↦ inr (map_in {A = CloneRecord} (λ q. q.id) m.clones c old)
        | inr one ↦ (elim one [ inl is ↦ inl (inl (ap (λ (q : CloneRecord). q.id) is)) | inr none ↦ absurd none ])
      ];
      asked = λ a isin. absurd isin;
      asked_clones = λ a isin. elim isin [
        | inl is ↦ subst (λ a. IsKeptClone a (m.clones ++ new ∷ [])) is (record {
          clone = new;
          kept = in_second m.clones (new ∷ []) new (inl refl);
          id_is = refl;
          source_is = may.0;
          target_is = refl;
          to_is = refl;
          tables = source_tables ps activity changes s.namespace to m.drawn.tables inv kept;
        })
        | inr none ↦ absurd none
      ];
    })
planned_asks (CreateNamespace name) slots n ps activity changes le inv = decided_asks (judge_create_namespace name ps.master) _ (CreateNamespace name) n ps.master changes (λ a e. quiet_asks (CreateNamespace name) n ps.master changes _ refl refl refl refl refl)
planned_asks (CreateTable namespace table tablets columns) slots n ps activity changes le inv = decided_asks (judge_create_table namespace table tablets ps.master) _ (CreateTable namespace table tablets columns) n ps.master changes (λ a e. quiet_asks (CreateTable namespace table tablets columns) n ps.master changes _ refl refl refl refl refl)
planned_asks (Split namespace table code) slots n ps activity changes le inv = decided_asks (judge_split namespace table code ps.master) _ (Split namespace table code) n ps.master changes (λ a e. quiet_asks (Split namespace table code) n ps.master changes _ refl refl refl refl refl)
planned_asks (CreateSchedule interval retention namespace) slots n ps activity changes le inv = decided_asks (judge_create_schedule interval retention namespace ps.master) _ (CreateSchedule interval retention namespace) n ps.master changes (λ a e. quiet_asks (CreateSchedule interval retention namespace) n ps.master changes _ refl refl refl refl refl)
planned_asks (TakeSnapshot schedule) slots n ps activity changes le inv = decided_asks (judge_take_snapshot schedule n ps.master) _ (TakeSnapshot schedule) n ps.master changes (λ a e. quiet_asks (TakeSnapshot schedule) n ps.master changes _ refl refl refl refl refl)
planned_asks (DropNamespace name) slots n ps activity changes le inv = decided_asks (judge_drop_namespace name ps.master) _ (DropNamespace name) n ps.master changes (λ a e. quiet_asks (DropNamespace name) n ps.master changes _ refl refl refl refl refl)
planned_asks (AddColumn namespace table name kind) slots n ps activity changes le inv = decided_asks (judge_add_column namespace table name ps.master) _ (AddColumn namespace table name kind) n ps.master changes (λ a e. quiet_asks (AddColumn namespace table name kind) n ps.master changes _ refl refl refl refl refl)
planned_asks (DropColumn namespace table name) slots n ps activity changes le inv = decided_asks (judge_drop_column namespace table name ps.master) _ (DropColumn namespace table name) n ps.master changes (λ a e. quiet_asks (DropColumn namespace table name) n ps.master changes _ refl refl refl refl refl)
planned_asks (RenameTable namespace table name) slots n ps activity changes le inv = decided_asks (judge_rename_table namespace table name ps.master) _ (RenameTable namespace table name) n ps.master changes (λ a e. quiet_asks (RenameTable namespace table name) n ps.master changes _ refl refl refl refl refl)
planned_asks (DropTable namespace table) slots n ps activity changes le inv = decided_asks (judge_drop_table namespace table ps.master) _ (DropTable namespace table) n ps.master changes (λ a e. quiet_asks (DropTable namespace table) n ps.master changes _ refl refl refl refl refl)
planned_asks (EditSchedule schedule interval retention) slots n ps activity changes le inv = decided_asks (judge_edit_schedule schedule interval retention ps.master) _ (EditSchedule schedule interval retention) n ps.master changes (λ a e. quiet_asks (EditSchedule schedule interval retention) n ps.master changes _ refl refl refl refl refl)
planned_asks (DeleteSchedule schedule) slots n ps activity changes le inv = decided_asks (judge_delete_schedule schedule ps.master) _ (DeleteSchedule schedule) n ps.master changes (λ a e. quiet_asks (DeleteSchedule schedule) n ps.master changes _ refl refl refl refl refl)
planned_asks (ListTablets namespace) slots n ps activity changes le inv = decided_asks (found_namespace ps.master namespace) _ (ListTablets namespace) n ps.master changes (λ a e. quiet_asks (ListTablets namespace) n ps.master changes _ refl refl refl refl refl)
planned_asks command slots n ps activity changes le inv = quiet_asks command n ps.master changes _ refl refl refl refl refl

pub change_asks : (command : Command) (slots : List ℕ) (n : ℕ) (ps : Parts) (activity : List Interval) (changes : List Made) → ps.master.clock ≤ n → Inv ps activity changes → Asks command n ps.master changes (change command slots n ps)
unfolding change
change_asks command slots n ps activity changes le inv = by (same_slots slots (plan_of command ps.master))
  where
    by : (b : Bool) → Asks command n ps.master changes (judged (If (not b) (StalePlan (plan_of command ps.master)) ∷ []) (planned command slots n ps))
    by true = planned_asks command slots n ps activity changes le inv
    by false = refused_asks command n ps.master changes (StalePlan (plan_of command ps.master))
