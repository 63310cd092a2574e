-- The parts' versions are those of the journal's schemas: through commands to the master.
use Rattle.std.proofs.Common.{◌≡◌, ℕ, ◌≤◌, ◌<◌, ◌+◌, true, false, List, [], ◌∷◌, Some, None, ◌&&◌, ◌⊎◌, inl, inr, refl, sym, ap, subst, ◌∙◌, arith, cond, not, eqb, length, if◌then◌else◌}
use Rattle.std.specs.Prelude.{Result, Ok as Granted, Err as Denied}
use Rattle.std.specs.List.{list_any}
use Rattle.std.proofs.lemmas.Bool.{cond_both, true≢false, not-false}
use Rattle.std.proofs.lemmas.Bool.Decides.{nat_tests}
use Rattle.model.specs.Cluster.{Id, same, In, has, same_slots, NewColumn, ColumnKind, Interval, end_tablet, is_open, TableRecord, owner_of, current_table, RestorationRecord, Restoring, is_visible, Master, Parts, Outcome, MasterAct, MakesTable, AddsColumn, DropsColumn, If, refused, answered, checked, decided}
use Rattle.model.specs.Journal as made
use Rattle.model.specs.Tablets.{Tablet, TabletAct, Told, Clock, Make, Child, SetVersion, HideSince, CopyKind, is_done, is_empty, effect, act_for}
use Rattle.model.specs.Stands.{awaited_in, awaited_of, is_restore}
use Rattle.model.specs.Acts.{Act, Change, Command, CreateNamespace, DropNamespace, CreateTable, AddColumn, DropColumn, RenameTable, DropTable, Split, CreateSchedule, EditSchedule, DeleteSchedule, TakeSnapshot, Restore, CloneNamespace, ListSchedules, ListSnapshots, ListRestorations, ListClones, ListTablets, Refusal, StalePlan, UnknownColumn, Refused, SlotsFull, Reply, Schedules, Snapshots, Restorations, Clones}
use Rattle.model.specs.Drawn.{version_by}
use Rattle.model.specs.Entries.{slots_of}
use Rattle.model.specs.Looks.{found_namespace, found_table, slots_of_table, slots_for, plan_of, found_parent, family, free_slots}
use Rattle.model.specs.Changed.{next_table, shares, children, clone_time}
use Rattle.model.specs.Changes.{accepts, tell, tell_made, splitting, change, planned, create_namespace, drop_namespace, create_table, add_column, add_column_checks, drop_column, column_of, found_column, unheld_checks, rename_table, drop_table, split, split_checks, create_schedule, edit_schedule, delete_schedule, take_snapshot, restore, clone_namespace, list_tablets, judge_create_namespace, judge_drop_namespace, judge_create_table, judge_add_column, judge_drop_column, judge_rename_table, judge_drop_table, judge_split, judge_create_schedule, judge_edit_schedule, judge_delete_schedule, judge_take_snapshot, judge_restore, judge_clone}
use Rattle.model.specs.History.{told, master_effect, with_changes, with_master}
use Rattle.model.specs.Operations.{holder}
use Rattle.model.specs.Lines.{schedule_lines, snapshot_lines, restoration_lines, clone_lines}
use Rattle.std.specs.Option.{is_some, option_map}
use Rattle.law_store.proofs.Keys.{either_way}
use Rattle.law_invariants.specs.Invariant.{Inv}
use Rattle.law_invariants.proofs.Awaiting.{none_await, settled_none, listed_any}
use Rattle.law_invariants.proofs.Cataloguing.{table_is}
use Rattle.law_invariants.proofs.Finding.{in_append, in_mapped, same_equal, same_self, not_same, apart_by_number}
use Rattle.law_invariants.proofs.Judging.{checked_is, and_found_is}
use Rattle.law_invariants.proofs.Plans.{active_planned, planned_active}
use Rattle.law_invariants.proofs.Told.{slots_told, told_same, told_either, slots_equal}
use Rattle.law_changes.proofs.Creating.{share_is, share_number}
use Rattle.law_changes.proofs.Schemas.{column_found}
use Rattle.law_splits.proofs.Parents.{parent_found}
use Rattle.law_splits.proofs.Splitting.{family_is}
use Rattle.law_retention.proofs.Outcomes.{by_refusal, decided_by}
use Rattle.law.proofs.Newest.{current_latest}
use Rattle.law.proofs.Schemas.{SchemasStand}
use Rattle.law.proofs.PartVersions.{IsComing, IsCopying, VersionsGood, PartStays, IsFresh, versions_go, still_open, is_light, light_stays, IsLight, light_left, is_calm, calm_version}

-- what holds before an act
pub record Leads (ps : Parts) (activity : List Interval) (changes : List made.Change) : Type 0 where
  pub inv : Inv ps activity changes
  pub stand : SchemasStand ps.master.catalog.tables changes
  pub good : VersionsGood ps.master ps.tablet changes

-- and after it, of the tablets that the master knows
abbrev pub Held : Parts → Type 0
Held ps = (i : Interval) → In i ps.master.activity → (is_empty (ps.tablet i.slot).presence ≡ false) × ((ps.tablet i.slot).tablet ≡ i.tablet)

-- and of their tables
abbrev pub Tabled : Master → List made.Change → Type 0
Tabled m changes = (i : Interval) → In i m.activity → i.to ≡ None → option_map (λ r. r.schema.version) (current_table m.catalog.tables i.table) ≡ Some (version_by changes i.table)

abbrev pub Leaves : Act → ℕ → Parts → List made.Change → Outcome → Type 0
Leaves act n ps changes o = Held (told act o n ps) → Tabled (told act o n ps).master (with_changes act o n ps changes) → VersionsGood (told act o n ps).master (told act o n ps).tablet (with_changes act o n ps changes)

pub drawn_in : (ps : Parts) (activity : List Interval) (changes : List made.Change) → Inv ps activity changes → (i : Interval) → In i ps.master.activity → i.tablet.number ≤ ps.master.drawn.tablets
drawn_in ps activity changes inv i isin = ((inv.slots i.slot).each i isin refl).drawn

pub light_leaves : (act : Act) (n : ℕ) (ps : Parts) (activity : List Interval) (changes : List made.Change) (o : Outcome) → IsLight o → ((table : Id) → version_by (with_changes act o n ps changes) table ≡ version_by changes table) → Leads ps activity changes
    → Leaves act n ps changes o
light_leaves act n ps activity changes o l same_ h held tabled = light_left act o n ps changes (with_changes act o n ps changes) l same_ h.good (drawn_in ps activity changes h.inv) held

-- Commands that change no schema and begin no tablet

light_command : (command : Command) (slots : List ℕ) (n : ℕ) (ps : Parts) (activity : List Interval) (changes : List made.Change) (o : Outcome) → IsLight o → Leads ps activity changes → Leaves (Change command slots) n ps changes o
light_command command slots n ps activity changes o l h = light_leaves (Change command slots) n ps activity changes o l (λ table. calm_version o.master n ps.master changes table l.calm) h

none_told : (a : MasterAct) (made : List Id) → is_calm a ≡ true → IsLight (accepts a [] made)
none_told a made calm = record { calm = calm; light = λ slot. refl }

decided_with : {A : Type 0} (Q : Outcome → Type 0) (found : Result A Refusal) (accept : A → Outcome) → ((why : Refusal) → Q (refused why)) → ((a : A) → found ≡ Granted a → Q (accept a)) → Q (decided found accept)
decided_with Q (Denied why) accept no_ go = no_ why
decided_with Q (Granted a) accept no_ go = go a refl

-- Tablets that begin

abbrev IsMaking : Master → ℕ → TabletAct → Type 0
IsMaking m v (Make tablet table low high version) = (m.drawn.tablets < tablet.number) × (version ≡ v)
IsMaking m v (Child tablet table low high version versions cutoff) = (m.drawn.tablets < tablet.number) × (version ≡ v)
IsMaking m v _ = ⊥

making_fresh : (a : TabletAct) (m : Master) (v n : ℕ) (t : Tablet) → IsMaking m v a → IsFresh m (effect a n t) × ((effect a n t).version ≡ v)
making_fresh (Make tablet table low high version) m v n t h = ((h.0, refl), h.1)
making_fresh (Child tablet table low high version versions cutoff) m v n t h = ((h.0, refl), h.1)
making_fresh _ m v n t h = absurd h

-- what holds of no act, and of each that is told, holds of what a slot is told
pub each_told : (P : TabletAct → Type 0) (ts : List Told) (slot : ℕ) → P Clock → ((t : Told) → In t ts → P t.act) → P (act_for ts slot)
each_told P [] slot none each = none
each_told P (t ∷ ts) slot none each = cond_both (eqb t.slot slot) t.act (act_for ts slot) P (λ e. each t (inl refl)) (λ e. each_told P ts slot none (λ u isin. each u (inr isin)))

-- tablets of a table begin, and nothing else of the master changes that counts
record Begins (m new : Master) (changes more : List made.Change) (v : ℕ) : Type 0 where
  opens : (i : Interval) → In i new.activity → i.to ≡ None → In i m.activity ⊎ ((m.drawn.tablets < i.tablet.number) × (version_by more i.table ≡ v))
  versions : (i : Interval) → In i m.activity → version_by more i.table ≡ version_by changes i.table
  restorations : new.restorations ≡ m.restorations
  clones : new.clones ≡ m.clones

begun_leaves : (act : Act) (n : ℕ) (ps : Parts) (activity : List Interval) (changes : List made.Change) (o : Outcome) (v : ℕ) → Begins ps.master (told act o n ps).master changes (with_changes act o n ps changes) v
    → ((t : Told) → In t o.tablets → (is_light t.act ≡ true) ⊎ IsMaking ps.master v t.act) → Leads ps activity changes → Leaves act n ps changes o
begun_leaves act n ps activity changes o v b each h held tabled =
    let m = ps.master in
    let new = told act o n ps in
    let more = with_changes act o n ps changes in
    let goes : (slot : ℕ) → PartStays (ps.tablet slot) (new.tablet slot) ⊎ (IsFresh m (new.tablet slot) × ((new.tablet slot).version ≡ v)) = λ slot.
    cond_both (has (slots_of act) slot && not (eqb slot 0)) (effect (act_for o.tablets slot) n (ps.tablet slot)) (ps.tablet slot) (λ w. PartStays (ps.tablet slot) w ⊎ (IsFresh m w × (w.version ≡ v)))
    (λ e. elim (each_told (λ a. (is_light a ≡ true) ⊎ IsMaking m v a) o.tablets slot (inl refl) each) [
      | inl light ↦ inl (light_stays (act_for o.tablets slot) n (ps.tablet slot) light)
      | inr making ↦ inr (making_fresh (act_for o.tablets slot) m v n (ps.tablet slot) making)
    ])
    (λ e. inl (inl (refl, (refl, refl)))) in
    let number : (slot : ℕ) → (ps.tablet slot).tablet.number ≤ m.drawn.tablets = λ slot. (h.inv.slots slot).numbered in
    let begun : (i : Interval) → In i new.master.activity → m.drawn.tablets < i.tablet.number → (new.tablet i.slot).version ≡ v = λ i isin above. elim (goes i.slot) [
      | inr fresh ↦ fresh.1
      | inl stays ↦ elim stays [
        | inl e ↦ absurd (let l = number i.slot in let q : (ps.tablet i.slot).tablet.number ≡ i.tablet.number = ap (λ x. x.number) (sym e.1.0 ∙ (held i isin).1) in omega arith)
        | inr gone ↦ absurd (true≢false (sym gone.0 ∙ (held i isin).0))
      ]
    ] in
    versions_go m new.master ps.tablet new.tablet changes more
    (record {
      opens = λ i isin opened. elim (b.opens i isin opened) [
        | inl was ↦ inl was
        | inr fresh ↦ inr (record {
          version = begun i isin fresh.0 ∙ sym fresh.1;
          apart = λ version c. (
              let known : In c.restoration m.restorations = subst (In c.restoration) b.restorations c.known in
              let l = h.inv.master.listed c.restoration c.line known c.listed in
              let q : c.line.tablet.number ≡ i.tablet.number = ap (λ x. x.number) c.tablet_is in
              let above : m.drawn.tablets < i.tablet.number = fresh.0 in absurd (omega arith));
        })
      ];
      versions = b.versions;
      awaits = λ i isin opened e. subst (λ rs. awaited_in rs (ps.tablet i.slot).tablet (ps.tablet i.slot).done ≡ None) b.restorations e;
      comes = λ tablet version k. subst (λ rs. IsComing rs tablet version) b.restorations k;
      copies = λ p id k did. subst (λ cs. IsCopying cs p id) b.clones k;
    })
    (λ slot. elim (goes slot) [ inl stays ↦ inl stays | inr fresh ↦ inr fresh.0 ]) (drawn_in ps activity changes h.inv) held h.good

create_leaves : (ps : Parts) (activity : List Interval) (changes : List made.Change) (n : ℕ) (namespace table : List ℕ) (tablets : ℕ) (columns : List NewColumn) (slots : List ℕ) → Leads ps activity changes
    → Leaves (Change (CreateTable namespace table tablets columns) slots) n ps changes (create_table namespace table tablets columns slots n ps.master)
unfolding create_table
create_leaves ps activity changes n namespace table tablets columns slots h =
    let m = ps.master in
    let act = Change (CreateTable namespace table tablets columns) slots in
    let begun = shares slots 0 (length slots) n m.drawn.tablets (next_table m) in
    let above : (w : Interval) → In w begun → m.drawn.tablets < w.tablet.number = λ w isin. (let q : m.drawn.tablets + 0 < w.tablet.number = share_number slots 0 (length slots) n m w isin in omega arith) in
    decided_by (Leaves act n ps changes) (judge_create_table namespace table tablets m) _
    (λ why. light_command (CreateTable namespace table tablets columns) slots n ps activity changes (refused why) (record { calm = refl; light = λ slot. refl }) h)
    (λ ns. begun_leaves act n ps activity changes (accepts (MakesTable ns table columns slots) (tell_made begun) (next_table m ∷ [])) 1
    (record {
      opens = λ i isin opened. elim (in_append m.activity begun i isin) [
        | inl was ↦ inl was
        | inr new ↦ inr (
          above i new,
          (let s = share_is slots 0 (length slots) n m i (omega arith) new in
              ap (λ b. if b then 1 else version_by changes i.table) (ap (same (next_table m)) (ap (λ w. w.table) s.is) ∙ same_self (next_table m))),
        )
      ];
      versions = λ i isin. ap (λ b. if b then 1 else version_by changes i.table) (not_same (next_table m) i.table (λ e. apart_by_number i.table (next_table m) (let l = ((h.inv.slots i.slot).each i isin refl).drawn_table in omega arith) (sym e)));
      restorations = refl;
      clones = refl;
    })
    (in_mapped {A = Interval} {B = Told} (λ i. record { slot = i.slot; act = Make i.tablet i.table i.low i.high 1 }) (λ t. (is_light t.act ≡ true) ⊎ IsMaking m 1 t.act) begun (λ w isin. inr (above w isin, refl)))
    h)

-- A split

end_open : (is : List Interval) (tablet : Id) (n : ℕ) (i : Interval) → In i (end_tablet tablet n is) → i.to ≡ None → In i is
end_open is tablet n i isin opened = still_open is (λ i. same i.tablet tablet) n i isin opened

split_leaves : (ps : Parts) (activity : List Interval) (changes : List made.Change) (n : ℕ) (namespace table : List ℕ) (code : ℕ) (slots : List ℕ) → Leads ps activity changes
    → Leaves (Change (Split namespace table code) slots) n ps changes (split namespace table code n ps)
unfolding split
split_leaves ps activity changes n namespace table code slots h =
    let m = ps.master in
    let act = Change (Split namespace table code) slots in
    decided_with (Leaves act n ps changes) (judge_split namespace table code m) _
    (λ why. light_command (Split namespace table code) slots n ps activity changes (refused why) (record { calm = refl; light = λ slot. refl }) h)
    (λ f judged.
    let by = and_found_is (checked (found_parent m namespace table code) (λ p. split_checks p code m)) (λ p. family p (free_slots m)) (SlotsFull (length (free_slots m)) 2) f judged in
    let passed = checked_is (found_parent m namespace table code) (λ p. split_checks p code m) by.0 by.1.0 in
    let is_family = family_is by.0 (free_slots m) f by.1.1 in
    let its = parent_found m namespace table code f.parent (passed.0 ∙ ap Granted (sym is_family.0)) in
    let t = f.parent.table in
    let p = f.parent.tablet in
    let v = t.schema.version in
    let current = table_is m namespace table t its.0 in
    let version_is : version_by changes p.table ≡ v = ap (version_by changes) its.1.table_is ∙ sym (h.stand.newest t.id t.schema (current_latest m.catalog.tables t None h.inv.master.tables.rise current.listed current.current)).version in
    begun_leaves act n ps activity changes (splitting f code n m (ps.tablet p.slot)) v
    (record {
      opens = λ i isin opened. elim (in_append (end_tablet p.tablet n m.activity) (children p code f.low_slot f.high_slot n m.drawn.tablets) i isin) [
        | inl was ↦ inl (end_open m.activity p.tablet n i was opened)
        | inr new ↦ elim new [
          | inl e ↦ inr ((let q : m.drawn.tablets + 1 ≡ i.tablet.number = ap (λ w. w.tablet.number) e in omega arith), ap (λ w. version_by changes w.table) (sym e) ∙ version_is)
          | inr more ↦ elim more [
            | inl e ↦ inr ((let q : m.drawn.tablets + 2 ≡ i.tablet.number = ap (λ w. w.tablet.number) e in omega arith), ap (λ w. version_by changes w.table) (sym e) ∙ version_is)
            | inr none ↦ absurd none
          ]
        ]
      ];
      versions = λ i isin. refl;
      restorations = refl;
      clones = refl;
    })
    (λ told_ isin. elim isin [
      | inl e ↦ inl (ap (λ k. is_light k.act) (sym e))
      | inr more ↦ elim more [
        | inl e ↦ inr (subst (λ k. IsMaking m v k.act) e (omega arith, refl))
        | inr rest ↦ elim rest [ inl e ↦ inr (subst (λ k. IsMaking m v k.act) e (omega arith, refl)) | inr none ↦ absurd none ]
      ]
    ])
    h)

-- A column comes or goes

coming_awaits : (rs : List RestorationRecord) (tablet : Id) (version : ℕ) → IsComing rs tablet version → awaited_in rs tablet [] ≡ None → ⊥
coming_awaits rs tablet version c none =
    let any : list_any (λ l. same l.tablet tablet && is_restore l.body) c.restoration.listed ≡ true = listed_any c.restoration.listed c.line tablet c.listed c.tablet_is (ap is_restore c.body_is) in
    let settled : awaited_of (Restoring c.point c.serving) c.restoration tablet [] ≡ None = sym (ap (λ s. awaited_of s c.restoration tablet []) c.state_is) ∙ settled_none rs tablet [] none c.restoration c.known in
    let q : Some c.point ≡ None = sym (ap (λ b. cond (b && true) (Some c.point) None) any) ∙ settled in grind arith

-- a table that is current, in a namespace that no operation holds, with the slots of its tablets
record IsColumned (m : Master) (slots : List ℕ) (t : TableRecord) : Type 0 where
  all : slots ≡ slots_of_table m t.id
  listed : In t m.catalog.tables
  current : is_open t.to ≡ true
  unheld : is_some (holder m t.namespace) ≡ false

-- the journal counts one more version of it alone
record Counts (t : TableRecord) (changes more : List made.Change) : Type 0 where
  counts : (table : Id) → version_by more table ≡ cond (same t.id table) (version_by changes table + 1) (version_by changes table)

column_leaves : (command : Command) (slots : List ℕ) (n : ℕ) (ps : Parts) (activity : List Interval) (changes : List made.Change) (a : MasterAct) (t : TableRecord) → IsColumned ps.master slots t
    → (master_effect a n ps.master).activity ≡ ps.master.activity → (master_effect a n ps.master).restorations ≡ ps.master.restorations → (master_effect a n ps.master).clones ≡ ps.master.clones
    → Counts t changes (with_master a n ps.master changes) → Leads ps activity changes
    → VersionsGood (master_effect a n ps.master) (told (Change command slots) (accepts a (tell slots (SetVersion (t.schema.version + 1))) []) n ps).tablet (with_master a n ps.master changes)
column_leaves command slots n ps activity changes a t is same_activity same_restorations same_clones more h =
    let m = ps.master in
    let inv = h.inv in
    let act = SetVersion (t.schema.version + 1) in
    let now : version_by changes t.id ≡ t.schema.version = sym (h.stand.newest t.id t.schema (current_latest m.catalog.tables t None inv.master.tables.rise is.listed is.current)).version in
    let owner : owner_of m.catalog.owners t.id ≡ Some t.namespace = inv.master.tables.owned t is.listed in
    let its : (slot : ℕ) → has slots slot ≡ true → (j : Interval) × (In j m.activity × ((j.slot ≡ slot) × (j.table ≡ t.id))) = λ slot has_. planned_active m t.id slot (sym (ap (λ ss. has ss slot) is.all) ∙ has_) in
    let beside : (table : Id) → same t.id table ≡ false → version_by (with_master a n ps.master changes) table ≡ version_by changes table = λ table b. more.counts table ∙ ap (λ c. cond c (version_by changes table + 1) (version_by changes table)) b in
    record {
      active = λ i isin opened came. (
          let known : In i m.activity = subst (In i) same_activity isin in
          slots_told (λ s v. s ≡ i.slot → awaited_in (master_effect a n m).restorations v.tablet v.done ≡ None → v.version ≡ version_by (with_master a n ps.master changes) i.table) command slots a (tell slots act) [] n ps
          (λ s has_ from. subst (λ b. s ≡ i.slot → awaited_in (master_effect a n m).restorations (effect b n (ps.tablet s)).tablet (effect b n (ps.tablet s)).done ≡ None → (effect b n (ps.tablet s)).version ≡ version_by (with_master a n ps.master changes) i.table) (sym (told_same slots act s has_)) (λ at came.
          let j = its s has_ in
          let table_is : i.table ≡ t.id = sym ((inv.slots s).each i known (sym at)).table_is ∙ ((inv.slots s).each j.0 j.1.0 j.1.1.0).table_is ∙ j.1.1.1 in
          ap (λ v. v + 1) (sym now) ∙ sym (ap (λ c. cond c (version_by changes t.id + 1) (version_by changes t.id)) (same_self t.id)) ∙ sym (more.counts t.id) ∙ ap (version_by (with_master a n ps.master changes)) (sym table_is)))
          (λ s others at came. either_way (same t.id i.table)
          (λ b. absurd (
          let from : 1 ≤ i.slot = ((inv.slots i.slot).each i known refl).slot_from in
          let apart : eqb s 0 ≡ false = (let q : s ≡ i.slot = at in grind (arith, nat_tests)) in
          let mine : same i.table t.id ≡ true = ap (λ k. same k t.id) (sym (same_equal t.id i.table b)) ∙ same_self t.id in
          true≢false (sym (active_planned m t.id i known opened mine) ∙ ap (λ ss. has ss i.slot) (sym is.all) ∙ ap (has slots) (sym at) ∙ others apart)))
          (λ b. ap (λ k. (ps.tablet k).version) at ∙ h.good.active i known opened (subst (λ k. awaited_in m.restorations (ps.tablet k).tablet (ps.tablet k).done ≡ None) at (subst (λ rs. awaited_in rs (ps.tablet s).tablet (ps.tablet s).done ≡ None) same_restorations came)) ∙ sym (beside i.table b)))
          i.slot refl came);
      coming = λ i version isin opened c. (
          let known : In i m.activity = subst (In i) same_activity isin in
          let k : IsComing m.restorations i.tablet version = subst (λ rs. IsComing rs i.tablet version) same_restorations c in
          either_way (same t.id i.table)
          (λ b. absurd (coming_awaits m.restorations i.tablet version k (none_await m changes t.namespace t.id inv.master owner is.unheld i [] known (ap (λ k. same k t.id) (sym (same_equal t.id i.table b)) ∙ same_self t.id))))
          (λ b. h.good.coming i version known opened k ∙ sym (beside i.table b)));
      copied = λ p id c did. (
          let k : IsCopying m.clones p id = subst (λ cs. IsCopying cs p id) same_clones c in
          slots_told (λ s v. s ≡ p.slot → is_done v.done id CopyKind ≡ true → v.version ≡ 1) command slots a (tell slots act) [] n ps
          (λ s has_ from at. absurd (let j = its s has_ in ((inv.operations.clones k.clone k.known).reserved (ap is_visible k.state_is) p k.paired).free j.0 j.1.0 (j.1.1.0 ∙ at)))
          (λ s others at. subst (λ q. is_done (ps.tablet q).done id CopyKind ≡ true → (ps.tablet q).version ≡ 1) (sym at) (h.good.copied p id k))
          p.slot refl did);
    }

-- All commands

add_column_leaves : (ps : Parts) (activity : List Interval) (changes : List made.Change) (n : ℕ) (namespace table name : List ℕ) (kind : ColumnKind) (slots : List ℕ) → slots ≡ plan_of (AddColumn namespace table name kind) ps.master → Leads ps activity changes
    → Leaves (Change (AddColumn namespace table name kind) slots) n ps changes (add_column namespace table name kind slots ps.master)
unfolding add_column plan_of
add_column_leaves ps activity changes n namespace table name kind slots plan h =
    let m = ps.master in
    let command = AddColumn namespace table name kind in
    decided_with (Leaves (Change command slots) n ps changes) (judge_add_column namespace table name m) _
    (λ why. light_command command slots n ps activity changes (refused why) (record { calm = refl; light = λ slot. refl }) h)
    (λ t found held tabled.
    let judged = checked_is (found_table m namespace table) (λ t. add_column_checks t name m) t found in
    let current = table_is m namespace table t judged.0 in
    column_leaves command slots n ps activity changes (AddsColumn t name kind) t
    (record { all = plan ∙ ap (λ j. slots_for j (λ t. slots_of_table m t.id)) judged.0; listed = current.listed; current = current.current; unheld = judged.1.0 }) refl refl refl (record { counts = λ table. refl }) h)

drop_column_leaves : (ps : Parts) (activity : List Interval) (changes : List made.Change) (n : ℕ) (namespace table name slots : List ℕ) → slots ≡ plan_of (DropColumn namespace table name) ps.master → Leads ps activity changes
    → Leaves (Change (DropColumn namespace table name) slots) n ps changes (drop_column namespace table name slots ps.master)
unfolding drop_column plan_of
drop_column_leaves ps activity changes n namespace table name slots plan h =
    let m = ps.master in
    let command = DropColumn namespace table name in
    decided_with (Leaves (Change command slots) n ps changes) (judge_drop_column namespace table name m) _
    (λ why. light_command command slots n ps activity changes (refused why) (record { calm = refl; light = λ slot. refl }) h)
    (λ c found held tabled.
    let judged = checked_is (found_column m namespace table name) (λ c. unheld_checks c.table.namespace m) c found in
    let by = and_found_is (found_table m namespace table) (column_of name) UnknownColumn c judged.0 in
    let there : found_table m namespace table ≡ Granted c.table = by.1.0 ∙ ap Granted (sym (column_found by.0 name c by.1.1).0) in
    let current = table_is m namespace table c.table there in
    column_leaves command slots n ps activity changes (DropsColumn c.table c.column) c.table
    (record { all = plan ∙ ap (λ j. slots_for j (λ t. slots_of_table m t.id)) there; listed = current.listed; current = current.current; unheld = judged.1.0 }) refl refl refl (record { counts = λ table. refl }) h)

pub answers_light : (reply : Reply) → IsLight (answered reply)
answers_light reply = record { calm = refl; light = λ slot. refl }

accepts_light : {A : Type 0} (found : Result A Refusal) (accept : A → Outcome) → ((a : A) → IsLight (accept a)) → IsLight (decided found accept)
accepts_light found accept each = decided_by IsLight found accept (λ why. answers_light (Refused why)) each

planned_leaves : (command : Command) (slots : List ℕ) (n : ℕ) (ps : Parts) (activity : List Interval) (changes : List made.Change) → slots ≡ plan_of command ps.master → Leads ps activity changes
    → Leaves (Change command slots) n ps changes (planned command slots n ps)
unfolding create_namespace drop_namespace rename_table drop_table create_schedule edit_schedule delete_schedule take_snapshot restore clone_namespace list_tablets
planned_leaves (CreateTable namespace table tablets columns) slots n ps activity changes plan h = create_leaves ps activity changes n namespace table tablets columns slots h
planned_leaves (AddColumn namespace table name kind) slots n ps activity changes plan h = add_column_leaves ps activity changes n namespace table name kind slots plan h
planned_leaves (DropColumn namespace table name) slots n ps activity changes plan h = drop_column_leaves ps activity changes n namespace table name slots plan h
planned_leaves (Split namespace table code) slots n ps activity changes plan h = split_leaves ps activity changes n namespace table code slots h
planned_leaves (CreateNamespace name) slots n ps activity changes plan h = light_command (CreateNamespace name) slots n ps activity changes _ (accepts_light (judge_create_namespace name ps.master) _ (λ id. none_told _ _ refl)) h
planned_leaves (DropNamespace name) slots n ps activity changes plan h = light_command (DropNamespace name) slots n ps activity changes _ (accepts_light (judge_drop_namespace name ps.master) _ (λ ns. none_told _ _ refl)) h
planned_leaves (RenameTable namespace table name) slots n ps activity changes plan h = light_command (RenameTable namespace table name) slots n ps activity changes _ (accepts_light (judge_rename_table namespace table name ps.master) _ (λ t. none_told _ _ refl)) h
planned_leaves (DropTable namespace table) slots n ps activity changes plan h = light_command (DropTable namespace table) slots n ps activity changes _
    (accepts_light (judge_drop_table namespace table ps.master) _ (λ t. record { calm = refl; light = λ slot. told_either (λ a. is_light a ≡ true) slots (HideSince n) slot refl refl })) h
planned_leaves (CreateSchedule interval retention namespace) slots n ps activity changes plan h =
    light_command (CreateSchedule interval retention namespace) slots n ps activity changes _ (accepts_light (judge_create_schedule interval retention namespace ps.master) _ (λ ns. none_told _ _ refl)) h
planned_leaves (EditSchedule schedule interval retention) slots n ps activity changes plan h =
    light_command (EditSchedule schedule interval retention) slots n ps activity changes _ (accepts_light (judge_edit_schedule schedule interval retention ps.master) _ (λ s. none_told _ _ refl)) h
planned_leaves (DeleteSchedule schedule) slots n ps activity changes plan h = light_command (DeleteSchedule schedule) slots n ps activity changes _ (accepts_light (judge_delete_schedule schedule ps.master) _ (λ s. none_told _ _ refl)) h
planned_leaves (TakeSnapshot schedule) slots n ps activity changes plan h = light_command (TakeSnapshot schedule) slots n ps activity changes _ (accepts_light (judge_take_snapshot schedule n ps.master) _ (λ s. none_told _ _ refl)) h
planned_leaves (Restore schedule to) slots n ps activity changes plan h = light_command (Restore schedule to) slots n ps activity changes _ (accepts_light (judge_restore schedule to n ps.master) _ (λ s. none_told _ _ refl)) h
planned_leaves (CloneNamespace source target to) slots n ps activity changes plan h =
    light_command (CloneNamespace source target to) slots n ps activity changes _ (accepts_light (judge_clone source target (clone_time to n) n ps.master) _ (λ s. none_told _ _ refl)) h
planned_leaves (ListTablets namespace) slots n ps activity changes plan h = light_command (ListTablets namespace) slots n ps activity changes _ (accepts_light (found_namespace ps.master namespace) _ (λ ns. answers_light _)) h
planned_leaves ListSchedules slots n ps activity changes plan h = light_command ListSchedules slots n ps activity changes _ (answers_light (Schedules (schedule_lines n ps.master))) h
planned_leaves ListSnapshots slots n ps activity changes plan h = light_command ListSnapshots slots n ps activity changes _ (answers_light (Snapshots (snapshot_lines ps.master))) h
planned_leaves ListRestorations slots n ps activity changes plan h = light_command ListRestorations slots n ps activity changes _ (answers_light (Restorations (restoration_lines ps.master))) h
planned_leaves ListClones slots n ps activity changes plan h = light_command ListClones slots n ps activity changes _ (answers_light (Clones (clone_lines ps.master))) h

pub change_leaves : (command : Command) (slots : List ℕ) (n : ℕ) (ps : Parts) (activity : List Interval) (changes : List made.Change) → Leads ps activity changes → Leaves (Change command slots) n ps changes (change command slots n ps)
unfolding change
change_leaves command slots n ps activity changes h =
    let plan = plan_of command ps.master in
    by_refusal (Leaves (Change command slots) n ps changes) (If (not (same_slots slots plan)) (StalePlan plan) ∷ []) (planned command slots n ps)
    (λ why. light_command command slots n ps activity changes (refused why) (answers_light (Refused why)) h)
    (λ passes. planned_leaves command slots n ps activity changes (slots_equal slots plan (not-false (same_slots slots plan) passes.0)) h)
