-- Each command keeps the facts: on namespaces, tables and columns, schedules, snapshots, restores and clones.
use Rattle.std.proofs.Common.{leb, ◌+◌, ◌<◌, ◌≤◌, ◌≡◌, ◌∷◌, ◌++◌, ◌∙◌, ◌⊎◌, ℕ, List, [], true, false, cond, Option, Some, None, map, length, not, refl, sym, ap, subst, inl, inr, arith, le_refl, le_of_lt, le_trans, eqb, max}
use Rattle.std.proofs.lemmas.Bool.{cond_both, true≢false}
use Rattle.std.proofs.lemmas.Bool.Decides.{nat_tests}
use Rattle.std.specs.Option.{is_some}
use Rattle.row_values.specs.Ids.{Id, same}
use Rattle.row_values.specs.Elements.{In}
use Rattle.row_values.specs.Schema.{NewColumn}
use Rattle.row_values.specs.Slots.{same_slots}
use Rattle.row_values.specs.Store.{part_of}
use Rattle.model.specs.Times.{before_end}
use Rattle.model.specs.Activity.{Interval, active_at, last_of}
use Rattle.model.specs.Acts.{Act, Change, Command, CreateNamespace, DropNamespace, CreateTable, AddColumn, DropColumn, RenameTable, DropTable, Split, CreateSchedule, EditSchedule, DeleteSchedule, TakeSnapshot, Restore, CloneNamespace, ListSchedules, ListSnapshots, ListRestorations, ListClones, ListTablets, Refusal, Refused, Reply, StalePlan, Schedules, Snapshots, Restorations, Clones, Tablets}
use Rattle.model.specs.Catalog.{Owner, is_owned_by, owner_of, owns}
use Rattle.model.specs.Changed.{children, clone_time, next_clone, next_restoration, next_schedule, next_table, schedule_made, schedule_deleted, shares, snapshot_taken, restoration_begun, clone_begun, table_made, table_dropped, tablet_split}
use Rattle.model.specs.Changes.{accepts, add_column, change, clone_namespace, create_namespace, create_schedule, create_table, delete_schedule, edit_schedule, drop_column, drop_namespace, drop_table, list_tablets, planned, rename_table, restore, split, splitting, take_snapshot, tell, tell_made, judge_add_column, judge_clone, judge_create_namespace, judge_create_schedule, judge_create_table, judge_delete_schedule, judge_drop_column, judge_drop_namespace, judge_drop_table, judge_edit_schedule, judge_rename_table, judge_restore, judge_split, judge_take_snapshot}
use Rattle.model.specs.Entries.{slots_of}
use Rattle.model.specs.History.{master_effect, told}
use Rattle.model.specs.Journal.{Change as Made, table_at}
use Rattle.model.specs.Lines.{clone_lines, restoration_lines, schedule_lines, snapshot_lines, tablet_lines}
use Rattle.model.specs.Lists.{next_snapshot}
use Rattle.model.specs.Looks.{Family, found_namespace, plan_of}
use Rattle.model.specs.Parts.{AddsColumn, BeginsClone, BeginsRestoration, DeletesSchedule, DropsColumn, DropsNamespace, DropsTable, EditsSchedule, If, MakesNamespace, MakesSchedule, MakesTable, Master, MasterAct, Outcome, Parts, RenamesTable, TakesSnapshot, answered, refused}
use Rattle.model.specs.Records.{Schedule, ScheduledNamespace, scheduled_in}
use Rattle.model.specs.Retained.{IsTabletOf}
use Rattle.model.specs.Schedules.{complete_to}
use Rattle.model.specs.Tablets.{Child, Clock, HideSince, Make, SetVersion, Tablet, TabletAct, Told, act_for, effect, is_empty}
use Rattle.law_store.proofs.Keys.{either_way}
use Rattle.law_invariants.specs.Invariant.{Inv, Later, OverBy}
use Rattle.law_invariants.specs.Operations.{OperationsGood}
use Rattle.law_invariants.proofs.Finding.{in_append, in_mapped, filter_in, none_or_some, passes_both, same_equal}
use Rattle.law_invariants.proofs.Frame.{touched}
use Rattle.law_invariants.proofs.Lasting.{last_in}
use Rattle.law_invariants.proofs.Records.{owners_first}
use Rattle.law_invariants.proofs.Ticking.{tablet_before}
use Rattle.law_retention.specs.Facts.{Facts, GoesBack, own_point}
use Rattle.law_retention.proofs.Outcomes.{by_refusal, decided_by}
use Rattle.law_retention.proofs.Growing.{ActivityOn, GoOn, IsNew, WasActive, activity_goes_on, activity_grows, ended_go_on, ended_if, last_behind, they_go_on}
use Rattle.law_retention.proofs.Holding.{HoldsFacts, MasterHolds, MasterLike, StatesGoOn, WasScheduled, answer_holds, back_on, holds_like, like_itself, like_on, own_goes_on, they_are, they_were, told_by}
use Rattle.law_retention.proofs.Scheduling.{IsMade, added_taken, begun_follows, begun_was, lasts_were, made_follows, they_were_taken, times_same}

-- what is to be shown of an outcome, where what holds after each entry holds of what it leaves
abbrev pub HoldsThen : Act → ℕ → Parts → Outcome → Type 0
HoldsThen act n ps o = (activity : List Interval) (changes : List Made) → Inv (told act o n ps) activity changes → HoldsFacts act n ps o

-- Tablets

-- a part after what it is told has a cutoff by its clock, and its tablet's intervals are of its slot
pub record IsHeld (k : Master) (slot : ℕ) (u : Tablet) : Type 0 where
  pub cutoff : u.cutoff ≤ u.clock
  pub home : (i : Interval) → In i k.activity → i.tablet ≡ u.tablet → i.slot ≡ slot

-- a part that is told this goes back far enough
abbrev pub GoesBackTold : Master → ℕ → ℕ → Tablet → TabletAct → Type 0
GoesBackTold k n slot t act = IsHeld k slot (effect act n t) → is_empty (effect act n t).presence ≡ false → GoesBack k (effect act n t)

-- what a slot is told is in the list, or only to set its clock
pub told_each : (P : TabletAct → Type 0) (ts : List Told) (slot : ℕ) → ((t : Told) → In t ts → P t.act) → P Clock → P (act_for ts slot)
told_each P [] slot each clock = clock
told_each P (t ∷ ts) slot each clock = cond_both (eqb t.slot slot) t.act (act_for ts slot) P (λ e. each t (inl refl)) (λ e. told_each P ts slot (λ q there. each q (inr there)) clock)

-- an outcome keeps the facts where the master's part of it does, and each part goes back far enough
pub holds_told : (act : Act) (o : Outcome) (n : ℕ) (ps : Parts) (activity : List Interval) (changes : List Made) → Inv ps activity changes → Facts ps → MasterHolds ps.master (told act o n ps).master
    → ((slot : ℕ) → touched act slot ≡ true → (t : Told) → In t o.tablets → GoesBackTold (told act o n ps).master n slot (ps.tablet slot) t.act) → HoldsThen act n ps o
holds_told act o n ps activity changes inv facts holds tablets then_activity then_changes after =
    let k = (told act o n ps).master in
    told_by act o n ps activity changes inv facts holds
    (λ slot is here.
    let t = ps.tablet slot in
    let there : (told act o n ps).tablet slot ≡ effect (act_for o.tablets slot) n t = ap (λ b. cond b (effect (act_for o.tablets slot) n t) t) is in
    let good = (after.slots slot).good.cutoff in
    let present : is_empty ((told act o n ps).tablet slot).presence ≡ false = ap (λ u. is_empty u.presence) there ∙ here in
    let held : IsHeld k slot (effect (act_for o.tablets slot) n t) = record {
      cutoff = subst (λ u. u.cutoff ≤ u.clock) there good;
      home = λ i inside of. (after.slots slot).home present i inside (of ∙ ap (λ u. u.tablet) (sym there));
    } in
    told_each (GoesBackTold k n slot t) o.tablets slot (tablets slot is)
    (λ h held_. back_on ps activity changes k slot (effect Clock n t) inv holds.on (facts.tablets slot held_) (like_on k t (effect Clock n t) held_ refl refl refl))
    held here)

versioned_back : (ps : Parts) (activity : List Interval) (changes : List Made) (k : Master) (slot n version : ℕ) → Inv ps activity changes → Facts ps → MasterHolds ps.master k → GoesBackTold k n slot (ps.tablet slot) (SetVersion version)
versioned_back ps activity changes k slot n version inv facts holds held here =
    let t = ps.tablet slot in
    back_on ps activity changes k slot (effect (SetVersion version) n t) inv holds.on (facts.tablets slot here) (like_on k t (effect (SetVersion version) n t) here refl refl refl)

-- a tablet that is hidden was there: its intervals are no new tablet's
hidden_back : (ps : Parts) (activity : List Interval) (changes : List Made) (k : Master) (slot n ended : ℕ) → Inv ps activity changes → Facts ps → MasterHolds ps.master k → k.clock ≡ n → (ps.tablet slot).clock ≤ n
    → ((i : Interval) → In i k.activity → i.tablet.number ≤ ps.master.drawn.tablets → WasActive ps.master i) → GoesBackTold k n slot (ps.tablet slot) (HideSince ended)
hidden_back ps activity changes k slot n ended inv facts holds clock early old held here =
    let m = ps.master in
    let t = ps.tablet slot in
    let u = effect (HideSince ended) n t in
    either_way (is_empty t.presence)
    (λ empty.
    let bare = (inv.works slot).orders.bare empty in
    let cut = (inv.slots slot).good.cutoff in
    record {
      live = λ s i listed last owned.
          let found = last_in k.activity t.tablet i last in
          let mine : i.tablet ≡ t.tablet = same_equal i.tablet t.tablet found.1 in
          let at : i.slot ≡ slot = held.home i found.0 mine in
          let a = old i found.0 (subst (λ id. id.number ≤ m.drawn.tablets) (sym mine) (inv.slots slot).numbered) in
          absurd (let g = (inv.slots slot).each a.was a.inside (a.slot_is ∙ at) in true≢false (sym empty ∙ g.present));
      now = subst (λ c. t.cutoff ≤ c) (sym clock) (le_trans cut early);
      sets = λ f r i x f_held inside id_is listed of active after late. absurd (subst (In f) bare.frozen f_held);
    })
    (λ present. back_on ps activity changes k slot u inv holds.on (facts.tablets slot present) (like_on k t u present refl refl refl))

-- a part that gets a new tablet goes back to its making
placed_back : (k : Master) (n slot : ℕ) (u : Tablet) → k.clock ≡ n → u.clock ≡ n → u.frozen ≡ [] → ((i : Interval) → last_of k.activity u.tablet ≡ Some i → i.from ≡ n) → IsHeld k slot u → GoesBack k u
placed_back k n slot u clock mine none begun held =
    let cut = held.cutoff in
    record {
      live = λ s i listed last owned. (let from = begun i last in within u.cutoff u.clock n i.from (complete_to s + 1) cut mine from);
      now = (let c = clock in omega (arith, cut, mine, c));
      sets = λ f r i x f_held inside id_is listed of active after late. absurd (subst (In f) none f_held);
    }
  where
    within : (c u n f a : ℕ) → c ≤ u → u ≡ n → f ≡ n → c ≤ max a f
    within c u n f a h g l = omega arith

-- The master

pub drawn_before : (ps : Parts) (activity : List Interval) (changes : List Made) (i : Interval) → Inv ps activity changes → In i ps.master.activity → i.tablet.number ≤ ps.master.drawn.tablets
drawn_before ps activity changes i inv inside = ((inv.slots i.slot).each i inside refl).drawn

new_by_number : (ps : Parts) (activity : List Interval) (changes : List Made) (n : ℕ) (j : Interval) → Inv ps activity changes → j.from ≡ n → ps.master.drawn.tablets < j.tablet.number → IsNew ps.master n j
new_by_number ps activity changes n j inv from above = record {
  from_is = from;
  unknown = λ i inside of.
      let by = drawn_before ps activity changes i inv inside in
      let number : i.tablet.number ≡ j.tablet.number = ap (λ id. id.number) of in
      omega (arith, by, number, above);
}

-- an interval has its table's owner still where further tables have one
first_active : (i : Interval) (clock : ℕ) → OverBy clock i.from i.to → active_at i.from i ≡ true
first_active i clock over = passes_both (leb i.from i.from) (before_end i.from i.to) (grind (arith, nat_tests)) (ends i.to over)
  where
    ends : (to : Option ℕ) → OverBy clock i.from to → before_end i.from to ≡ true
    ends None h = refl
    ends (Some to) h = let l = h.0 in grind (arith, nat_tests)

pub owned_further : (ps : Parts) (activity : List Interval) (changes : List Made) (os : List Owner) (ns : Id) (i : Interval) → Inv ps activity changes → In i ps.master.activity
    → owns (ps.master.catalog.owners ++ os) ns i.table ≡ true → IsTabletOf ps.master ns i
owned_further ps activity changes os ns i inv inside owned =
    let m = ps.master in
    let g = (inv.slots i.slot).each i inside refl in
    let view : is_some (table_at changes i.from i.table) ≡ true = g.viewed i.from (first_active i _ g.over) in
    none_or_some (owner_of m.catalog.owners i.table)
    (λ none. absurd (let gone : table_at changes i.from i.table ≡ None = inv.master.tables.unmade i.table i.from none in true≢false (sym view ∙ ap is_some gone)))
    (λ o some. ap (λ w. is_owned_by w ns) (some ∙ sym (owners_first m.catalog.owners os i.table o some)) ∙ owned)

-- a master whose tables and schedules go on alike, with other intervals
pub record IsGrown (ps : Parts) (k : Master) : Type 0 where
  pub later : ps.master.clock ≤ k.clock
  pub scheduled : k.scheduled ≡ ps.master.scheduled
  pub snapshots : k.snapshots ≡ ps.master.snapshots
  pub owned : (ns : Id) (i : Interval) → In i ps.master.activity → IsTabletOf k ns i → IsTabletOf ps.master ns i
  pub activity : ActivityOn ps.master k
  pub states : StatesGoOn ps.master k

pub grown_holds : (ps : Parts) (activity : List Interval) (changes : List Made) (k : Master) → Inv ps activity changes → Facts ps → IsGrown ps k → MasterHolds ps.master k
grown_holds ps activity changes k inv facts grown = record {
  on = record {
    later = grown.later;
    scheduled = they_were ps.master k grown.scheduled;
    owned = grown.owned;
    activity = grown.activity;
    taken = λ r inside. inl (they_were_taken ps.master r (subst (In r) grown.snapshots inside));
  };
  times = λ s listed. times_same ps.master k s grown.snapshots (facts.times s (subst (In s) grown.scheduled listed));
  own = own_goes_on ps activity changes k inv facts.own (they_were ps.master k grown.scheduled) grown.states;
}

-- such is a master that makes a snapshot
pub snapshot_holds : (ps : Parts) (activity : List Interval) (changes : List Made) (k : Master) (later : List Made) (ns schedule : Id) (n : ℕ) → Facts ps → IsMade ps activity changes k later ns schedule n → ps.master.clock ≤ k.clock
    → k.catalog.owners ≡ ps.master.catalog.owners → k.activity ≡ ps.master.activity → StatesGoOn ps.master k → MasterHolds ps.master k
snapshot_holds ps activity changes k later ns schedule n facts made before owners same_ states =
    let m = ps.master in
    let were : (s : ScheduledNamespace) → In s k.scheduled → WasScheduled m s ⊎ (m.clock ≤ complete_to s) = λ s listed. lasts_were m ns n s (subst (In s) made.scheduled_are listed) in
    record {
      on = record {
        later = before;
        scheduled = were;
        owned = λ id i inside owned. subst (λ os. owns os id i.table ≡ true) owners owned;
        activity = activity_goes_on m k (subst (GoOn m) (sym same_) (they_go_on m)) facts.latest;
        taken = λ r inside. added_taken m ns schedule n r (subst (In r) made.snapshots_are inside);
      };
      times = λ s listed. made_follows ps activity changes k later ns schedule n made s listed;
      own = own_goes_on ps activity changes k made.inv facts.own were states;
    }

-- Commands on namespaces and tables

-- a catalog with the same owners
catalog_like : (m : Master) (k : Master) → m.clock ≤ k.clock → k.scheduled ≡ m.scheduled → k.catalog.owners ≡ m.catalog.owners → GoOn m k.activity → k.snapshots ≡ m.snapshots → k.restorations ≡ m.restorations → MasterLike m k
catalog_like m k before scheduled owners on snapshots restorations = record {
  later = before;
  scheduled = scheduled;
  owners = owners;
  activity = on;
  was = λ r there. like_itself m.snapshots r (subst (In r) snapshots there);
  still = λ q there open_. like_itself k.snapshots q (subst (In q) (sym snapshots) there);
  states = λ r point there is. they_are m r point (subst (In r) restorations there) is;
}

-- what each command is given
pub record IsGiven (slots : List ℕ) (n : ℕ) (ps : Parts) (activity : List Interval) (changes : List Made) : Type 0 where
  pub later : Later (0 ∷ slots) ps n
  pub inv : Inv ps activity changes
  pub facts : Facts ps

answer_then : (act : Act) (reply : Reply) (n : ℕ) (ps : Parts) (activity : List Interval) (changes : List Made) → Later (slots_of act) ps n → Inv ps activity changes → Facts ps → HoldsThen act n ps (answered reply)
answer_then act reply n ps activity changes later inv facts a c after = answer_holds act reply n ps activity changes later inv facts

refuses : (command : Command) (slots : List ℕ) (n : ℕ) (ps : Parts) (activity : List Interval) (changes : List Made) → IsGiven slots n ps activity changes → (why : Refusal) → HoldsThen (Change command slots) n ps (refused why)
refuses command slots n ps activity changes given why = answer_then (Change command slots) (Refused why) n ps activity changes given.later given.inv given.facts

-- what each of the slots is told
pub tell_in : (P : TabletAct → Type 0) (slots : List ℕ) (act : TabletAct) → P act → (t : Told) → In t (tell slots act) → P t.act
tell_in P slots act holds = in_mapped {A = ℕ} {B = Told} (λ slot. record { slot = slot; act = act }) (λ t. P t.act) slots (λ slot there. holds)

early : (act : Act) (n : ℕ) (ps : Parts) (slot : ℕ) → Later (slots_of act) ps n → touched act slot ≡ true → (ps.tablet slot).clock ≤ n
early act n ps slot later is = tablet_before (slots_of act) ps n slot later is

catalog_holds : (command : Command) (slots : List ℕ) (mact : MasterAct) (tells : List Told) (made : List Id) (n : ℕ) (ps : Parts) (activity : List Interval) (changes : List Made) → IsGiven slots n ps activity changes
    → MasterLike ps.master (master_effect mact n ps.master)
    → (MasterHolds ps.master (master_effect mact n ps.master) → (slot : ℕ) → touched (Change command slots) slot ≡ true → (t : Told) → In t tells → GoesBackTold (master_effect mact n ps.master) n slot (ps.tablet slot) t.act)
    → HoldsThen (Change command slots) n ps (accepts mact tells made)
catalog_holds command slots mact tells made n ps activity changes given like tablets =
    let holds = holds_like ps activity changes (master_effect mact n ps.master) given.inv given.facts like in
    holds_told (Change command slots) (accepts mact tells made) n ps activity changes given.inv given.facts holds (tablets holds)

schema_holds : (command : Command) (slots : List ℕ) (mact : MasterAct) (version n : ℕ) (ps : Parts) (activity : List Interval) (changes : List Made) → IsGiven slots n ps activity changes
    → MasterLike ps.master (master_effect mact n ps.master) → HoldsThen (Change command slots) n ps (accepts mact (tell slots (SetVersion version)) [])
schema_holds command slots mact version n ps activity changes given like =
    catalog_holds command slots mact (tell slots (SetVersion version)) [] n ps activity changes given like
    (λ holds slot is. tell_in (GoesBackTold (master_effect mact n ps.master) n slot (ps.tablet slot)) slots (SetVersion version)
    (versioned_back ps activity changes (master_effect mact n ps.master) slot n version given.inv given.facts holds))

drop_holds : (command : Command) (slots : List ℕ) (table : Id) (n : ℕ) (ps : Parts) (activity : List Interval) (changes : List Made) → IsGiven slots n ps activity changes
    → HoldsThen (Change command slots) n ps (accepts (DropsTable table) (tell slots (HideSince n)) [])
drop_holds command slots table n ps activity changes given =
    let m = ps.master in
    let k = table_dropped table n m in
    let on : GoOn m k.activity = ended_go_on m (λ i. same i.table table) n in
    catalog_holds command slots (DropsTable table) (tell slots (HideSince n)) [] n ps activity changes given
    (catalog_like m k (le_of_lt (given.later 0 refl)) refl refl on refl refl)
    (λ holds slot is. tell_in (GoesBackTold k n slot (ps.tablet slot)) slots (HideSince n)
    (hidden_back ps activity changes k slot n n given.inv given.facts holds refl (early (Change command slots) n ps slot given.later is) (λ i inside number. on.each i inside)))

-- A new table

pub shares_new : (slots : List ℕ) (place count n drawn : ℕ) (table : Id) (j : Interval) → In j (shares slots place count n drawn table) → (j.from ≡ n) × (drawn < j.tablet.number)
shares_new [] place count n drawn table j here = absurd here
shares_new (slot ∷ slots) place count n drawn table j (inl is) = (ap (λ i. i.from) (sym is), subst (λ i. drawn < i.tablet.number) is (next drawn place))
  where
    next : (d p : ℕ) → d < d + (p + 1)
    next d p = omega arith
shares_new (slot ∷ slots) place count n drawn table j (inr later) = shares_new slots (place + 1) count n drawn table j later

table_holds : (command : Command) (slots : List ℕ) (ns : Id) (name : List ℕ) (columns : List NewColumn) (made : List Id) (n : ℕ) (ps : Parts) (activity : List Interval) (changes : List Made) → IsGiven slots n ps activity changes
    → HoldsThen (Change command slots) n ps (accepts (MakesTable ns name columns slots) (tell_made (shares slots 0 (length slots) n ps.master.drawn.tablets (next_table ps.master))) made)
table_holds command slots ns name columns made n ps activity changes given =
    let m = ps.master in
    let k = table_made ns name columns slots n m in
    let js = shares slots 0 (length slots) n m.drawn.tablets (next_table m) in
    let before = given.later 0 refl in
    let new : (j : Interval) → In j js → IsNew m n j = λ j here. let h = shares_new slots 0 (length slots) n m.drawn.tablets (next_table m) j here in new_by_number ps activity changes n j given.inv h.0 h.1 in
    let holds = grown_holds ps activity changes k given.inv given.facts (record {
      later = le_of_lt before;
      scheduled = refl;
      snapshots = refl;
      owned = λ id i inside owned. owned_further ps activity changes _ id i given.inv inside owned;
      activity = activity_grows ps activity changes k m.activity js n given.inv before refl (they_go_on m) new given.facts.latest;
      states = they_are m;
    }) in
    holds_told (Change command slots) (accepts (MakesTable ns name columns slots) (tell_made js) made) n ps activity changes given.inv given.facts holds
    (λ slot is. in_mapped {A = Interval} {B = Told} _ (λ t. GoesBackTold k n slot (ps.tablet slot) t.act) js
    (λ i there held here. placed_back k n slot (effect (Make i.tablet i.table i.low i.high 1) n (ps.tablet slot)) refl refl refl
    (λ j last. (new j (last_behind m.activity js i.tablet i j there refl last)).from_is) held))

-- A split

pub children_new : (parent : Interval) (code low_slot high_slot n drawn : ℕ) (j : Interval) → In j (children parent code low_slot high_slot n drawn) → (j.from ≡ n) × (drawn < j.tablet.number)
children_new parent code low_slot high_slot n drawn j here = elim here [
  | inl is ↦ (ap (λ i. i.from) (sym is), subst (λ i. drawn < i.tablet.number) is (next drawn 0))
  | inr other ↦ elim other [ inl is ↦ (ap (λ i. i.from) (sym is), subst (λ i. drawn < i.tablet.number) is (next drawn 1)) | inr none ↦ absurd none ]
]
  where
    next : (d p : ℕ) → d < d + (p + 1)
    next d p = omega arith

split_holds : (command : Command) (slots : List ℕ) (f : Family) (code n : ℕ) (ps : Parts) (part : Tablet) (activity : List Interval) (changes : List Made) → IsGiven slots n ps activity changes
    → HoldsThen (Change command slots) n ps (splitting f code n ps.master part)
split_holds command slots f code n ps part activity changes given =
    let m = ps.master in
    let parent = f.parent.tablet in
    let o = splitting f code n m part in
    let k = tablet_split parent code f.low_slot f.high_slot n m in
    let is = map (ended_if (λ i. same i.tablet parent.tablet) n) m.activity in
    let js = children parent code f.low_slot f.high_slot n m.drawn.tablets in
    let before = given.later 0 refl in
    let on : GoOn m is = ended_go_on m (λ i. same i.tablet parent.tablet) n in
    let number : (j : Interval) → In j js → (j.from ≡ n) × (m.drawn.tablets < j.tablet.number) = children_new parent code f.low_slot f.high_slot n m.drawn.tablets in
    let new : (j : Interval) → In j js → IsNew m n j = λ j here. new_by_number ps activity changes n j given.inv (number j here).0 (number j here).1 in
    let holds = grown_holds ps activity changes k given.inv given.facts (record {
      later = le_of_lt before;
      scheduled = refl;
      snapshots = refl;
      owned = λ id i inside owned. owned;
      activity = activity_grows ps activity changes k is js n given.inv before refl on new given.facts.latest;
      states = they_are m;
    }) in
    let old : (i : Interval) → In i k.activity → i.tablet.number ≤ m.drawn.tablets → WasActive m i = λ i inside by. elim (in_append is js i inside) [
      | inl went ↦ on.each i went
      | inr came ↦ (let above = (number i came).1 in absurd (omega (arith, above, by)))
    ] in
    holds_told (Change command slots) o n ps activity changes given.inv given.facts holds
    (λ slot touched_ t there. elim there [
      | inl first ↦ subst (λ q. GoesBackTold k n slot (ps.tablet slot) q.act) first (hidden_back ps activity changes k slot n n given.inv given.facts holds refl (early (Change command slots) n ps slot given.later touched_) old)
      | inr child ↦ in_mapped {A = Interval} {B = Told}
          (λ i. record { slot = i.slot; act = Child i.tablet i.table i.low i.high f.parent.table.schema.version (part_of i.low i.high part.versions) part.cutoff })
          (λ q. GoesBackTold k n slot (ps.tablet slot) q.act) js
          (λ i mine held here. placed_back k n slot (effect (Child i.tablet i.table i.low i.high f.parent.table.schema.version (part_of i.low i.high part.versions) part.cutoff) n (ps.tablet slot)) refl refl refl
          (λ j last. (new j (last_behind is js i.tablet i j mine refl last)).from_is) held) t child
    ])

-- Schedules and records

-- an outcome that tells no tablet
record_holds : (command : Command) (slots : List ℕ) (mact : MasterAct) (made : List Id) (n : ℕ) (ps : Parts) (activity : List Interval) (changes : List Made) → IsGiven slots n ps activity changes
    → ((later : List Made) → OperationsGood (master_effect mact n ps.master) later → MasterHolds ps.master (master_effect mact n ps.master)) → HoldsThen (Change command slots) n ps (accepts mact [] made)
record_holds command slots mact made n ps activity changes given holds then_activity then_changes after =
    holds_told (Change command slots) (accepts mact [] made) n ps activity changes given.inv given.facts (holds then_changes after.operations) (λ slot is t there. absurd there) then_activity then_changes after

schedule_made_holds : (ps : Parts) (activity : List Interval) (changes : List Made) (ns : Id) (interval retention n : ℕ) → ps.master.clock < n → Inv ps activity changes → Facts ps → MasterHolds ps.master (schedule_made ns interval retention n ps.master)
schedule_made_holds ps activity changes ns interval retention n before inv facts =
    let m = ps.master in
    let k = schedule_made ns interval retention n m in
    let were = begun_was (scheduled_in m.scheduled ns) m ns n before in
    record {
      on = record {
        later = le_of_lt before;
        scheduled = were;
        owned = λ id i inside owned. owned;
        activity = activity_goes_on m k (they_go_on m) facts.latest;
        taken = λ r inside. inl (they_were_taken m r inside);
      };
      times = begun_follows (scheduled_in m.scheduled ns) ps activity changes k ns n refl inv before refl facts.times;
      own = own_goes_on ps activity changes k inv facts.own were (they_are m);
    }

schedule_deleted_holds : (ps : Parts) (activity : List Interval) (changes : List Made) (schedule : Id) (n : ℕ) → ps.master.clock < n → Inv ps activity changes → Facts ps → MasterHolds ps.master (schedule_deleted schedule n ps.master)
schedule_deleted_holds ps activity changes schedule n before inv facts =
    let m = ps.master in
    let k = schedule_deleted schedule n m in
    let had : (s : ScheduledNamespace) → In s k.scheduled → In s m.scheduled = λ s listed. (filter_in m.scheduled _ s listed).0 in
    let were : (s : ScheduledNamespace) → In s k.scheduled → WasScheduled m s ⊎ (m.clock ≤ complete_to s) = λ s listed. inl (record { was = s; listed = had s listed; namespace_is = refl; later = le_refl _ }) in
    record {
      on = record {
        later = le_of_lt before;
        scheduled = were;
        owned = λ id i inside owned. owned;
        activity = activity_goes_on m k (they_go_on m) facts.latest;
        taken = λ r inside. inl (they_were_taken m r inside);
      };
      times = λ s listed. times_same m k s refl (facts.times s (had s listed));
      own = own_goes_on ps activity changes k inv facts.own were (they_are m);
    }

restoration_begun_holds : (ps : Parts) (activity : List Interval) (changes : List Made) (s : Schedule) (to n : ℕ) → ps.master.clock < n → Inv ps activity changes → Facts ps → MasterHolds ps.master (restoration_begun s to n ps.master)
restoration_begun_holds ps activity changes s to n before inv facts =
    let m = ps.master in
    let k = restoration_begun s to n m in
    grown_holds ps activity changes k inv facts (record {
      later = le_of_lt before;
      scheduled = refl;
      snapshots = refl;
      owned = λ id i inside owned. owned;
      activity = activity_goes_on m k (they_go_on m) facts.latest;
      states = λ r point there is. elim (in_append m.restorations _ r there) [
        | inl old ↦ they_are m r point old is
        | inr new ↦ elim new [ inl q ↦ absurd (let e : None ≡ Some point = ap (λ x. own_point x.state) q ∙ is in cc) | inr none ↦ absurd none ]
      ];
    })

clone_begun_holds : (ps : Parts) (activity : List Interval) (changes : List Made) (ns : Id) (source target : List ℕ) (to n : ℕ) → ps.master.clock < n → Inv ps activity changes → Facts ps → MasterHolds ps.master (clone_begun ns source target to n ps.master)
clone_begun_holds ps activity changes ns source target to n before inv facts =
    let m = ps.master in
    let k = clone_begun ns source target to n m in
    grown_holds ps activity changes k inv facts (record {
      later = le_of_lt before;
      scheduled = refl;
      snapshots = refl;
      owned = λ id i inside owned. owned_further ps activity changes _ id i inv inside owned;
      activity = activity_goes_on m k (they_go_on m) facts.latest;
      states = they_are m;
    })

-- The act

planned_holds : (command : Command) (slots : List ℕ) (n : ℕ) (ps : Parts) (activity : List Interval) (changes : List Made) → IsGiven slots n ps activity changes → HoldsThen (Change command slots) n ps (planned command slots n ps)
unfolding create_namespace drop_namespace create_table add_column drop_column rename_table drop_table split create_schedule edit_schedule delete_schedule take_snapshot restore clone_namespace list_tablets
planned_holds (CreateNamespace name) slots n ps activity changes given =
    let m = ps.master in
    decided_by (HoldsThen (Change (CreateNamespace name) slots) n ps) (judge_create_namespace name m) _ (refuses (CreateNamespace name) slots n ps activity changes given)
    (λ id. record_holds (CreateNamespace name) slots (MakesNamespace name) (id ∷ []) n ps activity changes given
    (λ later ops. holds_like ps activity changes _ given.inv given.facts (catalog_like m _ (le_of_lt (given.later 0 refl)) refl refl (they_go_on m) refl refl)))
planned_holds (DropNamespace name) slots n ps activity changes given =
    let m = ps.master in
    decided_by (HoldsThen (Change (DropNamespace name) slots) n ps) (judge_drop_namespace name m) _ (refuses (DropNamespace name) slots n ps activity changes given)
    (λ ns. record_holds (DropNamespace name) slots (DropsNamespace ns) [] n ps activity changes given
    (λ later ops. holds_like ps activity changes _ given.inv given.facts (catalog_like m _ (le_of_lt (given.later 0 refl)) refl refl (they_go_on m) refl refl)))
planned_holds (CreateTable namespace table tablets columns) slots n ps activity changes given =
    let c = CreateTable namespace table tablets columns in
    decided_by (HoldsThen (Change c slots) n ps) (judge_create_table namespace table tablets ps.master) _ (refuses c slots n ps activity changes given)
    (λ ns. table_holds c slots ns table columns (next_table ps.master ∷ []) n ps activity changes given)
planned_holds (AddColumn namespace table name kind) slots n ps activity changes given =
    let m = ps.master in
    let c = AddColumn namespace table name kind in
    decided_by (HoldsThen (Change c slots) n ps) (judge_add_column namespace table name m) _ (refuses c slots n ps activity changes given)
    (λ t. schema_holds c slots (AddsColumn t name kind) (t.schema.version + 1) n ps activity changes given (catalog_like m _ (le_of_lt (given.later 0 refl)) refl refl (they_go_on m) refl refl))
planned_holds (DropColumn namespace table name) slots n ps activity changes given =
    let m = ps.master in
    let c = DropColumn namespace table name in
    decided_by (HoldsThen (Change c slots) n ps) (judge_drop_column namespace table name m) _ (refuses c slots n ps activity changes given)
    (λ t. schema_holds c slots (DropsColumn t.table t.column) (t.table.schema.version + 1) n ps activity changes given (catalog_like m _ (le_of_lt (given.later 0 refl)) refl refl (they_go_on m) refl refl))
planned_holds (RenameTable namespace table name) slots n ps activity changes given =
    let m = ps.master in
    let c = RenameTable namespace table name in
    decided_by (HoldsThen (Change c slots) n ps) (judge_rename_table namespace table name m) _ (refuses c slots n ps activity changes given)
    (λ t. record_holds c slots (RenamesTable t name) [] n ps activity changes given
    (λ later ops. holds_like ps activity changes _ given.inv given.facts (catalog_like m _ (le_of_lt (given.later 0 refl)) refl refl (they_go_on m) refl refl)))
planned_holds (DropTable namespace table) slots n ps activity changes given =
    let c = DropTable namespace table in
    decided_by (HoldsThen (Change c slots) n ps) (judge_drop_table namespace table ps.master) _ (refuses c slots n ps activity changes given)
    (λ t. drop_holds c slots t.id n ps activity changes given)
planned_holds (Split namespace table code) slots n ps activity changes given =
    let c = Split namespace table code in
    decided_by (HoldsThen (Change c slots) n ps) (judge_split namespace table code ps.master) _ (refuses c slots n ps activity changes given)
    (λ f. split_holds c slots f code n ps (ps.tablet f.parent.tablet.slot) activity changes given)
planned_holds (CreateSchedule interval retention namespace) slots n ps activity changes given =
    let c = CreateSchedule interval retention namespace in
    decided_by (HoldsThen (Change c slots) n ps) (judge_create_schedule interval retention namespace ps.master) _ (refuses c slots n ps activity changes given)
    (λ ns. record_holds c slots (MakesSchedule ns interval retention) (next_schedule ps.master ∷ []) n ps activity changes given
    (λ later ops. schedule_made_holds ps activity changes ns interval retention n (given.later 0 refl) given.inv given.facts))
planned_holds (EditSchedule schedule interval retention) slots n ps activity changes given =
    let m = ps.master in
    let c = EditSchedule schedule interval retention in
    decided_by (HoldsThen (Change c slots) n ps) (judge_edit_schedule schedule interval retention m) _ (refuses c slots n ps activity changes given)
    (λ s. record_holds c slots (EditsSchedule s.id interval retention) [] n ps activity changes given
    (λ later ops. holds_like ps activity changes _ given.inv given.facts (catalog_like m _ (le_of_lt (given.later 0 refl)) refl refl (they_go_on m) refl refl)))
planned_holds (DeleteSchedule schedule) slots n ps activity changes given =
    let c = DeleteSchedule schedule in
    decided_by (HoldsThen (Change c slots) n ps) (judge_delete_schedule schedule ps.master) _ (refuses c slots n ps activity changes given)
    (λ s. record_holds c slots (DeletesSchedule s.id) [] n ps activity changes given
    (λ later ops. schedule_deleted_holds ps activity changes s.id n (given.later 0 refl) given.inv given.facts))
planned_holds (TakeSnapshot schedule) slots n ps activity changes given =
    let m = ps.master in
    let c = TakeSnapshot schedule in
    decided_by (HoldsThen (Change c slots) n ps) (judge_take_snapshot schedule n m) _ (refuses c slots n ps activity changes given)
    (λ s. record_holds c slots (TakesSnapshot s) (next_snapshot m ∷ []) n ps activity changes given
    (λ later ops. snapshot_holds ps activity changes (snapshot_taken s n m) later s.namespace s.id n given.facts
    (record { inv = given.inv; times = given.facts.times; ops = ops; snapshots_are = refl; scheduled_are = refl }) (le_of_lt (given.later 0 refl)) refl refl (they_are m)))
planned_holds (Restore schedule to) slots n ps activity changes given =
    let c = Restore schedule to in
    decided_by (HoldsThen (Change c slots) n ps) (judge_restore schedule to n ps.master) _ (refuses c slots n ps activity changes given)
    (λ s. record_holds c slots (BeginsRestoration s to) (next_restoration ps.master ∷ []) n ps activity changes given
    (λ later ops. restoration_begun_holds ps activity changes s to n (given.later 0 refl) given.inv given.facts))
planned_holds (CloneNamespace source target at) slots n ps activity changes given =
    let c = CloneNamespace source target at in
    decided_by (HoldsThen (Change c slots) n ps) (judge_clone source target (clone_time at n) n ps.master) _ (refuses c slots n ps activity changes given)
    (λ s. record_holds c slots (BeginsClone s.namespace source target (clone_time at n)) (next_clone ps.master ∷ []) n ps activity changes given
    (λ later ops. clone_begun_holds ps activity changes s.namespace source target (clone_time at n) n (given.later 0 refl) given.inv given.facts))
planned_holds ListSchedules slots n ps activity changes given = answer_then (Change ListSchedules slots) (Schedules (schedule_lines n ps.master)) n ps activity changes given.later given.inv given.facts
planned_holds ListSnapshots slots n ps activity changes given = answer_then (Change ListSnapshots slots) (Snapshots (snapshot_lines ps.master)) n ps activity changes given.later given.inv given.facts
planned_holds ListRestorations slots n ps activity changes given = answer_then (Change ListRestorations slots) (Restorations (restoration_lines ps.master)) n ps activity changes given.later given.inv given.facts
planned_holds ListClones slots n ps activity changes given = answer_then (Change ListClones slots) (Clones (clone_lines ps.master)) n ps activity changes given.later given.inv given.facts
planned_holds (ListTablets namespace) slots n ps activity changes given =
    let c = ListTablets namespace in
    decided_by (HoldsThen (Change c slots) n ps) (found_namespace ps.master namespace) _ (refuses c slots n ps activity changes given)
    (λ ns. answer_then (Change c slots) (Tablets (tablet_lines ps.master ns)) n ps activity changes given.later given.inv given.facts)

pub change_holds : (command : Command) (slots : List ℕ) (n : ℕ) (ps : Parts) (activity : List Interval) (changes : List Made) → Later (0 ∷ slots) ps n → Inv ps activity changes → Facts ps → HoldsThen (Change command slots) n ps (change command slots n ps)
unfolding change
change_holds command slots n ps activity changes later inv facts =
    let given : IsGiven slots n ps activity changes = record { later = later; inv = inv; facts = facts } in
    by_refusal (HoldsThen (Change command slots) n ps) (If (not (same_slots slots (plan_of command ps.master))) (StalePlan (plan_of command ps.master)) ∷ []) (planned command slots n ps)
    (refuses command slots n ps activity changes given) (λ passes. planned_holds command slots n ps activity changes given)
