-- The acts that follow a look are asked: the look's reply has slots of the cluster alone, and for a read at least one.
use Rattle.std.proofs.Common.{ℕ, ◌≡◌, ◌≤◌, ◌<◌, ◌^◌, List, [], ◌∷◌, ◌++◌, Bool, true, cond, not, eqb, ◌⊎◌, ◌&&◌, Option, Some, None, inl, inr, refl, sym, ap, subst, arith, leb, leb-true, map, length, take, ◌∙◌}
use Rattle.std.proofs.lemmas.Bool.{cond_both, true≢false}
use Rattle.std.proofs.lemmas.List.{length-map}
use Rattle.row_values.specs.Ids.{Id, Kind, Tablet, Snapshot, same}
use Rattle.row_values.specs.Elements.{In, AllOf}
use Rattle.row_values.specs.Ranges.{in_range}
use Rattle.row_values.specs.Schema.{Column}
use Rattle.model.specs.Activity.{Interval, active_at, last_of}
use Rattle.model.specs.Journal.{Change as Made, table_at}
use Rattle.model.specs.Acts.{NamedOp, NamedUpsert, NamedDelete, NamedItem, Command, Ask, AskPlan, AskKeys, AskTable, AskPresent, AskRemovable, Removal, Remove, Prune, Place, Act, Look, Cutoff, Compact, Reply, Placed, Refusal, SlotsFull}
use Rattle.model.specs.Parts.{Master, Parts}
use Rattle.row_values.specs.Slots.{rising}
use Rattle.model.specs.Looks.{look_plan, look_present, plan_of, least_slots, free_slots, found_namespace, found_table, found_parent, Family, family, found_family, slots_for, slots_of_table, place_of}
use Rattle.model.specs.Entries.{IsSlot, IsRemovable, IsName, IsNamedOp, IsNamedBatch, IsTime, ActAsked, CommandAsked}
use Rattle.row_values.specs.Batches.{IsKey, IsValue, IsOp, IsBatch}
use Rattle.model.specs.History.{look}
use Rattle.model.specs.Settling.{left, coordinated}
use Rattle.model.specs.Replies.{LookAnswer}
use Rattle.model.specs.Answers.{TableLook, KeysAnswer, KeysPlaced, TableAnswer, TablePlaced, ArePlaces}
use Rattle.model.specs.Scripts.{ScriptCommand, Tick, Lag, CreateNamespace, DropNamespace, CreateTable, AddColumn, DropColumn, RenameTable, DropTable, WriteRows, ReadRow, ReadTable, Split, CreateSchedule, DeleteSchedule, TakeSnapshot, Restore, CloneNamespace, ListSchedules, ListSnapshots, ListRestorations, ListClones, ListTablets, RaiseCutoffs, CompactTablets, CleanUp, Coordinate, Settle, ShowHistory, time_at, asked_at, EditSchedule}
use Rattle.model_runs.specs.Courses.{Found, found_by, Course, SetReading, SetLag, Perform, LookFor, WorkOff, ShowEntries, tell_alone, plan_and_tell, course_of, key_alone, at_place, cell_by_id, op_by_id, item_by_id, write_at, write_into, change_under, read_places, at_each, remove_each, CourseAsked}
use Rattle.law_invariants.specs.Invariant.{Inv}
use Rattle.law_invariants.proofs.Finding.{none_or_some, both_pass, same_equal, in_mapped, filter_in}
use Rattle.law_invariants.proofs.Overlap.{holder_there}
use Rattle.law_invariants.proofs.Remembering.{still_kept}
use Rattle.law.proofs.TabletKinds.{KindsGood}
use Rattle.law_invariants.proofs.Plans.{has_in, in_has, rising_has, planned_active}
use Rattle.law_invariants.proofs.Free.{least_free}
use Rattle.law_invariants.proofs.Judging.{and_found_is}
use Rattle.law_splits.proofs.Parents.{parent_found}
use Rattle.law_splits.proofs.Splitting.{family_is, two_long}
use Rattle.std.specs.Prelude.{Result, Ok, Err}
use Rattle.std.specs.List.{filter, list_any}
use Rattle.std.specs.Option.{is_some}
use Rattle.model.specs.Records.{Listed, SnapshotRecord}
use Rattle.model.specs.Cleanup.{is_present, slots_where, last_in, is_removable_tablet, removal_in, removals_in, removable_tablets, is_removable_snapshot, removable_snapshots, removable}
use Rattle.law_store.proofs.Keys.{either_way}
use Rattle.law_invariants.specs.Operations.{SnapshotGood}
use Rattle.law_invariants.proofs.Lasting.{last_in as last_tablet}
use Rattle.model.specs.Acts as acts

-- what an act of a run meets
pub record IsFit (slots : ℕ) (act : Act) : Type 0 where
  pub asked : ActAsked slots act

-- what holds of a look's reply
pub record IsAnswer (slots : ℕ) (ask : Ask) (reply : Reply) : Type 0 where
  pub stamp : ℕ
  pub parts : Parts
  pub activity : List Interval
  pub changes : List Made
  pub later : parts.master.clock < stamp
  pub count : parts.master.slots ≡ slots
  pub inv : Inv parts activity changes
  pub kinds : KindsGood parts.master
  pub is : reply ≡ (look ask stamp parts.master).reply
  pub right : LookAnswer ask reply stamp parts activity changes

-- the acts that follow a look are fit, whatever it answers
abbrev pub Follows : ℕ → Ask → (Found → List Act) → Type 0
Follows slots ask follow = (reply : Reply) → IsAnswer slots ask reply → AllOf (IsFit slots) (follow (found_by reply))

-- the acts are a coordinator's next ones, so many as the parts bound
pub record IsWork (reading : ℕ) (work : Parts → List Act) : Type 0 where
  pub bound : Parts → ℕ
  pub is : (ps : Parts) → work ps ≡ coordinated (bound ps) reading ps

-- what a command begins with is fit
abbrev pub CourseFits : ℕ → ℕ → Course → Type 0
CourseFits slots reading (SetReading micros) = micros < 2 ^ 50
CourseFits slots reading (SetLag slot micros) = Unit {0}
CourseFits slots reading (Perform act) = IsFit slots act
CourseFits slots reading (LookFor ask follow showing) = IsFit slots (Look ask) × Follows slots ask follow
CourseFits slots reading (WorkOff work) = IsWork reading work
CourseFits slots reading ShowEntries = Unit {0}

-- Lists

all_of : {A : Type 0} (P : A → Type 0) (xs : List A) → ((a : A) → In a xs → P a) → AllOf P xs
all_of P [] each = tt
all_of P (x ∷ xs) each = (each x (inl refl), all_of P xs (λ a isin. each a (inr isin)))

all_mapped : {A B : Type 0} (P : A → Type 0) (Q : B → Type 0) (f : A → B) (xs : List A) → ((a : A) → P a → Q (f a)) → AllOf P xs → AllOf Q (map f xs)
all_mapped P Q f [] each all = tt
all_mapped P Q f (x ∷ xs) each all = (each x all.0, all_mapped P Q f xs each all.1)

pub all_append : {A : Type 0} (P : A → Type 0) (xs ys : List A) → AllOf P xs → AllOf P ys → AllOf P (xs ++ ys)
all_append P [] ys first next = next
all_append P (x ∷ xs) ys first next = (first.0, all_append P xs ys first.1 next)

pub all_made : {A B : Type 0} (P : B → Type 0) (f : A → B) (xs : List A) → ((a : A) → In a xs → P (f a)) → AllOf P (map f xs)
all_made P f [] each = tt
all_made P f (x ∷ xs) each = (each x (inl refl), all_made P f xs (λ a isin. each a (inr isin)))

in_some : {A : Type 0} (xs : List A) (a : A) → In a xs → 1 ≤ length xs
in_some [] a isin = absurd isin
in_some (x ∷ xs) a isin = omega arith

-- The slots of a plan

-- each interval is in a slot of the cluster
abbrev WithinSlots : Master → Type 0
WithinSlots m = (i : Interval) → In i m.activity → i.slot ≤ m.slots

within : (ps : Parts) (activity : List Interval) (changes : List Made) → Inv ps activity changes → WithinSlots ps.master
within ps activity changes inv = λ i isin. ((inv.slots i.slot).each i isin refl).slot_to

least_to : (m : Master) (count slot : ℕ) → In slot (least_slots count (free_slots m)) → slot ≤ m.slots
least_to m count slot = cond_both (leb count (length (free_slots m))) (take count (free_slots m)) [] (λ l. In slot l → slot ≤ m.slots)
    (λ e isin. (least_free m count (leb-true _ _ e)).to slot isin)
    (λ e isin. absurd isin)

table_to : (table : Id) (m : Master) (slot : ℕ) → WithinSlots m → In slot (slots_of_table m table) → slot ≤ m.slots
table_to table m slot all isin =
    let p = planned_active m table slot (has_in (slots_of_table m table) slot isin) in
    subst (λ s. s ≤ m.slots) p.1.1.0 (all p.0 p.1.0)

found_to : {A : Type 0} (j : Result A Refusal) (slots : A → List ℕ) (m : Master) (slot : ℕ) → ((a : A) → j ≡ Ok a → In slot (slots a) → slot ≤ m.slots) → In slot (slots_for j slots) → slot ≤ m.slots
found_to (Err why) slots m slot each isin = absurd isin
found_to (Ok a) slots m slot each isin = each a refl isin

family_to : (namespace table : List ℕ) (code : ℕ) (m : Master) (slot : ℕ) (f : Family) → WithinSlots m → found_family (found_parent m namespace table code) m ≡ Ok f → In slot (f.parent.tablet.slot ∷ f.low_slot ∷ f.high_slot ∷ []) → slot ≤ m.slots
family_to namespace table code m slot f all e isin =
    let by = and_found_is (found_parent m namespace table code) (λ p. family p (free_slots m)) (SlotsFull (length (free_slots m)) 2) f e in
    let is = family_is by.0 (free_slots m) f by.1.1 in
    let parent = (parent_found m namespace table code f.parent (by.1.0 ∙ ap Ok (sym is.0))).1 in
    elim isin [
      | inl q ↦ subst (λ s. s ≤ m.slots) q (all f.parent.tablet parent.listed)
      | inr free ↦ (least_free m 2 (two_long (free_slots m) f.low_slot f.high_slot is.1)).to slot (subst (In slot) (sym is.1) free)
    ]

plan_to : (command : Command) (m : Master) (slot : ℕ) → WithinSlots m → In slot (plan_of command m) → slot ≤ m.slots
unfolding plan_of
plan_to (acts.CreateTable namespace table tablets columns) m slot all isin =
    found_to (found_namespace m namespace) _ m slot (λ ns _ h. least_to m tablets slot h) isin
plan_to (acts.AddColumn namespace table name kind) m slot all isin = found_to (found_table m namespace table) _ m slot (λ t _ h. table_to t.id m slot all h) isin
plan_to (acts.DropColumn namespace table name) m slot all isin = found_to (found_table m namespace table) _ m slot (λ t _ h. table_to t.id m slot all h) isin
plan_to (acts.DropTable namespace table) m slot all isin = found_to (found_table m namespace table) _ m slot (λ t _ h. table_to t.id m slot all h) isin
plan_to (acts.Split namespace table code) m slot all isin = found_to (found_family (found_parent m namespace table code) m) _ m slot (λ f e h. family_to namespace table code m slot f all e h) isin
plan_to _ m slot all isin = absurd isin

-- The places of a look

-- a tablet's place is in a slot of the cluster
place_in : (slots : ℕ) (ps : Parts) (activity : List Interval) (changes : List Made) (n : ℕ) (i : Interval) → ps.master.slots ≡ slots → ps.master.clock < n → Inv ps activity changes → In i activity → active_at n i ≡ true → IsSlot slots i.slot
place_in slots ps activity changes n i count less inv listed active =
    let good = (inv.slots i.slot).each i (still_kept ps.master activity i n inv.remembered less listed active) refl in (good.slot_from, subst (λ k. i.slot ≤ k) count good.slot_to)

-- a look for keys that places them places one active tablet
record OnePlace (activity : List Interval) (now : ℕ) (places : List Place) : Type 0 where
  interval : Interval
  listed : In interval activity
  active : active_at now interval ≡ true
  is : places ≡ place_of interval ∷ []

keys_placed : (q : TableLook) (batch : List NamedItem) (places : List Place) (version : ℕ) (columns : List Column) → KeysAnswer q batch (Placed places version columns) → OnePlace q.activity q.now places
keys_placed q batch places version columns answer = elim answer [
  | KeysPlaced found_places found_version found_columns table sound shown home inside placed ↦ record { interval = home.interval; listed = home.listed; active = home.active; is = placed }
]

-- and one for a table places all its active tablets, of which there is one
record AllPlaces (q : TableLook) (places : List Place) : Type 0 where
  table : Id
  current : is_some (table_at q.changes q.now table) ≡ true
  are : ArePlaces q.activity q.now table places

table_placed : (q : TableLook) (places : List Place) (version : ℕ) (columns : List Column) → TableAnswer q (Placed places version columns) → AllPlaces q places
table_placed q places version columns answer = elim answer [
  | TablePlaced found_places found_version found_columns table shown placed ↦ record { table = table.found.id; current = table.found.current; are = placed }
]

some_place : (ps : Parts) (activity : List Interval) (changes : List Made) (n : ℕ) (table : Id) (places : List Place) → Inv ps activity changes → is_some (table_at changes n table) ≡ true → ArePlaces activity n table places → 1 ≤ length places
some_place ps activity changes n table places inv current are =
    let one = inv.cover.whole table 0 n (omega arith) current in
    let holder = holder_there activity table 0 n (omega (arith, one)) in
    let i = holder.0 in
    let outer = both_pass (same i.table table) (active_at n i && in_range i.low i.high 0) holder.1.1 in
    let inner = both_pass (active_at n i) (in_range i.low i.high 0) outer.1 in
    in_some places (place_of i) (are.all i holder.1.0 (same_equal i.table table outer.0) inner.0)

places_in : (slots : ℕ) (ps : Parts) (activity : List Interval) (changes : List Made) (n : ℕ) (table : Id) (places : List Place) → ps.master.slots ≡ slots → ps.master.clock < n → Inv ps activity changes → ArePlaces activity n table places
    → AllOf (λ place. IsSlot slots place.slot) (map at_place places)
places_in slots ps activity changes n table places count less inv are =
    all_mapped (λ place. IsSlot slots place.slot) (λ place. IsSlot slots place.slot) at_place places (λ place h. h)
    (all_of (λ place. IsSlot slots place.slot) places (λ place isin. let active = are.each place isin in
    subst (IsSlot slots) (sym (ap (λ p. p.slot) active.placed)) (place_in slots ps activity changes n active.interval count less inv active.listed active.active)))

-- Batches by the ids of columns

op_is : (columns : List Column) (op : NamedOp) → IsNamedOp op → IsOp (op_by_id columns op)
op_is columns (NamedUpsert cells) h = (
  subst (λ k. k ≤ 16) (sym (length-map cells (cell_by_id columns))) h.0,
  all_mapped (λ c. IsName c.column × IsValue c.value) (λ c. IsValue c.value) (cell_by_id columns) cells (λ c k. k.1) h.1,
)
op_is columns NamedDelete h = tt

batch_is : (columns : List Column) (batch : List NamedItem) → IsNamedBatch batch → IsBatch (map (item_by_id columns) batch)
batch_is columns batch h =
    let long = length-map batch (item_by_id columns) in (
      subst (λ k. 1 ≤ k) (sym long) h.0,
      (
        subst (λ k. k ≤ 64) (sym long) h.1,
        all_mapped (λ i. IsKey i.key × IsNamedOp i.op) (λ i. IsKey i.key × IsOp i.op) (item_by_id columns) batch (λ i k. (k.0, op_is columns i.op k.1)) h.2,
      ),
    )

-- What follows

plan_follows : (command : Command) (slots : ℕ) → CommandAsked command → Follows slots (AskPlan command) (change_under command)
unfolding look_plan
plan_follows command slots asked reply a =
    let m = a.parts.master in
    subst (λ k. AllOf (IsFit slots) (change_under command (found_by k))) (sym a.is) (
      record {
        asked = (asked, all_of (λ slot. slot ≤ slots) (plan_of command m) (λ slot isin. subst (λ k. slot ≤ k) a.count (plan_to command m slot (within a.parts a.activity a.changes a.inv) isin)));
      },
      tt,
    )

rows_follow : (namespace table : List ℕ) (batch : List NamedItem) (slots : ℕ) → IsNamedBatch batch → Follows slots (AskKeys namespace table batch None) (write_into batch)
rows_follow namespace table batch slots asked (Placed places version columns) a =
    let one = keys_placed _ batch places version columns a.right in
    subst (λ k. AllOf (IsFit slots) (write_at k version (map (item_by_id columns) batch))) (sym one.is)
    (record { asked = (place_in slots a.parts a.activity a.changes a.stamp one.interval a.count a.later a.inv one.listed one.active, batch_is columns batch asked) }, tt)
rows_follow namespace table batch slots asked _ a = tt

row_follows : (namespace table key : List ℕ) (at : Option ℕ) (slots : ℕ) → IsKey key → IsTime at → Follows slots (AskKeys namespace table (key_alone key) at) (read_places (Some key) at)
row_follows namespace table key at slots is time (Placed places version columns) a =
    let one = keys_placed _ (key_alone key) places version columns a.right in
    subst (λ k. AllOf (IsFit slots) (read_places (Some key) at (found_by (Placed k version columns)))) (sym one.is)
    (record { asked = (omega arith, (place_in slots a.parts a.activity a.changes a.stamp one.interval a.count a.later a.inv one.listed one.active, tt), is, time) }, tt)
row_follows namespace table key at slots is time _ a = tt

table_follows : (namespace table : List ℕ) (at : Option ℕ) (slots : ℕ) → IsTime at → Follows slots (AskTable namespace table at) (read_places None at)
table_follows namespace table at slots time (Placed places version columns) a =
    let all = table_placed _ places version columns a.right in
    let some = some_place a.parts a.activity a.changes a.stamp all.table places a.inv all.current all.are in (
      record {
        asked = (subst (λ k. 1 ≤ k) (sym (length-map places at_place)) some, places_in slots a.parts a.activity a.changes a.stamp all.table places a.count a.later a.inv all.are, tt, time);
      },
      tt,
    )
table_follows namespace table at slots time _ a = tt

-- an act for each present slot

slot_is : (slots : ℕ) (ps : Parts) (activity : List Interval) (changes : List Made) (slot : ℕ) → ps.master.slots ≡ slots → Inv ps activity changes
    → In slot (rising (map (λ i. i.slot) ps.master.activity)) → IsSlot slots slot
slot_is slots ps activity changes slot count inv isin =
    let all = map {A = Interval} (λ i. i.slot) ps.master.activity in
    in_mapped {A = Interval} (λ i. i.slot) (IsSlot slots) ps.master.activity
    (λ i there. let good = (inv.slots i.slot).each i there refl in (good.slot_from, subst (λ k. i.slot ≤ k) count good.slot_to))
    slot (in_has all slot (rising_has all slot (has_in (rising all) slot isin)))

each_follows : (act : ℕ → Act) (slots : ℕ) → ((slot : ℕ) → IsSlot slots slot → IsFit slots (act slot)) → Follows slots AskPresent (at_each act)
unfolding look_present
each_follows act slots fit reply a =
    let ps = a.parts in
    let present = rising (map {A = Interval} (λ i. i.slot) ps.master.activity) in
    subst (λ k. AllOf (IsFit slots) (at_each act (found_by k))) (sym a.is)
    (all_mapped (IsSlot slots) (IsFit slots) act present fit (all_of (IsSlot slots) present (λ slot isin. slot_is slots ps a.activity a.changes slot a.count a.inv isin)))

-- a removal of what is removable, and a prune

abbrev IsOfTarget : ℕ → Removal → Type 0
IsOfTarget slots r = IsRemovable r.target.kind × AllOf (λ slot. slot ≤ slots) r.slots

removable_kind : (kind : Kind) (other : Kind) → kind ≡ other → IsRemovable other → IsRemovable kind
removable_kind kind other e h = subst IsRemovable (sym e) h

last_there : (is : List Interval) (slot : ℕ) (found : Option Interval) (i : Interval) → last_in is slot found ≡ Some i → (found ≡ Some i) ⊎ In i is
last_there [] slot found i e = inl e
last_there (j ∷ is) slot found i e = elim (last_there is slot (cond (eqb j.slot slot) (Some j) found) i e) [
  | inr there ↦ inr (inr there)
  | inl first ↦ (either_way (eqb j.slot slot)
      (λ b. let q : Some j ≡ Some i = rw b at first in inr (inl (let is_ : j ≡ i = cc in is_)))
      (λ b. inl (rw b at first)))
]

-- the master's intervals are of tablets, in slots of the cluster
abbrev Stay : ℕ → List Interval → Type 0
Stay slots is = (i : Interval) → In i is → (i.tablet.kind ≡ Tablet) × (i.slot ≤ slots)

removal_is : (slots : ℕ) (m : Master) (n : ℕ) (found : Option Interval) → ((i : Interval) → found ≡ Some i → (i.tablet.kind ≡ Tablet) × (i.slot ≤ slots)) → AllOf (IsOfTarget slots) (removal_in m n found)
removal_is slots m n None each = tt
removal_is slots m n (Some i) each = cond_both (is_removable_tablet m n i) (record { target = i.tablet; slots = i.slot ∷ [] } ∷ []) [] (AllOf (IsOfTarget slots))
    (λ _. let k = each i refl in ((removable_kind i.tablet.kind Tablet k.0 tt, (k.1, tt)), tt))
    (λ _. tt)

removals_are : (plan : List ℕ) (slots : ℕ) (m : Master) (n : ℕ) → Stay slots m.activity → AllOf (IsOfTarget slots) (removals_in plan m n)
removals_are [] slots m n stay = tt
removals_are (slot ∷ plan) slots m n stay = all_append (IsOfTarget slots) (removal_in m n (last_in m.activity slot None)) (removals_in plan m n)
    (removal_is slots m n (last_in m.activity slot None) (λ i e. elim (last_there m.activity slot None i e) [ inl none ↦ absurd (let q = none in grind arith) | inr there ↦ stay i there ]))
    (removals_are plan slots m n stay)

-- the slots of a snapshot's tablets that are present
slots_within : (slots : ℕ) (ps : Parts) (activity : List Interval) (changes : List Made) (r : SnapshotRecord) (test : Id → Bool) → ps.master.slots ≡ slots → Inv ps activity changes → SnapshotGood ps.master r → AllOf (λ slot. slot ≤ slots) (slots_where test ps.master r.listed)
slots_within slots ps activity changes r test count inv good =
    let m = ps.master in
    let found = filter (λ l. is_present m l.tablet && test l.tablet) r.listed in
    let all = map {A = Listed} (λ l. l.slot) found in
    all_of (λ slot. slot ≤ slots) (rising all) (λ slot isin. in_mapped {A = Listed} (λ l. l.slot) (λ slot. slot ≤ slots) found
    (λ l there.
    let k = filter_in r.listed (λ l. is_present m l.tablet && test l.tablet) l there in
    none_or_some (last_of m.activity l.tablet)
    (λ none. absurd (true≢false (sym (both_pass (is_present m l.tablet) (test l.tablet) k.1).0 ∙ ap is_some none)))
    (λ i some.
    let last = last_tablet m.activity l.tablet i some in
    let at = (good.listed_of l i k.0 last.0 (same_equal i.tablet l.tablet last.1)).1 in
    let by = ((inv.slots i.slot).each i last.0 refl).slot_to in
    subst (λ s. s ≤ slots) at (subst (λ k. i.slot ≤ k) count by)))
    slot (in_has all slot (rising_has all slot (has_in (rising all) slot isin))))

removals_follow : (slots : ℕ) → Follows slots AskRemovable remove_each
removals_follow slots reply a =
    let m = a.parts.master in
    let inv = a.inv in
    let stay : Stay slots m.activity = λ i isin. (a.kinds.active i isin, subst (λ k. i.slot ≤ k) a.count ((inv.slots i.slot).each i isin refl).slot_to) in
    let tablets = removable_tablets m a.stamp in
    let of_snapshots : AllOf (IsOfTarget slots) (removable_snapshots m a.stamp tablets) =
    all_made (IsOfTarget slots) (λ (r : SnapshotRecord). record { target = r.id; slots = slots_where (λ tablet. not (list_any (λ t. same t.target tablet) tablets)) m r.listed }) (filter (is_removable_snapshot m a.stamp) m.snapshots)
    (λ r isin.
    let good = inv.operations.snapshots r (filter_in m.snapshots (is_removable_snapshot m a.stamp) r isin).0 in
    (removable_kind r.id.kind Snapshot good.kind_is tt, slots_within slots a.parts a.activity a.changes r (λ tablet. not (list_any (λ t. same t.target tablet) tablets)) a.count a.inv good)) in
    subst (λ k. AllOf (IsFit slots) (remove_each (found_by k))) (sym a.is)
    (all_append (IsFit slots) (map {A = Removal} (λ r. Remove r.target r.slots) (removable m a.stamp)) (Prune ∷ [])
    (all_mapped (IsOfTarget slots) (IsFit slots) (λ (r : Removal). Remove r.target r.slots) (removable m a.stamp) (λ r k. record { asked = k })
    (all_append (IsOfTarget slots) tablets (removable_snapshots m a.stamp tablets) (removals_are (rising (map (λ i. i.slot) m.activity)) slots m a.stamp stay) of_snapshots))
    (record { asked = tt }, tt))

-- Commands

tell_fits : (command : Command) (slots reading : ℕ) → CourseAsked slots (tell_alone command) → CourseFits slots reading (tell_alone command)
tell_fits command slots reading asked = record { asked = asked }

plan_fits : (command : Command) (slots reading : ℕ) → CourseAsked slots (plan_and_tell command) → CourseFits slots reading (plan_and_tell command)
plan_fits command slots reading asked = (record { asked = asked }, plan_follows command slots asked)

pub course_fits : (c : ScriptCommand) (slots reading : ℕ) → CourseAsked slots (course_of reading c) → CourseFits slots reading (course_of reading c)
course_fits (Tick micros) slots reading asked = asked
course_fits (Lag slot micros) slots reading asked = tt
course_fits (CreateNamespace name) slots reading asked = tell_fits (acts.CreateNamespace name) slots reading asked
course_fits (DropNamespace name) slots reading asked = tell_fits (acts.DropNamespace name) slots reading asked
course_fits (CreateTable namespace table tablets columns) slots reading asked = plan_fits (acts.CreateTable namespace table tablets columns) slots reading asked
course_fits (AddColumn namespace table name kind) slots reading asked = plan_fits (acts.AddColumn namespace table name kind) slots reading asked
course_fits (DropColumn namespace table name) slots reading asked = plan_fits (acts.DropColumn namespace table name) slots reading asked
course_fits (RenameTable namespace table name) slots reading asked = tell_fits (acts.RenameTable namespace table name) slots reading asked
course_fits (DropTable namespace table) slots reading asked = plan_fits (acts.DropTable namespace table) slots reading asked
course_fits (WriteRows namespace table batch) slots reading asked = (record { asked = asked }, rows_follow namespace table batch slots asked.2)
course_fits (ReadRow namespace table key at) slots reading asked =
    (record { asked = asked }, row_follows namespace table key (asked_at reading at) slots asked.2.2.0.0 asked.3)
course_fits (ReadTable namespace table at) slots reading asked = (record { asked = asked }, table_follows namespace table (asked_at reading at) slots asked.2)
course_fits (Split namespace table code) slots reading asked = plan_fits (acts.Split namespace table code) slots reading asked
course_fits (CreateSchedule interval retention namespace) slots reading asked = tell_fits (acts.CreateSchedule interval retention namespace) slots reading asked
course_fits (EditSchedule schedule interval retention) slots reading asked = tell_fits (acts.EditSchedule schedule interval retention) slots reading asked
course_fits (DeleteSchedule schedule) slots reading asked = tell_fits (acts.DeleteSchedule schedule) slots reading asked
course_fits (TakeSnapshot schedule) slots reading asked = tell_fits (acts.TakeSnapshot schedule) slots reading asked
course_fits (Restore schedule to) slots reading asked = tell_fits (acts.Restore schedule (time_at reading to)) slots reading asked
course_fits (CloneNamespace source target to) slots reading asked = tell_fits (acts.CloneNamespace source target (asked_at reading to)) slots reading asked
course_fits ListSchedules slots reading asked = tell_fits acts.ListSchedules slots reading asked
course_fits ListSnapshots slots reading asked = tell_fits acts.ListSnapshots slots reading asked
course_fits ListRestorations slots reading asked = tell_fits acts.ListRestorations slots reading asked
course_fits ListClones slots reading asked = tell_fits acts.ListClones slots reading asked
course_fits (ListTablets namespace) slots reading asked = tell_fits (acts.ListTablets namespace) slots reading asked
course_fits RaiseCutoffs slots reading asked = (record { asked = asked }, each_follows Cutoff slots (λ slot is. record { asked = is }))
course_fits CompactTablets slots reading asked = (record { asked = asked }, each_follows Compact slots (λ slot is. record { asked = is }))
course_fits CleanUp slots reading asked = (record { asked = asked }, removals_follow slots)
course_fits (Coordinate count) slots reading asked = record { bound = λ ps. count; is = λ ps. refl }
course_fits Settle slots reading asked = record { bound = λ ps. left ps.master; is = λ ps. refl }
course_fits ShowHistory slots reading asked = tt
course_fits _ slots reading asked = record { asked = asked }
