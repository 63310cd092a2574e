-- What is accepted, and the law, allow what the master is told.
use Rattle.std.proofs.Common.{ℕ, ◌≡◌, ◌≤◌, ◌<◌, ◌+◌, ◌&&◌, Bool, true, false, cond, nat_le, List, [], ◌∷◌, length, Option, Some, None, Result, Ok as Granted, Err as Denied, if◌then◌else◌, not, ok_or, ◌==◌, subst, refl, sym, ap, ◌∙◌, arith}
use Rattle.std.specs.Option.{option_map, option_or}
use Rattle.row_values.specs.Ids.{Id, Namespace, Table, Tablet, Schedule, Snapshot, Restoration, id_bound}
use Rattle.model.specs.Acts.{Refusal}
use Rattle.std.specs.List.{find}
use Rattle.std.proofs.lemmas.Grind.{common_steps}
use Rattle.std.proofs.lemmas.Bool.Decides.{nat_tests}
use Rattle.row_values.specs.Ranges.{in_range}
use Rattle.model.specs.Activity.{Interval}
use Rattle.model.specs.Catalog.{TableRecord, namespace_named, current_named}
use Rattle.model.specs.Parts.{Master, Check, refusal_in, either, checked, and_found}
use Rattle.model.specs.Changes.{judge_create_namespace, judge_create_table, create_table_checks, clone_named, named, table_id, judge_create_schedule, create_schedule_checks, judge_edit_schedule, edit_schedule_checks, found_schedule, judge_split, split_checks}
use Rattle.model.specs.Looks.{found_namespace, found_table, holding, active_in, free_slots, Parent, found_parent, Family, family}
use Rattle.model.specs.Records as records
use Rattle.model.specs.Schedules.{is_period}
use Rattle.schedules.specs.Periods.{IsPeriod}
use Rattle.catalog_core.specs.Kept.{ends_by, over_or_open}
use Rattle.master_part.specs.Acts.{IsLawful, NamespaceFits, TableFits}

-- Judgements that are accepted

either_granted : {A : Type 0} (why : Option Refusal) (x y : A) → either why x ≡ Granted y → (x ≡ y) × (why ≡ None)
either_granted None x y is = (cc, refl)
either_granted (Some why) x y is = absurd (cc)

pub checked_granted : {A : Type 0} (r : Result A Refusal) (checks : A → List Check) (x : A) → checked r checks ≡ Granted x
    → (r ≡ Granted x) × (refusal_in (checks x) ≡ None)
checked_granted (Denied why) checks x is = absurd (cc)
checked_granted (Granted y) checks x is =
    let h = either_granted (refusal_in (checks y)) y x is in
    (ap Granted h.0, ap (λ z. refusal_in (checks z)) (sym h.0) ∙ h.1)

first_none : {A : Type 0} (a b : Option A) → option_or a b ≡ None → a ≡ None
first_none None b is = refl
first_none (Some x) b is = absurd (cc)

rest_none : {A : Type 0} (a b : Option A) → option_or a b ≡ None → b ≡ None
rest_none None b is = is
rest_none (Some x) b is = absurd (cc)

found_none : (found : Option Id) (why : Id → Refusal) → option_map why found ≡ None → found ≡ None
found_none None why is = refl
found_none (Some id) why is = absurd (cc)

-- Few were drawn

pub few_namespaces : (m : Master) → IsLawful m → m.drawn.namespaces + 1 < id_bound
few_namespaces m lawful = omega (arith, lawful.few Namespace)

pub few_tables : (m : Master) → IsLawful m → m.drawn.tables + 1 < id_bound
few_tables m lawful = omega (arith, lawful.few Table)

pub few_tablets : (m : Master) (count : ℕ) → IsLawful m → count ≤ 64 → m.drawn.tablets + count < id_bound
few_tablets m count lawful few = omega (arith, lawful.few Tablet, few)

pub few_schedules : (m : Master) → IsLawful m → m.drawn.schedules + 1 < id_bound
few_schedules m lawful = omega (arith, lawful.few Schedule)

pub few_snapshots : (m : Master) → IsLawful m → m.drawn.snapshots + 1 < id_bound
few_snapshots m lawful = omega (arith, lawful.few Snapshot)

pub few_restorations : (m : Master) → IsLawful m → m.drawn.restorations + 1 < id_bound
few_restorations m lawful = omega (arith, lawful.few Restoration)

-- What they allow

pub namespace_fits : (name : List ℕ) (m : Master) (id : Id) → judge_create_namespace name m ≡ Granted id → IsLawful m → NamespaceFits name m
namespace_fits name m id is lawful =
    let h = (either_granted _ _ id is).1 in
    let free : named m name ≡ None = found_none (named m name) _ (first_none _ _ h) in
    record {
      few = omega (arith, lawful.few Namespace);
      free = first_none (namespace_named m.catalog.namespaces name) (clone_named m.clones name) free;
      fresh = lawful.namespaces;
    }

-- an interval that holds a code has it in its range
find_step : {A : Type 0} (p : A → Bool) (xs : List A) (x y : A) (b : Bool) → p y ≡ b → (find p xs ≡ Some x → p x ≡ true)
    → cond b (Some y) (find p xs) ≡ Some x → p x ≡ true
find_step p xs x y true e rest is = let same : y ≡ x = cc in ap p (sym same) ∙ e
find_step p xs x y false e rest is = rest is

find_passes : {A : Type 0} (p : A → Bool) (xs : List A) (x : A) → find p xs ≡ Some x → p x ≡ true
find_passes p [] x is = absurd (cc)
find_passes p (y ∷ ys) x is = find_step p ys x y (p y) refl (λ h. find_passes p ys x h) is

pub holding_range : (m : Master) (table : Id) (code : ℕ) (i : Interval) → holding m table code ≡ Some i → in_range i.low i.high code ≡ true
holding_range m table code i is = find_passes (λ (j : Interval). in_range j.low j.high code) (active_in m table) i is

within : (low high code : ℕ) → in_range low high code ≡ true → (low ≤ code) × (code < high)
within low high code is = (grind (arith, nat_tests, common_steps, is), grind (arith, nat_tests, common_steps, is))

pub holding_low : (m : Master) (table : Id) (code : ℕ) (i : Interval) → holding m table code ≡ Some i → i.low ≤ code
holding_low m table code i is = (within i.low i.high code (holding_range m table code i is)).0

pub holding_high : (m : Master) (table : Id) (code : ℕ) (i : Interval) → holding m table code ≡ Some i → code < i.high
holding_high m table code i is = (within i.low i.high code (holding_range m table code i is)).1

both : (a b : Bool) → (a && b) ≡ true → (a ≡ true) × (b ≡ true)
both true b is = (refl, is)
both false b is = absurd (cc)

ends_step : (to : Option ℕ) (a b : ℕ) (p q : Bool) → a ≤ b → (p ≡ true → q ≡ true) → (over_or_open a to && p) ≡ true
    → (over_or_open b to && q) ≡ true
ends_step None a b p q le rest is = rest is
ends_step (Some to) a b p q le rest is =
    let h = both (nat_le to a) p is in
    let t : nat_le to b ≡ true = grind (arith, nat_tests, common_steps, h.0, le) in
    ap (λ c. c && q) t ∙ rest h.1

pub ends_later : (ts : List TableRecord) (a b : ℕ) → a ≤ b → ends_by a ts ≡ true → ends_by b ts ≡ true
ends_later [] a b le is = refl
ends_later (t ∷ ts) a b le is = ends_step t.to a b (ends_by a ts) (ends_by b ts) le (λ h. ends_later ts a b le h) is

pub table_fits : (ns name : List ℕ) (tablets : ℕ) (slots : List ℕ) (n : ℕ) (m : Master) (id : Id)
    → judge_create_table ns name tablets m ≡ Granted id → IsLawful m → m.clock < n → length slots ≤ 64 → TableFits id name slots n m
table_fits ns name tablets slots n m id is lawful later most =
    let h = (checked_granted (found_namespace m ns) (λ id. create_table_checks id name tablets m) id is).1 in
    let free : table_id (current_named m.catalog.tables id name) ≡ None = found_none _ _ (first_none _ _ (rest_none _ _ h)) in
    record {
      most = most;
      few = omega (arith, lawful.few Table);
      tablets = omega (arith, lawful.few Tablet, most);
      free = none_named (current_named m.catalog.tables id name) free;
      fresh = lawful.tables;
      unowned = lawful.owners;
      past = ends_later m.catalog.tables m.clock n (omega (arith, later)) lawful.past;
    }
  where
    none_named : (t : Option TableRecord) → table_id t ≡ None → t ≡ None
    none_named None e = refl
    none_named (Some t) e = absurd (cc)

-- a period that passes the test is one
pub is_one : (interval retention : ℕ) → is_period interval retention ≡ true → IsPeriod interval retention
is_one interval retention is = grind (arith, nat_tests, common_steps, is)

not_false : (b : Bool) (why : Refusal) → (if not b then Some why else None) ≡ None → b ≡ true
not_false true why is = refl
not_false false why is = absurd (cc)

pub schedule_fits : (interval retention : ℕ) (ns : List ℕ) (m : Master) (id : Id)
    → judge_create_schedule interval retention ns m ≡ Granted id → IsLawful m → (m.drawn.schedules + 1 < id_bound) × IsPeriod interval retention
schedule_fits interval retention ns m id is lawful =
    let h = (checked_granted (found_namespace m ns) (λ id. create_schedule_checks id interval retention m) id is).1 in
    let last = first_none _ _ (rest_none _ _ (rest_none _ _ h)) in
    (omega (arith, lawful.few Schedule), is_one interval retention (not_false (is_period interval retention) _ last))

pub period_fits : (interval retention : ℕ) (schedule : Id) (m : Master) (s : records.Schedule)
    → judge_edit_schedule schedule interval retention m ≡ Granted s → IsPeriod interval retention
period_fits interval retention schedule m s is =
    let h = (checked_granted (found_schedule m schedule) (λ s. edit_schedule_checks interval retention) s is).1 in
    is_one interval retention (not_false (is_period interval retention) _ (first_none _ _ h))

-- A tablet that is split holds the code, and does not begin there

and_granted : {A B : Type 0} (r : Result A Refusal) (look : A → Option B) (missing : Refusal) (y : B) → and_found r look missing ≡ Granted y
    → (x : A) × (r ≡ Granted x) × (look x ≡ Some y)
and_granted (Denied why) look missing y is = absurd (cc)
and_granted (Granted x) look missing y is = (x, refl, by (look x) is)
  where
    by : (o : Option _) → ok_or o missing ≡ Granted y → o ≡ Some y
    by None e = absurd (cc)
    by (Some z) e = cc

family_parent : (p : Parent) (slots : List ℕ) (f : Family) → family p slots ≡ Some f → f.parent ≡ p
family_parent p [] f is = absurd (cc)
family_parent p (low ∷ []) f is = absurd (cc)
family_parent p (low ∷ high ∷ free) f is =
    let e : record { parent = p; low_slot = low; high_slot = high } ≡ f = cc in ap (λ (g : Family). g.parent) (sym e)

mapped_some : (t : TableRecord) (o : Option Interval) (p : Parent) → option_map (λ i. record { table = t; tablet = i }) o ≡ Some p
    → o ≡ Some p.tablet
mapped_some t None p is = absurd (cc)
mapped_some t (Some i) p is = let e : record { table = t; tablet = i } ≡ p = cc in ap (λ (q : Parent). Some q.tablet) e

apart : (code low : ℕ) (why : Refusal) → (if code == low then Some why else None) ≡ None → low ≤ code → low < code
apart code low why is le = by (code == low) refl is
  where
    by : (b : Bool) → (code == low) ≡ b → (if b then Some why else None) ≡ None → low < code
    by true e h = absurd (cc)
    by false e h = grind (arith, nat_tests, common_steps, e, le)

module _ (ns table : List ℕ) (code : ℕ) (m : Master) (f : Family) (is : judge_split ns table code m ≡ Granted f) where
  parent_found : (p : Parent) × (checked (found_parent m ns table code) (λ p. split_checks p code m) ≡ Granted p) × (f.parent ≡ p)
  parent_found =
      let h = and_granted (checked (found_parent m ns table code) (λ p. split_checks p code m)) (λ p. family p (free_slots m)) _ f is in
      (h.0, h.1, family_parent h.0 (free_slots m) f h.2)

  parent_fits : (p : Parent) → checked (found_parent m ns table code) (λ p. split_checks p code m) ≡ Granted p
      → (p.tablet.low < code) × (code < p.tablet.high)
  parent_fits p granted =
      let h = checked_granted (found_parent m ns table code) (λ p. split_checks p code m) p granted in
      let t = and_granted (found_table m ns table) _ _ p h.0 in
      let held : holding m t.0.id code ≡ Some p.tablet = mapped_some t.0 (holding m t.0.id code) p t.2 in
      (apart code p.tablet.low _ (first_none _ _ (rest_none _ _ h.1)) (holding_low m t.0.id code p.tablet held), holding_high m t.0.id code p.tablet held)

  pub split_above : f.parent.tablet.low < code
  split_above =
      let h = parent_found in
      let fits = parent_fits h.0 h.1 in
      subst (λ (p : Parent). p.tablet.low < code) (sym h.2) fits.0

  pub split_below : code < f.parent.tablet.high
  split_below =
      let h = parent_found in
      let fits = parent_fits h.0 h.1 in
      subst (λ (p : Parent). code < p.tablet.high) (sym h.2) fits.1
