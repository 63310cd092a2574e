-- The book's look-ups and changes of activity, by the comparison of keys.
use Rattle.std.proofs.Common.{ℕ, ◌≡◌, ◌==◌, Bool, true, false, cond, ◌&&◌, List, [], ◌∷◌, Option, Some, None, if◌then◌else◌, not, refl, sym, ap, ◌∙◌}
use Rattle.std.specs.List.{find, filter}
use Rattle.std.specs.Option.{option_or, option_map}
use Rattle.std.specs.Cmp.{IsEquivalence}
use Rattle.row_values.specs.Ids.{Id, same}
use Rattle.row_values.specs.Ranges.{in_range}
use Rattle.model.specs.Times.{is_open, ended}
use Rattle.model.specs.Activity.{Interval, active_at, route, last_of, last_from, end_tablet, end_table_tablets, forget}
use Rattle.model.specs.Cleanup.{last_in}
use Rattle.model.specs.RowActs.{table_in}
use Rattle.newest_index.proofs.Walks.{or_none}
use Rattle.kept_records.specs.Gathered.{gathered, changed_where}
use Rattle.kept_records.proofs.Looking.{filter_same, changed_map}
use Rattle.catalog_tablets.specs.View.{table_of, routed, held, later_first, ends_at}

route_by : {A : Type 0} (t s a : Bool) (x y z : A) → t ≡ s → y ≡ z → (if t then (if a then x else y) else y) ≡ (if s && a then x else z)
route_by true true true x y z e same = refl
route_by true true false x y z e same = same
route_by true false a x y z e same = absurd (cc)
route_by false true a x y z e same = absurd (cc)
route_by false false a x y z e same = same

hold_by : (t s o r : Bool) (p : Interval → Bool) (i : Interval) (y : Option Interval) (is : List Interval) → t ≡ s → p i ≡ r → y ≡ find p is
    → (if t then (if o && r then Some i else y) else y) ≡ find p (if o && s then i ∷ is else is)
hold_by true true true true p i y is e q same = sym (ap (λ b. cond b (Some i) (find p is)) q)
hold_by true true true false p i y is e q same = same ∙ sym (ap (λ b. cond b (Some i) (find p is)) q)
hold_by true true false r p i y is e q same = same
hold_by true false o r p i y is e q same = absurd (cc)
hold_by false true o r p i y is e q same = absurd (cc)
hold_by false false true r p i y is e q same = same
hold_by false false false r p i y is e q same = same

-- what comes last: the ones that were found later stand before
last_by : (t s : Bool) (i : Interval) (later found : Option Interval) → t ≡ s
    → option_or later (if s then Some i else found) ≡ option_or (if t then later_first i later else later) found
last_by true true i None found e = refl
last_by true true i (Some j) found e = refl
last_by true false i later found e = absurd (cc)
last_by false true i later found e = absurd (cc)
last_by false false i later found e = refl

pub end_by : (t s : Bool) (i : Interval) (at : ℕ) → t ≡ s → (if t then ends_at at i else i) ≡ record i { to = if s then ended at i.to else i.to }
end_by true true i at e = refl
end_by true false i at e = absurd (cc)
end_by false true i at e = absurd (cc)
end_by false false i at e = refl

earliest_by : (t s : Bool) (i : Interval) (found : Option Interval) (rest : Option Id) → t ≡ s → option_map table_of found ≡ rest
    → option_map table_of (cond t (Some i) found) ≡ (if s then Some i.table else rest)
earliest_by true true i found rest e same = refl
earliest_by true false i found rest e same = absurd (cc)
earliest_by false true i found rest e same = absurd (cc)
earliest_by false false i found rest e same = same

turned : (t s o : Bool) → t ≡ s → (t && o) ≡ (o && s)
turned true true true e = refl
turned true true false e = refl
turned true false o e = absurd (cc)
turned false true o e = absurd (cc)
turned false false true e = refl
turned false false false e = refl

module _ (eq : Id → Id → Bool) (laws : IsEquivalence eq) (agree : (a b : Id) → eq a b ≡ same a b) where
  of_key : (k id : Id) → eq k id ≡ same id k
  of_key k id = laws.symm k id ∙ agree id k

  pub routes : (table : Id) (code x : ℕ) (is : List Interval)
      → gathered (λ (i : Interval). eq table i.table) (routed code x) None is ≡ route is table code x
  routes table code x [] = refl
  routes table code x (i ∷ is) =
      route_by (eq table i.table) (same i.table table) (active_at x i && in_range i.low i.high code) (Some i) _ _ (of_key table i.table)
      (routes table code x is)

  pub holds : (table : Id) (code : ℕ) (is : List Interval)
      → gathered (λ (i : Interval). eq table i.table) (held code) None is
      ≡ find (λ (i : Interval). in_range i.low i.high code) (filter (λ (i : Interval). is_open i.to && same i.table table) is)
  holds table code [] = refl
  holds table code (i ∷ is) =
      hold_by (eq table i.table) (same i.table table) (is_open i.to) (in_range i.low i.high code)
      (λ (i : Interval). in_range i.low i.high code) i _ _ (of_key table i.table) refl (holds table code is)

  lasts : (tablet : Id) (is : List Interval) (found : Option Interval)
      → last_from is tablet found ≡ option_or (gathered (λ (i : Interval). eq tablet i.tablet) later_first None is) found
  lasts tablet [] found = refl
  lasts tablet (i ∷ is) found =
      lasts tablet is (if same i.tablet tablet then Some i else found)
      ∙ last_by (eq tablet i.tablet) (same i.tablet tablet) i (gathered (λ (i : Interval). eq tablet i.tablet) later_first None is) found
      (of_key tablet i.tablet)

  pub last_is : (tablet : Id) (is : List Interval)
      → gathered (λ (i : Interval). eq tablet i.tablet) later_first None is ≡ last_of is tablet
  last_is tablet is = sym (lasts tablet is None ∙ or_none (gathered (λ (i : Interval). eq tablet i.tablet) later_first None is))

  pub opens : (table : Id) (is : List Interval)
      → filter (λ (i : Interval). eq table i.table && is_open i.to) is ≡ filter (λ (i : Interval). is_open i.to && same i.table table) is
  opens table is =
      filter_same (λ (i : Interval). eq table i.table && is_open i.to) (λ (i : Interval). is_open i.to && same i.table table)
      (λ i. turned (eq table i.table) (same i.table table) (is_open i.to) (of_key table i.table)) is

  pub of_table : (table : Id) (passes : Interval → Bool) (is : List Interval)
      → filter (λ (i : Interval). eq table i.table && passes i) is ≡ filter (λ (i : Interval). same i.table table && passes i) is
  of_table table passes is =
      filter_same (λ (i : Interval). eq table i.table && passes i) (λ (i : Interval). same i.table table && passes i)
      (λ i. ap (λ b. b && passes i) (of_key table i.table)) is

  pub tablet_ended : (tablet : Id) (at : ℕ) (is : List Interval)
      → changed_where (λ (i : Interval). eq tablet i.tablet) (ends_at at) is ≡ end_tablet tablet at is
  tablet_ended tablet at is =
      changed_map (λ (i : Interval). eq tablet i.tablet) (ends_at at) _
      (λ i. end_by (eq tablet i.tablet) (same i.tablet tablet) i at (of_key tablet i.tablet)) is

  pub table_ended : (table : Id) (at : ℕ) (is : List Interval)
      → changed_where (λ (i : Interval). eq table i.table) (ends_at at) is ≡ end_table_tablets table at is
  table_ended table at is =
      changed_map (λ (i : Interval). eq table i.table) (ends_at at) _
      (λ i. end_by (eq table i.table) (same i.table table) i at (of_key table i.table)) is

  pub forgotten : (tablet : Id) (is : List Interval) → filter (λ (i : Interval). not (eq tablet i.tablet)) is ≡ forget tablet is
  forgotten tablet is =
      filter_same (λ (i : Interval). not (eq tablet i.tablet)) (λ (i : Interval). not (same i.tablet tablet))
      (λ i. ap not (of_key tablet i.tablet)) is

module _ (eq : ℕ → ℕ → Bool) (laws : IsEquivalence eq) (agree : (a b : ℕ) → eq a b ≡ (a == b)) where
  slots : (slot : ℕ) (is : List Interval) (found : Option Interval)
      → last_in is slot found ≡ option_or (gathered (λ (i : Interval). eq slot i.slot) later_first None is) found
  slots slot [] found = refl
  slots slot (i ∷ is) found =
      slots slot is (if i.slot == slot then Some i else found)
      ∙ last_by (eq slot i.slot) (i.slot == slot) i (gathered (λ (i : Interval). eq slot i.slot) later_first None is) found
      (laws.symm slot i.slot ∙ agree i.slot slot)

  pub slot_is : (slot : ℕ) (is : List Interval)
      → gathered (λ (i : Interval). eq slot i.slot) later_first None is ≡ last_in is slot None
  slot_is slot is = sym (slots slot is None ∙ or_none (gathered (λ (i : Interval). eq slot i.slot) later_first None is))

  pub earliest_is : (slot : ℕ) (is : List Interval) → option_map table_of (find (λ (i : Interval). eq slot i.slot) is) ≡ table_in is slot
  earliest_is slot [] = refl
  earliest_is slot (i ∷ is) =
      earliest_by (eq slot i.slot) (i.slot == slot) i (find (λ (j : Interval). eq slot j.slot) is) (table_in is slot)
      (laws.symm slot i.slot ∙ agree i.slot slot) (earliest_is slot is)
