-- What becomes of the master's intervals: those that go on, and those that begin.
use Rattle.std.proofs.Common.{leb, ◌<◌, ◌≤◌, ◌≡◌, ◌∷◌, ◌++◌, ◌∙◌, ◌⊎◌, ℕ, List, [], Bool, true, false, cond, Option, Some, None, map, refl, sym, ap, subst, inl, inr, arith, le_refl, le_of_lt, leb-true}
use Rattle.std.specs.Option.{option_map}
use Rattle.row_values.specs.Ids.{Id, same}
use Rattle.row_values.specs.Elements.{In}
use Rattle.model.specs.Times.{before_end, ended}
use Rattle.model.specs.Activity.{Interval, active_at, last_from, last_of}
use Rattle.model.specs.Catalog.{owner_of}
use Rattle.model.specs.Journal.{Change}
use Rattle.model.specs.Parts.{Master, Parts}
use Rattle.model.specs.Records.{ScheduledNamespace, SnapshotRecord}
use Rattle.model.specs.Retained.{IsTabletOf}
use Rattle.model.specs.Schedules.{complete_to}
use Rattle.law_store.proofs.Keys.{either_way}
use Rattle.law_invariants.specs.Invariant.{Inv}
use Rattle.law_invariants.proofs.Finding.{both_pass, in_append, in_mapped, none_or_some, passes_both, same_equal, same_self}
use Rattle.law_invariants.proofs.Lasting.{last_in}
use Rattle.law_retention.specs.Facts.{LastIsLatest}

-- The last of a tablet

last_either : (is : List Interval) (tablet : Id) (found : Option Interval) (i : Interval) → last_from is tablet found ≡ Some i → In i is ⊎ (found ≡ Some i)
last_either [] tablet found i e = inr e
last_either (j ∷ js) tablet found i e = either_way (same j.tablet tablet)
    (λ s. elim (last_either js tablet (Some j) i (rw s at e)) [ inl h ↦ inl (inr h) | inr q ↦ (let is : j ≡ i = cc in inl (inl is)) ])
    (λ s. elim (last_either js tablet found i (rw s at e)) [ inl h ↦ inl (inr h) | inr q ↦ inr q ])

last_joined : (is js : List Interval) (tablet : Id) (found : Option Interval) → last_from (is ++ js) tablet found ≡ last_from js tablet (last_from is tablet found)
last_joined [] js tablet found = refl
last_joined (i ∷ is) js tablet found = last_joined is js tablet (cond (same i.tablet tablet) (Some i) found)

-- the last of a list with more behind it is one of those, or was the last
pub last_appended : (is js : List Interval) (tablet : Id) (i : Interval) → last_of (is ++ js) tablet ≡ Some i → In i js ⊎ (last_of is tablet ≡ Some i)
last_appended is js tablet i e = last_either js tablet (last_of is tablet) i (sym (last_joined is js tablet None) ∙ e)

last_of_them : (js : List Interval) (tablet : Id) (found : Option Interval) (j i : Interval) → In j js → j.tablet ≡ tablet → last_from js tablet found ≡ Some i → In i js
last_of_them [] tablet found j i inside of e = absurd inside
last_of_them (k ∷ js) tablet found j i (inl here) of e =
    let is : same k.tablet tablet ≡ true = ap (λ x. same x.tablet tablet) here ∙ ap (λ id. same id tablet) of ∙ same_self tablet in
    elim (last_either js tablet (Some k) i (rw is at e)) [ inl h ↦ inr h | inr q ↦ (let first : k ≡ i = cc in inl first) ]
last_of_them (k ∷ js) tablet found j i (inr later) of e = inr (last_of_them js tablet (cond (same k.tablet tablet) (Some k) found) j i later of e)

-- where one of those is the tablet's, the last is one of them
pub last_behind : (is js : List Interval) (tablet : Id) (j i : Interval) → In j js → j.tablet ≡ tablet → last_of (is ++ js) tablet ≡ Some i → In i js
last_behind is js tablet j i inside of e = last_of_them js tablet (last_of is tablet) j i inside of (sym (last_joined is js tablet None) ∙ e)

last_mapped : (f : Interval → Interval) (is : List Interval) (tablet : Id) (found : Option Interval) → ((i : Interval) → (f i).tablet ≡ i.tablet)
    → last_from (map f is) tablet (option_map f found) ≡ option_map f (last_from is tablet found)
last_mapped f [] tablet found keeps = refl
last_mapped f (i ∷ is) tablet found keeps = either_way (same i.tablet tablet)
    (λ e.
    let k : same (f i).tablet tablet ≡ true = ap (λ id. same id tablet) (keeps i) ∙ e in
    ap (λ b. last_from (map f is) tablet (cond b (Some (f i)) (option_map f found))) k ∙ last_mapped f is tablet (Some i) keeps ∙ ap (λ b. option_map f (last_from is tablet (cond b (Some i) found))) (sym e))
    (λ e.
    let k : same (f i).tablet tablet ≡ false = ap (λ id. same id tablet) (keeps i) ∙ e in
    ap (λ b. last_from (map f is) tablet (cond b (Some (f i)) (option_map f found))) k ∙ last_mapped f is tablet found keeps ∙ ap (λ b. option_map f (last_from is tablet (cond b (Some i) found))) (sym e))

-- a tablet that has an interval has a last one

last_stays : (is : List Interval) (tablet : Id) (found : Interval) → last_from is tablet (Some found) ≡ None → ⊥
last_stays [] tablet found e = cc
last_stays (i ∷ is) tablet found e = either_way (same i.tablet tablet) (λ b. last_stays is tablet i (rw b at e)) (λ b. last_stays is tablet found (rw b at e))

pub no_last : (is : List Interval) (tablet : Id) (i : Interval) (found : Option Interval) → In i is → i.tablet ≡ tablet → last_from is tablet found ≡ None → ⊥
no_last [] tablet i found inside of e = inside
no_last (j ∷ is) tablet i found (inl here) of e =
    let same_ : same j.tablet tablet ≡ true = ap (λ k. same k.tablet tablet) here ∙ ap (λ id. same id tablet) of ∙ same_self tablet in
    last_stays is tablet j (rw same_ at e)
no_last (j ∷ is) tablet i found (inr later) of e = no_last is tablet i _ later of e

-- Intervals that go on

-- an interval was there, and active whenever it is
pub record WasActive (m : Master) (i : Interval) : Type 0 where
  pub was : Interval
  pub inside : In was m.activity
  pub slot_is : was.slot ≡ i.slot
  pub tablet_is : was.tablet ≡ i.tablet
  pub table_is : was.table ≡ i.table
  pub from_is : was.from ≡ i.from
  pub active : (x : ℕ) → active_at x i ≡ true → active_at x was ≡ true

-- a tablet's last interval was the last
pub record WasLast (m : Master) (tablet : Id) (i : Interval) : Type 0 where
  pub was : Interval
  pub last : last_of m.activity tablet ≡ Some was
  pub table_is : was.table ≡ i.table
  pub from_is : was.from ≡ i.from

-- such are all of a list
pub record GoOn (m : Master) (is : List Interval) : Type 0 where
  pub each : (i : Interval) → In i is → WasActive m i
  pub last : (tablet : Id) (i : Interval) → last_of is tablet ≡ Some i → WasLast m tablet i

pub they_go_on : (m : Master) → GoOn m m.activity
they_go_on m = record {
  each = λ i there. record { was = i; inside = there; slot_is = refl; tablet_is = refl; table_is = refl; from_is = refl; active = λ x e. e };
  last = λ tablet i is. record { was = i; last = is; table_is = refl; from_is = refl };
}

-- the open ones for which a test holds end
abbrev pub ended_if : (Interval → Bool) → ℕ → Interval → Interval
ended_if test at i = record i { to = cond (test i) (ended at i.to) i.to }

before_ended : (b : Bool) (to : Option ℕ) (at x : ℕ) → before_end x (cond b (ended at to) to) ≡ true → before_end x to ≡ true
before_ended true None at x e = refl
before_ended true (Some to) at x e = e
before_ended false to at x e = e

was_ended : (test : Interval → Bool) (at x : ℕ) (i : Interval) → active_at x (ended_if test at i) ≡ true → active_at x i ≡ true
was_ended test at x i e =
    let both = both_pass (leb i.from x) (before_end x (cond (test i) (ended at i.to) i.to)) e in
    passes_both (leb i.from x) (before_end x i.to) both.0 (before_ended (test i) i.to at x both.1)

pub ended_go_on : (m : Master) (test : Interval → Bool) (at : ℕ) → GoOn m (map (ended_if test at) m.activity)
ended_go_on m test at = record {
  each = in_mapped {A = Interval} {B = Interval} (ended_if test at) (WasActive m) m.activity
      (λ i there. record { was = i; inside = there; slot_is = refl; tablet_is = refl; table_is = refl; from_is = refl; active = λ x e. was_ended test at x i e });
  last = λ tablet i is.
      let e : option_map (ended_if test at) (last_of m.activity tablet) ≡ Some i = sym (last_mapped (ended_if test at) m.activity tablet None (λ j. refl)) ∙ is in
      none_or_some (last_of m.activity tablet)
      (λ none. absurd (let q : None ≡ Some i = sym (ap (option_map (ended_if test at)) none) ∙ e in cc))
      (λ was some.
      let q : Some (ended_if test at was) ≡ Some i = sym (ap (option_map (ended_if test at)) some) ∙ e in
      let here : ended_if test at was ≡ i = cc in
      record { was = was; last = some; table_is = ap (λ j. j.table) here; from_is = ap (λ j. j.from) here });
}

-- Intervals that begin

-- an interval begins after those that its tablet had, for the same table, and later than the clock where it is the first. It
-- begins after the snapshots of its namespace, and since the last complete one its tablet was not active before it
pub record Begins (m k : Master) (i : Interval) : Type 0 where
  pub after : (j : Interval) → In j m.activity → j.tablet ≡ i.tablet → (j.from ≤ i.from) × (j.table ≡ i.table)
  pub first : ((j : Interval) → In j m.activity → j.tablet ≡ i.tablet → ⊥) → m.clock ≤ i.from
  pub sets : (r : SnapshotRecord) → In r m.snapshots → ((j : Interval) → In j m.activity → j.tablet ≡ i.tablet → owner_of m.catalog.owners j.table ≡ Some r.namespace) → r.at < i.from
  pub since : (s : ScheduledNamespace) (h : Interval) (x : ℕ) → In s k.scheduled → In h k.activity → h.tablet ≡ i.tablet → IsTabletOf k s.namespace h
      → active_at x h ≡ true → complete_to s < x → i.from ≤ x

-- each interval goes on or begins
pub record ActivityOn (m k : Master) : Type 0 where
  pub each : (i : Interval) → In i k.activity → WasActive m i ⊎ Begins m k i
  pub last : (tablet : Id) (i : Interval) → last_of k.activity tablet ≡ Some i → WasLast m tablet i ⊎ Begins m k i
  pub latest : LastIsLatest k

pub activity_goes_on : (m k : Master) → GoOn m k.activity → LastIsLatest m → ActivityOn m k
activity_goes_on m k on latest = record {
  each = λ i there. inl (on.each i there);
  last = λ tablet i is. inl (on.last tablet i is);
  latest = λ i j there last. latest_goes_on m k.activity on latest i j there last;
}
  where
    latest_goes_on : (m : Master) (is : List Interval) → GoOn m is → LastIsLatest m → (i j : Interval) → In i is → last_of is i.tablet ≡ Some j → i.from ≤ j.from
    latest_goes_on m is on latest i j there last =
        let a = on.each i there in
        let b = on.last i.tablet j last in
        let le : a.was.from ≤ b.was.from = latest a.was b.was a.inside (ap (last_of m.activity) a.tablet_is ∙ b.last) in
        subst (λ x. x ≤ j.from) a.from_is (subst (λ x. a.was.from ≤ x) b.from_is le)

-- New tablets

pub begun_from : (i : Interval) (x : ℕ) → active_at x i ≡ true → i.from ≤ x
begun_from i x e = leb-true i.from x (both_pass (leb i.from x) (before_end x i.to) e).0

-- an interval of a tablet that the master doesn't know, from a stamp on
pub record IsNew (m : Master) (n : ℕ) (i : Interval) : Type 0 where
  pub from_is : i.from ≡ n
  pub unknown : (j : Interval) → In j m.activity → j.tablet ≡ i.tablet → ⊥

new_begins : (ps : Parts) (activity : List Interval) (changes : List Change) (k : Master) (is js : List Interval) (n : ℕ) → Inv ps activity changes → ps.master.clock < n → k.activity ≡ is ++ js
    → GoOn ps.master is → ((j : Interval) → In j js → IsNew ps.master n j) → (i : Interval) → In i js → Begins ps.master k i
new_begins ps activity changes k is js n inv before made on new i here =
    let m = ps.master in
    let mine = new i here in
    record {
      after = λ j there of. absurd (mine.unknown j there of);
      first = λ none. subst (λ x. m.clock ≤ x) (sym mine.from_is) (le_of_lt before);
      sets = λ r kept of. (let past : r.at ≤ m.clock = (inv.operations.snapshots r kept).past in let from : i.from ≡ n = mine.from_is in omega arith);
      since = λ s h x listed there of owned active late. elim (in_append is js h (subst (In h) made there)) [
        | inl old ↦ (let a = on.each h old in absurd (mine.unknown a.was a.inside (a.tablet_is ∙ of)))
        | inr other ↦ (let same_ : h.from ≡ i.from = (new h other).from_is ∙ sym mine.from_is in subst (λ y. y ≤ x) same_ (begun_from h x active))
      ];
    }

-- some go on, and others begin at one time
pub activity_begins : (m k : Master) (is js : List Interval) (at : ℕ) → k.activity ≡ is ++ js → GoOn m is → ((j : Interval) → In j js → Begins m k j × (j.from ≡ at)) → LastIsLatest m → ActivityOn m k
activity_begins m k is js at made on begins latest = record {
  each = λ i there. elim (in_append is js i (subst (In i) made there)) [ inl old ↦ inl (on.each i old) | inr here ↦ inr (begins i here).0 ];
  last = λ tablet i last. elim (last_appended is js tablet i (subst (λ l. last_of l tablet ≡ Some i) made last)) [ inl here ↦ inr (begins i here).0 | inr old ↦ inl (on.last tablet i old) ];
  latest = λ i j there last.
      let found : last_of (is ++ js) i.tablet ≡ Some j = subst (λ l. last_of l i.tablet ≡ Some j) made last in
      elim (in_append is js i (subst (In i) made there)) [
        | inl old ↦ (
            let a = on.each i old in
            elim (last_appended is js i.tablet j found) [
              | inl here ↦ (
                  let of : j.tablet ≡ i.tablet = same_equal j.tablet i.tablet (last_in (is ++ js) i.tablet j found).1 in
                  subst (λ x. x ≤ j.from) a.from_is ((begins j here).0.after a.was a.inside (a.tablet_is ∙ sym of)).0)
              | inr was ↦ (
                  let b = on.last i.tablet j was in
                  let le : a.was.from ≤ b.was.from = latest a.was b.was a.inside (ap (last_of m.activity) a.tablet_is ∙ b.last) in
                  subst (λ x. x ≤ j.from) a.from_is (subst (λ x. a.was.from ≤ x) b.from_is le))
            ])
        | inr mine ↦ (
            let here = last_behind is js i.tablet i j mine refl found in
            subst (λ x. i.from ≤ x) ((begins i mine).1 ∙ sym (begins j here).1) (le_refl i.from))
      ];
}

-- some go on, and others are of new tablets
pub activity_grows : (ps : Parts) (activity : List Interval) (changes : List Change) (k : Master) (is js : List Interval) (n : ℕ) → Inv ps activity changes → ps.master.clock < n → k.activity ≡ is ++ js
    → GoOn ps.master is → ((j : Interval) → In j js → IsNew ps.master n j) → LastIsLatest ps.master → ActivityOn ps.master k
activity_grows ps activity changes k is js n inv before made on new latest =
    activity_begins ps.master k is js n made on (λ j here. (new_begins ps activity changes k is js n inv before made on new j here, (new j here).from_is)) latest
