-- The switch: what the master has after it, which intervals, and which tablets are listed for their rows.
use Rattle.std.specs.Option.{option_or}
use Rattle.std.proofs.Common.{ℕ, ◌≡◌, ◌<◌, List, [], ◌∷◌, ◌++◌, map, Option, Some, None, Bool, true, false, cond, ◌&&◌, ◌||◌, ◌⊎◌, inl, inr, refl, sym, ap, subst, ◌∙◌, arith, not, le_trans, le_of_lt}
use Rattle.std.specs.List.{list_any}
use Rattle.std.proofs.lemmas.Bool.{true≢false}
use Rattle.model.specs.Cluster.{Id, same, In, ended, Interval, active_at, owner_of, owns, is_owned_by, RestoreFrom, Hide, RestoreFromKind, Mark, is_done, Listed, RestorationRecord, RestorationState, Switching, Restoring, is_restored, point_of, unsent, Master, Parts}
use Rattle.model.specs.Restored.{begun_at, end_namespace_tablets, restored_activity, restored_tables, switch_list, concerned, version_of}
use Rattle.model.specs.Journal.{Change}
use Rattle.model.specs.Lists.{once, intervals_in, active_tablets, tablets_active_at}
use Rattle.model.specs.Stands.{awaited_in, awaited_of, is_restore}
use Rattle.law_store.proofs.Keys.{either_way}
use Rattle.law_invariants.specs.Operations.{has_switched, is_switched, IsOpenOf, SwitchingGood, RestorationStateGood}
use Rattle.law_invariants.specs.Orders.{stage_of_restoration, SwitchingSlot, RestorationSlot}
use Rattle.law_invariants.specs.Invariant.{Inv}
use Rattle.law_invariants.proofs.Finding.{in_append, in_first, in_second, in_mapped, map_in, in_filter, filter_in, same_equal, same_self, both_pass, passes_both, first_fails}
use Rattle.law_invariants.proofs.Parting.{ordered_has, ordered_only}
use Rattle.law_invariants.proofs.Undoing.{owned_is}
use Rattle.law_invariants.proofs.Listing.{once_only, once_has, namespace_only, namespace_has, active_only, active_has, one_place}
use Rattle.law_invariants.proofs.Serving.{floor_restores}
use Rattle.law_moves.proofs.Moving.{not_yet}
use Rattle.law_moves.proofs.Entering.{entered, entering, by_record, awaited_mapped}
use Rattle.law_moves.proofs.Viewing.{restore}
use Rattle.law_moves.proofs.Counting.{ended_in}
use Rattle.law_moves.proofs.Backing.{MaySwitch}

-- a restoration is to switch
pub record IsSwitch (ps : Parts) (activity : List Interval) (changes : List Change) (n : ℕ) (r : RestorationRecord) (point : ℕ) (serving_ : Id) : Type 0 where
  pub before : ps.master.clock < n
  pub there : In r ps.master.restorations
  pub is : r.state ≡ Switching point serving_
  pub inv : Inv ps activity changes

-- what the tablets are to do after the switch
abbrev pub listed_then : Master → RestorationRecord → ℕ → Id → List Listed
listed_then m r point serving_ = switch_list m.catalog.owners m.activity r.namespace r.to point serving_ (restored_tables m.catalog.tables r.namespace r.to point)

abbrev pub activity_then : Master → RestorationRecord → ℕ → List Interval
activity_then m r point = restored_activity m.catalog.owners m.activity r.namespace r.to point

abbrev pub turned : Master → RestorationRecord → ℕ → Id → ℕ → Master
turned m r point serving_ n = record m {
  clock = n;
  catalog = record m.catalog { tables = restored_tables m.catalog.tables r.namespace r.to point };
  activity = activity_then m r point;
  restorations = map (entering r (Restoring point serving_) (listed_then m r point serving_)) m.restorations;
  sent = unsent r.id m.sent;
}

abbrev pub after : RestorationRecord → ℕ → List Change → List Change
after r point changes = restore point r.namespace r.to changes

-- the restoration after the switch
abbrev pub back : Master → RestorationRecord → ℕ → Id → RestorationRecord
back m r point serving_ = entered r (Restoring point serving_) (listed_then m r point serving_)

-- What holds before the switch

pub unfinished_yet : (ps : Parts) (activity : List Interval) (changes : List Change) (n : ℕ) (r : RestorationRecord) (point : ℕ) (serving_ : Id) → IsSwitch ps activity changes n r point serving_ → is_restored r.state ≡ false
unfinished_yet ps activity changes n r point serving_ s = ap is_restored s.is

pub good_yet : (ps : Parts) (activity : List Interval) (changes : List Change) (n : ℕ) (r : RestorationRecord) (point : ℕ) (serving_ : Id) → IsSwitch ps activity changes n r point serving_ → SwitchingGood ps.master changes r point serving_
good_yet ps activity changes n r point serving_ s = subst (λ st. RestorationStateGood st ps.master changes r) s.is (s.inv.operations.restorations r s.there).in_state

pub slot_yet : (ps : Parts) (activity : List Interval) (changes : List Change) (n : ℕ) (r : RestorationRecord) (point : ℕ) (serving_ : Id) (slot : ℕ) → IsSwitch ps activity changes n r point serving_ → SwitchingSlot ps.master r point slot (ps.tablet slot)
slot_yet ps activity changes n r point serving_ slot s = subst (λ st. RestorationSlot st ps.master changes r slot (ps.tablet slot)) s.is ((s.inv.works slot).obeyed.restorations r s.there)

-- the journal has no restore at the point yet
pub unswitched_yet : (ps : Parts) (activity : List Interval) (changes : List Change) (n : ℕ) (r : RestorationRecord) (point : ℕ) (serving_ : Id) → IsSwitch ps activity changes n r point serving_ → is_switched changes r.namespace point ≡ false
unswitched_yet ps activity changes n r point serving_ s = either_way (is_switched changes r.namespace point)
    (λ b. absurd (
    let k = s.inv.journal.restored r.namespace point b in
    let one : k.restoration ≡ r = s.inv.journal.one_point k.restoration r point k.kept s.there k.namespace_is k.point_is (ap point_of s.is) in
    true≢false (sym k.switched ∙ ap (λ q. has_switched q.state) one ∙ ap has_switched s.is)))
    (λ b. b)

pub may_switch : (ps : Parts) (activity : List Interval) (changes : List Change) (n : ℕ) (r : RestorationRecord) (point : ℕ) (serving_ : Id) → IsSwitch ps activity changes n r point serving_ → MaySwitch ps.master.catalog r.namespace point r.to n
may_switch ps activity changes n r point serving_ s = let g = good_yet ps activity changes n r point serving_ s in record {
  less = g.is_point.later;
  begun = g.before.tables_begun;
  ended = g.before.tables_ended;
  known = le_trans (s.inv.operations.kept r.namespace) (floor_restores ps.master changes r s.inv.operations s.there (unfinished_yet ps activity changes n r point serving_ s));
  past = le_trans g.begun (le_of_lt s.before);
}

-- another unfinished restoration is of another namespace
pub other_namespace : (ps : Parts) (activity : List Interval) (changes : List Change) (n : ℕ) (r : RestorationRecord) (point : ℕ) (serving_ : Id) (x : RestorationRecord) → IsSwitch ps activity changes n r point serving_ → In x ps.master.restorations → same x.id r.id ≡ false
    → is_restored x.state ≡ false → x.namespace ≡ r.namespace → ⊥
other_namespace ps activity changes n r point serving_ x s isin other open_ e =
    let one : x ≡ r = s.inv.operations.apart.one_restoration x r isin s.there open_ (unfinished_yet ps activity changes n r point serving_ s) e in
    true≢false (sym (ap (λ k. same k.id r.id) one ∙ same_self r.id) ∙ other)

-- a table of another namespace is not of this one
pub not_mine : (m : Master) (ns other table : Id) → owner_of m.catalog.owners table ≡ Some other → (other ≡ ns → ⊥) → owns m.catalog.owners ns table ≡ false
not_mine m ns other table owner apart = either_way (owns m.catalog.owners ns table)
    (λ b. absurd (apart (let q : Some other ≡ Some ns = sym owner ∙ owned_is (owner_of m.catalog.owners table) ns b in cc)))
    (λ b. b)

pub is_mine : (m : Master) (ns table : Id) → owner_of m.catalog.owners table ≡ Some ns → owns m.catalog.owners ns table ≡ true
is_mine m ns table owner = ap (λ o. is_owned_by o ns) owner ∙ same_self ns

-- Intervals

pub then_only : (m : Master) (ns : Id) (to : ℕ) (i : Interval) → In i (tablets_active_at m.catalog.owners m.activity ns to) → In i m.activity × ((owner_of m.catalog.owners i.table ≡ Some ns) × (active_at to i ≡ true))
then_only m ns to i isin = let h = filter_in (intervals_in m.catalog.owners m.activity ns) (active_at to) i isin in let k = namespace_only m ns i h.0 in (k.0, (k.1, h.1))

pub then_has : (m : Master) (ns : Id) (to : ℕ) (i : Interval) → In i m.activity → owner_of m.catalog.owners i.table ≡ Some ns → active_at to i ≡ true → In i (tablets_active_at m.catalog.owners m.activity ns to)
then_has m ns to i isin owner active = in_filter (intervals_in m.catalog.owners m.activity ns) (active_at to) i (namespace_has m ns i isin owner) active

-- an interval after the switch is one that was there and may have ended, or one that begins at the point
pub interval_is : (P : Interval → Type 0) (m : Master) (r : RestorationRecord) (point : ℕ) → ((i : Interval) → In i m.activity → P (ended_in m.catalog.owners r.namespace point i))
    → ((i : Interval) → In i m.activity → owner_of m.catalog.owners i.table ≡ Some r.namespace → active_at r.to i ≡ true → P (begun_at point i)) → (j : Interval) → In j (activity_then m r point) → P j
interval_is P m r point old begun j isin = elim (in_append (end_namespace_tablets m.catalog.owners r.namespace point m.activity) (map (begun_at point) (tablets_active_at m.catalog.owners m.activity r.namespace r.to)) j isin) [
  | inl there ↦ in_mapped {A = Interval} {B = Interval} (ended_in m.catalog.owners r.namespace point) P m.activity old j there
  | inr came ↦ in_mapped {A = Interval} {B = Interval} (begun_at point) P (tablets_active_at m.catalog.owners m.activity r.namespace r.to) (λ i there. let k = then_only m r.namespace r.to i there in begun i k.0 k.1.0 k.1.1) j came
]

pub ended_there : (m : Master) (r : RestorationRecord) (point : ℕ) (i : Interval) → In i m.activity → In (ended_in m.catalog.owners r.namespace point i) (activity_then m r point)
ended_there m r point i isin = in_first (end_namespace_tablets m.catalog.owners r.namespace point m.activity) (map (begun_at point) (tablets_active_at m.catalog.owners m.activity r.namespace r.to)) (ended_in m.catalog.owners r.namespace point i)
    (map_in {A = Interval} {B = Interval} (ended_in m.catalog.owners r.namespace point) m.activity i isin)

pub begun_there : (m : Master) (r : RestorationRecord) (point : ℕ) (i : Interval) → In i m.activity → owner_of m.catalog.owners i.table ≡ Some r.namespace → active_at r.to i ≡ true → In (begun_at point i) (activity_then m r point)
begun_there m r point i isin owner active = in_second (end_namespace_tablets m.catalog.owners r.namespace point m.activity) (map (begun_at point) (tablets_active_at m.catalog.owners m.activity r.namespace r.to)) (begun_at point i)
    (map_in {A = Interval} {B = Interval} (begun_at point) (tablets_active_at m.catalog.owners m.activity r.namespace r.to) i (then_has m r.namespace r.to i isin owner active))

-- one of another namespace stays
pub ended_other : (m : Master) (ns : Id) (point : ℕ) (i : Interval) → owns m.catalog.owners ns i.table ≡ false → ended_in m.catalog.owners ns point i ≡ i
ended_other m ns point i other = let with_end : Option ℕ → Interval = λ to. record i { to = to } in ap (λ b. with_end (cond b (ended point i.to) i.to)) other

pub ended_mine : (m : Master) (ns : Id) (point : ℕ) (i : Interval) → owns m.catalog.owners ns i.table ≡ true → ended_in m.catalog.owners ns point i ≡ record i { to = ended point i.to }
ended_mine m ns point i mine = let with_end : Option ℕ → Interval = λ to. record i { to = to } in ap (λ b. with_end (cond b (ended point i.to) i.to)) mine

-- each interval was there, with its tablet, table, slot and range
pub record Origin (m : Master) (j : Interval) : Type 0 where
  pub was : Interval
  pub kept : In was m.activity
  pub slot_is : was.slot ≡ j.slot
  pub tablet_is : was.tablet ≡ j.tablet
  pub table_is : was.table ≡ j.table

pub origin : (m : Master) (r : RestorationRecord) (point : ℕ) (j : Interval) → In j (activity_then m r point) → Origin m j
origin m r point j isin = interval_is (Origin m) m r point (λ i there. record { was = i; kept = there; slot_is = refl; tablet_is = refl; table_is = refl }) (λ i there owner active. record { was = i; kept = there; slot_is = refl; tablet_is = refl; table_is = refl }) j isin

-- an interval of another namespace was there as it is
pub other_was : (m : Master) (r : RestorationRecord) (point : ℕ) (j : Interval) → In j (activity_then m r point) → owns m.catalog.owners r.namespace j.table ≡ false → In j m.activity
other_was m r point j isin = interval_is (λ j. owns m.catalog.owners r.namespace j.table ≡ false → In j m.activity) m r point
    (λ i there other. subst (λ k. In k m.activity) (sym (ended_other m r.namespace point i other)) there)
    (λ i there owner active other. absurd (true≢false (sym (is_mine m r.namespace i.table owner) ∙ other))) j isin

pub other_stays : (m : Master) (r : RestorationRecord) (point : ℕ) (i : Interval) → In i m.activity → owns m.catalog.owners r.namespace i.table ≡ false → In i (activity_then m r point)
other_stays m r point i isin other = subst (λ k. In k (activity_then m r point)) (ended_other m r.namespace point i other) (ended_there m r point i isin)

-- the open ones of another namespace are as they were
pub open_was : (m : Master) (r : RestorationRecord) (point : ℕ) (serving_ : Id) (n : ℕ) (ns : Id) (j : Interval) → (ns ≡ r.namespace → ⊥) → IsOpenOf (turned m r point serving_ n) ns j → IsOpenOf m ns j
open_was m r point serving_ n ns j apart h = record { kept = other_was m r point j h.kept (not_mine m r.namespace ns j.table h.owned apart); opened = h.opened; owned = h.owned }

pub open_on : (m : Master) (r : RestorationRecord) (point : ℕ) (serving_ : Id) (n : ℕ) (ns : Id) (i : Interval) → (ns ≡ r.namespace → ⊥) → IsOpenOf m ns i → IsOpenOf (turned m r point serving_ n) ns i
open_on m r point serving_ n ns i apart h = record { kept = other_stays m r point i h.kept (not_mine m r.namespace ns i.table h.owned apart); opened = h.opened; owned = h.owned }

-- The list

abbrev line_for : Master → RestorationRecord → ℕ → Id → Interval → Listed
line_for m r point serving_ i = record {
  tablet = i.tablet;
  slot = i.slot;
  body = cond (active_at r.to i) (RestoreFrom serving_ r.to point (version_of (restored_tables m.catalog.tables r.namespace r.to point) i.table)) (Hide point);
  acked = false;
}

pub record IsLine (m : Master) (r : RestorationRecord) (point : ℕ) (serving_ : Id) (l : Listed) : Type 0 where
  pub interval : Interval
  pub kept : In interval m.activity
  pub owned : owner_of m.catalog.owners interval.table ≡ Some r.namespace
  pub first : In interval (once (tablets_active_at m.catalog.owners m.activity r.namespace r.to ++ active_tablets m.catalog.owners m.activity r.namespace))
  pub is : line_for m r point serving_ interval ≡ l

pub line_is : (m : Master) (r : RestorationRecord) (point : ℕ) (serving_ : Id) (l : Listed) → In l (listed_then m r point serving_) → IsLine m r point serving_ l
line_is m r point serving_ l isin = in_mapped {A = Interval} {B = Listed} (line_for m r point serving_) (IsLine m r point serving_) (concerned m.catalog.owners m.activity r.namespace r.to)
    (λ i there.
    let one = ordered_only _ (once (tablets_active_at m.catalog.owners m.activity r.namespace r.to ++ active_tablets m.catalog.owners m.activity r.namespace)) i there in
    elim (in_append (tablets_active_at m.catalog.owners m.activity r.namespace r.to) (active_tablets m.catalog.owners m.activity r.namespace) i (once_only (tablets_active_at m.catalog.owners m.activity r.namespace r.to ++ active_tablets m.catalog.owners m.activity r.namespace) i one)) [
      | inl old ↦ (let k = then_only m r.namespace r.to i old in record { interval = i; kept = k.0; owned = k.1.0; first = one; is = refl })
      | inr now ↦ (let k = active_only m r.namespace i now in record { interval = i; kept = k.kept; owned = k.owned; first = one; is = refl })
    ]) l isin

-- the first of a tablet's intervals is one of the time, where it has one
first_then : (xs ys : List Interval) (i j : Interval) → In i (once (xs ++ ys)) → In j xs → j.tablet ≡ i.tablet → In i xs
first_then [] ys i j in_i in_j e = absurd in_j
first_then (x ∷ xs) ys i j (inl is) in_j e = inl is
first_then (x ∷ xs) ys i j (inr rest) in_j e =
    let k = filter_in (once (xs ++ ys)) (λ q. not (same q.tablet x.tablet)) i rest in
    elim in_j [
      | inl is ↦ absurd (true≢false (sym k.1 ∙ ap not (ap (λ t. same t x.tablet) (sym e) ∙ ap (λ q. same q.tablet x.tablet) (sym is) ∙ same_self x.tablet)))
      | inr more ↦ inr (first_then xs ys i j k.0 more e)
    ]

restores_by : (b : Bool) (serving_ : Id) (to point version : ℕ) → is_restore (cond b (RestoreFrom serving_ to point version) (Hide point)) ≡ b
restores_by true serving_ to point version = refl
restores_by false serving_ to point version = refl

pub line_restores : (m : Master) (r : RestorationRecord) (point : ℕ) (serving_ : Id) (l : Listed) (h : IsLine m r point serving_ l) → is_restore l.body ≡ active_at r.to h.interval
line_restores m r point serving_ l h = ap (λ q. is_restore q.body) (sym h.is) ∙ restores_by (active_at r.to h.interval) serving_ r.to point (version_of (restored_tables m.catalog.tables r.namespace r.to point) h.interval.table)

-- a tablet that was active at the time takes back its rows
pub line_then : (m : Master) (r : RestorationRecord) (point : ℕ) (serving_ : Id) (l : Listed) (h : IsLine m r point serving_ l) (j : Interval) → In j m.activity → owner_of m.catalog.owners j.table ≡ Some r.namespace → active_at r.to j ≡ true → j.tablet ≡ l.tablet
    → is_restore l.body ≡ true
line_then m r point serving_ l h j isin owner active e =
    let first = first_then (tablets_active_at m.catalog.owners m.activity r.namespace r.to) (active_tablets m.catalog.owners m.activity r.namespace) h.interval j h.first (then_has m r.namespace r.to j isin owner active) (e ∙ ap (λ q. q.tablet) (sym h.is)) in
    line_restores m r point serving_ l h ∙ (then_only m r.namespace r.to h.interval first).1.1

-- each tablet that was active at the time, or is now, has its line
pub record HasLine (m : Master) (r : RestorationRecord) (point : ℕ) (serving_ : Id) (i : Interval) : Type 0 where
  pub line : Listed
  pub listed : In line (listed_then m r point serving_)
  pub tablet_is : line.tablet ≡ i.tablet
  pub slot_is : line.slot ≡ i.slot

pub has_line : (ps : Parts) (activity : List Interval) (changes : List Change) (r : RestorationRecord) (point : ℕ) (serving_ : Id) (i : Interval) → Inv ps activity changes
    → In i (tablets_active_at ps.master.catalog.owners ps.master.activity r.namespace r.to ++ active_tablets ps.master.catalog.owners ps.master.activity r.namespace) → HasLine ps.master r point serving_ i
has_line ps activity changes r point serving_ i inv isin =
    let m = ps.master in
    let all = tablets_active_at m.catalog.owners m.activity r.namespace r.to ++ active_tablets m.catalog.owners m.activity r.namespace in
    let first = once_has all i isin in
    let there : In (line_for m r point serving_ first.0) (listed_then m r point serving_) = map_in {A = Interval} {B = Listed} (line_for m r point serving_) (concerned m.catalog.owners m.activity r.namespace r.to) first.0 (ordered_has _ (once all) first.0 first.1.0) in
    let kept : (j : Interval) → In j all → In j m.activity = λ j j_in. elim (in_append (tablets_active_at m.catalog.owners m.activity r.namespace r.to) (active_tablets m.catalog.owners m.activity r.namespace) j j_in) [
      | inl old ↦ (then_only m r.namespace r.to j old).0
      | inr now ↦ (active_only m r.namespace j now).kept
    ] in
    let k = one_place ps activity changes first.0 i inv (kept first.0 (once_only all first.0 first.1.0)) (kept i isin) first.1.1 in
    record { line = line_for m r point serving_ first.0; listed = there; tablet_is = first.1.1; slot_is = k.slot_is }

pub line_of_open : (ps : Parts) (activity : List Interval) (changes : List Change) (r : RestorationRecord) (point : ℕ) (serving_ : Id) (i : Interval) → Inv ps activity changes → IsOpenOf ps.master r.namespace i → HasLine ps.master r point serving_ i
line_of_open ps activity changes r point serving_ i inv h = has_line ps activity changes r point serving_ i inv (in_second (tablets_active_at ps.master.catalog.owners ps.master.activity r.namespace r.to) (active_tablets ps.master.catalog.owners ps.master.activity r.namespace) i (active_has ps.master r.namespace i h))

pub line_of_then : (ps : Parts) (activity : List Interval) (changes : List Change) (r : RestorationRecord) (point : ℕ) (serving_ : Id) (i : Interval) → Inv ps activity changes → In i ps.master.activity → owner_of ps.master.catalog.owners i.table ≡ Some r.namespace → active_at r.to i ≡ true
    → HasLine ps.master r point serving_ i
line_of_then ps activity changes r point serving_ i inv isin owner active = has_line ps activity changes r point serving_ i inv (in_first (tablets_active_at ps.master.catalog.owners ps.master.activity r.namespace r.to) (active_tablets ps.master.catalog.owners ps.master.activity r.namespace) i (then_has ps.master r.namespace r.to i isin owner active))

-- What tablets await

-- whether a tablet is listed for its rows
abbrev pub any_back : Master → RestorationRecord → ℕ → Id → Id → Bool
any_back m r point serving_ tablet = list_any (λ l. same l.tablet tablet && is_restore l.body) (listed_then m r point serving_)

any_is : (ls : List Listed) (tablet : Id) (l : Listed) → In l ls → l.tablet ≡ tablet → is_restore l.body ≡ true → list_any (λ l. same l.tablet tablet && is_restore l.body) ls ≡ true
any_is [] tablet l isin e b = absurd isin
any_is (k ∷ ls) tablet l (inl is) e b = let here : (same k.tablet tablet && is_restore k.body) ≡ true = ap (λ q. same q.tablet tablet && is_restore q.body) is ∙ passes_both (same l.tablet tablet) (is_restore l.body) (ap (λ i. same i tablet) e ∙ same_self tablet) b in
    ap (λ c. c || list_any (λ l. same l.tablet tablet && is_restore l.body) ls) here
any_is (k ∷ ls) tablet l (inr isin) e b = or_right (same k.tablet tablet && is_restore k.body) (list_any (λ l. same l.tablet tablet && is_restore l.body) ls) (any_is ls tablet l isin e b)
  where
    or_right : (a b : Bool) → b ≡ true → (a || b) ≡ true
    or_right true b e = refl
    or_right false b e = e

any_only : (ls : List Listed) (tablet : Id) → list_any (λ l. same l.tablet tablet && is_restore l.body) ls ≡ true → (l : Listed) × (In l ls × ((l.tablet ≡ tablet) × (is_restore l.body ≡ true)))
any_only [] tablet e = absurd (true≢false (sym e))
any_only (l ∷ ls) tablet e = either_way (same l.tablet tablet && is_restore l.body)
    (λ b. let k = both_pass (same l.tablet tablet) (is_restore l.body) b in (l, (inl refl, (same_equal l.tablet tablet k.0, k.1))))
    (λ b. let k : list_any (λ l. same l.tablet tablet && is_restore l.body) ls ≡ true = sym (ap (λ c. c || list_any (λ l. same l.tablet tablet && is_restore l.body) ls) b) ∙ e in
    let q = any_only ls tablet k in (q.0, (inr q.1.0, q.1.1)))

awaited_none : (rs : List RestorationRecord) (f : RestorationRecord → RestorationRecord) (tablet : Id) (done : List Mark) → ((x : RestorationRecord) → In x rs → awaited_of (f x).state (f x) tablet done ≡ None) → awaited_in (map f rs) tablet done ≡ None
awaited_none [] f tablet done each = refl
awaited_none (x ∷ rs) f tablet done each = ap (λ a. option_or a (awaited_in (map f rs) tablet done)) (each x (inl refl)) ∙ awaited_none rs f tablet done (λ y isin. each y (inr isin))

awaited_some : (rs : List RestorationRecord) (f : RestorationRecord → RestorationRecord) (tablet : Id) (done : List Mark) (point : ℕ) (r : RestorationRecord) → In r rs → awaited_of (f r).state (f r) tablet done ≡ Some point
    → ((x : RestorationRecord) → In x rs → (awaited_of (f x).state (f x) tablet done ≡ None) ⊎ (awaited_of (f x).state (f x) tablet done ≡ Some point)) → awaited_in (map f rs) tablet done ≡ Some point
awaited_some [] f tablet done point r isin is each = absurd isin
awaited_some (x ∷ rs) f tablet done point r isin is each = elim (each x (inl refl)) [
  | inl none ↦ ap (λ a. option_or a (awaited_in (map f rs) tablet done)) none
      ∙ awaited_some rs f tablet done point r (elim isin as (λ _. In r rs) [ inl e ↦ absurd (let q : None ≡ Some point = sym none ∙ ap (λ y. awaited_of (f y).state (f y) tablet done) e ∙ is in grind arith) | inr rest ↦ rest ]) is (λ y h. each y (inr h))
  | inr some ↦ ap (λ a. option_or a (awaited_in (map f rs) tablet done)) some
]

-- a tablet whose rows a restoration is to bring is of its namespace
awaited_listed : (state : RestorationState) (x : RestorationRecord) (tablet : Id) (done : List Mark) → awaited_of state x tablet done ≡ None ⊎ ((is_restored state ≡ false) × ((l : Listed) × (In l x.listed × (l.tablet ≡ tablet))))
awaited_listed (Restoring p serving_) x tablet done = either_way (list_any (λ l. same l.tablet tablet && is_restore l.body) x.listed)
    (λ b. let k = any_only x.listed tablet b in inr (refl, (k.0, (k.1.0, k.1.1.0))))
    (λ b. inl (ap (λ c. cond c (Some p) None) (first_fails (list_any (λ l. same l.tablet tablet && is_restore l.body) x.listed) (not (is_done done x.id RestoreFromKind)) b)))
awaited_listed _ x tablet done = inl refl

-- the tablet of an interval, which the part in its slot holds
pub record Holds (ps : Parts) (slot : ℕ) (i : Interval) : Type 0 where
  pub kept : In i ps.master.activity
  pub at : i.slot ≡ slot

-- another restoration has no rows for a tablet of the namespace
pub none_other : (ps : Parts) (activity : List Interval) (changes : List Change) (n : ℕ) (r : RestorationRecord) (point : ℕ) (serving_ : Id) (slot : ℕ) (i : Interval) (x : RestorationRecord) → IsSwitch ps activity changes n r point serving_ → Holds ps slot i
    → owner_of ps.master.catalog.owners i.table ≡ Some r.namespace → In x ps.master.restorations → same x.id r.id ≡ false → awaited_of x.state x (ps.tablet slot).tablet (ps.tablet slot).done ≡ None
none_other ps activity changes n r point serving_ slot i x s h owner isin other =
    let t = ps.tablet slot in
    let g = (s.inv.slots slot).each i h.kept h.at in
    elim (awaited_listed x.state x t.tablet t.done) [
      | inl none ↦ none
      | inr k ↦ absurd (
          let owned = s.inv.master.listed_of x k.1.0 isin k.1.1.0 i h.kept (sym g.tablet_is ∙ sym k.1.1.1) in
          let q : Some x.namespace ≡ Some r.namespace = sym owned ∙ owner in
          other_namespace ps activity changes n r point serving_ x s isin other k.0 (let e : x.namespace ≡ r.namespace = cc in e))
    ]

-- before the switch no tablet of the namespace awaits rows
pub awaited_yet : (ps : Parts) (activity : List Interval) (changes : List Change) (n : ℕ) (r : RestorationRecord) (point : ℕ) (serving_ : Id) (slot : ℕ) (i : Interval) → IsSwitch ps activity changes n r point serving_ → Holds ps slot i
    → owner_of ps.master.catalog.owners i.table ≡ Some r.namespace → awaited_in ps.master.restorations (ps.tablet slot).tablet (ps.tablet slot).done ≡ None
awaited_yet ps activity changes n r point serving_ slot i s h owner = none_of ps.master.restorations (λ x isin. isin)
  where
    none_of : (rs : List RestorationRecord) → ((x : RestorationRecord) → In x rs → In x ps.master.restorations) → awaited_in rs (ps.tablet slot).tablet (ps.tablet slot).done ≡ None
    none_of [] sub = refl
    none_of (x ∷ rs) sub =
        let here : awaited_of x.state x (ps.tablet slot).tablet (ps.tablet slot).done ≡ None = either_way (same x.id r.id)
        (λ b. let e : x ≡ r = s.inv.operations.apart.restoration_ids x r (sub x (inl refl)) s.there (same_equal x.id r.id b) in
        ap (λ st. awaited_of st x (ps.tablet slot).tablet (ps.tablet slot).done) (ap (λ q. q.state) e ∙ s.is))
        (λ b. none_other ps activity changes n r point serving_ slot i x s h owner (sub x (inl refl)) b) in
        ap (λ a. option_or a (awaited_in rs (ps.tablet slot).tablet (ps.tablet slot).done)) here ∙ none_of rs (λ y isin. sub y (inr isin))

-- and after it those that are listed for their rows do
back_awaited : (ps : Parts) (activity : List Interval) (changes : List Change) (n : ℕ) (r : RestorationRecord) (point : ℕ) (serving_ : Id) (slot : ℕ) → IsSwitch ps activity changes n r point serving_
    → awaited_of (Restoring point serving_) (back ps.master r point serving_) (ps.tablet slot).tablet (ps.tablet slot).done ≡ cond (any_back ps.master r point serving_ (ps.tablet slot).tablet) (Some point) None
back_awaited ps activity changes n r point serving_ slot s =
    let undone = not_yet ps activity changes r slot RestoreFromKind s.inv s.there (let e : stage_of_restoration r.state ≡ 1 = ap stage_of_restoration s.is in omega arith) in
    ap (λ c. cond (any_back ps.master r point serving_ (ps.tablet slot).tablet && not c) (Some point) None) undone ∙ ap (λ c. cond c (Some point) None) (and_true (any_back ps.master r point serving_ (ps.tablet slot).tablet))
  where
    and_true : (b : Bool) → (b && true) ≡ b
    and_true true = refl
    and_true false = refl

pub awaited_mine : (ps : Parts) (activity : List Interval) (changes : List Change) (n : ℕ) (r : RestorationRecord) (point : ℕ) (serving_ : Id) (slot : ℕ) (i : Interval) → IsSwitch ps activity changes n r point serving_ → Holds ps slot i
    → owner_of ps.master.catalog.owners i.table ≡ Some r.namespace
    → awaited_in (turned ps.master r point serving_ n).restorations (ps.tablet slot).tablet (ps.tablet slot).done ≡ cond (any_back ps.master r point serving_ (ps.tablet slot).tablet) (Some point) None
awaited_mine ps activity changes n r point serving_ slot i s h owner =
    let m = ps.master in
    let t = ps.tablet slot in
    let f = entering r (Restoring point serving_) (listed_then m r point serving_) in
    let is = back_awaited ps activity changes n r point serving_ slot s in
    let one = s.inv.operations.apart.restoration_ids in
    either_way (any_back m r point serving_ t.tablet)
    (λ b. awaited_some m.restorations f t.tablet t.done point r s.there
    (by_record (λ x y. x ≡ r → awaited_of y.state y t.tablet t.done ≡ Some point) m r (Restoring point serving_) (listed_then m r point serving_) r one s.there s.there (λ e. is ∙ ap (λ c. cond c (Some point) None) b)
    (λ c e. absurd (true≢false (sym (same_self r.id) ∙ c))) refl)
    (λ x isin. by_record (λ x y. (awaited_of y.state y t.tablet t.done ≡ None) ⊎ (awaited_of y.state y t.tablet t.done ≡ Some point)) m r (Restoring point serving_) (listed_then m r point serving_) x one s.there isin
    (inr (is ∙ ap (λ c. cond c (Some point) None) b)) (λ c. inl (none_other ps activity changes n r point serving_ slot i x s h owner isin c)))
    ∙ sym (ap (λ c. cond c (Some point) None) b))
    (λ b. awaited_none m.restorations f t.tablet t.done
    (λ x isin. by_record (λ x y. awaited_of y.state y t.tablet t.done ≡ None) m r (Restoring point serving_) (listed_then m r point serving_) x one s.there isin
    (is ∙ ap (λ c. cond c (Some point) None) b) (λ c. none_other ps activity changes n r point serving_ slot i x s h owner isin c))
    ∙ sym (ap (λ c. cond c (Some point) None) b))

-- a tablet of another namespace awaits what it awaited
pub back_other : (ps : Parts) (activity : List Interval) (changes : List Change) (n : ℕ) (r : RestorationRecord) (point : ℕ) (serving_ : Id) (slot : ℕ) (i : Interval) → IsSwitch ps activity changes n r point serving_ → Holds ps slot i
    → owns ps.master.catalog.owners r.namespace i.table ≡ false → awaited_of (Restoring point serving_) (back ps.master r point serving_) (ps.tablet slot).tablet (ps.tablet slot).done ≡ None
back_other ps activity changes n r point serving_ slot i s h other =
    let m = ps.master in
    let t = ps.tablet slot in
    let none : any_back m r point serving_ t.tablet ≡ false = either_way (any_back m r point serving_ t.tablet)
    (λ b. absurd (
    let k = any_only (listed_then m r point serving_) t.tablet b in
    let l = line_is m r point serving_ k.0 k.1.0 in
    let g = (s.inv.slots slot).each i h.kept h.at in
    let p = one_place ps activity changes i l.interval s.inv h.kept l.kept (sym g.tablet_is ∙ sym k.1.1.0 ∙ ap (λ q. q.tablet) (sym l.is)) in
    true≢false (sym (is_mine m r.namespace i.table (ap (owner_of m.catalog.owners) p.table_is ∙ l.owned)) ∙ other)))
    (λ b. b) in
    back_awaited ps activity changes n r point serving_ slot s ∙ ap (λ c. cond c (Some point) None) none

pub awaited_other : (ps : Parts) (activity : List Interval) (changes : List Change) (n : ℕ) (r : RestorationRecord) (point : ℕ) (serving_ : Id) (slot : ℕ) (i : Interval) → IsSwitch ps activity changes n r point serving_ → Holds ps slot i
    → owns ps.master.catalog.owners r.namespace i.table ≡ false
    → awaited_in (turned ps.master r point serving_ n).restorations (ps.tablet slot).tablet (ps.tablet slot).done ≡ awaited_in ps.master.restorations (ps.tablet slot).tablet (ps.tablet slot).done
awaited_other ps activity changes n r point serving_ slot i s h other =
    let m = ps.master in
    let t = ps.tablet slot in
    awaited_mapped m.restorations (entering r (Restoring point serving_) (listed_then m r point serving_)) t.tablet t.done
    (λ x isin. by_record (λ x y. awaited_of y.state y t.tablet t.done ≡ awaited_of x.state x t.tablet t.done) m r (Restoring point serving_) (listed_then m r point serving_) x s.inv.operations.apart.restoration_ids s.there isin
    (back_other ps activity changes n r point serving_ slot i s h other ∙ sym (ap (λ st. awaited_of st r t.tablet t.done) s.is)) (λ b. refl))

-- a tablet that was active at the time awaits its rows
pub awaited_back : (ps : Parts) (activity : List Interval) (changes : List Change) (n : ℕ) (r : RestorationRecord) (point : ℕ) (serving_ : Id) (slot : ℕ) (i : Interval) → IsSwitch ps activity changes n r point serving_ → Holds ps slot i
    → owner_of ps.master.catalog.owners i.table ≡ Some r.namespace → active_at r.to i ≡ true → awaited_in (turned ps.master r point serving_ n).restorations (ps.tablet slot).tablet (ps.tablet slot).done ≡ Some point
awaited_back ps activity changes n r point serving_ slot i s h owner active =
    let m = ps.master in
    let k = line_of_then ps activity changes r point serving_ i s.inv h.kept owner active in
    let g = (s.inv.slots slot).each i h.kept h.at in
    let restores = line_then m r point serving_ k.line (line_is m r point serving_ k.line k.listed) i h.kept owner active (sym k.tablet_is) in
    let any = any_is (listed_then m r point serving_) (ps.tablet slot).tablet k.line k.listed (k.tablet_is ∙ sym g.tablet_is) restores in
    awaited_mine ps activity changes n r point serving_ slot i s h owner ∙ ap (λ c. cond c (Some point) None) any

pub awaited_point : (b : Bool) (point p : ℕ) → cond b (Some point) None ≡ Some p → p ≡ point
awaited_point true point p e = let q : Some point ≡ Some p = e in cc
awaited_point false point p e = absurd (let q = e in grind arith)
