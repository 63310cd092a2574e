-- What is remembered of all tablets' activity goes on: floors don't fall, and so no forgotten interval is needed again.
use Rattle.std.proofs.Common.{[], ◌∷◌, ℕ, ◌≡◌, ◌≤◌, ◌<◌, List, Option, Some, None, Bool, true, false, cond, ◌&&◌, inl, inr, refl, sym, ap, subst, ◌∙◌, arith, not, leb, leb-true, ltb-true, le_trans, le_of_lt, le_refl, ◌∷◌, ◌++◌, filter, ◌⊎◌}
use Rattle.std.proofs.lemmas.Bool.{cond_both, true≢false}
use Rattle.std.proofs.lemmas.Bool.Decides.{nat_tests}
use Rattle.std.specs.Option.{option_map, option_or, option_map_or}
use Rattle.model.specs.Cluster.{Id, same, In, has, ended_by, before_end, owner_of, Interval, active_at, Schedule, RestorationRecord, CloneRecord, Act, Reply, Told, Master, Parts, Ticks}
use Rattle.model.specs.Schedules.{low, least_with, floor, least_low}
use Rattle.model.specs.Operations.{restoration_of, clone_with}
use Rattle.model.specs.Cleanup.{floor_of, floor_of_table}
use Rattle.model.specs.Entries.{slots_of}
use Rattle.law_invariants.specs.Remembered.{activity_after, IsPartOf, IsForgotten, Remembered}
use Rattle.law_store.proofs.Keys.{either_way}
use Rattle.law_invariants.proofs.Parting.{part_in}
use Rattle.law_invariants.proofs.Finding.{both_pass, same_equal, same_self}

-- Floors

low_later : (s : Schedule) (m n : ℕ) → m ≤ n → low s m ≤ low s n
low_later s m n le = omega arith

least_later : (to : Option ℕ) (a b : ℕ) → a ≤ b → least_with to a ≤ least_with to b
least_later None a b le = le
least_later (Some to) a b le = omega arith

-- the low ends of a namespace's windows: there is none, or the least rises
abbrev pub LowRises : Option ℕ → Option ℕ → Type 0
LowRises None None = Unit {0}
LowRises None (Some b) = ⊥
LowRises (Some a) None = ⊥
LowRises (Some a) (Some b) = a ≤ b

pub low_same : (o : Option ℕ) → LowRises o o
low_same None = tt
low_same (Some a) = le_refl a

least_both : (x y : Option ℕ) (a b : ℕ) → a ≤ b → LowRises x y → least_with x a ≤ least_with y b
least_both None None a b le h = le
least_both None (Some y) a b le h = absurd h
least_both (Some x) None a b le h = absurd h
least_both (Some x) (Some y) a b le h = omega arith

-- a schedule in front whose own rises
pub first_rises : (b : Bool) (x y : Option ℕ) (a c : ℕ) → a ≤ c → LowRises x y → LowRises (cond b (Some (least_with x a)) x) (cond b (Some (least_with y c)) y)
first_rises true x y a c le h = least_both x y a c le h
first_rises false x y a c le h = h

lows_later : (ss : List Schedule) (ns : Id) (m n : ℕ) → m ≤ n → LowRises (least_low ss ns m) (least_low ss ns n)
lows_later [] ns m n le = tt
lows_later (s ∷ ss) ns m n le = first_rises (same s.namespace ns) (least_low ss ns m) (least_low ss ns n) (low s m) (low s n) (low_later s m n le) (lows_later ss ns m n le)

pub floor_up : (a b : Option ℕ) (to : Option ℕ) (m n : ℕ) → m ≤ n → LowRises a b → floor a to m ≤ floor b to n
floor_up None None to m n le h = le
floor_up None (Some b) to m n le h = absurd h
floor_up (Some a) None to m n le h = absurd h
floor_up (Some a) (Some b) to m n le h = least_later to a b h

-- a namespace without a schedule has no low end
pub no_lows : (ss : List Schedule) (ns : Id) (n : ℕ) → ((s : Schedule) → In s ss → s.namespace ≡ ns → ⊥) → least_low ss ns n ≡ None
no_lows [] ns n apart = refl
no_lows (s ∷ ss) ns n apart = either_way (same s.namespace ns)
    (λ b. absurd (apart s (inl refl) (same_equal s.namespace ns b)))
    (λ b. ap (λ q. cond q (Some (least_with (least_low ss ns n) (low s n))) (least_low ss ns n)) b ∙ no_lows ss ns n (λ k isin. apart k (inr isin)))

-- one with a schedule has one at or below that of the schedule
abbrev pub HasLow : List Schedule → Id → ℕ → ℕ → Type 0
HasLow ss ns n most = (l : ℕ) × ((least_low ss ns n ≡ Some l) × (l ≤ most))

with_less : (o : Option ℕ) (n l most : ℕ) → o ≡ Some l → l ≤ most → least_with o n ≤ most
with_less o n l most e le = subst (λ q. least_with q n ≤ most) (sym e) (omega arith)

with_own : (o : Option ℕ) (n : ℕ) → least_with o n ≤ n
with_own None n = le_refl n
with_own (Some l) n = omega arith

pub has_low : (ss : List Schedule) (ns : Id) (n : ℕ) (s : Schedule) → In s ss → s.namespace ≡ ns → HasLow ss ns n (low s n)
has_low [] ns n s isin is = absurd isin
has_low (t ∷ ss) ns n s isin is = either_way (same t.namespace ns)
    (λ b. (
      least_with (least_low ss ns n) (low t n),
      (
        ap (λ q. cond q (Some (least_with (least_low ss ns n) (low t n))) (least_low ss ns n)) b,
        elim isin [
          | inl e ↦ subst (λ k. least_with (least_low ss ns n) (low t n) ≤ low k n) e (with_own (least_low ss ns n) (low t n))
          | inr rest ↦ (let h = has_low ss ns n s rest is in with_less (least_low ss ns n) (low t n) h.0 (low s n) h.1.0 h.1.1)
        ],
      ),
    ))
    (λ b. elim isin [
      | inl e ↦ absurd (true≢false (sym (ap (λ k. same k.namespace ns) e ∙ ap (λ i. same i ns) is ∙ same_self ns) ∙ b))
      | inr rest ↦ (let h = has_low ss ns n s rest is in (h.0, (ap (λ q. cond q (Some (least_with (least_low ss ns n) (low t n))) (least_low ss ns n)) b ∙ h.1.0, h.1.1)))
    ])

-- where a namespace has a least low end, it has a schedule
pub low_found : (ss : List Schedule) (ns : Id) (n l : ℕ) → least_low ss ns n ≡ Some l → (s : Schedule) × (In s ss × (s.namespace ≡ ns))
low_found [] ns n l e = absurd (let q = e in grind arith)
low_found (t ∷ ss) ns n l e = either_way (same t.namespace ns)
    (λ b. (t, (inl refl, same_equal t.namespace ns b)))
    (λ b. let rest : least_low ss ns n ≡ Some l = sym (ap (λ c. cond c (Some (least_with (least_low ss ns n) (low t n))) (least_low ss ns n)) b) ∙ e in
    let h = low_found ss ns n l rest in (h.0, (inr h.1.0, h.1.1)))

-- what a namespace's least low end becomes by a stamp where schedules come and go
abbrev pub LowTurns : ℕ → Option ℕ → Option ℕ → Type 0
LowTurns n None None = Unit {0}
LowTurns n None (Some b) = n ≤ b
LowTurns n (Some a) None = a ≤ n
LowTurns n (Some a) (Some b) = a ≤ b

with_turned : (n a : ℕ) (x y : Option ℕ) → a ≤ n → LowTurns n x y → least_with x a ≤ least_with y a
with_turned n a None None le h = le_refl a
with_turned n a None (Some b) le h = omega (arith, le, h)
with_turned n a (Some x) None le h = omega (arith, le, h)
with_turned n a (Some x) (Some y) le h = omega (arith, le, h)

-- where one is added whose window begins at the stamp
pub lows_added : (ss : List Schedule) (s : Schedule) (ns : Id) (n : ℕ) → n ≤ low s n → ((t : Schedule) → In t ss → low t n ≤ n) → LowTurns n (least_low ss ns n) (least_low (ss ++ s ∷ []) ns n)
lows_added [] s ns n new old = cond_both (same s.namespace ns) (Some (low s n)) None (LowTurns n None) (λ e. new) (λ e. tt)
lows_added (t ∷ ss) s ns n new old = let rest = lows_added ss s ns n new (λ k isin. old k (inr isin)) in either_way (same t.namespace ns)
    (λ b. subst (λ c. LowTurns n (cond c (Some (least_with (least_low ss ns n) (low t n))) (least_low ss ns n)) (cond c (Some (least_with (least_low (ss ++ s ∷ []) ns n) (low t n))) (least_low (ss ++ s ∷ []) ns n))) (sym b)
    (with_turned n (low t n) (least_low ss ns n) (least_low (ss ++ s ∷ []) ns n) (old t (inl refl)) rest))
    (λ b. subst (λ c. LowTurns n (cond c (Some (least_with (least_low ss ns n) (low t n))) (least_low ss ns n)) (cond c (Some (least_with (least_low (ss ++ s ∷ []) ns n) (low t n))) (least_low (ss ++ s ∷ []) ns n))) (sym b) rest)

turned_less : (n a : ℕ) (x y : Option ℕ) → a ≤ n → LowTurns n x y → LowTurns n (Some (least_with x a)) y
turned_less n a None None le h = le
turned_less n a None (Some b) le h = omega (arith, le, h)
turned_less n a (Some x) None le h = omega (arith, le, h)
turned_less n a (Some x) (Some y) le h = omega (arith, le, h)

-- where some are taken away
pub lows_left : (test : Schedule → Bool) (ss : List Schedule) (ns : Id) (n : ℕ) → ((t : Schedule) → In t ss → low t n ≤ n) → LowTurns n (least_low ss ns n) (least_low (filter test ss) ns n)
lows_left test [] ns n old = tt
lows_left test (t ∷ ss) ns n old =
    let rest = lows_left test ss ns n (λ k isin. old k (inr isin)) in
    let P : Bool → Bool → Type 0 = λ c k. LowTurns n (cond c (Some (least_with (least_low ss ns n) (low t n))) (least_low ss ns n)) (least_low (cond k (t ∷ filter test ss) (filter test ss)) ns n) in
    let whole : (c : Bool) → same t.namespace ns ≡ c → P c (test t) = λ c e. either_way (test t)
    (λ kept. subst (P c) (sym kept) (subst (λ d. LowTurns n (cond c (Some (least_with (least_low ss ns n) (low t n))) (least_low ss ns n)) (cond d (Some (least_with (least_low (filter test ss) ns n) (low t n))) (least_low (filter test ss) ns n))) (sym e)
    (both_kept c rest)))
    (λ gone. subst (P c) (sym gone) (less c rest)) in
    whole (same t.namespace ns) refl
  where
    both_kept : (c : Bool) → LowTurns n (least_low ss ns n) (least_low (filter test ss) ns n)
        → LowTurns n (cond c (Some (least_with (least_low ss ns n) (low t n))) (least_low ss ns n)) (cond c (Some (least_with (least_low (filter test ss) ns n) (low t n))) (least_low (filter test ss) ns n))
    both_kept true h = with_turned n (low t n) (least_low ss ns n) (least_low (filter test ss) ns n) (old t (inl refl)) h
    both_kept false h = h

    less : (c : Bool) → LowTurns n (least_low ss ns n) (least_low (filter test ss) ns n) → LowTurns n (cond c (Some (least_with (least_low ss ns n) (low t n))) (least_low ss ns n)) (least_low (filter test ss) ns n)
    less true h = turned_less n (low t n) (least_low ss ns n) (least_low (filter test ss) ns n) (old t (inl refl)) h
    less false h = h

least_most : (to : Option ℕ) (a : ℕ) → least_with to a ≤ a
least_most None a = le_refl a
least_most (Some t) a = omega arith

-- the floor doesn't fall, unless an operation goes to a time of a namespace that had no schedule
pub floor_turns : (n : ℕ) (a b : Option ℕ) (to : Option ℕ) → LowTurns n a b → (a ≡ None → (b ≡ None) ⊎ (to ≡ None)) → floor a to n ≤ floor b to n
floor_turns n None None to h free = le_refl n
floor_turns n None (Some b) to h free = elim (free refl) [ inl none ↦ absurd (let q = none in grind arith) | inr e ↦ subst (λ t. n ≤ least_with t b) (sym e) h ]
floor_turns n (Some a) None to h free = le_trans (least_most to a) h
floor_turns n (Some a) (Some b) to h free = least_later to a b h

floor_later : (ss : List Schedule) (ns : Id) (to : Option ℕ) (m n : ℕ) → m ≤ n → floor (least_low ss ns m) to m ≤ floor (least_low ss ns n) to n
floor_later ss ns to m n le = floor_up (least_low ss ns m) (least_low ss ns n) to m n le (lows_later ss ns m n le)

-- the floor of a table by the namespace in which it was made, and by what the master keeps of operations
abbrev floor_by : Option Id → List Schedule → List RestorationRecord → List CloneRecord → ℕ → ℕ
floor_by owner schedules restorations clones n = option_map_or (λ ns. floor (least_low schedules ns n) (option_or (option_map (λ r. r.to) (restoration_of restorations ns)) (option_map (λ r. r.to) (clone_with clones ns))) n) owner n

by_later : (owner : Option Id) (schedules : List Schedule) (restorations : List RestorationRecord) (clones : List CloneRecord) (m n : ℕ) → m ≤ n → floor_by owner schedules restorations clones m ≤ floor_by owner schedules restorations clones n
by_later None schedules restorations clones m n le = le
by_later (Some ns) schedules restorations clones m n le =
    floor_later schedules ns (option_or (option_map (λ r. r.to) (restoration_of restorations ns)) (option_map (λ r. r.to) (clone_with clones ns))) m n le

-- the floor of a table doesn't fall from one master to the next
pub record FloorsHold (m k : Master) : Type 0 where
  pub clock : m.clock ≤ k.clock
  pub schedules : k.schedules ≡ m.schedules
  pub restorations : k.restorations ≡ m.restorations
  pub clones : k.clones ≡ m.clones

pub floor_holds : (m k : Master) (table : Id) → FloorsHold m k → owner_of k.catalog.owners table ≡ owner_of m.catalog.owners table → floor_of_table m table m.clock ≤ floor_of_table k table k.clock
floor_holds m k table f owner =
    let up = by_later (owner_of m.catalog.owners table) m.schedules m.restorations m.clones m.clock k.clock f.clock in
    let is : floor_by (owner_of k.catalog.owners table) k.schedules k.restorations k.clones k.clock ≡ floor_by (owner_of m.catalog.owners table) m.schedules m.restorations m.clones k.clock =
    ap (λ o. floor_by o k.schedules k.restorations k.clones k.clock) owner
    ∙ ap (λ ss. floor_by (owner_of m.catalog.owners table) ss k.restorations k.clones k.clock) f.schedules
    ∙ ap (λ rs. floor_by (owner_of m.catalog.owners table) m.schedules rs k.clones k.clock) f.restorations
    ∙ ap (λ cs. floor_by (owner_of m.catalog.owners table) m.schedules m.restorations cs k.clock) f.clones in
    subst (λ y. floor_of_table m table m.clock ≤ y) (sym is) up

-- and neither does that of a namespace
pub floor_rises : (m k : Master) (ns : Id) → FloorsHold m k → floor_of m ns m.clock ≤ floor_of k ns k.clock
floor_rises m k ns f =
    let up = by_later (Some ns) m.schedules m.restorations m.clones m.clock k.clock f.clock in
    let is : floor_by (Some ns) k.schedules k.restorations k.clones k.clock ≡ floor_by (Some ns) m.schedules m.restorations m.clones k.clock =
    ap (λ ss. floor_by (Some ns) ss k.restorations k.clones k.clock) f.schedules
    ∙ ap (λ rs. floor_by (Some ns) m.schedules rs k.clones k.clock) f.restorations
    ∙ ap (λ cs. floor_by (Some ns) m.schedules m.restorations cs k.clock) f.clones in
    subst (λ y. floor_of m ns m.clock ≤ y) (sym is) up

pub ended_later : (to : Option ℕ) (m n : ℕ) → m ≤ n → ended_by m to ≡ true → ended_by n to ≡ true
ended_later None m n le h = absurd (let q = h in grind arith)
ended_later (Some e) m n le h = grind (arith, nat_tests)

-- each interval that the master keeps is one of all
pub kept_all : {m : Master} {activity : List Interval} → Remembered m activity → (i : Interval) → In i m.activity → In i activity
kept_all {m} {activity} h i isin = part_in activity m.activity i h.part isin

-- Forgotten intervals

pub forgotten_on : (m k : Master) (i : Interval) → FloorsHold m k → owner_of k.catalog.owners i.table ≡ owner_of m.catalog.owners i.table → ((j : Interval) → In j k.activity → j.tablet ≡ i.tablet → ⊥)
    → IsForgotten m i → IsForgotten k i
forgotten_on m k i f owner unknown h = record {
  below = ended_later i.to (floor_of_table m i.table m.clock) (floor_of_table k i.table k.clock) (floor_holds m k i.table f owner) h.below;
  over = ended_later i.to m.clock k.clock f.clock h.over;
  unknown = unknown;
}

-- the same where floors are known to rise
pub forgotten_later : (m k : Master) (i : Interval) → m.clock ≤ k.clock → ((ns : Id) → floor_of m ns m.clock ≤ floor_of k ns k.clock) → owner_of k.catalog.owners i.table ≡ owner_of m.catalog.owners i.table
    → ((j : Interval) → In j k.activity → j.tablet ≡ i.tablet → ⊥) → IsForgotten m i → IsForgotten k i
forgotten_later m k i clock floors owner unknown h = record {
  below = subst (λ o. ended_by (option_map_or (λ ns. floor_of k ns k.clock) o k.clock) i.to ≡ true) (sym owner) (by_owner (owner_of m.catalog.owners i.table) h.below);
  over = ended_later i.to m.clock k.clock clock h.over;
  unknown = unknown;
}
  where
    by_owner : (owner : Option Id) → ended_by (option_map_or (λ ns. floor_of m ns m.clock) owner m.clock) i.to ≡ true → ended_by (option_map_or (λ ns. floor_of k ns k.clock) owner k.clock) i.to ≡ true
    by_owner None e = ended_later i.to m.clock k.clock clock e
    by_owner (Some ns) e = ended_later i.to (floor_of m ns m.clock) (floor_of k ns k.clock) (floors ns) e

-- where the master keeps its activity
pub remembered_on : (m k : Master) (activity : List Interval) → FloorsHold m k → k.catalog.owners ≡ m.catalog.owners → k.activity ≡ m.activity → m.drawn.tablets ≤ k.drawn.tablets → m.drawn.tables ≤ k.drawn.tables
    → Remembered m activity → Remembered k activity
remembered_on m k activity f owners same_ tablets tables h = record {
  part = subst (λ is. IsPartOf is activity) (sym same_) h.part;
  each = λ i isin. elim (h.each i isin) [
    | inl here ↦ inl (subst (In i) (sym same_) here)
    | inr gone ↦ inr (forgotten_on m k i f (ap (λ os. owner_of os i.table) owners) (λ j known. gone.unknown j (subst (In j) same_ known)) gone)
  ];
  drawn = λ i isin. le_trans (h.drawn i isin) tablets;
  drawn_table = λ i isin. le_trans (h.drawn_table i isin) tables;
  reserved = λ c p i known unseen paired isin. h.reserved c p i (subst (In c) f.clones known) unseen paired isin;
}

pub remembered_ticked : (m : Master) (n : ℕ) (activity : List Interval) → m.clock ≤ n → Remembered m activity → Remembered (record m { clock = n }) activity
remembered_ticked m n activity le h = remembered_on m (record m { clock = n }) activity (record { clock = le; schedules = refl; restorations = refl; clones = refl }) refl refl (le_refl _) (le_refl _) h

pub remembered_ticked_if : (b : Bool) (m : Master) (n : ℕ) (activity : List Interval) → (b ≡ true → m.clock ≤ n) → Remembered m activity → Remembered (cond b (record m { clock = n }) m) activity
remembered_ticked_if b m n activity le h = cond_both b (record m { clock = n }) m (λ k. Remembered k activity) (λ e. remembered_ticked m n activity (le e) h) (λ e. h)

pub active_ends : (to : Option ℕ) (n time : ℕ) → time ≤ n → before_end n to ≡ true → ended_by time to ≡ true → ⊥
active_ends None n time less before over = true≢false (sym over)
active_ends (Some e) n time less before over = let b : n < e = ltb-true n e before in let o : e ≤ time = leb-true e time over in omega arith

-- an interval that is active after the master's clock is one that the master keeps
pub still_kept : (m : Master) (activity : List Interval) (i : Interval) (n : ℕ) → Remembered m activity → m.clock < n → In i activity → active_at n i ≡ true → In i m.activity
still_kept m activity i n h less isin active = elim (h.each i isin) [
  | inl here ↦ here
  | inr gone ↦ absurd (active_ends i.to n m.clock (le_of_lt less) (both_pass (leb i.from n) (before_end n i.to) active).1 gone.over)
]

-- Activity after an act

stays : {A : Type 0} (b : Bool) (x : A) → cond b x x ≡ x
stays true x = refl
stays false x = refl

-- where the master is told nothing, the activity stays
pub activity_stays : (act : Act) (tablets : List Told) (reply : Reply) (n : ℕ) (ps : Parts) (activity : List Interval) → activity_after act (record { master = Ticks; tablets = tablets; reply = reply }) n ps activity ≡ activity
activity_stays act tablets reply n ps activity = stays (has (slots_of act) 0 && not false) activity

-- an interval that is active at a time from the floor of its namespace on is one that the master keeps
pub never_forgotten : (m : Master) (ns : Id) (i : Interval) (x : ℕ) → IsForgotten m i → owner_of m.catalog.owners i.table ≡ Some ns → floor_of m ns m.clock ≤ x → active_at x i ≡ true → ⊥
never_forgotten m ns i x gone owner low active =
    let floor : floor_of_table m i.table m.clock ≡ floor_of m ns m.clock = ap (λ o. option_map_or (λ k. floor_of m k m.clock) o m.clock) owner in
    active_ends i.to x (floor_of m ns m.clock) low (both_pass (leb i.from x) (before_end x i.to) active).1 (subst (λ f. ended_by f i.to ≡ true) floor gone.below)
