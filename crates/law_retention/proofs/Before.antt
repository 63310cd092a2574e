-- The catalog and the activity at a time, where records and intervals end and begin later alone.
use Rattle.std.proofs.Common.{◌&&◌, ◌<◌, ◌≡◌, ◌∷◌, ◌++◌, ◌∙◌, ℕ, List, [], Bool, true, false, cond, Option, None, map, refl, sym, ap, inl, inr, arith, ltb, leb}
use Rattle.std.proofs.lemmas.Bool.Decides.{nat_tests}
use Rattle.std.specs.List.{filter}
use Rattle.std.specs.Option.{option_map}
use Rattle.row_values.specs.Elements.{In}
use Rattle.row_values.specs.Ids.{Id, same}
use Rattle.row_values.specs.Ranges.{in_range}
use Rattle.model.specs.Activity.{Interval, active_at, route}
use Rattle.model.specs.Catalog.{NamespaceRecord, TableRecord, by_id, put_table, tables_at}
use Rattle.model.specs.Looks.{place_of}
use Rattle.model.specs.Taking.{StillActive, names_at, untimed}
use Rattle.model.specs.Times.{before_end, ended, holds_at}
use Rattle.law_store.proofs.Keys.{either_way}
use Rattle.law_invariants.proofs.Finding.{first_fails, in_first, map_in, same_equal, second_fails}
use Rattle.law_invariants.proofs.Records.{end_same}
use Rattle.law_retention.proofs.Growing.{ended_if}

-- Lists

filter_mapped : {A : Type 0} (test : A → Bool) (f : A → A) (xs : List A) → ((x : A) → In x xs → test (f x) ≡ test x) → filter test (map f xs) ≡ map f (filter test xs)
filter_mapped test f [] alike = refl
filter_mapped test f (x ∷ xs) alike =
    let rest = filter_mapped test f xs (λ y there. alike y (inr there)) in
    let here = alike x (inl refl) in
    either_way (test x)
    (λ b. let k : test (f x) ≡ true = here ∙ b in rw k (rw b (ap (λ ys. f x ∷ ys) rest)))
    (λ b. let k : test (f x) ≡ false = here ∙ b in rw k (rw b rest))

filter_none : {A : Type 0} (test : A → Bool) (xs : List A) → ((x : A) → In x xs → test x ≡ false) → filter test xs ≡ []
filter_none test [] fails = refl
filter_none test (x ∷ xs) fails = let here = fails x (inl refl) in rw here (filter_none test xs (λ y there. fails y (inr there)))

filter_behind : {A : Type 0} (test : A → Bool) (xs ys : List A) → ((y : A) → In y ys → test y ≡ false) → filter test (xs ++ ys) ≡ filter test xs
filter_behind test [] ys fails = filter_none test ys fails
filter_behind test (x ∷ xs) ys fails = let rest = filter_behind test xs ys fails in either_way (test x) (λ b. rw b (ap (λ zs. x ∷ zs) rest)) (λ b. rw b rest)

map_mapped : {A B : Type 0} (g : A → B) (f : A → A) (xs : List A) → ((x : A) → g (f x) ≡ g x) → map g (map f xs) ≡ map g xs
map_mapped g f [] alike = refl
map_mapped g f (x ∷ xs) alike = ap (λ y. y ∷ map g (map f xs)) (alike x) ∙ ap (λ ys. g x ∷ ys) (map_mapped g f xs alike)

put_mapped : (f : TableRecord → TableRecord) (t : TableRecord) (us : List TableRecord) → ((r : TableRecord) → (f r).id ≡ r.id) → put_table (f t) (map f us) ≡ map f (put_table t us)
put_mapped f t [] keeps = refl
put_mapped f t (u ∷ us) keeps =
    let e : ltb (f t).id.number (f u).id.number ≡ ltb t.id.number u.id.number = ap (λ id. ltb id.number (f u).id.number) (keeps t) ∙ ap (λ id. ltb t.id.number id.number) (keeps u) in
    either_way (ltb t.id.number u.id.number)
    (λ b. let k : ltb (f t).id.number (f u).id.number ≡ true = e ∙ b in rw k (rw b refl))
    (λ b. let k : ltb (f t).id.number (f u).id.number ≡ false = e ∙ b in rw k (rw b (ap (λ ys. f u ∷ ys) (put_mapped f t us keeps))))

by_id_mapped : (f : TableRecord → TableRecord) (rs : List TableRecord) → ((r : TableRecord) → (f r).id ≡ r.id) → by_id (map f rs) ≡ map f (by_id rs)
by_id_mapped f [] keeps = refl
by_id_mapped f (r ∷ rs) keeps = ap (put_table (f r)) (by_id_mapped f rs keeps) ∙ put_mapped f r (by_id rs) keeps

-- what hasn't begun doesn't hold
begun_later : (x from : ℕ) (to : Option ℕ) → x < from → holds_at x from to ≡ false
begun_later x from to later = first_fails (leb from x) (before_end x to) (grind (arith, nat_tests))

-- Records of the catalog

-- a record ends, if it does, after the time
abbrev pub namespace_if : (NamespaceRecord → Bool) → ℕ → NamespaceRecord → NamespaceRecord
namespace_if test at r = record r { to = cond (test r) (ended at r.to) r.to }

pub names_ended : (test : NamespaceRecord → Bool) (at x : ℕ) (rs : List NamespaceRecord) (ns : Id) → x < at → names_at (map (namespace_if test at) rs) ns x ≡ names_at rs ns x
names_ended test at x rs ns later =
    ap (λ qs. map {A = NamespaceRecord} (λ r. r.name) qs)
    (filter_mapped {A = NamespaceRecord} (λ r. holds_at x r.from r.to && same r.id ns) (namespace_if test at) rs (λ r there. ap (λ b. b && same r.id ns) (end_same (test r) x at r.from r.to later)))
    ∙ map_mapped {A = NamespaceRecord} (λ r. r.name) (namespace_if test at) (filter (λ r. holds_at x r.from r.to && same r.id ns) rs) (λ r. refl)

pub names_behind : (rs qs : List NamespaceRecord) (ns : Id) (x : ℕ) → ((q : NamespaceRecord) → In q qs → x < q.from) → names_at (rs ++ qs) ns x ≡ names_at rs ns x
names_behind rs qs ns x later =
    ap (λ ps. map {A = NamespaceRecord} (λ r. r.name) ps)
    (filter_behind {A = NamespaceRecord} (λ r. holds_at x r.from r.to && same r.id ns) rs qs (λ q there. first_fails (holds_at x q.from q.to) (same q.id ns) (begun_later x q.from q.to (later q there))))

abbrev pub table_if : (TableRecord → Bool) → ℕ → TableRecord → TableRecord
table_if test at r = record r { to = cond (test r) (ended at r.to) r.to }

-- a namespace's record that ends does so after the time
ends_later : (test same_ : Bool) (x at from : ℕ) (to : Option ℕ) → (test ≡ true → same_ ≡ true → x < at) → (holds_at x from (cond test (ended at to) to) && same_) ≡ (holds_at x from to && same_)
ends_later true true x at from to later = ap (λ b. b && true) (end_same true x at from to (later refl refl))
ends_later true false x at from to later = second_fails (holds_at x from (ended at to)) false refl ∙ sym (second_fails (holds_at x from to) false refl)
ends_later false same_ x at from to later = refl

pub tables_ended : (test : TableRecord → Bool) (at x : ℕ) (rs : List TableRecord) (ns : Id) → ((r : TableRecord) → In r rs → test r ≡ true → r.namespace ≡ ns → x < at)
    → map untimed (tables_at (map (table_if test at) rs) ns x) ≡ map untimed (tables_at rs ns x)
tables_ended test at x rs ns later =
    ap (λ qs. map untimed (by_id qs))
    (filter_mapped {A = TableRecord} (λ r. holds_at x r.from r.to && same r.namespace ns) (table_if test at) rs
    (λ r there. ends_later (test r) (same r.namespace ns) x at r.from r.to (λ ends mine. later r there ends (same_equal r.namespace ns mine))))
    ∙ ap (map untimed) (by_id_mapped (table_if test at) (filter (λ r. holds_at x r.from r.to && same r.namespace ns) rs) (λ r. refl))
    ∙ map_mapped untimed (table_if test at) (by_id (filter (λ r. holds_at x r.from r.to && same r.namespace ns) rs)) (λ r. refl)

pub tables_behind : (rs qs : List TableRecord) (ns : Id) (x : ℕ) → ((q : TableRecord) → In q qs → q.namespace ≡ ns → x < q.from) → tables_at (rs ++ qs) ns x ≡ tables_at rs ns x
tables_behind rs qs ns x later =
    ap by_id (filter_behind {A = TableRecord} (λ r. holds_at x r.from r.to && same r.namespace ns) rs qs
    (λ q there. either_way (same q.namespace ns)
    (λ b. first_fails (holds_at x q.from q.to) (same q.namespace ns) (begun_later x q.from q.to (later q there (same_equal q.namespace ns b))))
    (λ b. second_fails (holds_at x q.from q.to) (same q.namespace ns) b)))

-- Intervals

pub route_ended : (test : Interval → Bool) (at x : ℕ) (is : List Interval) (table : Id) (code : ℕ) → ((i : Interval) → In i is → test i ≡ true → i.table ≡ table → x < at)
    → option_map place_of (route (map (ended_if test at) is) table code x) ≡ option_map place_of (route is table code x)
route_ended test at x [] table code later = refl
route_ended test at x (i ∷ is) table code later =
    let rest = route_ended test at x is table code (λ j there. later j (inr there)) in
    either_way (same i.table table)
    (λ b.
    let stays : active_at x (ended_if test at i) ≡ active_at x i = either_way (test i)
    (λ t. end_same (test i) x at i.from i.to (later i (inl refl) t (same_equal i.table table b)))
    (λ t. ap (λ c. holds_at x i.from (cond c (ended at i.to) i.to)) t) in
    either_way (active_at x i && in_range i.low i.high code)
    (λ c. let k : (active_at x (ended_if test at i) && in_range i.low i.high code) ≡ true = ap (λ a. a && in_range i.low i.high code) stays ∙ c in rw b (rw k (rw c refl)))
    (λ c. let k : (active_at x (ended_if test at i) && in_range i.low i.high code) ≡ false = ap (λ a. a && in_range i.low i.high code) stays ∙ c in rw b (rw k (rw c rest))))
    (λ b. rw b rest)

route_none : (js : List Interval) (table : Id) (code x : ℕ) → ((j : Interval) → In j js → j.table ≡ table → x < j.from) → route js table code x ≡ None
route_none [] table code x later = refl
route_none (j ∷ js) table code x later =
    let rest = route_none js table code x (λ i there. later i (inr there)) in
    either_way (same j.table table)
    (λ b.
    let out : active_at x j ≡ false = begun_later x j.from j.to (later j (inl refl) (same_equal j.table table b)) in
    let k : (active_at x j && in_range j.low j.high code) ≡ false = first_fails (active_at x j) (in_range j.low j.high code) out in
    rw b (rw k rest))
    (λ b. rw b rest)

pub route_behind : (is js : List Interval) (table : Id) (code x : ℕ) → ((j : Interval) → In j js → j.table ≡ table → x < j.from) → route (is ++ js) table code x ≡ route is table code x
route_behind [] js table code x later = route_none js table code x later
route_behind (i ∷ is) js table code x later =
    let rest = route_behind is js table code x later in
    either_way (same i.table table && (active_at x i && in_range i.low i.high code)) (λ b. rw b refl) (λ b. rw b rest)

pub still_ended : (test : Interval → Bool) (at x : ℕ) (is : List Interval) (i : Interval) → In i is → active_at x i ≡ true → (test i ≡ true → x < at) → StillActive (map (ended_if test at) is) i x
still_ended test at x is i there active later = record {
  interval = ended_if test at i;
  listed = map_in (ended_if test at) is i there;
  place = refl;
  table = refl;
  active = either_way (test i)
      (λ t. end_same (test i) x at i.from i.to (later t) ∙ active)
      (λ t. ap (λ c. holds_at x i.from (cond c (ended at i.to) i.to)) t ∙ active);
}

pub still_itself : (x : ℕ) (is : List Interval) (i : Interval) → In i is → active_at x i ≡ true → StillActive is i x
still_itself x is i there active = record { interval = i; listed = there; place = refl; table = refl; active = active }

pub still_joined : (x : ℕ) (is js : List Interval) (i : Interval) → StillActive is i x → StillActive (is ++ js) i x
still_joined x is js i still = record { interval = still.interval; listed = in_first is js still.interval still.listed; place = still.place; table = still.table; active = still.active }
