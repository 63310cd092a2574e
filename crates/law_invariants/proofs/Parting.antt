-- A part of a list goes on to be one; one of intervals counts no more.
use Rattle.std.proofs.Common.{ℕ, ◌≡◌, ◌≤◌, ◌+◌, List, [], ◌∷◌, ◌++◌, map, Bool, true, false, cond, inl, inr, refl, sym, ap, subst, ◌∙◌, arith, le_trans}
use Rattle.std.specs.List.{filter}
use Rattle.model.specs.Cluster.{Id, Interval, Master, Parts}
use Rattle.row_values.specs.Elements.{In, put_in, in_order}
use Rattle.model.specs.Stands.{holders}
use Rattle.law_store.proofs.Keys.{either_way}
use Rattle.law_invariants.specs.Remembered.{IsPartOf}
use Rattle.law_invariants.proofs.Overlap.{holds}
use Rattle.model.specs.Journal.{Change}
use Rattle.law_invariants.specs.Invariant.{Inv, IsPast}

pub part_in : {A : Type 0} (js is : List A) (i : A) → IsPartOf is js → In i is → In i js
part_in js [] i h isin = absurd isin
part_in [] (k ∷ is) i h isin = absurd h
part_in (j ∷ js) (k ∷ is) i (inl h) (inl e) = inl (sym h.0 ∙ e)
part_in (j ∷ js) (k ∷ is) i (inl h) (inr rest) = inr (part_in js is i h.1 rest)
part_in (j ∷ js) (k ∷ is) i (inr h) isin = inr (part_in js (k ∷ is) i h isin)

pub part_same : {A : Type 0} (is : List A) → IsPartOf is is
part_same [] = tt
part_same (i ∷ is) = inl (refl, part_same is)

-- with one more, and without the first
pub part_more : {A : Type 0} (js is : List A) (j : A) → IsPartOf is js → IsPartOf is (j ∷ js)
part_more js [] j h = tt
part_more js (i ∷ is) j h = inr h

pub part_append : {A : Type 0} (js is es bs : List A) → IsPartOf is js → IsPartOf es bs → IsPartOf (is ++ es) (js ++ bs)
part_append [] [] es bs h k = k
part_append [] (i ∷ is) es bs h k = absurd h
part_append (j ∷ js) [] es bs h k = part_more (js ++ bs) es j (part_append js [] es bs tt k)
part_append (j ∷ js) (i ∷ is) es bs (inl h) k = inl (h.0, part_append js is es bs h.1 k)
part_append (j ∷ js) (i ∷ is) es bs (inr h) k = inr (part_append js (i ∷ is) es bs h k)

pub part_mapped : {A : Type 0} (f : A → A) (js is : List A) → IsPartOf is js → IsPartOf (map f is) (map f js)
part_mapped f js [] h = tt
part_mapped f [] (i ∷ is) h = absurd h
part_mapped f (j ∷ js) (i ∷ is) (inl h) = inl (ap f h.0, part_mapped f js is h.1)
part_mapped f (j ∷ js) (i ∷ is) (inr h) = inr (part_mapped f js (i ∷ is) h)

-- those that pass a test are a part, and of those that pass it
pub part_left : {A : Type 0} (test : A → Bool) (js is : List A) → IsPartOf is js → IsPartOf (filter test is) js
part_left test js [] h = tt
part_left test [] (i ∷ is) h = absurd h
part_left test (j ∷ js) (i ∷ is) (inl h) = either_way (test i)
    (λ b. rw b (inl (h.0, part_left test js is h.1)))
    (λ b. rw b (part_more js (filter test is) j (part_left test js is h.1)))
part_left test (j ∷ js) (i ∷ is) (inr h) = part_more js (filter test (i ∷ is)) j (part_left test js (i ∷ is) h)

pub part_filtered : {A : Type 0} (test : A → Bool) (js is : List A) → IsPartOf is js → IsPartOf (filter test is) (filter test js)
part_filtered test js [] h = tt
part_filtered test [] (i ∷ is) h = absurd h
part_filtered test (j ∷ js) (i ∷ is) (inl h) = let rest = part_filtered test js is h.1 in either_way (test i)
    (λ b. let k : test j ≡ true = ap test (sym h.0) ∙ b in rw (b, k) (inl (h.0, rest)))
    (λ b. let k : test j ≡ false = ap test (sym h.0) ∙ b in rw (b, k) rest)
part_filtered test (j ∷ js) (i ∷ is) (inr h) = let rest = part_filtered test js (i ∷ is) h in either_way (test j)
    (λ b. subst (λ c. IsPartOf (filter test (i ∷ is)) (cond c (j ∷ filter test js) (filter test js))) (sym b) (part_more (filter test js) (filter test (i ∷ is)) j rest))
    (λ b. subst (λ c. IsPartOf (filter test (i ∷ is)) (cond c (j ∷ filter test js) (filter test js))) (sym b) rest)

-- a part holds a code no more often
pub part_counts : (js is : List Interval) (table : Id) (code x : ℕ) → IsPartOf is js → holders is table code x ≤ holders js table code x
part_counts js [] table code x h = omega arith
part_counts [] (i ∷ is) table code x h = absurd h
part_counts (j ∷ js) (i ∷ is) table code x (inl h) =
    let rest = part_counts js is table code x h.1 in
    subst (λ k. cond (holds i table code x) 1 0 + holders is table code x ≤ cond (holds k table code x) 1 0 + holders js table code x) h.0 (omega arith)
part_counts (j ∷ js) (i ∷ is) table code x (inr h) = let rest = part_counts js (i ∷ is) table code x h in le_trans rest (omega arith)

-- A list in order has the same items; and each interval lies before the master's clock.

-- Lists in order have the same items

put_has : {A : Type 0} (before : A → A → Bool) (xs : List A) (x a : A) → In a (x ∷ xs) → In a (put_in before x xs)
put_has before [] x a isin = isin
put_has before (y ∷ ys) x a isin = either_way (before y x)
    (λ b. rw b (elim isin as (λ _. In a (y ∷ put_in before x ys)) [ inl e ↦ inr (put_has before ys x a (inl e)) | inr rest ↦ (elim rest as (λ _. In a (y ∷ put_in before x ys)) [ inl f ↦ inl f | inr more ↦ inr (put_has before ys x a (inr more)) ]) ]))
    (λ b. rw b isin)

put_only : {A : Type 0} (before : A → A → Bool) (xs : List A) (x a : A) → In a (put_in before x xs) → In a (x ∷ xs)
put_only before [] x a isin = isin
put_only before (y ∷ ys) x a isin = either_way (before y x)
    (λ b. let here : In a (y ∷ put_in before x ys) = rw b at isin in elim here as (λ _. In a (x ∷ y ∷ ys)) [ inl e ↦ inr (inl e) | inr rest ↦ (let k = put_only before ys x a rest in elim k as (λ _. In a (x ∷ y ∷ ys)) [ inl f ↦ inl f | inr more ↦ inr (inr more) ]) ])
    (λ b. rw b at isin)

pub ordered_has : {A : Type 0} (before : A → A → Bool) (xs : List A) (a : A) → In a xs → In a (in_order before xs)
ordered_has before [] a isin = isin
ordered_has before (x ∷ xs) a isin = put_has before (in_order before xs) x a (elim isin as (λ _. In a (x ∷ in_order before xs)) [ inl e ↦ inl e | inr rest ↦ inr (ordered_has before xs a rest) ])

pub ordered_only : {A : Type 0} (before : A → A → Bool) (xs : List A) (a : A) → In a (in_order before xs) → In a xs
ordered_only before [] a isin = isin
ordered_only before (x ∷ xs) a isin = let k = put_only before (in_order before xs) x a isin in elim k as (λ _. In a (x ∷ xs)) [ inl e ↦ inl e | inr rest ↦ inr (ordered_only before xs a rest) ]

-- Times

-- each interval of the parts lies before the master's clock
abbrev pub AllPast : Master → Type 0
AllPast m = (i : Interval) → In i m.activity → IsPast m.clock i.from i.to

pub all_past : (ps : Parts) (activity : List Interval) (changes : List Change) → Inv ps activity changes → AllPast ps.master
all_past ps activity changes inv = λ i isin. ((inv.slots i.slot).each i isin refl).past
