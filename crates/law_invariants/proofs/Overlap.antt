-- Two tablets of a table never have one code at one time: where one is open, the other's interval ended before it began.
use Rattle.std.proofs.Common.{ℕ, ◌≡◌, ◌≢◌, ◌≤◌, ◌<◌, ◌+◌, ◌*◌, ◌%◌, max, List, [], ◌∷◌, Option, Some, None, Bool, true, cond, ◌&&◌, inl, inr, refl, sym, ap, ◌∙◌, arith, ltb-true, le-leb, fold}
use Rattle.std.proofs.lemmas.Bool.Decides.{nat_tests}
use Rattle.row_values.specs.Codes.{code_of, code_step}
use Rattle.model.specs.Cluster.{Id, same, In, before_end, in_range, Interval, active_at}
use Rattle.model.specs.Stands.{holders}
use Rattle.law_store.proofs.Keys.{either_way}
use Rattle.law_invariants.specs.Invariant.{OverBy}
use Rattle.law_invariants.proofs.Finding.{passes_both}

-- an interval of the table that has the code at x
abbrev pub holds : Interval → Id → ℕ → ℕ → Bool
holds i table c x = same i.table table && (active_at x i && in_range i.low i.high c)

pub one_holder : (is : List Interval) (i : Interval) (table : Id) (c x : ℕ) → In i is → holds i table c x ≡ true → 1 ≤ holders is table c x
one_holder [] i table c x isin h = absurd isin
one_holder (j ∷ js) i table c x (inl e) h = let k : holds j table c x ≡ true = ap (λ y. holds y table c x) e ∙ h in rw k (omega arith)
one_holder (j ∷ js) i table c x (inr isin) h = let rest = one_holder js i table c x isin h in omega arith

pub two_holders : (is : List Interval) (i j : Interval) (table : Id) (c x : ℕ) → In i is → In j is → i.slot ≢ j.slot → holds i table c x ≡ true → holds j table c x ≡ true → 2 ≤ holders is table c x
two_holders [] i j table c x ini inj apart hi hj = absurd ini
two_holders (k ∷ ks) i j table c x (inl e) (inl f) apart hi hj = absurd (apart (ap (λ y. y.slot) (sym e ∙ f)))
two_holders (k ∷ ks) i j table c x (inl e) (inr inj) apart hi hj =
    let here : holds k table c x ≡ true = ap (λ y. holds y table c x) e ∙ hi in
    let rest = one_holder ks j table c x inj hj in rw here (omega arith)
two_holders (k ∷ ks) i j table c x (inr ini) (inl f) apart hi hj =
    let here : holds k table c x ≡ true = ap (λ y. holds y table c x) f ∙ hj in
    let rest = one_holder ks i table c x ini hi in rw here (omega arith)
two_holders (k ∷ ks) i j table c x (inr ini) (inr inj) apart hi hj =
    let rest = two_holders ks i j table c x ini inj apart hi hj in omega arith

-- a code that is held has a holder
pub holder_there : (is : List Interval) (table : Id) (c x : ℕ) → 1 ≤ holders is table c x → (i : Interval) × (In i is × (holds i table c x ≡ true))
holder_there [] table c x some = absurd (omega (arith, some))
holder_there (i ∷ is) table c x some = either_way (holds i table c x)
    (λ e. (i, (inl refl, e)))
    (λ e. let all : 1 ≤ cond (holds i table c x) 1 0 + holders is table c x = some in
    let rest : 1 ≤ 0 + holders is table c x = rw e at all in
    let r = holder_there is table c x (omega (arith, rest)) in (r.0, (inr r.1.0, r.1.1)))

-- where at most one holds the code, two that hold it are one
pub same_holder : (is : List Interval) (i j : Interval) (table : Id) (c x : ℕ) → holders is table c x ≤ 1 → In i is → In j is → holds i table c x ≡ true → holds j table c x ≡ true → i ≡ j
same_holder [] i j table c x le ini inj hi hj = absurd ini
same_holder (k ∷ ks) i j table c x le (inl e) (inl f) hi hj = sym e ∙ f
same_holder (k ∷ ks) i j table c x le (inl e) (inr inj) hi hj =
    let here : holds k table c x ≡ true = ap (λ y. holds y table c x) e ∙ hi in
    let rest = one_holder ks j table c x inj hj in
    let both : cond (holds k table c x) 1 0 + holders ks table c x ≤ 1 = le in
    let clash : 1 + holders ks table c x ≤ 1 = rw here at both in absurd (omega (arith, rest, clash))
same_holder (k ∷ ks) i j table c x le (inr ini) (inl f) hi hj =
    let here : holds k table c x ≡ true = ap (λ y. holds y table c x) f ∙ hj in
    let rest = one_holder ks i table c x ini hi in
    let both : cond (holds k table c x) 1 0 + holders ks table c x ≤ 1 = le in
    let clash : 1 + holders ks table c x ≤ 1 = rw here at both in absurd (omega (arith, rest, clash))
same_holder (k ∷ ks) i j table c x le (inr ini) (inr inj) hi hj = same_holder ks i j table c x (let all : cond (holds k table c x) 1 0 + holders ks table c x ≤ 1 = le in omega arith) ini inj hi hj

code_small : (key : List ℕ) (h : ℕ) → h < 65536 → fold code_step h key < 65536
code_small [] h l = l
code_small (b ∷ bs) h l = code_small bs ((h * 31 + b) % 65536) (omega arith)

pub code_below : (key : List ℕ) → code_of key < 65536
code_below key = code_small key 0 (omega arith)

by_end : (to : Option ℕ) (i j x time : ℕ) → OverBy time i to → before_end x to ≡ true → (before_end (max i j) to ≡ true → ⊥) → x < j
by_end None i j x time ends before clash = absurd (clash refl)
by_end (Some e) i j x time ends before clash =
    let l : x < e = ltb-true _ _ before in
    let no_ : (max i j < e) → ⊥ = λ m. clash (grind (arith, nat_tests)) in
    omega (arith, ends.0, no_)

pub holds_now : (i : Interval) (table : Id) (c x : ℕ) → same i.table table ≡ true → i.from ≤ x → before_end x i.to ≡ true → in_range i.low i.high c ≡ true → holds i table c x ≡ true
holds_now i table c x table_is from before ranged =
    passes_both _ _ table_is (passes_both _ _ (passes_both _ _ (le-leb _ _ from) before) ranged)

-- j is open. Where another slot's interval of the table has the same code, it ended by the time at which j begins
pub ends_before : (is : List Interval) (i j : Interval) (table : Id) (c x time : ℕ) → holders is table c (max i.from j.from) ≤ 1 → In i is → In j is → i.slot ≢ j.slot
    → same i.table table ≡ true → same j.table table ≡ true → in_range i.low i.high c ≡ true → in_range j.low j.high c ≡ true → OverBy time i.from i.to → j.to ≡ None → before_end x i.to ≡ true → x < j.from
ends_before is i j table c x time one ini inj apart ti tj ri rj ends is_op before =
    let m = max i.from j.from in
    let hj : holds j table c m ≡ true = holds_now j table c m tj (omega arith) (ap (before_end m) is_op) rj in
    let clash : before_end m i.to ≡ true → ⊥ = λ b.
    let hi : holds i table c m ≡ true = holds_now i table c m ti (omega arith) b ri in
    let two = two_holders is i j table c m ini inj apart hi hj in omega arith in
    by_end i.to i.from j.from x time ends before clash
