-- How many tablets hold a code: those of a split's children hold together what the parent did.
use Rattle.std.proofs.Common.{ℕ, ◌≡◌, ◌≤◌, ◌<◌, ◌+◌, List, [], ◌∷◌, ◌++◌, Option, Some, None, Bool, true, false, cond, ◌&&◌, inl, inr, refl, sym, ap, subst, ◌∙◌, arith, leb, ltb, le_refl, le_of_lt, leb-true, ltb-true}
use Rattle.std.proofs.lemmas.Bool.{cond_both, true≢false}
use Rattle.std.proofs.lemmas.Bool.Decides.{nat_tests}
use Rattle.model.specs.Cluster.{Id, same, In, before_end, ended, is_open, in_range, Interval, end_tablet, Master}
use Rattle.model.specs.Journal.{Change}
use Rattle.model.specs.Stands.{holders}
use Rattle.model.specs.Changed.{begins, next_tablet}
use Rattle.model.specs.Stands.{HasRange}
use Rattle.law_store.proofs.Keys.{either_way}
use Rattle.law_invariants.specs.Invariant.{Covered}
use Rattle.law_invariants.proofs.Finding.{both_pass, passes_both, same_equal, same_self, in_append, in_mapped}
use Rattle.law_invariants.proofs.Overlap.{holds, holds_now}
use Rattle.law_invariants.proofs.Holding.{one, holders_append, early}
use Rattle.law_splits.proofs.Cutting.{cut, cut_end, cut_mine, cut_stays}

-- the two children of a split
abbrev pub low_child : Interval → ℕ → ℕ → ℕ → Master → Interval
low_child p code slot n m = begins slot (next_tablet m.drawn.tablets 1) p.table p.low code n

abbrev pub high_child : Interval → ℕ → ℕ → ℕ → Master → Interval
high_child p code slot n m = begins slot (next_tablet m.drawn.tablets 2) p.table code p.high n

abbrev pub both_children : Interval → ℕ → ℕ → ℕ → ℕ → Master → List Interval
both_children p code a b n m = low_child p code a n m ∷ high_child p code b n m ∷ []

-- an open interval has the parent's place, and has begun
pub record LikeParent (p : Interval) (n : ℕ) (i : Interval) : Type 0 where
  pub table_is : i.table ≡ p.table
  pub low_is : i.low ≡ p.low
  pub high_is : i.high ≡ p.high
  pub begun : i.from ≤ n

-- each open interval of the parent's tablet does
abbrev pub AllLike : List Interval → Interval → ℕ → Type 0
AllLike is p n = (i : Interval) → In i is → i.tablet ≡ p.tablet → i.to ≡ None → LikeParent p n i

-- a number for each open interval of a tablet
abbrev pub for_open : Id → ℕ → List Interval → ℕ
for_open tablet k [] = 0
for_open tablet k (i ∷ is) = cond (same i.tablet tablet && is_open i.to) k 0 + for_open tablet k is

nothing : (b : Bool) → cond {A = ℕ} b 0 0 ≡ 0
nothing true = refl
nothing false = refl

for_none : (tablet : Id) (is : List Interval) → for_open tablet 0 is ≡ 0
for_none tablet [] = refl
for_none tablet (i ∷ is) =
    let rest = for_none tablet is in
    let here = nothing (same i.tablet tablet && is_open i.to) in
    omega arith

-- where one interval is open, the number is counted once
for_once : (tablet : Id) (is : List Interval) (b : Bool) → for_open tablet 1 is ≡ 1 → for_open tablet (one b) is ≡ one b
for_once tablet is true h = h
for_once tablet is false h = for_none tablet is

pub opened_is : (to : Option ℕ) → is_open to ≡ true → to ≡ None
opened_is None e = refl
opened_is (Some x) e = absurd (true≢false (sym e))

pub open_is : (to : Option ℕ) → to ≡ None → is_open to ≡ true
open_is to e = ap is_open e

when_active : (a f b r : Bool) → f ≡ true → b ≡ true → (a && ((f && b) && r)) ≡ (a && r)
when_active a true true r f b = refl
when_active a false b r f e = cc
when_active a true false r f e = cc

when_ended : (a f b r : Bool) → b ≡ false → (a && ((f && b) && r)) ≡ false
when_ended false f b r e = refl
when_ended true false b r e = refl
when_ended true true false r e = refl
when_ended true true true r e = cc

-- from n on a closed interval holds nothing, and the others hold what they did
count_one : (p : Interval) (n : ℕ) (i : Interval) (table : Id) (c x : ℕ) → n ≤ x → (i.tablet ≡ p.tablet → i.to ≡ None → LikeParent p n i)
    → one (holds (cut p.tablet n i) table c x) + cond (same i.tablet p.tablet && is_open i.to) (one (same p.table table && in_range p.low p.high c)) 0 ≡ one (holds i table c x)
count_one p n i table c x late like = either_way (same i.tablet p.tablet && is_open i.to)
    (λ e.
    let both = both_pass (same i.tablet p.tablet) (is_open i.to) e in
    let mine : i.tablet ≡ p.tablet = same_equal i.tablet p.tablet both.0 in
    let opened : i.to ≡ None = opened_is i.to both.1 in
    let l = like mine opened in
    let end_ : cut_end p.tablet n i ≡ Some n = cut_mine p.tablet n i mine ∙ ap (ended n) opened in
    let over : before_end x (cut_end p.tablet n i) ≡ false = ap (before_end x) end_ ∙ (let k : ltb x n ≡ false = grind (arith, nat_tests) in k) in
    let gone : one (holds (cut p.tablet n i) table c x) ≡ 0 = ap one (when_ended (same i.table table) (leb i.from x) (before_end x (cut_end p.tablet n i)) (in_range i.low i.high c) over) in
    let begun : leb i.from x ≡ true = (let b = l.begun in let k : leb i.from x ≡ true = grind (arith, nat_tests) in k) in
    let was : holds i table c x ≡ (same i.table table && in_range i.low i.high c) = when_active (same i.table table) (leb i.from x) (before_end x i.to) (in_range i.low i.high c) begun (ap (before_end x) opened) in
    let place : (same i.table table && in_range i.low i.high c) ≡ (same p.table table && in_range p.low p.high c) =
    ap (λ t. same t table && in_range i.low i.high c) l.table_is ∙ ap (λ low. same p.table table && in_range low i.high c) l.low_is ∙ ap (λ high. same p.table table && in_range p.low high c) l.high_is in
    let now : cond (same i.tablet p.tablet && is_open i.to) (one (same p.table table && in_range p.low p.high c)) 0 ≡ one (holds i table c x) =
    ap (λ b. cond b (one (same p.table table && in_range p.low p.high c)) 0) e ∙ sym (ap one (was ∙ place)) in
    omega (arith, gone, now))
    (λ e.
    let stays : cut_end p.tablet n i ≡ i.to = cut_stays p.tablet n i (λ opened mine. true≢false (sym (passes_both (same i.tablet p.tablet) (is_open i.to) mine (open_is i.to opened)) ∙ e)) in
    let same_ : one (holds (cut p.tablet n i) table c x) ≡ one (holds i table c x) = ap (λ to. one (holds (record i { to = to }) table c x)) stays in
    let none : cond (same i.tablet p.tablet && is_open i.to) (one (same p.table table && in_range p.low p.high c)) 0 ≡ 0 = ap (λ b. cond b (one (same p.table table && in_range p.low p.high c)) 0) e in
    omega (arith, same_, none))

count_all : (is : List Interval) (p : Interval) (n : ℕ) (table : Id) (c x : ℕ) → n ≤ x → AllLike is p n
    → holders (end_tablet p.tablet n is) table c x + for_open p.tablet (one (same p.table table && in_range p.low p.high c)) is ≡ holders is table c x
count_all [] p n table c x late like = refl
count_all (i ∷ is) p n table c x late like =
    let rest = count_all is p n table c x late (λ j isin. like j (inr isin)) in
    let here = count_one p n i table c x late (like i (inl refl)) in
    omega arith

-- before it all hold what they did
early_one : (tablet : Id) (n : ℕ) (i : Interval) (table : Id) (c x : ℕ) → x < n → one (holds (cut tablet n i) table c x) ≡ one (holds i table c x)
early_one tablet n i table c x soon =
    let same_ : before_end x (cut_end tablet n i) ≡ before_end x i.to =
    cond_both (same i.tablet tablet) (ended n i.to) i.to (λ to. before_end x to ≡ before_end x i.to) (λ e. early x n i.to soon) (λ e. refl) in
    ap (λ b. one (same i.table table && ((leb i.from x && b) && in_range i.low i.high c))) same_

early_all : (is : List Interval) (tablet : Id) (n : ℕ) (table : Id) (c x : ℕ) → x < n → holders (end_tablet tablet n is) table c x ≡ holders is table c x
early_all [] tablet n table c x soon = refl
early_all (i ∷ is) tablet n table c x soon =
    let rest = early_all is tablet n table c x soon in
    let here = early_one tablet n i table c x soon in
    omega arith

-- the parent is open once: else two would hold the code
open_most : (is : List Interval) (p : Interval) (n c : ℕ) → in_range p.low p.high c ≡ true → AllLike is p n → for_open p.tablet 1 is ≤ holders is p.table c n
open_most [] p n c ranged like = le_refl 0
open_most (i ∷ is) p n c ranged like =
    let rest = open_most is p n c ranged (λ j isin. like j (inr isin)) in
    let here : cond (same i.tablet p.tablet && is_open i.to) 1 0 ≤ one (holds i p.table c n) = cond_both (same i.tablet p.tablet && is_open i.to) 1 0 (λ k. k ≤ one (holds i p.table c n))
    (λ e.
    let both = both_pass (same i.tablet p.tablet) (is_open i.to) e in
    let opened : i.to ≡ None = opened_is i.to both.1 in
    let l = like i (inl refl) (same_equal i.tablet p.tablet both.0) opened in
    let h : holds i p.table c n ≡ true = holds_now i p.table c n (ap (λ t. same t p.table) l.table_is ∙ same_self p.table) l.begun (ap (before_end n) opened)
    (ap (λ low. in_range low i.high c) l.low_is ∙ ap (λ high. in_range p.low high c) l.high_is ∙ ranged) in
    rw h (le_refl 1))
    (λ e. omega arith) in
    omega arith

open_least : (is : List Interval) (p : Interval) → In p is → p.to ≡ None → 1 ≤ for_open p.tablet 1 is
open_least [] p isin opened = absurd isin
open_least (i ∷ is) p (inl e) opened =
    let b : (same i.tablet p.tablet && is_open i.to) ≡ true = ap (λ k. same k.tablet p.tablet && is_open k.to) e ∙ passes_both (same p.tablet p.tablet) (is_open p.to) (same_self p.tablet) (open_is p.to opened) in
    rw b (omega arith)
open_least (i ∷ is) p (inr isin) opened = let rest = open_least is p isin opened in omega arith

-- The children

late_child : (slot : ℕ) (tablet table : Id) (low high n : ℕ) (of : Id) (c x : ℕ) → n ≤ x → holds (begins slot tablet table low high n) of c x ≡ (same table of && in_range low high c)
late_child slot tablet table low high n of c x late =
    let begun : leb n x ≡ true = grind (arith, nat_tests) in when_active (same table of) (leb n x) true (in_range low high c) begun refl

early_child : (slot : ℕ) (tablet table : Id) (low high n : ℕ) (of : Id) (c x : ℕ) → x < n → one (holds (begins slot tablet table low high n) of c x) ≡ 0
early_child slot tablet table low high n of c x soon =
    let late : leb n x ≡ false = grind (arith, nat_tests) in
    ap one (not_begun (same table of) (leb n x) (in_range low high c) late)
  where
    not_begun : (a f r : Bool) → f ≡ false → (a && ((f && true) && r)) ≡ false
    not_begun false f r e = refl
    not_begun true false r e = refl
    not_begun true true r e = cc

halves : (of : Bool) (low mid high c : ℕ) → low ≤ mid → mid ≤ high → one (of && in_range low mid c) + one (of && in_range mid high c) ≡ one (of && in_range low high c)
halves false low mid high c le up = refl
halves true low mid high c le up = grind (arith, nat_tests)

-- where the parent holds a code, its children cover the codes as it did
pub split_covers : (activity : List Interval) (changes : List Change) (p : Interval) (code a b n : ℕ) (m : Master) → code < 65536 → In p activity → p.to ≡ None → in_range p.low p.high code ≡ true → p.low < code → AllLike activity p n
    → Covered activity changes → Covered (end_tablet p.tablet n activity ++ both_children p code a b n m) changes
split_covers activity changes p code a b n m small isin opened ranged narrow like h =
    let most = open_most activity p n code ranged like in
    let least = open_least activity p isin opened in
    let once = h.once p.table code n small in
    let single : for_open p.tablet 1 activity ≡ 1 = omega arith in
    let range = both_pass (leb p.low code) (ltb code p.high) ranged in
    let low : p.low ≤ code = leb-true p.low code range.0 in
    let high : code < p.high = ltb-true code p.high range.1 in
    let same_ : (table : Id) (c x : ℕ) → holders (end_tablet p.tablet n activity ++ both_children p code a b n m) table c x ≡ holders activity table c x = λ table c x.
    let all = holders_append (end_tablet p.tablet n activity) (both_children p code a b n m) table c x in
    either_way (leb n x)
    (λ l.
    let late : n ≤ x = leb-true n x l in
    let gone = count_all activity p n table c x late like in
    let counted = for_once p.tablet activity (same p.table table && in_range p.low p.high c) single in
    let first = ap one (late_child a (next_tablet m.drawn.tablets 1) p.table p.low code n table c x late) in
    let second = ap one (late_child b (next_tablet m.drawn.tablets 2) p.table code p.high n table c x late) in
    let sum = halves (same p.table table) p.low code p.high c low (le_of_lt high) in
    omega (arith, all, gone, counted, first, second, sum))
    (λ l.
    let soon : x < n = grind (arith, nat_tests) in
    let gone = early_all activity p.tablet n table c x soon in
    let first = early_child a (next_tablet m.drawn.tablets 1) p.table p.low code n table c x soon in
    let second = early_child b (next_tablet m.drawn.tablets 2) p.table code p.high n table c x soon in
    omega (arith, all, gone, first, second)) in
    record {
      once = λ table c x below. subst (λ k. k ≤ 1) (sym (same_ table c x)) (h.once table c x below);
      whole = λ table c x below is. same_ table c x ∙ h.whole table c x below is;
      ranges = λ i listed. elim (in_append (end_tablet p.tablet n activity) (both_children p code a b n m) i listed) [
        | inl old ↦ in_mapped _ HasRange activity (λ j there. h.ranges j there) i old
        | inr (inl e) ↦ subst HasRange e (narrow, omega (arith, small))
        | inr (inr (inl e)) ↦ subst HasRange e (high, (h.ranges p isin).1)
        | inr (inr (inr none)) ↦ absurd none
      ];
    }
