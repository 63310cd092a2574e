-- How many targets of a table have a code: as many as source tablets that had it at the time.
use Rattle.std.proofs.Common.{ℕ, ◌≡◌, ◌≤◌, ◌+◌, List, [], ◌∷◌, length, Bool, true, false, cond, ◌&&◌, inl, inr, refl, sym, ap, ◌∙◌, arith}
use Rattle.std.specs.List.{filter}
use Rattle.std.proofs.lemmas.Bool.{true≢false}
use Rattle.model.specs.Cluster.{Id, same, in_range, Interval, active_at, IdPair}
use Rattle.row_values.specs.Elements.{In, put_in, in_order}
use Rattle.model.specs.Stands.{holders}
use Rattle.model.specs.Changed.{pair_tablets, target_in}
use Rattle.law_store.proofs.Keys.{either_way}
use Rattle.law_invariants.specs.Operations.{takers}
use Rattle.law_invariants.proofs.Overlap.{holds}

-- where each source tablet was active, and stands for the target's table exactly where it is of the source's
pub takers_are : (is : List Interval) (slots : List ℕ) (drawn : ℕ) (tables : List IdPair) (d : IdPair) (code to : ℕ) → length is ≤ length slots → ((i : Interval) → In i is → active_at to i ≡ true)
    → ((i : Interval) → In i is → same (target_in tables i.table) d.target ≡ same i.table d.source) → takers (pair_tablets is slots drawn tables) d.target code ≡ holders is d.source code to
takers_are [] slots drawn tables d code to long active alike = refl
takers_are (i ∷ is) [] drawn tables d code to long active alike = absurd (omega (arith, long))
takers_are (i ∷ is) (slot ∷ slots) drawn tables d code to long active alike =
    let rest = takers_are is slots (drawn + 1) tables d code to (omega (arith, long)) (λ j isin. active j (inr isin)) (λ j isin. alike j (inr isin)) in
    ap (λ b. cond (b && in_range i.low i.high code) 1 0 + takers (pair_tablets is slots (drawn + 1) tables) d.target code) (alike i (inl refl))
    ∙ ap (λ b. cond (same i.table d.source && (b && in_range i.low i.high code)) 1 0 + takers (pair_tablets is slots (drawn + 1) tables) d.target code) (sym (active i (inl refl)))
    ∙ ap (λ n. cond (same i.table d.source && (active_at to i && in_range i.low i.high code)) 1 0 + n) rest

put_holders : (before : Interval → Interval → Bool) (is : List Interval) (i : Interval) (table : Id) (code x : ℕ) → holders (put_in before i is) table code x ≡ cond (holds i table code x) 1 0 + holders is table code x
put_holders before [] i table code x = refl
put_holders before (j ∷ js) i table code x = let rest = put_holders before js i table code x in either_way (before j i)
    (λ b. ap (λ c. holders (cond c (j ∷ put_in before i js) (i ∷ j ∷ js)) table code x) b ∙ ap (λ n. cond (holds j table code x) 1 0 + n) rest ∙ omega arith)
    (λ b. ap (λ c. holders (cond c (j ∷ put_in before i js) (i ∷ j ∷ js)) table code x) b)

pub ordered_holders : (before : Interval → Interval → Bool) (is : List Interval) (table : Id) (code x : ℕ) → holders (in_order before is) table code x ≡ holders is table code x
ordered_holders before [] table code x = refl
ordered_holders before (i ∷ is) table code x = put_holders before (in_order before is) i table code x ∙ ap (λ n. cond (holds i table code x) 1 0 + n) (ordered_holders before is table code x)

-- a filter that lets each holder pass counts the same
pub filtered_holders : (test : Interval → Bool) (is : List Interval) (table : Id) (code x : ℕ) → ((i : Interval) → holds i table code x ≡ true → test i ≡ true) → holders (filter test is) table code x ≡ holders is table code x
filtered_holders test [] table code x passes = refl
filtered_holders test (i ∷ is) table code x passes = let rest = filtered_holders test is table code x passes in either_way (test i)
    (λ b. ap (λ c. holders (cond c (i ∷ filter test is) (filter test is)) table code x) b ∙ ap (λ n. cond (holds i table code x) 1 0 + n) rest)
    (λ b. ap (λ c. holders (cond c (i ∷ filter test is) (filter test is)) table code x) b ∙ rest ∙ (let zero_more : holders is table code x ≡ 0 + holders is table code x = omega arith in zero_more) ∙ sym (ap (λ c. cond c 1 0 + holders is table code x) (none b)))
  where
    none : test i ≡ false → holds i table code x ≡ false
    none b = either_way (holds i table code x) (λ h. absurd (true≢false (sym (passes i h) ∙ b))) (λ h. h)
