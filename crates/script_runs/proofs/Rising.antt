-- The slots in rising order are one where one slot alone is named.
use Rattle.std.proofs.Common.{◌≡◌, ℕ, ◌≤◌, true, false, List, [], ◌∷◌, length, None, refl, sym, ap, subst, ◌∙◌, arith, eqb, ltb, eqb-true, le_trans}
use Rattle.std.proofs.lemmas.Bool.{true≢false}
use Rattle.std.proofs.lemmas.Bool.Decides.{nat_tests}
use Rattle.row_values.specs.Slots.{put_slot, rising}
use Rattle.law_store.proofs.Keys.{either_way}
use Rattle.law_invariants.proofs.Finding.{both_pass}
use Rattle.script_runs.specs.Lone.{are_all, lone_among, lone_in, only}

one_rises : (s : ℕ) (ss : List ℕ) → are_all s ss ≡ true → rising (s ∷ ss) ≡ s ∷ []
one_rises s [] all = refl
one_rises s (t ∷ ts) all =
    let both = both_pass (eqb t s) (are_all s ts) all in
    let is : t ≡ s = eqb-true t s both.0 in
    let rest : rising (t ∷ ts) ≡ t ∷ [] = one_rises t ts (subst (λ k. are_all k ts ≡ true) (sym is) both.1) in
    let less : ltb s t ≡ false = grind (arith, nat_tests) in
    ap (put_slot s) rest ∙ rw (less, both.0) (ap (λ k. k ∷ []) is)

put_more : (s : ℕ) (ks : List ℕ) → length ks ≤ length (put_slot s ks)
put_more s [] = omega arith
put_more s (k ∷ ks) = either_way (ltb s k)
    (λ t. rw t (omega arith))
    (λ f. either_way (eqb k s) (λ t. rw (f, t) (omega arith)) (λ g. let more = put_more s ks in rw (f, g) (omega arith)))

two_put : (s t : ℕ) → eqb t s ≡ false → 2 ≤ length (put_slot s (t ∷ []))
two_put s t apart = either_way (ltb s t) (λ e. rw e (omega arith)) (λ e. rw (e, apart) (omega arith))

two_rise : (s : ℕ) (ss : List ℕ) → are_all s ss ≡ false → 2 ≤ length (rising (s ∷ ss))
two_rise s [] some = absurd (true≢false some)
two_rise s (t ∷ ts) some = either_way (are_all t ts)
    (λ all. either_way (eqb t s)
    (λ e. let is : t ≡ s = eqb-true t s e in
    let others : are_all s ts ≡ true = subst (λ k. are_all k ts ≡ true) is all in
    let whole : are_all s (t ∷ ts) ≡ true = rw e others in
    absurd (true≢false (sym whole ∙ some)))
    (λ e. subst (λ ks. 2 ≤ length (put_slot s ks)) (sym (one_rises t ts all)) (two_put s t e)))
    (λ apart. le_trans (two_rise t ts apart) (put_more s (rising (t ∷ ts))))

only_long : (ks : List ℕ) → 2 ≤ length ks → only ks ≡ None
only_long [] long = refl
only_long (k ∷ []) long = absurd (omega arith)
only_long (k ∷ j ∷ js) long = refl

pub only_among : (s : ℕ) (ss : List ℕ) → only (rising (s ∷ ss)) ≡ lone_among s ss
only_among s ss = either_way (are_all s ss)
    (λ all. rw all (ap only (one_rises s ss all)))
    (λ some. rw some (only_long (rising (s ∷ ss)) (two_rise s ss some)))

pub only_in : (ss : List ℕ) → only (rising ss) ≡ lone_in ss
only_in [] = refl
only_in (s ∷ ss) = only_among s ss
