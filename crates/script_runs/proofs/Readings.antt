-- The readings of events, and how lags change them.
use Rattle.std.proofs.Common.{◌≡◌, ℕ, ◌-◌, ◌<◌, List, [], ◌∷◌, length, get_or, set, cond, eqb, eqb-true, None, Some, inl, inr, refl, sym, ap, ◌∙◌, arith, true, false}
use Rattle.std.proofs.Math.Path.{fun_ext}
use Rattle.std.specs.Prelude.{slice_get}
use Rattle.std.proofs.lemmas.Option.{slice_get_cases}
use Rattle.std.proofs.lemmas.List.{get_or-set_same, get_or-set_other, get_or_past}
use Rattle.std.proofs.lemmas.Bool.{true≢false}
use Rattle.std.proofs.lemmas.Bool.Decides.{nat_tests}
use Rattle.law_store.proofs.Keys.{either_way}
use Rattle.model_runs.specs.Running.{Run, reading_for, taken}
use Rattle.model_runs.specs.Courses.{SetLag}
use Rattle.script_runs.specs.Lone.{only}
use Rattle.script_runs.specs.Runs.{RunState, run_at, GoesTo}

-- the lag of the one slot comes off
pub lone_reading : (ks : List ℕ) (slot : ℕ) (r : Run) → only ks ≡ Some slot → reading_for ks r ≡ r.reading - r.lag slot
lone_reading [] slot r e = absurd (let q : None ≡ Some slot = e in grind arith)
lone_reading (k ∷ []) slot r e = let q : Some k ≡ Some slot = e in let is : k ≡ slot = cc in ap (λ j. r.reading - r.lag j) is
lone_reading (k ∷ j ∷ ks) slot r e = absurd (let q : None ≡ Some slot = e in grind arith)

pub full_reading : (ks : List ℕ) (r : Run) → only ks ≡ None → reading_for ks r ≡ r.reading
full_reading [] r e = refl
full_reading (k ∷ []) r e = absurd (let q : Some k ≡ None = e in grind arith)
full_reading (k ∷ j ∷ ks) r e = refl

-- it is the same whatever was told
pub same_reading : (ks : List ℕ) (s : RunState) (told : List ℕ) (done : ℕ) → reading_for ks (run_at s told done) ≡ reading_for ks (run_at s [] 0)
same_reading [] s told done = refl
same_reading (k ∷ []) s told done = refl
same_reading (k ∷ j ∷ ks) s told done = refl

-- there is no lag behind the last slot
pub absent_lag : (lags : List ℕ) (slot : ℕ) → slice_get lags slot ≡ None → 0 ≡ get_or lags slot 0
absent_lag lags slot none = elim (slice_get_cases lags slot).1 [
  | inl there ↦ absurd (let q : None ≡ Some there.0 = sym none ∙ there.2 in grind arith)
  | inr past ↦ sym (get_or_past lags slot 0 past.0)
]

-- a lag that is set
set_lag : (lags : List ℕ) (at micros slot : ℕ) → at < length lags → cond (eqb slot at) micros (get_or lags slot 0) ≡ get_or (set lags at micros) slot 0
set_lag lags at micros slot within = either_way (eqb slot at)
    (λ t. let is : slot ≡ at = eqb-true slot at t in rw t (sym (ap (λ k. get_or (set lags at micros) k 0) is ∙ get_or-set_same lags at micros 0 within)))
    (λ f. rw f (sym (get_or-set_other lags at slot micros 0 (λ e. let q : eqb slot at ≡ true = grind (arith, nat_tests) in true≢false (sym q ∙ f)))))

pub lag_goes : (s : RunState) (at micros : ℕ) → at < length s.lags → GoesTo (taken s.slots (SetLag at micros)) s (record s { lags = set s.lags at micros })
lag_goes s at micros within told done =
    let f : (ℕ → ℕ) → Run = λ lag. record { reading = s.reading; lag = lag; history = s.history; text = told; done = done; stopped = false } in
    ap f (fun_ext (λ slot. set_lag s.lags at micros slot within))
