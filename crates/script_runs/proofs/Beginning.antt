-- A run before its first command is the book's.
use Rattle.std.proofs.Common.{◌≡◌, ℕ, zero, suc, false, List, [], get_or, refl, ◌∙◌, ap}
use Rattle.std.specs.Prelude.{replicate}
use Rattle.std.proofs.Math.Path.{fun_ext}
use Rattle.model.specs.Entries.{Entry}
use Rattle.model_runs.specs.Running.{Run, begun}
use Rattle.script_runs.specs.Runs.{RunState, run_at}

zero_lag : (count slot : ℕ) → ◌≡◌ {A = ℕ} (get_or (replicate count 0) slot 0) 0
zero_lag zero slot = refl
zero_lag (suc count) zero = refl
zero_lag (suc count) (suc slot) = zero_lag count slot

abbrev fresh : ℕ → (ℕ → ℕ) → List Entry → Run
fresh reading lag history = record { reading = reading; lag = lag; history = history; text = []; done = 0; stopped = false }

pub begun_is : (s : RunState) (count : ℕ) → s.reading ≡ 0 → s.lags ≡ replicate count 0 → s.history ≡ [] → run_at s [] 0 ≡ begun
begun_is s count reading lags none =
    ap (λ n. fresh n (λ slot. get_or s.lags slot 0) s.history) reading
    ∙ ap (λ lag. fresh 0 lag s.history) (fun_ext (λ slot. ap (λ ls. get_or ls slot 0) lags ∙ zero_lag count slot))
    ∙ ap (λ history. fresh 0 (λ slot. 0) history) none
