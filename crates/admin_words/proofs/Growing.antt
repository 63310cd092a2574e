-- One more piece at the end of a text.
use Rattle.std.proofs.Common.{◌≡◌, ℕ, List, ◌++◌, append_assoc, ◌∙◌, ap}
use Rattle.std.specs.Prelude.{OnOk, Result, Ok, Err}

pub next : (old text more new newer : List ℕ) → new ≡ old ++ text → newer ≡ new ++ more → newer ≡ old ++ (text ++ more)
next old text more new newer e f = f ∙ ap (λ n. n ++ more) e ∙ append_assoc old text more

pub last : {A E : Type 0} (old text more new newer : List ℕ) (r : Result A E) → new ≡ old ++ text → OnOk r (newer ≡ new ++ more) → OnOk r (newer ≡ old ++ (text ++ more))
last old text more new newer (Ok a) e f = next old text more new newer e f
last old text more new newer (Err a) e f = f
