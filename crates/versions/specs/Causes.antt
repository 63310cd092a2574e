-- Why a read is refused.
use Rattle.std.specs.Prelude.{ℕ, ◌<◌, ◌≡◌, ⊤}
use Rattle.versions.specs.declared.store.ReadRefused.{ReadRefused}
use Rattle.versions.specs.declared.store.ReadRefused.TheVariants.{TooOld, NoMemory}

-- the cause of a refusal of a read at x: the time is below the cutoff, or there was no memory
abbrev pub RefusedFor : ℕ → ℕ → ReadRefused → Type 0
RefusedFor x kept_from (TooOld asked cutoff) = (x < kept_from) × (asked ≡ x) × (cutoff ≡ kept_from)
RefusedFor x kept_from NoMemory = ⊤
