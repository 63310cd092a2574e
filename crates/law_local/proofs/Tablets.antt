-- Writes, cutoffs, compactions, restarts and counts read one tablet's part, and a cutoff the master too.
use Rattle.std.proofs.Common.{ℕ, ◌≡◌, List, refl, ap, ◌∙◌}
use Rattle.row_values.specs.declared.value.Item.{Item}
use Rattle.model.specs.Acts.{At}
use Rattle.model.specs.Parts.{Parts}
use Rattle.model.specs.RowActs.{write, cutoff, compact, restart, stats}

pub write_same : (place : At) (version : ℕ) (batch : List Item) (n : ℕ) (p q : Parts) → p.tablet place.slot ≡ q.tablet place.slot → write place version batch n p ≡ write place version batch n q
unfolding write
write_same place version batch n p q e = ap (λ t. write place version batch n (record { master = p.master; tablet = λ slot. t })) e

pub cutoff_same : (slot n : ℕ) (p q : Parts) → p.master ≡ q.master → p.tablet slot ≡ q.tablet slot → cutoff slot n p ≡ cutoff slot n q
unfolding cutoff
cutoff_same slot n p q m e = ap (λ k. cutoff slot n (record { master = k; tablet = p.tablet })) m ∙ ap (λ t. cutoff slot n (record { master = q.master; tablet = λ slot. t })) e

pub compact_same : (slot n : ℕ) (p q : Parts) → p.tablet slot ≡ q.tablet slot → compact slot n p ≡ compact slot n q
unfolding compact
compact_same slot n p q e = ap (λ t. compact slot n (record { master = p.master; tablet = λ slot. t })) e

pub restart_same : (slot n : ℕ) (p q : Parts) → restart slot n p ≡ restart slot n q
unfolding restart
restart_same slot n p q = refl

pub stats_same : (slot n : ℕ) (p q : Parts) → p.tablet slot ≡ q.tablet slot → stats slot n p ≡ stats slot n q
unfolding stats
stats_same slot n p q e = ap (λ t. stats slot n (record { master = p.master; tablet = λ slot. t })) e
