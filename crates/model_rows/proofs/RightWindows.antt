-- Restores at the two ends of a window are right, and wrong where they are answered otherwise.
use Rattle.std.proofs.Common.{◌≡◌, ◌<◌, [], ◌∷◌, ◌++◌, Some, None, refl, sym, ap, subst, ◌∙◌, arith, inl, inr}
use Rattle.std.specs.Option.{option_and_then}
use Rattle.model.specs.Operations.{user}
use Rattle.std.proofs.lemmas.Bool.{leb-true, ltb-true}
use Rattle.model.specs.Acts.{Busy, Ok, Refused, TooEarly}
use Rattle.model.specs.Replies.{Right}
use Rattle.model.specs.Windows.{RestoreEarly, RestoreLate, RestoreAccepted, RestoreBusy}
use Rattle.model_rows.proofs.RightReads.{made_stays, ready_right}
use Rattle.model_rows.specs.Computed.{the_book}
use Rattle.model_rows.specs.Runs.{after, answered}
use Rattle.model_rows.specs.Scripts.{R, early, ready, restore}

window_low_end_right : Right 64 (after (restore (early 2) ++ restore (early 3)) ready).entries
unfolding the_book
window_low_end_right = (
  (ready_right, (inr (refl, RestoreEarly (early 3) (record { by = _; known = refl; unused = refl }) refl (ltb-true (early 2) (early 3) refl)), made_stays)),
  (inr (refl, RestoreAccepted (R 1) (record { by = _; known = refl; unused = refl }) (leb-true (early 3) (early 3) refl, ltb-true (early 3) (early 5) refl)), made_stays),
)

window_high_end_right : Right 64 (after (restore (early 4) ++ restore (early 4)) ready).entries
unfolding the_book
window_high_end_right = (
  (ready_right, (inr (refl, RestoreLate (early 4) (record { by = _; known = refl; unused = refl }) refl (leb-true (early 3) (early 4) refl) (leb-true (early 4) (early 4) refl)), made_stays)),
  (inr (refl, RestoreAccepted (R 1) (record { by = _; known = refl; unused = refl }) (leb-true (early 3) (early 4) refl, ltb-true (early 4) (early 5) refl)), made_stays),
)

refused_low_end : Right 64 (answered (Refused (TooEarly (early 3))) (after (restore (early 3)) ready).entries) → ⊥
unfolding the_book
refused_low_end right = elim (right.1.0) [
  | inl stale ↦ stale.0 refl
  | inr under ↦ elim (under.1) [ RestoreEarly low_end may low_is below ↦ (let less : early 3 < early 3 = subst (λ k. early 3 < k) (sym low_is) below in omega arith) ]
]

accepted_own_stamp : Right 64 (answered (Ok (R 1 ∷ [])) (after (restore (early 4)) ready).entries) → ⊥
unfolding the_book
accepted_own_stamp right = elim (right.1.0) [
  | inl stale ↦ stale.0 refl
  | inr under ↦ elim (under.1) [ RestoreAccepted made may inside ↦ (let before : early 4 < early 4 = inside.1 in omega arith) ]
]

-- where no operation uses the namespace, a restore isn't refused as if one did
refused_as_busy : Right 64 (answered (Refused (Busy (R 1))) (after (restore (early 3)) ready).entries) → ⊥
unfolding the_book
refused_as_busy right = elim (right.1.0) [
  | inl stale ↦ stale.0 refl
  | inr under ↦ elim (under.1) [ RestoreBusy operation by known used ↦ (let clash : None ≡ Some operation = ap (option_and_then (λ s. user ready.parts.master s.namespace)) known ∙ used in cc) ]
]
