-- What a step leaves in each slot: what the touched parts become, and the others as they were.
use Rattle.std.proofs.Common.{◌≡◌, ℕ, ◌+◌, ◌<◌, List, [], ◌∷◌, length, refl, sym, ap, arith, ◌∙◌, true, false, eqb, cond, Option, Some, None, length-append}
use Rattle.std.specs.Prelude.{slice_get}
use Rattle.std.specs.Option.{option_map}
use Rattle.step_table.specs.declared.known.Entry as line
use Rattle.step_table.specs.Lists.{total, Every, Rising, pick, put}
use Rattle.step_table.proofs.Lists.{either_way}
use Rattle.step_table.proofs.Puts.{put_total}
use Rattle.step_table.proofs.Laws.{length_pick}
use Rattle.row_values.specs.Slots.{has}
use Rattle.model.specs.Acts.{Event, Act}
use Rattle.model.specs.Parts.{Outcome}
use Rattle.model.specs.Entries.{slots_of, touches}
use Rattle.law_local.specs.Agreeing.{Agree}
use Rattle.machine_laws.specs.Views.{AnswerView, PartView, PartAct, kept_after}
use Rattle.machine_laws.specs.Laid.{at_slot, lay, parts_of, told_to, told_acts, part_after, all_after, master_in, tablet_in, kept_in, entries_in}
use Rattle.machine_laws.specs.Faults.{first_slot}
use Rattle.machine_laws.specs.Core.{first_notes}
use Rattle.machine_laws.proofs.Slots.{has_rising}
use Rattle.machine_laws.proofs.Laying.{at_pick, at_put, at_after, count_all, count_acts}

module _ {R : Type 0} where
  -- the touched parts agree with all parts
  pub agree : (act : Act) (ps : List (PartView R)) → Every (λ k. k < length ps) (touches act) → Agree (slots_of act) (lay (touches act) (pick (touches act) ps)) (parts_of ps)
  agree act ps lt = record {
    master = λ h. ap (λ (p : Option (PartView R)). master_in (kept_in p)) (at_pick (touches act) ps 0 lt (has_rising (slots_of act) 0 ∙ h));
    tablets = λ slot h. ap (λ (p : Option (PartView R)). tablet_in (kept_in p)) (at_pick (touches act) ps slot lt (has_rising (slots_of act) slot ∙ h));
  }

  count_notes : (ps : List (PartView R)) (e : line.Entry Event AnswerView) → length (first_notes ps e) ≡ length ps
  count_notes [] e = refl
  count_notes (p ∷ ps) e = refl

  kept_notes : (ks : List ℕ) (ps : List (PartView R)) (e : line.Entry Event AnswerView) (k : ℕ) → kept_in (at_slot ks (first_notes ps e) k) ≡ kept_in (at_slot ks ps k)
  kept_notes [] ps e k = refl
  kept_notes (j ∷ ks) [] e k = refl
  kept_notes (j ∷ ks) (p ∷ ps) e k = either_way (eqb j k) (λ t. rw t refl) (λ f. rw f refl)

  log_notes : (ks : List ℕ) (ps : List (PartView R)) (e : line.Entry Event AnswerView) (k : ℕ) → length ps ≡ length ks → has ks k ≡ true
      → entries_in (at_slot ks (first_notes ps e) k) ≡ cond (eqb (first_slot ks) k) (1 + entries_in (at_slot ks ps k)) (entries_in (at_slot ks ps k))
  log_notes [] ps e k len h = cc
  log_notes (j ∷ ks) [] e k len h = absurd (omega arith)
  log_notes (j ∷ ks) (p ∷ ps) e k len h = either_way (eqb j k) (λ t. rw t (let l = length-append p.log (e ∷ []) in omega arith)) (λ f. rw f refl)

  kept_told : (a : PartAct) (n : ℕ) (p : Option (PartView R)) → kept_in (option_map (part_after a n) p) ≡ option_map (kept_after a n) (kept_in p)
  kept_told a n None = refl
  kept_told a n (Some p) = refl

  log_told : (a : PartAct) (n : ℕ) (p : Option (PartView R)) → entries_in (option_map (part_after a n) p) ≡ entries_in p
  log_told a n None = refl
  log_told a n (Some p) = refl

  total_notes : (qs : List (PartView R)) (e : line.Entry Event AnswerView) → 0 < length qs → total (λ (p : PartView R). length p.log) (first_notes qs e) ≡ 1 + total (λ (p : PartView R). length p.log) qs
  total_notes [] e more = absurd (omega arith)
  total_notes (q ∷ qs) e more = let l = length-append q.log (e ∷ []) in omega arith

  total_after : (acts : List PartAct) (n : ℕ) (qs : List (PartView R)) → length acts ≡ length qs → total (λ (p : PartView R). length p.log) (all_after acts n qs) ≡ total (λ (p : PartView R). length p.log) qs
  total_after [] n qs len = refl
  total_after (a ∷ acts) n [] len = absurd (omega arith)
  total_after (a ∷ acts) n (q ∷ qs) len = ap (λ m. length q.log + m) (total_after acts n qs (omega arith))

-- each part after a step: the held parts do what they are told, and the first notes an entry
module _ {R : Type 0} (o : Outcome) (n : ℕ) (ks : List ℕ) (ps : List (PartView R)) (e : line.Entry Event AnswerView) (up : Rising ks) (lt : Every (λ k. k < length ps) ks) where
  abbrev told : List (PartView R)
  told = all_after (told_acts o ks) n (pick ks ps)

  abbrev became : List (PartView R)
  became = put ks (first_notes told e) ps

  count : length (first_notes told e) ≡ length ks
  count = count_notes told e ∙ count_all o n ks (pick ks ps) (length_pick ks ps lt)

  told_at : (k : ℕ) → has ks k ≡ true → at_slot ks told k ≡ option_map (part_after (told_to o k) n) (slice_get ps k)
  told_at k h = at_after o n ks (pick ks ps) k (length_pick ks ps lt) h ∙ ap (option_map (part_after (told_to o k) n)) (at_pick ks ps k lt h)

  became_at : (k : ℕ) (b : _) → has ks k ≡ b → slice_get became k ≡ cond b (at_slot ks (first_notes told e) k) (slice_get ps k)
  became_at k b h = at_put ks (first_notes told e) ps k up lt count ∙ ap (λ x. cond x (at_slot ks (first_notes told e) k) (slice_get ps k)) h

  pub kept_there : (k : ℕ) → has ks k ≡ true → kept_in (slice_get became k) ≡ option_map (kept_after (told_to o k) n) (kept_in (slice_get ps k))
  kept_there k h = ap kept_in (became_at k true h) ∙ kept_notes ks told e k ∙ ap kept_in (told_at k h) ∙ kept_told (told_to o k) n (slice_get ps k)

  pub same_else : (k : ℕ) → has ks k ≡ false → slice_get became k ≡ slice_get ps k
  same_else k h = became_at k false h

  pub log_there : (k : ℕ) → has ks k ≡ true → entries_in (slice_get became k) ≡ cond (eqb (first_slot ks) k) (1 + entries_in (slice_get ps k)) (entries_in (slice_get ps k))
  log_there k h =
      ap entries_in (became_at k true h) ∙ log_notes ks told e k (count_all o n ks (pick ks ps) (length_pick ks ps lt)) h
      ∙ ap (λ m. cond (eqb (first_slot ks) k) (1 + m) m) (ap entries_in (told_at k h) ∙ log_told (told_to o k) n (slice_get ps k))

  pub total_next : 0 < length ks → total (λ (p : PartView R). length p.log) became ≡ 1 + total (λ (p : PartView R). length p.log) ps
  total_next more =
      let f : PartView R → ℕ = λ p. length p.log in
      let held_count = length_pick ks ps lt in
      let t : total f became + total f (pick ks ps) ≡ total f ps + total f (first_notes told e) = put_total f ks (first_notes told e) ps up lt count in
      let c2 = count_all o n ks (pick ks ps) held_count in
      let a : total f (first_notes told e) ≡ 1 + total f told = total_notes told e (omega arith) in
      let b : total f told ≡ total f (pick ks ps) = total_after (told_acts o ks) n (pick ks ps) (count_acts o ks ∙ sym held_count) in
      omega arith
