-- What is removed is removed by its kind, and a tablet by what the part in its slot says of itself.
use Rattle.std.proofs.Common.{ℕ, ◌≡◌, Bool, true, false, List, [], ◌∷◌, Some, None, not, ◌&&◌, sym, ap, refl, ◌∙◌, if◌then◌else◌}
use Rattle.row_values.specs.Ids.{Id, Kind, same}
use Rattle.row_values.specs.Slots.{same_slots}
use Rattle.model.specs.Activity.{Interval}
use Rattle.model.specs.Tablets as book
use Rattle.model.specs.Tablets.{Presence, EmptyPart, ServingPart, HiddenPart, Standing, standing, standing_of, is_hidden}
use Rattle.model.specs.Acts.{StalePlan, Moved}
use Rattle.model.specs.Parts.{Parts, Outcome, If, Fault, judged}
use Rattle.model.specs.Cleanup.{remove, removing, removing_tablet, removable_tablet, floor_of_table, lister_of_tablet, hidden_at}
use Rattle.master_cleanup.specs.Hidden.{removing_planned, removing_since, clearing}

pub remove_by : (kind : Kind) (target : Id) (slots : List ℕ) (n : ℕ) (ps : Parts) → kind ≡ target.kind
    → removing kind target slots n ps ≡ remove target slots n ps
unfolding remove
remove_by kind target slots n ps is = ap (λ k. removing k target slots n ps) is

module _ (i : Interval) (target : Id) (slots : List ℕ) (n : ℕ) (ps : Parts) where
  abbrev checked : Bool → Presence → Outcome
  checked planned p =
      judged
      (If (not planned) (StalePlan (i.slot ∷ []))
      ∷ If (not (is_hidden p && same (ps.tablet i.slot).tablet target)) (Moved i.slot (standing_of p (ps.tablet i.slot)))
      ∷ Fault (removable_tablet (hidden_at p) (floor_of_table ps.master i.table n) (lister_of_tablet ps.master target))
      ∷ [])
      (clearing i.slot target)

  hidden : (b : Bool) (ended : ℕ) (s : Standing) → removing_since (if b then Some ended else None) i target s n ps.master
      ≡ judged
      (If (not b) (Moved i.slot s)
      ∷ Fault (removable_tablet ended (floor_of_table ps.master i.table n) (lister_of_tablet ps.master target))
      ∷ [])
      (clearing i.slot target)
  hidden true ended s = refl
  hidden false ended s = refl

  by_presence : (p : Presence) → removing_planned i target (standing_of p (ps.tablet i.slot)) n ps.master ≡ checked true p
  by_presence EmptyPart = refl
  by_presence ServingPart = refl
  by_presence (HiddenPart ended) = hidden (same (ps.tablet i.slot).tablet target) ended (book.Hidden (ps.tablet i.slot).tablet ended)

  pub seen_planned : (s : Standing) → same_slots slots (i.slot ∷ []) ≡ true → s ≡ standing (ps.tablet i.slot)
      → removing_planned i target s n ps.master ≡ removing_tablet (Some i) target slots n ps
  seen_planned s planned is =
      ap (λ (s : Standing). removing_planned i target s n ps.master) is
      ∙ by_presence (ps.tablet i.slot).presence
      ∙ ap (λ b. checked b (ps.tablet i.slot).presence) (sym planned)
