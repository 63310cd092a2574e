-- The used slots are those of all tablets, in rising order.
use Rattle.std.proofs.Common.{ℕ, ◌≡◌, List, map, sym, ap, ◌∙◌}
use Rattle.row_values.specs.Slots.{rising}
use Rattle.model.specs.Activity.{Interval}
use Rattle.model.specs.Parts.{Master}
use Rattle.catalog_tablets.specs.Slots.{used_from}
use Rattle.catalog_tablets.proofs.Rising.{rising_used}
use Rattle.master_part.specs.Acts.{IsLawful}

pub used_are : (m : Master) (activity : List Interval) (slots : ℕ) (found : List ℕ) → IsLawful m → activity ≡ m.activity → slots ≡ m.slots
    → found ≡ used_from activity slots 1 → found ≡ rising (map {A = Interval} (λ i. i.slot) m.activity)
used_are m activity slots found lawful same count is =
    is
    ∙ ap (λ n. used_from activity n 1) count
    ∙ ap (λ (is : List Interval). used_from is m.slots 1) same
    ∙ sym (rising_used m.slots m.activity lawful.placed)
