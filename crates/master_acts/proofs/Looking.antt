-- What a look for present tablets answers, by the used slots.
use Rattle.std.proofs.Common.{ℕ, ◌≡◌, List, sym, ap, ◌∙◌}
use Rattle.model.specs.Activity.{Interval}
use Rattle.model.specs.Acts.{Present}
use Rattle.model.specs.Parts.{Master, answered}
use Rattle.model.specs.Looks.{look_present}
use Rattle.catalog_tablets.specs.Slots.{used_from}
use Rattle.catalog_tablets.proofs.Rising.{rising_used}
use Rattle.master_part.specs.Acts.{IsLawful}

pub present_is : (m : Master) (activity : List Interval) (slots : ℕ) (found : List ℕ) → IsLawful m → activity ≡ m.activity → slots ≡ m.slots
    → found ≡ used_from activity slots 1 → look_present m ≡ answered (Present found)
unfolding look_present
present_is m activity slots found lawful same count is =
    ap (λ (ss : List ℕ). answered (Present ss))
    (rising_used m.slots m.activity lawful.placed
    ∙ sym (is ∙ ap (λ n. used_from activity n 1) count ∙ ap (λ (is : List Interval). used_from is m.slots 1) same))
