-- What the parts of a new table's slots get.
use Rattle.std.proofs.Common.{ℕ, ◌≡◌, ◌+◌, List, [], ◌∷◌, ◌++◌, map, ap, ◌∙◌, append_assoc}
use Rattle.std.proofs.lemmas.List.{map-append}
use Rattle.row_values.specs.Ids.{Id}
use Rattle.row_values.specs.Ranges.{share_from}
use Rattle.model.specs.Tablets.{Tablet, Make}
use Rattle.model.specs.Changed.{shares, next_tablet}
use Rattle.model.specs.Changes.{tell_made}
use Rattle.master_part.specs.Decisions.{told_by}
use Rattle.master_part.specs.declared.change.PartChange.{PartChange}

-- one slot's part more
pub made_next : (parts : ℕ → Tablet) (made : List PartChange) (c : PartChange) (slot : ℕ) (slots : List ℕ) (place count n drawn : ℕ) (table : Id)
    → told_by parts c ≡ record { slot = slot; act = Make (next_tablet drawn (place + 1)) table (share_from count place) (share_from count (place + 1)) 1 }
    → map (told_by parts) (made ++ c ∷ []) ++ tell_made (shares slots (place + 1) count n drawn table)
    ≡ map (told_by parts) made ++ tell_made (shares (slot ∷ slots) place count n drawn table)
made_next parts made c slot slots place count n drawn table told =
    ap (λ xs. xs ++ tell_made (shares slots (place + 1) count n drawn table)) (map-append (told_by parts) made (c ∷ []))
    ∙ append_assoc (map (told_by parts) made) (told_by parts c ∷ []) (tell_made (shares slots (place + 1) count n drawn table))
    ∙ ap (λ t. map (told_by parts) made ++ t ∷ tell_made (shares slots (place + 1) count n drawn table)) told
