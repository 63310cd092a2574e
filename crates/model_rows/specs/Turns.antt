-- What comes once in a history, and which numbers it draws, told by tests, so that a row computes it.
use Rattle.std.specs.Prelude.{ℕ, Bool, true, List, [], ◌∷◌, ◌==◌, ◌&&◌, ◌+◌, not, length, false}
use Rattle.std.specs.List.{list_all}
use Rattle.row_values.specs.Ids.{Id, Kind, Namespace, Table, Tablet, Schedule, Snapshot, Restoration, Clone, same, same_kind}
use Rattle.model.specs.Tablets.{same_body}
use Rattle.model.specs.Acts.{Act, Reply}
use Rattle.model.specs.Parts.{Master}
use Rattle.model.specs.Entries.{Entry}
use Rattle.model.specs.History.{replay}
use Rattle.model.specs.Drawn.{drawn_of, drawn_by, named_by, new_ids, to_name}
use Rattle.model.specs.Once.{Obeyed}

-- whether the identifiers are the next of their kind, in turn
abbrev pub are_next : Kind → ℕ → List Id → Bool
are_next kind drawn [] = true
are_next kind drawn (id ∷ ids) =
    ((id.number == drawn + 1) && same_kind id.kind kind) && are_next kind (drawn + 1) ids

-- whether an entry draws so many of a kind, and gives just these
abbrev pub draws_next : Act → Reply → ℕ → Master → Master → Kind → Bool
draws_next act reply n before after kind =
    let drawn = drawn_of kind (drawn_by act reply n before) in
    let given = new_ids before after kind in
    (drawn_of kind after.drawn == drawn_of kind before.drawn + drawn)
    && ((length given == drawn) && are_next kind (drawn_of kind before.drawn) given)

abbrev pub all_kinds : List Kind
all_kinds = Namespace ∷ Table ∷ Tablet ∷ Schedule ∷ Snapshot ∷ Restoration ∷ Clone ∷ []

abbrev pub same_ids : List Id → List Id → Bool
same_ids [] [] = true
same_ids [] (b ∷ more) = false
same_ids (a ∷ ids) [] = false
same_ids (a ∷ ids) (b ∷ more) = same a b && same_ids ids more

-- whether it does of each kind, and names what it has to
abbrev pub all_draw_next : Act → Reply → ℕ → Master → Master → Bool
all_draw_next act reply n before after =
    list_all (draws_next act reply n before after) all_kinds
    && same_ids (named_by act reply after) (to_name act (new_ids before after))

abbrev pub draw_in_turn : ℕ → List Entry → Bool
draw_in_turn slots [] = true
draw_in_turn slots (e ∷ earlier) =
    draw_in_turn slots earlier
    && all_draw_next e.event.act e.reply e.stamp (replay slots earlier).master (replay slots (e ∷ earlier)).master

-- whether two tablets did something else, or are others
abbrev pub differ : Obeyed → Obeyed → Bool
differ o p = not
    ((o.operation.number == p.operation.number)
    && (same_kind o.operation.kind p.operation.kind
    && (same_body o.kind p.kind && (o.tablet.number == p.tablet.number))))

abbrev pub none_again : List Obeyed → Bool
none_again [] = true
none_again (o ∷ os) = none_again os && list_all (differ o) os
