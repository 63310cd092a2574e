-- Free slots above one.
use Rattle.std.specs.Prelude.{ℕ, ◌+◌, ◌-◌, List, filter}
use Rattle.model.specs.Parts.{Master}
use Rattle.model.specs.Looks.{is_free, counting}

abbrev pub free_above : Master → ℕ → List ℕ
free_above m after = filter (is_free m) (counting (m.slots - after) (after + 1))
