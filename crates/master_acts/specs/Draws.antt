-- How many identifiers a clone draws.
use Rattle.std.specs.Prelude.{ℕ, ◌<◌, ◌+◌, length}
use Rattle.row_values.specs.Ids.{Id, id_bound}
use Rattle.model.specs.Catalog.{tables_at}
use Rattle.model.specs.Parts.{Master}
use Rattle.model.specs.Changed.{sources}

-- few for the tables and the tablets of a namespace at a time
pub record DrawsFew (ns : Id) (to : ℕ) (m : Master) : Type 0 where
  pub tables : m.drawn.tables + length (tables_at m.catalog.tables ns to) < id_bound
  pub tablets : m.drawn.tablets + length (sources m ns to) < id_bound
