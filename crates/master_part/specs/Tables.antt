-- The table of the least number.
use Rattle.std.specs.Prelude.{◌&&◌, nat_lt, Option, Some, None, if◌then◌else◌}
use Rattle.row_values.specs.Ids.{Id, same}
use Rattle.model.specs.Times.{is_open}
use Rattle.model.specs.Catalog.{TableRecord}

-- the identifier with the less number, or else what was found later
abbrev pub lesser : Id → Option Id → Option Id
lesser id None = Some id
lesser id (Some later) = if nat_lt id.number later.number then Some id else Some later

-- a record counts where it is current in the namespace
abbrev pub lesser_in : Id → TableRecord → Option Id → Option Id
lesser_in ns r later = if is_open r.to && same r.namespace ns then lesser r.id later else later
