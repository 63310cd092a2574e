-- What a part keeps, as contracts see it, and the room that it has.
use Rattle.std.specs.Prelude.{ℕ, Bool, false}
use Rattle.machine_laws.specs.Views.{KeptView, OfMaster, OfTablet}
use Rattle.master_part.specs.View.{MasterView}
use Rattle.cluster_core.specs.declared.part.Kept.{Kept}
use Rattle.cluster_core.specs.declared.part.Kept.TheVariants as kept
use Rattle.cluster_core.specs.Tellings.{no_master}

abbrev pub kept_of : {V : Type 0} → Kept V → KeptView
kept_of (kept.Master m) = OfMaster m.master
kept_of (kept.Tablet t) = OfTablet t.tablet

abbrev pub versions_room : {V : Type 0} → Kept V → ℕ
versions_room (kept.Master m) = 0
versions_room (kept.Tablet t) = t.room

abbrev pub inbox_room : {V : Type 0} → Kept V → Bool
inbox_room (kept.Master m) = false
inbox_room (kept.Tablet t) = t.ready

-- the master's part says what it has room for
abbrev pub master_room : {V : Type 0} → Kept V → MasterView
master_room (kept.Master m) = m
master_room (kept.Tablet t) = no_master
