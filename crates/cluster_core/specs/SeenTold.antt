-- What a part is told, as contracts see it.
use Rattle.std.specs.Prelude.{List, [], ◌∷◌}
use Rattle.tablet_acts.specs.Seen.{telling_of}
use Rattle.cluster_core.specs.declared.part.PartTold.{PartTold}
use Rattle.cluster_core.specs.declared.part.PartTold.TheVariants as told
use Rattle.cluster_core.specs.Tellings.{PartTelling, TellMaster, TellTablet}

abbrev pub part_telling : {V : Type 0} → PartTold V → PartTelling
part_telling (told.Master act) = TellMaster act
part_telling (told.Tablet tablet) = TellTablet (telling_of tablet)

abbrev pub tellings_of : {V : Type 0} → List (PartTold V) → List PartTelling
tellings_of [] = []
tellings_of (t ∷ ts) = part_telling t ∷ tellings_of ts
