-- What a tablet's part is told, as contracts see it.
use Rattle.tablet_acts.specs.declared.told.TabletTold.{TabletTold}
use Rattle.tablet_acts.specs.declared.told.TabletTold.TheVariants as told
use Rattle.tablet_acts.specs.Tellings.{Telling, Ticks, Makes, MakesChild, Sets, Hides, Writes, Raises, Compacts, Offers, Processes, Clears, DropsFrozen, Restarts}

abbrev pub telling_of : {V : Type 0} → TabletTold V → Telling
telling_of told.Clock = Ticks
telling_of (told.Make tablet table range version store) = Makes tablet table range.low range.high version store
telling_of (told.MakeChild tablet table range version store) =
    MakesChild tablet table range.low range.high version store
telling_of (told.SetVersion version) = Sets version
telling_of (told.Hide ended) = Hides ended
telling_of (told.Write batch) = Writes batch
telling_of (told.RaiseCutoff to) = Raises to
telling_of (told.Compact store) = Compacts store
telling_of (told.Offer command) = Offers command
telling_of (told.Process command store) = Processes command store
telling_of (told.Clear store) = Clears store
telling_of (told.DropFrozen snapshot) = DropsFrozen snapshot
telling_of told.Restart = Restarts
