-- What parts are told, and what they need for it.
use Rattle.std.specs.Prelude.{ℕ, false}
use Rattle.model.specs.Parts.{empty_master}
use Rattle.machine_laws.specs.Views.{KeptView, OfMaster, OfTablet, PartView, PartAct, ForMaster, ForTablet, clock_of}
use Rattle.master_part.specs.declared.act.MasterAct.{MasterAct}
use Rattle.master_part.specs.Acts as master
use Rattle.master_part.specs.Acts.{act_of, May}
use Rattle.master_part.specs.View.{MasterView}
use Rattle.tablet_acts.specs.Tellings.{Telling, act_told, Suits, HasRoom}
use Rattle.cluster_core.specs.declared.room.PartRoom.{PartRoom}

pub data PartTelling : Type 0 where
  TellMaster : (act : MasterAct) → PartTelling
  TellTablet : (telling : Telling) → PartTelling

abbrev pub part_act : PartTelling → PartAct
part_act (TellMaster act) = ForMaster (act_of act)
part_act (TellTablet telling) = ForTablet (act_told telling)

abbrev pub IsMaster : KeptView → Type 0
IsMaster (OfMaster m) = Unit {0}
IsMaster (OfTablet t) = ⊥

abbrev pub IsTablet : KeptView → Type 0
IsTablet (OfMaster m) = ⊥
IsTablet (OfTablet t) = Unit {0}

-- the part may be told this at a stamp
abbrev pub ActFits : PartTelling → ℕ → KeptView → Type 0
ActFits (TellMaster act) n (OfMaster m) = May act n m
ActFits (TellMaster act) n (OfTablet t) = ⊥
ActFits (TellTablet telling) n (OfMaster m) = ⊥
ActFits (TellTablet telling) n (OfTablet t) = Suits telling n t

abbrev pub ActHasRoom : PartTelling → PartRoom → Type 0
ActHasRoom (TellMaster act) room = master.HasRoom act room.master
ActHasRoom (TellTablet telling) room = HasRoom telling room.versions room.inbox

-- a master's part without room
abbrev pub no_master : MasterView
no_master = record {
  master = empty_master 0;
  catalog_room = 0;
  activity_room = 0;
  schedule_room = 0;
  scheduled_room = 0;
  sent_room = 0;
  snapshot_room = 0;
  restoration_room = 0;
  clone_room = 0;
}

abbrev pub no_room : PartRoom
no_room = record { log = 0; versions = 0; inbox = false; master = no_master }

-- a part's room means nothing
abbrev pub meaning : PartView PartRoom → PartView PartRoom
meaning p = record p { room = no_room }

abbrev pub clock_in : PartView PartRoom → ℕ
clock_in p = clock_of p.kept
