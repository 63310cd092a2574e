use Rattle.machine_laws.proofs.Lawful.{held_replayed}
use Rattle.machine_laws.proofs.Stamps.{held_stamp, lay_meant}
use Rattle.machine_laws.proofs.held_parts_say_the_step.Goals as goal

pub returns : goal.returns
returns g c = record {
  stamp = λ e held kinds len. held_stamp e held kinds len;
  replayed = λ e held fits. held_replayed e held fits;
  meant = λ slots held. lay_meant g.C.ClusterCode.coding slots held;
}
