use Rattle.machine_laws.proofs.Lawful.{lawful}
use Rattle.machine_laws.proofs.cluster_is_a_machine.Goals as goal

pub returns : goal.returns
returns g c = record { lawful = lawful g.C.ClusterCode.coding }
