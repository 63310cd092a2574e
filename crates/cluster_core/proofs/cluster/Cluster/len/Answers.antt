use Rattle.std.proofs.Common.{◌∙◌, length, sym, ap}
use Rattle.step_table.specs.Histories.{history_of}
use Rattle.machine_laws.specs.Core.{core_of}
use Rattle.cluster_core.specs.Coding.{coding}
use Rattle.cluster_core.specs.Views.{ClusterView}
use Rattle.cluster_core.proofs.Booked.{book_length}
use Rattle.cluster_core.proofs.cluster.Cluster.len.Goals as goal

pub returns : goal.returns
returns g c = record { count = c.len.ensures.count ∙ sym (book_length (history_of (core_of coding) c.self.inside.line.parts)) ∙ ap (λ (v : ClusterView). length v.history) c.self.view_is }
