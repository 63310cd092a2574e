use Rattle.std.proofs.Common.{◌≡◌, ◌≤◌}
use Rattle.indexmap.specs.IndexMap.{spare}
use Rattle.catalog_core.proofs.Leaving.{risen_to}
use Rattle.catalog_core.proofs.marks.Marks.raise_all.Given as goal

abbrev pub invariant-loop-place : goal.invariant-loop-place
invariant-loop-place g l = record {
  risen : l.self-inside.entries.entries ≡ risen_to (g.W.Rises.risen l.walk) l.place l.initial.self-inside.entries.entries;
  kept : l.self-inside.room ≡ l.initial.self-inside.room;
  room : spare l.initial.self-inside.entries ≤ spare l.self-inside.entries;
}
