use Rattle.std.proofs.Common.{ℕ, ◌≡◌, ◌++◌, map, drop, length}
use Rattle.model.specs.Tablets.{Tablet}
use Rattle.model.specs.Changes.{tell_made}
use Rattle.model.specs.Changed.{shares}
use Rattle.master_part.specs.Decisions.{told_by}
use Rattle.master_acts.proofs.decide.tablets_made.Given as goal

abbrev pub invariant-loop-slot : goal.invariant-loop-slot
invariant-loop-slot l = record {
  made : (parts : ℕ → Tablet) (n : ℕ)
      → map (told_by parts) l.made
      ++ tell_made (shares (drop l.slot-index l.slots) l.place (length l.slots) n l.drawn l.table)
      ≡ tell_made (shares l.slots 0 (length l.slots) n l.drawn l.table);
  place : l.place ≡ l.slot-index;
}
