use Rattle.std.proofs.Common.{◌≡◌, ◌++◌, map, drop}
use Rattle.master_moves.specs.Switches.{line_with}
use Rattle.master_moves.proofs.switching.lines.Given as goal

abbrev pub invariant-loop-interval : goal.invariant-loop-interval
invariant-loop-interval l =
    l.listed ++ map (line_with l.to l.point l.serving l.tables) (drop l.interval-index l.intervals)
    ≡ map (line_with l.to l.point l.serving l.tables) l.intervals
