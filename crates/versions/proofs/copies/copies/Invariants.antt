use Rattle.std.proofs.Common.{◌≡◌, map, take}
use Rattle.versions.proofs.copies.copies.Given as goal

abbrev pub invariant-loop-version : goal.invariant-loop-version
invariant-loop-version l = l.all ≡ map (λ v. v.now) (take l.version-index l.versions)
