use Rattle.std.proofs.Common.{◌≡◌, drop}
use Rattle.script_places.specs.Counts.{fits}
use Rattle.script_places.proofs.place.fits.Given as goal

abbrev pub invariant-loop-place : goal.invariant-loop-place
invariant-loop-place l = fits (drop l.place-index l.places) l.rest ≡ fits l.places l.words
