-- Why something stays, as the book's refusal.
use Rattle.model.specs.Acts.{Refusal, InWindow, IsListed}
use Rattle.retention_rules.specs.declared.kept.Kept.{Kept}
use Rattle.retention_rules.specs.declared.kept.Kept.TheVariants as why

abbrev pub refusal_of : Kept → Refusal
refusal_of (why.InWindow at floor) = InWindow at floor
refusal_of (why.Listed by) = IsListed by
