use Rattle.std.proofs.Common.{ap, ◌∙◌}
use Rattle.std.specs.Option.{unwrap_or}
use Rattle.catalog_core.proofs.tables.Tables.count.Goals as goal

pub returns-in-Some : goal.returns-in-Some
returns-in-Some c = rw (← c.self.view_is) (ap (λ o. unwrap_or o 0) c.in-Some.ensures.value ∙ c.self.invariant.counted c.args.namespace.now)

pub returns-in-None : goal.returns-in-None
returns-in-None c = rw (← c.self.view_is) (ap (λ o. unwrap_or o 0) c.in-None.ensures.value ∙ c.self.invariant.counted c.args.namespace.now)
