use Rattle.std.proofs.Common.{rules}
use Rattle.std.proofs.lemmas.Fn.{filter_same}
use Rattle.catalog_core.proofs.keeping.retain.Goals as goal

pub returns-clause-items : goal.returns-clause-items
returns-clause-items g c = filter_same _ (λ r. g.T.Keeps.stays c.args.test.now r) _ (λ x b f' k. search rules) _ _ c.retain.ensures.filtered
