use Rattle.std.proofs.Common.{ap, ◌∙◌}
use Rattle.std.specs.Option.{unwrap_or}
use Rattle.indexmap.specs.IndexMap.{get}
use Rattle.yb_ident.specs.contracts.ident.IdentPartialEq.TheImpl as ident
use Rattle.catalog_core.proofs.Counts.{counts_up}
use Rattle.catalog_core.proofs.tables.raise_count.Goals as goal

pub returns-clause-counted : goal.returns-clause-counted
returns-clause-counted c =
    let k = c.keys_agree.ensures in
    let updates = rw c.unwrap.ensures at c.insert.ensures.updates in
    counts_up (ident.ghosts).eq k.idents k.equal (λ q. get (ident.ghosts).eq c.args.counts.now q) (λ q. get (ident.ghosts).eq c.insert.new.self q) c.args.namespace c.unwrap_or-count.result
    (c.unwrap_or-count.ensures ∙ ap (λ o. unwrap_or o 0) (c.copied.ensures ∙ c.get.ensures.value)) (λ q. updates.0 q)
