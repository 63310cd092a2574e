use Rattle.std.proofs.Common.{is_some, sym, ap, ◌∙◌}
use Rattle.indexmap.specs.IndexMap.{get}
use Rattle.yb_ident.specs.contracts.ident.IdentPartialEq.TheImpl as ident
use Rattle.catalog_core.specs.Kept.{count_in}
use Rattle.catalog_core.proofs.Counts.{counts_clear, counts_clear_none}
use Rattle.catalog_core.proofs.tables.clear_count.Goals as goal

pub returns-in_default-clause-counted : goal.returns-in_default-clause-counted
returns-in_default-clause-counted c = λ ns.
    let eq = (ident.ghosts).eq in
    let none = sym (rw c.in_default.is at c.get_mut.ensures.value) in
    ap (λ m. count_in eq m ns) c.get_mut.follows.holds-at-none
    ∙ counts_clear_none (λ q. get eq c.args.counts.now q) c.keys_agree.ensures.equal c.args.namespace.now ns none

pub returns-clause-counted : goal.returns-clause-counted
returns-clause-counted c = λ ns.
    let eq = (ident.ghosts).eq in
    let there = sym (ap is_some c.in-Some.ensures.value) in
    let updates = (c.get_mut.follows.holds 0).3 there in
    counts_clear eq c.keys_agree.ensures.idents (λ q. get eq c.args.counts.now q) (λ q. get eq (c.get_mut.follows.lender 0) q) c.args.namespace.now (λ q. updates.0 q) ns
