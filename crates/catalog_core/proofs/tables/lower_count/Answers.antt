use Rattle.std.proofs.Common.{◌≡◌, ◌-◌, is_some, sym, ap, ◌∙◌, arith}
use Rattle.indexmap.specs.IndexMap.{get}
use Rattle.yb_ident.specs.contracts.ident.IdentPartialEq.TheImpl as ident
use Rattle.catalog_core.specs.Kept.{count_in, one_if, is_named}
use Rattle.catalog_core.proofs.Counts.{counts_down, counts_none}
use Rattle.catalog_core.proofs.tables.lower_count.Goals as goal

pub returns-in_default-clause-counted : goal.returns-in_default-clause-counted
returns-in_default-clause-counted c = λ ns.
    let none : one_if (is_named c.args.namespace ns) ≡ 0 = ap (λ o. one_if (is_named o ns)) c.in_default.is in
    omega (arith, none)

pub returns-in_default-get_mut-clause-counted : goal.returns-in_default-get_mut-clause-counted
returns-in_default-get_mut-clause-counted c = λ ns.
    let eq = (ident.ghosts).eq in
    let none = sym (rw c.in_default-get_mut.is at c.get_mut.ensures.value) in
    ap (λ m. count_in eq m ns) c.get_mut.follows.holds-at-none
    ∙ counts_none (λ q. get eq c.args.counts.now q) c.keys_agree.ensures.equal c.in-Some.namespace ns none
    ∙ ap (λ o. count_in eq c.args.counts.now ns - one_if (is_named o ns)) (sym c.in-Some.is)

pub returns-clause-counted : goal.returns-clause-counted
returns-clause-counted c = λ ns.
    let eq = (ident.ghosts).eq in
    let k = c.keys_agree.ensures in
    let w = c.saturating_sub.result in
    let there = sym (ap is_some c.in-Some-get_mut.ensures.value) in
    let updates = (c.get_mut.follows.holds w).3 there in
    counts_down eq k.idents k.equal (λ q. get eq c.args.counts.now q) (λ q. get eq (c.get_mut.follows.lender w) q) c.in-Some.namespace c.in-Some-get_mut.count.now w
    c.in-Some-get_mut.ensures.value c.saturating_sub.ensures (λ q. updates.0 q) ns
    ∙ ap (λ o. count_in eq c.args.counts.now ns - one_if (is_named o ns)) (sym c.in-Some.is)
