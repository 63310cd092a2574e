use Rattle.std.proofs.Common.{map, sym, ap, ◌∙◌}
use Rattle.std.specs.Map.{set_value}
use Rattle.yb_ident.specs.contracts.ident.IdentPartialEq.TheImpl as ident
use Rattle.catalog_core.specs.Kept.{mark_entry}
use Rattle.catalog_core.proofs.Entries.{mark_rises, mark_absent}
use Rattle.catalog_core.proofs.marks.Marks.raise.Goals as goal

pub returns-in_default-clause-items : goal.returns-in_default-clause-items
returns-in_default-clause-items c =
    let m = c.self.inside.entries in
    let none = sym (rw c.in_default.is at c.get_mut.ensures.value) in
    rw (← c.self.view_is)
    (rw c.get_mut.follows.holds-at-none
    (mark_absent _ c.keys_agree.ensures.laws c.keys_agree.ensures.idents m.entries c.args.namespace.now c.args.from none))

pub returns-clause-items : goal.returns-clause-items
returns-clause-items c =
    let m = c.self.inside.entries in
    let wrote = (c.get_mut.follows.holds c.later_of.result).0 in
    rw (← c.self.view_is)
    (ap (map mark_entry) (wrote ∙ ap (λ w. set_value ((ident.ghosts).eq c.args.namespace.now) m.entries w) c.later_of.ensures.value)
    ∙ mark_rises _ c.keys_agree.ensures.laws c.keys_agree.ensures.idents m.entries c.args.namespace.now c.args.from c.in-Some.mark.now
    c.get_mut.ensures.unique (sym c.in-Some.ensures.value))
