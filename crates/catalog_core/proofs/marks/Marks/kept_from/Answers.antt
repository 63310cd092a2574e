use Rattle.std.proofs.Common.{unwrap_or, ap, ◌∙◌}
use Rattle.catalog_core.proofs.Entries.{mark_here}
use Rattle.catalog_core.proofs.marks.Marks.kept_from.Goals as goal

pub returns-in-Some : goal.returns-in-Some
returns-in-Some c = rw (← c.self.view_is)
    (ap (λ o. unwrap_or o 0) c.in-Some.ensures.value
    ∙ mark_here _ c.keys_agree.ensures.laws c.keys_agree.ensures.idents c.self.inside.entries.entries c.args.namespace.now)

pub returns-in-None : goal.returns-in-None
returns-in-None c = rw (← c.self.view_is)
    (ap (λ o. unwrap_or o 0) c.in-None.ensures.value
    ∙ mark_here _ c.keys_agree.ensures.laws c.keys_agree.ensures.idents c.self.inside.entries.entries c.args.namespace.now)
