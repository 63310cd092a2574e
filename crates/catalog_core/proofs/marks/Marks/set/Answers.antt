use Rattle.std.proofs.Common.{map, ap, ◌∙◌}
use Rattle.indexmap.specs.IndexMap.{insert_entry}
use Rattle.yb_ident.specs.contracts.ident.IdentPartialEq.TheImpl as ident
use Rattle.catalog_core.specs.Kept.{mark_entry, raised_to}
use Rattle.catalog_core.proofs.Entries.{mark_set}
use Rattle.catalog_core.proofs.marks.Marks.set.Goals as goal

pub returns-clause-items : goal.returns-clause-items
returns-clause-items c =
    let es = c.self.inside.entries.entries in
    let ns = c.args.namespace in
    let entries = rw c.unwrap.ensures at c.insert.ensures.entries in
    let mark = c.raised-from.ensures ∙ ap (λ o. raised_to o c.args.from) (c.copied.ensures ∙ c.get.ensures.value) in
    rw (← c.self.view_is)
    (ap (map mark_entry) (entries ∙ ap (λ v. insert_entry (ident.ghosts).eq es ns v) mark)
    ∙ mark_set _ c.keys_agree.ensures.laws c.keys_agree.ensures.idents c.keys_agree.ensures.equal es ns c.args.from)
