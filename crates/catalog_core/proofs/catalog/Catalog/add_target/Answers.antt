use Rattle.std.proofs.Common.{◌≡◌, true, sym, ap, ◌∙◌}
use Rattle.row_values.specs.Ids.{Id, same}
use Rattle.catalog_core.proofs.Cloned.{cloned_begin}
use Rattle.catalog_core.proofs.catalog.Catalog.add_target.Goals as goal

pub add_all-requires-clause-begin : goal.add_all-requires-clause-begin
add_all-requires-clause-begin c =
    let k = c.keys_agree.ensures in
    let target = rw (← c.self.view_is) at c.requires.target in
    let same_self : (a b : Id) → a ≡ b → same a b ≡ true = λ a b e. ap (same a) (sym e) ∙ sym (k.idents a a) ∙ k.laws.refl a in
    rw (target.1.1.1) (cloned_begin k.equal same_self _ target.0 c.args.namespace.from target.1.0 c.follow_in_turn.ensures.names)
