use Rattle.std.proofs.Common.{rules, sym, ap, ◌∙◌}
use denote.Enum.Bare.{same_true, same_false}
use Rattle.yb_ident.specs.contracts.kind.Kind.{the_type}
use Rattle.row_values.specs.Ids.{Id}
use Rattle.yb_ident.specs.Seen.{kind_of}
use Rattle.yb_ident.proofs.SameKinds.{kind_same}
use Rattle.yb_ident.specs.declared.ident.IdentRefused.{IdentRefused}
use Rattle.script_places.proofs.IdentWords.{ident_again, none_of_kind, none_refused}
use Rattle.script_places.proofs.identifiers.ident_of_text.Goals as goal

pub returns-then-eq : goal.returns-then-eq
returns-then-eq c =
    let seen = ap (λ (i : Id). i.kind) c.id.view_is in
    let same = same_true the_type (search rules) _ _ (sym c.eq.ensures ∙ c.if-eq.true) in
    record { exact = sym (ident_again (kind_of c.args.kind) c.in-Ok.id c.args.text.now (sym seen ∙ ap kind_of same, c.in-Ok.ensures.found)) }

pub returns-else-eq : goal.returns-else-eq
returns-else-eq c =
    let seen = ap (λ (i : Id). i.kind) c.id.view_is in
    let other = same_false the_type _ _ (sym c.eq.ensures ∙ c.if-eq.false) in
    record { exact = sym (none_of_kind IdentRefused (kind_of c.args.kind) c.args.text.now c.in-Ok.id c.in-Ok.ensures.only (λ same. other (kind_same _ _ (seen ∙ same)))) }

pub returns-in_default : goal.returns-in_default
returns-in_default c = record { exact = sym (none_refused (kind_of c.args.kind) c.args.text.now c.in_default.ensures.refused) }
