use Rattle.std.proofs.Common.{◌≡◌, ◌∙◌, ap, sym, refl, true≢false}
use Rattle.std.proofs.lemmas.Slice.Eq.{bytes_eq-Decides}
use Rattle.yb_ident.specs.Seen.{kind_of, kind_from}
use Rattle.yb_ident.proofs.SameKinds.{kind_back}
use Rattle.yb_ident.proofs.Numbers.{number_back}
use Rattle.yb_ident.proofs.ident.of_bytes.Goals as goal

pub returns-else-eq-clause-only : goal.returns-else-eq-clause-only
returns-else-eq-clause-only c = λ i is same.
    let number : c.from_be_bytes-number.result ≡ i.number = rw (c.from_be_bytes-number.ensures, same) (number_back i.number is.1) in
    let found : c.in-Some.kind ≡ kind_from i.kind = cc (c.in-Some.ensures.only i.kind (rw same refl)) in
    let kind : kind_of c.in-Some.kind ≡ i.kind = ap kind_of found ∙ kind_back i.kind in
    let whole : c.bytes.result ≡ c.args.bytes = rw (c.bytes.ensures.exact, number, kind) (sym same) in
    absurd (true≢false (sym ((bytes_eq-Decides c.bytes.result c.args.bytes).1 whole) ∙ sym c.eq.ensures ∙ c.if-eq.false))
