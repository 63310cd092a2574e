use Rattle.std.proofs.Common.{sym, true≢false}
use Rattle.yb_ident.specs.Layout.{layout}
use Rattle.yb_ident.proofs.ident.Ident.read.Goals as goal

pub returns-in_default-clause-only : goal.returns-in_default-clause-only
returns-in_default-clause-only c = λ i reads. absurd (true≢false (sym (c.in_default.ensures.ok.1 (layout i, reads.1))))

pub returns-in_default-clause-refused : goal.returns-in_default-clause-refused
returns-in_default-clause-refused c = λ i is same. true≢false (sym (c.in_default.ensures.ok.1 (layout i, same)))
