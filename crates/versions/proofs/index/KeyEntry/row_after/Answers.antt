use Rattle.std.proofs.Common.{ap, ◌∙◌, ◌*◌, ◌/◌, arith}
use Rattle.std.specs.List.{slice_range}
use Rattle.std.proofs.lemmas.Result.{IfOk-weaker}
use Rattle.row_values.specs.Rows.{absent_row}
use Rattle.versions.specs.Indexed.{chosen, row_on}
use Rattle.versions.proofs.Marks.{row_marked, row_unmarked}
use Rattle.versions.proofs.index.KeyEntry.row_after.Goals as goal

pub returns-in-Some : goal.returns-in-Some
returns-in-Some c =
    let s = c.args.self.now in
    let log = c.args.log.now in
    let count = c.args.count in
    let times = count / 4 in
    let row = c.in-Some.row.now in
    IfOk-weaker c.row_from.result _ _
    (λ r e key h. e ∙ ap (λ ps. row_on row (chosen log (slice_range ps (times * 4) count))) c.as_slice-past.ensures.same
    ∙ row_marked log key s times count row h c.in-Some.ensures.0 c.in-Some.ensures.1 (grind arith)) c.row_from.ensures

pub returns-in-None : goal.returns-in-None
returns-in-None c =
    let s = c.args.self.now in
    let log = c.args.log.now in
    let count = c.args.count in
    IfOk-weaker c.row_from-in-None.result _ _
    (λ r e key h. e ∙ ap (λ b. row_on b (chosen log (slice_range c.as_slice-past.result.now 0 count))) c.absent.ensures
    ∙ ap (λ ps. row_on absent_row (chosen log (slice_range ps 0 count))) c.as_slice-past.ensures.same
    ∙ row_unmarked log key s count h) c.row_from-in-None.ensures
