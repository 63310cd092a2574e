use Rattle.std.proofs.Common.{Some, None, sym, ap, ◌∙◌}
use Rattle.std.proofs.lemmas.Result.{IfOk-weaker}
use Rattle.model.specs.Acts as acts
use Rattle.model_runs.specs.Courses as book
use Rattle.model_runs.specs.Courses.{key_alone, write_into, read_places}
use Rattle.commands.specs.Scripts.{script_command_of}
use Rattle.script_courses.proofs.courses.course_of.Goals as goal

pub returns-in_ok-one_item-in-Put : goal.returns-in_ok-one_item-in-Put
returns-in_ok-one_item-in-Put c =
    let p = c.in-Put in record {
      exact = IfOk-weaker c.write_rows.result _ _
          (λ made seen. seen c.args.reading
          ∙ ap (λ batch. book.LookFor (acts.AskKeys p.namespace p.table batch None) (write_into batch) book.ShowReply) c.in_ok-one_item-in-Put.ensures.exact
          ∙ sym (ap (λ k. book.course_of c.args.reading (script_command_of k)) p.is))
          c.write_rows.ensures.exact;
    }

pub returns-in_ok-one_item-in-Delete : goal.returns-in_ok-one_item-in-Delete
returns-in_ok-one_item-in-Delete c =
    let p = c.in-Delete in record {
      exact = IfOk-weaker c.write_rows-in-Delete.result _ _
          (λ made seen. seen c.args.reading
          ∙ ap (λ batch. book.LookFor (acts.AskKeys p.namespace p.table batch None) (write_into batch) book.ShowReply) c.in_ok-one_item-in-Delete.ensures.exact
          ∙ sym (ap (λ k. book.course_of c.args.reading (script_command_of k)) p.is))
          c.write_rows-in-Delete.ensures.exact;
    }

pub returns-in-GetAt : goal.returns-in-GetAt
returns-in-GetAt c =
    let p = c.in-GetAt in record {
      exact = IfOk-weaker c.read_row-in-GetAt.result _ _
          (λ made seen. seen c.args.reading
          ∙ ap (λ at. book.LookFor (acts.AskKeys p.namespace p.table (key_alone p.key) (Some at)) (read_places (Some p.key) (Some at)) book.ShowRow) c.time_at.ensures.exact
          ∙ sym (ap (λ k. book.course_of c.args.reading (script_command_of k)) p.is))
          c.read_row-in-GetAt.ensures.exact;
    }
