use Rattle.std.proofs.Common.{rules, ◌≡◌, ◌<◌, ◌^◌, map, length, ap, sym, subst, ◌∙◌, ◌++◌, ◌∷◌}
use Rattle.std.proofs.lemmas.List.{length-map}
use Rattle.row_values.specs.Elements.{AllOf}
use Rattle.model.specs.Acts.{Look}
use Rattle.model.specs.Entries.{ActAsked}
use Rattle.model.specs.History.{Legal}
use Rattle.model_runs.specs.Courses.{found_by}
use Rattle.model_runs.specs.Running.{reply_line, columns_in}
use Rattle.commands.specs.Seen.{ask_of}
use Rattle.cluster_events.specs.SeenActs.{act_of}
use Rattle.script_courses.specs.SeenCourses.{follow_of, showing_of}
use Rattle.script_runs.specs.declared.stop.Stop.TheVariants.{NoMemory}
use Rattle.script_runs.specs.Runs.{RunState, entry_under}
use Rattle.script_runs.specs.Shown.{shown_by, last_of}
use Rattle.script_runs.proofs.Going.{handed_on}
use Rattle.script_runs.proofs.Asking.{FollowsFew, follow_asked, follow_few}
use Rattle.script_runs.proofs.Looking.{Looked, first_err, acts_err, look_done, untold, told_is}
use Rattle.script_runs.proofs.run.ScriptRun.look.Goals as goal

pub returns-in_err-look-clause-came : goal.returns-in_err-look-clause-came
returns-in_err-look-clause-came g c =
    handed_on c.from_residual.result c.in_err-look.field-0.0 _ _ _ c.from_residual.ensures.1
    (first_err c.in_err-look.field-0.0 c.args.self.now c.perform_act.new.self (ask_of c.args.ask) (follow_of c.args.follow) (showing_of c.args.showing) c.in_err-look.ensures.kept c.in_err-look.ensures.came)

pub returns-in_err-acts-clause-came : goal.returns-in_err-acts-clause-came
returns-in_err-acts-clause-came g c =
    handed_on c.from_residual-in_err-acts.result NoMemory _ _ _ c.from_residual-in_err-acts.ensures.1
    (look_done c.args.self.now c.perform_act.new.self (ask_of c.args.ask) (follow_of c.args.follow) (showing_of c.args.showing) c.perform_act.ensures.slots c.in_ok-look.ensures.entry.history c.in_ok-look.ensures.came)

pub perform_all-requires : goal.perform_all-requires
perform_all-requires g c =
    let ask = ask_of c.args.ask in
    let follow = follow_of c.args.follow in
    let showing = showing_of c.args.showing in
    let old = c.args.self.now in
    let mid = c.perform_act.new.self in
    let are = c.in_ok-acts.ensures.exact ∙ ap (λ r. follow (found_by r)) (c.reply_in.ensures.reply ∙ c.in_ok-look.ensures.entry.reply) in
    let less = subst (λ (s : RunState). s.reading < 2 ^ 50) c.self.view_is c.self.invariant.reading in
    let legal = subst (λ n. Legal n (entry_under (Look ask) old ∷ old.history)) c.perform_act.ensures.slots (subst (Legal mid.slots) c.in_ok-look.ensures.entry.history c.perform_act.ensures.legal) in
    record {
      asked = subst (λ n. AllOf (ActAsked n) (map act_of c.in_ok-acts.acts.items)) (sym c.perform_act.ensures.slots)
          (subst (AllOf (ActAsked old.slots)) (sym are) (follow_asked old ask follow showing c.requires.course less legal));
    }

pub returns-in_err-newest-clause-came : goal.returns-in_err-newest-clause-came
returns-in_err-newest-clause-came g c =
    let ask = ask_of c.args.ask in
    let follow = follow_of c.args.follow in
    let showing = showing_of c.args.showing in
    let old = c.args.self.now in
    let mid = c.perform_act.new.self in
    let k : Looked old mid ask follow (map act_of c.in_ok-acts.acts.items) = record { slots = c.perform_act.ensures.slots; history = c.in_ok-look.ensures.entry.history; goes = c.in_ok-look.ensures.came; acts_are = c.in_ok-acts.ensures.exact ∙ ap (λ r. follow (found_by r)) (c.reply_in.ensures.reply ∙ c.in_ok-look.ensures.entry.reply) } in
    handed_on c.from_residual-in_err-newest.result c.in_err-newest.field-0.0 _ _ _ c.from_residual-in_err-newest.ensures.1
    (acts_err c.in_err-newest.field-0.0 old mid c.perform_all.new.self ask follow showing (map act_of c.in_ok-acts.acts.items) k c.in_err-newest.ensures.came)

pub returns-in_err-tell_look_line-clause-came : goal.returns-in_err-tell_look_line-clause-came
returns-in_err-tell_look_line-clause-came g c =
    let ask = ask_of c.args.ask in
    let follow = follow_of c.args.follow in
    let showing = showing_of c.args.showing in
    let old = c.args.self.now in
    let mid = c.perform_act.new.self in
    let k : Looked old mid ask follow (map act_of c.in_ok-acts.acts.items) = record { slots = c.perform_act.ensures.slots; history = c.in_ok-look.ensures.entry.history; goes = c.in_ok-look.ensures.came; acts_are = c.in_ok-acts.ensures.exact ∙ ap (λ r. follow (found_by r)) (c.reply_in.ensures.reply ∙ c.in_ok-look.ensures.entry.reply) } in
    handed_on c.from_residual-in_err-tell_look_line.result NoMemory _ _ _ c.from_residual-in_err-tell_look_line.ensures.1
    (untold old mid c.perform_all.new.self ask follow showing (map act_of c.in_ok-acts.acts.items) c.in_ok-newest.newest (length c.in_ok-acts.acts.items) k c.in_ok-newest.ensures.came c.in_ok-newest.ensures.grown)

pub returns-clause-wrote : goal.returns-clause-wrote
returns-clause-wrote g c =
    let ask = ask_of c.args.ask in
    let follow = follow_of c.args.follow in
    let showing = showing_of c.args.showing in
    let old = c.args.self.now in
    let mid = c.perform_act.new.self in
    let k : Looked old mid ask follow (map act_of c.in_ok-acts.acts.items) = record { slots = c.perform_act.ensures.slots; history = c.in_ok-look.ensures.entry.history; goes = c.in_ok-look.ensures.came; acts_are = c.in_ok-acts.ensures.exact ∙ ap (λ r. follow (found_by r)) (c.reply_in.ensures.reply ∙ c.in_ok-look.ensures.entry.reply) } in
    let few = follow_few old.slots old.reading ask follow showing (found_by (entry_under (Look ask) old).reply) c.requires.course in
    let long = length-map c.in_ok-acts.acts.items act_of in
    let fits : FollowsFew showing (length c.in_ok-acts.acts.items) = subst (FollowsFew showing) long (subst (λ l. FollowsFew showing (length l)) (sym k.acts_are) few) in
    let told = told_is old mid c.perform_all.new.self ask follow showing (map act_of c.in_ok-acts.acts.items) c.in_ok-newest.newest (length c.in_ok-acts.acts.items) c.in_ok-look.look k c.in_ok-newest.ensures.grown c.in_ok-look.ensures.entry.stamp c.in_ok-look.ensures.entry.reply fits in
    let columns = c.columns_placed-columns.ensures.exact ∙ ap (λ r. columns_in (found_by r)) c.reply_in-2.ensures.reply in
    let counted : c.len-count.result ≡ length c.in_ok-acts.acts.items = search rules in
    c.in_ok-tell_look_line.ensures.added
    ∙ ap (λ k. c.args.text.now ++ reply_line c.args.line (shown_by showing k c.last_of.result.now c.len-count.result)) columns
    ∙ ap (λ a. c.args.text.now ++ reply_line c.args.line (shown_by showing (columns_in (found_by c.in_ok-look.look.reply)) a c.len-count.result)) c.last_of.ensures.answer
    ∙ ap (λ n. c.args.text.now ++ reply_line c.args.line (shown_by showing (columns_in (found_by c.in_ok-look.look.reply)) (last_of c.in_ok-newest.newest c.in_ok-look.look) n)) counted
    ∙ ap (λ text. c.args.text.now ++ reply_line c.args.line text) told
