use Rattle.std.proofs.Common.{List, Option, sym, ap, ap₂, ◌∙◌}
use Rattle.std.proofs.lemmas.Result.{IfOk-weaker}
use Rattle.row_values.specs.Ids.{Id}
use Rattle.model.specs.Coordination.{unfinished_restoration}
use Rattle.model.specs.Moves.{moving, waits_for, after_restoration}
use Rattle.model.specs.Records.{Listed, RestorationRecord, first_unacked}
use Rattle.master_moves.proofs.Restorings.{advance_is}
use Rattle.master_moves.proofs.restoring.decide_advance_restoration.Goals as goal

pub returns-in-Some-waits_for-clause-plan : goal.returns-in-Some-waits_for-clause-plan
returns-in-Some-waits_for-clause-plan c =
    let m = c.args.master.now.master in
    let id = c.args.operation.now in
    let r = c.in-Some.restoration.now in
    let next = after_restoration m r in
    let found = ap (λ (rs : List RestorationRecord). unfinished_restoration rs id) (sym c.restorations.ensures.restorations) ∙ sym c.in-Some.ensures.exact in
    let waits = c.in-Some-waits_for.ensures.exact
    ∙ ap₂ (λ (ls : List Listed) (a : Option Id). waits_for (first_unacked ls) a) c.listed_by_restoration.ensures.exact c.awaited_by_restoration-awaited.ensures.exact in
    λ ps is. c.waiting.ensures.plan ps.tablet id next
    ∙ ap (λ (w : Option Id). moving w id next) waits
    ∙ sym (advance_is m id r c.args.stamp ps is c.requires.kind found)

pub returns-clause-plan : goal.returns-clause-plan
returns-clause-plan c =
    let m = c.args.master.now.master in
    let id = c.args.operation.now in
    let r = c.in-Some.restoration.now in
    let next = after_restoration m r in
    let found = ap (λ (rs : List RestorationRecord). unfinished_restoration rs id) (sym c.restorations.ensures.restorations) ∙ sym c.in-Some.ensures.exact in
    let waits = c.in_default-waits_for.ensures.exact
    ∙ ap₂ (λ (ls : List Listed) (a : Option Id). waits_for (first_unacked ls) a) c.listed_by_restoration.ensures.exact c.awaited_by_restoration-awaited.ensures.exact in
    IfOk-weaker c.decide_move.result _ _
    (λ d plan ps is. plan ps.tablet
    ∙ ap (λ (w : Option Id). moving w id next) waits
    ∙ sym (advance_is m id r c.args.stamp ps is c.requires.kind found))
    c.decide_move.ensures.plan
