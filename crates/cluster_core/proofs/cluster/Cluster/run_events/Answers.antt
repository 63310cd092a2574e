use Rattle.std.proofs.Common.{rules, ◌≡◌, ◌++◌, ◌∷◌, [], ◌∙◌, length, map, sym, ap, subst}
use Rattle.std.specs.Vec.Iter.{into_iter_items}
use Rattle.std.proofs.lemmas.List.{length-map, map-append}
use Rattle.model.specs.History.{entry_of}
use Rattle.machine_laws.specs.Faults.{fault_after}
use Rattle.cluster_events.specs.SeenReplies.{reply_of}
use Rattle.cluster_core.specs.Causes.{RefusedBy}
use Rattle.cluster_core.proofs.Runs.{Running, next_running, is_stopped}
use Rattle.cluster_core.proofs.cluster.Cluster.run_events.Goals as goal

pub loop-event-preserved : goal.loop-event-preserved
loop-event-preserved g c =
    let slots = c.args.self.now.slots in
    let first = c.args.self.now.history in
    let history = c.loop-event.self.history in
    let replies = map reply_of c.loop-event.replies.items in
    let reply = reply_of c.into_reply.result in
    let left = into_iter_items c.next.new.self in
    let head : into_iter_items c.loop-event.event-iterator ≡ c.in-Some.event ∷ left = search rules in
    let pushed : c.push.new.self.items ≡ c.loop-event.replies.items ++ c.into_reply.result ∷ [] = search rules in
    let said : map reply_of c.push.new.self.items ≡ replies ++ reply ∷ [] = ap (map reply_of) pushed ∙ map-append reply_of c.loop-event.replies.items (c.into_reply.result ∷ []) in
    record {
      can_next = search rules;
      finite = search rules;
      slots = c.step.ensures.slots ∙ c.loop-event.invariant.slots;
      running =
          subst (λ rs. Running slots c.args.events first c.step.new.self.history rs left) (sym said)
          (next_running slots c.args.events first history replies c.step.new.self.history c.in-Some.event reply left
          (subst (Running slots c.args.events first history replies) head c.loop-event.invariant.running)
          (c.in-Ok-step.ensures.entry ∙ ap (λ n. entry_of n c.in-Some.event history ∷ history) c.loop-event.invariant.slots)
          (c.into_reply.ensures.reply ∙ c.in-Ok-step.ensures.reply ∙ ap (λ n. (entry_of n c.in-Some.event history).reply) c.loop-event.invariant.slots));
      room = search rules;
      legal = c.step.ensures.legal;
      parts = c.step.ensures.parts;
    }

pub returns-in-Err-clause-cause : goal.returns-in-Err-clause-cause
returns-in-Err-clause-cause g c =
    let slots = c.args.self.now.slots in
    let first = c.args.self.now.history in
    let history = c.loop-event.self.history in
    let replies = map reply_of c.loop-event.replies.items in
    let left = into_iter_items c.next.new.self in
    let head : into_iter_items c.loop-event.event-iterator ≡ c.in-Some.event ∷ left = search rules in
    let count : c.len-in-Err.result ≡ length c.loop-event.replies.items = search rules in
    let done : c.len-in-Err.result ≡ length replies = count ∙ sym (length-map c.loop-event.replies.items reply_of) in
    is_stopped slots c.args.events first history replies (record { done = c.len-in-Err.result; why = c.in-Err.why }) c.in-Some.event left
    (subst (Running slots c.args.events first history replies) head c.loop-event.invariant.running)
    done
    (subst (λ n. RefusedBy (fault_after n c.in-Some.event history) c.in-Err.why) c.loop-event.invariant.slots c.in-Err.ensures.cause)
