use Rattle.std.proofs.Common.{◌+◌, ◌≤◌, ◌++◌, ◌∷◌, drop, sym, ap, ◌∙◌, append_assoc, arith}
use Rattle.step_table.specs.Helds.{slots_of}
use Rattle.cluster_core.specs.SeenTold.{tellings_of}
use Rattle.cluster_core.specs.Plans.{tell_all, masters_in}
use Rattle.cluster_core.specs.Tellings.{TellTablet}
use Rattle.cluster_core.proofs.Telling.{told_more, told_snoc}
use Rattle.cluster_core.proofs.line_up.tablets_told.Goals as goal

pub loop-i-preserved : goal.loop-i-preserved
loop-i-preserved g c =
    let ks = slots_of c.args.held.now in
    let acts = c.loop-i.acts.items in
    let ts = c.loop-i.tablets.items in
    let us = c.take_act.new.tablets.items in
    let first = c.loop-i.invariant.first in
    let behind = c.requires.behind in
    let past : masters_in ks ≤ c.loop-i.i = omega (arith, first, behind) in
    record {
      first = omega (arith, first);
      told = λ m.
          let rest = tell_all m us (drop (c.loop-i.i + 1) ks) in
          let next = told_more m ts us c.loop-i.i ks c.slot.result c.requires.rising past c.slot.ensures.slot c.take_act.ensures.others in
          ap (λ xs. tellings_of xs ++ rest) c.in_ok-push.ensures.items
          ∙ ap (λ xs. xs ++ rest) (told_snoc acts _)
          ∙ append_assoc (tellings_of acts) _ rest
          ∙ ap (λ x. tellings_of acts ++ TellTablet x ∷ rest) c.take_act.ensures.told
          ∙ ap (λ xs. tellings_of acts ++ xs) (sym next)
          ∙ c.loop-i.invariant.told m;
    }
