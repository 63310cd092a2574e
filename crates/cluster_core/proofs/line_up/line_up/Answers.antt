use Rattle.std.proofs.Common.{[], ◌∷◌, ◌++◌, ◌==◌, ap, drop, if◌then◌else◌, ◌∙◌, arith}
use Rattle.std.proofs.lemmas.Result.{IfOk-weaker}
use Rattle.step_table.specs.Helds.{slots_of}
use Rattle.cluster_core.specs.Tellings.{TellMaster}
use Rattle.cluster_core.specs.Plans.{tell_all}
use Rattle.cluster_core.proofs.Telling.{told_first}
use Rattle.cluster_core.proofs.line_up.line_up.Goals as goal

pub tablets_told-requires : goal.tablets_told-requires
tablets_told-requires g c =
    let exact = c.masters_in-masters.ensures.exact in
    record {
      rising = c.requires.rising;
      behind = omega (arith, exact);
    }

pub returns : goal.returns
returns g c =
    let a = c.args.master in
    let ts = c.args.tablets.items in
    let ks = slots_of c.args.held.now in
    record {
      told = IfOk-weaker c.tablets_told.result _ _
          (λ all told. told a
          ∙ ap (λ xs. xs ++ tell_all a ts (drop c.masters_in-masters.result ks)) c.in_ok-acts.ensures.told
          ∙ ap (λ n. (if n == 0 then [] else TellMaster a ∷ []) ++ tell_all a ts (drop n ks)) c.masters_in-masters.ensures.exact
          ∙ told_first a ts ks)
          c.tablets_told.ensures.told;
    }
