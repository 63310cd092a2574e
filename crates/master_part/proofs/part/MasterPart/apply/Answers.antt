use Rattle.std.proofs.Common.{sym, ap, subst, ◌∙◌}
use Rattle.model.specs.History.{master_effect}
use Rattle.master_part.specs.Acts.{act_of, May}
use Rattle.master_part.specs.declared.act.MasterAct.{MasterAct}
use Rattle.master_part.proofs.part.MasterPart.apply.Goals as goal

pub returns-in-BeginsClone : goal.returns-in-BeginsClone
returns-in-BeginsClone c =
    let m = c.args.self.now.master in
    let found = c.in-BeginsClone in
    let may = subst (λ (a : MasterAct). May a c.args.stamp m) found.is c.requires.may in
    record {
      master = c.begin_clone.ensures.master found._namespace found._source found._target found._to may.1
          ∙ ap (λ (a : MasterAct). master_effect (act_of a) c.args.stamp m) (sym found.is);
    }
