-- By the lemmas on each act; what an act doesn't touch is left by the definition of what parts are told.
use Rattle.std.proofs.Common.{ap, cond}
use Rattle.model.specs.Tablets.{act_for, effect}
use Rattle.model.specs.History.{outcome, master_effect}
use Rattle.law_local.proofs.Agreement.{stamp_same}
use Rattle.law_local.proofs.Local.{outcome_same, told_agrees}
use Rattle.law_local.proofs.step_is_local.Goals as goal

pub returns : goal.returns
returns c = record {
  stamp = λ event p q agree. stamp_same event p q agree;
  outcome = λ act n p q agree. outcome_same act n p q agree;
  touched = λ act n p q agree. told_agrees act (outcome act n p) (outcome act n q) n p q (outcome_same act n p q agree) agree;
  others = λ act n slot p other. ap (λ b. cond b (effect (act_for (outcome act n p).tablets slot) n (p.tablet slot)) (p.tablet slot)) other;
  master = λ act n p other. ap (λ b. cond b (master_effect (outcome act n p).master n p.master) p.master) other;
}
