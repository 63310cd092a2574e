use Rattle.master_acts.proofs.Looking.{present_is}
use Rattle.master_acts.proofs.looks.look_present.Goals as goal

pub returns : goal.returns
returns c = record {
  plan = present_is c.args.master.now.master c.tablets-tablets.result.now.activity c.slots.result c.in_ok-slots.slots c.requires.lawful
      c.tablets-tablets.ensures.activity c.slots.ensures.slots c.in_ok-slots.ensures.exact;
}
