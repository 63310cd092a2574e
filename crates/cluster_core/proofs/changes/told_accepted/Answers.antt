use Rattle.std.proofs.Common.{List, ap}
use Rattle.model.specs.Tablets.{Told}
use Rattle.model.specs.Parts.{Outcome}
use Rattle.cluster_events.specs.SeenReplies.{reply_of}
use Rattle.master_part.specs.Acts.{act_of}
use Rattle.cluster_core.specs.Held.{laid}
use Rattle.cluster_core.proofs.changes.told_accepted.Goals as goal

pub returns : goal.returns
returns g c = record {
  plan = record {
    outcome = ap (λ (ts : List Told). let o : Outcome = record { master = act_of c.args.told; tablets = ts; reply = reply_of c.args.reply } in o) c.in_ok-tablets.ensures.told;
    suits = c.in_ok-tablets.ensures.suits (laid c.args.held.now).tablet;
    may = c.requires.may;
  };
}
