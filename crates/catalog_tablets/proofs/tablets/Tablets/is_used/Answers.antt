use Rattle.std.proofs.Common.{is_some, sym, ap, ◌∙◌, nat_lt}
use Rattle.kept_records.specs.Gathered.{present_of}
use Rattle.catalog_tablets.proofs.Counted.{used, last_used}
use Rattle.catalog_tablets.proofs.tablets.Tablets.is_used.Goals as goal

pub returns-in-Some : goal.returns-in-Some
returns-in-Some c =
    let is = present_of c.self.inside.intervals.items in
    let slot = c.args.slot in
    record { exact = rw (← c.self.view_is) (ap (nat_lt 0) (c.self.invariant.counted slot c.in-Some.count (sym c.get.ensures.exact ∙ c.in-Some.is)) ∙ used is slot) }

pub returns-in-None : goal.returns-in-None
returns-in-None c = record { exact = c.is_some.ensures ∙ ap is_some c.last_in.ensures.exact ∙ last_used _ c.args.slot }
