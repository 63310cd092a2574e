use Rattle.std.proofs.Common.{map, arith, ap, refl, sym, subst, ◌∙◌, Some}
use Rattle.std.specs.Option.{IsSome}
use Rattle.step_table.proofs.Keeps.{takes_lock, same_head, first_and_rest, moved_out}
use Rattle.step_table.proofs.steps.take_part.Goals as goal

pub compare_exchange-found-requires : goal.compare_exchange-found-requires
compare_exchange-found-requires g c = let v = c.requires.view in let t = c.requires.table in (
  t.0,
  omega arith,
  takes_lock g.M.Machine.core (map g.M.Machine.core.meaning c.args.top.now.key.value) g.N.Announced.event c.args.top.now.table_id.slots c.args.seat.now.id c.args.slot _ c.args.seat.now.me (omega arith) v.0 t.2 v.1 v.2 v.3,
)

pub returns-then-found-ne0-clause-none : goal.returns-then-found-ne0-clause-none
returns-then-found-ne0-clause-none g c = (c.compare_exchange-found.ensures.2 c.args.slot (omega arith)).1 c.if-found-ne0.true

pub exchange-requires : goal.exchange-requires
exchange-requires g c =
    let h = (c.compare_exchange-found.ensures.2 c.args.slot (omega arith)).0 c.if-found-ne0.false in
    (c.compare_exchange-found.ensures.0 ∙ c.requires.table.0, (Some h.0, first_and_rest _ _ _ (ap (λ m. m.1) h.1)))

pub unwrap-part-requires : goal.unwrap-part-requires
unwrap-part-requires g c =
    let h = (c.compare_exchange-found.ensures.2 c.args.slot (omega arith)).0 c.if-found-ne0.false in
    subst IsSome (same_head _ _ _ _ _ _ (sym (ap (λ m. m.1) h.1) ∙ c.exchange.ensures.2)) refl

pub returns-clause-some : goal.returns-clause-some
returns-clause-some g c =
    let h = (c.compare_exchange-found.ensures.2 c.args.slot (omega arith)).0 c.if-found-ne0.false in
    moved_out g.M.Machine.core g.N.Announced.event c.args.slot h.0 _ c.exchange.result c.args.seat.now.me _ _ h.1 c.exchange.ensures.2 c.unwrap-part.ensures c.exchange.ensures.3
