use Rattle.std.proofs.Common.{map, arith, ap, sym, ◌∙◌, refl}
use Rattle.step_table.proofs.Keeps.{gives_lock}
use Rattle.step_table.proofs.steps.give_part.Goals as goal

pub store-requires : goal.store-requires
store-requires g c = let v = c.requires.view in let t = c.requires.table in let e = c.exchange.ensures in let me = e.3 in (
  e.0 ∙ t.0,
  omega arith,
  gives_lock g.M.Machine.core (map g.M.Machine.core.meaning c.args.top.now.key.value) c.args.top.now.table_id.slots c.exchange.new.seat.id c.args.slot _ _ c.args.part _ _ c.exchange.new.seat.me (omega arith)
      (λ z. v.0 (sym (ap (λ m. m.0.shares) me) ∙ z)) (ap (λ m. m.0.held) me ∙ v.1) (ap (λ m. m.1) me) refl,
)
