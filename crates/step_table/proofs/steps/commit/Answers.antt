use Rattle.std.proofs.Common.{map, subst, sym, ◌%◌, ◌+◌, ◌^◌}
use Rattle.atomic_table.specs.Table.{Allows, step}
use mathlib.Core.Option.{none}
use Rattle.step_table.specs.Plays.{committed}
use Rattle.step_table.specs.Rule.{Stands}
use Rattle.step_table.proofs.Commits.{commits}
use Rattle.step_table.proofs.steps.commit.Goals as goal

pub fetch_add-requires : goal.fetch_add-requires
fetch_add-requires g c =
    let core = g.M.Machine.core in
    let top = c.args.top.now in
    let seat = c.args.seat.now in (
      c.requires.table.0,
      c.requires.table.1,
      subst (λ ev. Allows (Stands core (map core.meaning top.key.value)) top.table_id.slots seat.id seat.me 0 (λ n. (n + 1) % 2 ^ 64) (committed core ev (step top.table_id.slots 0 1 0 none) seat.me)) (sym c.requires.event.0)
          (commits core g.met.M.Machine.lawful (map core.meaning top.key.value) top.table_id.slots seat.id c.args.event.now seat.me c.requires.table.2 c.requires.event.1 c.requires.event.2 c.requires.may.1 c.requires.may.0),
    )
