use Rattle.std.proofs.Common.{length, sym, ap, ◌∙◌}
use Rattle.row_values.specs.Schema.{first_schema}
use Rattle.master_acts.proofs.Allowed.{few_tablets, table_fits}
use Rattle.master_acts.proofs.decide.decide_create_table.Goals as goal

pub tablets_made-requires-clause-tablets : goal.tablets_made-requires-clause-tablets
tablets_made-requires-clause-tablets c =
    rw (c.drawn_tablets.ensures.exact, c.as_slice.ensures.same)
    (few_tablets c.args.master.now.master (length c.args.slots.now) c.requires.lawful c.requires.most)

pub returns-clause-may : goal.returns-clause-may
returns-clause-may c =
    let a = c.args in
    let fits = table_fits a.namespace.now a.table.now a.tablets a.slots.now a.stamp a.master.now.master c.in-Ok.owner (sym c.in-Ok.ensures.exact) c.requires.lawful c.requires.later c.requires.most in (
      rw (c.in_ok-copy.ensures, c.in_ok-copy-3.ensures) fits,
      ap first_schema (c.in_ok-copy-2.ensures ∙ sym c.as_slice-2.ensures.same) ∙ sym c.in_ok-schema.ensures.made ∙ sym c.schema.view_is,
    )
