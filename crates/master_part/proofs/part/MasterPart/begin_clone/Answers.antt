use Rattle.std.proofs.Common.{◌≤◌, length, sym, subst}
use Rattle.model.specs.Parts.{Master}
use Rattle.master_part.specs.Cloning.{Unowned}
use Rattle.master_part.proofs.Owned.{begin_unowned, begun_as}
use Rattle.master_part.proofs.part.MasterPart.begin_clone.Goals as goal

pub own_tables-requires : goal.own_tables-requires
own_tables-requires c =
    let made = c.requires.made in
    let drawn = c.draw_for_clone.ensures.master in
    record {
      owners = subst (λ k. length c.args.made.tables ≤ k) (sym c.draw_for_clone.ensures.owners) c.requires.owners;
      unowned = subst (λ (m : Master). Unowned c.args.made.target_id m.catalog.owners c.args.made.tables) (sym drawn)
          (begin_unowned made.0 made.1.0 made.1.1.0 made.1.1.1.0 c.args.self.now.master c.args.made c.args.made.target_id made.1.1.1.1 c.requires.fits.unowned);
    }

pub returns : goal.returns
returns c = record {
  master = λ ns source target to is. begun_as ns source target to c.args.stamp c.args.self.now.master c.draw_for_clone.new.self.master c.own_tables.new.self.master _
      c.args.made is c.draw_for_clone.ensures.master c.own_tables.ensures.master c.keep_clone.ensures.master;
}
