use Rattle.std.proofs.Common.{◌≡◌, [], map, length, ◌∙◌, arith}
use Rattle.std.proofs.lemmas.Grind.{common_steps}
use Rattle.yb_ident.specs.contracts.ident.IdentPartialEq.TheImpl as ident
use Rattle.model.specs.Catalog.{TableRecord}
use Rattle.newest_index.proofs.Gathering.{starts, goes_on, stays_within, gathers_none, gathers_one, gathers_all}
use Rattle.catalog_core.specs.Kept.{table_space, put_standing}
use Rattle.catalog_core.proofs.InSpaces.{gathered_standing}
use Rattle.catalog_core.proofs.tables.standing_at.Goals as goal

pub records-init : goal.records-init
records-init c =
    let rs = c.args.records.now.items in
    let ns = c.args.namespace.now in
    let whole : c.len-upto.result ≡ length rs = grind (arith, common_steps, c.len-upto.ensures) in
    record {
      within = omega (arith, whole);
      next = starts table_space (ident.ghosts).eq ns rs c.len-upto.result c.newest-next.result whole (c.newest-next.ensures (map table_space rs) c.requires.indexed);
      found = c.new-found.ensures.items
          ∙ gathers_none (λ (r : TableRecord). (ident.ghosts).eq ns (table_space r)) (put_standing ns c.args.x) [] rs c.len-upto.result whole;
    }

pub records-preserved : goal.records-preserved
records-preserved c =
    let rs = c.args.records.now.items in
    let ns = c.args.namespace.now in
    let i = c.records.invariant in
    let within = i.within in
    let inside = c.if-at-upto.false in
    record {
      within = omega (arith, within, inside);
      next = goes_on table_space (ident.ghosts).eq c.keys_agree.ensures.laws ns rs c.records.upto c.in-Some.at c.records.next
          c.earlier-next.result i.next c.in-Some.is (λ j is. c.earlier-next.ensures (map table_space rs) j c.requires.indexed is);
      found = gathers_one table_space (ident.ghosts).eq ns (put_standing ns c.args.x) [] rs c.records.upto c.in-Some.at c.records.next
          c.index.result.now c.records.found.items c.put_standing.new.found.items i.next c.in-Some.is c.index.ensures c.in_ok-put_standing.ensures.put i.found;
    }

pub returns-then-at-upto : goal.returns-then-at-upto
returns-then-at-upto c = record {
  exact = absurd (stays_within table_space (ident.ghosts).eq c.args.namespace.now c.args.records.now.items c.records.upto c.in-Some.at c.records.next
      c.records.invariant.next c.in-Some.is c.if-at-upto.true);
}

pub returns : goal.returns
returns c = record {
  exact =
      let rs = c.args.records.now.items in
      let ns = c.args.namespace.now in
      let k = c.keys_agree.ensures in
      gathers_all table_space (ident.ghosts).eq ns (put_standing ns c.args.x) [] rs c.records.upto c.records.next c.records.found.items
      c.records.invariant.next c.in_default.is c.records.invariant.found
      ∙ gathered_standing _ k.laws k.idents ns c.args.x rs;
}
