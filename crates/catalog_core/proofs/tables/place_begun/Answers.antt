use Rattle.std.proofs.Common.{◌≡◌, true, false, map, length, take, nat_le, Some, if◌then◌else◌, sym, ap, ◌∙◌, arith}
use Rattle.std.proofs.lemmas.Grind.{common_steps}
use Rattle.yb_ident.specs.contracts.ident.IdentPartialEq.TheImpl as ident
use Rattle.newest_index.specs.Newest.{last_place}
use Rattle.newest_index.proofs.Gathering.{starts, goes_on, stays_within, take_all}
use Rattle.model.specs.Catalog.{TableRecord}
use Rattle.catalog_core.specs.Kept.{table_id, is_begun}
use Rattle.catalog_core.proofs.Found.{begun_at, begun_none}
use Rattle.catalog_core.proofs.tables.place_begun.Goals as goal

pub records-init : goal.records-init
records-init c =
    let rs = c.args.records.now.items in
    let whole : c.len-upto.result ≡ length rs = grind (arith, common_steps, c.len-upto.ensures) in
    record {
      within = omega (arith, whole);
      next = starts table_id (ident.ghosts).eq c.args.id.now rs c.len-upto.result c.newest-next.result whole (c.newest-next.ensures (map table_id rs) c.requires.indexed);
      rest = sym (ap (λ m. last_place (is_begun c.args.id.now c.args.x) (take m rs)) whole ∙ ap (last_place (is_begun c.args.id.now c.args.x)) (take_all rs));
    }

pub records-preserved : goal.records-preserved
records-preserved c =
    let rs = c.args.records.now.items in
    let id = c.args.id.now in
    let x = c.args.x in
    let i = c.records.invariant in
    let k = c.keys_agree.ensures in
    let within = i.within in
    let inside = c.if-at-upto.false in
    let at = sym i.next ∙ c.in-Some.is in
    let from : c.number.result ≡ c.index.result.now.from = c.number.ensures.value ∙ ap (λ (r : TableRecord). r.from) c.behind-records.view_is in
    let later = c.if-number.false in
    let time = c.number-in-Some.ensures.value in
    let unbegun : nat_le c.index.result.now.from x ≡ false = grind (arith, common_steps, from, later, time) in
    record {
      within = omega (arith, within, inside);
      next = goes_on table_id (ident.ghosts).eq k.laws id rs c.records.upto c.in-Some.at c.records.next c.earlier-next.result i.next c.in-Some.is
          (λ j is. c.earlier-next.ensures (map table_id rs) j c.requires.indexed is);
      rest = i.rest ∙ begun_at _ k.laws k.idents k.equal rs id x c.records.upto c.in-Some.at c.index.result.now at c.index.ensures
          ∙ ap (λ b. if b then Some c.in-Some.at else last_place (is_begun id x) (take c.in-Some.at rs)) unbegun;
    }

pub returns-then-at-upto : goal.returns-then-at-upto
returns-then-at-upto c = record {
  last = absurd (stays_within table_id (ident.ghosts).eq c.args.id.now c.args.records.now.items c.records.upto c.in-Some.at c.records.next
      c.records.invariant.next c.in-Some.is c.if-at-upto.true);
}

pub returns-then-number : goal.returns-then-number
returns-then-number c =
    let rs = c.args.records.now.items in
    let id = c.args.id.now in
    let x = c.args.x in
    let i = c.records.invariant in
    let k = c.keys_agree.ensures in
    let at = sym i.next ∙ c.in-Some.is in
    let from : c.number.result ≡ c.index.result.now.from = c.number.ensures.value ∙ ap (λ (r : TableRecord). r.from) c.behind-records.view_is in
    let later = c.if-number.true in
    let time = c.number-in-Some.ensures.value in
    let begun : nat_le c.index.result.now.from x ≡ true = grind (arith, common_steps, from, later, time) in
    record {
      last = sym (i.rest ∙ begun_at _ k.laws k.idents k.equal rs id x c.records.upto c.in-Some.at c.index.result.now at c.index.ensures
          ∙ ap (λ b. if b then Some c.in-Some.at else last_place (is_begun id x) (take c.in-Some.at rs)) begun);
    }

pub returns : goal.returns
returns c =
    let k = c.keys_agree.ensures in
    record {
      last = sym (c.records.invariant.rest ∙ begun_none _ k.laws k.idents k.equal c.args.records.now.items c.args.id.now c.args.x c.records.upto
          (sym c.records.invariant.next ∙ c.in_default.is));
    }
