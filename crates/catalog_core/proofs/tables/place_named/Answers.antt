use Rattle.std.proofs.Common.{◌≡◌, map, length, nat_eq, sym, ap, ◌∙◌, arith}
use Rattle.std.proofs.lemmas.Grind.{common_steps}
use Rattle.newest_index.specs.Newest.{last_place}
use Rattle.catalog_core.specs.Codes.{table_code, code_in}
use Rattle.catalog_core.specs.Kept.{is_sought}
use Rattle.catalog_core.proofs.Chains.{starts, starts_codes, stops, passes_here, goes_on, ends}
use Rattle.catalog_core.proofs.Found.{other_table}
use Rattle.catalog_core.proofs.tables.place_named.Goals as goal

pub records-init : goal.records-init
records-init c =
    let rs = c.args.records.now.items in
    let code = code_in c.args.namespace.now c.args.name.now in
    let q = is_sought c.args.namespace.now c.args.name.now c.args.begun.now in
    let k = c.keys_agree.ensures in
    let only = other_table _ k.laws k.idents k.equal c.args.namespace.now c.args.name.now c.args.begun.now in
    let whole : c.len-upto.result ≡ length rs = grind (arith, common_steps, c.len-upto.ensures) in
    record {
      next = c.newest-next.ensures (map table_code rs) c.requires.indexed
          ∙ ap (λ m. last_place (nat_eq m) (map table_code rs)) c.code_in.ensures.code
          ∙ sym (ap (last_place (nat_eq code)) (starts_codes table_code code q only rs c.len-upto.result whole));
      rest = starts table_code code q only rs c.len-upto.result whole;
    }

pub records-smaller : goal.records-smaller
records-smaller c =
    let k = c.keys_agree.ensures in
    let at = sym c.records.invariant.next ∙ c.in-Some.is in
    (stops table_code (code_in c.args.namespace.now c.args.name.now) (is_sought c.args.namespace.now c.args.name.now c.args.begun.now)
    (other_table _ k.laws k.idents k.equal c.args.namespace.now c.args.name.now c.args.begun.now) c.args.records.now.items c.records.upto c.in-Some.at at).before

pub records-preserved : goal.records-preserved
records-preserved c =
    let rs = c.args.records.now.items in
    let code = code_in c.args.namespace.now c.args.name.now in
    let q = is_sought c.args.namespace.now c.args.name.now c.args.begun.now in
    let k = c.keys_agree.ensures in
    let only = other_table _ k.laws k.idents k.equal c.args.namespace.now c.args.name.now c.args.begun.now in
    let at = sym c.records.invariant.next ∙ c.in-Some.is in
    let stop = stops table_code code q only rs c.records.upto c.in-Some.at at in
    let other = sym (c.is_sought.ensures stop.one stop.stands) ∙ c.if-is_sought.false in
    record {
      next = c.earlier-next.ensures (map table_code rs) code c.requires.indexed stop.coded;
      rest = c.records.invariant.rest ∙ goes_on table_code code q only rs c.records.upto c.in-Some.at stop.one stop.stands at other;
    }

pub returns-then-is_sought : goal.returns-then-is_sought
returns-then-is_sought c =
    let rs = c.args.records.now.items in
    let code = code_in c.args.namespace.now c.args.name.now in
    let q = is_sought c.args.namespace.now c.args.name.now c.args.begun.now in
    let k = c.keys_agree.ensures in
    let only = other_table _ k.laws k.idents k.equal c.args.namespace.now c.args.name.now c.args.begun.now in
    let at = sym c.records.invariant.next ∙ c.in-Some.is in
    let stop = stops table_code code q only rs c.records.upto c.in-Some.at at in
    let mine = sym (c.is_sought.ensures stop.one stop.stands) ∙ c.if-is_sought.true in
    record { last = sym (c.records.invariant.rest ∙ passes_here table_code code q only rs c.records.upto c.in-Some.at stop.one stop.stands at mine) }

pub returns : goal.returns
returns c =
    let k = c.keys_agree.ensures in
    record {
      last = sym (c.records.invariant.rest
          ∙ ends table_code (code_in c.args.namespace.now c.args.name.now) (is_sought c.args.namespace.now c.args.name.now c.args.begun.now)
          (other_table _ k.laws k.idents k.equal c.args.namespace.now c.args.name.now c.args.begun.now) c.args.records.now.items c.records.upto (sym c.records.invariant.next ∙ c.in_default.is));
    }
