use Rattle.std.proofs.Common.{◌≡◌, map, length, nat_eq, sym, ap, ◌∙◌, arith}
use Rattle.std.proofs.lemmas.Grind.{common_steps}
use Rattle.newest_index.specs.Newest.{last_place}
use Rattle.catalog_core.specs.Codes.{space_code, name_code}
use Rattle.catalog_core.proofs.Chains.{starts, starts_codes, stops, passes_here, goes_on, ends}
use Rattle.catalog_core.proofs.Spaces.{has_this_name, other_name}
use Rattle.catalog_core.proofs.namespaces.place_named.Goals as goal

pub records-init : goal.records-init
records-init c =
    let rs = c.args.records.now.items in
    let code = name_code 0 c.args.name.now in
    let q = has_this_name c.args.name.now in
    let only = other_name c.args.name.now in
    let whole : c.len-upto.result ≡ length rs = grind (arith, common_steps, c.len-upto.ensures) in
    record {
      next = c.newest-next.ensures (map space_code rs) c.requires.indexed
          ∙ ap (λ k. last_place (nat_eq k) (map space_code rs)) c.name_code.ensures.code
          ∙ sym (ap (last_place (nat_eq code)) (starts_codes space_code code q only rs c.len-upto.result whole));
      rest = starts space_code code q only rs c.len-upto.result whole;
    }

pub records-smaller : goal.records-smaller
records-smaller c =
    let at = sym c.records.invariant.next ∙ c.in-Some.is in
    (stops space_code (name_code 0 c.args.name.now) (has_this_name c.args.name.now) (other_name c.args.name.now) c.args.records.now.items c.records.upto c.in-Some.at at).before

pub records-preserved : goal.records-preserved
records-preserved c =
    let rs = c.args.records.now.items in
    let code = name_code 0 c.args.name.now in
    let q = has_this_name c.args.name.now in
    let only = other_name c.args.name.now in
    let at = sym c.records.invariant.next ∙ c.in-Some.is in
    let stop = stops space_code code q only rs c.records.upto c.in-Some.at at in
    let other = sym (c.has_name.ensures stop.one stop.stands) ∙ c.if-has_name.false in
    record {
      next = c.earlier-next.ensures (map space_code rs) code c.requires.indexed stop.coded;
      rest = c.records.invariant.rest ∙ goes_on space_code code q only rs c.records.upto c.in-Some.at stop.one stop.stands at other;
    }

pub returns-then-has_name : goal.returns-then-has_name
returns-then-has_name c =
    let rs = c.args.records.now.items in
    let code = name_code 0 c.args.name.now in
    let q = has_this_name c.args.name.now in
    let only = other_name c.args.name.now in
    let at = sym c.records.invariant.next ∙ c.in-Some.is in
    let stop = stops space_code code q only rs c.records.upto c.in-Some.at at in
    let mine = sym (c.has_name.ensures stop.one stop.stands) ∙ c.if-has_name.true in
    record { last = sym (c.records.invariant.rest ∙ passes_here space_code code q only rs c.records.upto c.in-Some.at stop.one stop.stands at mine) }

pub returns : goal.returns
returns c =
    record {
      last = sym (c.records.invariant.rest
          ∙ ends space_code (name_code 0 c.args.name.now) (has_this_name c.args.name.now) (other_name c.args.name.now) c.args.records.now.items c.records.upto (sym c.records.invariant.next ∙ c.in_default.is));
    }
