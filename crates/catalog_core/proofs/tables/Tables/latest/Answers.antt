use Rattle.std.proofs.Common.{Some, map, sym, ap, ◌∙◌}
use Rattle.std.specs.Option.{option_map}
use Rattle.newest_index.specs.Newest.{record_of}
use Rattle.catalog_core.specs.Kept.{table_id}
use Rattle.catalog_core.proofs.Found.{latest_here, schema_of}
use Rattle.catalog_core.proofs.tables.Tables.latest.Goals as goal

pub returns-in-Some : goal.returns-in-Some
returns-in-Some c =
    let k = c.keys_agree.ensures in
    let rs = c.self.inside.records.items in
    let found = c.in-Some.ensures ∙ ap (record_of rs) (c.newest-place.ensures (map table_id rs) c.self.invariant.by_id) in
    rw (← c.self.view_is)
    (ap (λ r. option_map schema_of (Some r)) c.record.view_is ∙ ap (option_map schema_of) found
    ∙ sym (latest_here _ k.laws k.idents k.equal rs c.args.id.now))

pub returns-in-None : goal.returns-in-None
returns-in-None c =
    let k = c.keys_agree.ensures in
    let rs = c.self.inside.records.items in
    let found = c.in-None.ensures ∙ ap (record_of rs) (c.newest-place.ensures (map table_id rs) c.self.invariant.by_id) in
    rw (← c.self.view_is) (ap (option_map schema_of) found ∙ sym (latest_here _ k.laws k.idents k.equal rs c.args.id.now))
