use Rattle.std.proofs.Common.{rules, not}
use Rattle.std.proofs.lemmas.Fn.{filter_same}
use Rattle.std.specs.Str.{bytes_eq}
use Rattle.table_schema.proofs.schema.without.Goals as goal

pub returns : goal.returns
returns c =
    rw (c.from_vec.ensures.same, ← c.into_vec-columns.ensures.same)
    (filter_same _ (λ d. not (bytes_eq d.name c.args.name.now)) _ (λ x b f' k. search rules) _ _ c.retain.ensures.filtered)
