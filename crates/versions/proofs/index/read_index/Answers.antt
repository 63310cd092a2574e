use Rattle.std.proofs.Common.{nat_cmp, sym, ◌∙◌}
use Rattle.std.specs.BTreeMap.{get}
use Rattle.std.specs.Cmp.Lexicographic.{slice_cmp}
use Rattle.versions.proofs.Indexing.{entry_found, none_found}
use Rattle.versions.proofs.index.read_index.Goals as goal

pub read-requires-clause-entry : goal.read-requires-clause-entry
read-requires-clause-entry c =
    entry_found c.args.log.now c.args.key.now (get (slice_cmp nat_cmp) c.args.index.now c.args.key.now) c.in-Some.entry.now c.in-Some.ensures.value (c.requires.index c.args.key.now)

pub returns-in-None : goal.returns-in-None
returns-in-None c =
    c.absent.ensures ∙ sym (none_found c.args.log.now c.args.key.now (get (slice_cmp nat_cmp) c.args.index.now c.args.key.now) c.args.x c.in-None.ensures.value (c.requires.index c.args.key.now))
