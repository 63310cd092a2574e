use Rattle.std.proofs.Common.{refl, rules}
use Rattle.law_store.proofs.Keys.{key_self}
use Rattle.versions.proofs.Indexing.{entry_own}
use Rattle.versions.proofs.index.KeyEntry.note.Goals as goal

pub returns-clause-noted : goal.returns-clause-noted
returns-clause-noted c = λ log len h.
    let v = c.args.version.now in
    entry_own log v v.key c.mark.new.self _ (key_self v.key)
    (record { past = rw len (search rules); marks = refl; row = search rules; newest = search rules })
    (c.mark.ensures.right log v.key h)
