use Rattle.std.proofs.Common.{nat_cmp, sym, subst}
use Rattle.std.specs.BTreeMap.{get}
use Rattle.std.specs.Cmp.Lexicographic.{slice_cmp}
use Rattle.versions.specs.Indexed.{IsEntry}
use Rattle.versions.specs.declared.index.KeyEntry.{KeyEntry}
use Rattle.versions.proofs.Indexing.{index_noted, none_bare}
use Rattle.versions.proofs.index.note_first.Goals as goal

pub returns-clause-noted : goal.returns-clause-noted
returns-clause-noted c = λ log len right.
    let v = c.args.version.now in
    let key = c.args.key.now in
    let bare = none_bare log v.key (get (slice_cmp nat_cmp) c.args.index.now v.key) (rw c.requires.same c.requires.absent) (right v.key) in
    let P : KeyEntry → Type 0 = λ e. IsEntry log v.key e in
    index_noted log v key c.args.index.now c.insert.new.self c.note.new.self c.requires.same
    (rw (← c.requires.same) (c.in_ok-note.ensures.noted log len (subst P (sym c.bare-entry.ensures) bare)))
    (λ q. rw (← c.in_ok-copy.ensures) (c.in_ok-insert.ensures.updates.0 q))
    right
