use Rattle.std.proofs.Common.{nat_cmp}
use Rattle.std.specs.BTreeMap.{get}
use Rattle.std.specs.Cmp.Lexicographic.{slice_cmp}
use Rattle.versions.proofs.Indexing.{index_noted, index_kept, entry_found, is_some_from}
use Rattle.versions.proofs.index.note_key.Goals as goal

pub returns-in-Ok-clause-noted : goal.returns-in-Ok-clause-noted
returns-in-Ok-clause-noted c =
    let is = c.in-Some.ensures.value in
    let v = c.args.version.now in
    let key = c.args.key.now in
    λ log len right. index_noted log v key c.args.index.now (c.get_mut.follows.lender c.note.new.self) c.note.new.self c.requires
    (rw (← c.requires) (c.in-Ok.ensures.noted log len (entry_found log v.key (get (slice_cmp nat_cmp) c.args.index.now v.key) c.in-Some.entry.now (rw c.requires is) (right v.key))))
    (λ q. ((c.get_mut.follows.holds c.note.new.self).3 (is_some_from _ c.in-Some.entry.now is)).0 q)
    right

pub returns-in-Err-clause-kept : goal.returns-in-Err-clause-kept
returns-in-Err-clause-kept c =
    let is = c.in-Some.ensures.value in
    let key = c.args.key.now in
    λ log right. index_kept log key c.args.index.now (c.get_mut.follows.lender c.note.new.self) c.note.new.self
    (c.in-Err.ensures.kept log key (entry_found log key (get (slice_cmp nat_cmp) c.args.index.now key) c.in-Some.entry.now is (right key)))
    (λ q. ((c.get_mut.follows.holds c.note.new.self).3 (is_some_from _ c.in-Some.entry.now is)).0 q)
    right

pub returns-in-None-clause-noted : goal.returns-in-None-clause-noted
returns-in-None-clause-noted c = rw (← c.get_mut.follows.holds-at-none) c.note_first.ensures.noted

pub returns-in-None-clause-kept : goal.returns-in-None-clause-kept
returns-in-None-clause-kept c = rw (← c.get_mut.follows.holds-at-none) c.note_first.ensures.kept
