use Rattle.std.proofs.Common.{◌≡◌, ◌+◌, suc, arith, ap, [], true, get_or}
use Rattle.std.proofs.lemmas.List.{take_rest, length-drop}
use Rattle.script_places.specs.Groups.{is_slash}
use Rattle.script_places.proofs.Slashes.{ends, last, item_at}
use Rattle.script_places.proofs.groups.first_group.Goals as goal

pub returns-then-is_slash : goal.returns-then-is_slash
returns-then-is_slash c =
    let at = item_at c.args.words.now c.loop-i.i c.index-words-i.result [] c.loop-i-test.true c.index-words-i.is in
    let slash : is_slash (get_or c.args.words.now c.loop-i.i []) ≡ true = cc (ap is_slash at, c.is_slash.ensures.exact, c.as_slice.ensures.same, c.if-is_slash.true) in
    let e = ends c.args.words.now c.loop-i.i c.loop-i-test.true c.loop-i.invariant slash in
    let next : c.loop-i.i + 1 ≡ suc c.loop-i.i = omega arith in
    let rest = take_rest c.args.words.now (c.loop-i.i + 1) in
    record { group = (rw (rest, next) e, rw rest (omega (arith, length-drop (c.loop-i.i + 1) c.args.words.now))) }

pub returns : goal.returns
returns c = record { group = last c.args.words.now (λ k lt. c.loop-i.invariant k (omega arith)) }
