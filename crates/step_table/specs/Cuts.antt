-- How a view is cut in two, and how two become one.
use Rattle.std.specs.Prelude.{◌+◌, ◌-◌, List, [], ◌∷◌, ◌++◌, length, cond, nat_lt, None}
use Rattle.step_table.specs.declared.known.Known.{Known}
use Rattle.step_table.specs.Histories.{merged}

abbrev pub longer : {A : Type 0} → List A → List A → List A
longer xs ys = cond (nat_lt (length xs) (length ys)) ys xs

module _ {P E R : Type 0} where
  abbrev pub cut_left : Known P E R → Known P E R
  cut_left v = record v { shares = v.shares - 1; splits = v.splits + 1 }

  abbrev pub cut_right : Known P E R → Known P E R
  cut_right v = record { given = v.given; seen = v.seen; mine = []; olds = []; findings = []; shares = 1; splits = 0; doing = None; held = [] }

  abbrev pub glued : Known P E R → Known P E R → Known P E R
  glued v w = record v {
    seen = longer v.seen w.seen;
    mine = merged v.mine w.mine;
    olds = (v.given, v.seen) ∷ (w.given, w.seen) ∷ (v.olds ++ w.olds);
    findings = v.findings ++ w.findings;
    shares = v.shares + w.shares;
    splits = v.splits + w.splits;
  }
