-- Counters at 0 have no history.
use Rattle.std.proofs.Common.{◌≡◌, ◌<◌, ◌^◌, List, [], ◌∷◌, map, length, refl, sym, ap, subst, arith, ◌∙◌}
use Rattle.std.proofs.lemmas.List.{length-map}
use Rattle.step_table.specs.Lists.{Every}
use Rattle.step_table.specs.Histories.{merged, history_of, IsNumbered}
use Rattle.step_counters.specs.declared.counter.Counter.{Counter}
use Rattle.step_counters.specs.Adds.{core_of, IsEmpty, IsShort}

no_history : (ps : List Counter) → Every IsEmpty ps → history_of core_of (map core_of.meaning ps) ≡ []
no_history [] all = refl
no_history (p ∷ ps) all = ap (λ log. merged (history_of core_of (map core_of.meaning ps)) log) all.0 ∙ no_history ps all.1

all_short : (ps : List Counter) → Every IsEmpty ps → Every IsShort (map core_of.meaning ps)
all_short [] all = tt
all_short (p ∷ ps) all = ((let l : length p.log ≡ 0 = ap length all.0 in omega arith), all_short ps all.1)

pub empty_numbered : (ps : List Counter) → Every IsEmpty ps → IsNumbered 1 (history_of core_of (map core_of.meaning ps))
empty_numbered ps all = subst (IsNumbered 1) (sym (no_history ps all)) tt

pub empty_legal : (ps : List Counter) → Every IsEmpty ps → length ps < 2 ^ 32 → core_of.Legal (map core_of.meaning ps)
empty_legal ps all few = (all_short ps all, (let l = length-map ps core_of.meaning in omega arith))
