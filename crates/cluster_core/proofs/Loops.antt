-- What loops over held parts keep.
use Rattle.std.proofs.Common.{◌≡◌, ℕ, zero, suc, ◌+◌, ◌<◌, ◌≤◌, List, [], ◌∷◌, ◌++◌, map, length, get_or, drop, set, refl, sym, ap, subst, arith, ◌∙◌, append_assoc, length-append, Some}
use Rattle.std.specs.Prelude.{slice_get}
use Rattle.std.proofs.lemmas.List.{map-append, length-map}
use Rattle.step_table.specs.Lists.{fst, snd}
use Rattle.step_table.specs.Helds.{slots_of, parts_of, with_part}
use Rattle.step_table.proofs.Helds.{slots_with, parts_with}
use Rattle.machine_laws.specs.Views.{kept_after, clock_of}
use Rattle.machine_laws.specs.Laid.{all_after, part_after}
use Rattle.cluster_core.specs.declared.part.PartTold.{PartTold}
use Rattle.cluster_core.specs.Held.{Part, Holding}
use Rattle.cluster_core.specs.SeenTold.{part_telling, tellings_of}
use Rattle.cluster_core.specs.Tellings.{PartTelling, part_act, ActFits, ActHasRoom, meaning, no_room}
use Rattle.cluster_core.specs.Readies.{AllFit, AllCan, AllLater, FirstHasRoom}
use Rattle.cluster_core.proofs.Laying.{some_is}

-- the parts before the i-th were prepared for their acts, and the others are to be
pub record Preparing (first held : Holding) (all acts : List PartTelling) (n i : ℕ) : Type 0 where
  pub slots : slots_of held ≡ slots_of first
  pub same : map meaning (parts_of held) ≡ map meaning (parts_of first)
  pub room : FirstHasRoom (parts_of first) → FirstHasRoom (parts_of held)
  pub done : List Part
  pub rest : List Part
  pub parts : parts_of held ≡ done ++ rest
  pub count : length done ≡ i
  pub fit : AllFit acts n rest
  pub can : (more : List Part) → AllCan acts n more → AllCan all n (done ++ more)

-- the parts before the i-th did what they were told
pub record Applying (first held : Holding) (all acts : List PartTelling) (n i : ℕ) : Type 0 where
  pub slots : slots_of held ≡ slots_of first
  pub room : FirstHasRoom (parts_of first) → FirstHasRoom (parts_of held)
  pub done : List Part
  pub rest : List Part
  pub parts : parts_of held ≡ done ++ rest
  pub count : length done ≡ i
  pub can : AllCan acts n rest
  pub later : AllLater n rest
  pub after : map meaning done ++ all_after (map part_act acts) n (map meaning rest) ≡ all_after (map part_act all) n (map meaning (parts_of first))

set_mid : (done : List Part) (p q : Part) (rest : List Part) (i : ℕ) → length done ≡ i → set (done ++ p ∷ rest) i q ≡ done ++ q ∷ rest
set_mid [] p q rest zero len = refl
set_mid [] p q rest (suc i) len = absurd (omega arith)
set_mid (d ∷ done) p q rest zero len = absurd (omega arith)
set_mid (d ∷ done) p q rest (suc i) len = ap (λ ps. d ∷ ps) (set_mid done p q rest i (omega arith))

get_mid : (done : List Part) (p : Part) (rest : List Part) (i : ℕ) → length done ≡ i → slice_get (done ++ p ∷ rest) i ≡ Some p
get_mid [] p rest zero len = refl
get_mid [] p rest (suc i) len = absurd (omega arith)
get_mid (d ∷ done) p rest zero len = absurd (omega arith)
get_mid (d ∷ done) p rest (suc i) len = get_mid done p rest i (omega arith)

first_mid : (done : List Part) (p q : Part) (rest : List Part) → q.room.log ≡ p.room.log → FirstHasRoom (done ++ p ∷ rest) → FirstHasRoom (done ++ q ∷ rest)
first_mid [] p q rest same has = subst (λ m. 1 ≤ m) (sym same) has
first_mid (d ∷ done) p q rest same has = has

same_meaning : (p q : Part) → q.kept ≡ p.kept → q.log ≡ p.log → meaning q ≡ meaning p
same_meaning p q kept log = ap (λ k. record { kept = k; log = q.log; room = no_room }) kept ∙ ap (λ l. record { kept = p.kept; log = l; room = no_room }) log

map_mid : (done : List Part) (p q : Part) (rest : List Part) → meaning q ≡ meaning p → map meaning (done ++ q ∷ rest) ≡ map meaning (done ++ p ∷ rest)
map_mid [] p q rest same = ap (λ m. m ∷ map meaning rest) same
map_mid (d ∷ done) p q rest same = ap (λ ms. meaning d ∷ ms) (map_mid done p q rest same)

put_mid : (held : Holding) (done : List Part) (p q : Part) (rest : List Part) (i : ℕ) → length done ≡ i → parts_of held ≡ done ++ p ∷ rest → parts_of (with_part held i q) ≡ done ++ q ∷ rest
put_mid held done p q rest i count is = parts_with held i q ∙ ap (λ ps. set ps i q) is ∙ set_mid done p q rest i count

longer_by : (done : List Part) (q : Part) (i : ℕ) → length done ≡ i → length (done ++ q ∷ []) ≡ i + 1
longer_by done q i count = let l = length-append done (q ∷ []) in omega arith

-- the part in the middle is the one that is found there
mid_is : (held : Holding) (done : List Part) (x : Part) (rest : List Part) (i : ℕ) (p : Part) → length done ≡ i → parts_of held ≡ done ++ x ∷ rest → slice_get (parts_of held) i ≡ Some p → x ≡ p
mid_is held done x rest i p count is at = some_is (sym (get_mid done x rest i count) ∙ ap (λ ps. slice_get ps i) (sym is) ∙ at)

mid_within : (held : Holding) (done : List Part) (x : Part) (rest : List Part) (i : ℕ) → length done ≡ i → parts_of held ≡ done ++ x ∷ rest → i < length (parts_of held)
mid_within held done x rest i count is = let l = ap length is in let m = length-append done (x ∷ rest) in omega arith

-- preparing

pub next_fit : (first held : Holding) (all : List PartTelling) (a : PartTelling) (acts : List PartTelling) (n i : ℕ) (p : Part) → Preparing first held all (a ∷ acts) n i → slice_get (parts_of held) i ≡ Some p → ActFits a n p.kept
next_fit first held all a acts n i p s at = go s.rest s.fit s.parts
  where
    go : (rest : List Part) → AllFit (a ∷ acts) n rest → parts_of held ≡ s.done ++ rest → ActFits a n p.kept
    go [] fit is = absurd fit
    go (q ∷ rest) fit is = subst (λ (x : Part). ActFits a n x.kept) (mid_is held s.done q rest i p s.count is at) fit.0

pub next_within : (first held : Holding) (all : List PartTelling) (a : PartTelling) (acts : List PartTelling) (n i : ℕ) → Preparing first held all (a ∷ acts) n i → i < length (parts_of held)
next_within first held all a acts n i s = go s.rest s.fit s.parts
  where
    go : (rest : List Part) → AllFit (a ∷ acts) n rest → parts_of held ≡ s.done ++ rest → i < length (parts_of held)
    go [] fit is = absurd fit
    go (q ∷ rest) fit is = mid_within held s.done q rest i s.count is

pub next_preparing : (first held : Holding) (all : List PartTelling) (a : PartTelling) (acts : List PartTelling) (n i : ℕ) (p q : Part) → Preparing first held all (a ∷ acts) n i → slice_get (parts_of held) i ≡ Some p
    → q.kept ≡ p.kept → q.log ≡ p.log → q.room.log ≡ p.room.log → ActHasRoom a q.room → Preparing first (with_part held i q) all acts n (i + 1)
next_preparing first held all a acts n i p q s at kept log room has = go s.rest s.fit s.parts s.can
  where
    step : (x : Part) (rest : List Part) → x ≡ p → ActFits a n x.kept × AllFit acts n rest → parts_of held ≡ s.done ++ x ∷ rest → ((more : List Part) → AllCan (a ∷ acts) n more → AllCan all n (s.done ++ more)) → Preparing first (with_part held i q) all acts n (i + 1)
    step x rest e fit is can =
        let now : parts_of (with_part held i q) ≡ s.done ++ q ∷ rest = put_mid held s.done x q rest i s.count is in
        let mean : meaning q ≡ meaning x = same_meaning p q kept log ∙ ap meaning (sym e) in
        record {
          slots = slots_with held i q ∙ s.slots;
          same = ap (map meaning) now ∙ map_mid s.done x q rest mean ∙ sym (ap (map meaning) is) ∙ s.same;
          room = λ h. subst FirstHasRoom (sym now) (first_mid s.done x q rest (room ∙ ap (λ (y : Part). y.room.log) (sym e)) (subst FirstHasRoom is (s.room h)));
          done = s.done ++ q ∷ [];
          rest = rest;
          parts = now ∙ sym (append_assoc s.done (q ∷ []) rest);
          count = longer_by s.done q i s.count;
          fit = fit.1;
          can = λ more h. subst (AllCan all n) (sym (append_assoc s.done (q ∷ []) more)) (can (q ∷ more) ((subst (ActFits a n) (sym (kept ∙ ap (λ (y : Part). y.kept) (sym e))) fit.0, has), h));
        }

    go : (rest : List Part) → AllFit (a ∷ acts) n rest → parts_of held ≡ s.done ++ rest → ((more : List Part) → AllCan (a ∷ acts) n more → AllCan all n (s.done ++ more)) → Preparing first (with_part held i q) all acts n (i + 1)
    go [] fit is can = absurd fit
    go (x ∷ rest) fit is can = step x rest (mid_is held s.done x rest i p s.count is at) fit is can

-- the last part is prepared
pub all_prepared : (first held : Holding) (all : List PartTelling) (n i : ℕ) → Preparing first held all [] n i → AllCan all n (parts_of held)
all_prepared first held all n i s = go s.rest s.fit s.parts
  where
    go : (rest : List Part) → AllFit [] n rest → parts_of held ≡ s.done ++ rest → AllCan all n (parts_of held)
    go [] fit is = subst (AllCan all n) (sym is) (s.can [] tt)
    go (x ∷ rest) fit is = absurd fit

-- where the memory for the next part is not there
pub first_kept : (first held : Holding) (all : List PartTelling) (a : PartTelling) (acts : List PartTelling) (n i : ℕ) (p q : Part) → Preparing first held all (a ∷ acts) n i → slice_get (parts_of held) i ≡ Some p
    → q.kept ≡ p.kept → q.log ≡ p.log → q.room.log ≡ p.room.log → (map meaning (parts_of (with_part held i q)) ≡ map meaning (parts_of first)) × (FirstHasRoom (parts_of first) → FirstHasRoom (parts_of (with_part held i q)))
first_kept first held all a acts n i p q s at kept log room = go s.rest s.fit s.parts
  where
    step : (x : Part) (rest : List Part) → x ≡ p → parts_of held ≡ s.done ++ x ∷ rest → (map meaning (parts_of (with_part held i q)) ≡ map meaning (parts_of first)) × (FirstHasRoom (parts_of first) → FirstHasRoom (parts_of (with_part held i q)))
    step x rest e is =
        let now : parts_of (with_part held i q) ≡ s.done ++ q ∷ rest = put_mid held s.done x q rest i s.count is in (
          ap (map meaning) now ∙ map_mid s.done x q rest (same_meaning p q kept log ∙ ap meaning (sym e)) ∙ sym (ap (map meaning) is) ∙ s.same,
          λ h. subst FirstHasRoom (sym now) (first_mid s.done x q rest (room ∙ ap (λ (y : Part). y.room.log) (sym e)) (subst FirstHasRoom is (s.room h))),
        )

    go : (rest : List Part) → AllFit (a ∷ acts) n rest → parts_of held ≡ s.done ++ rest → (map meaning (parts_of (with_part held i q)) ≡ map meaning (parts_of first)) × (FirstHasRoom (parts_of first) → FirstHasRoom (parts_of (with_part held i q)))
    go [] fit is = absurd fit
    go (x ∷ rest) fit is = step x rest (mid_is held s.done x rest i p s.count is at) is

-- applying

pub can_next : (first held : Holding) (all : List PartTelling) (a : PartTelling) (acts : List PartTelling) (n i : ℕ) (p : Part) → Applying first held all (a ∷ acts) n i → slice_get (parts_of held) i ≡ Some p → (ActFits a n p.kept × ActHasRoom a p.room) × (clock_of p.kept < n)
can_next first held all a acts n i p s at = go s.rest s.can s.later s.parts
  where
    go : (rest : List Part) → AllCan (a ∷ acts) n rest → AllLater n rest → parts_of held ≡ s.done ++ rest → (ActFits a n p.kept × ActHasRoom a p.room) × (clock_of p.kept < n)
    go [] can later is = absurd can
    go (q ∷ rest) can later is = subst (λ (x : Part). (ActFits a n x.kept × ActHasRoom a x.room) × (clock_of x.kept < n)) (mid_is held s.done q rest i p s.count is at) (can.0, later.0)

pub within_next : (first held : Holding) (all : List PartTelling) (a : PartTelling) (acts : List PartTelling) (n i : ℕ) → Applying first held all (a ∷ acts) n i → i < length (parts_of held)
within_next first held all a acts n i s = go s.rest s.can s.parts
  where
    go : (rest : List Part) → AllCan (a ∷ acts) n rest → parts_of held ≡ s.done ++ rest → i < length (parts_of held)
    go [] can is = absurd can
    go (q ∷ rest) can is = mid_within held s.done q rest i s.count is

pub next_applying : (first held : Holding) (all : List PartTelling) (a : PartTelling) (acts : List PartTelling) (n i : ℕ) (p q : Part) → Applying first held all (a ∷ acts) n i → slice_get (parts_of held) i ≡ Some p
    → q.kept ≡ kept_after (part_act a) n p.kept → q.log ≡ p.log → q.room.log ≡ p.room.log → Applying first (with_part held i q) all acts n (i + 1)
next_applying first held all a acts n i p q s at kept log room = go s.rest s.can s.later s.parts s.after
  where
    step : (x : Part) (rest : List Part) → x ≡ p → AllCan acts n rest → AllLater n rest → parts_of held ≡ s.done ++ x ∷ rest
        → map meaning s.done ++ all_after (map part_act (a ∷ acts)) n (map meaning (x ∷ rest)) ≡ all_after (map part_act all) n (map meaning (parts_of first)) → Applying first (with_part held i q) all acts n (i + 1)
    step x rest e can later is after =
        let now : parts_of (with_part held i q) ≡ s.done ++ q ∷ rest = put_mid held s.done x q rest i s.count is in
        let mean : meaning q ≡ part_after (part_act a) n (meaning x) = ap (λ k. record { kept = k; log = q.log; room = no_room }) kept ∙ ap (λ l. record { kept = kept_after (part_act a) n p.kept; log = l; room = no_room }) log ∙ ap (λ (y : Part). part_after (part_act a) n (meaning y)) (sym e) in
        record {
          slots = slots_with held i q ∙ s.slots;
          room = λ h. subst FirstHasRoom (sym now) (first_mid s.done x q rest (room ∙ ap (λ (y : Part). y.room.log) (sym e)) (subst FirstHasRoom is (s.room h)));
          done = s.done ++ q ∷ [];
          rest = rest;
          parts = now ∙ sym (append_assoc s.done (q ∷ []) rest);
          count = longer_by s.done q i s.count;
          can = can;
          later = later;
          after = ap (λ ms. ms ++ all_after (map part_act acts) n (map meaning rest)) (map-append meaning s.done (q ∷ [])) ∙ append_assoc (map meaning s.done) (meaning q ∷ []) (all_after (map part_act acts) n (map meaning rest))
              ∙ ap (λ m. map meaning s.done ++ m ∷ all_after (map part_act acts) n (map meaning rest)) mean ∙ after;
        }

    go : (rest : List Part) → AllCan (a ∷ acts) n rest → AllLater n rest → parts_of held ≡ s.done ++ rest
        → map meaning s.done ++ all_after (map part_act (a ∷ acts)) n (map meaning rest) ≡ all_after (map part_act all) n (map meaning (parts_of first)) → Applying first (with_part held i q) all acts n (i + 1)
    go [] can later is after = absurd can
    go (x ∷ rest) can later is after = step x rest (mid_is held s.done x rest i p s.count is at) can.1 later.1 is after

pub all_applied : (first held : Holding) (all : List PartTelling) (n i : ℕ) → Applying first held all [] n i → map meaning (parts_of held) ≡ all_after (map part_act all) n (map meaning (parts_of first))
all_applied first held all n i s = go s.rest s.can s.parts s.after
  where
    go : (rest : List Part) → AllCan [] n rest → parts_of held ≡ s.done ++ rest → map meaning s.done ++ all_after [] n (map meaning rest) ≡ all_after (map part_act all) n (map meaning (parts_of first)) → map meaning (parts_of held) ≡ all_after (map part_act all) n (map meaning (parts_of first))
    go [] can is after = ap (map meaning) is ∙ map-append meaning s.done [] ∙ after
    go (x ∷ rest) can is after = absurd can

pub first_preparing : (held : Holding) (all : List PartTelling) (n : ℕ) → AllFit all n (parts_of held) → Preparing held held all all n 0
first_preparing held all n fit = record {
  slots = refl;
  same = refl;
  room = λ h. h;
  done = [];
  rest = parts_of held;
  parts = refl;
  count = refl;
  fit = fit;
  can = λ more h. h;
}

pub first_applying : (held : Holding) (all : List PartTelling) (n : ℕ) → AllCan all n (parts_of held) → AllLater n (parts_of held) → Applying held held all all n 0
first_applying held all n can later = record {
  slots = refl;
  room = λ h. h;
  done = [];
  rest = parts_of held;
  parts = refl;
  count = refl;
  can = can;
  later = later;
  after = refl;
}

pub same_size : (first held : Holding) → slots_of held ≡ slots_of first → length (parts_of held) ≡ length first
same_size first held same = length-map held snd ∙ sym (length-map held fst) ∙ ap length same ∙ length-map first fst

pub parts_size : (held : Holding) → length (parts_of held) ≡ length held
parts_size held = length-map held snd

pub acts_next : {V : Type 0} (i : ℕ) (xs : List (PartTold V)) (x : PartTold V) → i < length xs → x ≡ get_or xs i x → tellings_of (drop i xs) ≡ part_telling x ∷ tellings_of (drop (suc i) xs)
acts_next i [] x lt is = absurd (omega arith)
acts_next zero (y ∷ ys) x lt is = ap (λ z. part_telling z ∷ tellings_of ys) (sym is)
acts_next (suc i) (y ∷ ys) x lt is = acts_next i ys x (omega arith) is
