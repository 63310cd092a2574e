-- What a read finds, place by place.
use Rattle.std.proofs.Common.{◌≡◌, ℕ, zero, suc, ◌+◌, ◌≤◌, ◌<◌, ◌==◌, ◌||◌, true, false, List, [], ◌∷◌, ◌++◌, map, length, drop, get_or, All, eqb, cond, refl, sym, ap, subst, arith, ◌∙◌, Option, Some, None, option_map}
use Rattle.std.specs.Prelude.{nat_lt}
use Rattle.std.specs.Option.{option_or}
use Rattle.std.proofs.lemmas.Bool.Decides.{nat_tests}
use Rattle.std.proofs.lemmas.List.Elements.{All-cons, All-nil}
use Rattle.step_table.specs.Helds.{slots_of, parts_of}
use Rattle.step_table.proofs.Lists.{either_way}
use Rattle.row_values.specs.declared.rows.KeyedRow.{KeyedRow}
use Rattle.row_values.specs.Elements.{AllOf, put_in, in_order}
use Rattle.row_values.specs.Slots.{has}
use Rattle.model.specs.Times.{time_of, is_future}
use Rattle.model.specs.Tablets.{Tablet}
use Rattle.model.specs.Acts.{At, Read, Refusal, Refused, Rows, Fenced, StaleSchema, Future, TooOld}
use Rattle.model.specs.Parts.{Parts, If, refusal_of, refusal_in, judged, unless, answered}
use Rattle.model.specs.Entries.{touches, ActAsked, IsSlot}
use Rattle.model.specs.RowActs.{read, none_left, first_moved, first_fence, stale, first_cutoff, rows_of_places, cut_rows}
use Rattle.machine_laws.proofs.Slots.{has_rising}
use Rattle.cluster_core.specs.Readies.{AllLater}
use Rattle.cluster_core.specs.Reads.{tablets_in, IsHeld, MayRead, read_checks, comes_before, put_all}
use Rattle.cluster_core.specs.Held.{Holding}
use Rattle.cluster_core.proofs.Laying.{slot_later}

-- without a time no cutoff is after it
pub no_cutoff : (places : List At) (tablet : ℕ → Tablet) → first_cutoff places None tablet ≡ None
no_cutoff [] tablet = refl
no_cutoff (p ∷ places) tablet = no_cutoff places tablet

last_behind : (i : ℕ) (places : List At) → i < length places → eqb (suc i) (length places) ≡ none_left (drop (suc i) places)
last_behind i [] lt = absurd (omega arith)
last_behind zero (p ∷ []) lt = let t : eqb (suc zero) (length (p ∷ [])) ≡ true = grind (arith, nat_tests) in t
last_behind zero (p ∷ q ∷ places) lt = let f : eqb (suc zero) (length (p ∷ q ∷ places)) ≡ false = grind (arith, nat_tests) in f
last_behind (suc i) (p ∷ places) lt = either_way (eqb (suc i) (length places))
    (λ t. let u : eqb (suc (suc i)) (length (p ∷ places)) ≡ true = grind (arith, nat_tests) in u ∙ sym t ∙ last_behind i places (omega arith))
    (λ f. let u : eqb (suc (suc i)) (length (p ∷ places)) ≡ false = grind (arith, nat_tests) in u ∙ sym f ∙ last_behind i places (omega arith))

-- whether a place is the last
pub last_left : (i : ℕ) (places : List At) → i < length places → (i + 1 == length places) ≡ none_left (drop (i + 1) places)
last_left i places lt =
    let one : suc i ≡ i + 1 = omega arith in
    subst (λ k. (k == length places) ≡ none_left (drop k places)) one (last_behind i places lt)

-- rows that are put in from the last on

pub put_snoc : (more : List KeyedRow) (r : KeyedRow) (rows : List KeyedRow) → put_all (more ++ r ∷ []) rows ≡ put_all more (put_in comes_before r rows)
put_snoc [] r rows = refl
put_snoc (x ∷ more) r rows = ap (put_in comes_before x) (put_snoc more r rows)

pub drop_from : (places : List At) (i j : ℕ) (p : At) → j ≡ suc i → i < length places → p ≡ get_or places i p → drop i places ≡ p ∷ drop j places
drop_from places i j p next lt is = go places i lt is ∙ ap (λ k. p ∷ drop k places) (sym next)
  where
    go : (places : List At) (i : ℕ) → i < length places → p ≡ get_or places i p → drop i places ≡ p ∷ drop (suc i) places
    go [] i lt is = absurd (omega arith)
    go (q ∷ places) zero lt is = ap (λ x. x ∷ places) (sym is)
    go (q ∷ places) (suc i) lt is = go places i (omega arith) is

pub ordered_behind : (more rows : List KeyedRow) → in_order comes_before (more ++ rows) ≡ put_all more (in_order comes_before rows)
ordered_behind [] rows = refl
ordered_behind (x ∷ more) rows = ap (put_in comes_before x) (ordered_behind more rows)

-- what the book reads is what its places give

read_is : (places : List At) (version : ℕ) (key : Option (List ℕ)) (at : Option ℕ) (columns : List ℕ) (n : ℕ) (ps : Parts)
    → read places version key at columns n ps ≡ judged (read_checks places version key at n ps.tablet) (answered (Rows (cut_rows columns (in_order comes_before (rows_of_places places key (time_of at n) ps.tablet)))))
unfolding read
read_is places version key at columns n ps = refl

pub read_refused : (places : List At) (version : ℕ) (key : Option (List ℕ)) (at : Option ℕ) (columns : List ℕ) (n : ℕ) (ps : Parts) (why : Refusal)
    → refusal_in (read_checks places version key at n ps.tablet) ≡ Some why → read places version key at columns n ps ≡ answered (Refused why)
read_refused places version key at columns n ps why is =
    read_is places version key at columns n ps ∙ ap (λ r. unless r (answered (Rows (cut_rows columns (in_order comes_before (rows_of_places places key (time_of at n) ps.tablet)))))) is

pub read_done : (places : List At) (version : ℕ) (key : Option (List ℕ)) (at : Option ℕ) (columns : List ℕ) (n : ℕ) (ps : Parts)
    → refusal_in (read_checks places version key at n ps.tablet) ≡ None
    → read places version key at columns n ps ≡ answered (Rows (cut_rows columns (in_order comes_before (rows_of_places places key (time_of at n) ps.tablet))))
read_done places version key at columns n ps is =
    read_is places version key at columns n ps ∙ ap (λ r. unless r (answered (Rows (cut_rows columns (in_order comes_before (rows_of_places places key (time_of at n) ps.tablet)))))) is

-- the places of a read are those of held parts
all_held : (count : ℕ) (ks : List ℕ) (places : List At) → ((k : ℕ) → has (map {A = At} (λ place. place.slot) places) k ≡ true → has ks k ≡ true) → AllOf (λ (place : At). IsSlot count place.slot) places → All (IsHeld ks) places
all_held count ks [] there slots = All-nil (IsHeld ks)
all_held count ks (p ∷ places) there slots =
    let here : eqb p.slot p.slot ≡ true = grind (arith, nat_tests) in
    All-cons (IsHeld ks) p places
    (slots.0.0, there p.slot (ap (λ b. b || has (map {A = At} (λ place. place.slot) places) p.slot) here))
    (all_held count ks places (λ k h. there k (either_way (eqb p.slot k) (λ t. ap (λ b. b || has (map {A = At} (λ place. place.slot) places) k) t) (λ f. ap (λ b. b || has (map {A = At} (λ place. place.slot) places) k) f ∙ h))) slots.1)

pub places_held : (count : ℕ) (ks : List ℕ) (places : List At) (version : ℕ) (key : Option (List ℕ)) (at : Option ℕ) (columns : List ℕ) → ks ≡ touches (Read places version key at columns)
    → ActAsked count (Read places version key at columns) → All (IsHeld ks) places
places_held count ks places version key at columns is asked =
    let slots = map {A = At} (λ place. place.slot) places in
    all_held count ks places (λ k h. ap (λ js. has js k) is ∙ has_rising slots k ∙ h) asked.1

pub in_time : (at : Option ℕ) (n : ℕ) (t : Tablet) → MayRead at n t → t.cutoff ≤ t.clock → t.cutoff ≤ time_of at n
in_time None n t right past = omega arith
in_time (Some x) n t right past = right

-- where no refusal comes, rows can be had

or_rest : {A : Type 0} (a b : Option A) → option_or a b ≡ None → b ≡ None
or_rest None b is = is
or_rest (Some x) b is = absurd (cc)

or_first : {A : Type 0} (a b : Option A) → option_or a b ≡ None → a ≡ None
or_first None b is = refl
or_first (Some x) b is = absurd (cc)

map_none : {A B : Type 0} (f : A → B) (a : Option A) → option_map f a ≡ None → a ≡ None
map_none f None is = refl
map_none f (Some x) is = absurd (cc)

last_refusal : (a b c d e : Option Refusal) → option_or a (option_or b (option_or c (option_or d (option_or e None)))) ≡ None → e ≡ None
last_refusal a b c d e is = or_first e None (or_rest d (option_or e None) (or_rest c (option_or d (option_or e None)) (or_rest b (option_or c (option_or d (option_or e None))) (or_rest a (option_or b (option_or c (option_or d (option_or e None)))) is))))

cutoffs_past : (places : List At) (x : ℕ) (tablet : ℕ → Tablet) → first_cutoff places (Some x) tablet ≡ None → All (λ (place : At). (tablet place.slot).cutoff ≤ x) places
cutoffs_past [] x tablet none = All-nil (λ (place : At). (tablet place.slot).cutoff ≤ x)
cutoffs_past (p ∷ places) x tablet none = either_way (nat_lt x (tablet p.slot).cutoff)
    (λ t. absurd (let e : Some (tablet p.slot).cutoff ≡ None = sym (ap (λ b. cond b (Some (tablet p.slot).cutoff) (first_cutoff places (Some x) tablet)) t) ∙ none in cc))
    (λ f. All-cons (λ (place : At). (tablet place.slot).cutoff ≤ x) p places (grind (arith, nat_tests, f)) (cutoffs_past places x tablet (sym (ap (λ b. cond b (Some (tablet p.slot).cutoff) (first_cutoff places (Some x) tablet)) f) ∙ none)))

pub may_read : (places : List At) (version : ℕ) (key : Option (List ℕ)) (at : Option ℕ) (n : ℕ) (held : Holding) → 0 < n → AllLater n (parts_of held)
    → refusal_in (read_checks places version key at n (tablets_in held)) ≡ None → All (λ (place : At). MayRead at n (tablets_in held place.slot)) places
may_read places version key None n held some later none = λ i d lt. slot_later n (slots_of held) (parts_of held) (get_or places i d).slot some later
may_read places version key (Some x) n held some later none =
    cutoffs_past places x (tablets_in held) (map_none (TooOld x) (first_cutoff places (Some x) (tablets_in held)) (last_refusal
    (first_moved key places (tablets_in held))
    (option_map Fenced (first_fence places (tablets_in held)))
    (option_map StaleSchema (stale (Some x) places version (tablets_in held)))
    (refusal_of (If (is_future (Some x) n) (Future n)))
    (option_map (TooOld x) (first_cutoff places (Some x) (tablets_in held)))
    none))
