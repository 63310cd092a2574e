-- The places of a look: the table's active tablets, all of them by range, or the one that holds the keys.
use Rattle.std.proofs.Common.{ℕ, ◌≡◌, ◌≢◌, ◌≤◌, ◌<◌, ◌+◌, List, [], ◌∷◌, Option, Some, None, true, cond, ◌&&◌, inl, inr, refl, sym, ap, subst, ◌∙◌, arith, le-leb, le_of_lt, le_trans, lt_trans, is_some, map, ltb, ltb-true, ltb-false, lt-ltb, Result}
use Rattle.std.proofs.lemmas.Bool.{true≢false}
use Rattle.std.proofs.Math.Numerals.{lt_of_le_of_ne}
use Rattle.std.specs.Option.{option_to_list, option_map}
use Rattle.row_values.specs.Ids.{Id, same}
use Rattle.row_values.specs.Elements.{In, AllOf, put_in}
use Rattle.row_values.specs.Ranges.{in_range}
use Rattle.model.specs.Times.{is_open, before_end}
use Rattle.model.specs.Catalog.{TableRecord}
use Rattle.model.specs.Activity.{Interval, active_at}
use Rattle.model.specs.Journal.{Change, table_at}
use Rattle.model.specs.Acts.{NamedItem, CrossTablet, Place, Refusal}
use Rattle.model.specs.Parts.{Master, Parts, Check, Fault, Outcome, refusal_in, either, checked, decided}
use Rattle.model.specs.Lists.{by_range}
use Rattle.model.specs.Looks.{look_keys, look_table, batch_fault, holding, first_code, other_code, code_outside, place_of, placed, active_in}
use Rattle.model.specs.Right.{IsActivePlace}
use Rattle.model.specs.Stands.{holders}
use Rattle.model.specs.Stands.{HasRange}
use Rattle.model.specs.Answers.{Rising, ArePlaces, TableAnswer, TableRefused, TablePlaced, HomeOf, KeysAnswer, KeysRefused, Faulty, Apart, KeysPlaced}
use Rattle.law_store.proofs.Keys.{either_way}
use Rattle.law_invariants.specs.Invariant.{Covered, Inv, IsPast, EndsBy}
use Rattle.law_invariants.specs.Remembered.{Remembered}
use Rattle.law_invariants.proofs.Finding.{both_pass, passes_both, same_equal, same_self, map_in, in_mapped, in_filter, filter_in, find_is, find_none}
use Rattle.law_invariants.proofs.Overlap.{holds, one_holder, holder_there, code_below}
use Rattle.law_invariants.proofs.Parting.{part_in, part_counts, part_left, part_same, ordered_has, ordered_only, all_past, AllPast}
use Rattle.law_invariants.proofs.Judging.{step_fault, step_found}
use Rattle.law_invariants.proofs.Remembering.{still_kept}
use Rattle.law_answers.proofs.Looking.{asked, VersionsThen, look_of, FoundThen, found_answers}

-- Active tablets

-- where all has begun and ended before the stamp, active at it is not ended
is_active : (i : Interval) (time n : ℕ) → time < n → IsPast time i.from i.to → is_open i.to ≡ true → active_at n i ≡ true
is_active i time n less past open_ = passes_both _ _ (le-leb _ _ (le_of_lt (omega (arith, past.begun)))) (still i.to open_)
  where
    still : (to : Option ℕ) → is_open to ≡ true → before_end n to ≡ true
    still None o = refl
    still (Some e) o = absurd (let q = o in grind arith)

not_ended : (to : Option ℕ) (from time n : ℕ) → time < n → EndsBy time from to → before_end n to ≡ true → is_open to ≡ true
not_ended None from time n less ends before = refl
not_ended (Some e) from time n less ends before = absurd (let b : n < e = ltb-true n e before in omega (arith, ends.1))

active_has : (m : Master) (n : ℕ) (table : Id) (i : Interval) → m.clock < n → AllPast m → In i m.activity → i.table ≡ table → active_at n i ≡ true → In i (active_in m table)
active_has m n table i less past isin is active =
    in_filter m.activity (λ i. is_open i.to && same i.table table) i isin
    (passes_both _ _ (not_ended i.to i.from m.clock n less (past i isin).ended (both_pass _ (before_end n i.to) active).1) (subst (λ k. same i.table k ≡ true) is (same_self i.table)))

active_only : (m : Master) (n : ℕ) (table : Id) (i : Interval) → m.clock < n → AllPast m → In i (active_in m table) → In i m.activity × ((i.table ≡ table) × (active_at n i ≡ true))
active_only m n table i less past isin =
    let k = filter_in m.activity (λ i. is_open i.to && same i.table table) i isin in
    let b = both_pass (is_open i.to) (same i.table table) k.1 in
    (k.0, (same_equal i.table table b.1, is_active i m.clock n less (past i k.0) b.0))

-- Places by range

-- of these tablets each holds its codes, and no code is held twice
record EachOnce (table : Id) (n : ℕ) (is : List Interval) : Type 0 where
  of_table : (i : Interval) → In i is → (i.table ≡ table) × (active_at n i ≡ true)
  ranges : (i : Interval) → In i is → HasRange i
  once : (code : ℕ) → code < 65536 → holders is table code n ≤ 1

holds_low : (table : Id) (n : ℕ) (is : List Interval) (i : Interval) → EachOnce table n is → In i is → holds i table i.low n ≡ true
holds_low table n is i h isin =
    let o = h.of_table i isin in
    let r = h.ranges i isin in
    passes_both (same i.table table) _ (subst (λ k. same i.table k ≡ true) o.0 (same_self i.table))
    (passes_both (active_at n i) _ o.1 (passes_both _ _ (le-leb i.low i.low (omega arith)) (lt-ltb i.low i.high r.0)))

-- the first one's low code is that of no other
low_apart : (table : Id) (n : ℕ) (i : Interval) (is : List Interval) (j : Interval) → EachOnce table n (i ∷ is) → In j is → i.low ≢ j.low
low_apart table n i is j h isin e =
    let mine = holds_low table n (i ∷ is) i h (inl refl) in
    let other : holds j table i.low n ≡ true = subst (λ c. holds j table c n ≡ true) (sym e) (holds_low table n (i ∷ is) j h (inr isin)) in
    let r = h.ranges i (inl refl) in
    let one = one_holder is j table i.low n isin other in
    let all : cond (holds i table i.low n) 1 0 + holders is table i.low n ≤ 1 = h.once i.low (omega (arith, r.0, r.1)) in
    let two : 1 + holders is table i.low n ≤ 1 = rw mine at all in omega (arith, one, two)

once_rest : (table : Id) (n : ℕ) (i : Interval) (is : List Interval) → EachOnce table n (i ∷ is) → EachOnce table n is
once_rest table n i is h = record {
  of_table = λ j isin. h.of_table j (inr isin);
  ranges = λ j isin. h.ranges j (inr isin);
  once = λ code below. let all : cond (holds i table code n) 1 0 + holders is table code n ≤ 1 = h.once code below in omega (arith, all);
}

-- in order of range

all_put : (low : ℕ) (i : Interval) (is : List Interval) → low < i.low → AllOf (λ later. low < later.low) (map place_of is) → AllOf (λ later. low < later.low) (map place_of (put_in (λ i j. ltb i.low j.low) i is))
all_put low i [] less all = (less, tt)
all_put low i (j ∷ js) less all = either_way (ltb j.low i.low)
    (λ b. rw b (all.0, all_put low i js less all.1))
    (λ b. rw b (less, all))

all_above : (low high : ℕ) (places : List Place) → low < high → AllOf (λ later. high < later.low) places → AllOf (λ later. low < later.low) places
all_above low high [] less all = tt
all_above low high (p ∷ places) less all = (lt_trans less all.0, all_above low high places less all.1)

put_rises : (i : Interval) (is : List Interval) → ((j : Interval) → In j is → i.low ≢ j.low) → Rising (map place_of is) → Rising (map place_of (put_in (λ i j. ltb i.low j.low) i is))
put_rises i [] apart rises = (tt, tt)
put_rises i (j ∷ js) apart rises = either_way (ltb j.low i.low)
    (λ b. rw b (all_put j.low i js (ltb-true j.low i.low b) rises.0, put_rises i js (λ k isin. apart k (inr isin)) rises.1))
    (λ b. let less : i.low < j.low = lt_of_le_of_ne (ltb-false j.low i.low b) (apart j (inl refl)) in rw b ((less, all_above i.low j.low (map place_of js) less rises.0), rises))

by_range_rises : (table : Id) (n : ℕ) (is : List Interval) → EachOnce table n is → Rising (map place_of (by_range is))
by_range_rises table n [] h = tt
by_range_rises table n (i ∷ is) h = put_rises i (by_range is) (λ j isin. low_apart table n i is j h (ordered_only _ is j isin)) (by_range_rises table n is (once_rest table n i is h))

-- what a look at tablets goes by, beside the catalog
record IsSeen (m : Master) (n : ℕ) (activity : List Interval) (changes : List Change) : Type 0 where
  before : m.clock < n
  past : AllPast m
  remembered : Remembered m activity
  cover : Covered activity changes

seen : (ps : Parts) (activity : List Interval) (changes : List Change) (n : ℕ) → ps.master.clock < n → Inv ps activity changes → IsSeen ps.master n activity changes
seen ps activity changes n before inv = record { before = before; past = all_past ps activity changes inv; remembered = inv.remembered; cover = inv.cover }

each_once : (m : Master) (n : ℕ) (activity : List Interval) (changes : List Change) (table : Id) → IsSeen m n activity changes → EachOnce table n (active_in m table)
each_once m n activity changes table h = record {
  of_table = λ i isin. (active_only m n table i h.before h.past isin).1;
  ranges = λ i isin. h.cover.ranges i (part_in activity m.activity i h.remembered.part (active_only m n table i h.before h.past isin).0);
  once = λ code below.
      le_trans (part_counts m.activity (active_in m table) table code n (part_left (λ i. is_open i.to && same i.table table) m.activity m.activity (part_same m.activity)))
      (le_trans (part_counts activity m.activity table code n h.remembered.part) (h.cover.once table code n below));
}

places_are : (m : Master) (n : ℕ) (activity : List Interval) (changes : List Change) (table : Id) → IsSeen m n activity changes → ArePlaces activity n table (map place_of (by_range (active_in m table)))
places_are m n activity changes table h = record {
  each = in_mapped place_of (IsActivePlace activity n table) (by_range (active_in m table)) (λ i isin.
      let a = active_only m n table i h.before h.past (ordered_only _ (active_in m table) i isin) in
      record { interval = i; listed = part_in activity m.activity i h.remembered.part a.0; table_is = a.1.0; active = a.1.1; placed = refl });
  all = λ i isin is active. map_in place_of (by_range (active_in m table)) i (ordered_has _ (active_in m table) i (active_has m n table i h.before h.past (still_kept m activity i n h.remembered h.before isin active) is active));
  rising = by_range_rises table n (active_in m table) (each_once m n activity changes table h);
}

pub table_answered : (ps : Parts) (n : ℕ) (activity : List Interval) (changes : List Change) (namespace table : List ℕ) (at : Option ℕ) → ps.master.clock < n → Inv ps activity changes → VersionsThen ps.master.catalog.tables changes
    → TableAnswer (look_of namespace table at n ps.master activity changes) (look_table namespace table at n ps.master).reply
unfolding look_table
table_answered ps n activity changes namespace table at before inv versions =
    let m = ps.master in
    let q = look_of namespace table at n m activity changes in
    let h = seen ps activity changes n before inv in
    let P : Result TableRecord Refusal → Type 0 = λ j. TableAnswer q (decided j (λ t. placed (by_range (active_in m t.id)) t)).reply in
    found_answers P m n activity changes namespace table at (asked m n changes before inv.master) versions
    (λ why refused. TableRefused why refused)
    (λ t found. TablePlaced (map place_of (by_range (active_in m t.id))) t.schema.version t.schema.columns found.table
    (record { version_is = found.version_is; columns_are = ap (λ v. v.columns) (sym found.view_is) })
    (subst (λ k. ArePlaces activity n k (map place_of (by_range (active_in m t.id)))) (sym found.id_is) (places_are m n activity changes t.id h)))

-- The tablet that holds the keys

first_below : (batch : List NamedItem) → first_code batch < 65536
first_below [] = omega arith
first_below (item ∷ items) = code_below item.key

-- a current table has a tablet that holds the code
home_there : (m : Master) (n : ℕ) (activity : List Interval) (changes : List Change) (table : Id) (code : ℕ) → code < 65536 → IsSeen m n activity changes → is_some (table_at changes n table) ≡ true → holding m table code ≡ None → ⊥
home_there m n activity changes table code below h current none =
    let one = h.cover.whole table code n below current in
    let holder = holder_there activity table code n (omega (arith, one)) in
    let i = holder.0 in
    let outer = both_pass (same i.table table) (active_at n i && in_range i.low i.high code) holder.1.1 in
    let inner = both_pass (active_at n i) (in_range i.low i.high code) outer.1 in
    let listed = still_kept m activity i n h.remembered h.before holder.1.0 inner.0 in
    true≢false (sym inner.1 ∙ find_none (λ i. in_range i.low i.high code) (active_in m table) none i (active_has m n table i h.before h.past listed (same_equal i.table table outer.0) inner.0))

pub keys_answered : (ps : Parts) (n : ℕ) (activity : List Interval) (changes : List Change) (namespace table : List ℕ) (batch : List NamedItem) (at : Option ℕ) → ps.master.clock < n → Inv ps activity changes → VersionsThen ps.master.catalog.tables changes
    → KeysAnswer (look_of namespace table at n ps.master activity changes) batch (look_keys namespace table batch at n ps.master).reply
unfolding look_keys
keys_answered ps n activity changes namespace table batch at before inv versions =
    let m = ps.master in
    let q = look_of namespace table at n m activity changes in
    let h = seen ps activity changes n before inv in
    let first = first_code batch in
    let last : TableRecord → List Check = λ t. Fault (option_map (CrossTablet first) (other_code (holding m t.id first) batch)) ∷ [] in
    let go : TableRecord → Outcome = λ t. placed (option_to_list (holding m t.id first)) t in
    let P : Result TableRecord Refusal → Type 0 = λ j. KeysAnswer q batch (decided (checked j (λ t. Fault (batch_fault t.schema.columns batch) ∷ last t)) go).reply in
    found_answers P m n activity changes namespace table at (asked m n changes before inv.master) versions
    (λ why refused. KeysRefused why refused)
    (λ t found.
    let same_fault : batch_fault found.table.found.view.columns batch ≡ batch_fault t.schema.columns batch = ap (λ v. batch_fault v.columns batch) found.view_is in
    let Q : Option Refusal → Type 0 = λ why. KeysAnswer q batch (decided (either why t) go).reply in
    step_fault Q (batch_fault t.schema.columns batch) (last t) (λ why some. Faulty why found.table (same_fault ∙ some))
    (λ sound. at_home t found (same_fault ∙ sound) (holding m t.id first) refl go refl))
  where
    at_home : (t : TableRecord) (found : FoundThen (look_of namespace table at n ps.master activity changes) t) → batch_fault found.table.found.view.columns batch ≡ None → (home : Option Interval) → holding ps.master t.id (first_code batch) ≡ home
        → (go : TableRecord → Outcome) → go t ≡ placed (option_to_list home) t
        → KeysAnswer (look_of namespace table at n ps.master activity changes) batch (decided (either (refusal_in (Fault (option_map (CrossTablet (first_code batch)) (other_code home batch)) ∷ [])) t) go).reply
    at_home t found sound None e go is = absurd (
        let current : is_some (table_at changes n t.id) ≡ true = subst (λ k. is_some (table_at changes n k) ≡ true) found.id_is found.table.found.current in
        home_there ps.master n activity changes t.id (first_code batch) (first_below batch) (seen ps activity changes n before inv) current e)
    at_home t found sound (Some i) e go is =
        let q = look_of namespace table at n ps.master activity changes in
        let h = seen ps activity changes n before inv in
        let held = find_is (λ i. in_range i.low i.high (first_code batch)) (active_in ps.master t.id) i e in
        let a = active_only ps.master n t.id i h.before h.past held.listed in
        let home : HomeOf activity n found.table.found.id (first_code batch) = record { interval = i; listed = part_in activity ps.master.activity i h.remembered.part a.0; table_is = a.1.0 ∙ sym found.id_is; active = a.1.1; holds = held.passes } in
        let Q : Option Refusal → Type 0 = λ why. KeysAnswer q batch (decided (either why t) go).reply in
        step_found Q (code_outside i batch) (CrossTablet (first_code batch)) []
        (λ other some. Apart (first_code batch) other found.table sound home refl some)
        (λ inside. subst (λ o. KeysAnswer q batch o.reply) (sym is)
        (KeysPlaced (place_of i ∷ []) t.schema.version t.schema.columns found.table sound (record { version_is = found.version_is; columns_are = ap (λ v. v.columns) (sym found.view_is) }) home inside refl))
