-- A read is refused for the first place that has a cause, or gives the rows of the view: each of its places stands for it.
use Rattle.std.proofs.Common.{ℕ, ◌≡◌, ◌≢◌, ◌≤◌, List, [], ◌∷◌, Option, Some, None, true, false, ◌&&◌, ◌||◌, not, inl, inr, refl, sym, ap, subst, ◌∙◌, arith, eqb, eqb-true, ltb-false, le_trans, is_some, map}
use Rattle.std.proofs.lemmas.Bool.{true≢false}
use Rattle.std.proofs.lemmas.Bool.Decides.{nat_tests}
use Rattle.std.specs.Option.{option_map}
use Rattle.row_values.specs.Ids.{Id, same}
use Rattle.row_values.specs.Elements.{In, AllOf, in_order}
use Rattle.row_values.specs.Slots.{has}
use Rattle.row_values.specs.Store.{precedes}
use Rattle.model.specs.Times.{time_of, is_future, is_below, before_end, is_open}
use Rattle.model.specs.Activity.{Interval}
use Rattle.model.specs.Journal.{Change, table_at, row_at}
use Rattle.model.specs.Tablets.{Tablet, is_serving, serves, standing}
use Rattle.model.specs.Acts.{At, Read, Rows, Refused, Refusal, Fenced, StaleSchema, Future, TooOld}
use Rattle.model.specs.Parts.{Parts, Check, If, Names, Fault, Outcome, unless, answered}
use Rattle.model.specs.Entries.{slots_of, IsSlot}
use Rattle.model.specs.RowActs.{read, first_moved, moved_from_key, moved_from_scan, has_moved, goes_on, none_left, covers, first_fence, stale, other_version, first_cutoff, rows_of_places, cut_rows}
use Rattle.model.specs.Right.{RowsRight}
use Rattle.model.specs.Answers.{RowsRead, HasAsked, IsServed, AllServed, FirstMoved, FirstWith, MayRead, MayReadThen, ReadAnswer, ReadMoved, ReadFenced, ReadStale, ReadNotYet, ReadTooOld, GivesRows}
use Rattle.law_store.proofs.Keys.{either_way}
use Rattle.law_invariants.specs.Invariant.{Inv, Later}
use Rattle.law_invariants.proofs.Finding.{both_pass, passes_both, second_fails, none_or_some}
use Rattle.law_invariants.proofs.Judging.{step_if, step_names, step_fault, step_found}
use Rattle.law_invariants.proofs.Ticking.{tablet_before}
use Rattle.law_answers.proofs.Places.{read_right}

-- a read, and the parts that it goes to
abbrev pub read_of_rows : List At → ℕ → Option (List ℕ) → Option ℕ → List ℕ → ℕ → (ℕ → Tablet) → RowsRead
read_of_rows places version key at columns n tablets = record { places = places; version = version; key = key; at = at; columns = columns; now = n; tablets = tablets }

-- Places that aren't served

-- the first place that isn't served is the one that is named
record WasMoved (q : RowsRead) (from : ℕ) (places : List At) (why : Refusal) : Type 0 where
  place : At
  first : FirstMoved q from places place
  why_is : why ≡ has_moved place.slot (q.tablets place.slot)

moved_later : (q : RowsRead) (from : ℕ) (p : At) (places : List At) (why : Refusal) → IsServed q from p places → WasMoved q (q.tablets p.slot).high places why → WasMoved q from (p ∷ places) why
moved_later q from p places why served w = record { place = w.place; first = inr (served, w.first); why_is = w.why_is }

moved_here : (q : RowsRead) (from : ℕ) (p : At) (places : List At) (why : Refusal) → (IsServed q from p places → ⊥) → Some (has_moved p.slot (q.tablets p.slot)) ≡ Some why → WasMoved q from (p ∷ places) why
moved_here q from p places why none e = record { place = p; first = inl (refl, none); why_is = (let k : has_moved p.slot (q.tablets p.slot) ≡ why = cc in sym k) }

-- by a key

abbrev by_key : List ℕ → List At → ℕ → Option ℕ → List ℕ → ℕ → (ℕ → Tablet) → RowsRead
by_key key all version at columns n tablets = read_of_rows all version (Some key) at columns n tablets

key_moved : (places : List At) (from : ℕ) (key : List ℕ) (all : List At) (version : ℕ) (at : Option ℕ) (columns : List ℕ) (n : ℕ) (tablets : ℕ → Tablet) (why : Refusal) → moved_from_key places key tablets ≡ Some why
    → WasMoved (by_key key all version at columns n tablets) from places why
key_moved [] from key all version at columns n tablets why e = absurd (let q = e in grind arith)
key_moved (p ∷ places) from key all version at columns n tablets why e = either_way (serves (tablets p.slot) p.tablet && covers (tablets p.slot) key)
    (λ b. moved_later (by_key key all version at columns n tablets) from p places why (both_pass (serves (tablets p.slot) p.tablet) (covers (tablets p.slot) key) b)
    (key_moved places (tablets p.slot).high key all version at columns n tablets why (rw b at e)))
    (λ b. moved_here (by_key key all version at columns n tablets) from p places why (λ served. true≢false (sym (passes_both _ _ served.0 served.1) ∙ b)) (rw b at e))

key_served : (places : List At) (from : ℕ) (key : List ℕ) (all : List At) (version : ℕ) (at : Option ℕ) (columns : List ℕ) (n : ℕ) (tablets : ℕ → Tablet) → moved_from_key places key tablets ≡ None
    → AllServed (by_key key all version at columns n tablets) from places
key_served [] from key all version at columns n tablets e = tt
key_served (p ∷ places) from key all version at columns n tablets e = either_way (serves (tablets p.slot) p.tablet && covers (tablets p.slot) key)
    (λ b. (both_pass (serves (tablets p.slot) p.tablet) (covers (tablets p.slot) key) b, key_served places (tablets p.slot).high key all version at columns n tablets (rw b at e)))
    (λ b. absurd (let k : Some (has_moved p.slot (tablets p.slot)) ≡ None = rw b at e in grind arith))

-- by a scan

last_ends : (places : List At) (high : ℕ) → (not (none_left places) || eqb high 65536) ≡ true → places ≡ [] → high ≡ 65536
last_ends [] high e is = eqb-true high 65536 e
last_ends (p ∷ places) high e is = absurd (let q = is in grind arith)

ends_last : (places : List At) (high : ℕ) → (places ≡ [] → high ≡ 65536) → (not (none_left places) || eqb high 65536) ≡ true
ends_last [] high h = let e = h refl in grind (arith, nat_tests)
ends_last (p ∷ places) high h = refl

abbrev by_scan : List At → ℕ → Option ℕ → List ℕ → ℕ → (ℕ → Tablet) → RowsRead
by_scan all version at columns n tablets = read_of_rows all version None at columns n tablets

goes : (p : At) (places : List At) (from : ℕ) (t : Tablet) → goes_on from (none_left places) p.tablet t ≡ true → (serves t p.tablet ≡ true) × HasAsked None t from places
goes p places from t e =
    let outer = both_pass (serves t p.tablet) _ e in
    let inner = both_pass (eqb t.low from) (not (none_left places) || eqb t.high 65536) outer.1 in
    (outer.0, (eqb-true t.low from inner.0, last_ends places t.high inner.1))

goes_not : (p : At) (places : List At) (from : ℕ) (t : Tablet) → goes_on from (none_left places) p.tablet t ≡ false → (serves t p.tablet ≡ true) × HasAsked None t from places → ⊥
goes_not p places from t e h =
    let begins : eqb t.low from ≡ true = (let l = h.1.0 in grind (arith, nat_tests)) in
    true≢false (sym (passes_both (serves t p.tablet) _ h.0 (passes_both (eqb t.low from) _ begins (ends_last places t.high h.1.1))) ∙ e)

scan_moved : (places : List At) (from : ℕ) (all : List At) (version : ℕ) (at : Option ℕ) (columns : List ℕ) (n : ℕ) (tablets : ℕ → Tablet) (why : Refusal) → moved_from_scan places from tablets ≡ Some why
    → WasMoved (by_scan all version at columns n tablets) from places why
scan_moved [] from all version at columns n tablets why e = absurd (let q = e in grind arith)
scan_moved (p ∷ places) from all version at columns n tablets why e = either_way (goes_on from (none_left places) p.tablet (tablets p.slot))
    (λ b. moved_later (by_scan all version at columns n tablets) from p places why (goes p places from (tablets p.slot) b)
    (scan_moved places (tablets p.slot).high all version at columns n tablets why (rw b at e)))
    (λ b. moved_here (by_scan all version at columns n tablets) from p places why (goes_not p places from (tablets p.slot) b) (rw b at e))

scan_served : (places : List At) (from : ℕ) (all : List At) (version : ℕ) (at : Option ℕ) (columns : List ℕ) (n : ℕ) (tablets : ℕ → Tablet) → moved_from_scan places from tablets ≡ None
    → AllServed (by_scan all version at columns n tablets) from places
scan_served [] from all version at columns n tablets e = tt
scan_served (p ∷ places) from all version at columns n tablets e = either_way (goes_on from (none_left places) p.tablet (tablets p.slot))
    (λ b. (goes p places from (tablets p.slot) b, scan_served places (tablets p.slot).high all version at columns n tablets (rw b at e)))
    (λ b. absurd (let k : Some (has_moved p.slot (tablets p.slot)) ≡ None = rw b at e in grind arith))

first_moved_is : (key : Option (List ℕ)) (places : List At) (version : ℕ) (at : Option ℕ) (columns : List ℕ) (n : ℕ) (tablets : ℕ → Tablet) (why : Refusal) → first_moved key places tablets ≡ Some why
    → WasMoved (read_of_rows places version key at columns n tablets) 0 places why
first_moved_is None places version at columns n tablets why e = scan_moved places 0 places version at columns n tablets why e
first_moved_is (Some key) places version at columns n tablets why e = key_moved places 0 key places version at columns n tablets why e

none_moved : (key : Option (List ℕ)) (places : List At) (version : ℕ) (at : Option ℕ) (columns : List ℕ) (n : ℕ) (tablets : ℕ → Tablet) → first_moved key places tablets ≡ None
    → AllServed (read_of_rows places version key at columns n tablets) 0 places
none_moved None places version at columns n tablets e = scan_served places 0 places version at columns n tablets e
none_moved (Some key) places version at columns n tablets e = key_served places 0 key places version at columns n tablets e

served_in : (q : RowsRead) (from : ℕ) (places : List At) (p : At) → AllServed q from places → In p places → serves (q.tablets p.slot) p.tablet ≡ true
served_in q from [] p h isin = absurd isin
served_in q from (r ∷ places) p h (inl e) = subst (λ k. serves (q.tablets k.slot) k.tablet ≡ true) e h.0.0
served_in q from (r ∷ places) p h (inr isin) = served_in q (q.tablets r.slot).high places p h.1 isin

-- Fences, versions, cutoffs

-- the first place of which something holds, and what it gives
record FirstGives {A : Type 0} (Holds : At → Type 0) (places : List At) (of_place : At → A) (a : A) : Type 0 where
  place : At
  first : FirstWith Holds places place
  is : of_place place ≡ a

gives_later : {A : Type 0} (Holds : At → Type 0) (p : At) (places : List At) (of_place : At → A) (a : A) → (Holds p → ⊥) → FirstGives Holds places of_place a → FirstGives Holds (p ∷ places) of_place a
gives_later Holds p places of_place a none h = record { place = h.place; first = inr (none, h.first); is = h.is }

all_in : (P : At → Type 0) (places : List At) (p : At) → AllOf P places → In p places → P p
all_in P [] p all isin = absurd isin
all_in P (q ∷ places) p all (inl e) = subst P e all.0
all_in P (q ∷ places) p all (inr isin) = all_in P places p all.1 isin

fence_first : (places : List At) (tablets : ℕ → Tablet) (operation : Id) → first_fence places tablets ≡ Some operation → FirstGives (λ p. (tablets p.slot).fence ≢ None) places (λ p. (tablets p.slot).fence) (Some operation)
fence_first [] tablets operation e = absurd (let q = e in grind arith)
fence_first (p ∷ places) tablets operation e = none_or_some (tablets p.slot).fence
    (λ none. gives_later _ p places _ (Some operation) (λ some. some none) (fence_first places tablets operation (rw none at e)))
    (λ by some. record { place = p; first = inl (refl, (λ none. (let q : None ≡ Some by = sym none ∙ some in grind arith))); is = (let q : Some by ≡ Some operation = rw some at e in some ∙ q) })

fence_none : (places : List At) (tablets : ℕ → Tablet) → first_fence places tablets ≡ None → AllOf (λ p. (tablets p.slot).fence ≡ None) places
fence_none [] tablets e = tt
fence_none (p ∷ places) tablets e = none_or_some (tablets p.slot).fence
    (λ none. (none, fence_none places tablets (rw none at e)))
    (λ by some. absurd (let q : Some by ≡ None = rw some at e in grind arith))

version_first : (places : List At) (version : ℕ) (tablets : ℕ → Tablet) (kept : ℕ) → other_version places version tablets ≡ Some kept → FirstGives (λ p. (tablets p.slot).version ≢ version) places (λ p. (tablets p.slot).version) kept
version_first [] version tablets kept e = absurd (let q = e in grind arith)
version_first (p ∷ places) version tablets kept e = either_way (eqb (tablets p.slot).version version)
    (λ b. gives_later _ p places _ kept (λ other. other (eqb-true (tablets p.slot).version version b)) (version_first places version tablets kept (rw b at e)))
    (λ b. record { place = p; first = inl (refl, (λ is. grind (arith, nat_tests))); is = (let q : Some (tablets p.slot).version ≡ Some kept = rw b at e in cc) })

version_same : (places : List At) (version : ℕ) (tablets : ℕ → Tablet) → other_version places version tablets ≡ None → AllOf (λ p. (tablets p.slot).version ≡ version) places
version_same [] version tablets e = tt
version_same (p ∷ places) version tablets e = either_way (eqb (tablets p.slot).version version)
    (λ b. (eqb-true (tablets p.slot).version version b, version_same places version tablets (rw b at e)))
    (λ b. absurd (let q : Some (tablets p.slot).version ≡ None = rw b at e in grind arith))

-- the version counts where no time is asked
stale_now : (at : Option ℕ) (places : List At) (version : ℕ) (tablets : ℕ → Tablet) (kept : ℕ) → stale at places version tablets ≡ Some kept → (at ≡ None) × (other_version places version tablets ≡ Some kept)
stale_now None places version tablets kept e = (refl, e)
stale_now (Some x) places version tablets kept e = absurd (let q = e in grind arith)

not_stale : (at : Option ℕ) (places : List At) (version : ℕ) (tablets : ℕ → Tablet) → stale at places version tablets ≡ None → at ≡ None → AllOf (λ p. (tablets p.slot).version ≡ version) places
not_stale None places version tablets e is = version_same places version tablets e
not_stale (Some x) places version tablets e is = absurd (let q = is in grind arith)

cutoff_first : (places : List At) (at : Option ℕ) (tablets : ℕ → Tablet) (cutoff : ℕ) → first_cutoff places at tablets ≡ Some cutoff → FirstGives (λ p. is_below at (tablets p.slot).cutoff ≡ true) places (λ p. (tablets p.slot).cutoff) cutoff
cutoff_first [] at tablets cutoff e = absurd (let q = e in grind arith)
cutoff_first (p ∷ places) at tablets cutoff e = either_way (is_below at (tablets p.slot).cutoff)
    (λ b. record { place = p; first = inl (refl, b); is = (let q : Some (tablets p.slot).cutoff ≡ Some cutoff = rw b at e in cc) })
    (λ b. gives_later _ p places _ cutoff (λ below. true≢false (sym below ∙ b)) (cutoff_first places at tablets cutoff (rw b at e)))

cutoff_none : (places : List At) (at : Option ℕ) (tablets : ℕ → Tablet) → first_cutoff places at tablets ≡ None → AllOf (λ p. is_below at (tablets p.slot).cutoff ≡ false) places
cutoff_none [] at tablets e = tt
cutoff_none (p ∷ places) at tablets e = either_way (is_below at (tablets p.slot).cutoff)
    (λ b. absurd (let q : Some (tablets p.slot).cutoff ≡ None = rw b at e in grind arith))
    (λ b. (b, cutoff_none places at tablets (rw b at e)))

-- Rows

-- the asked time is at or after the cutoff
reached : (at : Option ℕ) (n cutoff : ℕ) → cutoff ≤ n → is_below at cutoff ≡ false → cutoff ≤ time_of at n
reached None n cutoff le e = le
reached (Some x) n cutoff le e = ltb-false x cutoff e

place_touched : (places : List At) (p : At) → In p places → has (map (λ place. place.slot) places) p.slot ≡ true
place_touched [] p isin = absurd isin
place_touched (q ∷ qs) p isin = elim isin as (λ _. has (map (λ place. place.slot) (q ∷ qs)) p.slot ≡ true) [
  | inl same_ ↦ let e : q.slot ≡ p.slot = ap (λ r. r.slot) same_ in grind (arith, nat_tests)
  | inr rest ↦ let r = place_touched qs p rest in grind (arith, nat_tests)
]

rows_right : (slots : ℕ) (ps : Parts) (activity : List Interval) (changes : List Change) (n : ℕ) (places : List At) (version : ℕ) (key : Option (List ℕ)) (at : Option ℕ) (columns : List ℕ)
    → Later (slots_of (Read places version key at columns)) ps n → AllOf (λ place. IsSlot slots place.slot) places → Inv ps activity changes → AllServed (read_of_rows places version key at columns n ps.tablet) 0 places
    → AllOf (λ p. (ps.tablet p.slot).fence ≡ None) places → AllOf (λ p. is_below at (ps.tablet p.slot).cutoff ≡ false) places
    → RowsRight changes (time_of at n) key columns ps.tablet places (cut_rows columns (in_order (λ r s. precedes r.key s.key) (rows_of_places places key (time_of at n) ps.tablet)))
rows_right slots ps activity changes n places version key at columns later asked inv served unfenced recent =
    read_right places ps.tablet changes key (time_of at n) columns (λ p k isin range.
    let t = ps.tablet p.slot in
    let h = inv.slots p.slot in
    let serving : is_serving t.presence ≡ true = (both_pass (is_serving t.presence) (same t.tablet p.tablet) (served_in (read_of_rows places version key at columns n ps.tablet) 0 places p served isin)).0 in
    let free : t.fence ≡ None = all_in (λ p. (ps.tablet p.slot).fence ≡ None) places p unfenced isin in
    let o = h.opens serving free in
    let z = h.each o.interval o.listed o.slot_is in
    let from : 1 ≤ p.slot = (all_in (λ place. IsSlot slots place.slot) places p asked isin).0 in
    let touched : (has (slots_of (Read places version key at columns)) p.slot && not (eqb p.slot 0)) ≡ true = passes_both _ _ (place_touched places p isin) (grind (arith, nat_tests)) in
    let less : t.clock ≤ n = tablet_before (slots_of (Read places version key at columns)) ps n p.slot later touched in
    let cut : t.cutoff ≤ time_of at n = reached at n t.cutoff (le_trans h.good.cutoff less) (all_in (λ p. is_below at (ps.tablet p.slot).cutoff ≡ false) places p recent isin) in
    z.stands (second_fails (is_open o.interval.to) _ (ap is_some o.settled)) k (time_of at n) (rw (← z.low_is, ← z.high_is) range) cut (ap (before_end (time_of at n)) o.opened)
    (ap (λ i. is_some (table_at changes (time_of at n) i)) (sym z.table_is) ∙ h.shown serving free (time_of at n) cut)
    ∙ ap (λ i. row_at changes (time_of at n) i k) (sym z.table_is))

pub read_answered : (slots : ℕ) (ps : Parts) (activity : List Interval) (changes : List Change) (n : ℕ) (places : List At) (version : ℕ) (key : Option (List ℕ)) (at : Option ℕ) (columns : List ℕ)
    → Later (slots_of (Read places version key at columns)) ps n → AllOf (λ place. IsSlot slots place.slot) places → Inv ps activity changes
    → ReadAnswer (read_of_rows places version key at columns n ps.tablet) changes (read places version key at columns n ps).reply
unfolding read
read_answered slots ps activity changes n places version key at columns later asked inv =
    let q = read_of_rows places version key at columns n ps.tablet in
    let o : Outcome = answered (Rows (cut_rows columns (in_order (λ r s. precedes r.key s.key) (rows_of_places places key (time_of at n) ps.tablet)))) in
    let P : Option Refusal → Type 0 = λ why. ReadAnswer q changes (unless why o).reply in
    let old : List Check = Fault (option_map (TooOld (time_of at n)) (first_cutoff places at ps.tablet)) ∷ [] in
    let future : List Check = If (is_future at n) (Future n) ∷ old in
    let other : List Check = Fault (option_map StaleSchema (stale at places version ps.tablet)) ∷ future in
    let fenced : List Check = Names (first_fence places ps.tablet) Fenced ∷ other in
    step_fault P (first_moved key places ps.tablet) fenced
    (λ why some. let w = first_moved_is key places version at columns n ps.tablet why some in
    subst (λ k. ReadAnswer q changes (Refused k)) (sym w.why_is) (ReadMoved w.place.slot (standing (ps.tablet w.place.slot)) w.place w.first refl refl))
    (λ none. let served = none_moved key places version at columns n ps.tablet none in
    step_names P (first_fence places ps.tablet) Fenced other
    (λ operation some. let f = fence_first places ps.tablet operation some in ReadFenced operation f.place served f.first f.is)
    (λ free. let may : MayRead q = record { served = served; unfenced = fence_none places ps.tablet free } in
    step_found P (stale at places version ps.tablet) StaleSchema future
    (λ kept some. let s = stale_now at places version ps.tablet kept some in let f = version_first places version ps.tablet kept s.1 in ReadStale kept f.place may s.0 f.first (sym f.is))
    (λ fresh. step_if P (is_future at n) (Future n) old
    (λ ahead. ReadNotYet n may ahead refl)
    (λ over. let then_ : MayReadThen q = record { may = may; fresh = not_stale at places version ps.tablet fresh; over = over } in
    step_found P (first_cutoff places at ps.tablet) (TooOld (time_of at n)) []
    (λ cutoff some. let f = cutoff_first places at ps.tablet cutoff some in ReadTooOld (time_of at n) cutoff f.place then_ f.first refl (sym f.is))
    (λ recent. let kept = cutoff_none places at ps.tablet recent in
    GivesRows (cut_rows columns (in_order (λ r s. precedes r.key s.key) (rows_of_places places key (time_of at n) ps.tablet))) then_ kept
    (rows_right slots ps activity changes n places version key at columns later asked inv served may.unfenced kept))))))
