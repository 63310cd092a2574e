-- How many tablets hold a code: of a new table's tablets, of those of a table that ends, and of the others.
use Rattle.std.proofs.Common.{ℕ, ◌≡◌, ◌≤◌, ◌<◌, ◌+◌, ◌*◌, ◌/◌, List, [], ◌∷◌, ◌++◌, length, Option, Some, None, Bool, true, false, cond, ◌&&◌, inl, inr, refl, sym, ap, ◌∙◌, arith, leb, le_refl, le_trans, lt-ltb, subst, lt_of_lt_of_le}
use Rattle.std.proofs.Math.Nat.{add-div_right, mul-div_cancel, div-mul-le_self}
use Rattle.std.proofs.lemmas.Nat.{le-div}
use Rattle.std.proofs.lemmas.Bool.{cond_both}
use Rattle.std.proofs.lemmas.Bool.Decides.{nat_tests}
use Rattle.model.specs.Cluster.{Id, same, In, before_end, ended, in_range, IsRange, Interval, active_at, end_table_tablets, Tablet, Master, code_of}
use Rattle.model.specs.Stands.{HasRange, holders, awaited_in}
use Rattle.model.specs.Changed.{begins, shares, next_tablet}
use Rattle.law_store.proofs.Keys.{either_way}
use Rattle.law_invariants.proofs.Overlap.{holds}
use Rattle.law_invariants.proofs.Finding.{same_equal, same_self, first_fails}
use Rattle.std.specs.Prelude.{false}
use Rattle.row_values.specs.Store.{Version, Below, read_of}
use Rattle.model.specs.Journal.{Change}
use Rattle.law_store.specs.Sorted.{Sorted, EachKey}
use Rattle.law_invariants.specs.Invariant.{SlotGood, OverBy, StandsIn, is_awaited}
use Rattle.law_invariants.proofs.Ticking.{over_later}

abbrev pub one : Bool → ℕ
one b = cond b 1 0

pub holders_append : (is js : List Interval) (table : Id) (code x : ℕ) → holders (is ++ js) table code x ≡ holders is table code x + holders js table code x
holders_append [] js table code x = omega arith
holders_append (i ∷ is) js table code x = let rest = holders_append is js table code x in omega arith

-- tablets of other tables hold none of the table's codes
pub none_hold : (is : List Interval) (table : Id) (code x : ℕ) → ((i : Interval) → In i is → same i.table table ≡ false) → holders is table code x ≡ 0
none_hold [] table code x apart = refl
none_hold (i ∷ is) table code x apart =
    let rest = none_hold is table code x (λ j isin. apart j (inr isin)) in
    let here : one (holds i table code x) ≡ 0 = ap one (first_fails _ (active_at x i && in_range i.low i.high code) (apart i (inl refl))) in
    omega arith

-- The tablets of a table end

pub early : (x n : ℕ) (to : Option ℕ) → x < n → before_end x (ended n to) ≡ before_end x to
early x n None l = lt-ltb x n l
early x n (Some e) l = refl

pub end_weaker : (x n : ℕ) (to : Option ℕ) → before_end x (ended n to) ≡ true → before_end x to ≡ true
end_weaker x n None h = refl
end_weaker x n (Some e) h = h

fewer : (a f b c r : Bool) → (c ≡ true → b ≡ true) → one (a && ((f && c) && r)) ≤ one (a && ((f && b) && r))
fewer false f b c r h = le_refl 0
fewer true false b c r h = le_refl 0
fewer true true b false r h = omega arith
fewer true true b true r h = rw (h refl) (le_refl (one r))

alike : (a f b c r : Bool) → c ≡ b → one (a && ((f && c) && r)) ≡ one (a && ((f && b) && r))
alike a f b c r h = ap (λ q. one (a && ((f && q) && r))) h

pub ended_less : (is : List Interval) (gone : Id) (n : ℕ) (table : Id) (code x : ℕ) → holders (end_table_tablets gone n is) table code x ≤ holders is table code x
ended_less [] gone n table code x = le_refl 0
ended_less (i ∷ is) gone n table code x =
    let rest = ended_less is gone n table code x in
    let weaker : before_end x (cond (same i.table gone) (ended n i.to) i.to) ≡ true → before_end x i.to ≡ true =
    cond_both (same i.table gone) (ended n i.to) i.to (λ to. before_end x to ≡ true → before_end x i.to ≡ true) (λ e. end_weaker x n i.to) (λ e h. h) in
    let here = fewer (same i.table table) (leb i.from x) (before_end x i.to) (before_end x (cond (same i.table gone) (ended n i.to) i.to)) (in_range i.low i.high code) weaker in
    omega arith

pub ended_early : (is : List Interval) (gone : Id) (n : ℕ) (table : Id) (code x : ℕ) → x < n → holders (end_table_tablets gone n is) table code x ≡ holders is table code x
ended_early [] gone n table code x l = refl
ended_early (i ∷ is) gone n table code x l =
    let rest = ended_early is gone n table code x l in
    let same_end : before_end x (cond (same i.table gone) (ended n i.to) i.to) ≡ before_end x i.to =
    cond_both (same i.table gone) (ended n i.to) i.to (λ to. before_end x to ≡ before_end x i.to) (λ e. early x n i.to l) (λ e. refl) in
    let here = alike (same i.table table) (leb i.from x) (before_end x i.to) (before_end x (cond (same i.table gone) (ended n i.to) i.to)) (in_range i.low i.high code) same_end in
    omega arith

pub ended_others : (is : List Interval) (gone : Id) (n : ℕ) (table : Id) (code x : ℕ) → same gone table ≡ false → holders (end_table_tablets gone n is) table code x ≡ holders is table code x
ended_others [] gone n table code x apart = refl
ended_others (i ∷ is) gone n table code x apart =
    let rest = ended_others is gone n table code x apart in
    let k : Option ℕ = cond (same i.table gone) (ended n i.to) i.to in
    let here : one (holds (record i { to = k }) table code x) ≡ one (holds i table code x) = either_way (same i.table gone)
    (λ e. let far : same i.table table ≡ false = ap (λ t. same t table) (same_equal i.table gone e) ∙ apart in
    ap one (first_fails _ _ far) ∙ sym (ap one (first_fails _ _ far)))
    (λ e. ap (λ b. one (holds (record i { to = cond b (ended n i.to) i.to }) table code x)) e) in
    omega arith

-- The tablets of a new table

pub shares_early : (slots : List ℕ) (place count n : ℕ) (drawn : ℕ) (made : Id) (table : Id) (code x : ℕ) → x < n → holders (shares slots place count n drawn made) table code x ≡ 0
shares_early [] place count n drawn made table code x l = refl
shares_early (slot ∷ slots) place count n drawn made table code x l =
    let rest = shares_early slots (place + 1) count n drawn made table code x l in
    let late : leb n x ≡ false = grind (arith, nat_tests) in
    let low = place * 65536 / count in
    let high = (place + 1) * 65536 / count in
    let here : one (same made table && ((leb n x && true) && in_range low high code)) ≡ 0 =
    ap (λ b. one (same made table && ((b && true) && in_range low high code))) late ∙ ap one (off (same made table)) in
    omega arith
  where
    off : (a : Bool) → (a && false) ≡ false
    off true = refl
    off false = refl

pub shares_others : (slots : List ℕ) (place count n : ℕ) (drawn : ℕ) (made : Id) (table : Id) (code x : ℕ) → same made table ≡ false → holders (shares slots place count n drawn made) table code x ≡ 0
shares_others [] place count n drawn made table code x apart = refl
shares_others (slot ∷ slots) place count n drawn made table code x apart =
    let rest = shares_others slots (place + 1) count n drawn made table code x apart in
    let here : one (holds (begins slot (next_tablet drawn (place + 1)) made (place * 65536 / count) ((place + 1) * 65536 / count) n) table code x) ≡ 0 = ap one (first_fails _ _ apart) in
    omega arith

pub div_up : (a b k : ℕ) → 0 < k → a ≤ b → a / k ≤ b / k
div_up a b k pos le = le-div (a / k) b k pos (le_trans (div-mul-le_self a k) le)

-- from a bound on, a code is in the next part or behind it
parts : (low high code : ℕ) → low ≤ high → one (in_range low high code) + one (leb high code) ≡ one (leb low code)
parts low high code le = grind (arith, nat_tests)

pub shares_hold : (slots : List ℕ) (place count n : ℕ) (drawn : ℕ) (made : Id) (code x : ℕ) → 0 < count → length slots + place ≡ count → code < 65536 → n ≤ x
    → holders (shares slots place count n drawn made) made code x ≡ one (leb (place * 65536 / count) code)
shares_hold [] place count n drawn made code x pos places small late =
    let all : place * 65536 / count ≡ 65536 = ap (λ p. p * 65536 / count) (let e : place ≡ count = omega arith in e) ∙ (ap (λ p. p / count) (let e : count * 65536 ≡ 65536 * count = omega arith in e) ∙ mul-div_cancel 65536 pos) in
    let l : leb (place * 65536 / count) code ≡ false = ap (λ p. leb p code) all ∙ (let q : leb 65536 code ≡ false = grind (arith, nat_tests) in q) in
    sym (ap one l)
shares_hold (slot ∷ slots) place count n drawn made code x pos places small late =
    let rest = shares_hold slots (place + 1) count n drawn made code x pos (omega (arith, places)) small late in
    let low = place * 65536 / count in
    let high = (place + 1) * 65536 / count in
    let up : low ≤ high = div_up (place * 65536) ((place + 1) * 65536) count pos (omega arith) in
    let begun : leb n x ≡ true = grind (arith, nat_tests) in
    let here : one (same made made && ((leb n x && true) && in_range low high code)) ≡ one (in_range low high code) =
    ap (λ b. one (b && ((leb n x && true) && in_range low high code))) (same_self made) ∙ ap (λ b. one ((b && true) && in_range low high code)) begun in
    let sum = parts low high code up in
    omega arith

-- each share has codes, and none beyond the last
share_range : (place count : ℕ) → 0 < count → count ≤ 65536 → place < count → IsRange (record { low = place * 65536 / count; high = (place + 1) * 65536 / count })
share_range place count pos most less =
    let step : (place * 65536 + count) / count ≡ place * 65536 / count + 1 = add-div_right (place * 65536) pos in
    let up : (place * 65536 + count) / count ≤ (place + 1) * 65536 / count = div_up (place * 65536 + count) ((place + 1) * 65536) count pos (omega arith) in
    let all : count * 65536 / count ≡ 65536 = ap (λ p. p / count) (let e : count * 65536 ≡ 65536 * count = omega arith in e) ∙ mul-div_cancel 65536 pos in
    let last : (place + 1) * 65536 / count ≤ count * 65536 / count = div_up ((place + 1) * 65536) (count * 65536) count pos (omega arith) in
    (omega (arith, step, up), omega (arith, all, last))

pub share_ranges : (slots : List ℕ) (place count n : ℕ) (drawn : ℕ) (made : Id) → 0 < count → count ≤ 65536 → length slots + place ≡ count
    → (i : Interval) → In i (shares slots place count n drawn made) → HasRange i
share_ranges [] place count n drawn made pos most places i isin = absurd isin
share_ranges (slot ∷ slots) place count n drawn made pos most places i (inl e) =
    subst HasRange e (share_range place count pos most (omega (arith, places)))
share_ranges (slot ∷ slots) place count n drawn made pos most places i (inr isin) =
    share_ranges slots (place + 1) count n drawn made pos most (omega (arith, places)) i isin

-- A tablet's versions give way to others that read the same from a later cutoff on.

-- the tablet after it, its clock at a stamp
abbrev pub rewritten : Tablet → ℕ → List Version → ℕ → Tablet
rewritten t n vs c = record t { clock = n; versions = vs; cutoff = c }

pub rewriting_keeps : (m : Master) (n : ℕ) (changes : List Change) (slot : ℕ) (t : Tablet) (vs : List Version) (c : ℕ) → t.clock ≤ n → t.cutoff ≤ c → c ≤ n
    → Sorted vs → Below (n + 1) vs → EachKey (λ key. in_range t.low t.high (code_of key)) vs → ((key : List ℕ) (x : ℕ) → c ≤ x → read_of vs key x ≡ read_of t.versions key x)
    → SlotGood m changes slot t → SlotGood m changes slot (rewritten t n vs c)
rewriting_keeps m n changes slot t vs c le up within sorted below keys same h = record {
  good = record { sorted = sorted; below = below; cutoff = within; keys = keys; set_past = λ f held. lt_of_lt_of_le (h.good.set_past f held) le; set_sorted = h.good.set_sorted; set_keys = h.good.set_keys };
  home = h.home;
  numbered = h.numbered;
  each = λ i isin is. let g = h.each i isin is in
      let over : OverBy n i.from i.to = over_later i.to i.from t.clock n le g.over in
      let stands : is_awaited (awaited_in m.restorations t.tablet t.done) i.to ≡ false → StandsIn (rewritten t n vs c) changes i = λ counted key x ranged cut before there. same key x cut ∙ g.stands counted key x ranged (le_trans up cut) before there in
      assumption (over, stands);
  opens = λ serving unfenced. let o = h.opens serving unfenced in record {
    interval = o.interval;
    listed = o.listed;
    slot_is = o.slot_is;
    opened = o.opened;
    begun = le_trans o.begun le;
    settled = o.settled;
  };
  shown = λ serving unfenced x cut. h.shown serving unfenced x (le_trans up cut);
  later = λ ns to is serving unfenced owned. le_trans (h.later ns to is serving unfenced owned) le;
}
