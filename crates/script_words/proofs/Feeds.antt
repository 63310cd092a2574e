-- Where the first line of a text ends.
use Rattle.std.proofs.Common.{◌≡◌, ℕ, zero, suc, ◌<◌, List, [], ◌∷◌, length, get_or, take, drop, arith, refl}
use Rattle.std.specs.Prelude.{◌≢◌}
use Rattle.std.proofs.lemmas.Bool.Decides.{nat_tests}
use Rattle.std.proofs.Common.{Bool, true, false, ◌||◌, ◌++◌}
use Rattle.std.specs.Prelude.{◌==◌}
use Rattle.script_words.specs.Lines.{lines_of, chop, has_feed}

abbrev pub None : List ℕ → ℕ → Type 0
None text i = (k : ℕ) → k < i → get_or text k 0 ≢ 10

next : (b : ℕ) (bs : List ℕ) (i : ℕ) → None (b ∷ bs) (suc i) → None bs i
next b bs i none k lt = none (suc k) (omega arith)

-- a line feed, and none before it
pub ends : (text : List ℕ) (i : ℕ) → i < length text → None text i → get_or text i 0 ≡ 10
    → lines_of text ≡ chop (take i text) ∷ lines_of (drop (suc i) text)
ends [] i lt none feed = absurd (omega arith)
ends (b ∷ bs) zero lt none feed = grind (arith, nat_tests)
ends (b ∷ []) (suc i) lt none feed = absurd (omega arith)
ends (b ∷ c ∷ cs) (suc zero) lt none feed = grind (arith, nat_tests, none 0 (omega arith))
ends (b ∷ c ∷ cs) (suc (suc i)) lt none feed =
    grind (arith, nat_tests, none 0 (omega arith), none 1 (omega arith), ends (c ∷ cs) (suc i) (omega arith) (next b (c ∷ cs) (suc i) none) feed)

-- no line feed
pub last : (text : List ℕ) → 0 < length text → None text (length text) → lines_of text ≡ text ∷ []
last [] lt none = absurd (omega arith)
last (b ∷ []) lt none = grind (arith, nat_tests, none 0 (omega arith))
last (b ∷ c ∷ cs) lt none = grind (arith, nat_tests, none 0 (omega arith), none 1 (omega arith), last (c ∷ cs) (omega arith) (next b (c ∷ cs) (length (c ∷ cs)) none))

-- the last byte is a carriage return, or it isn't
pub chop_return : (line : List ℕ) (n : ℕ) → length line ≡ suc n → get_or line n 0 ≡ 13 → chop line ≡ take n line
chop_return [] n len is = absurd (omega arith)
chop_return (b ∷ []) zero len is = grind (arith, nat_tests)
chop_return (b ∷ []) (suc n) len is = absurd (omega arith)
chop_return (b ∷ c ∷ cs) zero len is = absurd (omega arith)
chop_return (b ∷ c ∷ cs) (suc n) len is = grind (arith, chop_return (c ∷ cs) n (omega arith) is)

pub chop_other : (line : List ℕ) (n : ℕ) → length line ≡ suc n → get_or line n 0 ≢ 13 → chop line ≡ line
chop_other [] n len is = absurd (omega arith)
chop_other (b ∷ []) zero len is = grind (arith, nat_tests)
chop_other (b ∷ []) (suc n) len is = absurd (omega arith)
chop_other (b ∷ c ∷ cs) zero len is = absurd (omega arith)
chop_other (b ∷ c ∷ cs) (suc n) len is = grind (arith, chop_other (c ∷ cs) n (omega arith) is)

pub chop_none : (line : List ℕ) → length line ≡ 0 → chop line ≡ line
chop_none [] len = refl
chop_none (b ∷ bs) len = absurd (omega arith)

neither : (a b : Bool) → (a || b) ≡ false → (a ≡ false) × (b ≡ false)
neither true b e = absurd cc
neither false b e = (refl, e)

-- what stands before a line feed is a line
pub feed_ends : (line rest : List ℕ) → has_feed line ≡ false → lines_of (line ++ (10 ∷ rest)) ≡ chop line ∷ lines_of rest
feed_ends [] rest none = refl
feed_ends (b ∷ []) rest none = let p = neither (b == 10) false none in grind (arith, nat_tests, p.0)
feed_ends (b ∷ c ∷ cs) rest none =
    let p = neither (b == 10) (has_feed (c ∷ cs)) none in
    let q = neither (c == 10) (has_feed cs) p.1 in
    grind (arith, nat_tests, p.0, q.0, feed_ends (c ∷ cs) rest p.1)

pub no_feed : (b : ℕ) (line : List ℕ) → has_feed (b ∷ line) ≡ false → lines_of (b ∷ line) ≡ (b ∷ line) ∷ []
no_feed b [] none = let p = neither (b == 10) false none in grind (arith, nat_tests, p.0)
no_feed b (c ∷ cs) none =
    let p = neither (b == 10) (has_feed (c ∷ cs)) none in
    let q = neither (c == 10) (has_feed cs) p.1 in
    grind (arith, nat_tests, p.0, q.0, no_feed c cs p.1)
