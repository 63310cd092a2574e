-- Records of which the earlier were over when the later began: what is found at the last place of a test, and what changes
-- there.
use Rattle.std.proofs.Common.{ℕ, zero, suc, ◌≡◌, ◌+◌, ◌<◌, ◌≤◌, ◌⊎◌, inl, inr, Bool, true, false, cond, ◌&&◌, List, [], ◌∷◌, ◌++◌, map, Option, Some, None, if◌then◌else◌, length, slice_get, slice_set, filter, refl, sym, ap, subst, ◌∙◌, arith}
use Rattle.std.specs.List.{find}
use Rattle.std.specs.Option.{option_or}
use Rattle.std.proofs.lemmas.Option.{slice_get_within}
use Rattle.newest_index.specs.Newest.{last_from, last_place, if_open, record_of, changed_here, changed_at, InTurn}
use Rattle.newest_index.proofs.Opens.{last_place-at, map_at, map_same, mapped_at, next_at}

-- Last places of a list with one more item before it

abbrev pub next_of : Option ℕ → Option ℕ
next_of None = None
next_of (Some p) = Some (suc p)

or_found : (b : Bool) (l found : Option ℕ) (at : ℕ) → option_or l (if b then Some at else found) ≡ option_or (option_or l (if b then Some at else None)) found
or_found true None found at = refl
or_found false None found at = refl
or_found b (Some p) found at = refl

last_from-start : {A : Type 0} (t : A → Bool) (at : ℕ) (xs : List A) (found : Option ℕ) → last_from t at xs found ≡ option_or (last_from t at xs None) found
last_from-start t at [] found = refl
last_from-start t at (x ∷ xs) found =
    last_from-start t (at + 1) xs (if t x then Some at else found)
    ∙ or_found (t x) (last_from t (at + 1) xs None) found at
    ∙ ap (λ l. option_or l found) (sym (last_from-start t (at + 1) xs (if t x then Some at else None)))

next_found : (b : Bool) (found : Option ℕ) (at : ℕ) → (if b then Some (at + 1) else next_of found) ≡ next_of (if b then Some at else found)
next_found true found at = ap Some (omega arith)
next_found false found at = refl

last_from-next_of : {A : Type 0} (t : A → Bool) (at : ℕ) (xs : List A) (found : Option ℕ) → last_from t (at + 1) xs (next_of found) ≡ next_of (last_from t at xs found)
last_from-next_of t at [] found = refl
last_from-next_of t at (x ∷ xs) found =
    ap (last_from t (at + 1 + 1) xs) (next_found (t x) found at) ∙ last_from-next_of t (at + 1) xs (if t x then Some at else found)

pub last_place-cons : {A : Type 0} (t : A → Bool) (x : A) (xs : List A) → last_place t (x ∷ xs) ≡ option_or (next_of (last_place t xs)) (if t x then Some 0 else None)
last_place-cons t x xs =
    last_from-start t (0 + 1) xs (if t x then Some 0 else None)
    ∙ ap (λ l. option_or l (if t x then Some 0 else None)) (last_from-next_of t 0 xs None)

-- the last place by a key is that by the record
last_from-map : {A B : Type 0} (f : A → B) (t : B → Bool) (at : ℕ) (xs : List A) (found : Option ℕ) → last_from t at (map f xs) found ≡ last_from (λ x. t (f x)) at xs found
last_from-map f t at [] found = refl
last_from-map f t at (x ∷ xs) found = last_from-map f t (at + 1) xs (if t (f x) then Some at else found)

pub last_place-map : {A B : Type 0} (f : A → B) (t : B → Bool) (xs : List A) → last_place t (map f xs) ≡ last_place (λ x. t (f x)) xs
last_place-map f t xs = last_from-map f t 0 xs None

-- a place that passes is at most the last
abbrev AtMost : ℕ → Option ℕ → Type 0
AtMost i o = (p : ℕ) × (o ≡ Some p) × (i ≤ p)

among_here : (o : Option ℕ) → AtMost 0 (option_or (next_of o) (Some 0))
among_here None = (0, refl, omega arith)
among_here (Some p) = (suc p, refl, omega arith)

among_later : (i : ℕ) (o rest : Option ℕ) → AtMost i o → AtMost (suc i) (option_or (next_of o) rest)
among_later i o rest m = (suc m.0, ap (λ l. option_or (next_of l) rest) m.1, omega (arith, m.2))

pub last_place-among : {A : Type 0} (t : A → Bool) (xs : List A) (i : ℕ) (x : A) → slice_get xs i ≡ Some x → t x ≡ true → AtMost i (last_place t xs)
last_place-among t [] i x is passes = absurd (cc)
last_place-among t (y ∷ ys) zero x is passes =
    let same : y ≡ x = cc in
    subst (AtMost 0) (sym (last_place-cons t y ys ∙ ap (λ b. option_or (next_of (last_place t ys)) (if b then Some 0 else None)) (ap t same ∙ passes)))
    (among_here (last_place t ys))
last_place-among t (y ∷ ys) (suc i) x is passes =
    subst (AtMost (suc i)) (sym (last_place-cons t y ys)) (among_later i (last_place t ys) (if t y then Some 0 else None) (last_place-among t ys i x is passes))

pub last_place-none : {A : Type 0} (t : A → Bool) (xs : List A) (i : ℕ) (x : A) → last_place t xs ≡ None → slice_get xs i ≡ Some x → t x ≡ true → ⊥
last_place-none t xs i x none is passes =
    let m = last_place-among t xs i x is passes in
    let e : None ≡ Some m.0 = sym none ∙ m.1 in absurd (cc)

-- Of the records that pass, the last alone may be live

abbrev pub OnlyLast : {R : Type 0} → (R → Bool) → (R → Bool) → List R → Type 0
OnlyLast {R} q live rs = (i j : ℕ) (r s : R) → i < j → slice_get rs i ≡ Some r → slice_get rs j ≡ Some s → q r ≡ true → q s ≡ true → live r ≡ false

not_both : (a b : Bool) → (b ≡ true → a ≡ false) → (a && b) ≡ false
not_both true true h = h refl
not_both true false h = refl
not_both false b h = refl

here_alone : {R : Type 0} (live : R → Bool) (r : R) (rs : List R) (a b : Bool) → live r ≡ a → cond (a && b) (Some r) None ≡ if_open live (record_of (r ∷ rs) (if b then Some 0 else None))
here_alone live r rs true true e = sym (ap (λ t. if t then Some r else None) e)
here_alone live r rs false true e = sym (ap (λ t. if t then Some r else None) e)
here_alone live r rs true false e = refl
here_alone live r rs false false e = refl

-- the live record that passes stands at the last place
pub find_last : {R : Type 0} (q live : R → Bool) (rs : List R) → OnlyLast q live rs → find (λ r. live r && q r) rs ≡ if_open live (record_of rs (last_place q rs))
find_last q live [] only = refl
find_last {R} q live (r ∷ rs) only =
    ap (cond (live r && q r) (Some r)) (find_last q live rs (λ i j s t lt is at. only (suc i) (suc j) s t (omega (arith, lt)) is at))
    ∙ by (last_place q rs) refl ∙ sym (ap (λ p. if_open live (record_of (r ∷ rs) p)) (last_place-cons q r rs))
  where
    by : (o : Option ℕ) → last_place q rs ≡ o
        → cond (live r && q r) (Some r) (if_open live (record_of rs (last_place q rs)))
        ≡ if_open live (record_of (r ∷ rs) (option_or (next_of (last_place q rs)) (if q r then Some 0 else None)))
    by None e =
        ap (λ o. cond (live r && q r) (Some r) (if_open live (record_of rs o))) e
        ∙ here_alone live r rs (live r) (q r) refl
        ∙ sym (ap (λ o. if_open live (record_of (r ∷ rs) (option_or (next_of o) (if q r then Some 0 else None)))) e)
    by (Some p) e =
        let l = last_place-at q rs p e in
        let closed = not_both (live r) (q r) (λ mine. only 0 (suc p) r l.0 (omega arith) refl l.1 mine l.2) in
        ap (λ b. cond b (Some r) (if_open live (record_of rs (last_place q rs)))) closed
        ∙ ap (λ o. if_open live (record_of rs o)) e
        ∙ sym (ap (λ o. if_open live (record_of (r ∷ rs) (option_or (next_of o) (if q r then Some 0 else None)))) e)

-- what changes the live record that passes, and no other, is a change at the last place
pub changes_last : {R : Type 0} (q live : R → Bool) (f g : R → R) (rs : List R) → OnlyLast q live rs
    → ((r : R) → q r ≡ true → g r ≡ f r) → ((r : R) → (q r ≡ true → live r ≡ true → ⊥) → g r ≡ r)
    → map g rs ≡ changed_at f rs (last_place q rs)
changes_last {R} q live f g rs only changes stays = by (last_place q rs) refl
  where
    by : (o : Option ℕ) → last_place q rs ≡ o → map g rs ≡ changed_at f rs o
    by None e = map_same g rs (λ i s is. stays s (λ passes opens. last_place-none q rs i s e is passes))
    by (Some p) e =
        let l = last_place-at q rs p e in
        map_at g rs p l.0 l.1
        (λ i s is apart. stays s (λ passes opens.
        let m = last_place-among q rs i s is passes in
        let same : p ≡ m.0 = (let f : Some p ≡ Some m.0 = sym e ∙ m.1 in cc) in
        let shut = only i p s l.0 (grind (arith, apart, same, m.2)) is l.1 passes l.2 in
        let wrong : true ≡ false = sym opens ∙ shut in absurd (cc)))
        ∙ ap (slice_set rs p) (changes l.0 l.2)
        ∙ sym (ap (changed_here f rs p) l.1)

-- Records in turn

kept_by : {R : Type 0} (keep : R → Bool) (r : R) (rs : List R) (b : Bool) (j : ℕ) (s : R)
    → ((k : ℕ) → slice_get (filter keep rs) k ≡ Some s → (i : ℕ) × (slice_get rs i ≡ Some s))
    → slice_get (cond b (r ∷ filter keep rs) (filter keep rs)) j ≡ Some s → (i : ℕ) × (slice_get (r ∷ rs) i ≡ Some s)
kept_by keep r rs true zero s rest is = (0, is)
kept_by keep r rs true (suc j) s rest is = let k = rest j is in (suc k.0, k.1)
kept_by keep r rs false j s rest is = let k = rest j is in (suc k.0, k.1)

kept_at : {R : Type 0} (keep : R → Bool) (rs : List R) (j : ℕ) (s : R) → slice_get (filter keep rs) j ≡ Some s → (i : ℕ) × (slice_get rs i ≡ Some s)
kept_at keep [] j s is = absurd (cc)
kept_at keep (r ∷ rs) j s is = kept_by keep r rs (keep r) j s (λ k at. kept_at keep rs k s at) is

module _ {R : Type 0} (alike over : R → R → Bool) where
  -- of the alike, the last alone may be live
  pub turns_last : (q live : R → Bool) (rs : List R) → ((r s : R) → q r ≡ true → q s ≡ true → alike r s ≡ true) → ((r s : R) → q s ≡ true → over r s ≡ true → live r ≡ false)
      → InTurn alike over rs → OnlyLast q live rs
  turns_last q live rs meets ends turn = λ i j r s lt is at first second. ends r s second (turn.turns i j r s lt is at (meets r s first second))

  pub in_turn-none : InTurn alike over []
  in_turn-none = record { turns = λ i j r s lt is at like. absurd (cc) }

  -- one more
  pub in_turn-next : (rs : List R) (r : R) → ((i : ℕ) (s : R) → slice_get rs i ≡ Some s → alike s r ≡ true → over s r ≡ true) → InTurn alike over rs → InTurn alike over (rs ++ r ∷ [])
  in_turn-next rs r last turn = record { turns = λ i j s t lt is at like. by i j s t lt (next_at rs r s i is) (next_at rs r t j at) like }
    where
      by : (i j : ℕ) (s t : R) → i < j → (slice_get rs i ≡ Some s) ⊎ ((i ≡ length rs) × (s ≡ r)) → (slice_get rs j ≡ Some t) ⊎ ((j ≡ length rs) × (t ≡ r)) → alike s t ≡ true → over s t ≡ true
      by i j s t lt (inl is) (inl at) like = turn.turns i j s t lt is at like
      by i j s t lt (inl is) (inr (here, same)) like =
          subst (λ u. over s u ≡ true) (sym same) (last i s is (subst (λ u. alike s u ≡ true) same like))
      by i j s t lt (inr (end, same)) (inl at) like = absurd (let b = slice_get_within rs j t at in omega (arith, b, end, lt))
      by i j s t lt (inr (end, same)) (inr (here, one)) like = absurd (omega (arith, end, here, lt))

  -- records that change and stay alike and over
  pub in_turn-map : (g : R → R) (rs : List R) → ((r s : R) → alike (g r) (g s) ≡ true → alike r s ≡ true) → ((r s : R) → over r s ≡ true → over (g r) (g s) ≡ true)
      → InTurn alike over rs → InTurn alike over (map g rs)
  in_turn-map g rs likes overs turn = record {
    turns = λ i j r s lt is at like.
        let m = mapped_at g rs i r is in
        let n = mapped_at g rs j s at in
        let both : alike (g m.0) (g n.0) ≡ true = subst (λ x. alike x (g n.0) ≡ true) m.2 (subst (λ x. alike r x ≡ true) n.2 like) in
        let was = turn.turns i j m.0 n.0 lt m.1 n.1 (likes m.0 n.0 both) in
        subst (λ x. over x s ≡ true) (sym m.2) (subst (λ x. over (g m.0) x ≡ true) (sym n.2) (overs m.0 n.0 was));
  }

  in_turn-tail : (r : R) (rs : List R) → InTurn alike over (r ∷ rs) → InTurn alike over rs
  in_turn-tail r rs turn = record { turns = λ i j s t lt is at like. turn.turns (suc i) (suc j) s t (omega (arith, lt)) is at like }

  in_turn-cons : (r : R) (rs : List R) → ((j : ℕ) (s : R) → slice_get rs j ≡ Some s → alike r s ≡ true → over r s ≡ true) → InTurn alike over rs → InTurn alike over (r ∷ rs)
  in_turn-cons r rs first turn = record { turns = λ i j s t lt is at like. by i j s t lt is at like }
    where
      by : (i j : ℕ) (s t : R) → i < j → slice_get (r ∷ rs) i ≡ Some s → slice_get (r ∷ rs) j ≡ Some t → alike s t ≡ true → over s t ≡ true
      by i zero s t lt is at like = absurd (omega (arith, lt))
      by zero (suc j) s t lt is at like = let same : r ≡ s = cc in subst (λ u. over u t ≡ true) same (first j t at (subst (λ u. alike u t ≡ true) (sym same) like))
      by (suc i) (suc j) s t lt is at like = turn.turns i j s t (omega (arith, lt)) is at like

  -- some of them
  pub in_turn-filter : (keep : R → Bool) (rs : List R) → InTurn alike over rs → InTurn alike over (filter keep rs)
  in_turn-filter keep [] turn = in_turn-none
  in_turn-filter keep (r ∷ rs) turn = by (keep r) (in_turn-filter keep rs (in_turn-tail r rs turn))
    where
      by : (b : Bool) → InTurn alike over (filter keep rs) → InTurn alike over (cond b (r ∷ filter keep rs) (filter keep rs))
      by true rest = in_turn-cons r (filter keep rs)
          (λ j s at like. let k = kept_at keep rs j s at in turn.turns 0 (suc k.0) r s (omega arith) refl k.1 like) rest
      by false rest = rest

-- the same of an equal list
pub in_turn-of : {R : Type 0} {alike over : R → R → Bool} (rs ts : List R) → ts ≡ rs → InTurn alike over rs → InTurn alike over ts
in_turn-of {alike = alike} {over = over} rs ts same turn = subst (InTurn alike over) (sym same) turn
