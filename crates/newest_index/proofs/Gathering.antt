-- The walk over the records of a key, from the newest back, gathers all of them, or changes them.
use Rattle.std.proofs.Common.{ℕ, zero, suc, ◌≡◌, ◌<◌, ◌≤◌, Bool, true, false, List, [], ◌∷◌, ◌++◌, map, Option, Some, None, if◌then◌else◌, length, take, drop, slice_get, slice_set, get_or, refl, sym, ap, subst, ◌∙◌, arith, append_assoc}
use Rattle.std.specs.Cmp.{IsEquivalence}
use Rattle.std.proofs.lemmas.List.{length-map, append-nil}
use Rattle.newest_index.specs.Newest.{last_place}
use Rattle.newest_index.specs.Gathered.{gathered, changed_where}
use Rattle.newest_index.proofs.Opens.{last_place-at, last_place-same, mapped_at}
use Rattle.newest_index.proofs.Places.{got}
use Rattle.newest_index.proofs.Walks.{keys_more, keys_none, take_some, take_none}

pub take_all : {A : Type 0} (xs : List A) → take (length xs) xs ≡ xs
take_all [] = refl
take_all (x ∷ xs) = ap (λ ys. x ∷ ys) (take_all xs)

pub drop_all : {A : Type 0} (xs : List A) → drop (length xs) xs ≡ []
drop_all [] = refl
drop_all (x ∷ xs) = drop_all xs

pub take_within : {A : Type 0} (n : ℕ) (xs : List A) (i : ℕ) (x : A) → slice_get (take n xs) i ≡ Some x → (i < n) × (slice_get xs i ≡ Some x)
take_within zero xs i x is = absurd (cc)
take_within (suc n) [] i x is = absurd (cc)
take_within (suc n) (y ∷ ys) zero x is = (omega arith, is)
take_within (suc n) (y ∷ ys) (suc i) x is = let t = take_within n ys i x is in (omega (arith, t.0), t.1)

pub drop_some : {R : Type 0} (rs : List R) (n : ℕ) (r : R) → slice_get rs n ≡ Some r → drop n rs ≡ r ∷ drop (suc n) rs
drop_some [] n r is = absurd (cc)
drop_some (x ∷ rs) zero r is = let e : x ≡ r = cc in ap (λ y. y ∷ rs) e
drop_some (x ∷ rs) (suc n) r is = drop_some rs n r is

pub drop_none : {R : Type 0} (rs : List R) (n : ℕ) → slice_get rs n ≡ None → drop n rs ≡ drop (suc n) rs
drop_none [] zero is = refl
drop_none [] (suc n) is = refl
drop_none (x ∷ rs) zero is = absurd (cc)
drop_none (x ∷ rs) (suc n) is = drop_none rs n is

module _ {R K : Type 0} (key : R → K) (test : K → Bool) where
  -- where a test of the key stands last, the record there passes it
  pub place_within : (rs : List R) (n p : ℕ) → last_place test (take n (map key rs)) ≡ Some p
      → (p < n) × (r : R) × (slice_get rs p ≡ Some r) × (test (key r) ≡ true)
  place_within rs n p at =
      let l = last_place-at test (take n (map key rs)) p at in
      let t = take_within n (map key rs) p l.0 l.1 in
      let m = mapped_at key rs p l.0 t.1 in
      (t.0, m.0, m.1, ap test (sym m.2) ∙ l.2)

module _ {R K B : Type 0} (key : R → K) (test : K → Bool) (step : R → B → B) (start : B) where
  abbrev pub all : List R → B
  all rs = gathered (λ r. test (key r)) step start rs

  none_more : (b : Bool) (rs : List R) (n : ℕ) (r : R) → slice_get rs n ≡ Some r → test (key r) ≡ b
      → (if b then Some n else last_place test (take n (map key rs))) ≡ None
      → (last_place test (take n (map key rs)) ≡ None → all rs ≡ all (drop n rs)) → all rs ≡ all (drop (suc n) rs)
  none_more true rs n r is e none rest = absurd (cc)
  none_more false rs n r is e none rest =
      rest none ∙ ap all (drop_some rs n r is) ∙ ap (λ b. if b then step r (all (drop (suc n) rs)) else all (drop (suc n) rs)) e

  none_next : (o : Option R) (rs : List R) (n : ℕ) → slice_get rs n ≡ o → last_place test (take (suc n) (map key rs)) ≡ None
      → (last_place test (take n (map key rs)) ≡ None → all rs ≡ all (drop n rs)) → all rs ≡ all (drop (suc n) rs)
  none_next None rs n is none rest =
      rest (ap (last_place test) (sym (keys_none key test (λ r. test (key r)) (λ r e. e) rs n is)) ∙ none) ∙ ap all (drop_none rs n is)
  none_next (Some r) rs n is none rest = none_more (test (key r)) rs n r is refl (sym (keys_more key test (λ r. test (key r)) (λ r e. e) rs n r is) ∙ none) rest

  -- no record of the key before the place
  pub gathered_none : (rs : List R) (n : ℕ) → last_place test (take n (map key rs)) ≡ None → all rs ≡ all (drop n rs)
  gathered_none rs zero none = refl
  gathered_none rs (suc n) none = none_next (slice_get rs n) rs n refl none (λ h. gathered_none rs n h)

  some_more : (b : Bool) (rs : List R) (n p : ℕ) (r s : R) → slice_get rs n ≡ Some r → slice_get rs p ≡ Some s → test (key r) ≡ b
      → (if b then Some n else last_place test (take n (map key rs))) ≡ Some p
      → (last_place test (take n (map key rs)) ≡ Some p → all (drop p rs) ≡ step s (all (drop n rs)))
      → all (drop p rs) ≡ step s (all (drop (suc n) rs))
  some_more true rs n p r s is there e at rest =
      let same : n ≡ p = cc in
      let one : Some r ≡ Some s = sym is ∙ ap (slice_get rs) same ∙ there in
      let it : r ≡ s = cc in
      subst (λ (m : ℕ). all (drop m rs) ≡ step s (all (drop (suc n) rs))) same
      (ap all (drop_some rs n r is) ∙ ap (λ b. if b then step r (all (drop (suc n) rs)) else all (drop (suc n) rs)) e
      ∙ ap (λ x. step x (all (drop (suc n) rs))) it)
  some_more false rs n p r s is there e at rest =
      rest at ∙ ap (step s)
      (ap all (drop_some rs n r is) ∙ ap (λ b. if b then step r (all (drop (suc n) rs)) else all (drop (suc n) rs)) e)

  some_next : (o : Option R) (rs : List R) (n p : ℕ) (s : R) → slice_get rs n ≡ o → slice_get rs p ≡ Some s
      → last_place test (take (suc n) (map key rs)) ≡ Some p
      → (last_place test (take n (map key rs)) ≡ Some p → all (drop p rs) ≡ step s (all (drop n rs)))
      → all (drop p rs) ≡ step s (all (drop (suc n) rs))
  some_next None rs n p s is there at rest =
      rest (ap (last_place test) (sym (keys_none key test (λ r. test (key r)) (λ r e. e) rs n is)) ∙ at) ∙ ap (λ ys. step s (all ys)) (drop_none rs n is)
  some_next (Some r) rs n p s is there at rest =
      some_more (test (key r)) rs n p r s is there refl (sym (keys_more key test (λ r. test (key r)) (λ r e. e) rs n r is) ∙ at) rest

  -- one record of the key more
  pub gathered_some : (rs : List R) (n p : ℕ) (s : R) → slice_get rs p ≡ Some s → last_place test (take n (map key rs)) ≡ Some p
      → all (drop p rs) ≡ step s (all (drop n rs))
  gathered_some rs zero p s there at = absurd (cc)
  gathered_some rs (suc n) p s there at = some_next (slice_get rs n) rs n p s refl there at (λ h. gathered_some rs n p s there h)

get_at : {R : Type 0} (xs ys : List R) (n : ℕ) (r : R) → slice_get xs n ≡ Some r → slice_get (take (suc n) xs ++ ys) n ≡ Some r
get_at [] ys n r is = absurd (cc)
get_at (x ∷ xs) ys zero r is = is
get_at (x ∷ xs) ys (suc n) r is = get_at xs ys n r is

set_at : {R : Type 0} (xs ys : List R) (n : ℕ) (r v : R) → slice_get xs n ≡ Some r
    → slice_set (take (suc n) xs ++ ys) n v ≡ take n xs ++ v ∷ ys
set_at [] ys n r v is = absurd (cc)
set_at (x ∷ xs) ys zero r v is = refl
set_at (x ∷ xs) ys (suc n) r v is = ap (λ zs. x ∷ zs) (set_at xs ys n r v is)

module _ {R K : Type 0} (key : R → K) (test : K → Bool) (change : R → R) where
  -- the records from a place on are changed
  abbrev pub from_place : ℕ → List R → List R
  from_place n rs = take n rs ++ changed_where (λ r. test (key r)) change (drop n rs)

  same_by : (b : Bool) (rs : List R) (n : ℕ) (r : R) → slice_get rs n ≡ Some r → test (key r) ≡ b
      → from_place n rs ≡ take n rs ++ (if b then change r else r) ∷ changed_where (λ r. test (key r)) change (drop (suc n) rs)
  same_by b rs n r is e =
      ap (λ ys. take n rs ++ changed_where (λ r. test (key r)) change ys) (drop_some rs n r is)
      ∙ ap (λ b. take n rs ++ (if b then change r else r) ∷ changed_where (λ r. test (key r)) change (drop (suc n) rs)) e

  unchanged : (rs : List R) (n : ℕ) (r : R) → slice_get rs n ≡ Some r → test (key r) ≡ false → from_place (suc n) rs ≡ from_place n rs
  unchanged rs n r is e =
      let rest = changed_where (λ r. test (key r)) change (drop (suc n) rs) in
      ap (λ ys. ys ++ rest) (take_some rs n r is) ∙ append_assoc (take n rs) (r ∷ []) rest ∙ sym (same_by false rs n r is e)

  beyond : (rs : List R) (n : ℕ) → slice_get rs n ≡ None → from_place (suc n) rs ≡ from_place n rs
  beyond rs n is =
      ap (λ ys. ys ++ changed_where (λ r. test (key r)) change (drop (suc n) rs)) (take_none rs n is)
      ∙ ap (λ ys. take n rs ++ changed_where (λ r. test (key r)) change ys) (sym (drop_none rs n is))

  left_more : (b : Bool) (rs : List R) (n : ℕ) (r : R) → slice_get rs n ≡ Some r → test (key r) ≡ b
      → (if b then Some n else last_place test (take n (map key rs))) ≡ None
      → (last_place test (take n (map key rs)) ≡ None → from_place n rs ≡ from_place 0 rs) → from_place (suc n) rs ≡ from_place 0 rs
  left_more true rs n r is e none rest = absurd (cc)
  left_more false rs n r is e none rest = unchanged rs n r is e ∙ rest none

  left_next : (o : Option R) (rs : List R) (n : ℕ) → slice_get rs n ≡ o → last_place test (take (suc n) (map key rs)) ≡ None
      → (last_place test (take n (map key rs)) ≡ None → from_place n rs ≡ from_place 0 rs) → from_place (suc n) rs ≡ from_place 0 rs
  left_next None rs n is none rest =
      beyond rs n is ∙ rest (ap (last_place test) (sym (keys_none key test (λ r. test (key r)) (λ r e. e) rs n is)) ∙ none)
  left_next (Some r) rs n is none rest =
      left_more (test (key r)) rs n r is refl (sym (keys_more key test (λ r. test (key r)) (λ r e. e) rs n r is) ∙ none) rest

  -- no record of the key is left before the place
  pub changed_none : (rs : List R) (n : ℕ) → last_place test (take n (map key rs)) ≡ None → from_place n rs ≡ from_place 0 rs
  changed_none rs zero none = refl
  changed_none rs (suc n) none = left_next (slice_get rs n) rs n refl none (λ h. changed_none rs n h)

  -- the record of a place is as it was, and once it is changed the records from that place on are
  abbrev pub IsWritten : List R → ℕ → ℕ → R → Type 0
  IsWritten rs n p s = (slice_get (from_place n rs) p ≡ Some s) × (slice_set (from_place n rs) p (change s) ≡ from_place p rs)

  write_more : (b : Bool) (rs : List R) (n p : ℕ) (r s : R) → slice_get rs n ≡ Some r → slice_get rs p ≡ Some s → test (key r) ≡ b
      → (if b then Some n else last_place test (take n (map key rs))) ≡ Some p
      → (last_place test (take n (map key rs)) ≡ Some p → IsWritten rs n p s) → IsWritten rs (suc n) p s
  write_more true rs n p r s is there e at rest =
      let same : n ≡ p = cc in
      let one : Some r ≡ Some s = sym is ∙ ap (slice_get rs) same ∙ there in
      let it : r ≡ s = cc in
      let more = changed_where (λ r. test (key r)) change (drop (suc n) rs) in
      subst (λ (m : ℕ). IsWritten rs (suc n) m s) same (
        get_at rs more n s (is ∙ one),
        ap (slice_set (from_place (suc n) rs) n) (ap change (sym it)) ∙ set_at rs more n r (change r) is ∙ sym (same_by true rs n r is e),
      )
  write_more false rs n p r s is there e at rest =
      subst (λ (ys : List R). (slice_get ys p ≡ Some s) × (slice_set ys p (change s) ≡ from_place p rs)) (sym (unchanged rs n r is e)) (rest at)

  write_next : (o : Option R) (rs : List R) (n p : ℕ) (s : R) → slice_get rs n ≡ o → slice_get rs p ≡ Some s
      → last_place test (take (suc n) (map key rs)) ≡ Some p
      → (last_place test (take n (map key rs)) ≡ Some p → IsWritten rs n p s) → IsWritten rs (suc n) p s
  write_next None rs n p s is there at rest =
      subst (λ (ys : List R). (slice_get ys p ≡ Some s) × (slice_set ys p (change s) ≡ from_place p rs)) (sym (beyond rs n is))
      (rest (ap (last_place test) (sym (keys_none key test (λ r. test (key r)) (λ r e. e) rs n is)) ∙ at))
  write_next (Some r) rs n p s is there at rest =
      write_more (test (key r)) rs n p r s is there refl (sym (keys_more key test (λ r. test (key r)) (λ r e. e) rs n r is) ∙ at) rest

  -- the record that comes next is changed
  pub changed_some : (rs : List R) (n p : ℕ) (s : R) → slice_get rs p ≡ Some s → last_place test (take n (map key rs)) ≡ Some p → IsWritten rs n p s
  changed_some rs zero p s there at = absurd (cc)
  changed_some rs (suc n) p s there at = write_next (slice_get rs n) rs n p s refl there at (λ h. changed_some rs n p s there h)

-- The walk's links

first_link : {K : Type 0} (eq : K → K → Bool) (keys : List K) (k : K) (n : ℕ) (next : Option ℕ) → n ≡ length keys
    → next ≡ last_place (eq k) keys → next ≡ last_place (eq k) (take n keys)
first_link eq keys k n next whole at = at ∙ ap (last_place (eq k)) (sym (ap (λ m. take m keys) whole ∙ take_all keys))

next_link : {K : Type 0} (eq : K → K → Bool) → IsEquivalence eq → (keys : List K) (k : K) (n p : ℕ) (next : Option ℕ)
    → last_place (eq k) (take n keys) ≡ Some p
    → ((j : K) → slice_get keys p ≡ Some j → next ≡ last_place (eq j) (take p keys)) → next ≡ last_place (eq k) (take p keys)
next_link eq laws keys k n p next at link =
    let l = last_place-at (eq k) (take n keys) p at in
    let t = take_within n keys p l.0 l.1 in
    link l.0 t.1 ∙ last_place-same (eq l.0) (eq k) (λ z. sym (laws.congr k l.0 z l.2)) (take p keys)

-- where a walk stands: the place that comes next
abbrev pub IsNext : {Q K : Type 0} → (Q → K) → (K → K → Bool) → K → List Q → ℕ → Option ℕ → Type 0
IsNext key eq k qs n next = next ≡ last_place (eq k) (take n (map key qs))

pub starts : {Q K : Type 0} (key : Q → K) (eq : K → K → Bool) (k : K) (qs : List Q) (n : ℕ) (next : Option ℕ) → n ≡ length qs
    → next ≡ last_place (eq k) (map key qs) → IsNext key eq k qs n next
starts key eq k qs n next whole at = first_link eq (map key qs) k n next (whole ∙ sym (length-map qs key)) at

pub goes_on : {Q K : Type 0} (key : Q → K) (eq : K → K → Bool) → IsEquivalence eq → (k : K) (qs : List Q) (n p : ℕ) (now next : Option ℕ)
    → IsNext key eq k qs n now → now ≡ Some p
    → ((j : K) → slice_get (map key qs) p ≡ Some j → next ≡ last_place (eq j) (take p (map key qs))) → IsNext key eq k qs p next
goes_on key eq laws k qs n p now next at is link = next_link eq laws (map key qs) k n p next (sym at ∙ is) link

pub stays_within : {Q K : Type 0} (key : Q → K) (eq : K → K → Bool) (k : K) (qs : List Q) (n p : ℕ) (now : Option ℕ)
    → IsNext key eq k qs n now → now ≡ Some p → n ≤ p → ⊥
stays_within key eq k qs n p now at is beyond =
    let w = place_within key (eq k) qs n p (sym at ∙ is) in omega (arith, w.0, beyond)

pub gathers_none : {Q B : Type 0} (test : Q → Bool) (step : Q → B → B) (start : B) (qs : List Q) (n : ℕ) → n ≡ length qs
    → start ≡ gathered test step start (drop n qs)
gathers_none test step start qs n whole = ap (gathered test step start) (sym (ap (λ m. drop m qs) whole ∙ drop_all qs))

pub gathers_one : {Q K B : Type 0} (key : Q → K) (eq : K → K → Bool) (k : K) (step : Q → B → B) (start : B) (qs : List Q) (n p : ℕ)
    (now : Option ℕ) (q : Q) (found made : B)
    → IsNext key eq k qs n now → now ≡ Some p → q ≡ get_or qs p q → made ≡ step q found
    → found ≡ gathered (λ q. eq k (key q)) step start (drop n qs) → made ≡ gathered (λ q. eq k (key q)) step start (drop p qs)
gathers_one key eq k step start qs n p now q found made at is here by all =
    let w = place_within key (eq k) qs n p (sym at ∙ is) in
    let it : q ≡ w.1 = got qs p q w.1 w.2 here in
    by ∙ ap (λ x. step x found) it ∙ ap (step w.1) all ∙ sym (gathered_some key (eq k) step start qs n p w.1 w.2 (sym at ∙ is))

pub gathers_all : {Q K B : Type 0} (key : Q → K) (eq : K → K → Bool) (k : K) (step : Q → B → B) (start : B) (qs : List Q) (n : ℕ)
    (now : Option ℕ) (found : B) → IsNext key eq k qs n now → now ≡ None
    → found ≡ gathered (λ q. eq k (key q)) step start (drop n qs) → found ≡ gathered (λ q. eq k (key q)) step start qs
gathers_all key eq k step start qs n now found at is all =
    all ∙ sym (gathered_none key (eq k) step start qs n (sym at ∙ is))

pub changes_none : {Q K : Type 0} (key : Q → K) (test : K → Bool) (change : Q → Q) (qs : List Q) (n : ℕ) → n ≡ length qs
    → qs ≡ from_place key test change n qs
changes_none key test change qs n whole =
    sym (append-nil qs)
    ∙ ap (λ ys. ys ++ []) (sym (ap (λ m. take m qs) whole ∙ take_all qs))
    ∙ ap (λ ys. take n qs ++ changed_where (λ q. test (key q)) change ys) (sym (ap (λ m. drop m qs) whole ∙ drop_all qs))

pub changes_one : {Q K : Type 0} (key : Q → K) (eq : K → K → Bool) (k : K) (change : Q → Q) (qs now_items : List Q) (n p : ℕ)
    (now : Option ℕ) (q made : Q) → IsNext key eq k qs n now → now ≡ Some p → q ≡ get_or now_items p q → made ≡ change q
    → now_items ≡ from_place key (eq k) change n qs → slice_set now_items p made ≡ from_place key (eq k) change p qs
changes_one key eq k change qs now_items n p now q made at is here by all =
    let w = place_within key (eq k) qs n p (sym at ∙ is) in
    let c = changed_some key (eq k) change qs n p w.1 w.2 (sym at ∙ is) in
    let it : q ≡ w.1 = got now_items p q w.1 (ap (λ ys. slice_get ys p) all ∙ c.0) here in
    ap (λ ys. slice_set ys p made) all ∙ ap (slice_set (from_place key (eq k) change n qs) p) (by ∙ ap change it) ∙ c.1

pub changes_all : {Q K : Type 0} (key : Q → K) (test : K → Bool) (change : Q → Q) (qs items : List Q) (n : ℕ) (now : Option ℕ)
    → now ≡ last_place test (take n (map key qs)) → now ≡ None → items ≡ from_place key test change n qs
    → items ≡ changed_where (λ q. test (key q)) change qs
changes_all key test change qs items n now at is all = all ∙ changed_none key test change qs n (sym at ∙ is)

-- keys that stay under a change of some records
pub keys_stay : {R K : Type 0} (key : R → K) (test : R → Bool) (change : R → R) (rs : List R) → ((r : R) → key (change r) ≡ key r)
    → map key (changed_where test change rs) ≡ map key rs
keys_stay key test change [] keeps = refl
keys_stay key test change (r ∷ rs) keeps = ap2 (by (test r)) (keys_stay key test change rs keeps)
  where
    by : (t : Bool) → key (if t then change r else r) ≡ key r
    by true = keeps r
    by false = refl

    ap2 : {A : Type 0} {x y : A} {xs ys : List A} → x ≡ y → xs ≡ ys → x ∷ xs ≡ y ∷ ys
    ap2 e d = cc
