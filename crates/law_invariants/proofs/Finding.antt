-- Members of lists, and the first member that passes a test.
use Rattle.std.proofs.Common.{ℕ, ◌≡◌, ◌≢◌, ◌<◌, Bool, true, false, cond, ◌&&◌, ◌||◌, List, [], ◌∷◌, ◌++◌, Option, Some, None, ◌⊎◌, inl, inr, map, refl, sym, ap, subst, ◌∙◌, eqb, eqb-true, arith}
use Rattle.std.specs.List.{filter, find}
use Rattle.std.specs.Option.{option_map, is_some, is_none, unwrap_or, option_or}
use Rattle.std.proofs.lemmas.Bool.{cond_both, true≢false}
use Rattle.std.proofs.lemmas.Bool.Decides.{nat_tests}
use Rattle.row_values.specs.Ids.{Kind, Namespace, Table, Tablet, Schedule, Snapshot, Restoration, Clone, Id, same_kind, same}
use Rattle.row_values.specs.Elements.{In}
use Rattle.law_store.proofs.Keys.{either_way}
use Rattle.model.specs.Tablets.{BodyKind, FenceKind, FreezeKind, RestoreFromKind, HideKind, CopyKind, ReleaseKind, same_body}

-- Tests

-- both tests pass
pub both_pass : (a b : Bool) → (a && b) ≡ true → (a ≡ true) × (b ≡ true)
both_pass true b h = (refl, h)
both_pass false b h = cc

pub passes_both : (a b : Bool) → a ≡ true → b ≡ true → (a && b) ≡ true
passes_both true b h q = q
passes_both false b h q = cc

pub either_passes : (a b : Bool) → b ≡ true → (a || b) ≡ true
either_passes true b e = refl
either_passes false b e = e

-- one of them passes
pub either_is : {P : Type 0} (a b : Bool) → (a || b) ≡ true → (a ≡ true → P) → (b ≡ true → P) → P
either_is true b e one other = one refl
either_is false b e one other = other e

-- where the one fails, both do
pub first_fails : (a b : Bool) → a ≡ false → (a && b) ≡ false
first_fails true b h = cc
first_fails false b h = refl

pub second_fails : (a b : Bool) → b ≡ false → (a && b) ≡ false
second_fails true b h = h
second_fails false b h = refl

-- what is not true is false
pub not_passing : (b : Bool) → (b ≡ true → ⊥) → b ≡ false
not_passing true h = absurd (h refl)
not_passing false h = refl

pub none_or_some : {A : Type 0} {P : Type 0} (o : Option A) → (o ≡ None → P) → ((x : A) → o ≡ Some x → P) → P
none_or_some None none some = none refl
none_or_some (Some x) none some = some x refl

-- Options

pub none_is : {A : Type 0} (o : Option A) → is_none o ≡ true → o ≡ None
none_is None e = refl
none_is (Some x) e = cc

pub not_some_is : {A : Type 0} (o : Option A) → is_some o ≡ false → o ≡ None
not_some_is None e = refl
not_some_is (Some x) e = cc

pub some_is : {A : Type 0} (o : Option A) (d : A) → is_none o ≡ false → o ≡ Some (unwrap_or o d)
some_is None d e = cc
some_is (Some x) d e = refl

-- Identifiers

pub kind_equal : (a b : Kind) → same_kind a b ≡ true → a ≡ b
kind_equal Namespace Namespace e = refl
kind_equal Table Table e = refl
kind_equal Tablet Tablet e = refl
kind_equal Schedule Schedule e = refl
kind_equal Snapshot Snapshot e = refl
kind_equal Restoration Restoration e = refl
kind_equal Clone Clone e = refl
kind_equal a b e = absurd (let q = e in grind arith)

kind_self : (a : Kind) → same_kind a a ≡ true
kind_self Namespace = refl
kind_self _ = refl

pub body_equal : (a b : BodyKind) → same_body a b ≡ true → a ≡ b
body_equal FenceKind FenceKind e = refl
body_equal FreezeKind FreezeKind e = refl
body_equal RestoreFromKind RestoreFromKind e = refl
body_equal HideKind HideKind e = refl
body_equal CopyKind CopyKind e = refl
body_equal ReleaseKind ReleaseKind e = refl
body_equal a b e = absurd (let q = e in grind arith)

pub body_self : (a : BodyKind) → same_body a a ≡ true
body_self FenceKind = refl
body_self _ = refl

-- the test of equal identifiers is their equality
pub same_equal : (a b : Id) → same a b ≡ true → a ≡ b
same_equal a b e =
    let both = both_pass (eqb a.number b.number) (same_kind a.kind b.kind) e in
    let number : a.number ≡ b.number = eqb-true _ _ both.0 in
    let kind = kind_equal a.kind b.kind both.1 in
    let made : Kind → ℕ → Id = λ k n. record { kind = k; number = n } in
    ap (λ k. made k a.number) kind ∙ ap (made b.kind) number

pub same_self : (a : Id) → same a a ≡ true
same_self a = passes_both (eqb a.number a.number) (same_kind a.kind a.kind) (grind (arith, nat_tests)) (kind_self a.kind)

pub not_same : (a b : Id) → a ≢ b → same a b ≡ false
not_same a b apart = not_passing (same a b) (λ e. apart (same_equal a b e))

-- identifiers with other numbers are not the same
pub apart_by_number : (a b : Id) → a.number < b.number → a ≢ b
apart_by_number a b l e = let n : a.number ≡ b.number = ap (λ i. i.number) e in omega arith

-- Members

pub in_append : {A : Type 0} (xs ys : List A) (a : A) → In a (xs ++ ys) → In a xs ⊎ In a ys
in_append [] ys a isin = inr isin
in_append (x ∷ xs) ys a (inl e) = inl (inl e)
in_append (x ∷ xs) ys a (inr isin) = elim (in_append xs ys a isin) [ inl h ↦ inl (inr h) | inr h ↦ inr h ]

pub in_first : {A : Type 0} (xs ys : List A) (a : A) → In a xs → In a (xs ++ ys)
in_first [] ys a isin = absurd isin
in_first (x ∷ xs) ys a (inl e) = inl e
in_first (x ∷ xs) ys a (inr isin) = inr (in_first xs ys a isin)

pub in_second : {A : Type 0} (xs ys : List A) (a : A) → In a ys → In a (xs ++ ys)
in_second [] ys a isin = isin
in_second (x ∷ xs) ys a isin = inr (in_second xs ys a isin)

-- a member of a list with one more is an old one, or that
pub in_added : {A : Type 0} (P : A → Type 0) (xs : List A) (y : A) → ((a : A) → In a xs → P a) → P y → (a : A) → In a (xs ++ y ∷ []) → P a
in_added P xs y old new a isin = elim (in_append xs (y ∷ []) a isin) [
  | inl h ↦ old a h
  | inr h ↦ elim h [ inl e ↦ subst P e new | inr none ↦ absurd none ]
]

-- the members of a filtered list are those that pass its test
pub in_filter : {A : Type 0} (xs : List A) (test : A → Bool) (a : A) → In a xs → test a ≡ true → In a (filter test xs)
in_filter [] test a isin t = absurd isin
in_filter (x ∷ xs) test a (inl e) t = let k : test x ≡ true = ap test e ∙ t in rw k (inl e)
in_filter (x ∷ xs) test a (inr isin) t = cond_both (test x) (x ∷ filter test xs) (filter test xs) (In a) (λ k. inr (in_filter xs test a isin t)) (λ k. in_filter xs test a isin t)

pub filter_in : {A : Type 0} (xs : List A) (test : A → Bool) (a : A) → In a (filter test xs) → In a xs × (test a ≡ true)
filter_in [] test a isin = absurd isin
filter_in (x ∷ xs) test a isin = either_way (test x)
    (λ e. let k : In a (x ∷ filter test xs) = rw e at isin in
    elim k [ inl q ↦ (inl q, ap test (sym q) ∙ e) | inr r ↦ (let h = filter_in xs test a r in (inr h.0, h.1)) ])
    (λ e. let k : In a (filter test xs) = rw e at isin in let h = filter_in xs test a k in (inr h.0, h.1))

-- what holds of the image of each member holds of each member of the image
pub in_mapped : {A B : Type 0} (f : A → B) (P : B → Type 0) (xs : List A) → ((a : A) → In a xs → P (f a)) → (b : B) → In b (map f xs) → P b
in_mapped f P [] each b isin = absurd isin
in_mapped f P (x ∷ xs) each b (inl e) = subst P e (each x (inl refl))
in_mapped f P (x ∷ xs) each b (inr isin) = in_mapped f P xs (λ a h. each a (inr h)) b isin

pub map_in : {A B : Type 0} (f : A → B) (xs : List A) (a : A) → In a xs → In (f a) (map f xs)
map_in f [] a isin = absurd isin
map_in f (x ∷ xs) a (inl e) = inl (ap f e)
map_in f (x ∷ xs) a (inr isin) = inr (map_in f xs a isin)

-- The first that passes

-- what is found is a member and passes
pub record IsFound {A : Type 0} (test : A → Bool) (xs : List A) (a : A) : Type 0 where
  pub listed : In a xs
  pub passes : test a ≡ true

pub find_is : {A : Type 0} (test : A → Bool) (xs : List A) (a : A) → find test xs ≡ Some a → IsFound test xs a
find_is test [] a e = cc
find_is test (x ∷ xs) a e = either_way (test x)
    (λ t. let first : x ≡ a = cc in record { listed = inl first; passes = ap test (sym first) ∙ t })
    (λ f. let rest = find_is test xs a (rw f at e) in record { listed = inr rest.listed; passes = rest.passes })

-- where none is found each fails
pub find_none : {A : Type 0} (test : A → Bool) (xs : List A) → find test xs ≡ None → (a : A) → In a xs → test a ≡ false
find_none test [] e a isin = absurd isin
find_none test (x ∷ xs) e a (inl is) = either_way (test x) (λ t. cc) (λ f. ap test (sym is) ∙ f)
find_none test (x ∷ xs) e a (inr isin) = either_way (test x) (λ t. cc) (λ f. find_none test xs (rw f at e) a isin)

pub none_found : {A : Type 0} (test : A → Bool) (xs : List A) → ((a : A) → In a xs → test a ≡ false) → find test xs ≡ None
none_found test [] each = refl
none_found test (x ∷ xs) each = rw (each x (inl refl)) (none_found test xs (λ a h. each a (inr h)))

-- two tests that agree on the members find the same
pub find_alike : {A : Type 0} (test other : A → Bool) (xs : List A) → ((a : A) → In a xs → test a ≡ other a) → find test xs ≡ find other xs
find_alike test other [] each = refl
find_alike test other (x ∷ xs) each =
    ap (λ b. cond b (Some x) (find test xs)) (each x (inl refl)) ∙ ap (cond (other x) (Some x)) (find_alike test other xs (λ a h. each a (inr h)))

-- the one that is found is found among the images, where its own passes and no image passes for one that fails
pub find_mapped : {A : Type 0} (test : A → Bool) (f : A → A) (xs : List A) (a : A) → find test xs ≡ Some a → test (f a) ≡ true → ((b : A) → In b xs → test b ≡ false → test (f b) ≡ false)
    → find test (map f xs) ≡ Some (f a)
find_mapped test f [] a e passes fails = cc
find_mapped test f (x ∷ xs) a e passes fails = either_way (test x)
    (λ t. let first : x ≡ a = cc in let p : test (f x) ≡ true = ap (λ y. test (f y)) first ∙ passes in rw p (ap (λ y. Some (f y)) first))
    (λ n. rw (fails x (inl refl) n) (find_mapped test f xs a (rw n at e) passes (λ b h. fails b (inr h))))

-- where the image passes as the member does, what is found is the image
pub find_through : {A : Type 0} (test : A → Bool) (f : A → A) (xs : List A) → ((a : A) → In a xs → test (f a) ≡ test a) → find test (map f xs) ≡ option_map f (find test xs)
find_through test f [] each = refl
find_through test f (x ∷ xs) each = rw (each x (inl refl)) (either_way (test x)
    (λ t. rw t refl)
    (λ n. rw n (find_through test f xs (λ a h. each a (inr h)))))

-- one more is found where none was
pub find_added : {A : Type 0} (test : A → Bool) (xs : List A) (y : A) → find test xs ≡ None → test y ≡ true → find test (xs ++ y ∷ []) ≡ Some y
find_added test [] y e t = rw t refl
find_added test (x ∷ xs) y e t = either_way (test x) (λ p. cc) (λ n. rw n (find_added test xs y (rw n at e) t))

-- one more that fails is not found
pub find_beside : {A : Type 0} (test : A → Bool) (xs : List A) (y : A) → test y ≡ false → find test (xs ++ y ∷ []) ≡ find test xs
find_beside test [] y n = rw n refl
find_beside test (x ∷ xs) y n = ap (cond (test x) (Some x)) (find_beside test xs y n)

-- what was found stays the first
pub find_before : {A : Type 0} (test : A → Bool) (xs ys : List A) (a : A) → find test xs ≡ Some a → find test (xs ++ ys) ≡ Some a
find_before test [] ys a e = cc
find_before test (x ∷ xs) ys a e = either_way (test x) (λ t. rw t (rw t at e)) (λ n. rw n (find_before test xs ys a (rw n at e)))

pub not_either : {A : Type 0} (a b : Option A) → is_some (option_or a b) ≡ false → is_some b ≡ false
not_either None b e = e
not_either (Some x) b e = absurd (true≢false e)

pub find_only : {A : Type 0} (test : A → Bool) (xs : List A) (a : A) → In a xs → test a ≡ true → ((b : A) → In b xs → test b ≡ true → b ≡ a) → find test xs ≡ Some a
find_only test [] a isin t only = absurd isin
find_only test (x ∷ xs) a isin t only = either_way (test x)
    (λ b. ap (λ c. cond c (Some x) (find test xs)) b ∙ ap Some (only x (inl refl) b))
    (λ b.
    let rest : In a xs = elim isin [ inl e ↦ absurd (true≢false (sym t ∙ ap test (sym e) ∙ b)) | inr rest ↦ rest ] in
    ap (λ c. cond c (Some x) (find test xs)) b ∙ find_only test xs a rest t (λ y h. only y (inr h)))

pub find_in_first : {A : Type 0} (test : A → Bool) (xs ys : List A) → ((a : A) → In a ys → test a ≡ false) → find test (xs ++ ys) ≡ find test xs
find_in_first test [] ys none = none_found test ys none
find_in_first test (x ∷ xs) ys none = ap (cond (test x) (Some x)) (find_in_first test xs ys none)
