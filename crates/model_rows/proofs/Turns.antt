-- Numbers are drawn in turn, and commands are done once, where the tests of a history say so.
use Rattle.std.proofs.Common.{◌≡◌, ℕ, Bool, true, false, List, [], ◌∷◌, ◌&&◌, ◌+◌, inl, inr, refl, sym, ap, ◌∙◌, subst, eqb, eqb-true, length, arith, zero, suc, Option, Some, None}
use Rattle.std.specs.List.{list_all}
use Rattle.std.proofs.lemmas.Bool.{true≢false}
use Rattle.std.proofs.lemmas.Bool.Decides.{nat_tests}
use Rattle.row_values.specs.Ids.{Id, Kind, Namespace, Table, Tablet, Schedule, Snapshot, Restoration, Clone, same_kind}
use Rattle.row_values.specs.Elements.{In}
use Rattle.model.specs.Acts.{Act, Reply}
use Rattle.model.specs.Parts.{Master}
use Rattle.model.specs.Entries.{Entry}
use Rattle.model.specs.Lists.{numbered_as}
use Rattle.model.specs.Drawn.{AreNext, DrawsNext, DrawsInTurn, drawn_of, drawn_by, new_ids}
use Rattle.model.specs.Once.{Obeyed, NoneAgain}
use Rattle.model_rows.specs.Turns.{are_next, same_ids, draws_next, all_kinds, all_draw_next, draw_in_turn, differ, none_again}

both : (a b : Bool) → (a && b) ≡ true → (a ≡ true) × (b ≡ true)
both true b e = (refl, e)
both false b e = absurd (true≢false (sym e))

-- Kinds

kind_equal : (a b : Kind) → same_kind a b ≡ true → a ≡ b
kind_equal Namespace Namespace e = refl
kind_equal Table Table e = refl
kind_equal Tablet Tablet e = refl
kind_equal Schedule Schedule e = refl
kind_equal Snapshot Snapshot e = refl
kind_equal Restoration Restoration e = refl
kind_equal Clone Clone e = refl
kind_equal a b e = absurd (let q = e in grind arith)

-- Numbers

next_in_turn : (ids : List Id) (kind : Kind) (drawn : ℕ) → are_next kind drawn ids ≡ true → AreNext kind drawn ids
next_in_turn [] kind drawn e = tt
next_in_turn (id ∷ ids) kind drawn e =
    let apart = both _ _ e in
    let first = both (eqb id.number (drawn + 1)) (same_kind id.kind kind) apart.0 in
    let number : id.number ≡ drawn + 1 = eqb-true _ _ first.0 in
    let same_kind : id.kind ≡ kind = kind_equal id.kind kind first.1 in
    let is : id ≡ numbered_as kind (drawn + 1) = ap (λ k. numbered_as k id.number) same_kind ∙ ap (numbered_as kind) number in
    (is, next_in_turn ids kind (drawn + 1) apart.1)

abbrev DrawsKind : Act → Reply → ℕ → Master → Master → Kind → Type 0
DrawsKind act reply n before after kind =
    (drawn_of kind after.drawn ≡ drawn_of kind before.drawn + drawn_of kind (drawn_by act reply n before))
    × (length (new_ids before after kind) ≡ drawn_of kind (drawn_by act reply n before))
    × AreNext kind (drawn_of kind before.drawn) (new_ids before after kind)

draws_kind : (act : Act) (reply : Reply) (n : ℕ) (before after : Master) (kind : Kind) → draws_next act reply n before after kind ≡ true
    → DrawsKind act reply n before after kind
draws_kind act reply n before after kind e =
    let first = both _ _ e in
    let second = both _ _ first.1 in
    (eqb-true _ _ first.0, eqb-true _ _ second.0, next_in_turn _ kind _ second.1)

each_passes : (kinds : List Kind) (test : Kind → Bool) (kind : Kind) → list_all test kinds ≡ true → In kind kinds → test kind ≡ true
each_passes [] test kind e isin = absurd isin
each_passes (k ∷ ks) test kind e (inl is) = subst (λ j. test j ≡ true) is (both _ _ e).0
each_passes (k ∷ ks) test kind e (inr isin) = each_passes ks test kind (both _ _ e).1 isin

in_kinds : (kind : Kind) → In kind all_kinds
in_kinds Namespace = inl refl
in_kinds Table = inr (inl refl)
in_kinds Tablet = inr (inr (inl refl))
in_kinds Schedule = inr (inr (inr (inl refl)))
in_kinds Snapshot = inr (inr (inr (inr (inl refl))))
in_kinds Restoration = inr (inr (inr (inr (inr (inl refl)))))
in_kinds Clone = inr (inr (inr (inr (inr (inr (inl refl))))))

ids_equal : (ids more : List Id) → same_ids ids more ≡ true → ids ≡ more
ids_equal [] [] e = refl
ids_equal [] (b ∷ more) e = absurd (true≢false (sym e))
ids_equal (a ∷ ids) [] e = absurd (true≢false (sym e))
ids_equal (a ∷ ids) (b ∷ more) e =
    let apart = both _ _ e in
    let first = both (eqb a.number b.number) (same_kind a.kind b.kind) apart.0 in
    let kinds : a.kind ≡ b.kind = kind_equal a.kind b.kind first.1 in
    let numbers : a.number ≡ b.number = eqb-true _ _ first.0 in
    let is : a ≡ b = ap (λ k. numbered_as k a.number) kinds ∙ ap (numbered_as b.kind) numbers in
    ap (λ i. i ∷ ids) is ∙ ap (λ is. b ∷ is) (ids_equal ids more apart.1)

each_kind : (act : Act) (reply : Reply) (n : ℕ) (before after : Master) → list_all (draws_next act reply n before after) all_kinds ≡ true → (kind : Kind)
    → DrawsKind act reply n before after kind
each_kind act reply n before after e kind =
    draws_kind act reply n before after kind (each_passes all_kinds (draws_next act reply n before after) kind e (in_kinds kind))

entry_draws : (act : Act) (reply : Reply) (n : ℕ) (before after : Master) → all_draw_next act reply n before after ≡ true
    → DrawsNext act reply n before after
entry_draws act reply n before after e =
    let apart = both _ _ e in
    record {
      count = λ kind. (each_kind act reply n before after apart.0 kind).0;
      given = λ kind. (each_kind act reply n before after apart.0 kind).1;
      next = λ kind. (each_kind act reply n before after apart.0 kind).2;
      named = ids_equal _ _ apart.1;
    }

pub drawn_in_turn : (history : List Entry) (slots : ℕ) → draw_in_turn slots history ≡ true → DrawsInTurn slots history
drawn_in_turn [] slots e = tt
drawn_in_turn (entry ∷ earlier) slots e = let apart = both _ _ e in (drawn_in_turn earlier slots apart.0, entry_draws _ _ _ _ _ apart.1)

-- Commands

not_itself : (o : Obeyed) → differ o o ≡ true → ⊥
not_itself o e = grind (arith, nat_tests)

not_among : (os : List Obeyed) (o : Obeyed) → list_all (differ o) os ≡ true → In o os → ⊥
not_among [] o e isin = absurd isin
not_among (p ∷ os) o e (inl is) = not_itself o (subst (λ q. differ o q ≡ true) is (both _ _ e).0)
not_among (p ∷ os) o e (inr isin) = not_among os o (both _ _ e).1 isin

pub none_done_again : (os : List Obeyed) → none_again os ≡ true → NoneAgain os
none_done_again [] e = tt
none_done_again (o ∷ os) e = let apart = both _ _ e in (none_done_again os apart.0, not_among os o apart.1)

-- Lists

-- what stands at a place of a list

abbrev pub at_place : {A : Type 0} → ℕ → List A → Option A
at_place place [] = None
at_place zero (x ∷ xs) = Some x
at_place (suc place) (x ∷ xs) = at_place place xs

pub in_at : {A : Type 0} (place : ℕ) (xs : List A) (x : A) → at_place place xs ≡ Some x → In x xs
in_at place [] x e = absurd (let q = e in grind arith)
in_at zero (y ∷ xs) x e = inl (let q = e in cc)
in_at (suc place) (y ∷ xs) x e = inr (in_at place xs x e)
