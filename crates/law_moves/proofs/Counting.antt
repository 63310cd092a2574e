-- A switch of the tablets of a namespace: the ranges of those that were active at the time cover the codes from the point on.
use Rattle.std.proofs.Common.{ℕ, ◌≡◌, ◌≤◌, ◌<◌, ◌+◌, List, [], ◌∷◌, ◌++◌, map, Option, Some, None, Bool, true, false, cond, ◌&&◌, inl, inr, refl, sym, ap, subst, ◌∙◌, arith, leb, le-leb, leb-true, leb-false}
use Rattle.std.specs.List.{filter}
use Rattle.std.specs.Option.{is_some}
use Rattle.std.proofs.lemmas.Bool.{true≢false}
use Rattle.std.proofs.lemmas.Bool.Decides.{nat_tests}
use Rattle.model.specs.Cluster.{Id, same, In, ended, before_end, in_range, Owner, owns, Interval, active_at}
use Rattle.model.specs.Restored.{begun_at, end_namespace_tablets}
use Rattle.model.specs.Journal.{Change}
use Rattle.model.specs.Stands.{holders}
use Rattle.model.specs.Stands.{HasRange}
use Rattle.law_store.proofs.Keys.{either_way}
use Rattle.law_invariants.specs.Invariant.{Covered}
use Rattle.law_invariants.proofs.Finding.{same_equal, both_pass, passes_both, first_fails, second_fails, in_append, in_mapped, filter_in}
use Rattle.law_invariants.proofs.Holding.{holders_append}
use Rattle.law_moves.proofs.Viewing.{Inside, restore, restored_before, table_back, table_other}

abbrev one_ : Interval → Id → ℕ → ℕ → Bool
one_ i table code x = same i.table table && (active_at x i && in_range i.low i.high code)

abbrev pub ended_in : List Owner → Id → ℕ → Interval → Interval
ended_in os ns point i = record i { to = cond (owns os ns i.table) (ended point i.to) i.to }

-- the tablets of another namespace hold as they did
ended_others : (is : List Interval) (os : List Owner) (ns : Id) (point : ℕ) (table : Id) (code x : ℕ) → owns os ns table ≡ false → holders (end_namespace_tablets os ns point is) table code x ≡ holders is table code x
ended_others [] os ns point table code x other = refl
ended_others (i ∷ is) os ns point table code x other =
    let rest = ended_others is os ns point table code x other in
    let here : one_ (ended_in os ns point i) table code x ≡ one_ i table code x = either_way (same i.table table)
    (λ b.
    let o : owns os ns i.table ≡ false = ap (owns os ns) (same_equal i.table table b) ∙ other in
    ap (λ c. same i.table table && ((leb i.from x && before_end x (cond c (ended point i.to) i.to)) && in_range i.low i.high code)) o)
    (λ b. first_fails (same i.table table) _ b ∙ sym (first_fails (same i.table table) _ b)) in
    ap (λ c. cond c 1 0 + holders (end_namespace_tablets os ns point is) table code x) here ∙ ap (λ h. cond (one_ i table code x) 1 0 + h) rest

-- before the point all hold as they did
end_early : (b : Bool) (x point : ℕ) (to : Option ℕ) → x < point → before_end x (cond b (ended point to) to) ≡ before_end x to
end_early false x point to l = refl
end_early true x point None l = grind (arith, nat_tests)
end_early true x point (Some e) l = refl

ended_early : (is : List Interval) (os : List Owner) (ns : Id) (point : ℕ) (table : Id) (code x : ℕ) → x < point → holders (end_namespace_tablets os ns point is) table code x ≡ holders is table code x
ended_early [] os ns point table code x l = refl
ended_early (i ∷ is) os ns point table code x l =
    let rest = ended_early is os ns point table code x l in
    let here : one_ (ended_in os ns point i) table code x ≡ one_ i table code x =
    ap (λ c. same i.table table && ((leb i.from x && c) && in_range i.low i.high code)) (end_early (owns os ns i.table) x point i.to l) in
    ap (λ c. cond c 1 0 + holders (end_namespace_tablets os ns point is) table code x) here ∙ ap (λ h. cond (one_ i table code x) 1 0 + h) rest

-- from the point on those of the namespace that were there hold nothing
end_over : (x point : ℕ) (to : Option ℕ) → point ≤ x → ((e : ℕ) → to ≡ Some e → e ≤ point) → before_end x (ended point to) ≡ false
end_over x point None l over = grind (arith, nat_tests)
end_over x point (Some e) l over = let k = over e refl in grind (arith, nat_tests)

ended_none : (is : List Interval) (os : List Owner) (ns : Id) (point : ℕ) (table : Id) (code x : ℕ) → owns os ns table ≡ true → point ≤ x → ((i : Interval) (e : ℕ) → In i is → owns os ns i.table ≡ true → i.to ≡ Some e → e ≤ point)
    → holders (end_namespace_tablets os ns point is) table code x ≡ 0
ended_none [] os ns point table code x mine l over = refl
ended_none (i ∷ is) os ns point table code x mine l over =
    let rest = ended_none is os ns point table code x mine l (λ j e isin. over j e (inr isin)) in
    let here : one_ (ended_in os ns point i) table code x ≡ false = either_way (same i.table table)
    (λ b.
    let o : owns os ns i.table ≡ true = ap (owns os ns) (same_equal i.table table b) ∙ mine in
    let gone : active_at x (ended_in os ns point i) ≡ false = second_fails (leb i.from x) (before_end x (cond (owns os ns i.table) (ended point i.to) i.to))
    (ap (λ c. before_end x (cond c (ended point i.to) i.to)) o ∙ end_over x point i.to l (λ e is_. over i e (inl refl) o is_)) in
    second_fails (same i.table table) _ (first_fails (active_at x (ended_in os ns point i)) (in_range i.low i.high code) gone))
    (λ b. first_fails (same i.table table) _ b) in
    ap (λ c. cond c 1 0 + holders (end_namespace_tablets os ns point is) table code x) here ∙ (omega (arith, rest))

-- those that begin at the point

abbrev pub of_then : List Owner → Id → ℕ → List Interval → List Interval
of_then os ns to is = filter (active_at to) (filter (λ i. owns os ns i.table) is)

-- by members: an interval that passes both tests is begun
begun_each : (P : List Interval → Type 0) (os : List Owner) (ns : Id) (to : ℕ) (i : Interval) (is : List Interval)
    → ((owns os ns i.table && active_at to i) ≡ true → P (i ∷ of_then os ns to is)) → ((owns os ns i.table && active_at to i) ≡ false → P (of_then os ns to is)) → P (of_then os ns to (i ∷ is))
begun_each P os ns to i is both not_ = either_way (owns os ns i.table)
    (λ a. either_way (active_at to i)
    (λ b. subst P (sym (ap (λ c. filter (active_at to) (cond c (i ∷ filter (λ i. owns os ns i.table) is) (filter (λ i. owns os ns i.table) is))) a ∙ ap (λ c. cond c (i ∷ of_then os ns to is) (of_then os ns to is)) b)) (both (passes_both (owns os ns i.table) (active_at to i) a b)))
    (λ b. subst P (sym (ap (λ c. filter (active_at to) (cond c (i ∷ filter (λ i. owns os ns i.table) is) (filter (λ i. owns os ns i.table) is))) a ∙ ap (λ c. cond c (i ∷ of_then os ns to is) (of_then os ns to is)) b)) (not_ (second_fails (owns os ns i.table) (active_at to i) b))))
    (λ a. subst P (sym (ap (λ c. filter (active_at to) (cond c (i ∷ filter (λ i. owns os ns i.table) is) (filter (λ i. owns os ns i.table) is))) a)) (not_ (first_fails (owns os ns i.table) (active_at to i) a)))

begun_others : (is : List Interval) (os : List Owner) (ns : Id) (to point : ℕ) (table : Id) (code x : ℕ) → owns os ns table ≡ false → holders (map (begun_at point) (of_then os ns to is)) table code x ≡ 0
begun_others [] os ns to point table code x other = refl
begun_others (i ∷ is) os ns to point table code x other = let rest = begun_others is os ns to point table code x other in
    begun_each (λ js. holders (map (begun_at point) js) table code x ≡ 0) os ns to i is
    (λ b.
    let o = (both_pass (owns os ns i.table) (active_at to i) b).0 in
    let here : one_ (begun_at point i) table code x ≡ false = either_way (same i.table table)
    (λ s. absurd (true≢false (sym o ∙ ap (owns os ns) (same_equal i.table table s) ∙ other)))
    (λ s. first_fails (same i.table table) _ s) in
    ap (λ c. cond c 1 0 + holders (map (begun_at point) (of_then os ns to is)) table code x) here ∙ (omega (arith, rest)))
    (λ b. rest)

begun_early : (is : List Interval) (os : List Owner) (ns : Id) (to point : ℕ) (table : Id) (code x : ℕ) → x < point → holders (map (begun_at point) (of_then os ns to is)) table code x ≡ 0
begun_early [] os ns to point table code x l = refl
begun_early (i ∷ is) os ns to point table code x l = let rest = begun_early is os ns to point table code x l in
    begun_each (λ js. holders (map (begun_at point) js) table code x ≡ 0) os ns to i is
    (λ b.
    let early : leb point x ≡ false = grind (arith, nat_tests) in
    let here : one_ (begun_at point i) table code x ≡ false = second_fails (same i.table table) _ (first_fails (active_at x (begun_at point i)) (in_range i.low i.high code) (first_fails (leb point x) true early)) in
    ap (λ c. cond c 1 0 + holders (map (begun_at point) (of_then os ns to is)) table code x) here ∙ (omega (arith, rest)))
    (λ b. rest)

-- from the point on they hold what was held at the time
begun_then : (is : List Interval) (os : List Owner) (ns : Id) (to point : ℕ) (table : Id) (code x : ℕ) → owns os ns table ≡ true → point ≤ x → holders (map (begun_at point) (of_then os ns to is)) table code x ≡ holders is table code to
begun_then [] os ns to point table code x mine l = refl
begun_then (i ∷ is) os ns to point table code x mine l = let rest = begun_then is os ns to point table code x mine l in
    begun_each (λ js. holders (map (begun_at point) js) table code x ≡ holders (i ∷ is) table code to) os ns to i is
    (λ b.
    let active = (both_pass (owns os ns i.table) (active_at to i) b).1 in
    let now : active_at x (begun_at point i) ≡ true = passes_both (leb point x) true (le-leb point x l) refl in
    let here : one_ (begun_at point i) table code x ≡ one_ i table code to = ap (λ c. same i.table table && (c && in_range i.low i.high code)) (now ∙ sym active) in
    ap (λ c. cond c 1 0 + holders (map (begun_at point) (of_then os ns to is)) table code x) here ∙ ap (λ h. cond (one_ i table code to) 1 0 + h) rest)
    (λ b.
    let here : one_ i table code to ≡ false = either_way (same i.table table)
    (λ s.
    let o : owns os ns i.table ≡ true = ap (owns os ns) (same_equal i.table table s) ∙ mine in
    let idle : active_at to i ≡ false = sym (ap (λ c. c && active_at to i) o) ∙ b in
    second_fails (same i.table table) _ (first_fails (active_at to i) (in_range i.low i.high code) idle))
    (λ s. first_fails (same i.table table) _ s) in
    rest ∙ sym (ap (λ c. cond c 1 0 + holders is table code to) here ∙ (omega arith)))

pub switched_covers : (activity : List Interval) (changes : List Change) (os : List Owner) (ns : Id) (point to : ℕ) → Inside os changes → to < point
    → ((i : Interval) (e : ℕ) → In i activity → owns os ns i.table ≡ true → i.to ≡ Some e → e ≤ point) → Covered activity changes
    → Covered (end_namespace_tablets os ns point activity ++ map (begun_at point) (of_then os ns to activity)) (restore point ns to changes)
switched_covers activity changes os ns point to inside less over h =
    let old = end_namespace_tablets os ns point activity in
    let new = map (begun_at point) (of_then os ns to activity) in
    let other_is : (table : Id) (code x : ℕ) → owns os ns table ≡ false → holders (old ++ new) table code x ≡ holders activity table code x = λ table code x other.
    (let a = holders_append old new table code x in let b = ended_others activity os ns point table code x other in let c = begun_others activity os ns to point table code x other in omega (arith, a, b, c)) in
    let early_is : (table : Id) (code x : ℕ) → x < point → holders (old ++ new) table code x ≡ holders activity table code x = λ table code x l.
    (let a = holders_append old new table code x in let b = ended_early activity os ns point table code x l in let c = begun_early activity os ns to point table code x l in omega (arith, a, b, c)) in
    let since_is : (table : Id) (code x : ℕ) → owns os ns table ≡ true → point ≤ x → holders (old ++ new) table code x ≡ holders activity table code to = λ table code x mine l.
    (let a = holders_append old new table code x in let b = ended_none activity os ns point table code x mine l over in let c = begun_then activity os ns to point table code x mine l in omega (arith, a, b, c)) in
    record {
      once = λ table code x below. either_way (owns os ns table)
          (λ mine. either_way (leb point x)
          (λ l. subst (λ y. y ≤ 1) (sym (since_is table code x mine (leb-true point x l))) (h.once table code to below))
          (λ l. subst (λ y. y ≤ 1) (sym (early_is table code x (leb-false point x l))) (h.once table code x below)))
          (λ other. subst (λ y. y ≤ 1) (sym (other_is table code x other)) (h.once table code x below));
      whole = λ table code x below there. either_way (owns os ns table)
          (λ mine. either_way (leb point x)
          (λ l. since_is table code x mine (leb-true point x l) ∙ h.whole table code to below (ap is_some (sym (table_back os changes ns table point to x inside mine (leb-true point x l))) ∙ there))
          (λ l. early_is table code x (leb-false point x l) ∙ h.whole table code x below (ap is_some (sym (restored_before point ns to changes x table (leb-false point x l))) ∙ there)))
          (λ other. other_is table code x other ∙ h.whole table code x below (ap is_some (sym (table_other os changes ns table point to x inside other)) ∙ there));
      ranges = λ i isin. elim (in_append old new i isin) [
        | inl ended_ ↦ in_mapped _ HasRange activity (λ j listed. h.ranges j listed) i ended_
        | inr begun ↦ in_mapped (begun_at point) HasRange (of_then os ns to activity) (λ j then_. h.ranges j (filter_in activity _ j (filter_in (filter (λ i. owns os ns i.table) activity) _ j then_).0).0) i begun
      ];
    }
