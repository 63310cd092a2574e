-- The ranges of tablets go on to cover the codes.
use Rattle.std.proofs.Common.{ℕ, ◌≡◌, ◌≤◌, ◌<◌, ◌+◌, ◌/◌, ◌*◌, List, ◌++◌, length, true, false, sym, ap, subst, ◌∙◌, arith, leb, le_trans, leb-true, inl, inr, Option, Some, None, refl, le_refl}
use Rattle.std.specs.Option.{is_some}
use Rattle.std.proofs.Math.Nat.{div-le_self}
use Rattle.std.proofs.lemmas.Bool.{true≢false}
use Rattle.std.proofs.lemmas.Bool.Decides.{nat_tests}
use Rattle.model.specs.Cluster.{Id, same, In, Interval, end_table_tablets, Column, ended, ended_by, HiddenPart}
use Rattle.model.specs.Stands.{holders, HasRange}
use Rattle.model.specs.Changed.{shares}
use Rattle.model.specs.Journal.{Change, TableMade, TableDropped, table_at}
use Rattle.model.specs.History.{with}
use Rattle.law_store.proofs.Keys.{either_way}
use Rattle.law_invariants.specs.Invariant.{Covered, EndsBy, OverBy}
use Rattle.law_invariants.proofs.Finding.{in_append, in_mapped, same_equal}
use Rattle.law_invariants.proofs.Holding.{one, holders_append, none_hold, ended_less, ended_early, ended_others, shares_early, shares_others, shares_hold, share_ranges}
use Rattle.law_invariants.proofs.Journaling.{IsQuiet, made_before, made_others, dropped_before, dropped_others, dropped_here}

-- An open interval ends at a stamp.

pub ended_ends : (to : Option ℕ) (from time n : ℕ) → from ≤ time → time ≤ n → EndsBy time from to → EndsBy n from (ended n to)
ended_ends None from time n begun le h = (le_trans begun le, le_refl n)
ended_ends (Some e) from time n begun le h = (h.0, le_trans h.1 le)

pub ended_over : (to : Option ℕ) (from time n : ℕ) → from < n → time ≤ n → OverBy time from to → OverBy n from (ended n to)
ended_over None from time n begun le h = (begun, le_refl n)
ended_over (Some e) from time n begun le h = (h.0, le_trans h.1 le)

pub closed : (to : Option ℕ) (n : ℕ) → (to ≡ None → ⊥) → ended n to ≡ to
closed None n h = absurd (h refl)
closed (Some e) n h = refl

pub not_open : (n : ℕ) (to : Option ℕ) → ended n to ≡ None → ⊥
not_open n None e = let q = e in grind arith
not_open n (Some x) e = let q = e in grind arith

pub over_then : (n : ℕ) (to : Option ℕ) (from time : ℕ) → time ≤ n → OverBy time from to → ended_by n (ended n to) ≡ true
over_then n None from time le h = grind (arith, nat_tests)
over_then n (Some e) from time le h = let l : e ≤ time = h.1 in grind (arith, nat_tests)

pub stamp_is : (n at : ℕ) → HiddenPart n ≡ HiddenPart at → n ≡ at
stamp_is n at e = cc

-- under a change that makes and drops no table
pub quiet_covers : (activity : List Interval) (changes new : List Change) → IsQuiet changes new → Covered activity changes → Covered activity new
quiet_covers activity changes new quiet h = record {
  once = h.once;
  whole = λ table code x small is. h.whole table code x small (sym (quiet.tables x table) ∙ is);
  ranges = h.ranges;
}

-- where a table is made that had no tablet and was never in the view, and the codes are shared out among its tablets
pub made_covers : (activity : List Interval) (changes : List Change) (slots : List ℕ) (tablets n : ℕ) (drawn : ℕ) (id : Id) (ns : Id) (name : List ℕ) (columns : List Column) → 0 < tablets → tablets ≤ 64 → length slots ≡ tablets
    → ((i : Interval) → In i activity → same i.table id ≡ false) → ((x : ℕ) → is_some (table_at changes x id) ≡ false) → Covered activity changes
    → Covered (activity ++ shares slots 0 tablets n drawn id) (with n (TableMade id ns name columns) changes)
made_covers activity changes slots tablets n drawn id ns name columns pos most long apart unmade h =
    let new = with n (TableMade id ns name columns) changes in
    let both : (table : Id) (code x : ℕ) → holders (activity ++ shares slots 0 tablets n drawn id) table code x ≡ holders activity table code x + holders (shares slots 0 tablets n drawn id) table code x =
    λ table code x. holders_append activity (shares slots 0 tablets n drawn id) table code x in
    let others : (table : Id) (code x : ℕ) → same id table ≡ false → holders (activity ++ shares slots 0 tablets n drawn id) table code x ≡ holders activity table code x =
    λ table code x e. (let b = both table code x in let z = shares_others slots 0 tablets n drawn id table code x e in omega arith) in
    let before : (table : Id) (code x : ℕ) → x < n → holders (activity ++ shares slots 0 tablets n drawn id) table code x ≡ holders activity table code x =
    λ table code x l. (let b = both table code x in let z = shares_early slots 0 tablets n drawn id table code x l in omega arith) in
    let mine : (code x : ℕ) → code < 65536 → n ≤ x → holders (activity ++ shares slots 0 tablets n drawn id) id code x ≡ 1 =
    λ code x small late. (
    let b = both id code x in
    let z = none_hold activity id code x apart in
    let s = shares_hold slots 0 tablets n drawn id code x pos (omega (arith, long)) small late in
    let low : 0 * 65536 / tablets ≤ 0 = div-le_self (0 * 65536) tablets in
    let is : leb (0 * 65536 / tablets) code ≡ true = grind (arith, nat_tests) in
    let o : one (leb (0 * 65536 / tablets) code) ≡ 1 = ap one is in
    omega arith) in
    record {
      once = λ table code x small. either_way (same id table)
          (λ e. either_way (leb n x)
          (λ l. let q : holders (activity ++ shares slots 0 tablets n drawn id) table code x ≡ 1 =
          subst (λ t. holders (activity ++ shares slots 0 tablets n drawn id) t code x ≡ 1) (same_equal id table e) (mine code x small (leb-true n x l)) in omega arith)
          (λ l. let q = before table code x (let k : x < n = grind (arith, nat_tests) in k) in let o = h.once table code x small in omega arith))
          (λ e. let q = others table code x e in let o = h.once table code x small in omega arith);
      whole = λ table code x small is. either_way (same id table)
          (λ e. either_way (leb n x)
          (λ l. subst (λ t. holders (activity ++ shares slots 0 tablets n drawn id) t code x ≡ 1) (same_equal id table e) (mine code x small (leb-true n x l)))
          (λ l. let k : x < n = grind (arith, nat_tests) in
          let was : is_some (table_at changes x table) ≡ true = ap is_some (sym (made_before n id ns name columns changes x table k)) ∙ is in
          absurd (true≢false (sym was ∙ ap (λ t. is_some (table_at changes x t)) (sym (same_equal id table e)) ∙ unmade x))))
          (λ e. others table code x e ∙ h.whole table code x small (ap is_some (sym (made_others n id ns name columns changes x table e)) ∙ is));
      ranges = λ i isin. elim (in_append activity (shares slots 0 tablets n drawn id) i isin) [
        | inl old ↦ h.ranges i old
        | inr new_ ↦ share_ranges slots 0 tablets n drawn id pos (omega (arith, most)) (omega (arith, long)) i new_
      ];
    }

-- where a table is dropped and its tablets end
pub dropped_covers : (activity : List Interval) (changes : List Change) (id : Id) (n : ℕ) → Covered activity changes → Covered (end_table_tablets id n activity) (with n (TableDropped id) changes)
dropped_covers activity changes id n h = record {
  once = λ table code x small. le_trans (ended_less activity id n table code x) (h.once table code x small);
  whole = λ table code x small is. either_way (same id table)
      (λ e. either_way (leb n x)
      (λ l. let gone : is_some (table_at (with n (TableDropped id) changes) x table) ≡ false =
      subst (λ t. is_some (table_at (with n (TableDropped id) changes) x t) ≡ false) (same_equal id table e) (ap is_some (dropped_here n id changes x (leb-true n x l))) in
      absurd (true≢false (sym is ∙ gone)))
      (λ l. let k : x < n = grind (arith, nat_tests) in
      ended_early activity id n table code x k ∙ h.whole table code x small (ap is_some (sym (dropped_before n id changes x table k)) ∙ is)))
      (λ e. ended_others activity id n table code x e ∙ h.whole table code x small (ap is_some (sym (dropped_others n id changes x table e)) ∙ is));
  ranges = λ i isin. in_mapped _ HasRange activity (λ j old. h.ranges j old) i isin;
}
