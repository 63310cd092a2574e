-- What is read of a part of the versions: those of a range of codes, and those up to a stamp.
use Rattle.std.proofs.Common.{◌≡◌, ℕ, ◌≤◌, ◌+◌, Bool, true, false, List, [], ◌∷◌, refl, sym, ap, ◌∙◌, fold, arith, leb, ◌&&◌}
use Rattle.std.specs.List.{filter}
use Rattle.std.proofs.lemmas.Bool.{cond_both, true≢false}
use Rattle.std.proofs.lemmas.Bool.Decides.{nat_tests}
use Rattle.std.specs.Str.{bytes_eq}
use Rattle.row_values.specs.Rows.{absent_row}
use Rattle.row_values.specs.Codes.{code_of}
use Rattle.row_values.specs.declared.rows.Row.{Row}
use Rattle.row_values.specs.Store.{Version, read_step, read_of, part_of, frozen, Below}
use Rattle.row_values.specs.Ranges.{in_range}
use Rattle.law_store.specs.Sorted.{Leads, Sorted}
use Rattle.law_store.proofs.Keys.{either_way, equal_keys}

-- whether a version is read at the key and the time
abbrev is_read : List ℕ → ℕ → Version → Bool
is_read key x v = bytes_eq v.key key && leb v.stamp x

chosen_reads : (vs : List Version) (test : Version → Bool) (key : List ℕ) (x : ℕ) (row : Row) → ((v : Version) → is_read key x v ≡ true → test v ≡ true) →
    fold (read_step key x) row (filter test vs) ≡ fold (read_step key x) row vs
chosen_reads [] test key x row h = refl
chosen_reads (v ∷ vs) test key x row h = either_way (test v)
    (λ e. rw e (chosen_reads vs test key x _ h))
    (λ e. either_way (is_read key x v)
    (λ read. absurd (true≢false (sym (h v read) ∙ e)))
    (λ not_read. rw (e, not_read) (chosen_reads vs test key x row h)))

none_reads : (vs : List Version) (test : Version → Bool) (key : List ℕ) (x : ℕ) (row : Row) → ((v : Version) → is_read key x v ≡ true → test v ≡ false) →
    fold (read_step key x) row (filter test vs) ≡ row
none_reads [] test key x row h = refl
none_reads (v ∷ vs) test key x row h = either_way (test v)
    (λ e. either_way (is_read key x v)
    (λ read. absurd (true≢false (sym e ∙ h v read)))
    (λ not_read. rw e (ap (λ r. fold (read_step key x) r (filter test vs)) (let n = not_read in cc) ∙ none_reads vs test key x row h)))
    (λ e. rw e (none_reads vs test key x row h))

read_key : (v : Version) (key : List ℕ) (x : ℕ) → is_read key x v ≡ true → v.key ≡ key
read_key v key x e = equal_keys v.key key (grind arith)

-- a part of the versions reads as the whole where the code is in its range
pub part_reads : (vs : List Version) (low high : ℕ) (key : List ℕ) (x : ℕ) → in_range low high (code_of key) ≡ true → read_of (part_of low high vs) key x ≡ read_of vs key x
part_reads vs low high key x inside = chosen_reads vs _ key x absent_row
    (λ v read. ap (λ k. in_range low high (code_of k)) (read_key v key x read) ∙ inside)

pub part_absent : (vs : List Version) (low high : ℕ) (key : List ℕ) (x : ℕ) → in_range low high (code_of key) ≡ false → read_of (part_of low high vs) key x ≡ absent_row
part_absent vs low high key x outside = none_reads vs _ key x absent_row
    (λ v read. ap (λ k. in_range low high (code_of k)) (read_key v key x read) ∙ outside)

-- the frozen versions read as all do, up to their stamp
pub frozen_reads : (vs : List Version) (s : ℕ) (key : List ℕ) (x : ℕ) → x ≤ s → read_of (frozen s vs) key x ≡ read_of vs key x
frozen_reads vs s key x l = chosen_reads vs _ key x absent_row (λ v read. grind (arith, nat_tests))

leads_chosen : (vs : List Version) (test : Version → Bool) (key : List ℕ) (stamp : ℕ) → Leads key stamp vs → Leads key stamp (filter test vs)
leads_chosen [] test key stamp h = tt
leads_chosen (v ∷ vs) test key stamp h = cond_both (test v) _ _ (Leads key stamp)
    (λ e. (h.0, h.1, leads_chosen vs test key stamp h.2))
    (λ e. leads_chosen vs test key stamp h.2)

pub sorted_chosen : (vs : List Version) (test : Version → Bool) → Sorted vs → Sorted (filter test vs)
sorted_chosen [] test h = tt
sorted_chosen (v ∷ vs) test h = cond_both (test v) _ _ Sorted
    (λ e. (leads_chosen vs test v.key v.stamp h.0, sorted_chosen vs test h.1))
    (λ e. sorted_chosen vs test h.1)

pub below_chosen : (vs : List Version) (test : Version → Bool) (n : ℕ) → Below n vs → Below n (filter test vs)
below_chosen [] test n h = tt
below_chosen (v ∷ vs) test n h = cond_both (test v) _ _ (Below n)
    (λ e. (h.0, below_chosen vs test n h.1))
    (λ e. below_chosen vs test n h.1)

pub sorted_part : (vs : List Version) (low high : ℕ) → Sorted vs → Sorted (part_of low high vs)
sorted_part vs low high h = sorted_chosen vs _ h

pub below_part : (vs : List Version) (low high n : ℕ) → Below n vs → Below n (part_of low high vs)
below_part vs low high n h = below_chosen vs _ n h

pub sorted_frozen : (vs : List Version) (s : ℕ) → Sorted vs → Sorted (frozen s vs)
sorted_frozen vs s h = sorted_chosen vs _ h

pub below_frozen : (vs : List Version) (s n : ℕ) → Below n vs → Below n (frozen s vs)
below_frozen vs s n h = below_chosen vs _ n h

-- what is frozen at s is stamped at or before it
pub frozen_below : (vs : List Version) (s : ℕ) → Below (s + 1) (frozen s vs)
frozen_below [] s = tt
frozen_below (v ∷ vs) s = cond_both (leb v.stamp s) _ _ (Below (s + 1))
    (λ e. (grind (arith, nat_tests), frozen_below vs s))
    (λ e. frozen_below vs s)
