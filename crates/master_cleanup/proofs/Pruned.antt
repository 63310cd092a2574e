-- The cuts that are made are the book's, so that what goes by them goes by the book.
use Rattle.std.proofs.Common.{ℕ, suc, ◌≡◌, ◌+◌, ◌||◌, ◌++◌, Bool, true, false, List, [], ◌∷◌, Option, length, cond, refl, sym, ap, ◌∙◌, if◌then◌else◌}
use Rattle.std.specs.Prelude.{filter}
use Rattle.std.specs.List.{list_any}
use Rattle.row_values.specs.Ids.{Id, same}
use Rattle.law_invariants.proofs.Finding.{same_equal, same_self}
use Rattle.model.specs.Times.{ended_by}
use Rattle.model.specs.Catalog.{NamespaceRecord, TableRecord}
use Rattle.model.specs.Acts.{Pruned}
use Rattle.model.specs.Parts.{Master, Parts, Outcome, Prunes}
use Rattle.model.specs.Cleanup.{prune, prune_to, has_records, is_old_namespace, is_old_table}
use Rattle.catalog_core.specs.Pruned.{space_goes, table_goes}
use Rattle.master_part.specs.declared.cut.Cut.{Cut}
use Rattle.master_part.specs.Going.{cut_of, CutsBy}
use Rattle.master_cleanup.specs.Cuts.{has_cut, cut_for, add_cut, with_all, cuts_of}

either_one : (a b : Bool) → a ≡ true → (a || b) ≡ true
either_one a b e = ap (λ c. c || b) e

either_other : (a b : Bool) → b ≡ true → (a || b) ≡ true
either_other true b e = refl
either_other false b e = e

-- Cuts

has_more : (cs ds : List Cut) (k : Id) → has_cut cs k ≡ true → has_cut (cs ++ ds) k ≡ true
has_more [] ds k has = absurd (cc)
has_more (c ∷ cs) ds k has = by (same c.namespace k) (λ e. has_more cs ds k e) has
  where
    by : (b : Bool) → (has_cut cs k ≡ true → has_cut (cs ++ ds) k ≡ true) → (b || has_cut cs k) ≡ true → (b || has_cut (cs ++ ds) k) ≡ true
    by true rest e = refl
    by false rest e = rest e

has_last : (cs : List Cut) (c : Cut) (k : Id) → same c.namespace k ≡ true → has_cut (cs ++ c ∷ []) k ≡ true
has_last [] c k e = either_one _ false e
has_last (d ∷ ds) c k e = either_other (same d.namespace k) _ (has_last ds c k e)

module _ (m : Master) (n : ℕ) where
  abbrev AreRight : List Cut → Type 0
  AreRight [] = Unit {0}
  AreRight (c ∷ cs) = (c.to ≡ prune_to m c.namespace n) × AreRight cs

  right_more : (cs : List Cut) (ns : Id) → AreRight cs → AreRight (cs ++ cut_for m n ns ∷ [])
  right_more [] ns right = (refl, tt)
  right_more (c ∷ cs) ns right = (right.0, right_more cs ns right.1)

  right_found : (cs : List Cut) (k : Id) → AreRight cs → has_cut cs k ≡ true → cut_of cs k ≡ prune_to m k n
  right_found [] k right has = absurd (cc)
  right_found (c ∷ cs) k right has = by (same c.namespace k) refl (λ h. right_found cs k right.1 h) has
    where
      by : (b : Bool) → same c.namespace k ≡ b → (has_cut cs k ≡ true → cut_of cs k ≡ prune_to m k n) → (b || has_cut cs k) ≡ true
          → (if b then c.to else cut_of cs k) ≡ prune_to m k n
      by true e rest has = right.0 ∙ ap (λ (i : Id). prune_to m i n) (same_equal c.namespace k e)
      by false e rest has = rest has

  add_right : (cs : List Cut) (ns : Id) → AreRight cs → AreRight (add_cut m n ns cs)
  add_right cs ns right = by (has_cut cs ns)
    where
      by : (b : Bool) → AreRight (if b then cs else cs ++ cut_for m n ns ∷ [])
      by true = right
      by false = right_more cs ns right

  add_keeps : (cs : List Cut) (ns k : Id) → has_cut cs k ≡ true → has_cut (add_cut m n ns cs) k ≡ true
  add_keeps cs ns k has = by (has_cut cs ns)
    where
      by : (b : Bool) → has_cut (if b then cs else cs ++ cut_for m n ns ∷ []) k ≡ true
      by true = has
      by false = has_more cs (cut_for m n ns ∷ []) k has

  add_has : (cs : List Cut) (ns k : Id) → same ns k ≡ true → has_cut (add_cut m n ns cs) k ≡ true
  add_has cs ns k e = by (has_cut cs ns) refl
    where
      by : (b : Bool) → has_cut cs ns ≡ b → has_cut (if b then cs else cs ++ cut_for m n ns ∷ []) k ≡ true
      by true has = ap (has_cut cs) (sym (same_equal ns k e)) ∙ has
      by false has = has_last cs (cut_for m n ns) k e

  module _ {A : Type 0} (space : A → Id) where
    all_right : (rs : List A) (cs : List Cut) → AreRight cs → AreRight (with_all space m n rs cs)
    all_right [] cs right = right
    all_right (r ∷ rs) cs right = all_right rs (add_cut m n (space r) cs) (add_right cs (space r) right)

    all_keep : (rs : List A) (cs : List Cut) (k : Id) → has_cut cs k ≡ true → has_cut (with_all space m n rs cs) k ≡ true
    all_keep [] cs k has = has
    all_keep (r ∷ rs) cs k has = all_keep rs (add_cut m n (space r) cs) k (add_keeps cs (space r) k has)

    all_have : (rs : List A) (cs : List Cut) (k : Id) → list_any (λ r. same (space r) k) rs ≡ true → has_cut (with_all space m n rs cs) k ≡ true
    all_have [] cs k any = absurd (cc)
    all_have (r ∷ rs) cs k any =
        by (same (space r) k) refl (λ h. all_have rs (add_cut m n (space r) cs) k h) any
      where
        by : (b : Bool) → same (space r) k ≡ b
            → (list_any (λ r. same (space r) k) rs ≡ true → has_cut (with_all space m n rs (add_cut m n (space r) cs)) k ≡ true)
            → (b || list_any (λ r. same (space r) k) rs) ≡ true → has_cut (with_all space m n rs (add_cut m n (space r) cs)) k ≡ true
        by true e rest any = all_keep rs (add_cut m n (space r) cs) k (add_has cs (space r) k e)
        by false e rest any = rest any

  made_right : AreRight (cuts_of m n)
  made_right = all_right (λ (r : TableRecord). r.namespace) m.catalog.tables _ (all_right (λ (r : NamespaceRecord). r.id) m.catalog.namespaces [] tt)

  made_have : (k : Id) → has_records m.catalog k ≡ true → has_cut (cuts_of m n) k ≡ true
  made_have k has = by (list_any (λ (r : NamespaceRecord). same r.id k) m.catalog.namespaces) refl has
    where
      by : (b : Bool) → list_any (λ (r : NamespaceRecord). same r.id k) m.catalog.namespaces ≡ b
          → (b || list_any (λ (r : TableRecord). same r.namespace k) m.catalog.tables) ≡ true → has_cut (cuts_of m n) k ≡ true
      by true e has = all_keep (λ (r : TableRecord). r.namespace) m.catalog.tables _ k (all_have (λ (r : NamespaceRecord). r.id) m.catalog.namespaces [] k e)
      by false e has = all_have (λ (r : TableRecord). r.namespace) m.catalog.tables _ k has

  pub cuts_right : (cs : List Cut) → cs ≡ cuts_of m n → CutsBy cs n m
  cuts_right cs is k has =
      ap (λ (cs : List Cut). cut_of cs k) is ∙ right_found (cuts_of m n) k made_right (made_have k has)

-- What goes by equal cuts is the same

module _ {A : Type 0} (space : A → Id) (to : A → Option ℕ) (cut old : Id → ℕ) where
  goes_as : (rs : List A) → ((k : Id) → list_any (λ r. same (space r) k) rs ≡ true → cut k ≡ old k)
      → length (filter (λ r. ended_by (cut (space r)) (to r)) rs) ≡ length (filter (λ r. ended_by (old (space r)) (to r)) rs)
  goes_as [] equal = refl
  goes_as (r ∷ rs) equal =
      ap (λ at. length (cond (ended_by at (to r)) (r ∷ filter (λ r. ended_by (cut (space r)) (to r)) rs) (filter (λ r. ended_by (cut (space r)) (to r)) rs)))
      (equal (space r) (either_one _ _ (same_self (space r))))
      ∙ by (ended_by (old (space r)) (to r)) _ _ (goes_as rs (λ k any. equal k (either_other (same (space r) k) _ any)))
    where
      by : (b : Bool) (xs ys : List A) → length xs ≡ length ys → length (cond b (r ∷ xs) xs) ≡ length (cond b (r ∷ ys) ys)
      by true xs ys e = ap suc e
      by false xs ys e = e

pub pruned_as : (ps : Parts) (m : Master) (n : ℕ) (cs : List Cut) (spaces tables : ℕ) → ps.master ≡ m → CutsBy cs n m
    → spaces ≡ length (filter (space_goes (cut_of cs)) m.catalog.namespaces)
    → tables ≡ length (filter (table_goes (cut_of cs)) m.catalog.tables)
    → record { master = Prunes; tablets = []; reply = Pruned (spaces + tables) } ≡ prune n ps
unfolding prune
pruned_as ps m n cs spaces tables same_master right spaces_are tables_are =
    ap (λ (count : ℕ). made count)
    (ap (λ k. k + tables)
    (spaces_are ∙ goes_as (λ (r : NamespaceRecord). r.id) (λ (r : NamespaceRecord). r.to) (cut_of cs) (λ ns. prune_to m ns n) m.catalog.namespaces
    (λ k any. right k (either_one _ _ any)))
    ∙ ap (λ k. length (filter (is_old_namespace m n) m.catalog.namespaces) + k)
    (tables_are ∙ goes_as (λ (r : TableRecord). r.namespace) (λ (r : TableRecord). r.to) (cut_of cs) (λ ns. prune_to m ns n) m.catalog.tables
    (λ k any. right k (either_other (list_any (λ (r : NamespaceRecord). same r.id k) m.catalog.namespaces) _ any))))
    ∙ ap (λ (m : Master). made (length (filter (is_old_namespace m n) m.catalog.namespaces) + length (filter (is_old_table m n) m.catalog.tables)))
    (sym same_master)
  where
    made : ℕ → Outcome
    made count = record { master = Prunes; tablets = []; reply = Pruned count }
