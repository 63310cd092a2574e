-- A prune by a list of cuts.
use Rattle.std.proofs.Common.{ℕ, ◌≡◌, ◌||◌, Bool, true, false, not, cond, max, if◌then◌else◌, List, [], ◌∷◌, map, inl, inr, refl, ap, ◌∙◌}
use Rattle.std.specs.List.{filter}
use Rattle.row_values.specs.Ids.{Id, same}
use Rattle.row_values.specs.Elements.{In}
use Rattle.model.specs.Times.{ended_by}
use Rattle.model.specs.Catalog.{NamespaceRecord, TableRecord, KeptFrom}
use Rattle.model.specs.Parts.{Master}
use Rattle.model.specs.Cleanup.{has_records, is_old_namespace, is_old_table, raised_mark, pruned, prune_to}
use Rattle.catalog_core.specs.Pruned.{pruned_by, space_goes, table_goes, mark_cut}
use Rattle.law_invariants.proofs.Finding.{same_self}
use Rattle.law_invariants.proofs.Unneeded.{any_in}

-- two tests that agree on the members leave the same
filter_as : {A : Type 0} (test other : A → Bool) (xs : List A) → ((a : A) → In a xs → test a ≡ other a) → filter test xs ≡ filter other xs
filter_as test other [] each = refl
filter_as test other (x ∷ xs) each =
    ap (λ b. cond b (x ∷ filter test xs) (filter test xs)) (each x (inl refl))
    ∙ ap (λ ys. cond (other x) (x ∷ ys) ys) (filter_as test other xs (λ a h. each a (inr h)))

map_as : {A : Type 0} (f g : A → A) (xs : List A) → ((a : A) → f a ≡ g a) → map f xs ≡ map g xs
map_as f g [] each = refl
map_as f g (x ∷ xs) each = ap (λ y. y ∷ map f xs) (each x) ∙ ap (λ ys. g x ∷ ys) (map_as f g xs each)

either_has : (a b : Bool) → a ≡ true → (a || b) ≡ true
either_has true b e = refl
either_has false b e = absurd (cc)

also_has : (a b : Bool) → b ≡ true → (a || b) ≡ true
also_has true b e = refl
also_has false b e = e

module _ (cut : Id → ℕ) (n : ℕ) (m : Master) (each : (ns : Id) → has_records m.catalog ns ≡ true → cut ns ≡ prune_to m ns n) where
  has_space : (r : NamespaceRecord) → In r m.catalog.namespaces → has_records m.catalog r.id ≡ true
  has_space r isin = either_has _ _ (any_in (λ (q : NamespaceRecord). same q.id r.id) m.catalog.namespaces r isin (same_self r.id))

  has_table : (r : TableRecord) → In r m.catalog.tables → has_records m.catalog r.namespace ≡ true
  has_table r isin = also_has _ _ (any_in (λ (q : TableRecord). same q.namespace r.namespace) m.catalog.tables r isin (same_self r.namespace))

  mark_by : (k : KeptFrom) (b : Bool) → has_records m.catalog k.namespace ≡ b
      → (record k { from = if b then max k.from (cut k.namespace) else k.from }) ≡ (record k { from = if b then max k.from (prune_to m k.namespace n) else k.from })
  mark_by k true has = ap (λ (to : ℕ). record k { from = max k.from to }) (each k.namespace has)
  mark_by k false has = refl

  pub prunes : record m { clock = n; catalog = pruned_by cut m.catalog } ≡ pruned n m
  prunes =
      let spaces = filter_as (λ (r : NamespaceRecord). not (space_goes cut r)) (λ r. not (is_old_namespace m n r)) m.catalog.namespaces
      (λ r isin. ap (λ (to : ℕ). not (ended_by to r.to)) (each r.id (has_space r isin))) in
      let tables = filter_as (λ (r : TableRecord). not (table_goes cut r)) (λ r. not (is_old_table m n r)) m.catalog.tables
      (λ r isin. ap (λ (to : ℕ). not (ended_by to r.to)) (each r.namespace (has_table r isin))) in
      let marks = map_as (mark_cut cut m.catalog) (raised_mark m n) m.catalog.kept_from (λ k. mark_by k (has_records m.catalog k.namespace) refl) in
      let made : List NamespaceRecord → List TableRecord → List KeptFrom → Master = λ ss ts ks. record m { clock = n; catalog = record m.catalog { namespaces = ss; tables = ts; kept_from = ks } } in
      ap (λ ss. made ss (filter (λ r. not (table_goes cut r)) m.catalog.tables) (map (mark_cut cut m.catalog) m.catalog.kept_from)) spaces
      ∙ ap (λ ts. made (filter (λ r. not (is_old_namespace m n r)) m.catalog.namespaces) ts (map (mark_cut cut m.catalog) m.catalog.kept_from)) tables
      ∙ ap (made (filter (λ r. not (is_old_namespace m n r)) m.catalog.namespaces) (filter (λ r. not (is_old_table m n r)) m.catalog.tables)) marks
