-- A prune raises the mark of a namespace's catalog within its bound, and leaves the catalog from the mark on.
use Rattle.std.proofs.Common.{◌≤◌, ◌≡◌, ◌&&◌, ◌||◌, ℕ, List, true, map, max, not, sym, subst, ap, arith, le_trans}
use Rattle.std.specs.List.{list_any}
use Rattle.row_values.specs.Ids.{Id, same}
use Rattle.row_values.specs.Elements.{In}
use Rattle.model.specs.Times.{holds_at}
use Rattle.model.specs.Catalog.{NamespaceRecord, by_id, kept_from}
use Rattle.model.specs.Cleanup.{has_records, is_old_namespace, is_old_table, prune_to, pruned, raised_mark}
use Rattle.model.specs.Journal.{Change}
use Rattle.model.specs.Parts.{Master}
use Rattle.model.specs.Taking.{MarkRaised, untimed}
use Rattle.law_invariants.specs.Invariant.{MasterGood}
use Rattle.law_invariants.proofs.Finding.{both_pass, same_equal, same_self}
use Rattle.law_retention.proofs.Cleaning.{filter_left, young}
use Rattle.law_invariants.proofs.Unneeded.{any_in, has_table, raised_rises, raised_to, raised_within}

first_most : (a b : ℕ) → a ≤ max a b
first_most a b = omega arith

second_most : (a b : ℕ) → b ≤ max a b
second_most a b = omega arith

has_namespace : (m : Master) (r : NamespaceRecord) → In r m.catalog.namespaces → has_records m.catalog r.id ≡ true
has_namespace m r inside =
    ap (λ b. b || list_any (λ q. same q.namespace r.id) m.catalog.tables) (any_in (λ q. same q.id r.id) m.catalog.namespaces r inside (same_self r.id))

pub prune_marks : (m : Master) (n : ℕ) (changes : List Change) (ns : Id) → MasterGood m changes → MarkRaised m (pruned n m) n ns
prune_marks m n changes ns good =
    let old = kept_from m.catalog.kept_from ns in
    let to_ = prune_to m ns n in
    record {
      rises = raised_rises m.catalog.kept_from m n ns;
      bound = raised_within m.catalog.kept_from m n ns (max old to_) (first_most old to_) (second_most old to_);
      catalog = λ to from. record {
        names = ap (λ rs. map {A = NamespaceRecord} (λ r. r.name) rs)
            (filter_left (λ r. holds_at to r.from r.to && same r.id ns) (λ r. not (is_old_namespace m n r)) m.catalog.namespaces
            (λ r inside passes.
            let both = both_pass (holds_at to r.from r.to) (same r.id ns) passes in
            let is = same_equal r.id ns both.1 in
            let marked = raised_to m.catalog.kept_from m n r.id (good.marks.namespaces r inside) (has_namespace m r inside) in
            let mark : prune_to m r.id n ≤ to = le_trans marked (subst (λ id. kept_from (map (raised_mark m n) m.catalog.kept_from) id ≤ to) (sym is) from) in
            young to (prune_to m r.id n) r.from r.to mark both.0));
        tables = ap (λ rs. map untimed (by_id rs))
            (filter_left (λ r. holds_at to r.from r.to && same r.namespace ns) (λ r. not (is_old_table m n r)) m.catalog.tables
            (λ r inside passes.
            let both = both_pass (holds_at to r.from r.to) (same r.namespace ns) passes in
            let is = same_equal r.namespace ns both.1 in
            let marked = raised_to m.catalog.kept_from m n r.namespace (good.marks.tables r inside) (has_table m r inside) in
            let mark : prune_to m r.namespace n ≤ to = le_trans marked (subst (λ id. kept_from (map (raised_mark m n) m.catalog.kept_from) id ≤ to) (sym is) from) in
            young to (prune_to m r.namespace n) r.from r.to mark both.0));
        owners = λ table owned. owned;
        kept = from;
      };
    }
