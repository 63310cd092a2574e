-- The view after a clone: from its stamp on a target's table is its source's of the time, with its rows, and all else is as it was.
use Rattle.std.proofs.Common.{ℕ, ◌≡◌, ◌≤◌, ◌<◌, List, [], ◌∷◌, Option, Some, None, true, false, inl, inr, refl, ap, ◌∙◌, arith, leb, le-leb}
use Rattle.std.proofs.lemmas.Bool.Decides.{nat_tests}
use Rattle.model.specs.Cluster.{Id, same, In, IdPair, CloneRecord}
use Rattle.model.specs.Journal.{Change, NamespaceCloned, source_of, moved_to, cloned_table, cloned_row, table_at, row_at}
use Rattle.model.specs.History.{with}
use Rattle.law_store.proofs.Keys.{either_way}
use Rattle.law_invariants.specs.Operations.{PairsApart}
use Rattle.law_invariants.proofs.Finding.{same_equal, same_self}

abbrev pub clone : ℕ → CloneRecord → List Change → List Change
clone n r changes = with n (NamespaceCloned r.source r.target_id r.target r.to r.tables) changes

-- Which source a table has

pub source_there : (ds : List IdPair) (id source : Id) → source_of ds id ≡ Some source → (d : IdPair) × (In d ds × ((d.target ≡ id) × (d.source ≡ source)))
source_there [] id source e = absurd (let q = e in grind arith)
source_there (d ∷ ds) id source e = either_way (same d.target id)
    (λ b. let k : Some d.source ≡ Some source = rw b at e in (d, (inl refl, (same_equal d.target id b, (let is : d.source ≡ source = cc in is)))))
    (λ b. let k : source_of ds id ≡ Some source = rw b at e in let h = source_there ds id source k in (h.0, (inr h.1.0, h.1.1)))

pub source_is : (ds : List IdPair) (d : IdPair) → PairsApart ds → In d ds → source_of ds d.target ≡ Some d.source
source_is [] d apart isin = absurd isin
source_is (e ∷ ds) d apart (inl is) =
    let b : same e.target d.target ≡ true = ap (λ k. same k.target d.target) is ∙ same_self d.target in rw b (ap (λ k. Some k.source) is)
source_is (e ∷ ds) d apart (inr isin) = either_way (same e.target d.target)
    (λ b. absurd ((apart.0 d isin).1 (same_equal e.target d.target b)))
    (λ b. rw b (source_is ds d apart.1 isin))

-- a table is a target, or none
pub by_source : {P : Type 0} (ds : List IdPair) (id : Id) → (source_of ds id ≡ None → P) → ((d : IdPair) → In d ds → d.target ≡ id → P) → P
by_source {P} ds id none some = cases (source_of ds id) refl
  where
    cases : (o : Option Id) → source_of ds id ≡ o → P
    cases None e = none e
    cases (Some source) e = let h = source_there ds id source e in some h.0 h.1.0 h.1.1.0

-- The view

module _ (n : ℕ) (r : CloneRecord) (changes : List Change) where
  pub table_early : (x : ℕ) (id : Id) → x < n → table_at (clone n r changes) x id ≡ table_at changes x id
  table_early x id l = let f : leb n x ≡ false = grind (arith, nat_tests) in rw f refl

  pub rows_early : (x : ℕ) (id : Id) (key : List ℕ) → x < n → row_at (clone n r changes) x id key ≡ row_at changes x id key
  rows_early x id key l = let f : leb n x ≡ false = grind (arith, nat_tests) in rw f refl

  pub table_aside : (x : ℕ) (id : Id) → source_of r.tables id ≡ None → table_at (clone n r changes) x id ≡ table_at changes x id
  table_aside x id none = either_way (leb n x)
      (λ b. rw b (ap (λ o. cloned_table o r.target_id (table_at changes r.to) (table_at changes x id)) none))
      (λ b. rw b refl)

  pub rows_aside : (x : ℕ) (id : Id) (key : List ℕ) → source_of r.tables id ≡ None → row_at (clone n r changes) x id key ≡ row_at changes x id key
  rows_aside x id key none = either_way (leb n x)
      (λ b. rw b (ap (λ o. cloned_row o key (row_at changes r.to) (row_at changes x id key)) none))
      (λ b. rw b refl)

  pub table_target : (x : ℕ) (d : IdPair) → PairsApart r.tables → In d r.tables → n ≤ x → table_at (clone n r changes) x d.target ≡ moved_to r.target_id (table_at changes r.to d.source)
  table_target x d apart isin l =
      let t : leb n x ≡ true = le-leb n x l in
      rw t (ap (λ o. cloned_table o r.target_id (table_at changes r.to) (table_at changes x d.target)) (source_is r.tables d apart isin))

  pub rows_target : (x : ℕ) (d : IdPair) (key : List ℕ) → PairsApart r.tables → In d r.tables → n ≤ x → row_at (clone n r changes) x d.target key ≡ row_at changes r.to d.source key
  rows_target x d key apart isin l =
      let t : leb n x ≡ true = le-leb n x l in
      rw t (ap (λ o. cloned_row o key (row_at changes r.to) (row_at changes x d.target key)) (source_is r.tables d apart isin))
