-- The targets of a clone hold the codes of their tables from its stamp on.
use Rattle.std.proofs.Common.{ℕ, ◌≡◌, ◌≤◌, ◌<◌, ◌+◌, List, [], ◌∷◌, ◌++◌, None, true, false, ◌&&◌, inl, inr, refl, sym, ap, subst, ◌∙◌, arith, leb, le-leb, leb-true, leb-false}
use Rattle.std.specs.Option.{is_some}
use Rattle.std.proofs.lemmas.Bool.{true≢false}
use Rattle.std.proofs.lemmas.Bool.Decides.{nat_tests}
use Rattle.model.specs.Cluster.{Id, same, In, in_range, IsRange, Interval, IdPair, TabletPair, CloneRecord}
use Rattle.model.specs.Restored.{cloned_activity}
use Rattle.model.specs.Journal.{Change, source_of, table_at}
use Rattle.model.specs.Stands.{holders}
use Rattle.model.specs.Stands.{HasRange}
use Rattle.law_store.proofs.Keys.{either_way}
use Rattle.law_invariants.specs.Operations.{takers, PairsApart}
use Rattle.law_invariants.specs.Invariant.{Covered}
use Rattle.law_invariants.proofs.Finding.{not_same, in_append, in_mapped}
use Rattle.law_invariants.proofs.Holding.{one, holders_append, none_hold}
use Rattle.law_clones.proofs.Viewing.{clone, source_is, by_source, table_early, table_aside}

-- the interval of a target
abbrev pub taken : ℕ → TabletPair → Interval
taken n p = record { slot = p.slot; tablet = p.target; table = p.table; low = p.low; high = p.high; from = n; to = None }

taken_early : (ps : List TabletPair) (n : ℕ) (table : Id) (code x : ℕ) → x < n → holders (cloned_activity n ps) table code x ≡ 0
taken_early [] n table code x l = refl
taken_early (p ∷ ps) n table code x l =
    let rest = taken_early ps n table code x l in
    let late : leb n x ≡ false = grind (arith, nat_tests) in
    let here : one (same p.table table && ((leb n x && true) && in_range p.low p.high code)) ≡ 0 =
    ap (λ b. one (same p.table table && ((b && true) && in_range p.low p.high code))) late ∙ ap one (off (same p.table table)) in
    omega arith
  where
    off : (a : _) → (a && false) ≡ false
    off true = refl
    off false = refl

taken_since : (ps : List TabletPair) (n : ℕ) (table : Id) (code x : ℕ) → n ≤ x → holders (cloned_activity n ps) table code x ≡ takers ps table code
taken_since [] n table code x l = refl
taken_since (p ∷ ps) n table code x l =
    let rest = taken_since ps n table code x l in
    let begun : leb n x ≡ true = le-leb n x l in
    ap (λ b. one (same p.table table && ((b && true) && in_range p.low p.high code)) + holders (cloned_activity n ps) table code x) begun
    ∙ ap (λ k. one (same p.table table && in_range p.low p.high code) + k) rest

-- what the ranges of a clone's targets stand on
pub record TakesOver (activity : List Interval) (changes : List Change) (r : CloneRecord) : Type 0 where
  pub apart : PairsApart r.tables
  pub unmade : (d : IdPair) (x : ℕ) → In d r.tables → table_at changes x d.target ≡ None
  pub fresh : (d : IdPair) (i : Interval) → In d r.tables → In i activity → i.table ≡ d.target → ⊥
  pub paired : (p : TabletPair) → In p r.tablets → (d : IdPair) × (In d r.tables × (d.target ≡ p.table))
  pub covers : (d : IdPair) (code : ℕ) → In d r.tables → code < 65536 → takers r.tablets d.target code ≡ 1
  pub ranges : (p : TabletPair) → In p r.tablets → IsRange (record { low = p.low; high = p.high })

module _ (activity : List Interval) (changes : List Change) (r : CloneRecord) (n : ℕ) (w : TakesOver activity changes r) where
  aside : (table : Id) (code x : ℕ) → source_of r.tables table ≡ None → holders (activity ++ cloned_activity n r.tablets) table code x ≡ holders activity table code x
  aside table code x none =
      let all = holders_append activity (cloned_activity n r.tablets) table code x in
      let new : holders (cloned_activity n r.tablets) table code x ≡ 0 = none_hold (cloned_activity n r.tablets) table code x
      (in_mapped {A = TabletPair} {B = Interval} (taken n) (λ i. same i.table table ≡ false) r.tablets (λ p isin. not_same p.table table (λ e.
      let d = w.paired p isin in
      let some = source_is r.tables d.0 w.apart d.1.0 in
      let k : None ≡ _ = sym none ∙ ap (source_of r.tables) (sym (d.1.1 ∙ e)) ∙ some in grind arith))) in
      omega arith

  ours : (d : IdPair) (code x : ℕ) → In d r.tables → holders (activity ++ cloned_activity n r.tablets) d.target code x ≡ holders (cloned_activity n r.tablets) d.target code x
  ours d code x isin =
      let all = holders_append activity (cloned_activity n r.tablets) d.target code x in
      let old : holders activity d.target code x ≡ 0 = none_hold activity d.target code x (λ i there. not_same i.table d.target (w.fresh d i isin there)) in
      omega arith

  early : (d : IdPair) (code x : ℕ) → In d r.tables → x < n → holders (activity ++ cloned_activity n r.tablets) d.target code x ≡ 0
  early d code x isin l = ours d code x isin ∙ taken_early r.tablets n d.target code x l

  since : (d : IdPair) (code x : ℕ) → In d r.tables → code < 65536 → n ≤ x → holders (activity ++ cloned_activity n r.tablets) d.target code x ≡ 1
  since d code x isin small l = ours d code x isin ∙ taken_since r.tablets n d.target code x l ∙ w.covers d code isin small

  pub cloned_covers : Covered activity changes → Covered (activity ++ cloned_activity n r.tablets) (clone n r changes)
  cloned_covers h = record {
    once = λ table code x small. by_source r.tables table
        (λ none. subst (λ k. k ≤ 1) (sym (aside table code x none)) (h.once table code x small))
        (λ d isin e. subst (λ t. holders (activity ++ cloned_activity n r.tablets) t code x ≤ 1) e (either_way (leb n x)
        (λ l. let q = since d code x isin small (leb-true n x l) in omega arith)
        (λ l. let q = early d code x isin (leb-false n x l) in omega arith)));
    whole = λ table code x small there. by_source r.tables table
        (λ none. aside table code x none ∙ h.whole table code x small (ap is_some (sym (table_aside n r changes x table none)) ∙ there))
        (λ d isin e. subst (λ t. holders (activity ++ cloned_activity n r.tablets) t code x ≡ 1) e (either_way (leb n x)
        (λ l. since d code x isin small (leb-true n x l))
        (λ l. absurd (true≢false (sym there ∙ ap (λ t. is_some (table_at (clone n r changes) x t)) (sym e) ∙ ap is_some (table_early n r changes x d.target (leb-false n x l) ∙ w.unmade d x isin))))));
    ranges = λ i isin. elim (in_append activity (cloned_activity n r.tablets) i isin) [
      | inl old ↦ h.ranges i old
      | inr new ↦ in_mapped {A = TabletPair} {B = Interval} (taken n) HasRange r.tablets (λ p there. w.ranges p there) i new
    ];
  }
