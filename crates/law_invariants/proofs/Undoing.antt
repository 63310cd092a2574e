-- What restores undo stays before their own snapshots.
use Rattle.std.proofs.Common.{ℕ, ◌≡◌, ◌≤◌, List, [], ◌∷◌, Option, Some, None, Bool, true, false, cond, ◌||◌, ◌⊎◌, inl, inr, refl, sym, ap, subst, ◌∙◌, le_refl, le_trans}
use Rattle.std.proofs.lemmas.Bool.{cond_both, true≢false}
use Rattle.model.specs.Cluster.{RowOp, Id, In, Catalog, is_owned_by, owner_of, Interval, Sent, Master, Drawn}
use Rattle.model.specs.Journal.{Change, RowChanged}
use Rattle.model.specs.Stands.{is_restore_of, before_restore}
use Rattle.model.specs.Right.{is_fixed}
use Rattle.law_store.proofs.Keys.{either_way}
use Rattle.law_invariants.specs.Operations.{is_switched, JournalGood}
use Rattle.law_invariants.proofs.Finding.{same_equal}
use Rattle.law_invariants.proofs.Operating.{going}
use Rattle.law_invariants.proofs.Working.{before_any}

-- where the journal has no restore at the point, all is before it
pub before_none : (changes : List Change) (ns : Id) (point : ℕ) (all : List Change) → is_switched changes ns point ≡ false → before_restore changes ns point all ≡ all
before_none [] ns point all h = refl
before_none (c ∷ earlier) ns point all h = either_way (is_restore_of ns point c)
    (λ e. absurd (true≢false (let k : true ≡ false = rw e at h in k)))
    (λ e. let k : is_switched earlier ns point ≡ false = rw e at h in ap (λ b. cond b earlier (before_restore earlier ns point all)) e ∙ before_none earlier ns point all k)

-- what is before a restore is in the journal, or in what is given where it has none
pub before_in : (changes : List Change) (ns : Id) (point : ℕ) (all : List Change) (c : Change) → In c (before_restore changes ns point all) → In c changes ⊎ In c all
before_in [] ns point all c isin = inr isin
before_in (b ∷ earlier) ns point all c isin = either_way (is_restore_of ns point b)
    (λ e. let k : In c earlier = subst (λ q. In c (cond q earlier (before_restore earlier ns point all))) e isin in inl (inr k))
    (λ e. let k : In c (before_restore earlier ns point all) = subst (λ q. In c (cond q earlier (before_restore earlier ns point all))) e isin in
    elim (before_in earlier ns point all c k) as (λ _. In c (b ∷ earlier) ⊎ In c all) [ inl q ↦ inl (inr q) | inr q ↦ inr q ])

pub before_all : (changes : List Change) (ns : Id) (point : ℕ) (c : Change) → In c (before_restore changes ns point changes) → In c changes
before_all changes ns point c isin = elim (before_in changes ns point changes c isin) [ inl q ↦ q | inr q ↦ q ]

-- a journal has no further changes of rows, and undoes none further
pub record RowsFrom (changes new : List Change) : Type 0 where
  pub all : (c : Change) (table : Id) (key : List ℕ) (op : RowOp) → In c new → c.act ≡ RowChanged table key op → In c changes
  pub undone : (ns : Id) (point : ℕ) (c : Change) (table : Id) (key : List ℕ) (op : RowOp) → In c (before_restore new ns point new) → c.act ≡ RowChanged table key op → In c (before_restore changes ns point changes)
  pub switched : (ns : Id) (point : ℕ) → is_switched new ns point ≡ true → is_switched changes ns point ≡ true

pub same_rows : (changes : List Change) → RowsFrom changes changes
same_rows changes = record { all = λ c table key op isin is. isin; undone = λ ns point c table key op isin is. isin; switched = λ ns point is. is }

-- a journal with one more change in front, which is neither one of a row nor a restore at the point
pub one_more : (changes : List Change) (added : Change) → ((table : Id) (key : List ℕ) (op : RowOp) → added.act ≡ RowChanged table key op → ⊥) → ((ns : Id) (point : ℕ) → is_restore_of ns point added ≡ false)
    → RowsFrom changes (added ∷ changes)
one_more changes added no_row no_restore = record {
  all = λ c table key op isin is. elim isin as (λ _. In c changes) [ inl e ↦ absurd (no_row table key op (ap (λ k. k.act) e ∙ is)) | inr old ↦ old ];
  undone = λ ns point c table key op isin is.
      let there : In c (before_restore changes ns point (added ∷ changes)) = subst (λ q. In c (cond q changes (before_restore changes ns point (added ∷ changes)))) (no_restore ns point) isin in
      either_way (is_switched changes ns point)
      (λ s. subst (In c) (before_any changes ns point (added ∷ changes) changes s) there)
      (λ s. let all : In c (added ∷ changes) = subst (In c) (before_none changes ns point (added ∷ changes) s) there in
      subst (In c) (sym (before_none changes ns point changes s))
      (elim all as (λ _. In c changes) [ inl e ↦ absurd (no_row table key op (ap (λ k. k.act) e ∙ is)) | inr old ↦ old ]));
  switched = λ ns point is. sym (ap (λ b. b || is_switched changes ns point) (no_restore ns point)) ∙ is;
}

pub journal_on : (m : Master) (n : ℕ) (c : Catalog) (a : List Interval) (d : Drawn) (s : List Sent) (changes new : List Change) → RowsFrom changes new → ((ns : Id) (to : ℕ) → is_fixed new ns to ≡ is_fixed changes ns to)
    → m.drawn.namespaces ≤ d.namespaces → m.drawn.tables ≤ d.tables → ((table : Id) → table.number ≤ m.drawn.tables → owner_of c.owners table ≡ owner_of m.catalog.owners table) → JournalGood m changes → JournalGood (going m n c a d s) new
journal_on m n c a d s changes new from fixed names drawn owners h = record {
  fixed_drawn = λ ns to is. le_trans (h.fixed_drawn ns to (sym (fixed ns to) ∙ is)) names;
  drawn = λ b table key op isin is. le_trans (h.drawn b table key op (from.all b table key op isin is) is) drawn;
  undone = λ r point isin at b table key op there is owned.
      let old = from.undone r.namespace point b table key op there is in
      let known = h.drawn b table key op (before_all changes r.namespace point b old) is in
      h.undone r point isin at b table key op old is (ap (λ o. is_owned_by o r.namespace) (sym (owners table known)) ∙ owned);
  restored = λ ns point is. h.restored ns point (from.switched ns point is);
  one_point = h.one_point;
}

pub journal_ticked : (m : Master) (n : ℕ) (changes : List Change) → JournalGood m changes → JournalGood (record m { clock = n }) changes
journal_ticked m n changes h = journal_on m n m.catalog m.activity m.drawn m.sent changes changes (same_rows changes) (λ ns to. refl) (le_refl _) (le_refl _) (λ table l. refl) h

pub journal_ticked_if : (b : Bool) (m : Master) (n : ℕ) (changes : List Change) → JournalGood m changes → JournalGood (cond b (record m { clock = n }) m) changes
journal_ticked_if b m n changes h = cond_both b (record m { clock = n }) m (λ k. JournalGood k changes) (λ e. journal_ticked m n changes h) (λ e. h)

pub owned_is : (owner : Option Id) (ns : Id) → is_owned_by owner ns ≡ true → owner ≡ Some ns
owned_is None ns e = absurd (true≢false (sym e))
owned_is (Some o) ns e = ap Some (same_equal o ns e)
