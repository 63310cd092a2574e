-- A tablet's activity ends: its open interval is closed, and all others stay.
use Rattle.std.proofs.Common.{ℕ, ◌≡◌, ◌<◌, Option, Some, None, true, false, cond, inl, inr, sym, ap, ◌∙◌, leb, le_trans, le_of_lt}
use Rattle.std.proofs.lemmas.Bool.{cond_both}
use Rattle.model.specs.Cluster.{Id, same, before_end, ended, Interval, active_at, owner_of, Master}
use Rattle.law_store.proofs.Keys.{either_way}
use Rattle.law_invariants.specs.Invariant.{EndsBy, IsPast}
use Rattle.law_invariants.proofs.Finding.{both_pass, passes_both, none_or_some, same_equal, same_self}
use Rattle.law_invariants.proofs.Ticking.{ends_later}
use Rattle.law_invariants.proofs.Holding.{end_weaker}
use Rattle.law_invariants.proofs.Operating.{NotHeld, GoesOn}
use Rattle.law_invariants.proofs.Covering.{ended_ends, closed}

-- where an interval ends that may be one of the tablet's
abbrev pub cut_end : Id → ℕ → Interval → Option ℕ
cut_end tablet n i = cond (same i.tablet tablet) (ended n i.to) i.to

abbrev pub cut : Id → ℕ → Interval → Interval
cut tablet n i = record i { to = cut_end tablet n i }

pub cut_mine : (tablet : Id) (n : ℕ) (i : Interval) → i.tablet ≡ tablet → cut_end tablet n i ≡ ended n i.to
cut_mine tablet n i e = ap (λ b. cond b (ended n i.to) i.to) (ap (λ k. same k tablet) e ∙ same_self tablet)

pub cut_other : (tablet : Id) (n : ℕ) (i : Interval) → same i.tablet tablet ≡ false → cut_end tablet n i ≡ i.to
cut_other tablet n i e = ap (λ b. cond b (ended n i.to) i.to) e

-- an interval that is not an open one of the tablet stays
pub cut_stays : (tablet : Id) (n : ℕ) (i : Interval) → (i.to ≡ None → same i.tablet tablet ≡ true → ⊥) → cut_end tablet n i ≡ i.to
cut_stays tablet n i h = either_way (same i.tablet tablet)
    (λ e. ap (λ b. cond b (ended n i.to) i.to) e ∙ closed i.to n (λ opened. h opened e))
    (λ e. cut_other tablet n i e)

pub stays_same : (tablet : Id) (n : ℕ) (i : Interval) → cut_end tablet n i ≡ i.to → cut tablet n i ≡ i
stays_same tablet n i e = ap (λ q. record i { to = q }) e

pub cut_earlier : (tablet : Id) (n x : ℕ) (i : Interval) → before_end x (cut_end tablet n i) ≡ true → before_end x i.to ≡ true
cut_earlier tablet n x i =
    cond_both (same i.tablet tablet) (ended n i.to) i.to (λ to. before_end x to ≡ true → before_end x i.to ≡ true) (λ e. end_weaker x n i.to) (λ e h. h)

-- the active time of a cut interval is active time
pub cut_active : (tablet : Id) (n x : ℕ) (i : Interval) → active_at x (cut tablet n i) ≡ true → active_at x i ≡ true
cut_active tablet n x i h =
    let both = both_pass (leb i.from x) (before_end x (cut_end tablet n i)) h in
    passes_both (leb i.from x) (before_end x i.to) both.0 (cut_earlier tablet n x i both.1)

pub cut_past : (tablet : Id) (time n : ℕ) (i : Interval) → time < n → IsPast time i.from i.to → IsPast n i.from (cut_end tablet n i)
cut_past tablet time n i before h = record {
  begun = le_trans h.begun (le_of_lt before);
  ended = cond_both (same i.tablet tablet) (ended n i.to) i.to (EndsBy n i.from)
      (λ e. ended_ends i.to i.from time n h.begun (le_of_lt before) h.ended) (λ e. ends_later i.to i.from time n (le_of_lt before) h.ended);
}

-- each interval goes on, where no operation holds the tablet's namespace
pub goes_cut : (m : Master) (n : ℕ) (tablet : Id) (i : Interval) → (i.tablet ≡ tablet → (ns : Id) → owner_of m.catalog.owners i.table ≡ Some ns → NotHeld m ns) → GoesOn m n i (cut tablet n i)
goes_cut m n tablet i free = either_way (same i.tablet tablet)
    (λ e. none_or_some i.to
    (λ opened. inr (record {
      opened = opened;
      is = ap (λ q. record i { to = q }) (cut_mine tablet n i (same_equal i.tablet tablet e) ∙ ap (ended n) opened);
      free = free (same_equal i.tablet tablet e);
    }))
    (λ x some. inl (stays_same tablet n i (cut_stays tablet n i (λ opened mine. let q : None ≡ Some x = sym opened ∙ some in cc)))))
    (λ e. inl (stays_same tablet n i (cut_other tablet n i e)))
