-- The master forgets a tablet that no unfinished record lists: its records go on to be good.
use Rattle.std.proofs.Common.{ℕ, ◌≡◌, ◌≤◌, List, inl, sym, ap, ◌∙◌, not}
use Rattle.std.proofs.lemmas.Bool.{true≢false}
use Rattle.model.specs.Cluster.{Id, same, In, Interval, forget, Master}
use Rattle.model.specs.Journal.{Change}
use Rattle.law_invariants.specs.Operations.{IsOpenOf, OperationsGood}
use Rattle.law_invariants.proofs.Finding.{in_filter, filter_in, same_self, not_same}
use Rattle.law_invariants.proofs.Ticking.{not_true}
use Rattle.law_cleanup.proofs.Leaving.{operations_left}
use Rattle.law_invariants.proofs.Unneeded.{Unlisted}

-- No unfinished record lists it

-- The master after it

abbrev pub forgetting : Master → ℕ → Id → Master
forgetting m n tablet = record m { clock = n; activity = forget tablet m.activity }

pub kept_in : (tablet : Id) (is : List Interval) (i : Interval) → In i is → (i.tablet ≡ tablet → ⊥) → In i (forget tablet is)
kept_in tablet is i isin apart = in_filter is (λ j. not (same j.tablet tablet)) i isin (ap not (not_same i.tablet tablet apart))

pub was_in : (tablet : Id) (is : List Interval) (i : Interval) → In i (forget tablet is) → In i is × (i.tablet ≡ tablet → ⊥)
was_in tablet is i isin =
    let f = filter_in is (λ j. not (same j.tablet tablet)) i isin in
    (f.0, λ e. true≢false (sym (ap (λ t. same t tablet) e ∙ same_self tablet) ∙ not_true (same i.tablet tablet) f.1))

pub open_was : (m : Master) (n : ℕ) (tablet ns : Id) (i : Interval) → IsOpenOf (forgetting m n tablet) ns i → IsOpenOf m ns i
open_was m n tablet ns i h = record { kept = (was_in tablet m.activity i h.kept).0; opened = h.opened; owned = h.owned }

pub operations_forget : (m : Master) (n : ℕ) (tablet : Id) (changes : List Change) → m.clock ≤ n → Unlisted m tablet → OperationsGood m changes → OperationsGood (forgetting m n tablet) changes
operations_forget m n tablet changes le free h = operations_left m n (forget tablet m.activity) m.snapshots (record {
  clock = le;
  was = λ i isin. (was_in tablet m.activity i isin).0;
  was_taken = λ q isin. isin;
  rise = h.apart.snapshots_rise;
  taken = λ q isin. inl isin;
  unfinished = λ q isin open_. isin;
  named = λ r q there unfinished isin is. isin;
  named_by = λ c q there unfinished isin is. isin;
  snapshot = λ r l i isin unfinished lists there is. kept_in tablet m.activity i there (λ e. free.snapshot r l isin unfinished lists (sym is ∙ e));
  restoration = λ r l i isin unfinished lists there is. kept_in tablet m.activity i there (λ e. free.restoration r l isin unfinished lists (sym is ∙ e));
  clone = λ c l i isin unfinished lists there is. kept_in tablet m.activity i there (λ e. free.clone c l isin unfinished lists (sym is ∙ e));
  source = λ c p i isin unfinished paired there is. kept_in tablet m.activity i there (λ e. free.source c p isin unfinished paired (sym is ∙ e));
}) changes h
