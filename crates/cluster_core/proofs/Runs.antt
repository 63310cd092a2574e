-- Events that are performed one after the other.
use Rattle.std.proofs.Common.{◌≡◌, ℕ, zero, suc, ◌≤◌, List, [], ◌∷◌, ◌++◌, length, take, drop, refl, sym, ap, subst, arith, ◌∙◌, Some}
use Rattle.std.specs.Prelude.{slice_get}
use Rattle.std.proofs.lemmas.List.{length-append}
use Rattle.model.specs.Acts.{Event, Reply}
use Rattle.model.specs.Entries.{Entry}
use Rattle.model.specs.History.{entry_of}
use Rattle.machine_laws.specs.Faults.{fault_after}
use Rattle.cluster_core.specs.declared.run.StoppedAt.{StoppedAt}
use Rattle.cluster_core.specs.Causes.{RefusedBy}
use Rattle.cluster_core.specs.Runs.{AreAsked, IsStopped, run_of, replies_of}
use Rattle.cluster_core.proofs.Laying.{some_is}

run_snoc : (slots : ℕ) (es : List Event) (e : Event) (history : List Entry) → run_of slots (es ++ e ∷ []) history ≡ entry_of slots e (run_of slots es history) ∷ run_of slots es history
run_snoc slots [] e history = refl
run_snoc slots (x ∷ es) e history = run_snoc slots es e (entry_of slots x history ∷ history)

replies_snoc : (slots : ℕ) (es : List Event) (e : Event) (history : List Entry) → replies_of slots (es ++ e ∷ []) history ≡ replies_of slots es history ++ (entry_of slots e (run_of slots es history)).reply ∷ []
replies_snoc slots [] e history = refl
replies_snoc slots (x ∷ es) e history = ap (λ rs. (entry_of slots x history).reply ∷ rs) (replies_snoc slots es e (entry_of slots x history ∷ history))

module _ {A : Type 0} where
  take_more : (xs : List A) (n : ℕ) (x : A) (rest : List A) → drop n xs ≡ x ∷ rest → take (suc n) xs ≡ take n xs ++ x ∷ []
  take_more [] zero x rest is = cc
  take_more [] (suc n) x rest is = cc
  take_more (y ∷ ys) zero x rest is = cc
  take_more (y ∷ ys) (suc n) x rest is = ap (λ zs. y ∷ zs) (take_more ys n x rest is)

  drop_more : (xs : List A) (n : ℕ) (x : A) (rest : List A) → drop n xs ≡ x ∷ rest → drop (suc n) xs ≡ rest
  drop_more [] zero x rest is = cc
  drop_more [] (suc n) x rest is = cc
  drop_more (y ∷ ys) zero x rest is = cc
  drop_more (y ∷ ys) (suc n) x rest is = drop_more ys n x rest is

  within_more : (xs : List A) (n : ℕ) (x : A) (rest : List A) → drop n xs ≡ x ∷ rest → suc n ≤ length xs
  within_more [] zero x rest is = cc
  within_more [] (suc n) x rest is = cc
  within_more (y ∷ ys) zero x rest is = omega arith
  within_more (y ∷ ys) (suc n) x rest is = let h = within_more ys n x rest is in omega arith

  here : (xs : List A) (n : ℕ) (x : A) (rest : List A) → drop n xs ≡ x ∷ rest → slice_get xs n ≡ Some x
  here [] zero x rest is = cc
  here [] (suc n) x rest is = cc
  here (y ∷ ys) zero x rest is = cc
  here (y ∷ ys) (suc n) x rest is = here ys n x rest is

  take_whole : (xs : List A) (n : ℕ) → drop n xs ≡ [] → take n xs ≡ xs
  take_whole [] zero is = refl
  take_whole [] (suc n) is = refl
  take_whole (y ∷ ys) zero is = cc
  take_whole (y ∷ ys) (suc n) is = ap (λ zs. y ∷ zs) (take_whole ys n is)

-- as many events were performed as there are replies, and the rest is to be
pub record Running (slots : ℕ) (events : List Event) (first history : List Entry) (replies : List Reply) (rest : List Event) : Type 0 where
  pub rest_is : drop (length replies) events ≡ rest
  pub asked : AreAsked slots rest
  pub ran : history ≡ run_of slots (take (length replies) events) first
  pub replied : replies ≡ replies_of slots (take (length replies) events) first

pub not_begun : (slots : ℕ) (events : List Event) (first : List Entry) → AreAsked slots events → Running slots events first first [] events
not_begun slots events first asked = record { rest_is = refl; asked = asked; ran = refl; replied = refl }

module _ (slots : ℕ) (events : List Event) (first history : List Entry) (replies : List Reply) where
  pub next_running : (next : List Entry) (e : Event) (reply : Reply) (rest : List Event) → Running slots events first history replies (e ∷ rest)
      → next ≡ entry_of slots e history ∷ history → reply ≡ (entry_of slots e history).reply → Running slots events first next (replies ++ reply ∷ []) rest
  next_running next e reply rest r became replied =
      let n = length replies in
      let more : length (replies ++ reply ∷ []) ≡ suc n = length-append replies (reply ∷ []) ∙ omega arith in
      let taken : take (length (replies ++ reply ∷ [])) events ≡ take n events ++ e ∷ [] = ap (λ k. take k events) more ∙ take_more events n e rest r.rest_is in
      record {
        rest_is = ap (λ k. drop k events) more ∙ drop_more events n e rest r.rest_is;
        asked = r.asked.1;
        ran = became ∙ ap (λ h. entry_of slots e h ∷ h) r.ran ∙ sym (ap (λ es. run_of slots es first) taken ∙ run_snoc slots (take n events) e first);
        replied =
            ap (λ a. replies ++ a ∷ []) (replied ∙ ap (λ h. (entry_of slots e h).reply) r.ran)
            ∙ ap (λ rs. rs ++ (entry_of slots e (run_of slots (take n events) first)).reply ∷ []) r.replied
            ∙ sym (ap (λ es. replies_of slots es first) taken ∙ replies_snoc slots (take n events) e first);
      }

  pub ran_whole : Running slots events first history replies [] → history ≡ run_of slots events first
  ran_whole r = r.ran ∙ ap (λ es. run_of slots es first) (take_whole events (length replies) r.rest_is)

  pub replied_whole : Running slots events first history replies [] → replies ≡ replies_of slots events first
  replied_whole r = r.replied ∙ ap (λ es. replies_of slots es first) (take_whole events (length replies) r.rest_is)

  pub done_within : (e : Event) (rest : List Event) → Running slots events first history replies (e ∷ rest) → length replies ≤ length events
  done_within e rest r = let h = within_more events (length replies) e rest r.rest_is in omega arith

  pub is_stopped : (s : StoppedAt) (e : Event) (rest : List Event) → Running slots events first history replies (e ∷ rest) → s.done ≡ length replies → RefusedBy (fault_after slots e history) s.why
      → IsStopped slots events first s
  is_stopped s e rest r done why = λ x at.
      let same : e ≡ x = some_is (sym (here events (length replies) e rest r.rest_is) ∙ sym (ap (slice_get events) done) ∙ at) in
      subst (λ y. RefusedBy (fault_after slots y (run_of slots (take s.done events) first)) s.why) same
      (subst (λ h. RefusedBy (fault_after slots e h) s.why) (r.ran ∙ ap (λ k. run_of slots (take k events) first) (sym done)) why)
