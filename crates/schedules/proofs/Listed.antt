-- The book's look-ups and changes of schedules and of scheduled namespaces, by the comparison of identifiers.
use Rattle.std.proofs.Common.{ℕ, ◌≡◌, ◌==◌, Bool, true, false, cond, not, min, length, List, [], ◌∷◌, map, Option, Some, None, if◌then◌else◌, is_some, refl, ap, ◌∙◌, arith}
use Rattle.std.specs.List.{filter}
use Rattle.std.specs.Cmp.{IsEquivalence}
use Rattle.std.proofs.lemmas.Grind.{common_steps}
use Rattle.std.proofs.lemmas.Bool.Decides.{nat_tests}
use Rattle.row_values.specs.Ids.{Id, same}
use Rattle.model.specs.Records.{Schedule, ScheduledNamespace, schedule_of, scheduled_in}
use Rattle.model.specs.Schedules.{edited, least_low, after_of, after_in}
use Rattle.model.specs.Changes.{count_schedules}
use Rattle.model.specs.Changed.{with_periods, without_schedule, still_scheduled}
use Rattle.model.specs.Lists.{set_last, set_last_of}
use Rattle.kept_records.specs.Gathered.{gathered, changed_where}
use Rattle.kept_records.proofs.Looking.{filter_same, changed_map}
use Rattle.schedules.specs.Seen.{lowered}

abbrev pub taken : ℕ → Schedule → Schedule
taken at s = record s { last = Some at }

abbrev pub space_taken : ℕ → ScheduledNamespace → ScheduledNamespace
space_taken at k = record k { last = Some at }

abbrev pub completed : ℕ → ScheduledNamespace → ScheduledNamespace
completed at k = record k { complete = Some at }

pub all_pass : (ss : List Schedule) → filter (λ s. true) ss ≡ ss
all_pass [] = refl
all_pass (s ∷ ss) = ap (λ ts. s ∷ ts) (all_pass ss)

-- a count up to nine is eight
pub eight : (n m : ℕ) → n ≡ min m 9 → (n == 8) ≡ (m == 8)
eight n m is = ap (λ k. k == 8) is ∙ grind (arith, nat_tests, common_steps)

not_not : (b : Bool) → not (not b) ≡ b
not_not true = refl
not_not false = refl

pub kept_scheduled : (ss : List Schedule) (ks : List ScheduledNamespace)
    → filter (λ (k : ScheduledNamespace). not (not (is_some (schedule_of ss k.namespace)))) ks ≡ still_scheduled ss ks
kept_scheduled ss ks =
    filter_same (λ (k : ScheduledNamespace). not (not (is_some (schedule_of ss k.namespace)))) (λ (k : ScheduledNamespace). is_some (schedule_of ss k.namespace))
    (λ k. not_not (is_some (schedule_of ss k.namespace))) ks

-- the time before a namespace's next snapshot, by what is found of it
after_by : (b : Bool) (k : ScheduledNamespace) (ks : List ScheduledNamespace) (n : ℕ) (o : Option ScheduledNamespace) → cond b (Some k) o ≡ None → (o ≡ None → n ≡ 0)
    → (if b then after_of k else n) ≡ 0
after_by true k ks n o none rest = absurd (cc)
after_by false k ks n o none rest = rest none

pub after_none : (ks : List ScheduledNamespace) (ns : Id) → scheduled_in ks ns ≡ None → after_in ks ns ≡ 0
after_none [] ns none = refl
after_none (k ∷ ks) ns none = after_by (same k.namespace ns) k ks (after_in ks ns) (scheduled_in ks ns) none (λ e. after_none ks ns e)

after_at : (b : Bool) (k found : ScheduledNamespace) (n : ℕ) (o : Option ScheduledNamespace) → cond b (Some k) o ≡ Some found → (o ≡ Some found → n ≡ after_of found)
    → (if b then after_of k else n) ≡ after_of found
after_at true k found n o is rest = let e : k ≡ found = cc in ap after_of e
after_at false k found n o is rest = rest is

pub after_some : (ks : List ScheduledNamespace) (ns : Id) (found : ScheduledNamespace) → scheduled_in ks ns ≡ Some found → after_in ks ns ≡ after_of found
after_some [] ns found is = absurd (cc)
after_some (k ∷ ks) ns found is = after_at (same k.namespace ns) k found (after_in ks ns) (scheduled_in ks ns) is (λ e. after_some ks ns found e)

taken_by : (t s : Bool) (r : Schedule) (at : ℕ) → t ≡ s → (if t then taken at r else r) ≡ record r { last = if s then Some at else r.last }
taken_by true true r at e = refl
taken_by true false r at e = absurd (cc)
taken_by false true r at e = absurd (cc)
taken_by false false r at e = refl

space_by : (t s : Bool) (k : ScheduledNamespace) (at : ℕ) → t ≡ s → (if t then space_taken at k else k) ≡ record k { last = if s then Some at else k.last }
space_by true true k at e = refl
space_by true false k at e = absurd (cc)
space_by false true k at e = absurd (cc)
space_by false false k at e = refl

complete_by : (t s : Bool) (k : ScheduledNamespace) (at : ℕ) → t ≡ s → (if t then completed at k else k) ≡ record k { complete = if s then Some at else k.complete }
complete_by true true k at e = refl
complete_by true false k at e = absurd (cc)
complete_by false true k at e = absurd (cc)
complete_by false false k at e = refl

module _ (eq : Id → Id → Bool) (laws : IsEquivalence eq) (agree : (a b : Id) → eq a b ≡ same a b) where
  of_key : (k id : Id) → eq k id ≡ same id k
  of_key k id = laws.symm k id ∙ agree id k

  pub counted : (ns : Id) (ss : List Schedule) → length (filter (λ (s : Schedule). eq ns s.namespace) ss) ≡ count_schedules ss ns
  counted ns ss = ap length (filter_same (λ (s : Schedule). eq ns s.namespace) (λ (s : Schedule). same s.namespace ns) (λ s. of_key ns s.namespace) ss)

  pub least : (ns : Id) (now : ℕ) (ss : List Schedule) → gathered (λ (s : Schedule). eq ns s.namespace) (lowered now) None ss ≡ least_low ss ns now
  least ns now [] = refl
  least ns now (s ∷ ss) =
      let rest = least ns now ss in
      ap (λ o. if eq ns s.namespace then lowered now s o else o) rest
      ∙ ap (λ b. if b then lowered now s (least_low ss ns now) else least_low ss ns now) (of_key ns s.namespace)

  pub periods : (id : Id) (interval retention now : ℕ) (ss : List Schedule)
      → changed_where (λ (s : Schedule). eq id s.id) (edited interval retention now) ss ≡ with_periods id interval retention now ss
  periods id interval retention now ss =
      changed_map (λ (s : Schedule). eq id s.id) (edited interval retention now) _
      (λ s. ap (λ b. if b then edited interval retention now s else s) (of_key id s.id)) ss

  pub lasts : (id : Id) (at : ℕ) (ss : List Schedule) → changed_where (λ (s : Schedule). eq id s.id) (taken at) ss ≡ set_last id at ss
  lasts id at ss = changed_map (λ (s : Schedule). eq id s.id) (taken at) _ (λ s. taken_by (eq id s.id) (same s.id id) s at (of_key id s.id)) ss

  pub gone : (id : Id) (ss : List Schedule) → filter (λ (s : Schedule). not (eq id s.id)) ss ≡ without_schedule id ss
  gone id ss = filter_same (λ (s : Schedule). not (eq id s.id)) (λ (s : Schedule). not (same s.id id)) (λ s. ap not (of_key id s.id)) ss

  pub space_lasts : (ns : Id) (at : ℕ) (ks : List ScheduledNamespace)
      → changed_where (λ (k : ScheduledNamespace). eq ns k.namespace) (space_taken at) ks ≡ set_last_of ns at ks
  space_lasts ns at ks =
      changed_map (λ (k : ScheduledNamespace). eq ns k.namespace) (space_taken at) _
      (λ k. space_by (eq ns k.namespace) (same k.namespace ns) k at (of_key ns k.namespace)) ks

  pub completes : (ns : Id) (at : ℕ) (ks : List ScheduledNamespace)
      → changed_where (λ (k : ScheduledNamespace). eq ns k.namespace) (completed at) ks
      ≡ map {A = ScheduledNamespace} (λ k. record k { complete = if same k.namespace ns then Some at else k.complete }) ks
  completes ns at ks =
      changed_map (λ (k : ScheduledNamespace). eq ns k.namespace) (completed at) _
      (λ k. complete_by (eq ns k.namespace) (same k.namespace ns) k at (of_key ns k.namespace)) ks
