-- How far a cutoff may be raised is not past the clock: the last complete snapshot of a namespace is over.
use Rattle.std.proofs.Common.{ℕ, ◌≡◌, ◌≤◌, ◌<◌, ◌+◌, ◌-◌, Bool, true, false, cond, List, [], ◌∷◌, Option, Some, None, inl, inr, refl, arith}
use Rattle.std.specs.Prelude.{IfSome}
use Rattle.std.specs.Option.{option_and_then}
use Rattle.row_values.specs.Elements.{In}
use Rattle.row_values.specs.Ids.{Id, same}
use Rattle.model.specs.Times.{end_of_time}
use Rattle.model.specs.Records.{ScheduledNamespace, scheduled_in}
use Rattle.model.specs.Parts.{Master}
use Rattle.model.specs.Schedules.{complete_to, or_before}
use Rattle.model.specs.RowActs.{scheduled_at, allowed_of}
use Rattle.master_part.specs.Acts.{IsLawful}

found_by : (b : Bool) (j k : ScheduledNamespace) (ks : List ScheduledNamespace) (found : Option ScheduledNamespace) → cond b (Some j) found ≡ Some k → (found ≡ Some k → In k ks)
    → In k (j ∷ ks)
found_by true j k ks found is rest = inl (cc)
found_by false j k ks found is rest = inr (rest is)

in_scheduled : (ks : List ScheduledNamespace) (ns : Id) (k : ScheduledNamespace) → scheduled_in ks ns ≡ Some k → In k ks
in_scheduled [] ns k is = absurd (cc)
in_scheduled (j ∷ ks) ns k is = found_by (same j.namespace ns) j k ks (scheduled_in ks ns) is (λ e. in_scheduled ks ns k e)

of_found : (ks : List ScheduledNamespace) (ns : Option Id) (k : ScheduledNamespace) → option_and_then (scheduled_in ks) ns ≡ Some k → In k ks
of_found ks None k is = absurd (cc)
of_found ks (Some ns) k is = in_scheduled ks ns k is

pub complete_over : (m : Master) (slot : ℕ) (k : ScheduledNamespace) → IsLawful m → scheduled_at m slot ≡ Some k → complete_to k + 1 ≤ m.clock
complete_over m slot k lawful is = lawful.complete k (of_found m.scheduled _ k is)

pub complete_before : (complete : Option ℕ) (since time : ℕ) → or_before complete since + 1 ≤ time → time ≤ end_of_time → IfSome complete (λ t. t < end_of_time)
complete_before None since time over within = tt
complete_before (Some at) since time over within = omega (arith, over, within)

pub allowed_past : (found : Option ScheduledNamespace) (m : Master) (n : ℕ) → m.clock < n → ((k : ScheduledNamespace) → found ≡ Some k → complete_to k + 1 ≤ m.clock)
    → allowed_of found n ≤ n
allowed_past None m n later over = less n _
  where
    less : (a b : ℕ) → a - b ≤ a
    less a b = omega arith
allowed_past (Some k) m n later over = let h = over k refl in omega (arith, h, later)
