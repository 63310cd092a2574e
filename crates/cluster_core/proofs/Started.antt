-- The empty cluster has the empty history.
use Rattle.std.proofs.Common.{◌≡◌, ℕ, zero, suc, ◌+◌, ◌≤◌, List, [], ◌∷◌, ◌++◌, map, refl, sym, ap, subst, arith, ◌∙◌, replicate}
use Rattle.step_table.specs.Lists.{Every}
use Rattle.step_table.specs.Histories.{history_of, IsNumbered}
use Rattle.model.specs.Tablets.{emptied}
use Rattle.model.specs.Drawn.{most_slots}
use Rattle.model.specs.Parts.{empty_master}
use Rattle.model.specs.History.{replay}
use Rattle.machine_laws.specs.Views.{OfMaster, OfTablet}
use Rattle.machine_laws.specs.Laid.{parts_of}
use Rattle.machine_laws.specs.Past.{IsPast, IsLegal, book}
use Rattle.machine_laws.specs.Starts.{IsStart}
use Rattle.machine_laws.specs.Core.{core_of}
use Rattle.machine_laws.proofs.Started.{begun, no_history}
use Rattle.cluster_core.specs.Tellings.{no_room}
use Rattle.cluster_core.specs.Coding.{coding}
use Rattle.cluster_core.specs.Starts.{vacant_part, parts_up_to, first_parts}
use Rattle.cluster_core.specs.Held.{Part}

kept_vacant : (n : ℕ) → map (λ (p : Part). p.kept) (replicate n vacant_part) ≡ replicate n (OfTablet (emptied 0))
kept_vacant zero = refl
kept_vacant (suc n) = ap (λ ks. OfTablet (emptied 0) ∷ ks) (kept_vacant n)

logs_vacant : (n : ℕ) → Every (λ (p : Part). p.log ≡ []) (replicate n vacant_part)
logs_vacant zero = tt
logs_vacant (suc n) = (refl, logs_vacant n)

first_starts : (slots : ℕ) → IsStart slots (first_parts slots)
first_starts slots = record { kept = ap (λ ks. OfMaster (empty_master slots) ∷ ks) (kept_vacant slots); logs = (refl, logs_vacant slots) }

first_history : (slots : ℕ) → history_of (core_of coding) (first_parts slots) ≡ []
first_history slots = no_history coding (first_parts slots) (first_starts slots).logs

first_is_past : (slots : ℕ) → IsPast slots [] (first_parts slots)
first_is_past slots = begun slots (first_parts slots) (first_starts slots)

pub first_past : (slots : ℕ) (ps : List Part) → ps ≡ first_parts slots → IsPast slots (book (history_of (core_of coding) ps)) ps
first_past slots ps is =
    subst (λ qs. IsPast slots (book (history_of (core_of coding) qs)) qs) (sym is) (subst (λ es. IsPast slots (book es) (first_parts slots)) (sym (first_history slots)) (first_is_past slots))

pub first_legal : (slots : ℕ) (ps : List Part) → slots ≤ most_slots → ps ≡ first_parts slots → IsLegal ps
first_legal slots ps few is = subst IsLegal (sym is) (record {
  slots = slots;
  few = few;
  history = [];
  past = first_is_past slots;
})

pub first_numbered : (slots : ℕ) (ps : List Part) → ps ≡ first_parts slots → IsNumbered 1 (history_of (core_of coding) ps)
first_numbered slots ps is = subst (λ qs. IsNumbered 1 (history_of (core_of coding) qs)) (sym is) (subst (IsNumbered 1) (sym (first_history slots)) tt)

pub first_book : (slots : ℕ) (ps : List Part) → ps ≡ first_parts slots → book (history_of (core_of coding) ps) ≡ []
first_book slots ps is = ap (λ qs. book (history_of (core_of coding) qs)) is ∙ ap book (first_history slots)

pub first_shown : (slots : ℕ) (ps : List Part) → ps ≡ first_parts slots → parts_of ps ≡ replay slots []
first_shown slots ps is = ap parts_of is ∙ (first_is_past slots).shows

vacant_snoc : (n : ℕ) → replicate n vacant_part ++ vacant_part ∷ [] ≡ replicate (suc n) vacant_part
vacant_snoc zero = refl
vacant_snoc (suc n) = ap (λ ps. vacant_part ∷ ps) (vacant_snoc n)

pub one_more : (slots n : ℕ) → parts_up_to slots n ++ vacant_part ∷ [] ≡ parts_up_to slots (n + 1)
one_more slots n =
    let e : suc n ≡ n + 1 = omega arith in
    ap (λ ps. record { kept = OfMaster (empty_master slots); log = []; room = no_room } ∷ ps) (vacant_snoc n) ∙ ap (parts_up_to slots) e
