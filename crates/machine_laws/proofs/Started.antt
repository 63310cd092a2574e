-- The empty cluster has the empty history.
use Rattle.std.proofs.Math.Path.{fun_ext}
use Rattle.std.proofs.Common.{◌≡◌, ℕ, zero, suc, ◌+◌, ◌<◌, List, [], ◌∷◌, length, map, refl, sym, ap, subst, arith, ◌∙◌, replicate, Option, Some, None}
use Rattle.std.specs.Prelude.{slice_get}
use Rattle.std.proofs.lemmas.List.{length-map, length-replicate}
use Rattle.step_table.specs.Lists.{Every, total}
use Rattle.step_table.specs.Histories.{merged, history_of}
use Rattle.model.specs.Tablets.{Tablet, emptied}
use Rattle.model.specs.Parts.{start, empty_master}
use Rattle.model.specs.History.{replay}
use Rattle.machine_laws.specs.Views.{KeptView, OfMaster, OfTablet, PartView}
use Rattle.machine_laws.specs.Laid.{parts_of, tablet_in, master_in, kept_in, entries_in, HasKind}
use Rattle.machine_laws.specs.Past.{IsPast}
use Rattle.machine_laws.specs.Core.{Coding, core_of}
use Rattle.machine_laws.specs.Starts.{first_kept, IsStart}

abbrev vacant : ℕ → List KeptView
vacant n = replicate n (OfTablet (emptied 0))

tablet_vacant : (n k : ℕ) → tablet_in (slice_get (vacant n) k) ≡ emptied 0
tablet_vacant zero k = refl
tablet_vacant (suc n) zero = refl
tablet_vacant (suc n) (suc k) = tablet_vacant n k

tablet_first : (slots k : ℕ) → tablet_in (slice_get (first_kept slots) k) ≡ emptied 0
tablet_first slots zero = refl
tablet_first slots (suc k) = tablet_vacant slots k

kind_later : (j k : ℕ) (p : Option KeptView) → HasKind (suc j) p → HasKind (suc k) p
kind_later j k None is = is
kind_later j k (Some (OfMaster m)) is = is
kind_later j k (Some (OfTablet t)) is = tt

kind_vacant : (n k : ℕ) → k < n → HasKind 1 (slice_get (vacant n) k)
kind_vacant zero k lt = absurd (omega arith)
kind_vacant (suc n) zero lt = tt
kind_vacant (suc n) (suc k) lt = kind_vacant n k (omega arith)

kind_first : (slots k : ℕ) → k < slots + 1 → HasKind k (slice_get (first_kept slots) k)
kind_first slots zero lt = tt
kind_first slots (suc k) lt = kind_later 0 k (slice_get (vacant slots) k) (kind_vacant slots k (omega arith))

replay_none : (slots : ℕ) → replay slots [] ≡ start slots
unfolding replay
replay_none slots = refl

module _ {R : Type 0} where
  kept_get : (ps : List (PartView R)) (k : ℕ) → kept_in (slice_get ps k) ≡ slice_get (map (λ (p : PartView R). p.kept) ps) k
  kept_get [] k = refl
  kept_get (p ∷ ps) zero = refl
  kept_get (p ∷ ps) (suc k) = kept_get ps k

  none_in : (ps : List (PartView R)) (k : ℕ) → Every (λ (p : PartView R). p.log ≡ []) ps → entries_in (slice_get ps k) ≡ 0
  none_in [] k logs = refl
  none_in (p ∷ ps) zero logs = ap length logs.0
  none_in (p ∷ ps) (suc k) logs = none_in ps k logs.1

  none_together : (ps : List (PartView R)) → Every (λ (p : PartView R). p.log ≡ []) ps → total (λ (p : PartView R). length p.log) ps ≡ 0
  none_together [] logs = refl
  none_together (p ∷ ps) logs = let l : length p.log ≡ 0 = ap length logs.0 in let r = none_together ps logs.1 in omega arith

  shown : (slots : ℕ) (ps : List (PartView R)) → map (λ (p : PartView R). p.kept) ps ≡ first_kept slots → parts_of ps ≡ replay slots []
  shown slots ps is =
      let at : (k : ℕ) → kept_in (slice_get ps k) ≡ slice_get (first_kept slots) k = λ k. kept_get ps k ∙ ap (λ ks. slice_get ks k) is in
      ap (λ m. record { master = m; tablet = (parts_of ps).tablet }) (ap master_in (at 0))
      ∙ ap (λ (f : ℕ → Tablet). record { master = empty_master slots; tablet = f }) (fun_ext (λ k. ap tablet_in (at k) ∙ tablet_first slots k))
      ∙ sym (replay_none slots)

  pub begun : (slots : ℕ) (ps : List (PartView R)) → IsStart slots ps → IsPast slots [] ps
  begun slots ps start =
      let size : length ps ≡ slots + 1 = (let l = sym (length-map ps (λ (p : PartView R). p.kept)) ∙ ap length start.kept in let n : length (vacant slots) ≡ slots = length-replicate slots (OfTablet (emptied 0)) in omega arith) in
      record {
        legal = tt;
        size = size;
        count = sym (none_together ps start.logs);
        shows = shown slots ps start.kept;
        holds = λ k lt. none_in ps k start.logs;
        kinds = λ k lt. subst (HasKind k) (sym (kept_get ps k ∙ ap (λ ks. slice_get ks k) start.kept)) (kind_first slots k (omega arith));
      }

-- its logs together are empty too
pub no_history : {R D F : Type 0} (code : Coding R D F) (ps : List (PartView R)) → Every (λ (p : PartView R). p.log ≡ []) ps → history_of (core_of code) ps ≡ []
no_history code [] logs = refl
no_history code (p ∷ ps) logs = ap (merged (history_of (core_of code) ps)) logs.0 ∙ no_history code ps logs.1
