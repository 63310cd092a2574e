-- A clone is complete: its target's tablets were released.
use Rattle.std.proofs.Common.{ℕ, ◌≡◌, ◌≤◌, ◌<◌, List, [], inl, refl, sym, ap, subst, ◌∙◌, arith, le_refl, le_of_lt}
use Rattle.std.proofs.lemmas.Bool.{true≢false}
use Rattle.model.specs.Cluster.{Id, Interval, CloneRecord, CloneReleasing, CloneComplete, Copying, Parts}
use Rattle.model.specs.Journal.{Change as Made}
use Rattle.model.specs.Stands.{copied_at}
use Rattle.law_invariants.specs.Orders.{ClonePlace, CloneSlot, stage_of_clone}
use Rattle.law_invariants.specs.Invariant.{Inv}
use Rattle.law_clones.proofs.Entering.{Step, Enters, entering_keeps}
use Rattle.law_clones.proofs.Advancing.{MayMove, MovedKeeps, ticked_keeps}

pub released_moves : (ps : Parts) (activity : List Interval) (changes : List Made) (n : ℕ) (r : CloneRecord) (serving : Id) (at : ℕ) → ps.master.clock < n → r.state ≡ CloneReleasing serving at → MayMove ps.master r → Inv ps activity changes
    → MovedKeeps (CloneReleasing serving at) ps activity changes n r
released_moves ps activity changes n r serving at before e may inv =
    let q : Parts = record { master = record ps.master { clock = n }; tablet = ps.tablet } in
    let v : Step = record { clone = r; state = CloneComplete serving at; listed = [] } in
    let h = ticked_keeps ps activity changes n (le_of_lt before) inv in
    let w : Enters q changes v = record {
      steps = record {
        kept = may.kept;
        kind_is = (inv.operations.clones r may.kept).kind_is;
        unfinished = may.unfinished;
        acked = may.acked;
        seen = λ dark. absurd (true≢false dark);
        stage = subst (λ s. stage_of_clone s ≤ 2) (sym e) (le_refl _);
        copied = λ x is. inl (ap copied_at e ∙ is);
        released = λ l x isin body. absurd isin;
      };
      still = λ s x is. (let k : CloneReleasing serving at ≡ Copying s x = sym e ∙ is in grind arith);
      drawn_listed = λ l isin. absurd isin;
      in_state = refl;
      slots = λ slot. tt;
      place = λ slot place. (
          let k = subst (λ s. ClonePlace s r slot (ps.tablet slot).done) e place in
          let g = subst (λ s. CloneSlot s ps.master changes r slot (ps.tablet slot)) e ((inv.works slot).obeyed.clones r may.kept) in
          true≢false (sym ((g k.0 k.1.0 k.1.1.0).acked (may.acked k.0 k.1.0)) ∙ k.1.1.1));
    } in
    entering_keeps q activity changes v w h
