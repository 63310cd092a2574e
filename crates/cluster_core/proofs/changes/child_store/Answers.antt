use Rattle.std.proofs.Common.{◌≡◌, ◌+◌, ◌<◌, ℕ, true, false, not, Bool, Option, refl, sym, ap, subst, ◌∙◌, arith}
use Rattle.step_table.specs.Helds.{slots_of, parts_of}
use Rattle.row_values.specs.Store.{Below, part_of}
use Rattle.law_store.proofs.Writing.{below_weaker}
use Rattle.model.specs.Tablets.{Tablet, emptied}
use Rattle.machine_laws.specs.Laid.{at_slot, tablet_in, kept_in}
use Rattle.cluster_core.specs.Held.{Part}
use Rattle.row_values.specs.Slots.{has}
use Rattle.cluster_core.proofs.Laying.{at_none, first_empty, slot_later}
use Rattle.cluster_core.proofs.changes.child_store.Goals as goal
use Rattle.cluster_core.proofs.changes.child_store.Goals.{then-parent-eq0-via-then-parent-eq0, then-parent-eq0-via-else-parent-eq0+then-is_absent}

not_false : (b : Bool) → true ≡ not b → b ≡ false
not_false true is = is
not_false false is = refl

pub returns-then-parent-eq0-clause-versions : goal.returns-then-parent-eq0-clause-versions
returns-then-parent-eq0-clause-versions g c =
    let ks = slots_of c.args.held.now in
    let ps = parts_of c.args.held.now in
    let k = c.args.parent in
    let none : tablet_in (kept_in (at_slot ks ps k)) ≡ emptied 0 = elim c.then-parent-eq0.branch [
      | then-parent-eq0-via-then-parent-eq0 w ↦ ap (λ (j : ℕ). tablet_in (kept_in (at_slot ks ps j))) w.if-parent-eq0.true ∙ first_empty ks ps c.requires.kinds
      | then-parent-eq0-via-else-parent-eq0+then-is_absent w ↦ ap (λ (p : Option Part). tablet_in (kept_in p)) (at_none ks ps k (not_false (has ks k) (sym w.if-is_absent.true ∙ w.is_absent.ensures.exact)))
    ] in
    c.of.ensures.versions ∙ c.in_ok-store.ensures.versions ∙ ap (λ (t : Tablet). part_of c.args.range.low c.args.range.high t.versions) (sym none)

pub returns-then-parent-eq0-clause-cutoff : goal.returns-then-parent-eq0-clause-cutoff
returns-then-parent-eq0-clause-cutoff g c =
    let ks = slots_of c.args.held.now in
    let ps = parts_of c.args.held.now in
    let k = c.args.parent in
    let none : tablet_in (kept_in (at_slot ks ps k)) ≡ emptied 0 = elim c.then-parent-eq0.branch [
      | then-parent-eq0-via-then-parent-eq0 w ↦ ap (λ (j : ℕ). tablet_in (kept_in (at_slot ks ps j))) w.if-parent-eq0.true ∙ first_empty ks ps c.requires.kinds
      | then-parent-eq0-via-else-parent-eq0+then-is_absent w ↦ ap (λ (p : Option Part). tablet_in (kept_in p)) (at_none ks ps k (not_false (has ks k) (sym w.if-is_absent.true ∙ w.is_absent.ensures.exact)))
    ] in
    c.of.ensures.cutoff ∙ c.in_ok-store.ensures.cutoff ∙ ap (λ (t : Tablet). t.cutoff) (sym none)

pub returns-clause-below : goal.returns-clause-below
returns-clause-below g c =
    let t = c.tablet_in.result.now.tablet in
    let less = subst (λ (x : Tablet). x.clock < c.args.stamp) c.tablet_in.ensures.tablet (slot_later c.args.stamp (slots_of c.args.held.now) (parts_of c.args.held.now) c.args.parent c.requires.begun c.requires.later) in
    subst (Below (c.args.stamp + 1)) (sym c.of-2.ensures.versions) (below_weaker _ (t.clock + 1) (c.args.stamp + 1) (omega (arith, less)) c.in_ok-store-2.ensures.below)

pub returns-clause-past : goal.returns-clause-past
returns-clause-past g c =
    let less = subst (λ (x : Tablet). x.clock < c.args.stamp) c.tablet_in.ensures.tablet (slot_later c.args.stamp (slots_of c.args.held.now) (parts_of c.args.held.now) c.args.parent c.requires.begun c.requires.later) in
    let same = c.of-2.ensures.cutoff in
    let past = c.in_ok-store-2.ensures.past in
    omega (arith, less, same, past)
