-- The switch of a restoration.
use Rattle.std.proofs.Common.{ℕ, ◌≡◌, ◌&&◌, not, Some, refl, sym, ap, subst, ◌∙◌}
use Rattle.std.specs.Option.{option_map_or}
use Rattle.row_values.specs.Ids.{Id, Restoration, same}
use Rattle.model.specs.Parts.{Master}
use Rattle.model.specs.Records.{RestorationRecord, Switching, is_restored}
use Rattle.model.specs.Coordination.{unfinished_restoration}
use Rattle.model.specs.Moves.{moved_of, restoration_moved, restoration_goes, switched}
use Rattle.restore_coord.specs.Seen.{state_of}
use Rattle.restore_coord.specs.declared.state.RestorationState.{RestorationState as Step}
use Rattle.restore_coord.specs.declared.state.RestorationState.TheVariants as step
use Rattle.law_invariants.proofs.Finding.{find_is, both_pass, same_equal}
use Rattle.master_part.specs.declared.switch.Switch.{Switch}
use Rattle.master_part.specs.Going.{OfRestoration, SwitchesBy, Brings}

-- an unfinished restoration that switches, in the step in which its record is
pub record Switches (operation : Id) (s : Switch) (m : Master) (r : RestorationRecord) (at : Step) : Type 0 where
  pub id_is : r.id ≡ operation
  pub state_is : state_of at ≡ r.state
  pub found : unfinished_restoration m.restorations operation ≡ Some r
  pub fits : SwitchesBy (state_of at) s r m

pub switches : (operation : Id) (s : Switch) (m : Master) (r : RestorationRecord) (at : Step) → state_of at ≡ r.state
    → unfinished_restoration m.restorations operation ≡ Some r
    → OfRestoration operation m (λ r. SwitchesBy r.state s r m) → Switches operation s m r at
switches operation s m r at is found fits = record {
  id_is =
      same_equal r.id operation
      (both_pass (same r.id operation) (not (is_restored r.state))
      (find_is (λ (q : RestorationRecord). same q.id operation && not (is_restored q.state)) m.restorations r found).passes).0;
  state_is = is;
  found = found;
  fits = subst (λ state. SwitchesBy state s r m) (sym is) (fits r found);
}

-- it is at its switch
pub only_switching : (operation : Id) (s : Switch) (m : Master) (r : RestorationRecord) (at : Step) → Switches operation s m r at
    → ((point : ℕ) (serving : Id) → at ≡ step.Switching point serving → ⊥) → ⊥
only_switching operation s m r step.Fencing it never = it.fits
only_switching operation s m r (step.Snapshotting point own) it never = it.fits
only_switching operation s m r (step.Switching point serving) it never = never point serving refl
only_switching operation s m r (step.Restoring point serving) it never = it.fits
only_switching operation s m r (step.Releasing point serving) it never = it.fits
only_switching operation s m r (step.Restored point serving) it never = it.fits

pub brings : (operation : Id) (s : Switch) (m : Master) (r : RestorationRecord) (at : Step) (point : ℕ) (serving : Id)
    → Switches operation s m r at → at ≡ step.Switching point serving → Brings s r point serving m
brings operation s m r at point serving it is = subst (λ k. SwitchesBy (state_of k) s r m) is it.fits

-- what it comes to
pub it_switches : (operation : Id) (s : Switch) (m : Master) (r : RestorationRecord) (at : Step) (point : ℕ) (serving : Id) (n : ℕ)
    → Switches operation s m r at → at ≡ step.Switching point serving
    → moved_of Restoration operation n m ≡ restoration_goes (Switching point serving) r n m (switched r point m)
it_switches operation s m r at point serving n it is =
    ap (λ o. option_map_or (λ (r : RestorationRecord). restoration_moved r.state r n m) o (record m { clock = n })) it.found
    ∙ ap (λ state. restoration_moved state r n m) (sym it.state_is ∙ ap state_of is)
