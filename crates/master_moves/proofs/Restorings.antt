-- What is found of a restoration by its identifier.
use Rattle.std.proofs.Common.{ℕ, ◌≡◌, ◌<◌, ◌+◌, ◌&&◌, not, Some, None, sym, ap, subst, ◌∙◌, arith}
use Rattle.row_values.specs.Ids.{Id, same, Restoration, Snapshot, id_bound}
use Rattle.model.specs.Coordination.{unfinished_restoration}
use Rattle.model.specs.Parts.{Master, Parts, refused}
use Rattle.model.specs.Acts.{NotPending}
use Rattle.std.specs.Option.{option_map}
use Rattle.model.specs.Moves.{advance, advancing, progress_of, restoration_progress, awaited_by_restoration, after_restoration, waits_for, moving}
use Rattle.model.specs.Records.{RestorationRecord, Switching, first_unacked, is_restored}
use Rattle.model.specs.Lists.{tablets_active_at}
use Rattle.model.specs.Restored.{tables_back, restored_tables, switch_list}
use Rattle.row_values.specs.Elements.{In}
use Rattle.law_invariants.proofs.Finding.{find_is}
use Rattle.master_part.specs.Acts.{IsLawful}
use Rattle.master_part.specs.Going.{IsRestoration, OfRestoration, SwitchesBy, Brings}
use Rattle.master_part.specs.declared.switch.Switch.{Switch}

-- what holds of the restoration that was found holds of each that is found by its identifier
pub found_alone : (Needs : RestorationRecord → Type 0) (m : Master) (id : Id) (r : RestorationRecord) → IsLawful m → id.kind ≡ Restoration
    → unfinished_restoration m.restorations id ≡ Some r → Needs r → IsRestoration id m × OfRestoration id m Needs
found_alone Needs m id r lawful kind found needs = (
  record { kind = kind; once = lawful.one_restoration id },
  λ s is. let both : Some r ≡ Some s = sym found ∙ is in let one : r ≡ s = cc in subst Needs one needs,
)

pub few_snapshots : (m : Master) → IsLawful m → m.drawn.snapshots + 1 < id_bound
few_snapshots m lawful = omega (arith, lawful.few Snapshot)

-- an advance of a restoration that was found is its move
pub advance_is : (m : Master) (id : Id) (r : RestorationRecord) (n : ℕ) (ps : Parts) → ps.master ≡ m → id.kind ≡ Restoration
    → unfinished_restoration m.restorations id ≡ Some r
    → advance id n ps ≡ moving (waits_for (first_unacked r.listed) (awaited_by_restoration r.state m r)) id (after_restoration m r)
unfolding advance
advance_is m id r n ps is kind found =
    ap (λ m. advancing (progress_of id.kind m id) id) is
    ∙ ap (λ k. advancing (progress_of k m id) id) kind
    ∙ ap (λ o. advancing (option_map (restoration_progress m) o) id) found

-- the switch of a restoration that was found
pub found_switches : (m : Master) (id : Id) (r : RestorationRecord) (point : ℕ) (serving : Id) (s : Switch) → IsLawful m → id.kind ≡ Restoration
    → unfinished_restoration m.restorations id ≡ Some r → r.state ≡ Switching point serving
    → tables_back m.catalog.tables r.namespace r.to point ≡ s.tables
    → tablets_active_at m.catalog.owners m.activity r.namespace r.to ≡ s.active
    → switch_list m.catalog.owners m.activity r.namespace r.to point serving (restored_tables m.catalog.tables r.namespace r.to point) ≡ s.listed
    → IsRestoration id m × OfRestoration id m (λ r. SwitchesBy r.state s r m)
found_switches m id r point serving s lawful kind found is tables active listed =
    let there : In r m.restorations = (find_is (λ r. same r.id id && not (is_restored r.state)) m.restorations r found).listed in
    let brings : Brings s r point serving m = record { tables = tables; active = active; listed = listed; past = lawful.switches r point serving there is; home = lawful.home } in
    found_alone (λ r. SwitchesBy r.state s r m) m id r lawful kind found (subst (λ state. SwitchesBy state s r m) (sym is) brings)

-- and of one that was not found is refused
pub no_advance : (m : Master) (id : Id) (n : ℕ) (ps : Parts) → ps.master ≡ m → id.kind ≡ Restoration
    → unfinished_restoration m.restorations id ≡ None → advance id n ps ≡ refused (NotPending id)
unfolding advance
no_advance m id n ps is kind found =
    ap (λ m. advancing (progress_of id.kind m id) id) is
    ∙ ap (λ k. advancing (progress_of k m id) id) kind
    ∙ ap (λ o. advancing (option_map (restoration_progress m) o) id) found
