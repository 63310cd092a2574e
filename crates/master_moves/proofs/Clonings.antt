-- What the advance of a clone comes to, by the record that is found.
use Rattle.std.proofs.Common.{ℕ, ◌≡◌, ◌≤◌, ◌<◌, ◌+◌, ◌&&◌, not, Some, None, refl, ap, subst, ◌∙◌, arith}
use Rattle.std.specs.Option.{option_map}
use Rattle.row_values.specs.Elements.{In}
use Rattle.row_values.specs.Ids.{Id, Clone, Snapshot, same, id_bound}
use Rattle.model.specs.Times.{holds_at}
use Rattle.model.specs.Catalog.{TableRecord}
use Rattle.model.specs.Coordination.{unfinished_clone}
use Rattle.model.specs.Moves.{advance, advancing, progress_of, clone_progress, awaited_by_clone, after_clone, waits_for, moving}
use Rattle.model.specs.Acts.{NotPending}
use Rattle.model.specs.Parts.{Master, Parts, refused}
use Rattle.model.specs.Records.{CloneRecord, CloneState, Accepted, CloneSnapshot, Copying, CloneReleasing, CloneComplete, first_unacked, is_cloned}
use Rattle.model.specs.Restored.{newest, record_at}
use Rattle.catalog_core.specs.Cloned.{TargetFits}
use Rattle.law_invariants.proofs.Finding.{find_is}
use Rattle.master_part.specs.Acts.{IsLawful}
use Rattle.master_part.specs.Going.{OfClone}
use Rattle.master_moves.specs.Clonings.{IsCopying}

-- a table of the catalog goes on with its newest columns
pub goes_on_there : (m : Master) (table : Id) (x : ℕ) (t : TableRecord) → IsLawful m → record_at m.catalog.tables table x ≡ Some t
    → t.schema.next ≤ (newest m.catalog.tables t).next
goes_on_there m table x t lawful found =
    lawful.newest t (find_is (λ (r : TableRecord). holds_at x r.from r.to && same r.id table) m.catalog.tables t found).listed

pub few_snapshots : (m : Master) → IsLawful m → m.drawn.snapshots + 1 < id_bound
few_snapshots m lawful = omega (arith, lawful.few Snapshot)

-- what holds of the record that is found is what is needed of each
pub found_alone : (m : Master) (id : Id) (r : CloneRecord) (Needs : CloneRecord → Type 0) → unfinished_clone m.clones id ≡ Some r
    → Needs r → OfClone id m Needs
found_alone m id r Needs found needs = λ q is. let one : r ≡ q = cc in subst Needs one needs

-- the target of a clone that copies may become current
pub target_fits : (m : Master) (id : Id) (r : CloneRecord) → IsLawful m → unfinished_clone m.clones id ≡ Some r → IsCopying r.state
    → TargetFits m.catalog r
target_fits m id r lawful found copying =
    by r.state refl copying
  where
    listed : In r m.clones
    listed = (find_is (λ (q : CloneRecord). same q.id id && not (is_cloned q.state)) m.clones r found).listed

    by : (state : CloneState) → r.state ≡ state → IsCopying state → TargetFits m.catalog r
    by Accepted is k = absurd k
    by (CloneSnapshot own) is k = absurd k
    by (Copying serving copied_at) is k = lawful.shows r serving copied_at listed is
    by (CloneReleasing serving copied_at) is k = absurd k
    by (CloneComplete serving copied_at) is k = absurd k

-- an advance of a clone that was found is its move
pub advance_is : (m : Master) (id : Id) (r : CloneRecord) (n : ℕ) (ps : Parts) → ps.master ≡ m → id.kind ≡ Clone
    → unfinished_clone m.clones id ≡ Some r
    → advance id n ps ≡ moving (waits_for (first_unacked r.listed) (awaited_by_clone r.state m r)) id (after_clone m r)
unfolding advance
advance_is m id r n ps is kind found =
    ap (λ m. advancing (progress_of id.kind m id) id) is
    ∙ ap (λ k. advancing (progress_of k m id) id) kind
    ∙ ap (λ o. advancing (option_map (clone_progress m) o) id) found

-- and of one that was not found is refused
pub no_advance : (m : Master) (id : Id) (n : ℕ) (ps : Parts) → ps.master ≡ m → id.kind ≡ Clone → unfinished_clone m.clones id ≡ None
    → advance id n ps ≡ refused (NotPending id)
unfolding advance
no_advance m id n ps is kind found =
    ap (λ m. advancing (progress_of id.kind m id) id) is
    ∙ ap (λ k. advancing (progress_of k m id) id) kind
    ∙ ap (λ o. advancing (option_map (clone_progress m) o) id) found
