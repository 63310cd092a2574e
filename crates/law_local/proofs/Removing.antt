-- A removal reads the master; that of a tablet reads the tablet's part too, which its plan names.
use Rattle.std.proofs.Common.{ℕ, ◌≡◌, List, [], ◌∷◌, Option, Some, None, true, refl, ap, ◌∙◌}
use Rattle.row_values.specs.Ids.{Id, Kind, Tablet, Snapshot}
use Rattle.row_values.specs.Slots.{same_slots, has}
use Rattle.model.specs.Activity.{Interval, last_of}
use Rattle.model.specs.Tablets.{Tablet as TabletPart}
use Rattle.model.specs.Records.{SnapshotRecord, snapshot_with}
use Rattle.model.specs.Parts.{Master, Parts}
use Rattle.model.specs.Cleanup.{removing_tablet, removing_snapshot, removing, remove}
use Rattle.law_local.specs.Agreeing.{Agree}
use Rattle.law_local.proofs.Agreement.{by_test, has_first, has_rest}
use Rattle.law_local.proofs.Judging.{same_has}

found_tablet : (found : Option Interval) (target : Id) (slots : List ℕ) (n : ℕ) (m : Master) (f g : ℕ → TabletPart)
    → ((slot : ℕ) → has slots slot ≡ true → f slot ≡ g slot)
    → removing_tablet found target slots n (record { master = m; tablet = f }) ≡ removing_tablet found target slots n (record { master = m; tablet = g })
found_tablet None target slots n m f g same = refl
found_tablet (Some i) target slots n m f g same = by_test (same_slots slots (i.slot ∷ []))
    (λ kept. ap (λ t. removing_tablet (Some i) target slots n (record { master = m; tablet = λ slot. t })) (same i.slot (same_has slots (i.slot ∷ []) i.slot kept (has_first i.slot []))))
    (λ other. rw other refl)

found_snapshot : (found : Option SnapshotRecord) (target : Id) (slots : List ℕ) (n : ℕ) (m : Master) (f g : ℕ → TabletPart)
    → removing_snapshot found target slots n (record { master = m; tablet = f }) ≡ removing_snapshot found target slots n (record { master = m; tablet = g })
found_snapshot None target slots n m f g = refl
found_snapshot (Some r) target slots n m f g = refl

tablet_same : (target : Id) (slots : List ℕ) (n : ℕ) (p q : Parts) → Agree (0 ∷ slots) p q
    → removing_tablet (last_of p.master.activity target) target slots n p ≡ removing_tablet (last_of q.master.activity target) target slots n q
tablet_same target slots n p q a =
    let e : p.master ≡ q.master = a.master refl in
    ap (λ m. removing_tablet (last_of m.activity target) target slots n (record { master = m; tablet = p.tablet })) e
    ∙ found_tablet (last_of q.master.activity target) target slots n q.master p.tablet q.tablet (λ slot h. a.tablets slot (has_rest 0 slot slots h))

snapshot_same : (target : Id) (slots : List ℕ) (n : ℕ) (p q : Parts) → p.master ≡ q.master
    → removing_snapshot (snapshot_with p.master.snapshots target) target slots n p ≡ removing_snapshot (snapshot_with q.master.snapshots target) target slots n q
snapshot_same target slots n p q e =
    ap (λ m. removing_snapshot (snapshot_with m.snapshots target) target slots n (record { master = m; tablet = p.tablet })) e
    ∙ found_snapshot (snapshot_with q.master.snapshots target) target slots n q.master p.tablet q.tablet

removing_same : (kind : Kind) (target : Id) (slots : List ℕ) (n : ℕ) (p q : Parts) → Agree (0 ∷ slots) p q
    → removing kind target slots n p ≡ removing kind target slots n q
removing_same Tablet target slots n p q a = tablet_same target slots n p q a
removing_same Snapshot target slots n p q a = snapshot_same target slots n p q (a.master refl)
removing_same _ target slots n p q a = refl

pub remove_same : (target : Id) (slots : List ℕ) (n : ℕ) (p q : Parts) → Agree (0 ∷ slots) p q → remove target slots n p ≡ remove target slots n q
unfolding remove
remove_same target slots n p q a = removing_same target.kind target slots n p q a
