-- What is done by the kind of an operation.
use Rattle.std.proofs.Common.{ℕ, ◌≡◌, sym, ap}
use Rattle.row_values.specs.Ids.{Id, Kind, Snapshot, Restoration}
use Rattle.model.specs.Parts.{Master}
use Rattle.model.specs.Coordination.{pending, pending_of, acked, acked_by}
use Rattle.model.specs.Moves.{moved, moved_of}
use Rattle.model.specs.Cleanup.{removed, removed_of}

pub pending_by : (kind : Kind) (operation : Id) (slot : ℕ) (m : Master) → kind ≡ operation.kind
    → pending_of kind m.snapshots m.restorations m.clones operation slot ≡ pending m operation slot
pending_by kind operation slot m is = ap (λ k. pending_of k m.snapshots m.restorations m.clones operation slot) is

pub acked_by_kind : (kind : Kind) (operation : Id) (slot n : ℕ) (m : Master) → kind ≡ operation.kind
    → acked_by kind operation slot n m ≡ acked operation slot n m
acked_by_kind kind operation slot n m is = ap (λ k. acked_by k operation slot n m) is

pub moves_snapshot : (operation : Id) (n : ℕ) (m : Master) → operation.kind ≡ Snapshot
    → moved_of Snapshot operation n m ≡ moved operation n m
moves_snapshot operation n m is = ap (λ k. moved_of k operation n m) (sym is)

pub removed_by_kind : (kind : Kind) (target : Id) (n : ℕ) (m : Master) → kind ≡ target.kind
    → removed_of kind target n m ≡ removed target n m
removed_by_kind kind target n m is = ap (λ k. removed_of k target n m) is

pub moves_restoration : (operation : Id) (n : ℕ) (m : Master) → operation.kind ≡ Restoration
    → moved_of Restoration operation n m ≡ moved operation n m
moves_restoration operation n m is = ap (λ k. moved_of k operation n m) (sym is)
