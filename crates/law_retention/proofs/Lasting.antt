-- The rows that a restore's or a clone's command takes are there: the frozen set is there, and goes back to the time.
use Rattle.std.proofs.Common.{◌≡◌, ◌∙◌, ℕ, List, true, false, Some, refl, sym, ap, subst, arith}
use Rattle.std.specs.Option.{option_map}
use Rattle.row_values.specs.Ids.{Id}
use Rattle.row_values.specs.Elements.{In}
use Rattle.model.specs.Activity.{Interval, active_at}
use Rattle.model.specs.Catalog.{owner_of}
use Rattle.model.specs.Coordination.{source_slot}
use Rattle.model.specs.Journal.{Change}
use Rattle.model.specs.Parts.{Parts}
use Rattle.model.specs.Records.{Copying, Listed, is_cloned}
use Rattle.model.specs.Tablets.{Body, Copy, Fence, Freeze, Hide, Release, RestoreFrom, set_of}
use Rattle.model.specs.Retained.{FindsRows, ReachesBack, RowsFound, from_set}
use Rattle.law_invariants.specs.Invariant.{Inv}
use Rattle.law_invariants.specs.Operations.{CloneStateGood, CopyingGood, IsServing, RestorationStateGood, RestoringGood}
use Rattle.law_invariants.proofs.Commanded.{IsPending, BySnapshot, ByClone, ByRestoration, pending_is}
use Rattle.law_retention.specs.Facts.{Facts}
use Rattle.law_retention.proofs.Reaching.{set_is}
use Rattle.law_invariants.proofs.Bodies.{copying_is, no_restoration_copy, no_clone_restore, restoring_is, serves_then}

-- a frozen set of a snapshot that serves a time, of a tablet that was active then, goes back to the time
set_reaches : (ps : Parts) (activity : List Interval) (changes : List Change) (slot : ℕ) (snapshot ns : Id) (to : ℕ) (i : Interval) → Inv ps activity changes → Facts ps → IsServing ps.master snapshot ns to
    → In i ps.master.activity → i.slot ≡ slot → owner_of ps.master.catalog.owners i.table ≡ Some ns → active_at to i ≡ true → ReachesBack (option_map from_set (set_of (ps.tablet slot).frozen snapshot)) to
set_reaches ps activity changes slot snapshot ns to i inv facts serves inside at owned active =
    let m = ps.master in
    let t = ps.tablet slot in
    let s = serves_then m changes slot t snapshot ns to i inv.operations (inv.slots slot) (inv.works slot) serves inside at owned active in
    let g = (inv.slots slot).each i inside at in
    let of = set_is t.frozen snapshot s.set s.held in
    let back = (facts.tablets slot g.present).sets s.set serves.serving i to of.0 serves.kept (serves.id_is ∙ sym of.1) inside (sym g.tablet_is) active serves.after serves.reaches in
    subst (λ o. ReachesBack (option_map from_set o) to) (sym s.held) back

restore_reaches : (ps : Parts) (activity : List Interval) (changes : List Change) (slot : ℕ) (operation tablet snapshot : Id) (to point version : ℕ) → Inv ps activity changes → Facts ps
    → IsPending ps.master operation slot (record { tablet = tablet; slot = slot; body = RestoreFrom snapshot to point version; acked = false })
    → ReachesBack (option_map from_set (set_of (ps.tablet slot).frozen snapshot)) to
restore_reaches ps activity changes slot operation tablet snapshot to point version inv facts (BySnapshot k) =
    absurd (let q : RestoreFrom snapshot to point version ≡ Freeze k.snapshot.id k.snapshot.at = (inv.operations.snapshots k.snapshot k.kept).bodies _ k.line.listed in grind arith)
restore_reaches ps activity changes slot operation tablet snapshot to point version inv facts (ByClone k) =
    absurd (no_clone_restore k.clone.state ps.master k.clone _ snapshot to point version (inv.operations.clones k.clone k.kept).in_state k.line.listed refl)
restore_reaches ps activity changes slot operation tablet snapshot to point version inv facts (ByRestoration k) =
    let m = ps.master in
    let r = k.restoration in
    let l : Listed = record { tablet = tablet; slot = slot; body = RestoreFrom snapshot to point version; acked = false } in
    let state_good = (inv.operations.restorations r k.kept).in_state in
    let found = restoring_is r.state m changes r l snapshot to point version state_good k.line.listed refl in
    let good : RestoringGood m changes r point snapshot = subst (λ s. RestorationStateGood s m changes r) found.0 state_good in
    let b = good.back l k.line.listed refl in
    let now = (inv.slots slot).each b.now b.kept_now b.slot_now in
    let there : b.then_.slot ≡ slot = (inv.slots slot).home now.present b.then_ b.kept_then (b.tablet_then ∙ sym b.tablet_now ∙ sym now.tablet_is) in
    let owned = inv.master.listed_of r l k.kept k.line.listed b.then_ b.kept_then b.tablet_then in
    subst (λ x. ReachesBack (option_map from_set (set_of (ps.tablet slot).frozen snapshot)) x) (sym found.1)
    (set_reaches ps activity changes slot snapshot r.namespace r.to b.then_ inv facts good.serves b.kept_then there owned b.active)

copy_reaches : (ps : Parts) (activity : List Interval) (changes : List Change) (slot : ℕ) (operation tablet : Id) (source : ℕ) (snapshot : Id) (to stamp : ℕ) (table : Id) (low high version : ℕ) → Inv ps activity changes → Facts ps
    → IsPending ps.master operation slot (record { tablet = tablet; slot = slot; body = Copy source snapshot to stamp table low high version; acked = false })
    → ReachesBack (option_map from_set (set_of (ps.tablet source).frozen snapshot)) to
copy_reaches ps activity changes slot operation tablet source snapshot to stamp table low high version inv facts (BySnapshot k) =
    absurd (let q : Copy source snapshot to stamp table low high version ≡ Freeze k.snapshot.id k.snapshot.at = (inv.operations.snapshots k.snapshot k.kept).bodies _ k.line.listed in grind arith)
copy_reaches ps activity changes slot operation tablet source snapshot to stamp table low high version inv facts (ByRestoration k) =
    absurd (no_restoration_copy k.restoration.state ps.master changes k.restoration _ source snapshot to stamp table low high version (inv.operations.restorations k.restoration k.kept).in_state k.line.listed refl)
copy_reaches ps activity changes slot operation tablet source snapshot to stamp table low high version inv facts (ByClone k) =
    let m = ps.master in
    let c = k.clone in
    let g = inv.operations.clones c k.kept in
    let l : Listed = record { tablet = tablet; slot = slot; body = Copy source snapshot to stamp table low high version; acked = false } in
    let found = copying_is c.state m c l source snapshot to stamp table low high version g.in_state k.line.listed refl in
    let serving = found.0 in
    let at = found.1.0 in
    let is : c.state ≡ Copying serving at = found.1.1.0 in
    let copied = found.1.1.1 in
    let good : CopyingGood m c serving at = subst (λ s. CloneStateGood s m c) is g.in_state in
    let from = g.sources (ap is_cloned is) copied.pair copied.paired in
    let body : Copy source snapshot to stamp table low high version ≡ Copy copied.pair.source_slot serving c.to at copied.pair.table copied.pair.low copied.pair.high 1 = copied.body_is in
    let slot_is : copied.pair.source_slot ≡ source = cc in
    let snapshot_is : serving ≡ snapshot = cc in
    let to_is : c.to ≡ to = cc in
    let reaches = set_reaches ps activity changes copied.pair.source_slot serving c.source c.to from.interval inv facts good.serves from.kept from.slot_is from.owned from.active in
    subst (λ x. ReachesBack (option_map from_set (set_of (ps.tablet source).frozen snapshot)) x) to_is
    (subst (λ id. ReachesBack (option_map from_set (set_of (ps.tablet source).frozen id)) c.to) snapshot_is
    (subst (λ s. ReachesBack (option_map from_set (set_of (ps.tablet s).frozen serving)) c.to) slot_is reaches))

body_finds : (b : Body) (ps : Parts) (activity : List Interval) (changes : List Change) (slot : ℕ) (operation tablet : Id) → Inv ps activity changes → Facts ps
    → IsPending ps.master operation slot (record { tablet = tablet; slot = slot; body = b; acked = false }) → FindsRows b (ps.tablet (source_slot slot b)).frozen
body_finds (RestoreFrom snapshot to point version) ps activity changes slot operation tablet inv facts pends =
    restore_reaches ps activity changes slot operation tablet snapshot to point version inv facts pends
body_finds (Copy source snapshot to stamp table low high version) ps activity changes slot operation tablet inv facts pends =
    copy_reaches ps activity changes slot operation tablet source snapshot to stamp table low high version inv facts pends
body_finds _ ps activity changes slot operation tablet inv facts pends = tt

-- a command that lies in an inbox finds its rows
pub rows_found : (ps : Parts) (activity : List Interval) (changes : List Change) → Inv ps activity changes → Facts ps → RowsFound ps
rows_found ps activity changes inv facts slot c lies =
    let order = (inv.works slot).orders.orders c lies in
    body_finds c.body ps activity changes slot c.operation c.tablet inv facts (pending_is ps.master c.operation slot _ order.is_pending)
