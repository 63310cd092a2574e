-- A tablet that is released keeps what holds: it takes writes from now on, and has an open interval that began by its clock.
use Rattle.std.proofs.Common.{ℕ, ◌≡◌, ◌≤◌, ◌<◌, max, List, [], ◌∷◌, ◌++◌, Some, None, true, false, inr, refl, sym, ap, subst, ◌∙◌, arith, leb, le-leb, le_trans, le_of_lt}
use Rattle.std.specs.Option.{is_some}
use Rattle.std.proofs.lemmas.Bool.{true≢false}
use Rattle.model.specs.Cluster.{KeyedRow, Id, In, before_end, owner_of, Interval, active_at, Listed, RestorationRecord, Restoring, Releasing, CloneRecord, CloneReleasing, is_restored, point_of, Master}
use Rattle.model.specs.Journal.{Change, table_at}
use Rattle.model.specs.Right.{is_fixed}
use Rattle.model.specs.Tablets.{Tablet, Command, Freeze, Release, FenceKind, FreezeKind, RestoreFromKind, ReleaseKind, processed}
use Rattle.model.specs.Stands.{awaited_in}
use Rattle.law_invariants.specs.Invariant.{MasterGood, SlotGood}
use Rattle.law_invariants.specs.Operations.{ReleasingGood, RestorationStateGood, VisibleGood, CloneStateGood}
use Rattle.law_invariants.specs.Orders.{ReleasingSlot, RestorationSlot, CloneSlot}
use Rattle.law_invariants.proofs.Finding.{passes_both, none_or_some}
use Rattle.law_invariants.proofs.DoneMarks.{done_still, done_beside, done_now}
use Rattle.law_invariants.proofs.Commanded.{OfRestoration, OfClone, IsPending, BySnapshot, ByRestoration as RestorationPends, ByClone as ClonePends}
use Rattle.law_invariants.proofs.Awaiting.{awaits_is}
use Rattle.law_commands.proofs.Doing.{mark_of, mark_pending, orders_done, IsHere, table_here, owner_here, same_restores, awaited_kept, set_good, slot_changed}
use Rattle.law_commands.proofs.Held.{Does, HoldsOf, each_restoration, clones_beside, restorations_beside, each_clone, obeyed_done, marked_after}
use Rattle.law_invariants.proofs.Bodies.{releasing_is, visible_is}

-- where the namespace of a slot is of no restoration that has switched, its tablet awaits no rows
pub none_awaited : (m : Master) (changes : List Change) (slot : ℕ) (t : Tablet) (ns : Id) → MasterGood m changes → SlotGood m changes slot t → IsHere m slot ns
    → ((r : RestorationRecord) (point : ℕ) (serving : Id) → In r m.restorations → r.state ≡ Restoring point serving → r.namespace ≡ ns → ⊥) → awaited_in m.restorations t.tablet t.done ≡ None
none_awaited m changes slot t ns master good here apart = none_or_some (awaited_in m.restorations t.tablet t.done)
    (λ none. none)
    (λ point some.
    let w = awaits_is m.restorations t.tablet t.done point some in
    let tablet_is : here.interval.tablet ≡ w.line.tablet = sym (good.each here.interval here.kept here.slot_is).tablet_is ∙ sym w.tablet_is in
    absurd (apart w.restoration point w.serving w.known w.state_is
    (owner_here m changes slot t ns w.restoration.namespace here.interval good here here.kept here.slot_is (master.listed_of w.restoration w.line w.known w.listed here.interval here.kept tablet_is))))

releasing_done : (operation : Id) (j : Listed) (t : Tablet) (n cutoff : ℕ) (tablet : Id) (cs : List Command) (rows : List KeyedRow) → ReleasingSlot operation j t
    → ReleasingSlot operation j (processed (record { operation = operation; tablet = tablet; body = Release cutoff } ∷ cs) rows n t)
releasing_done operation j t n cutoff tablet cs rows old = record {
  acked = λ a. done_still t.done (record { operation = operation; kind = ReleaseKind }) operation ReleaseKind (old.acked a);
  serves = old.serves;
  released = λ did. refl;
  fenced = λ undone. absurd (true≢false (sym (done_now t.done operation ReleaseKind) ∙ undone));
}

-- what a release leaves, where the slot's tablet has an open interval that begins at the cutoff
released : (m : Master) (changes : List Change) (slot n : ℕ) (t : Tablet) (operation tablet ns : Id) (cutoff : ℕ) (cs : List Command) (rows : List KeyedRow) (w : Interval) → Does m changes slot n t operation tablet (Release cutoff) cs
    → In w m.activity → w.slot ≡ slot → w.to ≡ None → w.from ≡ cutoff → owner_of m.catalog.owners w.table ≡ Some ns → cutoff < t.clock → ((to : ℕ) → is_fixed changes ns to ≡ true → to ≤ n)
    → ((r : RestorationRecord) (point : ℕ) (serving : Id) → In r m.restorations → r.state ≡ Restoring point serving → r.namespace ≡ ns → ⊥)
    → ((r : RestorationRecord) → In r m.restorations → RestorationSlot r.state m changes r slot (processed (record { operation = operation; tablet = tablet; body = Release cutoff } ∷ cs) rows n t))
    → ((c : CloneRecord) → In c m.clones → CloneSlot c.state m changes c slot (processed (record { operation = operation; tablet = tablet; body = Release cutoff } ∷ cs) rows n t))
    → HoldsOf m changes slot (processed (record { operation = operation; tablet = tablet; body = Release cutoff } ∷ cs) rows n t)
released m changes slot n t operation tablet ns cutoff cs rows w d isin at opened from owned less fixed apart restorations clones =
    let c : Command = record { operation = operation; tablet = tablet; body = Release cutoff } in
    let l : Listed = record { tablet = tablet; slot = slot; body = Release cutoff; acked = false } in
    let u = processed (c ∷ cs) rows n t in
    let le : t.clock ≤ n = le_of_lt d.before in
    let o = d.works.orders in
    let g = d.good.each w isin at in
    let done = t.done ++ mark_of c ∷ [] in
    let here : IsHere m slot ns = record { interval = w; kept = isin; slot_is = at; owned = owned } in
    let restores = same_restores m.restorations t.done (mark_of c) (λ e. let q : ReleaseKind ≡ RestoreFromKind = e in grind arith) in
    let settled : awaited_in m.restorations t.tablet done ≡ None = awaited_kept m.restorations t.tablet t.done done restores ∙ none_awaited m changes slot t ns d.master d.good here apart in
    let low : t.cutoff ≤ n = le_trans d.good.good.cutoff le in
    let active : (x : ℕ) → max t.cutoff cutoff ≤ x → active_at x w ≡ true =
    λ x cut. (let f : w.from ≤ x = omega (arith, from, cut) in passes_both (leb w.from x) (before_end x w.to) (le-leb w.from x f) (ap (before_end x) opened)) in
    record {
      good = slot_changed m changes slot t n (max t.cutoff cutoff) t.frozen None cs done le restores (omega arith) (omega (arith, low, less, le)) (λ f held. set_good m changes slot n t f le d.good held)
          (λ serving free. record { interval = w; listed = isin; slot_is = at; opened = opened; begun = omega (arith, from, less, le); settled = settled })
          (λ serving free x cut. ap (λ id. is_some (table_at changes x id)) g.table_is ∙ g.viewed x (active x cut))
          (λ other to is serving free of. let q : Some other ≡ Some ns = sym of ∙ table_here m changes slot t ns d.good here in let e : other ≡ ns = cc in fixed to (ap (λ z. is_fixed changes z to) (sym e) ∙ is))
          d.good;
      works = record {
        orders = orders_done m slot t (record t { cutoff = max t.cutoff cutoff; fence = None }) n c cs le d.inbox (mark_pending m changes operation slot n l d.operations d.pends (marked_after m changes slot n t operation tablet (Release cutoff) cs d))
            (λ by e. absurd (let q : None ≡ Some by = e in grind arith))
            (λ s known did. let f = o.holds s known (sym (done_beside t.done (mark_of c) s.id FreezeKind (λ e kind. let q : ReleaseKind ≡ FreezeKind = kind in grind arith)) ∙ did) in
            record { set = f.set; held = f.held; time = f.time; inside = f.inside })
            (λ f held. done_still t.done (mark_of c) f.snapshot FreezeKind (o.frozen f held))
            o.sets g.present o;
        obeyed = obeyed_done m changes slot t u (mark_of c) g.present g.present refl refl refl restorations clones d.works.obeyed;
      };
    }

-- By a restoration

by_restoration : (m : Master) (changes : List Change) (slot n : ℕ) (t : Tablet) (operation tablet : Id) (cutoff : ℕ) (cs : List Command) (rows : List KeyedRow) → Does m changes slot n t operation tablet (Release cutoff) cs
    → OfRestoration m operation slot (record { tablet = tablet; slot = slot; body = Release cutoff; acked = false })
    → HoldsOf m changes slot (processed (record { operation = operation; tablet = tablet; body = Release cutoff } ∷ cs) rows n t)
by_restoration m changes slot n t operation tablet cutoff cs rows d k =
    let r = k.restoration in
    let c : Command = record { operation = operation; tablet = tablet; body = Release cutoff } in
    let l : Listed = record { tablet = tablet; slot = slot; body = Release cutoff; acked = false } in
    let u = processed (c ∷ cs) rows n t in
    let g = d.operations.restorations r k.kept in
    let found = releasing_is r.state m changes r l cutoff g.in_state k.line.listed refl in
    let is : r.state ≡ Releasing cutoff found.0 = found.1 in
    let good : ReleasingGood m changes r cutoff found.0 = subst (λ s. RestorationStateGood s m changes r) is g.in_state in
    let w = good.active l k.line.listed in
    let owned : owner_of m.catalog.owners w.interval.table ≡ Some r.namespace = d.master.listed_of r l k.kept k.line.listed w.interval w.kept w.tablet_is in
    let here : IsHere m slot r.namespace = record { interval = w.interval; kept = w.kept; slot_is = w.slot_is; owned = owned } in
    let less : cutoff < t.clock = d.after.point r cutoff k.kept k.id_is (ap point_of is) refl in
    let old : (j : Listed) → In j r.listed → j.slot ≡ slot → ReleasingSlot r.id j t = subst (λ s. RestorationSlot s m changes r slot t) is (d.works.obeyed.restorations r k.kept) in
    released m changes slot n t operation tablet r.namespace cutoff cs rows w.interval d w.kept w.slot_is w.opened w.from_is owned less
    (λ to fixed. let b = d.before in let f : to < cutoff = good.is_point.fixed to fixed in omega (arith, f, less, b))
    (λ q point serving known state_is ns.
    let one : q ≡ r = d.operations.apart.one_restoration q r known k.kept (ap is_restored state_is) k.unfinished ns in
    let z : Restoring point serving ≡ Releasing cutoff found.0 = sym state_is ∙ ap (λ z. z.state) one ∙ is in grind arith)
    (each_restoration m changes slot t u r d.master d.operations d.good d.works here k.kept k.unfinished
    (λ q apart. done_beside t.done (mark_of c) q.id FenceKind (λ e kind. let z : ReleaseKind ≡ FenceKind = kind in grind arith))
    (subst (λ s. RestorationSlot s m changes r slot u) (sym is)
    (λ j lists at. subst (λ id. ReleasingSlot id j u) (sym k.id_is) (releasing_done operation j t n cutoff tablet cs rows (subst (λ id. ReleasingSlot id j t) k.id_is (old j lists at))))))
    (clones_beside m changes slot t u r d.operations d.good here k.kept k.unfinished refl)

-- By a clone

by_clone : (m : Master) (changes : List Change) (slot n : ℕ) (t : Tablet) (operation tablet : Id) (cutoff : ℕ) (cs : List Command) (rows : List KeyedRow) → Does m changes slot n t operation tablet (Release cutoff) cs
    → OfClone m operation slot (record { tablet = tablet; slot = slot; body = Release cutoff; acked = false })
    → HoldsOf m changes slot (processed (record { operation = operation; tablet = tablet; body = Release cutoff } ∷ cs) rows n t)
by_clone m changes slot n t operation tablet cutoff cs rows d k =
    let b = k.clone in
    let c : Command = record { operation = operation; tablet = tablet; body = Release cutoff } in
    let l : Listed = record { tablet = tablet; slot = slot; body = Release cutoff; acked = false } in
    let u = processed (c ∷ cs) rows n t in
    let g = d.operations.clones b k.kept in
    let found = visible_is b.state m b l cutoff g.in_state k.line.listed refl in
    let is : b.state ≡ CloneReleasing found.0 found.1.0 = found.1.1 in
    let good : VisibleGood m b found.1.0 = subst (λ s. CloneStateGood s m b) is g.in_state in
    let body : Release cutoff ≡ Release good.since = good.bodies l k.line.listed in
    let since : cutoff ≡ good.since = cc in
    let w = good.active l k.line.listed in
    let owned : owner_of m.catalog.owners w.interval.table ≡ Some b.target_id = good.listed_of l w.interval k.line.listed w.kept w.tablet_is in
    let here : IsHere m slot b.target_id = record { interval = w.interval; kept = w.kept; slot_is = w.slot_is; owned = owned } in
    let less : cutoff < t.clock = d.after.released b l cutoff k.kept k.id_is k.line.listed refl refl in
    let old : (j : Listed) → In j b.listed → j.slot ≡ slot → ReleasingSlot b.id j t = subst (λ s. CloneSlot s m changes b slot t) is (d.works.obeyed.clones b k.kept) in
    released m changes slot n t operation tablet b.target_id cutoff cs rows w.interval d w.kept w.slot_is w.opened (w.from_is ∙ sym since) owned less
    (λ to fixed. absurd (g.unfixed k.unfinished to fixed))
    (λ q point serving known state_is ns. d.operations.apart.one_operation q b known k.kept (ap is_restored state_is) k.unfinished (inr (sym ns)))
    (restorations_beside m changes slot t u b d.master d.operations d.good d.works here k.kept k.unfinished
    (λ q known. done_beside t.done (mark_of c) q.id FenceKind (λ e kind. let z : ReleaseKind ≡ FenceKind = kind in grind arith)))
    (each_clone m changes slot t u b d.operations d.good here k.kept k.unfinished refl
    (subst (λ s. CloneSlot s m changes b slot u) (sym is)
    (λ j lists at. subst (λ id. ReleasingSlot id j u) (sym k.id_is) (releasing_done operation j t n cutoff tablet cs rows (subst (λ id. ReleasingSlot id j t) k.id_is (old j lists at))))))

pub release_done : (m : Master) (changes : List Change) (slot n : ℕ) (t : Tablet) (operation tablet : Id) (cutoff : ℕ) (cs : List Command) (rows : List KeyedRow) → Does m changes slot n t operation tablet (Release cutoff) cs
    → IsPending m operation slot (record { tablet = tablet; slot = slot; body = Release cutoff; acked = false }) → HoldsOf m changes slot (processed (record { operation = operation; tablet = tablet; body = Release cutoff } ∷ cs) rows n t)
release_done m changes slot n t operation tablet cutoff cs rows d (RestorationPends k) = by_restoration m changes slot n t operation tablet cutoff cs rows d k
release_done m changes slot n t operation tablet cutoff cs rows d (ClonePends k) = by_clone m changes slot n t operation tablet cutoff cs rows d k
release_done m changes slot n t operation tablet cutoff cs rows d (BySnapshot k) =
    absurd (let q : Release cutoff ≡ Freeze k.snapshot.id k.snapshot.at = (d.operations.snapshots k.snapshot k.kept).bodies _ k.line.listed in grind arith)
