-- A tablet that a restoration fences keeps what holds.
use Rattle.std.proofs.Common.{ℕ, ◌≡◌, ◌≤◌, List, [], ◌∷◌, ◌++◌, Some, None, false, inl, refl, sym, ap, subst, ◌∙◌, arith, le_refl, le_trans, le_of_lt}
use Rattle.model.specs.Cluster.{KeyedRow, Id, In, Listed, RestorationRecord, RestorationState, Fencing, Restoring, Releasing, CloneRecord, CloneState, CloneSnapshot, Copying, CloneReleasing, Master}
use Rattle.model.specs.Journal.{Change}
use Rattle.model.specs.Tablets.{Tablet, Command, Fence, Freeze, Release, Copy, FenceKind, FreezeKind, RestoreFromKind, processed, is_empty}
use Rattle.law_invariants.specs.Operations.{IsAfterSwitch, FencingGood, RestorationStateGood, CloneStateGood}
use Rattle.law_invariants.specs.Orders.{FencingSlot, FencePlace, RestorationSlot}
use Rattle.law_invariants.proofs.DoneMarks.{done_still, done_beside}
use Rattle.law_invariants.proofs.Commanded.{OfRestoration, IsPending, BySnapshot, ByRestoration as RestorationPends, ByClone as ClonePends, none_in}
use Rattle.law_commands.proofs.Doing.{mark_of, mark_pending, orders_done, IsHere, table_here, same_restores, set_good, slot_changed}
use Rattle.law_commands.proofs.Held.{Does, HoldsOf, each_restoration, clones_beside, obeyed_done, marked_after}

fencing_is : (state : RestorationState) (m : Master) (changes : List Change) (r : RestorationRecord) (l : Listed) → RestorationStateGood state m changes r → In l r.listed → l.body ≡ Fence → state ≡ Fencing
fencing_is Fencing m changes r l h isin e = refl
fencing_is (Restoring point serving) m changes r l h isin e = absurd (subst (IsAfterSwitch r.to point serving) e (h.bodies l isin))
fencing_is (Releasing point serving) m changes r l h isin e = absurd (let q : Release point ≡ Fence = sym (h.bodies l isin) ∙ e in grind arith)
fencing_is _ m changes r l h isin e = absurd (none_in r.listed l h.empty isin)

no_clone_fence : (state : CloneState) (m : Master) (c : CloneRecord) (l : Listed) → CloneStateGood state m c → In l c.listed → l.body ≡ Fence → ⊥
no_clone_fence (CloneSnapshot own) m c l h isin e = none_in c.listed l h.empty isin
no_clone_fence (Copying serving at) m c l h isin e =
    let b = h.bodies l isin in let q : Fence ≡ Copy b.pair.source_slot serving c.to at b.pair.table b.pair.low b.pair.high 1 = sym e ∙ b.body_is in grind arith
no_clone_fence (CloneReleasing serving at) m c l h isin e = let q : Fence ≡ Release h.since = sym e ∙ h.bodies l isin in grind arith
no_clone_fence _ m c l h isin e = none_in c.listed l h isin

fenced_by : (m : Master) (changes : List Change) (slot n : ℕ) (t : Tablet) (operation tablet : Id) (cs : List Command) (rows : List KeyedRow) → Does m changes slot n t operation tablet Fence cs
    → OfRestoration m operation slot (record { tablet = tablet; slot = slot; body = Fence; acked = false }) → HoldsOf m changes slot (processed (record { operation = operation; tablet = tablet; body = Fence } ∷ cs) rows n t)
fenced_by m changes slot n t operation tablet cs rows d k =
    let r = k.restoration in
    let c : Command = record { operation = operation; tablet = tablet; body = Fence } in
    let u = processed (c ∷ cs) rows n t in
    let l : Listed = record { tablet = tablet; slot = slot; body = Fence; acked = false } in
    let le : t.clock ≤ n = le_of_lt d.before in
    let g = d.operations.restorations r k.kept in
    let is : r.state ≡ Fencing = fencing_is r.state m changes r l g.in_state k.line.listed refl in
    let good : FencingGood m r = subst (λ s. RestorationStateGood s m changes r) is g.in_state in
    let open_ = good.opens l k.line.listed in
    let here : IsHere m slot r.namespace = record { interval = open_.0; kept = open_.1.0.kept; slot_is = open_.1.1.1; owned = open_.1.0.owned } in
    let of_table = table_here m changes slot t r.namespace d.good here in
    let old : FencingSlot r slot t = subst (λ s. RestorationSlot s m changes r slot t) is (d.works.obeyed.restorations r k.kept) in
    let present : is_empty t.presence ≡ false = (d.good.each here.interval here.kept here.slot_is).present in
    let o = d.works.orders in
    let mine : FencingSlot r slot u = record {
      acked = λ j lists at a. done_still t.done (mark_of c) r.id FenceKind (old.acked j lists at a);
      fenced = λ did. ap Some (sym k.id_is);
    } in
    record {
      good = slot_changed m changes slot t n t.cutoff t.frozen (Some operation) cs (t.done ++ mark_of c ∷ []) le (same_restores m.restorations t.done (mark_of c) (λ e. let q : FenceKind ≡ RestoreFromKind = e in grind arith))
          (le_refl _) (le_trans d.good.good.cutoff le) (λ f held. set_good m changes slot n t f le d.good held)
          (λ serving free. absurd (let q : Some operation ≡ None = free in grind arith))
          (λ serving free. absurd (let q : Some operation ≡ None = free in grind arith))
          (λ ns to fixed serving free. absurd (let q : Some operation ≡ None = free in grind arith))
          d.good;
      works = record {
        orders = orders_done m slot t (record t { fence = Some operation }) n c cs le d.inbox (mark_pending m changes operation slot n l d.operations d.pends (marked_after m changes slot n t operation tablet Fence cs d))
            (λ by e. let q : operation ≡ by = cc in inl (record {
              restoration = r;
              kept = k.kept;
              id_is = k.id_is ∙ q;
              owned = of_table;
              place = subst (λ s. FencePlace s r m slot (t.done ++ mark_of c ∷ [])) (sym is) (open_.0, (open_.1.0, open_.1.1.1));
            }))
            (λ s known did. let f = o.holds s known (sym (done_beside t.done (mark_of c) s.id FreezeKind (λ e kind. let q : FenceKind ≡ FreezeKind = kind in grind arith)) ∙ did) in
            record { set = f.set; held = f.held; time = f.time; inside = f.inside })
            (λ f held. done_still t.done (mark_of c) f.snapshot FreezeKind (o.frozen f held))
            o.sets present o;
        obeyed = obeyed_done m changes slot t u (mark_of c) present present refl refl refl
            (each_restoration m changes slot t u r d.master d.operations d.good d.works here k.kept k.unfinished
            (λ q apart. done_beside t.done (mark_of c) q.id FenceKind (λ e kind. apart (sym e ∙ sym k.id_is)))
            (subst (λ s. RestorationSlot s m changes r slot u) (sym is) mine))
            (clones_beside m changes slot t u r d.operations d.good here k.kept k.unfinished refl)
            d.works.obeyed;
      };
    }

pub fence_done : (m : Master) (changes : List Change) (slot n : ℕ) (t : Tablet) (operation tablet : Id) (cs : List Command) (rows : List KeyedRow) → Does m changes slot n t operation tablet Fence cs
    → IsPending m operation slot (record { tablet = tablet; slot = slot; body = Fence; acked = false }) → HoldsOf m changes slot (processed (record { operation = operation; tablet = tablet; body = Fence } ∷ cs) rows n t)
fence_done m changes slot n t operation tablet cs rows d (RestorationPends k) = fenced_by m changes slot n t operation tablet cs rows d k
fence_done m changes slot n t operation tablet cs rows d (BySnapshot k) =
    absurd (let q : Fence ≡ Freeze k.snapshot.id k.snapshot.at = (d.operations.snapshots k.snapshot k.kept).bodies _ k.line.listed in grind arith)
fence_done m changes slot n t operation tablet cs rows d (ClonePends k) = absurd (no_clone_fence k.clone.state m k.clone _ (d.operations.clones k.clone k.kept).in_state k.line.listed refl)
