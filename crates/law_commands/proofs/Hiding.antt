-- A tablet that a restoration hides keeps what holds: it has had its time.
use Rattle.row_values.specs.Store.{Below}
use Rattle.std.proofs.Common.{ℕ, ◌≡◌, ◌≤◌, ◌+◌, List, [], ◌∷◌, ◌++◌, Option, Some, None, true, false, refl, sym, ap, subst, ◌∙◌, arith, le_trans, le_of_lt, lt_of_lt_of_le, ◌<◌}
use Rattle.std.proofs.lemmas.Bool.{true≢false}
use Rattle.model.specs.Cluster.{KeyedRow, Id, In, ended_by, owner_of, Interval, Listed, RestorationRecord, Restoring, Master}
use Rattle.model.specs.Journal.{Change}
use Rattle.model.specs.Tablets.{Tablet, HiddenPart, Command, Mark, Freeze, Hide, FenceKind, FreezeKind, RestoreFromKind, HideKind, processed, kind_of, is_empty, FrozenSet, is_serving}
use Rattle.model.specs.Stands.{awaited_in, awaited_of}
use Rattle.law_invariants.specs.Invariant.{is_awaited, SlotGood, OverBy, TurnsAt, ComesFrom, StandsIn}
use Rattle.law_invariants.specs.Operations.{RestoringGood, RestorationStateGood}
use Rattle.law_invariants.specs.Orders.{RestoringSlot, RestorationSlot}
use Rattle.law_invariants.proofs.Ticking.{below_later, over_later}
use Rattle.law_invariants.proofs.DoneMarks.{done_still, done_beside}
use Rattle.law_invariants.proofs.Commanded.{OfRestoration, IsPending, BySnapshot, ByRestoration as RestorationPends, ByClone as ClonePends}
use Rattle.law_commands.proofs.Doing.{mark_of, mark_pending, orders_done, IsHere, SameRestores, same_restores, awaited_kept, awaited_of_kept}
use Rattle.law_commands.proofs.Held.{Does, HoldsOf, each_restoration, clones_beside, obeyed_done, marked_after}
use Rattle.law_invariants.proofs.Bodies.{hiding_is, no_clone_hide}

pub no_end : (to : Option ℕ) (x : ℕ) → to ≡ None → ended_by x to ≡ true → ⊥
no_end None x e h = true≢false (sym h)
no_end (Some y) x e h = let q = e in grind arith

-- the tablet out of service, without a fence
abbrev pub hid : Tablet → ℕ → ℕ → List Command → List Mark → Tablet
hid t n ended inbox done = record t { clock = n; presence = HiddenPart ended; fence = None; inbox = inbox; done = done }

-- a tablet whose intervals have ended by a time may be hidden from it on
slot_hidden : (m : Master) (changes : List Change) (slot : ℕ) (t : Tablet) (n at : ℕ) (inbox : List Command) (done : List Mark) → t.clock ≤ n → is_empty t.presence ≡ false → SameRestores m.restorations t.done done
    → ((i : Interval) → In i m.activity → i.slot ≡ slot → ended_by at i.to ≡ true) → SlotGood m changes slot t → SlotGood m changes slot (hid t n at inbox done)
slot_hidden m changes slot t n at inbox done le present marks over h =
    let awaits : awaited_in m.restorations t.tablet done ≡ awaited_in m.restorations t.tablet t.done = awaited_kept m.restorations t.tablet t.done done marks in
    record {
      good = let below : Below (n + 1) t.versions = below_later t.versions (t.clock + 1) (n + 1) (omega arith) h.good.below in
          let cutoff : t.cutoff ≤ n = le_trans h.good.cutoff le in
          let set_past : (f : FrozenSet) → In f t.frozen → f.at < n = λ f held. lt_of_lt_of_le (h.good.set_past f held) le in
          assumption (below, cutoff, set_past);
      home = λ still. h.home present;
      numbered = h.numbered;
      each = λ i isin is. let g = h.each i isin is in
          let over_now : OverBy n i.from i.to = over_later i.to i.from t.clock n le g.over in
          let waits : (point : ℕ) → awaited_in m.restorations t.tablet done ≡ Some point → TurnsAt point i.from i.to = λ point e. g.waits point (sym awaits ∙ e) in
          let comes : (r : RestorationRecord) (point : ℕ) → In r m.restorations → awaited_of r.state r t.tablet done ≡ Some point → i.to ≡ None → ComesFrom changes r.namespace i point r.to = λ r point known e opened. g.comes r point known (sym (awaited_of_kept r.state r t.tablet t.done done (marks r known)) ∙ e) opened in
          let serves : i.to ≡ None → awaited_in m.restorations t.tablet done ≡ None → is_serving (HiddenPart at) ≡ true = λ opened none. absurd (no_end i.to at opened (over i isin is)) in
          let hidden : (at' : ℕ) → (HiddenPart at) ≡ HiddenPart at' → is_awaited (awaited_in m.restorations t.tablet done) i.to ≡ false → ended_by at' i.to ≡ true = λ x out counted. (let q : HiddenPart at ≡ HiddenPart x = out in let e : at ≡ x = cc in ap (λ y. ended_by y i.to) (sym e) ∙ over i isin is) in
          let stands : is_awaited (awaited_in m.restorations t.tablet done) i.to ≡ false → StandsIn (hid t n at inbox done) changes i = λ counted key x ranged cut before there. g.stands (ap (λ p. is_awaited p i.to) (sym awaits) ∙ counted) key x ranged cut before there in
          assumption (over_now, waits, comes, serves, hidden, stands);
      opens = λ serving. absurd (true≢false (sym serving));
      shown = λ serving. absurd (true≢false (sym serving));
      later = λ ns to is serving. absurd (true≢false (sym serving));
    }

hidden_by : (m : Master) (changes : List Change) (slot n : ℕ) (t : Tablet) (operation tablet : Id) (at : ℕ) (cs : List Command) (rows : List KeyedRow) → Does m changes slot n t operation tablet (Hide at) cs
    → OfRestoration m operation slot (record { tablet = tablet; slot = slot; body = Hide at; acked = false }) → HoldsOf m changes slot (processed (record { operation = operation; tablet = tablet; body = Hide at } ∷ cs) rows n t)
hidden_by m changes slot n t operation tablet at cs rows d k =
    let r = k.restoration in
    let c : Command = record { operation = operation; tablet = tablet; body = Hide at } in
    let l : Listed = record { tablet = tablet; slot = slot; body = Hide at; acked = false } in
    let u = processed (c ∷ cs) rows n t in
    let le : t.clock ≤ n = le_of_lt d.before in
    let o = d.works.orders in
    let g = d.operations.restorations r k.kept in
    let found = hiding_is r.state m changes r l at g.in_state k.line.listed refl in
    let is : r.state ≡ Restoring at found.0 = found.1 in
    let good : RestoringGood m changes r at found.0 = subst (λ s. RestorationStateGood s m changes r) is g.in_state in
    let w = g.known k.unfinished l k.line.listed in
    let first = d.good.each w.interval w.kept w.slot_is in
    let owned : owner_of m.catalog.owners w.interval.table ≡ Some r.namespace = d.master.listed_of r l k.kept k.line.listed w.interval w.kept w.tablet_is in
    let here : IsHere m slot r.namespace = record { interval = w.interval; kept = w.kept; slot_is = w.slot_is; owned = owned } in
    let over : (i : Interval) → In i m.activity → i.slot ≡ slot → ended_by at i.to ≡ true =
    λ i isin there. good.gone l i k.line.listed refl isin (sym (d.good.each i isin there).tablet_is ∙ first.tablet_is ∙ w.tablet_is) in
    let old : (j : Listed) → In j r.listed → j.slot ≡ slot → RestoringSlot changes r at j t = subst (λ s. RestorationSlot s m changes r slot t) is (d.works.obeyed.restorations r k.kept) in
    let mine : (j : Listed) → In j r.listed → j.slot ≡ slot → RestoringSlot changes r at j u = λ j lists there. record {
      acked = λ a. done_still t.done (mark_of c) r.id (kind_of j.body) ((old j lists there).acked a);
      fenced = λ serving. absurd (true≢false (sym serving));
      restored = λ restores did. absurd (let b = good.back j lists restores in no_end b.now.to at b.opened (over b.now b.kept_now (b.slot_now ∙ there)));
      hidden = λ hides did. (refl, refl);
    } in
    record {
      good = slot_hidden m changes slot t n at cs (t.done ++ mark_of c ∷ []) le first.present (same_restores m.restorations t.done (mark_of c) (λ e. let q : HideKind ≡ RestoreFromKind = e in grind arith)) over d.good;
      works = record {
        orders = orders_done m slot t (record t { presence = HiddenPart at; fence = None }) n c cs le d.inbox (mark_pending m changes operation slot n l d.operations d.pends (marked_after m changes slot n t operation tablet (Hide at) cs d))
            (λ by e. absurd (let q : None ≡ Some by = e in grind arith))
            (λ s known did. let f = o.holds s known (sym (done_beside t.done (mark_of c) s.id FreezeKind (λ e kind. let q : HideKind ≡ FreezeKind = kind in grind arith)) ∙ did) in
            record { set = f.set; held = f.held; time = f.time; inside = f.inside })
            (λ f held. done_still t.done (mark_of c) f.snapshot FreezeKind (o.frozen f held))
            o.sets refl o;
        obeyed = obeyed_done m changes slot t u (mark_of c) first.present refl refl refl refl
            (each_restoration m changes slot t u r d.master d.operations d.good d.works here k.kept k.unfinished
            (λ q apart. done_beside t.done (mark_of c) q.id FenceKind (λ e kind. let z : HideKind ≡ FenceKind = kind in grind arith))
            (subst (λ s. RestorationSlot s m changes r slot u) (sym is) mine))
            (clones_beside m changes slot t u r d.operations d.good here k.kept k.unfinished refl)
            d.works.obeyed;
      };
    }

pub hide_done : (m : Master) (changes : List Change) (slot n : ℕ) (t : Tablet) (operation tablet : Id) (at : ℕ) (cs : List Command) (rows : List KeyedRow) → Does m changes slot n t operation tablet (Hide at) cs
    → IsPending m operation slot (record { tablet = tablet; slot = slot; body = Hide at; acked = false }) → HoldsOf m changes slot (processed (record { operation = operation; tablet = tablet; body = Hide at } ∷ cs) rows n t)
hide_done m changes slot n t operation tablet at cs rows d (RestorationPends k) = hidden_by m changes slot n t operation tablet at cs rows d k
hide_done m changes slot n t operation tablet at cs rows d (BySnapshot k) =
    absurd (let q : Hide at ≡ Freeze k.snapshot.id k.snapshot.at = (d.operations.snapshots k.snapshot k.kept).bodies _ k.line.listed in grind arith)
hide_done m changes slot n t operation tablet at cs rows d (ClonePends k) = absurd (no_clone_hide k.clone.state m k.clone _ at (d.operations.clones k.clone k.kept).in_state k.line.listed refl)
