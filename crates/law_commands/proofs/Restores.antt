-- A tablet that takes back its rows keeps what holds: they are those of the view at the time to which its namespace is taken back.
use Rattle.std.proofs.Common.{ℕ, ◌≡◌, ◌≤◌, ◌<◌, ◌+◌, List, [], ◌∷◌, ◌++◌, Some, None, true, false, cond, ◌&&◌, inl, refl, sym, ap, subst, ◌∙◌, arith, not, ltb-true, le_of_lt, lt_of_lt_of_le}
use Rattle.std.proofs.lemmas.Bool.{true≢false}
use Rattle.std.specs.Option.{option_map}
use Rattle.model.specs.Cluster.{code_of, KeyedRow, Id, In, before_end, ended_by, in_range, owner_of, Interval, Listed, RestorationRecord, Restoring, is_restored, point_of, Master}
use Rattle.row_values.specs.Store.{Version, Below, read_of, rows_at, of_rows}
use Rattle.model.specs.Journal.{Change, row_at}
use Rattle.model.specs.Tablets.{Tablet, ServingPart, HiddenPart, Command, Mark, Freeze, RestoreFrom, FenceKind, FreezeKind, RestoreFromKind, set_of, rows_of_set, processed, kind_of, is_done, is_empty, is_serving}
use Rattle.model.specs.Stands.{awaited_in, awaited_of, before_restore, AreRowsAt}
use Rattle.model.specs.Retained.{ReachesBack, from_set}
use Rattle.law_store.proofs.Listing.{restored_reads, sorted_restored, below_of_rows}
use Rattle.law_store.proofs.Members.{keys_of_rows, keys_rows_at}
use Rattle.law_store.proofs.Restoring.{are_rows_restored}
use Rattle.law_store.specs.Sorted.{Sorted, EachKey}
use Rattle.law_invariants.specs.Invariant.{MasterGood, TurnsAt, ComesFrom, SlotGood, OverBy, is_awaited, StandsIn}
use Rattle.law_invariants.specs.Operations.{RestoringGood, RestorationStateGood}
use Rattle.law_invariants.specs.Orders.{FencePlace, RestoringSlot, RestorationSlot}
use Rattle.law_invariants.proofs.Finding.{none_or_some}
use Rattle.law_invariants.proofs.Ticking.{over_later}
use Rattle.law_invariants.proofs.Awaiting.{settled_none, Awaits, awaits_is, listed_any}
use Rattle.law_invariants.proofs.DoneMarks.{done_still, done_beside, done_now}
use Rattle.law_invariants.proofs.Commanded.{IsPending, BySnapshot, ByRestoration as RestorationPends, ByClone as ClonePends}
use Rattle.law_commands.proofs.Doing.{mark_of, mark_pending, orders_done, IsHere, table_here, owner_here}
use Rattle.law_commands.proofs.Hiding.{no_end}
use Rattle.law_commands.proofs.Held.{Does, HoldsOf, each_restoration, clones_beside, obeyed_done, marked_after}
use Rattle.law_invariants.proofs.Bodies.{serves_then, restoring_is, no_clone_restore}

-- Frozen sets that serve a time

-- What a tablet awaits

-- a restoration for which the slot's tablet waits is one of its namespace
awaits_of : (m : Master) (changes : List Change) (slot : ℕ) (t : Tablet) (ns : Id) (done : List Mark) (point : ℕ) → MasterGood m changes → SlotGood m changes slot t → IsHere m slot ns → (k : Awaits m.restorations t.tablet done point)
    → k.restoration.namespace ≡ ns
awaits_of m changes slot t ns done point master good here k =
    let tablet_is : here.interval.tablet ≡ k.line.tablet = sym (good.each here.interval here.kept here.slot_is).tablet_is ∙ sym k.tablet_is in
    owner_here m changes slot t ns k.restoration.namespace here.interval good here here.kept here.slot_is (master.listed_of k.restoration k.line k.known k.listed here.interval here.kept tablet_is)

-- the tablet with rows taken back
abbrev pub back_with : Tablet → ℕ → ℕ → List Version → ℕ → Id → List Command → List Mark → Tablet
back_with t n version vs point operation inbox done = record t { clock = n; presence = ServingPart; version = version; versions = vs; cutoff = point; fence = Some operation; inbox = inbox; done = done }

slot_restored : (m : Master) (changes : List Change) (slot : ℕ) (t : Tablet) (n version : ℕ) (vs : List Version) (point to : ℕ) (operation : Id) (inbox : List Command) (done : List Mark) → t.clock ≤ n → point ≤ n → is_empty t.presence ≡ false
    → Sorted vs → Below (n + 1) vs → EachKey (λ key. in_range t.low t.high (code_of key)) vs
    → ((key : List ℕ) (x : ℕ) → in_range t.low t.high (code_of key) ≡ true → point ≤ x → read_of vs key x ≡ row_at changes to t.table key)
    → awaited_in m.restorations t.tablet t.done ≡ Some point → ((i : Interval) → In i m.activity → i.slot ≡ slot → i.to ≡ None → (ns : Id) × ComesFrom changes ns i point to)
    → awaited_in m.restorations t.tablet done ≡ None → SlotGood m changes slot t → SlotGood m changes slot (back_with t n version vs point operation inbox done)
slot_restored m changes slot t n version vs point to operation inbox done le begun present sorted below keys reads awaited comes none h = record {
  good = record {
    sorted = sorted;
    below = below;
    cutoff = begun;
    keys = keys;
    set_past = λ f held. lt_of_lt_of_le (h.good.set_past f held) le;
    set_sorted = h.good.set_sorted;
    set_keys = h.good.set_keys;
  };
  home = λ still. h.home present;
  numbered = h.numbered;
  each = λ i isin is. let g = h.each i isin is in
      let over_now : OverBy n i.from i.to = over_later i.to i.from t.clock n le g.over in
      let waits : (point' : ℕ) → awaited_in m.restorations t.tablet done ≡ Some point' → TurnsAt point' i.from i.to = λ p e. absurd (let q : None ≡ Some p = sym none ∙ e in grind arith) in
      let comes_now : (r : RestorationRecord) (point' : ℕ) → In r m.restorations → awaited_of r.state r t.tablet done ≡ Some point' → i.to ≡ None → ComesFrom changes r.namespace i point' r.to = λ r p known e opened. absurd (let q : None ≡ Some p = sym (settled_none m.restorations t.tablet done none r known) ∙ e in grind arith) in
      let serves : i.to ≡ None → awaited_in m.restorations t.tablet done ≡ None → is_serving ServingPart ≡ true = λ opened settled. refl in
      let hidden : (at : ℕ) → ServingPart ≡ HiddenPart at → is_awaited (awaited_in m.restorations t.tablet done) i.to ≡ false → ended_by at i.to ≡ true = λ at out. absurd (let q : ServingPart ≡ HiddenPart at = out in grind arith) in
      let stands : is_awaited (awaited_in m.restorations t.tablet done) i.to ≡ false → StandsIn (back_with t n version vs point operation inbox done) changes i = λ counted key x ranged cut before there. (
      let within_ : in_range t.low t.high (code_of key) ≡ true = ap (λ a. in_range a t.high (code_of key)) g.low_is ∙ ap (λ b. in_range i.low b (code_of key)) g.high_is ∙ ranged in
      reads key x within_ cut ∙ ap (λ id. row_at changes to id key) g.table_is
      ∙ none_or_some i.to
      (λ opened. sym ((comes i isin is opened).1.rows key x ranged cut))
      (λ e ended_. absurd (
      let over : e ≤ point = subst (TurnsAt point i.from) ended_ (g.waits point awaited) in
      let soon : before_end x (Some e) ≡ true = ap (before_end x) (sym ended_) ∙ before in
      let less : x < e = ltb-true x e soon in
      omega (arith, over, less, cut)))) in
      assumption (over_now, waits, comes_now, serves, hidden, stands);
  opens = λ serving free. absurd (let q : Some operation ≡ None = free in grind arith);
  shown = λ serving free. absurd (let q : Some operation ≡ None = free in grind arith);
  later = λ ns past fixed serving free. absurd (let q : Some operation ≡ None = free in grind arith);
}

-- The body

point_same : (p q : ℕ) (a b : Id) → Restoring p a ≡ Restoring q b → p ≡ q
point_same p q a b e = cc

restored_by : (m : Master) (changes : List Change) (slot n : ℕ) (t : Tablet) (operation tablet snapshot : Id) (at version : ℕ) (cs : List Command) (rows : List KeyedRow) (r : RestorationRecord) → In r m.restorations → r.id ≡ operation
    → r.state ≡ Restoring at snapshot → In (record { tablet = tablet; slot = slot; body = RestoreFrom snapshot r.to at version; acked = false }) r.listed → ReachesBack (option_map from_set (set_of t.frozen snapshot)) r.to
    → Does m changes slot n t operation tablet (RestoreFrom snapshot r.to at version) cs
    → HoldsOf m changes slot (processed (record { operation = operation; tablet = tablet; body = RestoreFrom snapshot r.to at version } ∷ cs) rows n t)
restored_by m changes slot n t operation tablet snapshot at version cs rows r known id_is is lists cut d =
    let c : Command = record { operation = operation; tablet = tablet; body = RestoreFrom snapshot r.to at version } in
    let l : Listed = record { tablet = tablet; slot = slot; body = RestoreFrom snapshot r.to at version; acked = false } in
    let le : t.clock ≤ n = le_of_lt d.before in
    let o = d.works.orders in
    let done = t.done ++ mark_of c ∷ [] in
    let g = d.operations.restorations r known in
    let unfinished : is_restored r.state ≡ false = ap is_restored is in
    let good : RestoringGood m changes r at snapshot = subst (λ s. RestorationStateGood s m changes r) is g.in_state in
    let w = g.known unfinished l lists in
    let first = d.good.each w.interval w.kept w.slot_is in
    let mine : t.tablet ≡ tablet = first.tablet_is ∙ w.tablet_is in
    let owned : owner_of m.catalog.owners w.interval.table ≡ Some r.namespace = d.master.listed_of r l known lists w.interval w.kept w.tablet_is in
    let here : IsHere m slot r.namespace = record { interval = w.interval; kept = w.kept; slot_is = w.slot_is; owned = owned } in
    let of_table = table_here m changes slot t r.namespace d.good here in
    let b = good.back l lists refl in
    let then_ = b.then_ in
    let at_then : then_.slot ≡ slot = d.good.home first.present then_ b.kept_then (b.tablet_then ∙ sym mine) in
    let gt = d.good.each then_ b.kept_then at_then in
    let gn = d.good.each b.now b.kept_now b.slot_now in
    let s = serves_then m changes slot t snapshot r.namespace r.to then_ d.operations d.good d.works good.serves b.kept_then at_then (d.master.listed_of r l known lists then_ b.kept_then b.tablet_then) b.active in
    let f = s.set in
    let low : f.cutoff ≤ r.to = subst (λ k. ReachesBack (option_map from_set k) r.to) s.held cut in
    let less : at < t.clock = d.after.point r at known id_is (ap point_of is) refl in
    let sorted = d.good.good.set_sorted f s.isin in
    let keys = d.good.good.set_keys f s.isin in
    let then_reads : (key : List ℕ) → in_range t.low t.high (code_of key) ≡ true → read_of f.versions key r.to ≡ row_at changes r.to t.table key =
    λ key ranged. gt.sets f s.isin key r.to (ap (λ a. in_range a then_.high (code_of key)) (sym gt.low_is) ∙ ap (λ z. in_range t.low z (code_of key)) (sym gt.high_is) ∙ ranged) low s.reaches b.active
    ∙ ap (λ id. row_at changes r.to id key) (sym gt.table_is) in
    let fresh : is_done t.done operation RestoreFromKind ≡ false = o.fresh c (subst (In c) (sym d.inbox) (inl refl)) in
    let waits_of : awaited_of r.state r t.tablet t.done ≡ Some at =
    ap (λ q. awaited_of q r t.tablet t.done) is
    ∙ ap (λ z. cond (z && not (is_done t.done r.id RestoreFromKind)) (Some at) None) (listed_any r.listed l t.tablet lists (sym mine) refl)
    ∙ ap (λ z. cond (not z) (Some at) None) (ap (λ id. is_done t.done id RestoreFromKind) id_is ∙ fresh) in
    let only : (k : RestorationRecord) → In k m.restorations → is_restored k.state ≡ false → k.namespace ≡ r.namespace → k ≡ r = λ k isin still ns. d.operations.apart.one_restoration k r isin known still unfinished ns in
    let awaited : awaited_in m.restorations t.tablet t.done ≡ Some at = none_or_some (awaited_in m.restorations t.tablet t.done)
    (λ none. absurd (let q : None ≡ Some at = sym (settled_none m.restorations t.tablet t.done none r known) ∙ waits_of in grind arith))
    (λ p some.
    let k = awaits_is m.restorations t.tablet t.done p some in
    let one : k.restoration ≡ r = only k.restoration k.known (ap is_restored k.state_is) (awaits_of m changes slot t r.namespace t.done p d.master d.good here k) in
    some ∙ ap Some (point_same p at k.serving snapshot (sym k.state_is ∙ ap (λ q. q.state) one ∙ is))) in
    let none : awaited_in m.restorations t.tablet done ≡ None = none_or_some (awaited_in m.restorations t.tablet done)
    (λ none. none)
    (λ p some.
    let k = awaits_is m.restorations t.tablet done p some in
    let one : k.restoration ≡ r = only k.restoration k.known (ap is_restored k.state_is) (awaits_of m changes slot t r.namespace done p d.master d.good here k) in
    absurd (true≢false (sym (ap (λ id. is_done done id RestoreFromKind) (ap (λ q. q.id) one ∙ id_is) ∙ done_now t.done operation RestoreFromKind) ∙ k.undone))) in
    let vs = of_rows (rows_at f.versions r.to) at in
    let u = back_with t n version vs at operation cs done in
    let now_before : (key : List ℕ) → in_range t.low t.high (code_of key) ≡ true → row_at (before_restore changes r.namespace at changes) r.to t.table key ≡ row_at changes r.to t.table key =
    λ key ranged. ap (λ id. row_at (before_restore changes r.namespace at changes) r.to id key) gn.table_is
    ∙ (gn.comes r at known waits_of b.opened).before key (ap (λ a. in_range a b.now.high (code_of key)) (sym gn.low_is) ∙ ap (λ z. in_range t.low z (code_of key)) (sym gn.high_is) ∙ ranged)
    ∙ ap (λ id. row_at changes r.to id key) (sym gn.table_is) in
    let are : AreRowsAt vs t.low t.high at (before_restore changes r.namespace at changes) r.to t.table =
    are_rows_restored f.versions t.low t.high at r.to (row_at (before_restore changes r.namespace at changes) r.to t.table) sorted keys (λ key ranged. then_reads key ranged ∙ sym (now_before key ranged)) in
    let mine_slot : (j : Listed) → In j r.listed → j.slot ≡ slot → RestoringSlot changes r at j u = λ j j_lists there. (
    let old : RestoringSlot changes r at j t = subst (λ q. RestorationSlot q m changes r slot t) is (d.works.obeyed.restorations r known) j j_lists there in record {
      acked = λ a. done_still t.done (mark_of c) r.id (kind_of j.body) (old.acked a);
      fenced = λ serving. ap Some (sym id_is);
      restored = λ restores did. record { serves = refl; cutoff_is = refl; rows = are };
      hidden = λ hides did. absurd (
          let k = g.known unfinished j j_lists in
          let tablet_is : b.now.tablet ≡ j.tablet = b.tablet_now ∙ sym mine ∙ (d.good.each k.interval k.kept (k.slot_is ∙ there)).tablet_is ∙ k.tablet_is in
          no_end b.now.to at b.opened (good.gone j b.now j_lists hides b.kept_now tablet_is));
    }) in
    let result : HoldsOf m changes slot u = record {
      good = slot_restored m changes slot t n version vs at r.to operation cs done le (omega (arith, less, le)) first.present (sorted_restored f.versions r.to at sorted)
          (below_of_rows (rows_at f.versions r.to) at (n + 1) (omega (arith, less, le))) (keys_of_rows (rows_at f.versions r.to) at _ (keys_rows_at f.versions r.to _ keys))
          (λ key x ranged from. restored_reads f.versions r.to at key x from ∙ then_reads key ranged) awaited
          (λ i isin there opened. (r.namespace, (d.good.each i isin there).comes r at known waits_of opened)) none d.good;
      works = record {
        orders = orders_done m slot t (record t { presence = ServingPart; version = version; versions = vs; cutoff = at; fence = Some operation }) n c cs le d.inbox
            (mark_pending m changes operation slot n l d.operations d.pends (marked_after m changes slot n t operation tablet (RestoreFrom snapshot r.to at version) cs d))
            (λ by e. let q : operation ≡ by = cc in inl (record {
              restoration = r;
              kept = known;
              id_is = id_is ∙ q;
              owned = of_table;
              place = subst (λ z. FencePlace z r m slot done) (sym is) (l, (lists, (refl, inl refl)));
            }))
            (λ k there did. let h = o.holds k there (sym (done_beside t.done (mark_of c) k.id FreezeKind (λ e kind. let q : RestoreFromKind ≡ FreezeKind = kind in grind arith)) ∙ did) in
            record { set = h.set; held = h.held; time = h.time; inside = h.inside })
            (λ k held. done_still t.done (mark_of c) k.snapshot FreezeKind (o.frozen k held))
            o.sets refl o;
        obeyed = obeyed_done m changes slot t u (mark_of c) first.present refl refl refl refl
            (each_restoration m changes slot t u r d.master d.operations d.good d.works here known unfinished
            (λ q apart. done_beside t.done (mark_of c) q.id FenceKind (λ e kind. let z : RestoreFromKind ≡ FenceKind = kind in grind arith))
            (subst (λ q. RestorationSlot q m changes r slot u) (sym is) mine_slot))
            (clones_beside m changes slot t u r d.operations d.good here known unfinished refl)
            d.works.obeyed;
      };
    } in
    let rows_are : rows_of_set (set_of t.frozen snapshot) r.to ≡ rows_at f.versions r.to = ap (λ k. rows_of_set k r.to) s.held in
    subst (λ rs. HoldsOf m changes slot (back_with t n version (of_rows rs at) at operation cs done)) (sym rows_are) result

pub restore_done : (m : Master) (changes : List Change) (slot n : ℕ) (t : Tablet) (operation tablet snapshot : Id) (to at version : ℕ) (cs : List Command) (rows : List KeyedRow) → ReachesBack (option_map from_set (set_of t.frozen snapshot)) to
    → Does m changes slot n t operation tablet (RestoreFrom snapshot to at version) cs → IsPending m operation slot (record { tablet = tablet; slot = slot; body = RestoreFrom snapshot to at version; acked = false })
    → HoldsOf m changes slot (processed (record { operation = operation; tablet = tablet; body = RestoreFrom snapshot to at version } ∷ cs) rows n t)
restore_done m changes slot n t operation tablet snapshot to at version cs rows cut d (RestorationPends k) =
    let r = k.restoration in
    let found = restoring_is r.state m changes r _ snapshot to at version (d.operations.restorations r k.kept).in_state k.line.listed refl in
    subst (λ x. In (record { tablet = tablet; slot = slot; body = RestoreFrom snapshot x at version; acked = false }) r.listed → ReachesBack (option_map from_set (set_of t.frozen snapshot)) x → Does m changes slot n t operation tablet (RestoreFrom snapshot x at version) cs
    → HoldsOf m changes slot (processed (record { operation = operation; tablet = tablet; body = RestoreFrom snapshot x at version } ∷ cs) rows n t))
    (sym found.1) (restored_by m changes slot n t operation tablet snapshot at version cs rows r k.kept k.id_is found.0) k.line.listed cut d
restore_done m changes slot n t operation tablet snapshot to at version cs rows cut d (BySnapshot k) =
    absurd (let q : RestoreFrom snapshot to at version ≡ Freeze k.snapshot.id k.snapshot.at = (d.operations.snapshots k.snapshot k.kept).bodies _ k.line.listed in grind arith)
restore_done m changes slot n t operation tablet snapshot to at version cs rows cut d (ClonePends k) =
    absurd (no_clone_restore k.clone.state m k.clone _ snapshot to at version (d.operations.clones k.clone k.kept).in_state k.line.listed refl)
