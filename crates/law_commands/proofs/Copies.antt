-- A clone's target that copies the rows of its source keeps what holds: no tablet of its slot is active yet.
use Rattle.std.proofs.Common.{ℕ, ◌≡◌, ◌≢◌, ◌≤◌, ◌<◌, ◌+◌, List, [], ◌∷◌, ◌++◌, Some, None, true, false, inl, inr, refl, sym, ap, subst, ◌∙◌, arith, le_refl, le_of_lt}
use Rattle.std.proofs.lemmas.Bool.{true≢false}
use Rattle.std.specs.Option.{option_map}
use Rattle.model.specs.Cluster.{code_of, Id, same, In, in_range, Interval, Listed, TabletPair, CloneRecord, CloneState, Copying, CloneReleasing, CloneComplete, is_cloned, is_visible, Master}
use Rattle.row_values.specs.Store.{Version, read_of, rows_at, of_rows}
use Rattle.model.specs.Journal.{Change, row_at}
use Rattle.model.specs.Tablets.{Tablet, ServingPart, Command, Mark, Body, Freeze, Copy, FenceKind, FreezeKind, CopyKind, FrozenSet, set_of, rows_of_set, processed, is_done}
use Rattle.model.specs.Stands.{AreRowsAt, copied_at}
use Rattle.model.specs.Retained.{ReachesBack, from_set}
use Rattle.law_store.proofs.Keys.{either_way}
use Rattle.law_store.proofs.Listing.{sorted_restored, below_of_rows}
use Rattle.law_store.proofs.Members.{keys_of_rows, keys_rows_at}
use Rattle.law_store.proofs.Restoring.{are_rows_restored}
use Rattle.law_store.specs.Sorted.{EachKey}
use Rattle.law_invariants.specs.Invariant.{SlotGood, SlotWorks}
use Rattle.law_invariants.specs.Operations.{CopyingGood, CloneStateGood}
use Rattle.law_invariants.specs.Orders.{ClonePlace, IsCopy, CopyingSlot, CloneSlot}
use Rattle.law_invariants.proofs.Finding.{same_equal, same_self}
use Rattle.law_invariants.proofs.Operating.{visible_later}
use Rattle.law_invariants.proofs.DoneMarks.{done_still, done_beside, done_now}
use Rattle.law_invariants.proofs.Commanded.{IsPending, BySnapshot, ByRestoration as RestorationPends, ByClone as ClonePends}
use Rattle.law_commands.proofs.Doing.{mark_of, mark_pending, orders_done, apart_in, apart_of}
use Rattle.law_commands.proofs.Held.{Does, HoldsOf, marked_after}
use Rattle.law_invariants.proofs.Bodies.{copying_is, no_restoration_copy, serves_then}
use Rattle.law_invariants.proofs.Bodies.{serves_then}

-- a target that is current is active in its slot
visible_interval : (state : CloneState) (m : Master) (c : CloneRecord) (l : Listed) → CloneStateGood state m c → is_visible state ≡ true → is_cloned state ≡ false → In l c.listed → (i : Interval) × (In i m.activity × (i.slot ≡ l.slot))
visible_interval (CloneReleasing serving at) m c l h seen unfinished isin = let k = h.active l isin in (k.interval, (k.kept, k.slot_is))
visible_interval (CloneComplete serving at) m c l h seen unfinished isin = absurd (true≢false unfinished)
visible_interval _ m c l h seen unfinished isin = absurd (true≢false (sym seen))

-- a tablet of a target in an empty part
abbrev pub copied_with : Tablet → ℕ → Id → TabletPair → List Version → ℕ → Id → List Command → List Mark → Tablet
copied_with t n tablet p vs at operation inbox done = record t {
  clock = n;
  presence = ServingPart;
  tablet = tablet;
  table = p.table;
  low = p.low;
  high = p.high;
  version = 1;
  versions = vs;
  cutoff = at;
  fence = Some operation;
  inbox = inbox;
  done = done;
}

copied_by : (m : Master) (changes : List Change) (slot n : ℕ) (t q : Tablet) (operation tablet serving : Id) (at : ℕ) (cs : List Command) (b : CloneRecord) (p : TabletPair) → In b m.clones → b.id ≡ operation → b.state ≡ Copying serving at
    → In (record { tablet = tablet; slot = slot; body = Copy p.source_slot serving b.to at p.table p.low p.high 1; acked = false }) b.listed → In p b.tablets → tablet ≡ p.target → slot ≡ p.slot
    → SlotGood m changes p.source_slot q → SlotWorks m changes p.source_slot q → ReachesBack (option_map from_set (set_of q.frozen serving)) b.to
    → Does m changes slot n t operation tablet (Copy p.source_slot serving b.to at p.table p.low p.high 1) cs
    → HoldsOf m changes slot (processed (record { operation = operation; tablet = tablet; body = Copy p.source_slot serving b.to at p.table p.low p.high 1 } ∷ cs) (rows_of_set (set_of q.frozen serving) b.to) n t)
copied_by m changes slot n t q operation tablet serving at cs b p known id_is is lists paired target_is slot_is sg sw cut d =
    let body = Copy p.source_slot serving b.to at p.table p.low p.high 1 in
    let c : Command = record { operation = operation; tablet = tablet; body = body } in
    let l : Listed = record { tablet = tablet; slot = slot; body = body; acked = false } in
    let le : t.clock ≤ n = le_of_lt d.before in
    let o = d.works.orders in
    let done = t.done ++ mark_of c ∷ [] in
    let g = d.operations.clones b known in
    let unfinished : is_cloned b.state ≡ false = ap is_cloned is in
    let unseen : is_visible b.state ≡ false = ap is_visible is in
    let good : CopyingGood m b serving at = subst (λ s. CloneStateGood s m b) is g.in_state in
    let old : CopyingSlot m changes b at slot t = subst (λ s. CloneSlot s m changes b slot t) is (d.works.obeyed.clones b known) in
    let fresh : is_done t.done b.id CopyKind ≡ false = ap (λ id. is_done t.done id CopyKind) id_is ∙ o.fresh c (subst (In c) (sym d.inbox) (inl refl)) in
    let bare = o.bare (old.empty p paired (sym slot_is) fresh) in
    let r = g.reserved unseen p paired in
    let free : (i : Interval) → In i m.activity → i.slot ≡ slot → ⊥ = λ i isin there. r.free i isin (there ∙ slot_is) in
    let from = g.sources unfinished p paired in
    let gi = sg.each from.interval from.kept from.slot_is in
    let s = serves_then m changes p.source_slot q serving b.source b.to from.interval d.operations sg sw good.serves from.kept from.slot_is from.owned from.active in
    let f = s.set in
    let low : f.cutoff ≤ b.to = subst (λ k. ReachesBack (option_map from_set k) b.to) s.held cut in
    let less : at < t.clock = d.after.copied b at known id_is (ap copied_at is) in
    let sorted = sg.good.set_sorted f s.isin in
    let keys : EachKey (λ key. in_range p.low p.high (code_of key)) f.versions =
    subst (λ h. EachKey (λ key. in_range p.low h (code_of key)) f.versions) (gi.high_is ∙ from.high_is) (subst (λ a. EachKey (λ key. in_range a q.high (code_of key)) f.versions) (gi.low_is ∙ from.low_is) (sg.good.set_keys f s.isin)) in
    let reads : (key : List ℕ) → in_range p.low p.high (code_of key) ≡ true → read_of f.versions key b.to ≡ row_at changes b.to from.interval.table key =
    λ key ranged. gi.sets f s.isin key b.to (ap (λ a. in_range a from.interval.high (code_of key)) from.low_is ∙ ap (λ z. in_range p.low z (code_of key)) from.high_is ∙ ranged) low s.reaches from.active in
    let vs = of_rows (rows_at f.versions b.to) at in
    let u = copied_with t n tablet p vs at operation cs done in
    let are : AreRowsAt vs p.low p.high at changes b.to from.interval.table = are_rows_restored f.versions p.low p.high at b.to (row_at changes b.to from.interval.table) sorted keys reads in
    let no_set : (k : FrozenSet) → In k t.frozen → ⊥ = λ k held. subst (In k) bare.frozen held in
    let none_done : (id : Id) → is_done t.done id FreezeKind ≡ false = λ id. ap (λ ds. is_done ds id FreezeKind) bare.done in
    let copy : IsCopy changes b at p u = record {
      serves = refl;
      fenced = ap Some (sym id_is);
      tablet_is = target_is;
      table_is = refl;
      low_is = refl;
      high_is = refl;
      cutoff = le_refl _;
      rows = λ e there of. (
          let one : e ≡ from.pair = g.one_table e from.pair there from.paired (of ∙ sym from.target_is) in
          subst (λ id. AreRowsAt vs p.low p.high at changes b.to id) (sym from.source_is ∙ ap (λ z. z.source) (sym one)) are);
    } in
    let mine : CopyingSlot m changes b at slot u = record {
      acked = λ j j_lists there a. done_still t.done (mark_of c) b.id CopyKind (old.acked j j_lists there a);
      empty = λ k there same_slot undone. absurd (true≢false (sym (ap (λ id. is_done done id CopyKind) id_is ∙ done_now t.done operation CopyKind) ∙ undone));
      copied = λ k there same_slot did. subst (λ z. IsCopy changes b at z u) (sym (g.one_slot k p there paired (same_slot ∙ slot_is))) copy;
      later = λ serving_ unfenced. absurd (let z : Some operation ≡ None = unfenced in grind arith);
    } in
    let result : HoldsOf m changes slot u = record {
      good = record {
        good = record {
          sorted = sorted_restored f.versions b.to at sorted;
          below = below_of_rows (rows_at f.versions b.to) at (n + 1) (omega (arith, less, le));
          cutoff = omega (arith, less, le);
          keys = keys_of_rows (rows_at f.versions b.to) at _ (keys_rows_at f.versions b.to _ keys);
          set_past = λ k held. absurd (no_set k held);
          set_sorted = λ k held. absurd (no_set k held);
          set_keys = λ k held. absurd (no_set k held);
        };
        home = λ present i isin e. absurd (r.unknown i isin (e ∙ target_is));
        numbered = g.drawn_listed l lists;
        each = λ i isin there. absurd (free i isin there);
        opens = λ serving_ unfenced. absurd (let z : Some operation ≡ None = unfenced in grind arith);
        shown = λ serving_ unfenced. absurd (let z : Some operation ≡ None = unfenced in grind arith);
        later = λ ns to fixed serving_ unfenced. absurd (let z : Some operation ≡ None = unfenced in grind arith);
      };
      works = record {
        orders = orders_done m slot t (copied_with t n tablet p vs at operation cs done) n c cs le d.inbox (mark_pending m changes operation slot n l d.operations d.pends (marked_after m changes slot n t operation tablet body cs d))
            (λ by e. let z : operation ≡ by = cc in inr (record {
              clone = b;
              kept = known;
              id_is = id_is ∙ z;
              owned = (g.pairs p paired).owned;
              place = subst (λ k. ClonePlace k b slot done) (sym is) (l, (lists, refl));
            }))
            (λ k there did. absurd (true≢false (sym did ∙ done_beside t.done (mark_of c) k.id FreezeKind (λ e kind. let z : CopyKind ≡ FreezeKind = kind in grind arith) ∙ none_done k.id)))
            (λ k held. absurd (no_set k held))
            (λ k held. absurd (no_set k held))
            refl o;
        obeyed = record {
          drawn_table = (g.pairs p paired).drawn_table;
          home = λ present. inr (record { clone = b; kept = known; serving = serving; at = at; state_is = is; pair = p; paired = paired; slot_is = sym slot_is; tablet_is = sym target_is });
          snapshots = λ k j there j_lists j_at acked same_ present. absurd (r.no_snapshot k j there j_lists (sym same_ ∙ target_is));
          restorations = λ k there. apart_in k.state m changes k slot t u
              (λ still j j_lists j_at. let w = (d.operations.restorations k there).known still j j_lists in free w.interval w.kept (w.slot_is ∙ j_at))
              (λ still i opened i_at. free i opened.kept i_at)
              (done_beside t.done (mark_of c) k.id FenceKind (λ e kind. let z : CopyKind ≡ FenceKind = kind in grind arith))
              (λ still fenced. let z : None ≡ Some k.id = sym bare.fence ∙ fenced in grind arith)
              (d.works.obeyed.restorations k there);
          clones = λ k there. either_way (same k.id b.id)
              (λ e. let one : b ≡ k = d.operations.apart.clone_ids b k known there (sym (same_equal k.id b.id e)) in
              subst (λ z. CloneSlot z.state m changes z slot u) one (subst (λ z. CloneSlot z m changes b slot u) (sym is) mine))
              (λ e. let apart : k.id ≢ b.id = λ ids. true≢false (sym (ap (λ z. same z b.id) ids ∙ same_self b.id) ∙ e) in
              apart_of k.state m changes k slot u
              (λ still j j_paired j_at. apart (ap (λ z. z.id) (d.operations.apart.one_target k b j p there known (visible_later k.state still) unfinished j_paired paired (j_at ∙ slot_is))))
              (λ seen still j j_lists j_at. let w = visible_interval k.state m k j (d.operations.clones k there).in_state seen still j_lists in free w.0 w.1.0 (w.1.1 ∙ j_at))
              (λ still serving_ unfenced. absurd (let z : Some operation ≡ None = unfenced in grind arith))
              (d.operations.clones k there).in_state);
        };
      };
    } in
    let rows_are : rows_of_set (set_of q.frozen serving) b.to ≡ rows_at f.versions b.to = ap (λ k. rows_of_set k b.to) s.held in
    subst (λ rs. HoldsOf m changes slot (copied_with t n tablet p (of_rows rs at) at operation cs done)) (sym rows_are) result

-- the source of a copy is a tablet's part of which all holds
pub record IsPart (m : Master) (changes : List Change) (slot : ℕ) (q : Tablet) : Type 0 where
  pub good : SlotGood m changes slot q
  pub works : SlotWorks m changes slot q

-- what a copy does, by its body
abbrev Copied : Body → Master → List Change → ℕ → ℕ → Tablet → Tablet → Id → Id → List Command → CloneRecord → Type 0
Copied (Copy source snapshot to stamp table low high version) m changes slot n t q operation tablet cs b =
    In (record { tablet = tablet; slot = slot; body = Copy source snapshot to stamp table low high version; acked = false }) b.listed → IsPart m changes source q → ReachesBack (option_map from_set (set_of q.frozen snapshot)) to
    → Does m changes slot n t operation tablet (Copy source snapshot to stamp table low high version) cs
    → HoldsOf m changes slot (processed (record { operation = operation; tablet = tablet; body = Copy source snapshot to stamp table low high version } ∷ cs) (rows_of_set (set_of q.frozen snapshot) to) n t)
Copied _ m changes slot n t q operation tablet cs b = Unit {0}

pub copy_done : (m : Master) (changes : List Change) (slot n : ℕ) (t q : Tablet) (operation tablet : Id) (source : ℕ) (snapshot : Id) (to stamp : ℕ) (table : Id) (low high version : ℕ) (cs : List Command) → IsPart m changes source q
    → ReachesBack (option_map from_set (set_of q.frozen snapshot)) to → Does m changes slot n t operation tablet (Copy source snapshot to stamp table low high version) cs
    → IsPending m operation slot (record { tablet = tablet; slot = slot; body = Copy source snapshot to stamp table low high version; acked = false })
    → HoldsOf m changes slot (processed (record { operation = operation; tablet = tablet; body = Copy source snapshot to stamp table low high version } ∷ cs) (rows_of_set (set_of q.frozen snapshot) to) n t)
copy_done m changes slot n t q operation tablet source snapshot to stamp table low high version cs part cut d (ClonePends k) =
    let b = k.clone in
    let found = copying_is b.state m b _ source snapshot to stamp table low high version (d.operations.clones b k.kept).in_state k.line.listed refl in
    let w = found.1.1.1 in
    subst (λ body. Copied body m changes slot n t q operation tablet cs b) (sym w.body_is)
    (λ lists p c does. copied_by m changes slot n t q operation tablet found.0 found.1.0 cs b w.pair k.kept k.id_is found.1.1.0 lists w.paired w.tablet_is w.slot_is p.good p.works c does)
    k.line.listed part cut d
copy_done m changes slot n t q operation tablet source snapshot to stamp table low high version cs part cut d (BySnapshot k) =
    absurd (let z : Copy source snapshot to stamp table low high version ≡ Freeze k.snapshot.id k.snapshot.at = (d.operations.snapshots k.snapshot k.kept).bodies _ k.line.listed in grind arith)
copy_done m changes slot n t q operation tablet source snapshot to stamp table low high version cs part cut d (RestorationPends k) =
    absurd (no_restoration_copy k.restoration.state m changes k.restoration _ source snapshot to stamp table low high version (d.operations.restorations k.restoration k.kept).in_state k.line.listed refl)
