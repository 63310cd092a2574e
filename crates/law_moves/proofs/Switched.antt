-- The switch keeps what holds; and so does each advance of a restoration.
use Rattle.std.proofs.Common.{ℕ, ◌≡◌, ◌≤◌, ◌<◌, List, [], ◌∷◌, ◌++◌, map, Option, Some, None, Bool, true, false, cond, ◌⊎◌, inl, inr, refl, sym, ap, subst, ◌∙◌, arith, leb, leb-true, ltb-true, le_of_lt}
use Rattle.std.specs.List.{filter}
use Rattle.std.specs.Option.{option_map_or}
use Rattle.std.proofs.lemmas.Bool.{true≢false}
use Rattle.model.specs.Cluster.{RestorationKind as Restoration, Id, In, ended, ended_by, before_end, Interval, active_at, owner_of, owns, RestorationRecord, Switching, Advance, Master, Parts}
use Rattle.model.specs.Restored.{begun_at, end_namespace_tablets}
use Rattle.model.specs.Lists.{tablets_active_at}
use Rattle.model.specs.Journal.{Change}
use Rattle.model.specs.Coordination.{unfinished_clone}
use Rattle.model.specs.Cleanup.{floor_of}
use Rattle.model.specs.Moves.{restoration_moved, after_restoration, advance}
use Rattle.model.specs.History.{with_either, with_restoration}
use Rattle.law_invariants.specs.Remembered.{Remembered, IsForgotten}
use Rattle.law_invariants.specs.Invariant.{Inv, Later}
use Rattle.law_invariants.proofs.Finding.{in_append, in_mapped, in_filter, filter_in, both_pass}
use Rattle.law_invariants.proofs.Ticking.{KeepsAll}
use Rattle.law_invariants.proofs.Undoing.{owned_is}
use Rattle.law_invariants.proofs.Advancing.{alone_keeps, moves}
use Rattle.law_invariants.proofs.Serving.{floor_restores}
use Rattle.law_moves.proofs.Counting.{ended_in, of_then, switched_covers}
use Rattle.law_moves.proofs.Switching.{IsSwitch, activity_then, turned, after, unfinished_yet, good_yet, ended_there, begun_there, origin}
use Rattle.law_moves.proofs.Turned.{slot_turned, master_turned, journal_turned, rows_turned}
use Rattle.law_moves.proofs.Recorded.{floors_turned, operations_turned}
use Rattle.law_moves.proofs.Ordered.{works_turned}
use Rattle.law_moves.proofs.Restorations.{Moved, moved_is, advance_restoration_by}
use Rattle.law_invariants.proofs.Parting.{part_append, part_mapped, part_filtered}
use Rattle.law_invariants.proofs.Remembering.{ended_later, forgotten_later}

-- the activity of all tablets after the switch
abbrev all_then : Master → RestorationRecord → ℕ → List Interval → List Interval
all_then m r point activity = end_namespace_tablets m.catalog.owners r.namespace point activity ++ map (begun_at point) (of_then m.catalog.owners r.namespace r.to activity)

then_of : (m : Master) (ns : Id) (to : ℕ) (activity : List Interval) (i : Interval) → In i (of_then m.catalog.owners ns to activity) → In i activity × ((owner_of m.catalog.owners i.table ≡ Some ns) × (active_at to i ≡ true))
then_of m ns to activity i isin =
    let h = filter_in (filter (λ i. owns m.catalog.owners ns i.table) activity) (active_at to) i isin in
    let k = filter_in activity (λ i. owns m.catalog.owners ns i.table) i h.0 in
    (k.0, (owned_is (owner_of m.catalog.owners i.table) ns k.1, h.1))

of_then_has : (m : Master) (ns : Id) (to : ℕ) (activity : List Interval) (i : Interval) → In i activity → owns m.catalog.owners ns i.table ≡ true → active_at to i ≡ true → In i (of_then m.catalog.owners ns to activity)
of_then_has m ns to activity i isin mine active = in_filter (filter (λ i. owns m.catalog.owners ns i.table) activity) (active_at to) i (in_filter activity (λ i. owns m.catalog.owners ns i.table) i isin mine) active

all_is : (P : Interval → Type 0) (m : Master) (r : RestorationRecord) (point : ℕ) (activity : List Interval) → ((i : Interval) → In i activity → P (ended_in m.catalog.owners r.namespace point i))
    → ((i : Interval) → In i activity → owner_of m.catalog.owners i.table ≡ Some r.namespace → active_at r.to i ≡ true → P (begun_at point i)) → (j : Interval) → In j (all_then m r point activity) → P j
all_is P m r point activity old begun j isin = elim (in_append (end_namespace_tablets m.catalog.owners r.namespace point activity) (map (begun_at point) (of_then m.catalog.owners r.namespace r.to activity)) j isin) [
  | inl there ↦ in_mapped {A = Interval} {B = Interval} (ended_in m.catalog.owners r.namespace point) P activity old j there
  | inr came ↦ in_mapped {A = Interval} {B = Interval} (begun_at point) P (of_then m.catalog.owners r.namespace r.to activity) (λ i there. let k = then_of m r.namespace r.to activity i there in begun i k.0 k.1.0 k.1.1) j came
]

-- Forgotten intervals

closed_stays : (b : Bool) (to : Option ℕ) (x point : ℕ) → ended_by x to ≡ true → cond b (ended point to) to ≡ to
closed_stays b None x point h = absurd (true≢false (sym h))
closed_stays true (Some e) x point h = refl
closed_stays false (Some e) x point h = refl

-- a forgotten interval of the namespace had ended by the time
forgotten_then : (ps : Parts) (activity : List Interval) (changes : List Change) (n : ℕ) (r : RestorationRecord) (point : ℕ) (serving_ : Id) (i : Interval) → IsSwitch ps activity changes n r point serving_ → owner_of ps.master.catalog.owners i.table ≡ Some r.namespace
    → IsForgotten ps.master i → ended_by r.to i.to ≡ true
forgotten_then ps activity changes n r point serving_ i s owner h =
    let m = ps.master in
    let below : ended_by (floor_of m r.namespace m.clock) i.to ≡ true = ap (λ o. ended_by (option_map_or (λ ns. floor_of m ns m.clock) o m.clock) i.to) (sym owner) ∙ h.below in
    ended_later i.to (floor_of m r.namespace m.clock) r.to (floor_restores m changes r s.inv.operations s.there (unfinished_yet ps activity changes n r point serving_ s)) below

not_both : (i : Interval) (to : ℕ) → active_at to i ≡ true → ended_by to i.to ≡ true → ⊥
not_both i to active over = clash i.to (both_pass (leb i.from to) (before_end to i.to) active).1 over
  where
    clash : (end_ : Option ℕ) → before_end to end_ ≡ true → ended_by to end_ ≡ true → ⊥
    clash None b e = true≢false (sym e)
    clash (Some t) b e = let l : to < t = ltb-true to t b in let k : t ≤ to = leb-true t to e in omega arith

remembered_turned : (ps : Parts) (activity : List Interval) (changes : List Change) (n : ℕ) (r : RestorationRecord) (point : ℕ) (serving_ : Id) → IsSwitch ps activity changes n r point serving_
    → Remembered (turned ps.master r point serving_ n) (all_then ps.master r point activity)
remembered_turned ps activity changes n r point serving_ s =
    let m = ps.master in
    let h = s.inv.remembered in
    record {
      part = part_append (end_namespace_tablets m.catalog.owners r.namespace point activity) (end_namespace_tablets m.catalog.owners r.namespace point m.activity)
          (map (begun_at point) (tablets_active_at m.catalog.owners m.activity r.namespace r.to)) (map (begun_at point) (of_then m.catalog.owners r.namespace r.to activity))
          (part_mapped (ended_in m.catalog.owners r.namespace point) activity m.activity h.part)
          (part_mapped (begun_at point) (of_then m.catalog.owners r.namespace r.to activity) (tablets_active_at m.catalog.owners m.activity r.namespace r.to)
          (part_filtered (active_at r.to) (filter (λ i. owns m.catalog.owners r.namespace i.table) activity) (filter (λ i. owns m.catalog.owners r.namespace i.table) m.activity)
          (part_filtered (λ i. owns m.catalog.owners r.namespace i.table) activity m.activity h.part)));
      each = λ j isin. all_is (λ j. In j (activity_then m r point) ⊎ IsForgotten (turned m r point serving_ n) j) m r point activity
          (λ i there. elim (h.each i there) [
            | inl here ↦ inl (ended_there m r point i here)
            | inr gone ↦ (
                let with_end : Option ℕ → Interval = λ to. record i { to = to } in
                let is : ended_in m.catalog.owners r.namespace point i ≡ i = ap with_end (closed_stays (owns m.catalog.owners r.namespace i.table) i.to m.clock point gone.over) in
                inr (subst (IsForgotten (turned m r point serving_ n)) (sym is) (forgotten_later m (turned m r point serving_ n) i (le_of_lt s.before) (λ ns. floors_turned ps activity changes n r point serving_ ns s) refl
                (λ j known e. let o = origin m r point j known in gone.unknown o.was o.kept (o.tablet_is ∙ e)) gone)))
          ])
          (λ i there owner active. elim (h.each i there) [
            | inl here ↦ inl (begun_there m r point i here owner active)
            | inr gone ↦ absurd (not_both i r.to active (forgotten_then ps activity changes n r point serving_ i s owner gone))
          ]) j isin;
      drawn = λ j isin. all_is (λ j. j.tablet.number ≤ m.drawn.tablets) m r point activity (λ i there. h.drawn i there) (λ i there owner active. h.drawn i there) j isin;
      drawn_table = λ j isin. all_is (λ j. j.table.number ≤ m.drawn.tables) m r point activity (λ i there. h.drawn_table i there) (λ i there owner active. h.drawn_table i there) j isin;
      reserved = λ c p j known unseen paired isin. all_is (λ j. (j.tablet ≡ p.target → ⊥) × (j.table ≡ p.table → ⊥)) m r point activity
          (λ i there. h.reserved c p i known unseen paired there) (λ i there owner active. h.reserved c p i known unseen paired there) j isin;
    }

-- The switch

switched_inv : (ps : Parts) (activity : List Interval) (changes : List Change) (n : ℕ) (r : RestorationRecord) (point : ℕ) (serving_ : Id) → IsSwitch ps activity changes n r point serving_
    → Inv (record { master = turned ps.master r point serving_ n; tablet = ps.tablet }) (all_then ps.master r point activity) (after r point changes)
switched_inv ps activity changes n r point serving_ s =
    let m = ps.master in
    let good = good_yet ps activity changes n r point serving_ s in
    record {
      master = master_turned ps activity changes n r point serving_ s;
      remembered = remembered_turned ps activity changes n r point serving_ s;
      cover = switched_covers activity changes m.catalog.owners r.namespace point r.to s.inv.master.tables.inside good.is_point.later
          (λ i e there mine is. (
          let owner = owned_is (owner_of m.catalog.owners i.table) r.namespace mine in
          elim (s.inv.remembered.each i there) [
            | inl here ↦ good.before.ended i e here owner is
            | inr gone ↦ (
                let k : ended_by r.to (Some e) ≡ true = ap (ended_by r.to) (sym is) ∙ forgotten_then ps activity changes n r point serving_ i s owner gone in
                let l : e ≤ r.to = leb-true e r.to k in let z = good.is_point.later in omega arith)
          ])) s.inv.cover;
      slots = λ slot. slot_turned ps activity changes n r point serving_ slot s;
      operations = operations_turned ps activity changes n r point serving_ s;
      journal = journal_turned ps activity changes n r point serving_ s;
      rows_past = rows_turned ps activity changes n r point serving_ s;
      works = λ slot. works_turned ps activity changes n r point serving_ slot s;
    }

switch_keeps : (ps : Parts) (activity : List Interval) (changes : List Change) (n : ℕ) (operation : Id) (r : RestorationRecord) (point : ℕ) (serving_ : Id) → Later (0 ∷ []) ps n → Moved ps operation r → r.state ≡ Switching point serving_ → Inv ps activity changes
    → KeepsAll (Advance operation) n ps activity changes (moves operation (after_restoration ps.master r))
switch_keeps ps activity changes n operation r point serving_ later v is inv =
    let m = ps.master in
    let s : IsSwitch ps activity changes n r point serving_ = record { before = later 0 refl; there = v.there; is = is; inv = inv } in
    alone_keeps (Advance operation) (moves operation (after_restoration ps.master r)) n ps activity (all_then m r point activity) changes (after r point changes) (turned m r point serving_ n) refl refl
    (moved_is operation r n m v.kind v.found ∙ ap (λ st. restoration_moved st r n m) is)
    (ap (λ k. k.activity) (moved_is operation r n (record m { activity = activity }) v.kind v.found) ∙ ap (λ st. (restoration_moved st r n (record m { activity = activity })).activity) is)
    (ap (λ o. with_either o (unfinished_clone m.clones operation) n changes) v.found ∙ ap (λ st. with_restoration st r changes) is)
    (switched_inv ps activity changes n r point serving_ s)

-- an advance of a restoration keeps what holds
pub advance_restoration_keeps : (ps : Parts) (activity : List Interval) (changes : List Change) (n : ℕ) (operation : Id) → Later (0 ∷ []) ps n → operation.kind ≡ Restoration → Inv ps activity changes
    → KeepsAll (Advance operation) n ps activity changes (advance operation n ps)
advance_restoration_keeps ps activity changes n operation later kind inv =
    advance_restoration_by ps activity changes n operation later kind inv (λ r point serving_ v is. switch_keeps ps activity changes n operation r point serving_ later v is inv)
