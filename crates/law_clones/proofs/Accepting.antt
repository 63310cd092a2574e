-- A new clone's record is good, and so its acceptance keeps what holds.
use Rattle.std.proofs.Common.{ℕ, ◌≡◌, ◌≤◌, ◌<◌, ◌+◌, List, [], ◌∷◌, ◌++◌, map, length, not, Option, Some, None, true, false, cond, ◌&&◌, ◌||◌, inl, inr, refl, sym, ap, subst, ◌∙◌, arith, leb, le_trans, le_refl}
use Rattle.std.specs.Option.{is_some, option_or, option_map, option_map_or}
use Rattle.std.proofs.lemmas.Bool.{true≢false}
use Rattle.model.specs.Cluster.{Kind, ScheduleKind, Snapshot, RestorationKind as Restoration, Id, same, In, holds_at, before_end, ended_by, in_range, TableRecord, Owner, tables_at, owner_of, owns, is_owned_by, namespace_named, kept_from, Interval, active_at, is_empty, RestorationRecord, IdPair, TabletPair, CloneRecord, is_cloned, Master, Drawn, Parts}
use Rattle.model.specs.Restored.{record_at}
use Rattle.model.specs.Journal.{Change, table_at}
use Rattle.model.specs.Schedules.{floor, least_low}
use Rattle.model.specs.Stands.{holders}
use Rattle.model.specs.Lists.{tablets_active_at, intervals_in}
use Rattle.model.specs.Looks.{free_slots, is_reserved}
use Rattle.model.specs.Operations.{restoration_of, clone_with, time_of_user}
use Rattle.model.specs.Cleanup.{floor_of}
use Rattle.model.specs.Drawn.{drawn_of}
use Rattle.model.specs.Changed.{next_namespace, pair_tables, pair_tablets, target_in, sources, new_clone, clone_begun}
use Rattle.model.specs.Changes.{named, clone_named}
use Rattle.law_store.proofs.Keys.{either_way}
use Rattle.law_invariants.specs.Operations.{Uses, takers, CloneGood}
use Rattle.law_invariants.specs.Invariant.{Inv, view_of, view_at}
use Rattle.law_invariants.proofs.Finding.{none_or_some, both_pass, passes_both, same_equal, same_self, in_mapped, filter_in, in_filter, not_either}
use Rattle.law_invariants.proofs.Operating.{target_reserved}
use Rattle.law_invariants.proofs.Overlap.{one_holder, holder_there}
use Rattle.law_invariants.proofs.Records.{record_at_is, owners_first}
use Rattle.law_invariants.proofs.Remembering.{no_lows, low_found, floor_rises, kept_all}
use Rattle.law_invariants.proofs.Free.{rise_in}
use Rattle.law_invariants.proofs.Using.{unreserved_name, NotUsed, no_time}
use Rattle.law_clones.proofs.Beside.{FloorsRise}
use Rattle.law_clones.proofs.Users.{it_uses}
use Rattle.law_clones.proofs.Serving.{not_restored}
use Rattle.law_clones.proofs.Reserving.{AreNew, owner_stays, reserving, reserving_keeps}
use Rattle.law_clones.proofs.Adding.{Adds, adding, adding_keeps}
use Rattle.law_clones.proofs.Pairing.{tables_then_apart, by_id_only, by_id_has, table_pair, tables_pair_apart, one_target_of, one_source_of, target_there, IsTabletPair, tablet_pair, tablets_one_slot, tablets_one_target, IsActiveOf, source_then, all_free, ends_after}
use Rattle.law_clones.proofs.Taking.{takers_are, ordered_holders, filtered_holders}
use Rattle.law_invariants.proofs.Parting.{part_counts}

-- what a clone to a time is accepted for
pub record MayClone (m : Master) (ns : Id) (least : ℕ) (target : List ℕ) (to n : ℕ) : Type 0 where
  pub drawn : ns.number ≤ m.drawn.namespaces
  pub scheduled : least_low m.schedules ns n ≡ Some least
  pub free : NotUsed m ns
  pub unnamed : is_some (named m target) ≡ false
  pub from : least ≤ to
  pub before : to < n
  pub enough : length (sources m ns to) ≤ length (free_slots m)

-- the time is not below the floor, so the catalog is kept from it on
pub floor_from : (ps : Parts) (activity : List Interval) (changes : List Change) (ns : Id) (s : ℕ) (target : List ℕ) (to n : ℕ) → ps.master.clock ≤ n → MayClone ps.master ns s target to n → floor_of ps.master ns ps.master.clock ≤ to
floor_from ps activity changes ns s target to n le may =
    let m = ps.master in
    let up : floor_of m ns m.clock ≤ floor (least_low m.schedules ns n) (time_of_user m ns) n =
    floor_rises m (record m { clock = n }) ns (record { clock = le; schedules = refl; restorations = refl; clones = refl }) in
    let is : floor (least_low m.schedules ns n) (time_of_user m ns) n ≡ s = ap (λ k. floor k (time_of_user m ns) n) may.scheduled ∙ ap (λ t. floor (Some s) t n) (no_time m ns may.free) in
    le_trans (subst (λ y. floor_of m ns m.clock ≤ y) is up) may.from

-- the table of a source tablet has a record at the time
pub source_table : (ps : Parts) (activity : List Interval) (changes : List Change) (ns : Id) (s : ℕ) (target : List ℕ) (to n : ℕ) (i : Interval) → ps.master.clock ≤ n → MayClone ps.master ns s target to n → Inv ps activity changes
    → IsActiveOf ps.master ns to i → (t : TableRecord) × (In t (tables_at ps.master.catalog.tables ns to) × (t.id ≡ i.table))
source_table ps activity changes ns s target to n i le may inv h =
    let m = ps.master in
    let tables = inv.master.tables in
    let there = ((inv.slots i.slot).each i h.kept refl).viewed to h.active in
    let kept : kept_from m.catalog.kept_from ns ≤ to = le_trans (inv.operations.kept ns) (floor_from ps activity changes ns s target to n le may) in
    let shown = tables.viewed i.table ns to h.owned kept in
    none_or_some (record_at m.catalog.tables i.table to)
    (λ none. absurd (true≢false (sym there ∙ ap is_some (shown ∙ ap (option_map view_of) none))))
    (λ t some.
    let is = record_at_is m.catalog.tables i.table to t some in
    let q : Some t.namespace ≡ Some ns = sym (tables.owned t is.listed) ∙ ap (owner_of m.catalog.owners) is.id_is ∙ h.owned in
    let of : t.namespace ≡ ns = cc in
    (t, (by_id_has _ t (in_filter m.catalog.tables (λ r. holds_at to r.from r.to && same r.namespace ns) t is.listed (passes_both (holds_at to t.from t.to) (same t.namespace ns) is.holds (ap (λ k. same k ns) of ∙ same_self ns))), is.id_is)))

owner_made : (os : List Owner) (ds : List IdPair) (target : Id) (d : IdPair) → In d ds → owner_of os d.target ≡ None → owner_of (os ++ map (λ p. record { table = p.target; namespace = target }) ds) d.target ≡ Some target
owner_made (o ∷ os) ds target d isin none = either_way (same o.table d.target)
    (λ b. absurd (let q : Some o.namespace ≡ None = rw b at none in grind arith))
    (λ b. rw b (owner_made os ds target d isin (rw b at none)))
owner_made [] [] target d isin none = absurd isin
owner_made [] (e ∷ ds) target d isin none = either_way (same e.target d.target)
    (λ b. rw b refl)
    (λ b. elim isin [ inl is ↦ absurd (true≢false (sym (ap (λ k. same k.target d.target) is ∙ same_self d.target) ∙ b)) | inr rest ↦ rw b (owner_made [] ds target d rest none) ])

-- What the new record is made of

abbrev pub tables_of : Master → Id → ℕ → List IdPair
tables_of m ns to = pair_tables (tables_at m.catalog.tables ns to) m.drawn.tables

abbrev pub tablets_of : Master → Id → ℕ → List TabletPair
tablets_of m ns to = pair_tablets (sources m ns to) (free_slots m) m.drawn.tablets (tables_of m ns to)

abbrev pub drawn_for : Master → Id → ℕ → Drawn
drawn_for m ns to = record m.drawn {
  namespaces = m.drawn.namespaces + 1;
  tables = m.drawn.tables + length (tables_of m ns to);
  tablets = m.drawn.tablets + length (tablets_of m ns to);
  clones = m.drawn.clones + 1;
}

abbrev pub owners_for : Master → Id → ℕ → List Owner
owners_for m ns to = map (λ p. record { table = p.target; namespace = next_namespace m }) (tables_of m ns to)

more_drawn : (d : Drawn) (tables tablets : ℕ) (kind : Kind) → drawn_of kind d ≤ drawn_of kind (record d { namespaces = d.namespaces + 1; tables = d.tables + tables; tablets = d.tablets + tablets; clones = d.clones + 1 })
more_drawn d tables tablets ScheduleKind = le_refl _
more_drawn d tables tablets Snapshot = le_refl _
more_drawn d tables tablets Restoration = le_refl _
more_drawn d tables tablets _ = omega arith

owners_new : (m : Master) (ns : Id) (to : ℕ) → AreNew m (owners_for m ns to) (drawn_for m ns to)
owners_new m ns to = record {
  drawn = more_drawn m.drawn (length (tables_of m ns to)) (length (tablets_of m ns to));
  above = in_mapped {A = IdPair} {B = Owner} (λ p. record { table = p.target; namespace = next_namespace m }) (λ o. m.drawn.tables < o.table.number) (tables_of m ns to) (λ d isin. (table_pair (tables_at m.catalog.tables ns to) m.drawn.tables d isin).above);
  by = in_mapped {A = IdPair} {B = Owner} (λ p. record { table = p.target; namespace = next_namespace m }) (λ o. o.table.number ≤ m.drawn.tables + length (tables_of m ns to)) (tables_of m ns to)
      (λ d isin. (table_pair (tables_at m.catalog.tables ns to) m.drawn.tables d isin).by);
  owned = in_mapped {A = IdPair} {B = Owner} (λ p. record { table = p.target; namespace = next_namespace m }) (λ o. o.namespace.number ≤ m.drawn.namespaces + 1) (tables_of m ns to) (λ d isin. le_refl _);
}

-- a target tablet, with its source and the pair of its table
pub record IsTaken (m : Master) (ns : Id) (to : ℕ) (p : TabletPair) : Type 0 where
  pub of : IsTabletPair (sources m ns to) (free_slots m) m.drawn.tablets (length (tablets_of m ns to)) (tables_of m ns to) p
  pub active : IsActiveOf m ns to of.interval
  pub pair : IdPair
  pub paired : In pair (tables_of m ns to)
  pub source_is : pair.source ≡ of.interval.table
  pub target_is : pair.target ≡ p.table
  pub above : m.drawn.tables < p.table.number
  pub by : p.table.number ≤ m.drawn.tables + length (tables_of m ns to)

is_taken : (ps : Parts) (activity : List Interval) (changes : List Change) (ns : Id) (s : ℕ) (target : List ℕ) (to n : ℕ) (p : TabletPair) → ps.master.clock ≤ n → MayClone ps.master ns s target to n → Inv ps activity changes
    → In p (tablets_of ps.master ns to) → IsTaken ps.master ns to p
is_taken ps activity changes ns s target to n p le may inv isin =
    let m = ps.master in
    let of = tablet_pair (sources m ns to) (free_slots m) m.drawn.tablets (tables_of m ns to) p isin in
    let active = source_then m ns to of.interval of.listed in
    let t = source_table ps activity changes ns s target to n of.interval le may inv active in
    let d = target_there (tables_at m.catalog.tables ns to) m.drawn.tables t.0 t.1.0 in
    let is : d.0.target ≡ p.table = sym d.1.1.1 ∙ ap (target_in (tables_of m ns to)) t.1.1 ∙ sym of.table_is in
    let k = table_pair (tables_at m.catalog.tables ns to) m.drawn.tables d.0 d.1.0 in
    record {
      of = of;
      active = active;
      pair = d.0;
      paired = d.1.0;
      source_is = d.1.1.0 ∙ t.1.1;
      target_is = is;
      above = subst (λ i. m.drawn.tables < i.number) is k.above;
      by = subst (λ i. i.number ≤ m.drawn.tables + length (tables_of m ns to)) is k.by;
    }

-- The targets cover the codes

active_over : (to : Option ℕ) (floor from x : ℕ) → ended_by floor to ≡ true → floor ≤ x → holds_at x from to ≡ true → ⊥
active_over to floor from x ended le active = ends_after to floor x ended (both_pass (leb from x) (before_end x to) active).1 le

pub covers_it : (ps : Parts) (activity : List Interval) (changes : List Change) (ns : Id) (s : ℕ) (target : List ℕ) (to n : ℕ) (d : IdPair) (code : ℕ) → ps.master.clock ≤ n → MayClone ps.master ns s target to n → Inv ps activity changes → In d (tables_of ps.master ns to) → code < 65536 → takers (tablets_of ps.master ns to) d.target code ≡ 1
covers_it ps activity changes ns s target to n d code le may inv isin small =
    let m = ps.master in
    let tables = inv.master.tables in
    let ts = tables_at m.catalog.tables ns to in
    let apart = tables_pair_apart ts m.drawn.tables (tables_then_apart m.catalog.tables ns to tables.rise) in
    let r = table_pair ts m.drawn.tables d isin in
    let there = filter_in m.catalog.tables (λ r. holds_at to r.from r.to && same r.namespace ns) r.table (by_id_only _ r.table r.listed) in
    let stood = both_pass (holds_at to r.table.from r.table.to) (same r.table.namespace ns) there.1 in
    let of : r.table.namespace ≡ ns = same_equal r.table.namespace ns stood.1 in
    let owner : owner_of m.catalog.owners d.source ≡ Some ns = ap (owner_of m.catalog.owners) r.source_is ∙ tables.owned r.table there.0 ∙ ap Some of in
    let low_floor = floor_from ps activity changes ns s target to n le may in
    let kept : kept_from m.catalog.kept_from ns ≤ to = le_trans (inv.operations.kept ns) low_floor in
    let viewed : is_some (table_at changes to d.source) ≡ true =
    ap is_some (tables.viewed d.source ns to owner kept ∙ ap (λ i. view_at m.catalog.tables to i) r.source_is ∙ ap (option_map view_of) (tables.found to r.table there.0 stood.0)) in
    let one = inv.cover.whole d.source code to small viewed in
    let h = holder_there activity d.source code to (omega arith) in
    let outer = both_pass (same h.0.table d.source) (active_at to h.0 && in_range h.0.low h.0.high code) h.1.1 in
    let inner = both_pass (active_at to h.0) (in_range h.0.low h.0.high code) outer.1 in
    let here : In h.0 m.activity = elim (inv.remembered.each h.0 h.1.0) [
      | inl known ↦ known
      | inr gone ↦ absurd (
          let its : owner_of m.catalog.owners h.0.table ≡ Some ns = ap (owner_of m.catalog.owners) (same_equal h.0.table d.source outer.0) ∙ owner in
          let below : ended_by (floor_of m ns m.clock) h.0.to ≡ true = subst (λ o. ended_by (option_map_or (λ k. floor_of m k m.clock) o m.clock) h.0.to ≡ true) its gone.below in
          active_over h.0.to (floor_of m ns m.clock) h.0.from to below low_floor inner.0)
    ] in
    let some : 1 ≤ holders m.activity d.source code to = one_holder m.activity h.0 d.source code to here h.1.1 in
    let most : holders m.activity d.source code to ≤ 1 = le_trans (part_counts activity m.activity d.source code to inv.remembered.part) (inv.cover.once d.source code to small) in
    let exact : holders m.activity d.source code to ≡ 1 = omega arith in
    takers_are (sources m ns to) (free_slots m) m.drawn.tablets (tables_of m ns to) d code to may.enough
    (λ i listed. (source_then m ns to i listed).active)
    (λ i listed.
    let t = source_table ps activity changes ns s target to n i le may inv (source_then m ns to i listed) in
    let e = target_there ts m.drawn.tables t.0 t.1.0 in
    let goes : target_in (tables_of m ns to) i.table ≡ e.0.target = ap (target_in (tables_of m ns to)) (sym t.1.1) ∙ e.1.1.1 in
    let source : e.0.source ≡ i.table = e.1.1.0 ∙ t.1.1 in
    ap (λ k. same k d.target) goes
    ∙ either_way (same i.table d.source)
    (λ b. let is = one_source_of (tables_of m ns to) e.0 d apart e.1.0 isin (source ∙ same_equal i.table d.source b) in ap (λ k. same k.target d.target) is ∙ same_self d.target ∙ sym b)
    (λ b. either_way (same e.0.target d.target)
    (λ c. let is = one_target_of (tables_of m ns to) e.0 d apart e.1.0 isin (same_equal e.0.target d.target c) in absurd (true≢false (sym (ap (λ k. same k d.source) (sym source ∙ ap (λ k. k.source) is) ∙ same_self d.source) ∙ b)))
    (λ c. c ∙ sym b)))
    ∙ ordered_holders _ (tablets_active_at m.catalog.owners m.activity ns to) d.source code to
    ∙ filtered_holders (active_at to) (intervals_in m.catalog.owners m.activity ns) d.source code to
    (λ i held. (both_pass (active_at to i) (in_range i.low i.high code) (both_pass (same i.table d.source) (active_at to i && in_range i.low i.high code) held).1).0)
    ∙ filtered_holders (λ i. owns m.catalog.owners ns i.table) m.activity d.source code to
    (λ i held. ap (λ k. owns m.catalog.owners ns k) (same_equal i.table d.source (both_pass (same i.table d.source) (active_at to i && in_range i.low i.high code) held).0) ∙ ap (λ o. is_owned_by o ns) owner ∙ same_self ns)
    ∙ exact

-- The new record is good

new_good : (ps : Parts) (activity : List Interval) (changes : List Change) (ns : Id) (s : ℕ) (source target : List ℕ) (to n : ℕ) → ps.master.clock ≤ n → MayClone ps.master ns s target to n → Inv ps activity changes
    → CloneGood (adding (reserving ps.master n (owners_for ps.master ns to) (drawn_for ps.master ns to)) (new_clone ns source target to ps.master)) changes (new_clone ns source target to ps.master)
new_good ps activity changes ns s source target to n le may inv =
    let m = ps.master in
    let ts = tables_at m.catalog.tables ns to in
    let ds = tables_of m ns to in
    let next = next_namespace m in
    let ops = inv.operations in
    let tables = inv.master.tables in
    let apart = tables_pair_apart ts m.drawn.tables (tables_then_apart m.catalog.tables ns to tables.rise) in
    let free = all_free m in
    let taken : (p : TabletPair) → In p (tablets_of m ns to) → IsTaken m ns to p = λ p paired. is_taken ps activity changes ns s target to n p le may inv paired in
    let not_next : (k : Id) → k.number ≤ m.drawn.namespaces → k ≡ next → ⊥ = λ k l e. (let q : k.number ≡ m.drawn.namespaces + 1 = ap (λ i. i.number) e in omega arith) in
    let of_source : (d : IdPair) → In d ds → (t : TableRecord) × (In t m.catalog.tables × ((d.source ≡ t.id) × (t.namespace ≡ ns))) = λ d paired. (
    let r = table_pair ts m.drawn.tables d paired in
    let there = filter_in m.catalog.tables (λ r. holds_at to r.from r.to && same r.namespace ns) r.table (by_id_only _ r.table r.listed) in
    (r.table, (there.0, (r.source_is, same_equal r.table.namespace ns (both_pass (holds_at to r.table.from r.table.to) (same r.table.namespace ns) there.1).1)))) in
    let scheduled = low_found m.schedules ns n s may.scheduled in
    record {
      kind_is = refl;
      drawn = le_refl _;
      drawn_source = (let l = may.drawn in omega arith);
      drawn_target = le_refl _;
      apart = λ e. not_next ns may.drawn e;
      past = may.before;
      pairs = λ p paired. (let k = taken p paired in record {
        slot_from = rise_in (free_slots m) 1 p.slot free.rise k.of.isin;
        slot_to = free.to p.slot k.of.isin;
        drawn = k.of.by;
        drawn_table = k.by;
        owned = ap (owner_of (m.catalog.owners ++ owners_for m ns to)) (sym k.target_is)
            ∙ owner_made m.catalog.owners ds next k.pair k.paired (tables.owners_drawn k.pair.target (table_pair ts m.drawn.tables k.pair k.paired).above);
      });
      drawn_listed = λ l isin. absurd isin;
      one_slot = λ p q in_p in_q e. tablets_one_slot (sources m ns to) (free_slots m) m.drawn.tablets 1 ds p q free.rise in_p in_q e;
      one_target = λ p q in_p in_q e. tablets_one_target (sources m ns to) (free_slots m) m.drawn.tablets ds p q in_p in_q e;
      one_table = λ d e in_d in_e is. one_target_of ds d e apart in_d in_e is;
      tables_apart = apart;
      owned = λ d paired. (let t = of_source d paired in
          owners_first m.catalog.owners (owners_for m ns to) d.source ns (ap (owner_of m.catalog.owners) t.1.1.0 ∙ tables.owned t.0 t.1.0 ∙ ap Some t.1.1.1));
      drawn_sources = λ d paired. (let t = of_source d paired in let l = tables.drawn_before t.0 t.1.0 in let e : d.source.number ≡ t.0.id.number = ap (λ i. i.number) t.1.1.0 in omega arith);
      covers = λ d code paired small. covers_it ps activity changes ns s target to n d code le may inv paired small;
      scheduled = λ unfinished. scheduled;
      sources = λ unfinished p paired. (let k = taken p paired in record {
        interval = k.of.interval;
        kept = k.active.kept;
        tablet_is = sym k.of.source_is;
        slot_is = sym k.of.source_slot_is;
        low_is = sym k.of.low_is;
        high_is = sym k.of.high_is;
        active = k.active.active;
        owned = owners_first m.catalog.owners (owners_for m ns to) k.of.interval.table ns k.active.owned;
        pair = k.pair;
        paired = k.paired;
        source_is = k.source_is;
        target_is = k.target_is;
      });
      reserved = λ unseen p paired. (let k = taken p paired in record {
        free = λ i there at. free.vacant p.slot k.of.isin i there at;
        unknown = λ i there is. (let l = inv.remembered.drawn i (kept_all inv.remembered i there) in let a = k.of.above in let e : i.tablet.number ≡ p.target.number = ap (λ q. q.number) is in omega arith);
        no_snapshot = λ r l there lists is. (let b = (ops.snapshots r there).drawn_listed l lists in let a = k.of.above in let e : l.tablet.number ≡ p.target.number = ap (λ q. q.number) is in omega arith);
        no_restoration = λ r l there lists is. (let b = inv.master.listed r l there lists in let a = k.of.above in let e : l.tablet.number ≡ p.target.number = ap (λ q. q.number) is in omega arith);
      });
      no_tablet = λ unseen i there owner. (
          let was : owner_of m.catalog.owners i.table ≡ Some next = sym (owner_stays m (owners_for m ns to) (drawn_for m ns to) i.table (owners_new m ns to) (inv.remembered.drawn_table i (kept_all inv.remembered i there))) ∙ owner in
          not_next next (ops.owners i.table next was) refl);
      no_table = λ unseen r there is. not_next r.namespace (ops.owners r.id r.namespace (tables.owned r there)) is;
      no_namespace = λ unseen r there. (
        λ e. not_next r.id (inv.master.namespaces.drawn_before r there) e,
        λ opened e. (
            let found : namespace_named m.catalog.namespaces target ≡ Some r.id = ap (namespace_named m.catalog.namespaces) (sym e) ∙ inv.master.namespaces.unique r there opened in
            true≢false (sym (ap (λ o. is_some (option_or o (clone_named m.clones target))) found) ∙ may.unnamed)),
      );
      no_schedule = λ unseen k there is. not_next k.namespace (ops.schedules k there).drawn_namespace is;
      unfixed = λ unfinished x is. not_next next (inv.journal.fixed_drawn next x is) refl;
      in_state = refl;
    }

-- Floors

clone_kept : (cs : List CloneRecord) (c : CloneRecord) (ns : Id) (d : CloneRecord) → clone_with cs ns ≡ Some d → clone_with (cs ++ c ∷ []) ns ≡ Some d
clone_kept [] c ns d e = absurd (let q = e in grind arith)
clone_kept (x ∷ cs) c ns d e = either_way ((same x.target_id ns || same x.source ns) && not (is_cloned x.state)) (λ b. rw b (rw b at e)) (λ b. rw b (clone_kept cs c ns d (rw b at e)))

clone_last : (cs : List CloneRecord) (c : CloneRecord) (ns : Id) → clone_with cs ns ≡ None → clone_with (cs ++ c ∷ []) ns ≡ cond ((same c.target_id ns || same c.source ns) && not (is_cloned c.state)) (Some c) None
clone_last [] c ns e = refl
clone_last (x ∷ cs) c ns e = either_way ((same x.target_id ns || same x.source ns) && not (is_cloned x.state))
    (λ b. absurd (let k : Some x ≡ None = rw b at e in grind arith))
    (λ b. rw b (clone_last cs c ns (rw b at e)))

least_more : (s to n : ℕ) → s ≤ to → floor (Some s) None n ≤ floor (Some s) (Some to) n
least_more s to n le = omega arith

abbrev time_by : Master → Option CloneRecord → Id → Option ℕ
time_by m c ns = option_or (option_map (λ r. r.to) (restoration_of m.restorations ns)) (option_map (λ r. r.to) c)

new_floors : (ps : Parts) (activity : List Interval) (changes : List Change) (ns : Id) (s : ℕ) (source target : List ℕ) (to n : ℕ) → MayClone ps.master ns s target to n → Inv ps activity changes
    → FloorsRise (reserving ps.master n (owners_for ps.master ns to) (drawn_for ps.master ns to)) (adding (reserving ps.master n (owners_for ps.master ns to) (drawn_for ps.master ns to)) (new_clone ns source target to ps.master))
new_floors ps activity changes ns s source target to n may inv = λ id.
    let m = ps.master in
    let c = new_clone ns source target to m in
    let test = (same c.target_id id || same c.source id) && true in
    let least = least_low m.schedules id n in
    none_or_some (clone_with m.clones id)
    (λ none.
    let later = clone_last m.clones c id none in
    subst (λ d. floor least (time_by m (clone_with m.clones id) id) n ≤ floor least (time_by m d id) n) (sym later)
    (subst (λ d. floor least (time_by m d id) n ≤ floor least (time_by m (cond test (Some c) None) id) n) (sym none)
    (either_way test
    (λ b. subst (λ t. floor least (time_by m None id) n ≤ floor least (time_by m (cond t (Some c) None) id) n) (sym b)
    (elim (it_uses c id (both_pass (same c.target_id id || same c.source id) true b).0) [
      | inl is ↦ (
          let found : least ≡ Some s = ap (λ i. least_low m.schedules i n) (sym is) ∙ may.scheduled in
          let none_restores = not_restored m.restorations id (λ r there open_ of. may.free.restoration r there open_ (of ∙ sym is)) in
          subst (λ k. floor k (time_by m None id) n ≤ floor k (time_by m (Some c) id) n) (sym found)
          (subst (λ r. floor (Some s) (option_or (option_map {T = RestorationRecord} (λ q. q.to) r) None) n ≤ floor (Some s) (option_or (option_map {T = RestorationRecord} (λ q. q.to) r) (Some to)) n) (sym none_restores) (least_more s to n may.from)))
      | inr is ↦ (
          let gone : least ≡ None = no_lows m.schedules id n (λ k there of.
          let l = (inv.operations.schedules k there).drawn_namespace in let q : k.namespace.number ≡ m.drawn.namespaces + 1 = ap (λ i. i.number) (of ∙ sym is) in omega arith) in
          subst (λ k. floor k (time_by m None id) n ≤ floor k (time_by m (Some c) id) n) (sym gone) (le_refl _))
    ]))
    (λ b. subst (λ t. floor least (time_by m None id) n ≤ floor least (time_by m (cond t (Some c) None) id) n) (sym b) (le_refl _)))))
    (λ d some. subst (λ q. floor least (time_by m (clone_with m.clones id) id) n ≤ floor least (time_by m q id) n) (some ∙ sym (clone_kept m.clones c id d some)) (le_refl _))

-- The acceptance

new_adds : (ps : Parts) (activity : List Interval) (changes : List Change) (ns : Id) (s : ℕ) (source target : List ℕ) (to n : ℕ) → ps.master.clock ≤ n → MayClone ps.master ns s target to n → Inv ps activity changes
    → Adds (record { master = reserving ps.master n (owners_for ps.master ns to) (drawn_for ps.master ns to); tablet = ps.tablet }) activity changes (new_clone ns source target to ps.master)
new_adds ps activity changes ns s source target to n le may inv =
    let m = ps.master in
    let c = new_clone ns source target to m in
    let ops = inv.operations in
    let free = all_free m in
    let taken : (p : TabletPair) → In p (tablets_of m ns to) → IsTaken m ns to p = λ p paired. is_taken ps activity changes ns s target to n p le may inv paired in
    let not_next : (k : Id) → k.number ≤ m.drawn.namespaces → next_namespace m ≡ k → ⊥ = λ k l e. (let q : m.drawn.namespaces + 1 ≡ k.number = ap (λ i. i.number) e in omega arith) in
    let unreserved : (d : CloneRecord) (p q : TabletPair) → In d m.clones → is_cloned d.state ≡ false → In p d.tablets → In q (tablets_of m ns to) → p.slot ≡ q.slot → ⊥ = λ d p q isin unfinished in_p in_q e.
    true≢false (sym (target_reserved m.clones d p isin unfinished in_p) ∙ ap (is_reserved m.clones) e ∙ free.unreserved q.slot (taken q in_q).of.isin) in
    record {
      accepted = refl;
      empty = refl;
      other = λ d isin e. (let l = (ops.clones d isin).drawn in let q : d.id.number ≡ m.drawn.clones + 1 = ap (λ i. i.number) e in omega arith);
      unmarked = λ slot mark isin e. (let l : m.drawn.clones + 1 ≤ m.drawn.clones = subst (λ i. i.number ≤ drawn_of i.kind m.drawn) e ((inv.works slot).orders.marks mark isin).drawn in omega arith);
      floors = new_floors ps activity changes ns s source target to n may inv;
      unused = λ d k isin unfinished uses of. elim of [
        | inl is ↦ may.free.clone d isin unfinished (subst (Uses d) (sym is) uses)
        | inr is ↦ elim uses [ inl e ↦ not_next d.source (ops.clones d isin).drawn_source (is ∙ sym e) | inr e ↦ not_next d.target_id (ops.clones d isin).drawn_target (is ∙ sym e) ]
      ];
      unrestored = λ r isin unfinished of. elim of [
        | inl is ↦ may.free.restoration r isin unfinished (sym is)
        | inr is ↦ not_next r.namespace (ops.restorations r isin).drawn_namespace is
      ];
      slots_apart = unreserved;
      targets_apart = λ d p q isin in_p in_q e. (let l = ((ops.clones d isin).pairs p in_p).drawn in let a = (taken q in_q).of.above in let z : p.target.number ≡ q.target.number = ap (λ i. i.number) e in omega arith);
      names_apart = λ d isin unseen e. unreserved_name m.clones target (not_either (namespace_named m.catalog.namespaces target) (clone_named m.clones target) may.unnamed) d isin unseen (sym e);
      fresh = λ p i paired isin. (let k = taken p paired in (
        λ e. (let l = inv.remembered.drawn i isin in let a = k.of.above in let z : i.tablet.number ≡ p.target.number = ap (λ q. q.number) e in omega arith),
        λ e. (let l = inv.remembered.drawn_table i isin in let a = k.above in let z : i.table.number ≡ p.table.number = ap (λ q. q.number) e in omega arith),
      ));
      good = new_good ps activity changes ns s source target to n le may inv;
      vacant = λ slot. record {
        empty = λ p paired at. (
            let t = ps.tablet slot in
            let isin = (taken p paired).of.isin in
            either_way (is_empty t.presence) (λ b. b)
            (λ b. absurd (elim ((inv.works slot).obeyed.home b) as (λ _. ⊥) [
              | inl h ↦ free.vacant p.slot isin h.interval h.kept (h.slot_is ∙ sym at)
              | inr h ↦ unreserved h.clone h.pair p h.kept (ap is_cloned h.state_is) h.paired paired (h.slot_is ∙ sym at)
            ])));
      };
    }

pub begun_keeps : (ps : Parts) (activity : List Interval) (changes : List Change) (ns : Id) (s : ℕ) (source target : List ℕ) (to n : ℕ) → ps.master.clock ≤ n → MayClone ps.master ns s target to n → Inv ps activity changes
    → Inv (record { master = clone_begun ns source target to n ps.master; tablet = ps.tablet }) activity changes
begun_keeps ps activity changes ns s source target to n le may inv =
    let m = ps.master in
    let k = reserving m n (owners_for m ns to) (drawn_for m ns to) in
    adding_keeps (record { master = k; tablet = ps.tablet }) activity changes (new_clone ns source target to m) (new_adds ps activity changes ns s source target to n le may inv)
    (reserving_keeps ps activity changes n (owners_for m ns to) (drawn_for m ns to) le (owners_new m ns to) inv)
