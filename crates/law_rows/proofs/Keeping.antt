-- Counts, restarts, compactions and cutoffs keep what holds: they change no read.
use Rattle.std.proofs.Common.{ℕ, ◌≡◌, ◌≤◌, ◌+◌, max, List, [], ◌∷◌, length, inl, inr, Option, Some, None, Bool, true, false, cond, ◌&&◌, ◌||◌, refl, sym, ap, subst, ◌∙◌, arith, not, eqb, eqb-true, le_trans, le_refl, le_of_lt}
use Rattle.std.proofs.lemmas.Bool.Decides.{nat_tests}
use Rattle.model.specs.Cluster.{Id, same, In, has, in_range, kept, code_of, Listed, RestorationRecord, Restoring, is_restored, ScheduledNamespace, scheduled_in, Master, Parts, If, Restarts, owner_of, Interval}
use Rattle.law_store.proofs.Members.{keys_kept}
use Rattle.model.specs.Journal.{Change}
use Rattle.model.specs.Tablets.{is_empty, RaiseCutoff, Compact as CompactTablet, Restart as RestartTablet}
use Rattle.model.specs.Schedules.{complete_to}
use Rattle.model.specs.Acts.{Cutoff, Compact, Restart, Stats, Ok, CutoffAt, Compacted}
use Rattle.model.specs.Coordination.{restarted_master}
use Rattle.model.specs.Entries.{slots_of}
use Rattle.model.specs.RowActs.{stats, restart, compact, cutoff, table_in, scheduled_at, has_moved, allowed_of}
use Rattle.law_store.proofs.Compaction.{compaction, sorted_kept, below_kept}
use Rattle.law_store.proofs.Keys.{either_way}
use Rattle.law_invariants.specs.Invariant.{Inv, Later}
use Rattle.law_invariants.proofs.Ticking.{nothing_told, refused_keeps, by_checks, KeepsAll, below_later, master_before, master_ticked, slot_ticked, slots_ticked, tablet_before}
use Rattle.law_invariants.proofs.Frame.{master_marked, inbox_changed, one_told, rows_told, touched, tells}
use Rattle.law_invariants.proofs.Remembering.{remembered_on, floor_rises}
use Rattle.law_invariants.proofs.Operating.{Onward, operations_on}
use Rattle.std.specs.Option.{option_and_then}
use Rattle.law_store.proofs.Restoring.{kept_same}
use Rattle.law_invariants.specs.Operations.{RestoringGood, RestorationStateGood}
use Rattle.law_invariants.proofs.Finding.{same_equal, same_self}
use Rattle.std.proofs.lemmas.Bool.{true≢false}
use Rattle.law_invariants.proofs.Undoing.{same_rows, journal_on}
use Rattle.law_invariants.proofs.Ordering.{rows_same, orders_on, obeyed_on, orders_mild, orders_lost, obeyed_mild}
use Rattle.law_invariants.proofs.Working.{tables_drawn, all_listed, same_fixed, onward_ticked, work_later_if}
use Rattle.law_invariants.proofs.Hearing.{clocks_rise, rows_on}
use Rattle.law_invariants.proofs.Holding.{rewriting_keeps}
use Rattle.law_invariants.proofs.Told.{clock_before, has_it, has_second}

pub stats_keeps : (ps : Parts) (activity : List Interval) (changes : List Change) (n slot : ℕ) → Later (slots_of (Stats slot)) ps n → Inv ps activity changes → KeepsAll (Stats slot) n ps activity changes (stats slot n ps)
unfolding stats
stats_keeps ps activity changes n slot later inv = nothing_told (Stats slot) (stats slot n ps).reply n ps activity changes later inv

-- a touched slot from 1 on is a tablet's
pub one_touched : (slot : ℕ) → 1 ≤ slot → ((eqb slot slot || false) && not (eqb slot 0)) ≡ true
one_touched slot from = grind (arith, nat_tests)

pub compact_keeps : (ps : Parts) (activity : List Interval) (changes : List Change) (n slot : ℕ) → Later (slots_of (Compact slot)) ps n → 1 ≤ slot → Inv ps activity changes
    → KeepsAll (Compact slot) n ps activity changes (compact slot n ps)
unfolding compact
compact_keeps ps activity changes n slot later from inv =
    let t = ps.tablet slot in
    let h = inv.slots slot in
    let w = inv.works slot in
    let le : t.clock ≤ n = le_of_lt (clock_before (slot ∷ []) ps n slot later from (has_it slot [])) in
    by_checks (Compact slot) n ps activity changes (If (is_empty t.presence) (has_moved slot t) ∷ []) (tells slot CompactTablet (Compacted (length t.versions) (length (kept t.versions t.cutoff))))
    (λ why. refused_keeps (Compact slot) why n ps activity changes later inv refl)
    (λ passes. one_told (Compact slot) (Compacted (length t.versions) (length (kept t.versions t.cutoff))) slot CompactTablet n ps activity changes later (one_touched slot from) inv.master (λ i apart. inv.slots i)
    (rewriting_keeps ps.master n changes slot t (kept t.versions t.cutoff) t.cutoff le (le_refl _) (le_trans h.good.cutoff le) (sorted_kept t.versions t.cutoff h.good.sorted)
    (below_kept t.versions t.cutoff (n + 1) (below_later t.versions (t.clock + 1) (n + 1) (omega arith) h.good.below)) (keys_kept t.versions t.cutoff (λ key. in_range t.low t.high (code_of key)) h.good.keys) (λ key x cut. compaction t.versions key t.cutoff x h.good.sorted cut) h)
    inv.operations inv.journal (rows_told (Compact slot) (Compacted (length t.versions) (length (kept t.versions t.cutoff))) slot CompactTablet n ps changes later inv.rows_past) (λ i apart. inv.works i)
    (record {
      orders = orders_mild ps.master slot t n t.version (kept t.versions t.cutoff) t.cutoff le w.orders;
      obeyed = obeyed_mild ps.master changes slot t n t.version (kept t.versions t.cutoff) t.cutoff t.inbox le
          (inl (record { later = le_refl _; same_ = λ stamp e. kept_same t.versions stamp t.cutoff h.good.sorted e })) (λ r l point serving isin is lists at e. e) w.obeyed;
    })
    inv.remembered inv.cover)

second_touched : (slot : ℕ) → 1 ≤ slot → touched (Cutoff slot) slot ≡ true
second_touched slot from = grind (arith, nat_tests)

pub in_scheduled : (ks : List ScheduledNamespace) (ns : Id) (k : ScheduledNamespace) → scheduled_in ks ns ≡ Some k → In k ks
in_scheduled [] ns k e = absurd (let q = e in grind arith)
in_scheduled (x ∷ xs) ns k e = either_way (same x.namespace ns)
    (λ b. inl (let q : Some x ≡ Some k = rw b at e in let r : x ≡ k = cc in r))
    (λ b. inr (in_scheduled xs ns k (rw b at e)))

in_found : (ks : List ScheduledNamespace) (ns : Option Id) (k : ScheduledNamespace) → option_and_then (scheduled_in ks) ns ≡ Some k → In k ks
in_found ks None k e = absurd (let q = e in grind arith)
in_found ks (Some ns) k e = in_scheduled ks ns k e

-- the cutoff that an event may reach is not after its stamp
pub allowed_by : (found : Option ScheduledNamespace) (m : Master) (n : ℕ) → m.clock ≤ n → ((k : ScheduledNamespace) → found ≡ Some k → complete_to k + 1 ≤ m.clock) → allowed_of found n ≤ n
allowed_by None m n le h = omega arith
allowed_by (Some k) m n le h = le_trans (h k refl) le

-- a tablet that took back its rows keeps its cutoff: its namespace's last complete snapshot is the restoration's own

there_is : (is : List Interval) (v : Interval) (slot : ℕ) → In v is → v.slot ≡ slot → (i : Interval) × (In i is × ((i.slot ≡ slot) × (table_in is slot ≡ Some i.table)))
there_is [] v slot isin e = absurd isin
there_is (i ∷ is) v slot isin e = either_way (eqb i.slot slot)
    (λ b. (i, (inl refl, (eqb-true i.slot slot b, ap (λ q. cond q (Some i.table) (table_in is slot)) b))))
    (λ b. let rest = elim isin as (λ _. (j : Interval) × (In j is × ((j.slot ≡ slot) × (table_in is slot ≡ Some j.table)))) [
      | inl same_ ↦ absurd (let q : eqb i.slot slot ≡ true = ap (λ k. eqb k.slot slot) same_ ∙ (let s : eqb v.slot slot ≡ true = grind (arith, nat_tests) in s) in true≢false (sym q ∙ b))
      | inr more ↦ there_is is v slot more e
    ] in
    (rest.0, (inr rest.1.0, (rest.1.1.0, ap (λ q. cond q (Some i.table) (table_in is slot)) b ∙ rest.1.1.1))))

scheduled_there : (ks : List ScheduledNamespace) (ns : Id) (s : ScheduledNamespace) → In s ks → s.namespace ≡ ns → (k : ScheduledNamespace) × (In k ks × ((k.namespace ≡ ns) × (scheduled_in ks ns ≡ Some k)))
scheduled_there [] ns s isin e = absurd isin
scheduled_there (k ∷ ks) ns s isin e = either_way (same k.namespace ns)
    (λ b. (k, (inl refl, (same_equal k.namespace ns b, ap (λ q. cond q (Some k) (scheduled_in ks ns)) b))))
    (λ b. let rest = elim isin as (λ _. (j : ScheduledNamespace) × (In j ks × ((j.namespace ≡ ns) × (scheduled_in ks ns ≡ Some j)))) [
      | inl is ↦ absurd (let q : same k.namespace ns ≡ true = ap (λ j. same j.namespace ns) is ∙ ap (λ i. same i ns) e ∙ same_self ns in true≢false (sym q ∙ b))
      | inr more ↦ scheduled_there ks ns s more e
    ] in
    (rest.0, (inr rest.1.0, (rest.1.1.0, ap (λ q. cond q (Some k) (scheduled_in ks ns)) b ∙ rest.1.1.1))))

capped : (ps : Parts) (activity : List Interval) (changes : List Change) (n slot : ℕ) (r : RestorationRecord) (l : Listed) (point : ℕ) (serving : Id) → Inv ps activity changes → In r ps.master.restorations → r.state ≡ Restoring point serving
    → In l r.listed → l.slot ≡ slot → (ps.tablet slot).cutoff ≡ point → max (ps.tablet slot).cutoff (allowed_of (scheduled_at ps.master slot) n) ≡ point
capped ps activity changes n slot r l point serving inv isin is lists at e =
    let m = ps.master in
    let g = inv.operations.restorations r isin in
    let still : is_restored r.state ≡ false = ap is_restored is in
    let good : RestoringGood m changes r point serving = subst (λ state. RestorationStateGood state m changes r) is g.in_state in
    let v = g.known still l lists in
    let i = there_is m.activity v.interval slot v.kept (v.slot_is ∙ at) in
    let alike : i.0.table ≡ v.interval.table = sym ((inv.slots slot).each i.0 i.1.0 i.1.1.0).table_is ∙ ((inv.slots slot).each v.interval v.kept (v.slot_is ∙ at)).table_is in
    let owner : option_and_then (owner_of m.catalog.owners) (table_in m.activity slot) ≡ Some r.namespace =
    ap (option_and_then (owner_of m.catalog.owners)) (i.1.1.1 ∙ ap Some alike) ∙ inv.master.listed_of r l isin lists v.interval v.kept v.tablet_is in
    let s = g.scheduled still in
    let j = (inv.operations.schedules s.0 s.1.0).scheduled in
    let k = scheduled_there m.scheduled r.namespace j.0 j.1.0 (j.1.1.0 ∙ s.1.1.1) in
    let within : complete_to k.0 + 1 ≤ point = good.is_point.complete k.0 k.1.0 k.1.1.0 in
    let found : allowed_of (scheduled_at m slot) n ≡ complete_to k.0 + 1 = ap (λ o. allowed_of (option_and_then (scheduled_in m.scheduled) o) n) owner ∙ ap (λ o. allowed_of o n) k.1.1.1 in
    omega arith

pub cutoff_keeps : (ps : Parts) (activity : List Interval) (changes : List Change) (n slot : ℕ) → Later (slots_of (Cutoff slot)) ps n → 1 ≤ slot → Inv ps activity changes
    → KeepsAll (Cutoff slot) n ps activity changes (cutoff slot n ps)
unfolding cutoff
cutoff_keeps ps activity changes n slot later from inv =
    let t = ps.tablet slot in
    let h = inv.slots slot in
    let w = inv.works slot in
    let to = allowed_of (scheduled_at ps.master slot) n in
    let le : t.clock ≤ n = le_of_lt (clock_before (0 ∷ slot ∷ []) ps n slot later from (has_second slot)) in
    let within : to ≤ n = allowed_by (scheduled_at ps.master slot) ps.master n (master_before (0 ∷ slot ∷ []) ps n later refl) (λ s e. inv.master.complete s (in_found ps.master.scheduled _ s e)) in
    by_checks (Cutoff slot) n ps activity changes (If (is_empty t.presence) (has_moved slot t) ∷ []) (tells slot (RaiseCutoff to) (CutoffAt (max t.cutoff to)))
    (λ why. refused_keeps (Cutoff slot) why n ps activity changes later inv refl)
    (λ passes. one_told (Cutoff slot) (CutoffAt (max t.cutoff to)) slot (RaiseCutoff to) n ps activity changes later (second_touched slot from) inv.master (λ i apart. inv.slots i)
    (rewriting_keeps ps.master n changes slot t t.versions (max t.cutoff to) le (omega arith) (let c : t.cutoff ≤ n = le_trans h.good.cutoff le in omega arith) h.good.sorted
    (below_later t.versions (t.clock + 1) (n + 1) (omega arith) h.good.below) h.good.keys (λ key x cut. refl) h)
    inv.operations inv.journal (rows_told (Cutoff slot) (CutoffAt (max t.cutoff to)) slot (RaiseCutoff to) n ps changes later inv.rows_past) (λ i apart. inv.works i)
    (record {
      orders = orders_mild ps.master slot t n t.version t.versions (max t.cutoff to) le w.orders;
      obeyed = obeyed_mild ps.master changes slot t n t.version t.versions (max t.cutoff to) t.inbox le (inl (record { later = omega arith; same_ = λ stamp e. refl }))
          (λ r l point serving isin is lists at e. capped ps activity changes n slot r l point serving inv isin is lists at e) w.obeyed;
    })
    inv.remembered inv.cover)

restarted_onward : (ps : Parts) (activity : List Interval) (changes : List Change) (n : ℕ) → Later (slots_of (Restart 0)) ps n → Inv ps activity changes → Onward ps.master n ps.master.catalog ps.master.activity ps.master.drawn changes changes
restarted_onward ps activity changes n later inv = onward_ticked ps.master n changes changes (master_before (0 ∷ []) ps n later refl) (tables_drawn ps.master activity inv.remembered) (same_fixed changes)

master_lost : (ps : Parts) (activity : List Interval) (changes : List Change) (n : ℕ) → Later (slots_of (Restart 0)) ps n → Inv ps activity changes
    → KeepsAll (Restart 0) n ps activity changes (record { master = Restarts; tablets = []; reply = Ok [] })
master_lost ps activity changes n later inv = record {
  master = master_marked (record ps.master { clock = n }) [] changes (master_ticked ps.master n changes (master_before (0 ∷ []) ps n later refl) inv.master);
  slots = λ i. slot_ticked ps.master n changes i _ (master_before (0 ∷ []) ps n later refl)
      (slots_ticked ps.master n changes i (has (0 ∷ []) i && not (eqb i 0)) (ps.tablet i) (tablet_before (0 ∷ []) ps n i later) (inv.slots i));
  remembered = remembered_on ps.master (restarted_master n ps.master) activity
      (record { clock = master_before (0 ∷ []) ps n later refl; schedules = refl; restorations = refl; clones = refl }) refl refl (le_refl _) (le_refl _) inv.remembered;
  cover = inv.cover;
  operations = operations_on ps.master n ps.master.catalog ps.master.activity ps.master.drawn [] changes changes (restarted_onward ps activity changes n later inv)
      (λ ns. le_trans (inv.operations.kept ns) (floor_rises ps.master (restarted_master n ps.master) ns (record { clock = master_before (0 ∷ []) ps n later refl; schedules = refl; restorations = refl; clones = refl })))
      inv.operations.owners (λ mark none. absurd none) (all_listed ps.master changes inv.master) inv.operations;
  rows_past = rows_on ps.master n ps.master.catalog ps.master.activity ps.master.drawn [] changes changes ps.tablet _ (master_before (0 ∷ []) ps n later refl)
      (clocks_rise (Restart 0) (record { master = Restarts; tablets = []; reply = Ok [] }) n ps (λ slot e. tablet_before (0 ∷ []) ps n slot later e))
      (λ i isin. inl isin) (λ c table key op isin is. isin) inv.rows_past;
  journal = journal_on ps.master n ps.master.catalog ps.master.activity ps.master.drawn [] changes changes (same_rows changes) (λ ns to. refl) (le_refl _) (le_refl _) (λ table l. refl) inv.journal;
  works = λ i. (
      let m = ps.master in
      let o = restarted_onward ps activity changes n later inv in
      let w = work_later_if m n changes i (has (0 ∷ []) i && not (eqb i 0)) (ps.tablet i) (tablet_before (0 ∷ []) ps n i later) (inv.works i) in record {
        orders = orders_on m n m.catalog m.activity m.drawn [] changes changes i _ o w.orders;
        obeyed = obeyed_on m n m.catalog m.activity m.drawn [] changes changes i _ o (λ c serving at d key isin is paired. refl) inv.operations w.obeyed;
      });
}

restart_of : (ps : Parts) (activity : List Interval) (changes : List Change) (n slot : ℕ) (b : Bool) → eqb slot 0 ≡ b → Later (slots_of (Restart slot)) ps n → Inv ps activity changes
    → KeepsAll (Restart slot) n ps activity changes (cond b (record { master = Restarts; tablets = []; reply = Ok [] }) (tells slot RestartTablet (Ok [])))
restart_of ps activity changes n slot true e later inv =
    subst (λ s. Later (slots_of (Restart s)) ps n → KeepsAll (Restart s) n ps activity changes (record { master = Restarts; tablets = []; reply = Ok [] })) (sym (eqb-true slot 0 e)) (λ l. master_lost ps activity changes n l inv) later
restart_of ps activity changes n slot false e later inv =
    let from : 1 ≤ slot = grind (arith, nat_tests) in
    let le : (ps.tablet slot).clock ≤ n = le_of_lt (clock_before (slot ∷ []) ps n slot later from (has_it slot [])) in
    one_told (Restart slot) (Ok []) slot RestartTablet n ps activity changes later (one_touched slot from) inv.master (λ i apart. inv.slots i)
    (inbox_changed ps.master changes slot (ps.tablet slot) n [] le (inv.slots slot))
    inv.operations inv.journal (rows_told (Restart slot) (Ok []) slot RestartTablet n ps changes later inv.rows_past) (λ i apart. inv.works i)
    (record {
      orders = orders_lost ps.master slot (ps.tablet slot) n le (inv.works slot).orders;
      obeyed = (let t = ps.tablet slot in
          obeyed_mild ps.master changes slot t n t.version t.versions t.cutoff [] le (rows_same t) (λ r l point serving isin is lists at e. e) (inv.works slot).obeyed);
    })
    inv.remembered inv.cover

pub restart_keeps : (ps : Parts) (activity : List Interval) (changes : List Change) (n slot : ℕ) → Later (slots_of (Restart slot)) ps n → Inv ps activity changes
    → KeepsAll (Restart slot) n ps activity changes (restart slot n ps)
unfolding restart
restart_keeps ps activity changes n slot later inv = restart_of ps activity changes n slot (eqb slot 0) refl later inv
