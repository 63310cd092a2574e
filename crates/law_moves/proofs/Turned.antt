-- After the switch the tablets' parts stand for the journal, and the master keeps what holds.
use Rattle.std.proofs.Common.{ℕ, ◌≡◌, ◌≤◌, ◌<◌, List, map, Option, Some, None, Bool, true, false, cond, ◌&&◌, ◌||◌, ◌⊎◌, inl, inr, refl, sym, ap, subst, ◌∙◌, arith, eqb, eqb-true, leb, leb-true, ltb-true, le_trans, le_refl, le_of_lt}
use Rattle.std.specs.Option.{is_some}
use Rattle.std.proofs.lemmas.Bool.{true≢false}
use Rattle.std.proofs.lemmas.Bool.Decides.{nat_tests}
use Rattle.model.specs.Cluster.{RowOp, Id, same, In, ended, ended_by, is_open, before_end, Interval, active_at, owner_of, owns, Presence, HiddenPart, is_serving, FrozenSet, RestorationRecord, RestorationState, Fencing, Snapshotting, Switching, Restoring, Releasing, Restored, is_restored, point_of, Parts}
use Rattle.model.specs.Restored.{begun_at}
use Rattle.model.specs.Journal.{Change, NamespaceRestored, RowChanged, table_at, row_at}
use Rattle.model.specs.Stands.{awaited_in, awaited_of, before_restore}
use Rattle.model.specs.Right.{is_fixed}
use Rattle.law_store.proofs.Keys.{either_way}
use Rattle.law_invariants.specs.Operations.{is_switched, has_switched, IsSwitchedBy, AfterRowsOf, JournalGood}
use Rattle.law_invariants.specs.Orders.{IsBehind, RowsPast}
use Rattle.law_invariants.specs.Invariant.{is_marked, EndsBy, OverBy, TurnsAt, ComesFrom, IsGood, SlotGood, MasterGood, Inv, is_awaited, StandsIn, SetStands, IsPast}
use Rattle.law_invariants.proofs.Finding.{in_mapped, map_in, same_equal, same_self, both_pass, passes_both, first_fails, second_fails}
use Rattle.law_invariants.proofs.Names.{names_kept}
use Rattle.law_invariants.proofs.Undoing.{before_none, owned_is}
use Rattle.law_invariants.proofs.Working.{before_any}
use Rattle.law_invariants.proofs.Ticking.{past_later}
use Rattle.law_invariants.proofs.Listing.{one_place}
use Rattle.law_moves.proofs.Entering.{entering, entering_it, by_record, entered_points}
use Rattle.law_moves.proofs.Viewing.{Inside, restored_before, rows_before, table_back, table_other, row_back, row_other}
use Rattle.law_moves.proofs.Backing.{new_is, tables_switched}
use Rattle.law_moves.proofs.Switching.{IsSwitch, listed_then, activity_then, turned, after, back, good_yet, slot_yet, unswitched_yet, may_switch, other_namespace, is_mine, interval_is, ended_other, ended_mine, origin, other_stays, line_is, Holds, none_other, awaited_yet, awaited_mine, back_other, awaited_other, awaited_back, awaited_point}
use Rattle.law_invariants.proofs.Remembering.{kept_all}

-- The journal

pub fixed_is : (r : RestorationRecord) (point : ℕ) (changes : List Change) (ns : Id) (t : ℕ) → is_fixed (after r point changes) ns t ≡ true → ((ns ≡ r.namespace) × (t ≡ r.to)) ⊎ (is_fixed changes ns t ≡ true)
fixed_is r point changes ns t e = either_way (same r.namespace ns && eqb r.to t)
    (λ b. let k = both_pass (same r.namespace ns) (eqb r.to t) b in inl (sym (same_equal r.namespace ns k.0), sym (eqb-true r.to t k.1)))
    (λ b. inr (sym (ap (λ c. cond c true (is_fixed changes ns t)) b) ∙ e))

pub switched_is : (r : RestorationRecord) (point : ℕ) (changes : List Change) (ns : Id) (p : ℕ) → is_switched (after r point changes) ns p ≡ true → ((ns ≡ r.namespace) × (p ≡ point)) ⊎ (is_switched changes ns p ≡ true)
switched_is r point changes ns p e = either_way (same r.namespace ns && eqb point p)
    (λ b. let k = both_pass (same r.namespace ns) (eqb point p) b in inl (sym (same_equal r.namespace ns k.0), sym (eqb-true point p k.1)))
    (λ b. inr (sym (ap (λ c. c || is_switched changes ns p) b) ∙ e))

pub switched_on : (r : RestorationRecord) (point : ℕ) (changes : List Change) (ns : Id) (p : ℕ) → is_switched changes ns p ≡ true → is_switched (after r point changes) ns p ≡ true
switched_on r point changes ns p e = or_right (same r.namespace ns && eqb point p) (is_switched changes ns p) e
  where
    or_right : (a b : Bool) → b ≡ true → (a || b) ≡ true
    or_right true b e = refl
    or_right false b e = e

at_it : (ns : Id) (point : ℕ) → (same ns ns && eqb point point) ≡ true
at_it ns point = passes_both (same ns ns) (eqb point point) (same_self ns) (grind (arith, nat_tests))

pub switched_now : (r : RestorationRecord) (point : ℕ) (changes : List Change) → is_switched (after r point changes) r.namespace point ≡ true
switched_now r point changes = ap (λ c. c || is_switched changes r.namespace point) (at_it r.namespace point)

pub before_now : (r : RestorationRecord) (point : ℕ) (changes : List Change) → before_restore (after r point changes) r.namespace point (after r point changes) ≡ changes
before_now r point changes = ap (λ c. cond c changes (before_restore changes r.namespace point (after r point changes))) (at_it r.namespace point)

-- a restore at another point, or of another namespace, is passed by
pub before_other : (r : RestorationRecord) (point : ℕ) (changes : List Change) (ns : Id) (p : ℕ) → (same r.namespace ns && eqb point p) ≡ false
    → before_restore (after r point changes) ns p (after r point changes) ≡ before_restore changes ns p (after r point changes)
before_other r point changes ns p other = ap (λ c. cond c changes (before_restore changes ns p (after r point changes))) other

pub other_restore : (r : RestorationRecord) (point : ℕ) (ns : Id) (p : ℕ) → (ns ≡ r.namespace → ⊥) → (same r.namespace ns && eqb point p) ≡ false
other_restore r point ns p apart = first_fails (same r.namespace ns) (eqb point p) (either_way (same r.namespace ns) (λ b. absurd (apart (sym (same_equal r.namespace ns b)))) (λ b. b))

inside_yet : (ps : Parts) (activity : List Interval) (changes : List Change) → Inv ps activity changes → Inside ps.master.catalog.owners changes
inside_yet ps activity changes inv = inv.master.tables.inside

-- Intervals that end

ends_now : (to : Option ℕ) (from point n clock : ℕ) → from < point → point ≤ n → clock ≤ n → EndsBy clock from to → EndsBy n from (ended point to)
ends_now None from point n clock l p c e = (le_of_lt l, p)
ends_now (Some t) from point n clock l p c e = (e.0, le_trans e.1 c)

over_now : (to : Option ℕ) (from point clock : ℕ) → from < point → (to ≡ None → point ≤ clock) → OverBy clock from to → OverBy clock from (ended point to)
over_now None from point clock l past o = (l, past refl)
over_now (Some t) from point clock l past o = o

turns_now : (to : Option ℕ) (from point p : ℕ) → p ≡ point → ((e : ℕ) → to ≡ Some e → e ≤ point) → TurnsAt p from (ended point to)
turns_now None from point p e over = (let l : point ≤ p = omega (arith, e) in l)
turns_now (Some t) from point p e over = (let l = over t refl in let k : t ≤ p = omega (arith, e, l) in k)

ended_some : (to : Option ℕ) (point : ℕ) → ended point to ≡ None → ⊥
ended_some None point e = let q = e in grind arith
ended_some (Some t) point e = let q = e in grind arith

not_awaited : (to : Option ℕ) (point : ℕ) (a : Option ℕ) → is_awaited a (ended point to) ≡ false
not_awaited None point a = refl
not_awaited (Some t) point a = refl

before_it : (to : Option ℕ) (x point : ℕ) → ((e : ℕ) → to ≡ Some e → e ≤ point) → before_end x (ended point to) ≡ true → (x < point) × (before_end x to ≡ true)
before_it None x point over b = (ltb-true x point b, refl)
before_it (Some t) x point over b = (let l = ltb-true x t b in let k = over t refl in omega arith, b)

hidden_now : (to : Option ℕ) (point at : ℕ) → (to ≡ None → ⊥) → ((e : ℕ) → to ≡ Some e → ended_by at (Some e) ≡ true) → ended_by at (ended point to) ≡ true
hidden_now None point at never h = absurd (never refl)
hidden_now (Some t) point at never h = h t refl

some_closed : (to : Option ℕ) (e : ℕ) (a : Option ℕ) → to ≡ Some e → is_awaited a to ≡ false
some_closed to e a is = ap (is_awaited a) is

not_serving : (p : Presence) (at : ℕ) → p ≡ HiddenPart at → is_serving p ≡ true → ⊥
not_serving p at e s = true≢false (sym s ∙ ap is_serving e)

-- What an interval and its tablet stand for

ended_good : (ps : Parts) (activity : List Interval) (changes : List Change) (n : ℕ) (r : RestorationRecord) (point : ℕ) (serving_ : Id) (slot : ℕ) (i : Interval) → IsSwitch ps activity changes n r point serving_ → Holds ps slot i
    → owner_of ps.master.catalog.owners i.table ≡ Some r.namespace → IsGood (turned ps.master r point serving_ n) (after r point changes) (ps.tablet slot) (record i { to = ended point i.to })
ended_good ps activity changes n r point serving_ slot i s h owner =
    let m = ps.master in
    let t = ps.tablet slot in
    let g = (s.inv.slots slot).each i h.kept h.at in
    let good = good_yet ps activity changes n r point serving_ s in
    let none = awaited_yet ps activity changes n r point serving_ slot i s h owner in
    let from : i.from < point = good.before.begun i h.kept owner in
    let over : (e : ℕ) → i.to ≡ Some e → e ≤ point = λ e is. good.before.ended i e h.kept owner is in
    let settled : is_awaited (awaited_in m.restorations t.tablet t.done) i.to ≡ false = ap (λ a. is_awaited a i.to) none ∙ second_fails (is_open i.to) false refl in
    let begun : i.from ≤ n = le_trans g.past.begun (le_of_lt s.before) in
    let ended_now : EndsBy n i.from (ended point i.to) = ends_now i.to i.from point n m.clock from (le_trans good.begun (le_of_lt s.before)) (le_of_lt s.before) g.past.ended in
    let over_now : OverBy (ps.tablet slot).clock i.from (ended point i.to) = over_now i.to i.from point t.clock from (λ opened. (slot_yet ps activity changes n r point serving_ slot s).past i (record { kept = h.kept; opened = opened; owned = owner }) h.at) g.over in
    let viewed : (x : ℕ) → active_at x (record i { to = ended point i.to }) ≡ true → is_some (table_at (after r point changes) x i.table) ≡ true = λ x active. (
    let k = both_pass (leb i.from x) (before_end x (ended point i.to)) active in
    let b = before_it i.to x point over k.1 in
    ap is_some (restored_before point r.namespace r.to changes x i.table b.0) ∙ g.viewed x (passes_both (leb i.from x) (before_end x i.to) k.0 b.1)) in
    let waits_now : (point' : ℕ) → awaited_in ((map (entering r (Restoring point serving_) (listed_then ps.master r point serving_)) ps.master.restorations)) (ps.tablet slot).tablet (ps.tablet slot).done ≡ Some point' → TurnsAt point' i.from (ended point i.to) = λ p waits. turns_now i.to i.from point p (awaited_point _ point p (sym (awaited_mine ps activity changes n r point serving_ slot i s h owner) ∙ waits)) over in
    let comes : (r' : RestorationRecord) (point' : ℕ) → In r' ((map (entering r (Restoring point serving_) (listed_then ps.master r point serving_)) ps.master.restorations)) → awaited_of r'.state r' (ps.tablet slot).tablet (ps.tablet slot).done ≡ Some point' → (ended point i.to) ≡ None → ComesFrom (after r point changes) r'.namespace (record i { to = ended point i.to }) point' r'.to = λ q p there awaits opened. absurd (ended_some i.to point opened) in
    let serves : (ended point i.to) ≡ None → awaited_in ((map (entering r (Restoring point serving_) (listed_then ps.master r point serving_)) ps.master.restorations)) (ps.tablet slot).tablet (ps.tablet slot).done ≡ None → is_serving (ps.tablet slot).presence ≡ true = λ opened settled_. absurd (ended_some i.to point opened) in
    let hidden : (at : ℕ) → (ps.tablet slot).presence ≡ HiddenPart at → is_awaited (awaited_in ((map (entering r (Restoring point serving_) (listed_then ps.master r point serving_)) ps.master.restorations)) (ps.tablet slot).tablet (ps.tablet slot).done) (ended point i.to) ≡ false → ended_by at (ended point i.to) ≡ true = λ at out closed. hidden_now i.to point at (λ opened. not_serving t.presence at out (g.serves opened none)) (λ e is. ap (ended_by at) (sym is) ∙ g.hidden at out settled) in
    let stands : is_awaited (awaited_in ((map (entering r (Restoring point serving_) (listed_then ps.master r point serving_)) ps.master.restorations)) (ps.tablet slot).tablet (ps.tablet slot).done) (ended point i.to) ≡ false → StandsIn (ps.tablet slot) (after r point changes) (record i { to = ended point i.to }) = λ closed key x ranged cut before there. (
    let b = before_it i.to x point over before in
    g.stands settled key x ranged cut b.1 (ap is_some (sym (restored_before point r.namespace r.to changes x i.table b.0)) ∙ there) ∙ sym (rows_before point r.namespace r.to changes x i.table key b.0)) in
    let sets : (f : FrozenSet) → In f (ps.tablet slot).frozen → SetStands f (after r point changes) (record i { to = ended point i.to }) = λ f held key x ranged cut by active. (
    let k = both_pass (leb i.from x) (before_end x (ended point i.to)) active in
    let b = before_it i.to x point over k.1 in
    g.sets f held key x ranged cut by (passes_both (leb i.from x) (before_end x i.to) k.0 b.1) ∙ sym (rows_before point r.namespace r.to changes x i.table key b.0)) in
    assumption (begun, ended_now, over_now, viewed, waits_now, comes, serves, hidden, stands, sets)

begun_good : (ps : Parts) (activity : List Interval) (changes : List Change) (n : ℕ) (r : RestorationRecord) (point : ℕ) (serving_ : Id) (slot : ℕ) (i : Interval) → IsSwitch ps activity changes n r point serving_ → Holds ps slot i
    → owner_of ps.master.catalog.owners i.table ≡ Some r.namespace → active_at r.to i ≡ true → IsGood (turned ps.master r point serving_ n) (after r point changes) (ps.tablet slot) (begun_at point i)
begun_good ps activity changes n r point serving_ slot i s h owner active =
    let m = ps.master in
    let t = ps.tablet slot in
    let g = (s.inv.slots slot).each i h.kept h.at in
    let good = good_yet ps activity changes n r point serving_ s in
    let mine = is_mine m r.namespace i.table owner in
    let inside = inside_yet ps activity changes s.inv in
    let awaits = awaited_back ps activity changes n r point serving_ slot i s h owner active in
    let less = good.is_point.later in
    record {
      past = record { begun = le_trans good.begun (le_of_lt s.before); ended = tt };
      over = tt;
      drawn = g.drawn;
      drawn_table = g.drawn_table;
      slot_from = g.slot_from;
      slot_to = g.slot_to;
      present = g.present;
      tablet_is = g.tablet_is;
      table_is = g.table_is;
      low_is = g.low_is;
      high_is = g.high_is;
      viewed = λ x now. ap is_some (table_back m.catalog.owners changes r.namespace i.table point r.to x inside mine (leb-true point x (both_pass (leb point x) true now).0)) ∙ g.viewed r.to active;
      waits = λ p waits. (let q : Some point ≡ Some p = sym awaits ∙ waits in let e : point ≡ p = cc in e);
      comes = λ q p there found opened. in_mapped {A = RestorationRecord} {B = RestorationRecord} (entering r (Restoring point serving_) (listed_then m r point serving_))
          (λ q. awaited_of q.state q t.tablet t.done ≡ Some p → ComesFrom (after r point changes) q.namespace (begun_at point i) p q.to) m.restorations
          (λ x isin. by_record (λ x q. awaited_of q.state q t.tablet t.done ≡ Some p → ComesFrom (after r point changes) q.namespace (begun_at point i) p q.to) m r (Restoring point serving_) (listed_then m r point serving_) x s.inv.operations.apart.restoration_ids s.there isin
          (λ found. (
          let e : p ≡ point = here_point (any found) in
          subst (λ z. ComesFrom (after r point changes) r.namespace (begun_at point i) z r.to) (sym e) (record {
            switched = switched_now r point changes;
            rows = λ key x ranged l. row_back m.catalog.owners changes r.namespace i.table point r.to x key inside mine l ∙ sym (rows_before point r.namespace r.to changes r.to i.table key less);
            before = λ key ranged. ap (λ js. row_at js r.to i.table key) (before_now r point changes) ∙ sym (rows_before point r.namespace r.to changes r.to i.table key less);
          })))
          (λ b found. absurd (let z : None ≡ Some p = sym (none_other ps activity changes n r point serving_ slot i x s h owner isin b) ∙ found in grind arith))) q there found;
      serves = λ opened settled. absurd (let z : Some point ≡ None = sym awaits ∙ settled in grind arith);
      hidden = λ at out closed. absurd (true≢false (sym (ap (λ a. is_awaited a None) awaits) ∙ closed));
      stands = λ closed. absurd (true≢false (sym (ap (λ a. is_awaited a None) awaits) ∙ closed));
      sets = λ f held key x ranged cut by now. absurd (
          let k = (s.inv.works slot).orders.sets f held in
          let owned = ((s.inv.operations.snapshots k.snapshot k.kept).listed_of k.line i k.listed h.kept (sym g.tablet_is ∙ sym k.tablet_is)).0 in
          let q : Some k.snapshot.namespace ≡ Some r.namespace = sym owned ∙ owner in
          let l : k.snapshot.at < point = good.is_point.snapshots k.snapshot k.kept (let e : k.snapshot.namespace ≡ r.namespace = cc in e) in
          let at = k.at_is in
          let f_ : point ≤ x = leb-true point x (both_pass (leb point x) true now).0 in
          omega arith);
    }
  where
    any : {p : ℕ} → awaited_of (Restoring point serving_) (back ps.master r point serving_) (ps.tablet slot).tablet (ps.tablet slot).done ≡ Some p → awaited_of (Restoring point serving_) (back ps.master r point serving_) (ps.tablet slot).tablet (ps.tablet slot).done ≡ Some p
    any e = e

    here_point : {p : ℕ} → awaited_of (Restoring point serving_) (back ps.master r point serving_) (ps.tablet slot).tablet (ps.tablet slot).done ≡ Some p → p ≡ point
    here_point {p} e = awaited_point _ point p e

other_good : (ps : Parts) (activity : List Interval) (changes : List Change) (n : ℕ) (r : RestorationRecord) (point : ℕ) (serving_ : Id) (slot : ℕ) (i : Interval) → IsSwitch ps activity changes n r point serving_ → Holds ps slot i
    → owns ps.master.catalog.owners r.namespace i.table ≡ false → IsGood (turned ps.master r point serving_ n) (after r point changes) (ps.tablet slot) i
other_good ps activity changes n r point serving_ slot i s h other =
    let m = ps.master in
    let t = ps.tablet slot in
    let g = (s.inv.slots slot).each i h.kept h.at in
    let inside = inside_yet ps activity changes s.inv in
    let same_ = awaited_other ps activity changes n r point serving_ slot i s h other in
    let rows : (x : ℕ) (key : List ℕ) → row_at (after r point changes) x i.table key ≡ row_at changes x i.table key = λ x key. row_other m.catalog.owners changes r.namespace i.table point r.to x key inside other in
    let tables : (x : ℕ) → table_at (after r point changes) x i.table ≡ table_at changes x i.table = λ x. table_other m.catalog.owners changes r.namespace i.table point r.to x inside other in
    let past : IsPast n i.from i.to = past_later i.from m.clock n i.to (le_of_lt s.before) g.past in
    let viewed : (x : ℕ) → active_at x i ≡ true → is_some (table_at (after r point changes) x i.table) ≡ true = λ x active. ap is_some (tables x) ∙ g.viewed x active in
    let waits_now : (point' : ℕ) → awaited_in ((map (entering r (Restoring point serving_) (listed_then ps.master r point serving_)) ps.master.restorations)) (ps.tablet slot).tablet (ps.tablet slot).done ≡ Some point' → TurnsAt point' i.from i.to = λ p waits. g.waits p (sym same_ ∙ waits) in
    let comes : (r' : RestorationRecord) (point' : ℕ) → In r' ((map (entering r (Restoring point serving_) (listed_then ps.master r point serving_)) ps.master.restorations)) → awaited_of r'.state r' (ps.tablet slot).tablet (ps.tablet slot).done ≡ Some point' → i.to ≡ None → ComesFrom (after r point changes) r'.namespace i point' r'.to = λ q p there found opened. in_mapped {A = RestorationRecord} {B = RestorationRecord} (entering r (Restoring point serving_) (listed_then m r point serving_))
    (λ q. awaited_of q.state q t.tablet t.done ≡ Some p → ComesFrom (after r point changes) q.namespace i p q.to) m.restorations
    (λ x isin. by_record (λ x q. awaited_of q.state q t.tablet t.done ≡ Some p → ComesFrom (after r point changes) q.namespace i p q.to) m r (Restoring point serving_) (listed_then m r point serving_) x s.inv.operations.apart.restoration_ids s.there isin
    (λ found. absurd (let z : None ≡ Some p = sym (back_other ps activity changes n r point serving_ slot i s h other) ∙ found in grind arith))
    (λ b found. (
    let old = g.comes x p isin found opened in
    let apart : x.namespace ≡ r.namespace → ⊥ = λ e. other_namespace ps activity changes n r point serving_ x s isin b (awaiting x.state x p found) e in
    record {
      switched = switched_on r point changes x.namespace p old.switched;
      rows = λ key y ranged l. rows y key ∙ old.rows key y ranged l ∙ sym (rows x.to key);
      before = λ key ranged. ap (λ js. row_at js x.to i.table key) (before_other r point changes x.namespace p (other_restore r point x.namespace p apart) ∙ before_any changes x.namespace p (after r point changes) changes old.switched)
          ∙ old.before key ranged ∙ sym (rows x.to key);
    }))) q there found in
    let serves : i.to ≡ None → awaited_in ((map (entering r (Restoring point serving_) (listed_then ps.master r point serving_)) ps.master.restorations)) (ps.tablet slot).tablet (ps.tablet slot).done ≡ None → is_serving (ps.tablet slot).presence ≡ true = λ opened settled. g.serves opened (sym same_ ∙ settled) in
    let hidden : (at : ℕ) → (ps.tablet slot).presence ≡ HiddenPart at → is_awaited (awaited_in ((map (entering r (Restoring point serving_) (listed_then ps.master r point serving_)) ps.master.restorations)) (ps.tablet slot).tablet (ps.tablet slot).done) i.to ≡ false → ended_by at i.to ≡ true = λ at out closed. g.hidden at out (ap (λ a. is_awaited a i.to) (sym same_) ∙ closed) in
    let stands : is_awaited (awaited_in ((map (entering r (Restoring point serving_) (listed_then ps.master r point serving_)) ps.master.restorations)) (ps.tablet slot).tablet (ps.tablet slot).done) i.to ≡ false → StandsIn (ps.tablet slot) (after r point changes) i = λ closed key x ranged cut before there. g.stands (ap (λ a. is_awaited a i.to) (sym same_) ∙ closed) key x ranged cut before (ap is_some (sym (tables x)) ∙ there) ∙ sym (rows x key) in
    let sets : (f : FrozenSet) → In f (ps.tablet slot).frozen → SetStands f (after r point changes) i = λ f held key x ranged cut by active. g.sets f held key x ranged cut by active ∙ sym (rows x key) in
    assumption (past, viewed, waits_now, comes, serves, hidden, stands, sets)
  where
    awaiting : (state : RestorationState) (x : RestorationRecord) (p : ℕ) → awaited_of state x (ps.tablet slot).tablet (ps.tablet slot).done ≡ Some p → is_restored state ≡ false
    awaiting (Restoring at served) x p e = refl
    awaiting (Switching at served) x p e = refl
    awaiting Fencing x p e = refl
    awaiting (Snapshotting at own) x p e = refl
    awaiting (Releasing at served) x p e = refl
    awaiting (Restored at served) x p e = absurd (let q = e in grind arith)

serving_open : (ps : Parts) (activity : List Interval) (changes : List Change) (n : ℕ) (r : RestorationRecord) (point : ℕ) (serving_ : Id) (slot : ℕ) (i : Interval) → IsSwitch ps activity changes n r point serving_ → Holds ps slot i → i.to ≡ None → (ps.tablet slot).fence ≡ None
    → owns ps.master.catalog.owners r.namespace i.table ≡ false
serving_open ps activity changes n r point serving_ slot i s h opened unfenced = either_way (owns ps.master.catalog.owners r.namespace i.table)
    (λ b. absurd (
    let fenced = (slot_yet ps activity changes n r point serving_ slot s).fenced i (record { kept = h.kept; opened = opened; owned = owned_is (owner_of ps.master.catalog.owners i.table) r.namespace b }) h.at in
    let q : None ≡ Some r.id = sym unfenced ∙ fenced in grind arith))
    (λ b. b)

pub slot_turned : (ps : Parts) (activity : List Interval) (changes : List Change) (n : ℕ) (r : RestorationRecord) (point : ℕ) (serving_ : Id) (slot : ℕ) → IsSwitch ps activity changes n r point serving_
    → SlotGood (turned ps.master r point serving_ n) (after r point changes) slot (ps.tablet slot)
slot_turned ps activity changes n r point serving_ slot s =
    let m = ps.master in
    let t = ps.tablet slot in
    let h = s.inv.slots slot in
    let inside = inside_yet ps activity changes s.inv in
    let apart : is_serving t.presence ≡ true → t.fence ≡ None → owns m.catalog.owners r.namespace t.table ≡ false = λ serving unfenced. (
    let o = h.opens serving unfenced in
    let g = h.each o.interval o.listed o.slot_is in
    ap (owns m.catalog.owners r.namespace) g.table_is ∙ serving_open ps activity changes n r point serving_ slot o.interval s (record { kept = o.listed; at = o.slot_is }) o.opened unfenced) in
    record {
      good = h.good;
      home = λ present j isin is. (let k = origin m r point j isin in sym k.slot_is ∙ h.home present k.was k.kept (k.tablet_is ∙ is));
      numbered = h.numbered;
      each = λ j isin. interval_is (λ j. j.slot ≡ slot → IsGood (turned m r point serving_ n) (after r point changes) t j) m r point
          (λ i there at. either_way (owns m.catalog.owners r.namespace i.table)
          (λ b. subst (IsGood (turned m r point serving_ n) (after r point changes) t) (sym (ended_mine m r.namespace point i b))
          (ended_good ps activity changes n r point serving_ slot i s (record { kept = there; at = at }) (owned_is (owner_of m.catalog.owners i.table) r.namespace b)))
          (λ b. subst (IsGood (turned m r point serving_ n) (after r point changes) t) (sym (ended_other m r.namespace point i b)) (other_good ps activity changes n r point serving_ slot i s (record { kept = there; at = at }) b)))
          (λ i there owner active at. begun_good ps activity changes n r point serving_ slot i s (record { kept = there; at = at }) owner active) j isin;
      opens = λ serving unfenced. (
          let o = h.opens serving unfenced in
          let other = serving_open ps activity changes n r point serving_ slot o.interval s (record { kept = o.listed; at = o.slot_is }) o.opened unfenced in
          record {
            interval = o.interval;
            listed = other_stays m r point o.interval o.listed other;
            slot_is = o.slot_is;
            opened = o.opened;
            begun = o.begun;
            settled = awaited_other ps activity changes n r point serving_ slot o.interval s (record { kept = o.listed; at = o.slot_is }) other ∙ o.settled;
          });
      shown = λ serving unfenced x cut. ap is_some (table_other m.catalog.owners changes r.namespace t.table point r.to x inside (apart serving unfenced)) ∙ h.shown serving unfenced x cut;
      later = λ ns to fixed serving unfenced owner. elim (fixed_is r point changes ns to fixed) [
        | inl k ↦ absurd (true≢false (sym (is_mine m r.namespace t.table (owner ∙ ap Some k.0)) ∙ apart serving unfenced))
        | inr old ↦ h.later ns to old serving unfenced owner
      ];
    }

-- The master

pub master_turned : (ps : Parts) (activity : List Interval) (changes : List Change) (n : ℕ) (r : RestorationRecord) (point : ℕ) (serving_ : Id) → IsSwitch ps activity changes n r point serving_ → MasterGood (turned ps.master r point serving_ n) (after r point changes)
master_turned ps activity changes n r point serving_ s =
    let m = ps.master in
    let le = le_of_lt s.before in
    let good = good_yet ps activity changes n r point serving_ s in
    let one = s.inv.operations.apart.restoration_ids in
    record {
      namespaces = names_kept m.catalog.namespaces m.clock m.drawn.namespaces n m.drawn.namespaces (record { stamp = point; act = NamespaceRestored r.namespace r.to }) changes le (le_refl _) tt s.inv.master.namespaces;
      tables = tables_switched m.catalog m.clock m.drawn.tables n r.namespace point r.to changes le (may_switch ps activity changes n r point serving_ s) s.inv.master.tables;
      marks = record {
        namespaces = s.inv.master.marks.namespaces;
        tables = new_is (λ a. is_marked m.catalog.kept_from a.namespace ≡ true) m.catalog.tables r.namespace r.to point (λ t isin. s.inv.master.marks.tables t isin) (λ t isin held named. s.inv.master.marks.tables t isin);
      };
      past = λ ns to fixed. elim (fixed_is r point changes ns to fixed) [
        | inl k ↦ (let e = k.1 in let l = good.is_point.later in let b = good.begun in omega arith)
        | inr old ↦ le_trans (s.inv.master.past ns to old) le
      ];
      complete = λ t isin. le_trans (s.inv.master.complete t isin) le;
      listed = λ q l there. in_mapped {A = RestorationRecord} {B = RestorationRecord} (entering r (Restoring point serving_) (listed_then m r point serving_)) (λ q. In l q.listed → l.tablet.number ≤ m.drawn.tablets) m.restorations
          (λ x isin. by_record (λ x q. In l q.listed → l.tablet.number ≤ m.drawn.tablets) m r (Restoring point serving_) (listed_then m r point serving_) x one s.there isin
          (λ lists. (let k = line_is m r point serving_ l lists in
          let d = s.inv.remembered.drawn k.interval (kept_all s.inv.remembered k.interval k.kept) in let e : k.interval.tablet.number ≡ l.tablet.number = ap (λ z. z.tablet.number) k.is in omega arith))
          (λ b lists. s.inv.master.listed x l isin lists)) q there;
      listed_of = λ q l there. in_mapped {A = RestorationRecord} {B = RestorationRecord} (entering r (Restoring point serving_) (listed_then m r point serving_))
          (λ q. In l q.listed → (j : Interval) → In j (activity_then m r point) → j.tablet ≡ l.tablet → owner_of m.catalog.owners j.table ≡ Some q.namespace) m.restorations
          (λ x isin. by_record (λ x q. In l q.listed → (j : Interval) → In j (activity_then m r point) → j.tablet ≡ l.tablet → owner_of m.catalog.owners j.table ≡ Some q.namespace) m r (Restoring point serving_) (listed_then m r point serving_) x one s.there isin
          (λ lists j j_in e. (
          let k = line_is m r point serving_ l lists in
          let o = origin m r point j j_in in
          let p = one_place ps activity changes o.was k.interval s.inv o.kept k.kept (o.tablet_is ∙ e ∙ ap (λ z. z.tablet) (sym k.is)) in
          ap (owner_of m.catalog.owners) (sym o.table_is ∙ p.table_is) ∙ k.owned))
          (λ b lists j j_in e. (let o = origin m r point j j_in in ap (owner_of m.catalog.owners) (sym o.table_is) ∙ s.inv.master.listed_of x l isin lists o.was o.kept (o.tablet_is ∙ e)))) q there;
    }

-- Rows and restores of the journal

pub journal_turned : (ps : Parts) (activity : List Interval) (changes : List Change) (n : ℕ) (r : RestorationRecord) (point : ℕ) (serving_ : Id) → IsSwitch ps activity changes n r point serving_ → JournalGood (turned ps.master r point serving_ n) (after r point changes)
journal_turned ps activity changes n r point serving_ s =
    let m = ps.master in
    let f = entering r (Restoring point serving_) (listed_then m r point serving_) in
    let one = s.inv.operations.apart.restoration_ids in
    let h = s.inv.journal in
    let fresh = unswitched_yet ps activity changes n r point serving_ s in
    let no_row : (c : Change) (table : Id) (key : List ℕ) (op : RowOp) → In c (after r point changes) → c.act ≡ RowChanged table key op → In c changes = λ c table key op isin is. elim isin as (λ _. In c changes) [
      | inl e ↦ absurd (let q : NamespaceRestored r.namespace r.to ≡ RowChanged table key op = ap (λ z. z.act) e ∙ is in grind arith)
      | inr old ↦ old
    ] in
    record {
      fixed_drawn = λ ns to fixed. elim (fixed_is r point changes ns to fixed) [
        | inl k ↦ subst (λ i. i.number ≤ m.drawn.namespaces) (sym k.0) (s.inv.operations.restorations r s.there).drawn_namespace
        | inr old ↦ h.fixed_drawn ns to old
      ];
      drawn = λ c table key op isin is. h.drawn c table key op (no_row c table key op isin is) is;
      undone = λ q p there. in_mapped {A = RestorationRecord} {B = RestorationRecord} f (λ q. point_of q.state ≡ Some p → AfterRowsOf m.catalog.owners q.namespace p (after r point changes)) m.restorations
          (λ x isin. by_record (λ x q. point_of q.state ≡ Some p → AfterRowsOf m.catalog.owners q.namespace p (after r point changes)) m r (Restoring point serving_) (listed_then m r point serving_) x one s.there isin
          (λ at. (let e : point ≡ p = cc in
          subst (λ z. AfterRowsOf m.catalog.owners r.namespace z (after r point changes)) e
          (λ c table key op isin is owned. h.undone r point s.there (ap point_of s.is) c table key op
          (subst (In c) (sym (before_none changes r.namespace point changes fresh)) (subst (In c) (before_now r point changes) isin)) is owned)))
          (λ b at c table key op c_in is owned. (
          let apart : (same r.namespace x.namespace && eqb point p) ≡ false = either_way (same r.namespace x.namespace && eqb point p)
          (λ z. absurd (
          let k = both_pass (same r.namespace x.namespace) (eqb point p) z in
          let e : x ≡ r = h.one_point x r p isin s.there (sym (same_equal r.namespace x.namespace k.0)) at (ap point_of s.is ∙ ap Some (eqb-true point p k.1)) in
          true≢false (sym (ap (λ y. same y.id r.id) e ∙ same_self r.id) ∙ b)))
          (λ z. z) in
          let there : In c (before_restore changes x.namespace p (after r point changes)) = subst (In c) (before_other r point changes x.namespace p apart) c_in in
          either_way (is_switched changes x.namespace p)
          (λ z. h.undone x p isin at c table key op (subst (In c) (before_any changes x.namespace p (after r point changes) changes z) there) is owned)
          (λ z. h.undone x p isin at c table key op (subst (In c) (sym (before_none changes x.namespace p changes z)) (no_row c table key op (subst (In c) (before_none changes x.namespace p (after r point changes) z) there) is)) is owned)))) q there;
      restored = λ ns p switched. elim (switched_is r point changes ns p switched) [
        | inl k ↦ record {
          restoration = back m r point serving_;
          kept = subst (λ q. In q (map f m.restorations)) (entering_it r (Restoring point serving_) (listed_then m r point serving_)) (map_in {A = RestorationRecord} {B = RestorationRecord} f m.restorations r s.there);
          namespace_is = sym k.0;
          point_is = ap Some (sym k.1);
          switched = refl;
        }
        | inr old ↦ (let k = h.restored ns p old in
            by_record (λ x y. In y (map f m.restorations) → x.namespace ≡ ns → point_of x.state ≡ Some p → has_switched x.state ≡ true → IsSwitchedBy (map f m.restorations) ns p) m r (Restoring point serving_) (listed_then m r point serving_) k.restoration one s.there k.kept
            (λ there named at z. absurd (true≢false (sym z ∙ ap has_switched s.is)))
            (λ b there named at z. record { restoration = k.restoration; kept = there; namespace_is = named; point_is = at; switched = z })
            (map_in {A = RestorationRecord} {B = RestorationRecord} f m.restorations k.restoration k.kept) k.namespace_is k.point_is k.switched)
      ];
      one_point = entered_points m r (Restoring point serving_) (listed_then m r point serving_) one s.there h.one_point (λ q at isin e at_q at_r. h.one_point q r at isin s.there e at_q (ap point_of s.is ∙ at_r));
    }

pub rows_turned : (ps : Parts) (activity : List Interval) (changes : List Change) (n : ℕ) (r : RestorationRecord) (point : ℕ) (serving_ : Id) → IsSwitch ps activity changes n r point serving_ → RowsPast (turned ps.master r point serving_ n) ps.tablet (after r point changes)
rows_turned ps activity changes n r point serving_ s = λ c table key op isin is. (
    let m = ps.master in
    let good = good_yet ps activity changes n r point serving_ s in
    elim isin as (λ _. (c.stamp ≤ n) ⊎ IsBehind (turned m r point serving_ n) ps.tablet table c.stamp) [
      | inl e ↦ absurd (let q : NamespaceRestored r.namespace r.to ≡ RowChanged table key op = ap (λ z. z.act) e ∙ is in grind arith)
      | inr old ↦ elim (s.inv.rows_past c table key op old is) as (λ _. (c.stamp ≤ n) ⊎ IsBehind (turned m r point serving_ n) ps.tablet table c.stamp) [
        | inl past ↦ inl (le_trans past (le_of_lt s.before))
        | inr b ↦ either_way (owns m.catalog.owners r.namespace b.interval.table)
            (λ mine. inl (
            let fresh = unswitched_yet ps activity changes n r point serving_ s in
            let l = s.inv.journal.undone r point s.there (ap point_of s.is) c table key op (subst (In c) (sym (before_none changes r.namespace point changes fresh)) old) is (ap (owns m.catalog.owners r.namespace) (sym b.table_is) ∙ mine) in
            let z = good.begun in let w = s.before in omega arith))
            (λ other. inr (record {
              interval = b.interval;
              kept = other_stays m r point b.interval b.kept other;
              opened = b.opened;
              table_is = b.table_is;
              behind = b.behind;
              unacked = λ q l there. in_mapped {A = RestorationRecord} {B = RestorationRecord} (entering r (Restoring point serving_) (listed_then m r point serving_))
                  (λ q. q.state ≡ Fencing → In l q.listed → l.slot ≡ b.interval.slot → l.acked ≡ false) m.restorations
                  (λ x x_in. by_record (λ x q. q.state ≡ Fencing → In l q.listed → l.slot ≡ b.interval.slot → l.acked ≡ false) m r (Restoring point serving_) (listed_then m r point serving_) x s.inv.operations.apart.restoration_ids s.there x_in
                  (λ e. absurd (let q = e in grind arith)) (λ z e lists at. b.unacked x l x_in e lists at)) q there;
            }))
      ]
    ])
