-- The slots after a split: the parent is hidden, its children take its versions in their ranges, and the others are as they were.
use Rattle.std.proofs.Common.{ℕ, ◌≡◌, ◌≢◌, ◌≤◌, ◌<◌, ◌+◌, List, [], ◌∷◌, ◌++◌, Some, None, true, inl, inr, refl, sym, ap, subst, ◌∙◌, arith, leb, leb-true, le-leb, le_trans, le_refl, le_of_lt}
use Rattle.std.specs.Option.{is_some}
use Rattle.std.proofs.lemmas.Bool.{true≢false}
use Rattle.model.specs.Cluster.{Id, same, In, before_end, ended, ended_by, is_open, in_range, part_of, Interval, end_tablet, owner_of, Tablet, HiddenPart, HideSince, Child, effect, is_serving, Master}
use Rattle.model.specs.Journal.{Change, table_at}
use Rattle.model.specs.Stands.{awaited_in}
use Rattle.model.specs.Changed.{begins, next_tablet}
use Rattle.law_store.proofs.Choosing.{part_reads, sorted_part, below_part}
use Rattle.law_store.proofs.Members.{keys_part}
use Rattle.law_invariants.specs.Invariant.{OverBy, IsGood, SlotGood, MasterGood}
use Rattle.law_invariants.proofs.Working.{same_fixed}
use Rattle.law_invariants.proofs.Finding.{both_pass, passes_both, second_fails, not_passing, same_equal, same_self, in_append, in_first, in_second, in_mapped, map_in}
use Rattle.law_invariants.proofs.Ticking.{below_later, tablet_ticked}
use Rattle.law_invariants.proofs.Operating.{NotHeld}
use Rattle.law_invariants.proofs.Awaiting.{AwaitNone, calm_here, awaited_none, new_unlisted, new_awaits}
use Rattle.law_invariants.proofs.Covering.{ended_over, not_open, over_then, stamp_is}
use Rattle.law_invariants.proofs.Free.{AreFree, rise_in}
use Rattle.law_invariants.proofs.Quiet.{Carries, good_carried}
use Rattle.law_splits.proofs.Cutting.{cut, cut_end, cut_mine, cut_other, cut_earlier, cut_active, cut_past, stays_same}
use Rattle.law_splits.proofs.Counting.{low_child, high_child, both_children}

-- what stands before a tablet is split into two, which take two free slots
pub record IsSplit (m : Master) (n : ℕ) (p : Interval) (code a b : ℕ) : Type 0 where
  pub before : m.clock < n
  pub listed : In p m.activity
  pub opened : p.to ≡ None
  pub ranged : in_range p.low p.high code ≡ true
  pub narrow : p.low < code
  pub free : AreFree m 2 (a ∷ b ∷ [])
  pub calm : AwaitNone m p.table
  pub ns : Id
  pub owner : owner_of m.catalog.owners p.table ≡ Some ns
  pub unheld : NotHeld m ns

abbrev pub split_activity : Interval → ℕ → ℕ → ℕ → ℕ → Master → List Interval → List Interval
split_activity p code a b n m is = end_tablet p.tablet n is ++ both_children p code a b n m

abbrev pub split_master : Interval → ℕ → ℕ → ℕ → ℕ → Master → Master
split_master p code a b n m = record m { clock = n; activity = split_activity p code a b n m m.activity; drawn = record m.drawn { tablets = m.drawn.tablets + 2 } }

-- Members

-- what holds of the cut intervals and of both children holds of all
pub each_split : (P : Interval → Type 0) (p : Interval) (code a b n : ℕ) (m : Master) (is : List Interval) → ((i : Interval) → In i is → P (cut p.tablet n i)) → P (low_child p code a n m) → P (high_child p code b n m)
    → (j : Interval) → In j (split_activity p code a b n m is) → P j
each_split P p code a b n m is old low high j isin = elim (in_append (end_tablet p.tablet n is) (both_children p code a b n m) j isin) [
  | inl o ↦ in_mapped (cut p.tablet n) P is old j o
  | inr w ↦ (elim w as (λ _. P j) [
    | inl e ↦ subst P e low
    | inr v ↦ (elim v as (λ _. P j) [ inl e ↦ subst P e high | inr none ↦ absurd none ])
  ])
]

pub cut_in : (p : Interval) (code a b n : ℕ) (m : Master) (is : List Interval) (i : Interval) → In i is → In (cut p.tablet n i) (split_activity p code a b n m is)
cut_in p code a b n m is i isin = in_first (end_tablet p.tablet n is) (both_children p code a b n m) (cut p.tablet n i) (map_in (cut p.tablet n) is i isin)

-- a tablet that was drawn has its intervals where it had them
home_split : (m : Master) (n : ℕ) (p : Interval) (code a b slot : ℕ) (tablet : Id) → tablet.number ≤ m.drawn.tablets → ((i : Interval) → In i m.activity → i.tablet ≡ tablet → i.slot ≡ slot)
    → (j : Interval) → In j (split_activity p code a b n m m.activity) → j.tablet ≡ tablet → j.slot ≡ slot
home_split m n p code a b slot tablet drawn h = each_split (λ j. j.tablet ≡ tablet → j.slot ≡ slot) p code a b n m m.activity h
    (λ e. absurd (let q : m.drawn.tablets + 1 ≡ tablet.number = ap (λ k. k.number) e in omega arith))
    (λ e. absurd (let q : m.drawn.tablets + 2 ≡ tablet.number = ap (λ k. k.number) e in omega arith))

-- The parent

-- an interval in the parent's slot, under a hidden part
good_hidden : (m : Master) (n : ℕ) (changes : List Change) (p : Interval) (code a b : ℕ) (t : Tablet) (i : Interval) → IsSplit m n p code a b → t.clock < n → i.tablet ≡ p.tablet → awaited_in m.restorations t.tablet t.done ≡ None
    → IsGood m changes t i → IsGood (split_master p code a b n m) changes (record t { clock = n; presence = HiddenPart n }) (cut p.tablet n i)
good_hidden m n changes p code a b t i s early mine calm g =
    let end_ = cut_mine p.tablet n i mine in
    let closes : cut_end p.tablet n i ≡ None → ⊥ = λ opened. not_open n i.to (sym end_ ∙ opened) in
    record {
      past = cut_past p.tablet m.clock n i s.before g.past;
      over = subst (OverBy n i.from) (sym end_) (ended_over i.to i.from t.clock n (let l : i.from ≤ m.clock = g.past.begun in let k = s.before in omega arith) (le_of_lt early) g.over);
      drawn = le_trans g.drawn (omega arith);
      drawn_table = g.drawn_table;
      slot_from = g.slot_from;
      slot_to = g.slot_to;
      present = refl;
      tablet_is = g.tablet_is;
      table_is = g.table_is;
      low_is = g.low_is;
      high_is = g.high_is;
      viewed = λ x active. g.viewed x (cut_active p.tablet n x i active);
      waits = λ point waits. absurd (let q : None ≡ Some point = sym calm ∙ waits in grind arith);
      comes = λ r point kept awaits opened. absurd (closes opened);
      serves = λ opened. absurd (closes opened);
      hidden = λ at is came. ap (ended_by at) end_ ∙ subst (λ k. ended_by k (ended n i.to) ≡ true) (stamp_is n at is) (over_then n i.to i.from t.clock (le_of_lt early) g.over);
      stands = λ counted key x within from soon there. g.stands (second_fails (is_open i.to) (is_some (awaited_in m.restorations t.tablet t.done)) (ap is_some calm)) key x within from (cut_earlier p.tablet n x i soon) there;
      sets = λ f held key x within from by active. g.sets f held key x within from by (cut_active p.tablet n x i active);
    }

-- all intervals in the parent's slot are the parent's tablet's, and of its table
pub mine_here : (m : Master) (changes : List Change) (p : Interval) (t : Tablet) (i : Interval) → SlotGood m changes p.slot t → In p m.activity → In i m.activity → i.slot ≡ p.slot → (i.tablet ≡ p.tablet) × (i.table ≡ p.table)
mine_here m changes p t i h listed isin at = let g = h.each p listed refl in let q = h.each i isin at in (sym q.tablet_is ∙ g.tablet_is, sym q.table_is ∙ g.table_is)

-- a tablet in the parent's slot awaits no rows
pub calm_parent : (m : Master) (n : ℕ) (changes : List Change) (p : Interval) (code a b : ℕ) (t : Tablet) → IsSplit m n p code a b → SlotGood m changes p.slot t → awaited_in m.restorations t.tablet t.done ≡ None
calm_parent m n changes p code a b t s h = calm_here m p.table t p (h.each p s.listed refl).tablet_is s.listed s.calm (same_self p.table)

pub slot_parent : (m : Master) (n : ℕ) (changes : List Change) (p : Interval) (code a b : ℕ) (t : Tablet) → IsSplit m n p code a b → t.clock < n → SlotGood m changes p.slot t
    → SlotGood (split_master p code a b n m) changes p.slot (effect (HideSince n) n t)
slot_parent m n changes p code a b t s early h =
    let g = tablet_ticked m n changes p.slot t (le_of_lt early) h in
    let present = (h.each p s.listed refl).present in
    record {
      good = record { sorted = g.good.sorted; below = g.good.below; cutoff = g.good.cutoff; keys = g.good.keys; set_past = g.good.set_past; set_sorted = g.good.set_sorted; set_keys = g.good.set_keys };
      home = λ hidden. home_split m n p code a b p.slot t.tablet h.numbered (h.home present);
      numbered = le_trans h.numbered (omega arith);
      each = each_split (λ j. j.slot ≡ p.slot → IsGood (split_master p code a b n m) changes (effect (HideSince n) n t) j) p code a b n m m.activity
          (λ i isin at. good_hidden m n changes p code a b t i s early (mine_here m changes p t i h s.listed isin at).0 (calm_parent m n changes p code a b t s h) (h.each i isin at))
          (λ at. absurd (s.free.vacant a (inl refl) p s.listed (sym at)))
          (λ at. absurd (s.free.vacant b (inr (inl refl)) p s.listed (sym at)));
      opens = λ serving unfenced. absurd (true≢false (sym serving));
      shown = λ serving unfenced x from. absurd (true≢false (sym serving));
      later = λ ns to is serving unfenced owned. absurd (true≢false (sym serving));
    }

-- The children

-- one of the two, with the parent's part behind it
pub record IsChild (p : Interval) (a b n : ℕ) (code : ℕ) (m : Master) (slot place low high : ℕ) : Type 0 where
  pub drawn : place < 2
  pub isin : In slot (a ∷ b ∷ [])
  pub listed : In (begins slot (next_tablet m.drawn.tablets (place + 1)) p.table low high n) (both_children p code a b n m)
  pub within : (c : ℕ) → in_range low high c ≡ true → in_range p.low p.high c ≡ true
  -- it is the one in its slot, and the one with its number
  pub only : (j : Interval) → In j (both_children p code a b n m) → j.slot ≡ slot → j ≡ begins slot (next_tablet m.drawn.tablets (place + 1)) p.table low high n
  pub one : (j : Interval) → In j (both_children p code a b n m) → j.tablet.number ≡ m.drawn.tablets + (place + 1) → j.slot ≡ slot

good_child : (m : Master) (n : ℕ) (changes : List Change) (p : Interval) (code a b : ℕ) (t u : Tablet) (version slot place low high : ℕ) → IsSplit m n p code a b → IsChild p a b n code m slot place low high → MasterGood m changes
    → awaited_in m.restorations t.tablet t.done ≡ None → IsGood m changes t p
    → IsGood (split_master p code a b n m) changes (effect (Child (next_tablet m.drawn.tablets (place + 1)) p.table low high version (part_of low high t.versions) t.cutoff) n u) (begins slot (next_tablet m.drawn.tablets (place + 1)) p.table low high n)
good_child m n changes p code a b t u version slot place low high s w h calm g = record {
  past = record { begun = le_refl n; ended = tt };
  over = tt;
  drawn = (let l = w.drawn in omega arith);
  drawn_table = g.drawn_table;
  slot_from = rise_in (a ∷ b ∷ []) 1 slot s.free.rise w.isin;
  slot_to = s.free.to slot w.isin;
  present = refl;
  tablet_is = refl;
  table_is = refl;
  low_is = refl;
  high_is = refl;
  viewed = λ x active. g.viewed x (
      let from : n ≤ x = leb-true n x (both_pass (leb n x) true active).0 in
      passes_both (leb p.from x) (before_end x p.to) (le-leb p.from x (let l : p.from ≤ m.clock = g.past.begun in let k = s.before in omega arith)) (ap (before_end x) s.opened));
  waits = λ point waits. absurd (let q : None ≡ Some point = sym (new_awaits m changes place h) ∙ waits in grind arith);
  comes = λ r point kept awaits. absurd (
      let none = awaited_none r.state r (next_tablet m.drawn.tablets (place + 1)) [] (λ l lists. new_unlisted m changes place r l kept lists h) in
      let q : None ≡ Some point = sym none ∙ awaits in grind arith);
  serves = λ opened settled. refl;
  hidden = λ at hides. absurd (let q = hides in grind arith);
  stands = λ counted key x within from soon there. part_reads t.versions low high key x within
      ∙ g.stands (second_fails (is_open p.to) (is_some (awaited_in m.restorations t.tablet t.done)) (ap is_some calm)) key x (w.within _ within) from (ap (before_end x) s.opened) there;
  sets = λ f held. absurd held;
}

pub slot_child : (m : Master) (n : ℕ) (changes : List Change) (p : Interval) (code a b : ℕ) (t u : Tablet) (version slot place low high : ℕ) → IsSplit m n p code a b → IsChild p a b n code m slot place low high → MasterGood m changes
    → t.clock < n → t.fence ≡ None → ((j : Interval) → In j m.activity → j.tablet.number ≤ m.drawn.tablets) → SlotGood m changes p.slot t
    → SlotGood (split_master p code a b n m) changes slot (effect (Child (next_tablet m.drawn.tablets (place + 1)) p.table low high version (part_of low high t.versions) t.cutoff) n u)
slot_child m n changes p code a b t u version slot place low high s w h early unfenced drawn of =
    let g = of.each p s.listed refl in
    let calm = calm_parent m n changes p code a b t s of in
    let serves : is_serving t.presence ≡ true = g.serves s.opened calm in
    let made = both_children p code a b n m in
    let k = split_master p code a b n m in
    let part = effect (Child (next_tablet m.drawn.tablets (place + 1)) p.table low high version (part_of low high t.versions) t.cutoff) n u in
    record {
      good = record {
        sorted = sorted_part t.versions low high of.good.sorted;
        below = below_part t.versions low high (n + 1) (below_later t.versions (t.clock + 1) (n + 1) (omega (arith, early)) of.good.below);
        cutoff = le_trans of.good.cutoff (le_of_lt early);
        keys = keys_part t.versions low high;
        set_past = λ f held. absurd held;
        set_sorted = λ f held. absurd held;
        set_keys = λ f held. absurd held;
      };
      home = λ present j lists same_. elim (in_append (end_tablet p.tablet n m.activity) made j lists) [
        | inl old ↦ absurd (
            let l : j.tablet.number ≤ m.drawn.tablets = in_mapped (cut p.tablet n) (λ i. i.tablet.number ≤ m.drawn.tablets) m.activity drawn j old in
            let e : j.tablet.number ≡ m.drawn.tablets + (place + 1) = ap (λ q. q.number) same_ in omega arith)
        | inr new ↦ w.one j new (ap (λ q. q.number) same_)
      ];
      numbered = (let l = w.drawn in omega arith);
      each = λ j lists at. elim (in_append (end_tablet p.tablet n m.activity) made j lists) [
        | inl old ↦ absurd (in_mapped (cut p.tablet n) (λ i. i.slot ≡ slot → ⊥) m.activity (λ i isin there. s.free.vacant slot w.isin i isin there) j old at)
        | inr new ↦ subst (IsGood k changes part) (sym (w.only j new at)) (good_child m n changes p code a b t u version slot place low high s w h calm g)
      ];
      opens = λ serving free. record {
        interval = begins slot (next_tablet m.drawn.tablets (place + 1)) p.table low high n;
        listed = in_second (end_tablet p.tablet n m.activity) made _ w.listed;
        slot_is = refl;
        opened = refl;
        begun = le_refl n;
        settled = new_awaits m changes place h;
      };
      shown = λ serving free x from. ap (λ id. is_some (table_at changes x id)) (sym g.table_is) ∙ of.shown serves unfenced x from;
      later = λ owner to fixed serving free owned. le_trans (h.past owner to fixed) (le_of_lt s.before);
    }

-- The others

carries_split : (m : Master) (n : ℕ) (changes : List Change) (p : Interval) (code a b : ℕ) (i : Interval) → m.clock < n → Carries m (split_master p code a b n m) changes changes i
carries_split m n changes p code a b i before = record {
  same_ = same_fixed changes;
  clock = le_of_lt before;
  slots = refl;
  restorations = refl;
  drawn = omega arith;
  drawn_tables = le_refl _;
  viewed = λ x active is. is;
  shown = λ x is. is;
  rows = λ x key soon. refl;
}

pub slot_else : (m : Master) (n : ℕ) (changes : List Change) (p : Interval) (code a b : ℕ) (t : Tablet) (slot : ℕ) → IsSplit m n p code a b → slot ≢ a → slot ≢ b → ((i : Interval) → In i m.activity → i.slot ≡ slot → i.tablet ≡ p.tablet → ⊥) → SlotGood m changes slot t
    → SlotGood (split_master p code a b n m) changes slot t
slot_else m n changes p code a b t slot s not_a not_b apart h =
    let stays : (i : Interval) → In i m.activity → i.slot ≡ slot → cut p.tablet n i ≡ i = λ i isin at. stays_same p.tablet n i (cut_other p.tablet n i (not_passing (same i.tablet p.tablet) (λ e. apart i isin at (same_equal i.tablet p.tablet e)))) in
    record {
      good = h.good;
      home = λ present. home_split m n p code a b slot t.tablet h.numbered (h.home present);
      numbered = le_trans h.numbered (omega arith);
      each = each_split (λ j. j.slot ≡ slot → IsGood (split_master p code a b n m) changes t j) p code a b n m m.activity
          (λ i isin at. subst (IsGood (split_master p code a b n m) changes t) (sym (stays i isin at)) (good_carried m (split_master p code a b n m) changes changes t i (carries_split m n changes p code a b i s.before) (h.each i isin at)))
          (λ at. absurd (not_a (sym at)))
          (λ at. absurd (not_b (sym at)));
      opens = λ serving unfenced. (let o = h.opens serving unfenced in record {
        interval = o.interval;
        listed = subst (λ j. In j (split_activity p code a b n m m.activity)) (stays o.interval o.listed o.slot_is) (cut_in p code a b n m m.activity o.interval o.listed);
        slot_is = o.slot_is;
        opened = o.opened;
        begun = o.begun;
        settled = o.settled;
      });
      shown = h.shown;
      later = h.later;
    }
