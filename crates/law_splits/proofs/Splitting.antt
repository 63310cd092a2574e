-- A tablet is split: it is hidden, and its children take its versions in two free slots.
use Rattle.std.proofs.Common.{ℕ, ◌≡◌, ◌≢◌, ◌≤◌, ◌<◌, ◌+◌, List, [], ◌∷◌, length, take, Some, None, true, false, cond, ◌||◌, inl, inr, refl, sym, ap, subst, ◌∙◌, arith, eqb, leb, ltb, le_trans, le_refl, le_of_lt, leb-true, ltb-true, eqb-true}
use Rattle.std.specs.Prelude.{Ok}
use Rattle.std.specs.Option.{is_some, ok_or}
use Rattle.std.proofs.lemmas.Bool.{true≢false}
use Rattle.std.proofs.lemmas.Bool.Decides.{nat_tests}
use Rattle.model.specs.Cluster.{Id, In, has, same_slots, part_of, Interval, owner_of, Tablet, TabletAct, Told, HideSince, Child, act_for, effect, Master, Parts, SplitsTablet, checked}
use Rattle.model.specs.Journal.{Change as Made}
use Rattle.model.specs.Entries.{CommandAsked, slots_of}
use Rattle.model.specs.Acts.{Command, Split, Change, SlotsFull}
use Rattle.model.specs.Operations.{holder}
use Rattle.model.specs.Looks.{free_slots, Parent, found_parent, Family, family, found_family, slots_for, plan_of}
use Rattle.model.specs.Changes.{accepts, tell_children, split_checks, judge_split, splitting, split}
use Rattle.model.specs.Changed.{next_tablet}
use Rattle.model.specs.History.{told, outcome}
use Rattle.law_invariants.specs.Remembered.{activity_after}
use Rattle.law_invariants.specs.Invariant.{SlotGood, SlotWorks, Inv, Later}
use Rattle.law_invariants.proofs.Finding.{either_is, both_pass}
use Rattle.law_invariants.proofs.Ticking.{by_judgement, refused_keeps, KeepsAll, tablet_before}
use Rattle.law_invariants.proofs.Cataloguing.{table_is}
use Rattle.law_invariants.proofs.Judging.{and_found_is, checked_is, change_keeps}
use Rattle.law_invariants.proofs.Hearing.{clocks_rise, rows_on}
use Rattle.law_invariants.proofs.Undoing.{same_rows, journal_on}
use Rattle.law_invariants.proofs.Operating.{not_held, operations_on}
use Rattle.law_invariants.proofs.Ordering.{orders_on, obeyed_on, placed_works, hidden_works, not_fenced}
use Rattle.law_invariants.proofs.Working.{tables_drawn, all_listed}
use Rattle.law_invariants.proofs.Told.{slots_told, master_early, tablet_early, slots_equal}
use Rattle.law_invariants.proofs.Plans.{has_in}
use Rattle.law_invariants.proofs.Free.{AreFree, least_free}
use Rattle.law_invariants.proofs.Awaiting.{none_await}
use Rattle.law_invariants.proofs.Quiet.{marks_stay}
use Rattle.law_splits.proofs.Counting.{low_child, high_child, both_children, AllLike, split_covers}
use Rattle.law_splits.proofs.Parents.{parent_found, open_kept}
use Rattle.law_splits.proofs.Slots.{IsSplit, split_activity, split_master, slot_parent, mine_here, IsChild, slot_child, slot_else}
use Rattle.law_splits.proofs.Masters.{low_in, high_in, master_split_good, remembered_split, OfParent, onward_split, hears}
use Rattle.law_invariants.proofs.Remembering.{kept_all}

-- What the slots are told

-- the parts of a split are told this
abbrev pub split_told : Interval → ℕ → ℕ → ℕ → ℕ → ℕ → Master → Tablet → List Told
split_told p code a b version n m t = record { slot = p.slot; act = HideSince n } ∷ tell_children (both_children p code a b n m) version t

abbrev pub told_child : Id → Id → ℕ → ℕ → ℕ → Tablet → TabletAct
told_child tablet table low high version t = Child tablet table low high version (part_of low high t.versions) t.cutoff

-- what holds of the parent's slot, of the two children's, and of the others
slots_split : (P : ℕ → Tablet → Type 0) (command : Command) (code a b version n : ℕ) (ps : Parts) (p : Interval) (made : List Id) → 1 ≤ p.slot → 1 ≤ a → 1 ≤ b → p.slot ≢ a → p.slot ≢ b → a ≢ b
    → P p.slot (effect (HideSince n) n (ps.tablet p.slot))
    → P a (effect (told_child (next_tablet ps.master.drawn.tablets 1) p.table p.low code version (ps.tablet p.slot)) n (ps.tablet a))
    → P b (effect (told_child (next_tablet ps.master.drawn.tablets 2) p.table code p.high version (ps.tablet p.slot)) n (ps.tablet b))
    → ((i : ℕ) → i ≢ p.slot → i ≢ a → i ≢ b → P i (ps.tablet i))
    → (i : ℕ) → P i ((told (Change command (p.slot ∷ a ∷ b ∷ [])) (accepts (SplitsTablet p code a b) (split_told p code a b version n ps.master (ps.tablet p.slot)) made) n ps).tablet i)
slots_split P command code a b version n ps p made from_p from_a from_b p_a p_b a_b parent low high others =
    let slots = p.slot ∷ a ∷ b ∷ [] in
    let tablets = split_told p code a b version n ps.master (ps.tablet p.slot) in
    let at : (j : ℕ) → Type 0 = λ j. P j (effect (act_for tablets j) n (ps.tablet j)) in
    let self_p : eqb p.slot p.slot ≡ true = grind (arith, nat_tests) in
    let self_a : eqb a a ≡ true = grind (arith, nat_tests) in
    let self_b : eqb b b ≡ true = grind (arith, nat_tests) in
    let not_pa : eqb p.slot a ≡ false = grind (arith, nat_tests) in
    let not_pb : eqb p.slot b ≡ false = grind (arith, nat_tests) in
    let not_ab : eqb a b ≡ false = grind (arith, nat_tests) in
    let child_a = told_child (next_tablet ps.master.drawn.tablets 1) p.table p.low code version (ps.tablet p.slot) in
    let child_b = told_child (next_tablet ps.master.drawn.tablets 2) p.table code p.high version (ps.tablet p.slot) in
    let rest_a = act_for (record { slot = a; act = child_a } ∷ record { slot = b; act = child_b } ∷ []) in
    let rest_b = act_for (record { slot = b; act = child_b } ∷ []) in
    let told_p : act_for tablets p.slot ≡ HideSince n = ap (λ q. cond q (HideSince n) (rest_a p.slot)) self_p in
    let told_a : act_for tablets a ≡ child_a = ap (λ q. cond q (HideSince n) (rest_a a)) not_pa ∙ ap (λ q. cond q child_a (rest_b a)) self_a in
    let told_b : act_for tablets b ≡ child_b = ap (λ q. cond q (HideSince n) (rest_a b)) not_pb ∙ ap (λ q. cond q child_a (rest_b b)) not_ab ∙ ap (λ q. cond q child_b (act_for [] b)) self_b in
    let at_p : at p.slot = subst (λ x. P p.slot (effect x n (ps.tablet p.slot))) (sym told_p) parent in
    let at_a : at a = subst (λ x. P a (effect x n (ps.tablet a))) (sym told_a) low in
    let at_b : at b = subst (λ x. P b (effect x n (ps.tablet b))) (sym told_b) high in
    slots_told P command slots (SplitsTablet p code a b) tablets made n ps
    (λ i is positive. either_is (eqb p.slot i) (eqb a i || (eqb b i || false)) is
    (λ e. subst at (eqb-true p.slot i e) at_p)
    (λ more. either_is (eqb a i) (eqb b i || false) more
    (λ e. subst at (eqb-true a i e) at_a)
    (λ last. either_is (eqb b i) false last
    (λ e. subst at (eqb-true b i e) at_b)
    (λ none. absurd (true≢false (sym none))))))
    (λ i aside. others i (beside slots i p.slot (inl refl) from_p aside) (beside slots i a (inr (inl refl)) from_a aside) (beside slots i b (inr (inr (inl refl))) from_b aside))
  where
    beside : (slots : List ℕ) (i j : ℕ) → In j slots → 1 ≤ j → (eqb i 0 ≡ false → has slots i ≡ false) → i ≢ j
    beside slots i j isin from aside = λ e. (let apart : eqb i 0 ≡ false = grind (arith, nat_tests) in true≢false (sym (has_in slots j isin) ∙ ap (has slots) (sym e) ∙ aside apart))

-- The children

low_is : (p : Interval) (code a b n : ℕ) (m : Master) → code < p.high → a < b → IsChild p a b n code m a 0 p.low code
low_is p code a b n m high apart = record {
  drawn = omega arith;
  isin = inl refl;
  listed = inl refl;
  within = λ c is. grind (arith, nat_tests);
  only = λ j isin at. elim isin as (λ _. j ≡ low_child p code a n m) [
    | inl e ↦ sym e
    | inr more ↦ (elim more as (λ _. j ≡ low_child p code a n m) [ inl e ↦ absurd (let q : b ≡ j.slot = ap (λ k. k.slot) e in omega arith) | inr none ↦ absurd none ])
  ];
  one = λ j isin number. elim isin as (λ _. j.slot ≡ a) [
    | inl e ↦ sym (ap (λ k. k.slot) e)
    | inr more ↦ (elim more as (λ _. j.slot ≡ a) [ inl e ↦ absurd (let q : m.drawn.tablets + 2 ≡ j.tablet.number = ap (λ k. k.tablet.number) e in omega arith) | inr none ↦ absurd none ])
  ];
}

high_is : (p : Interval) (code a b n : ℕ) (m : Master) → p.low ≤ code → a < b → IsChild p a b n code m b 1 code p.high
high_is p code a b n m low apart = record {
  drawn = omega arith;
  isin = inr (inl refl);
  listed = inr (inl refl);
  within = λ c is. grind (arith, nat_tests);
  only = λ j isin at. elim isin as (λ _. j ≡ high_child p code b n m) [
    | inl e ↦ absurd (let q : a ≡ j.slot = ap (λ k. k.slot) e in omega arith)
    | inr more ↦ (elim more as (λ _. j ≡ high_child p code b n m) [ inl e ↦ sym e | inr none ↦ absurd none ])
  ];
  one = λ j isin number. elim isin as (λ _. j.slot ≡ b) [
    | inl e ↦ absurd (let q : m.drawn.tablets + 1 ≡ j.tablet.number = ap (λ k. k.tablet.number) e in omega arith)
    | inr more ↦ (elim more as (λ _. j.slot ≡ b) [ inl e ↦ sym (ap (λ k. k.slot) e) | inr none ↦ absurd none ])
  ];
}

-- The command

-- a tablet's intervals are in its slot, and of its table
of_parent : (ps : Parts) (activity : List Interval) (changes : List Made) (p : Interval) → Inv ps activity changes → In p ps.master.activity → OfParent ps.master p
of_parent ps activity changes p inv listed = λ i isin e.
    let h = inv.slots p.slot in
    let g = h.each p listed refl in
    let at : i.slot ≡ p.slot = h.home g.present i isin (e ∙ sym g.tablet_is) in
    (at, (mine_here ps.master changes p (ps.tablet p.slot) i h listed isin at).1)

-- the open intervals of the parent's tablet have its place
like_parent : (ps : Parts) (activity : List Interval) (changes : List Made) (p : Interval) (n : ℕ) → Inv ps activity changes → ps.master.clock < n → In p ps.master.activity → AllLike activity p n
like_parent ps activity changes p n inv before listed = λ i isin e opened.
    let kept = open_kept ps.master activity i inv.remembered isin opened in
    let at = (of_parent ps activity changes p inv listed i kept e).0 in
    let h = inv.slots p.slot in
    let g = h.each p listed refl in
    let q = h.each i kept at in record {
      table_is = sym q.table_is ∙ g.table_is;
      low_is = sym q.low_is ∙ g.low_is;
      high_is = sym q.high_is ∙ g.high_is;
      begun = (let l : i.from ≤ ps.master.clock = q.past.begun in omega arith);
    }

-- the parts after it
split_inv : (ps : Parts) (activity : List Interval) (changes : List Made) (n : ℕ) (command : Command) (code a b version : ℕ) (p : Interval) (made : List Id) → code < 65536 → Later (0 ∷ p.slot ∷ a ∷ b ∷ []) ps n
    → IsSplit ps.master n p code a b → Inv ps activity changes
    → Inv (told (Change command (p.slot ∷ a ∷ b ∷ [])) (accepts (SplitsTablet p code a b) (split_told p code a b version n ps.master (ps.tablet p.slot)) made) n ps)
    (activity_after (Change command (p.slot ∷ a ∷ b ∷ [])) (accepts (SplitsTablet p code a b) (split_told p code a b version n ps.master (ps.tablet p.slot)) made) n ps activity) changes
split_inv ps activity changes n command code a b version p made below later s inv =
    let m = ps.master in
    let slots = p.slot ∷ a ∷ b ∷ [] in
    let o = accepts (SplitsTablet p code a b) (split_told p code a b version n m (ps.tablet p.slot)) made in
    let after = (told (Change command slots) o n ps).tablet in
    let more = split_activity p code a b n m m.activity in
    let drawn = record m.drawn { tablets = m.drawn.tablets + 2 } in
    let mine = of_parent ps activity changes p inv s.listed in
    let w = onward_split m n changes p code a b s (tables_drawn m activity inv.remembered) mine in
    let t = ps.tablet p.slot in
    let h = inv.slots p.slot in
    let g = h.each p s.listed refl in
    let range = both_pass (leb p.low code) (ltb code p.high) s.ranged in
    let low : p.low ≤ code = leb-true p.low code range.0 in
    let high : code < p.high = ltb-true code p.high range.1 in
    let rise_a : 1 ≤ a = s.free.rise.0 in
    let rise_b : a + 1 ≤ b = s.free.rise.1.0 in
    let a_b : a < b = omega (arith, rise_b) in
    let p_a : p.slot ≢ a = λ e. s.free.vacant a (inl refl) p s.listed e in
    let p_b : p.slot ≢ b = λ e. s.free.vacant b (inr (inl refl)) p s.listed e in
    let apart : a ≢ b = λ e. absurd (omega (arith, a_b, e)) in
    let from_p : 1 ≤ p.slot = g.slot_from in
    let zero : eqb p.slot 0 ≡ false = grind (arith, nat_tests) in
    let self : has slots p.slot ≡ true = has_in slots p.slot (inl refl) in
    let early : t.clock < n = tablet_early slots ps n p.slot later self zero in
    let owner : owner_of m.catalog.owners t.table ≡ Some s.ns = ap (owner_of m.catalog.owners) g.table_is ∙ s.owner in
    let free : t.fence ≡ None = not_fenced m p.slot t s.ns (inv.works p.slot).orders owner s.unheld in
    let known : (j : Interval) → In j m.activity → j.tablet.number ≤ m.drawn.tablets = λ j listed. ((inv.slots j.slot).each j listed refl).drawn in
    let child_a = low_is p code a b n m high a_b in
    let child_b = high_is p code a b n m low a_b in
    let new_a = effect (told_child (next_tablet m.drawn.tablets 1) p.table p.low code version t) n (ps.tablet a) in
    let new_b = effect (told_child (next_tablet m.drawn.tablets 2) p.table code p.high version t) n (ps.tablet b) in
    let works_on : (i : ℕ) (u : Tablet) → SlotWorks m changes i u → SlotWorks (split_master p code a b n m) changes i u = λ i u q. record {
      orders = orders_on m n m.catalog more drawn m.sent changes changes i u w q.orders;
      obeyed = obeyed_on m n m.catalog more drawn m.sent changes changes i u w (λ c serving at d key isin is paired. refl) inv.operations q.obeyed;
    } in
    record {
      master = master_split_good m n changes p code a b s inv.master;
      remembered = remembered_split m n changes activity p code a b s inv.operations inv.remembered;
      cover = split_covers activity changes p code a b n m below (kept_all inv.remembered p s.listed) s.opened s.ranged s.narrow (like_parent ps activity changes p n inv s.before s.listed) inv.cover;
      operations = operations_on m n m.catalog more drawn m.sent changes changes w (λ ns. marks_stay m n m.catalog more drawn changes ns (le_of_lt s.before) inv.operations) inv.operations.owners (λ mark isin. isin) (all_listed m changes inv.master) inv.operations;
      journal = journal_on m n m.catalog more drawn m.sent changes changes (same_rows changes) w.fixed (le_refl _) (le_refl _) w.owners inv.journal;
      rows_past = rows_on m n m.catalog more drawn m.sent changes changes ps.tablet after (le_of_lt s.before) (clocks_rise (Change command slots) o n ps (λ slot e. tablet_before (0 ∷ slots) ps n slot later e))
          (λ i isin. hears m n p code a b (ps.tablet i.slot).clock i (λ e. subst (λ j. (ps.tablet j).clock ≤ n) (sym (mine i isin e).0) (le_of_lt early)) isin) (λ c table_ key op isin is. isin) inv.rows_past;
      works = slots_split (SlotWorks (split_master p code a b n m) changes) command code a b version n ps p made from_p rise_a (le_trans rise_a (le_of_lt a_b)) p_a p_b apart
          (works_on p.slot (effect (HideSince n) n t)
          (hidden_works m changes p.slot t n s.ns p (le_of_lt early) g.present inv.operations (all_listed m changes inv.master) s.unheld s.listed refl
          (λ i isin at. ap (owner_of m.catalog.owners) (mine_here m changes p t i h s.listed isin at).1 ∙ s.owner) (inv.works p.slot)))
          (placed_works m n m.catalog more drawn m.sent changes changes a new_a (low_child p code a n m) w inv.operations
          (record { vacant = λ i isin at. s.free.vacant a (inl refl) i isin at; unreserved = s.free.unreserved a (inl refl) }) (low_in p code a b n m m.activity) refl refl (omega arith) g.drawn_table)
          (placed_works m n m.catalog more drawn m.sent changes changes b new_b (high_child p code b n m) w inv.operations
          (record { vacant = λ i isin at. s.free.vacant b (inr (inl refl)) i isin at; unreserved = s.free.unreserved b (inr (inl refl)) }) (high_in p code a b n m m.activity) refl refl (omega arith) g.drawn_table)
          (λ i not_p not_a not_b. works_on i (ps.tablet i) (inv.works i));
      slots = slots_split (SlotGood (split_master p code a b n m) changes) command code a b version n ps p made from_p rise_a (le_trans rise_a (le_of_lt a_b)) p_a p_b apart
          (slot_parent m n changes p code a b t s early h)
          (slot_child m n changes p code a b t (ps.tablet a) version a 0 p.low code s child_a inv.master early free known h)
          (slot_child m n changes p code a b t (ps.tablet b) version b 1 code p.high s child_b inv.master early free known h)
          (λ i not_p not_a not_b. slot_else m n changes p code a b (ps.tablet i) i s not_a not_b (λ v isin at e. not_p (sym at ∙ (mine v isin e).0)) (inv.slots i));
    }

-- what a split was found to be

pub family_is : (p : Parent) (free : List ℕ) (f : Family) → family p free ≡ Some f → (f.parent ≡ p) × (take 2 free ≡ f.low_slot ∷ f.high_slot ∷ [])
family_is p (low ∷ high ∷ free) f e =
    let one : Family = record { parent = p; low_slot = low; high_slot = high } in
    let is : one ≡ f = cc in
    (ap (λ k. k.parent) (sym is), ap (λ k. k.low_slot ∷ k.high_slot ∷ []) is)
family_is p _ f e = cc

pub two_long : (free : List ℕ) (a b : ℕ) → take 2 free ≡ a ∷ b ∷ [] → 2 ≤ length free
two_long (x ∷ y ∷ free) a b e = omega arith
two_long _ a b e = cc

planned_family : (m : Master) (namespace table : List ℕ) (code : ℕ) (p : Parent) (f : Family) → found_parent m namespace table code ≡ Ok p → family p (free_slots m) ≡ Some f
    → plan_of (Split namespace table code) m ≡ f.parent.tablet.slot ∷ f.low_slot ∷ f.high_slot ∷ []
unfolding plan_of
planned_family m namespace table code p f there is =
    ap (λ j. slots_for (found_family j m) (λ f. f.parent.tablet.slot ∷ f.low_slot ∷ f.high_slot ∷ [])) there
    ∙ ap (λ o. slots_for (ok_or o (SlotsFull (length (free_slots m)) 2)) (λ f. f.parent.tablet.slot ∷ f.low_slot ∷ f.high_slot ∷ [])) is

split_keeps : (ps : Parts) (activity : List Interval) (changes : List Made) (n : ℕ) (namespace table : List ℕ) (code : ℕ) (slots : List ℕ) → Later (0 ∷ slots) ps n → CommandAsked (Split namespace table code)
    → same_slots slots (plan_of (Split namespace table code) ps.master) ≡ true → Inv ps activity changes
    → KeepsAll (Change (Split namespace table code) slots) n ps activity changes (split namespace table code n ps)
unfolding split
split_keeps ps activity changes n namespace table code slots later asked plan inv =
    let m = ps.master in
    let command = Split namespace table code in
    let before : m.clock < n = master_early slots ps n later in
    by_judgement (Change command slots) n ps activity changes (judge_split namespace table code m) _
    (λ why. refused_keeps (Change command slots) why n ps activity changes later inv refl)
    (λ f judged.
    let by = and_found_is (checked (found_parent m namespace table code) (λ p. split_checks p code m)) (λ p. family p (free_slots m)) (SlotsFull (length (free_slots m)) 2) f judged in
    let parent = by.0 in
    let passed = checked_is (found_parent m namespace table code) (λ p. split_checks p code m) parent by.1.0 in
    let is_family = family_is parent (free_slots m) f by.1.1 in
    let t = f.parent.table in
    let p = f.parent.tablet in
    let found : found_parent m namespace table code ≡ Ok f.parent = passed.0 ∙ ap Ok (sym is_family.0) in
    let its = parent_found m namespace table code f.parent found in
    let current = table_is m namespace table t its.0 in
    let ns = t.namespace in
    let unheld : is_some (holder m ns) ≡ false = subst (λ k. is_some (holder m k.table.namespace) ≡ false) (sym is_family.0) passed.1.0 in
    let owner : owner_of m.catalog.owners t.id ≡ Some ns = inv.master.tables.owned t current.listed in
    let g = its.1 in
    let two = least_free m 2 (two_long (free_slots m) f.low_slot f.high_slot is_family.1) in
    let a = f.low_slot in
    let b = f.high_slot in
    let is_slots : slots ≡ p.slot ∷ a ∷ b ∷ [] = slots_equal slots (plan_of command m) plan ∙ planned_family m namespace table code parent f passed.0 by.1.1 in
    let owned : owner_of m.catalog.owners p.table ≡ Some ns = ap (owner_of m.catalog.owners) g.table_is ∙ owner in
    let s : IsSplit m n p code a b = record {
      before = before;
      listed = g.listed;
      opened = g.opened;
      ranged = g.ranged;
      narrow = (let low : p.low ≤ code = leb-true p.low code (both_pass (leb p.low code) (ltb code p.high) g.ranged).0 in let apart : eqb code p.low ≡ false = ap (λ q. eqb code q.tablet.low) is_family.0 ∙ passed.1.1.0 in grind (arith, nat_tests));
      free = subst (AreFree m 2) is_family.1 two;
      calm = none_await m changes ns p.table inv.master owned unheld;
      ns = ns;
      owner = owned;
      unheld = not_held m ns unheld;
    } in
    subst (λ ss. Later (0 ∷ ss) ps n → Inv (told (Change command ss) (splitting f code n m (ps.tablet p.slot)) n ps) (activity_after (Change command ss) (splitting f code n m (ps.tablet p.slot)) n ps activity) changes) (sym is_slots)
    (λ early. split_inv ps activity changes n command code a b f.parent.table.schema.version p (next_tablet m.drawn.tablets 1 ∷ next_tablet m.drawn.tablets 2 ∷ []) asked.2 early s inv) later)

-- a split under its plan
pub split_change_keeps : (ps : Parts) (activity : List Interval) (changes : List Made) (n : ℕ) (namespace table : List ℕ) (code : ℕ) (slots : List ℕ) → Later (slots_of (Change (Split namespace table code) slots)) ps n
    → CommandAsked (Split namespace table code) → Inv ps activity changes → KeepsAll (Change (Split namespace table code) slots) n ps activity changes (outcome (Change (Split namespace table code) slots) n ps)
split_change_keeps ps activity changes n namespace table code slots later asked inv =
    change_keeps (Split namespace table code) slots ps activity changes n later inv (λ plan. split_keeps ps activity changes n namespace table code slots later asked plan inv)
