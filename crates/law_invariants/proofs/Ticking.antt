-- Clocks that rise to a stamp keep what holds; and an act keeps it where each of its refusals, or else its outcome, does.
use Rattle.model.specs.Right.{is_fixed}
use Rattle.law_invariants.specs.Orders.{directory}
use Rattle.model.specs.Cluster.{Id, In, has, Catalog, NamespaceRecord, name_of, TableRecord, kept_from, owner_of, Interval, Tablet, FrozenSet, is_serving, Act, Reply, Refused, Refusal, Master, Parts, Check, If, Names, Fault, Outcome, judged, refused, answered, decided}
use Rattle.std.proofs.Common.{ℕ, ◌≡◌, ◌≤◌, ◌<◌, ◌+◌, List, [], ◌∷◌, Option, Some, None, Bool, true, false, cond, ◌&&◌, refl, sym, subst, arith, not, le_trans, le_of_lt, lt_of_lt_of_le, eqb, Result, Ok, Err}
use Rattle.std.proofs.lemmas.Bool.{cond_both}
use Rattle.row_values.specs.Store.{Version, Below}
use Rattle.model.specs.Journal.{Change, namespace_at}
use Rattle.model.specs.Entries.{slots_of, clock_at}
use Rattle.model.specs.History.{told, with_changes}
use Rattle.law_invariants.specs.Remembered.{activity_after, Remembered}
use Rattle.law_invariants.specs.Invariant.{EndsBy, OverBy, IsPast, NamespacesStand, TablesStand, IsGood, SlotGood, Covered, MasterGood, Inv, Later, Passes, IsGoodIn, TakesWritesIn}
use Rattle.law_invariants.proofs.Remembering.{activity_stays, remembered_ticked_if}
use Rattle.law_invariants.proofs.Hearing.{clocks_rise, rows_ticked_if}
use Rattle.law_invariants.proofs.Undoing.{journal_ticked_if}
use Rattle.law_invariants.proofs.Working.{tables_drawn, all_listed, operations_ticked_if, works_ticked_if, work_later_if}

pub ends_later : (to : Option ℕ) (from m n : ℕ) → m ≤ n → EndsBy m from to → EndsBy n from to
ends_later None from m n le h = tt
ends_later (Some to) from m n le h = (h.0, le_trans h.1 le)

pub over_later : (to : Option ℕ) (from m n : ℕ) → m ≤ n → OverBy m from to → OverBy n from to
over_later None from m n le h = tt
over_later (Some to) from m n le h = (h.0, le_trans h.1 le)

pub past_later : (from m n : ℕ) (to : Option ℕ) → m ≤ n → IsPast m from to → IsPast n from to
past_later from m n to le h = record { begun = le_trans h.begun le; ended = ends_later to from m n le h.ended }

pub below_later : (vs : List Version) (m n : ℕ) → m ≤ n → Below m vs → Below n vs
below_later [] m n le h = tt
below_later (v ∷ vs) m n le h = (omega (arith, h.0), below_later vs m n le h.1)

pub namespaces_later : (rs : List NamespaceRecord) (m n drawn : ℕ) (changes : List Change) → m ≤ n → NamespacesStand rs m drawn changes → NamespacesStand rs n drawn changes
namespaces_later rs m n drawn changes le h =
    let past : (r : NamespaceRecord) → In r rs → IsPast n r.from r.to = λ r isin. past_later r.from m n r.to le (h.past r isin) in
    let viewed : (id : Id) (x : ℕ) → n ≤ x → namespace_at changes x id ≡ name_of rs id = λ id x after. h.viewed id x (le_trans le after) in
    assumption (past, viewed)

pub tables_later : (c : Catalog) (m n drawn : ℕ) (changes : List Change) → m ≤ n → TablesStand c m drawn changes → TablesStand c n drawn changes
tables_later c m n drawn changes le h =
    let past : (r : TableRecord) → In r c.tables → IsPast n r.from r.to = λ r isin. past_later r.from m n r.to le (h.past r isin) in
    let kept : (ns : Id) → kept_from c.kept_from ns ≤ n = λ ns. le_trans (h.kept ns) le in
    assumption (past, kept)

-- the master's clock rises
pub master_ticked : (m : Master) (n : ℕ) (changes : List Change) → m.clock ≤ n → MasterGood m changes → MasterGood (record m { clock = n }) changes
master_ticked m n changes le h = record {
  namespaces = namespaces_later m.catalog.namespaces m.clock n m.drawn.namespaces changes le h.namespaces;
  tables = tables_later m.catalog m.clock n m.drawn.tables changes le h.tables;
  marks = h.marks;
  past = λ ns to is. le_trans (h.past ns to is) le;
  complete = λ s isin. le_trans (h.complete s isin) le;
  listed = h.listed;
  listed_of = h.listed_of;
}

pub good_ticked : (m : Master) (n : ℕ) (changes : List Change) (t : Tablet) (i : Interval) → m.clock ≤ n → IsGood m changes t i → IsGood (record m { clock = n }) changes t i
good_ticked m n changes t i le h =
    let past : IsPast n i.from i.to = past_later i.from m.clock n i.to le h.past in
    assumption past

-- what holds of a slot holds under a later clock of the master
pub slot_ticked : (m : Master) (n : ℕ) (changes : List Change) (slot : ℕ) (t : Tablet) → m.clock ≤ n → SlotGood m changes slot t → SlotGood (record m { clock = n }) changes slot t
slot_ticked m n changes slot t le h =
    let each : (i : Interval) → In i m.activity → i.slot ≡ slot → IsGoodIn n m.slots (directory (record m { clock = n })) changes t i = λ i isin is. good_ticked m n changes t i le (h.each i isin is) in
    assumption each

-- and under a later clock of its own
pub tablet_ticked : (m : Master) (n : ℕ) (changes : List Change) (slot : ℕ) (t : Tablet) → t.clock ≤ n → SlotGood m changes slot t → SlotGood m changes slot (record t { clock = n })
tablet_ticked m n changes slot t le h =
    let below : Below (n + 1) t.versions = below_later t.versions (t.clock + 1) (n + 1) (omega arith) h.good.below in
    let cutoff : t.cutoff ≤ n = le_trans h.good.cutoff le in
    let set_past : (f : FrozenSet) → In f t.frozen → f.at < n = λ f held. lt_of_lt_of_le (h.good.set_past f held) le in
    let each : (i : Interval) → In i m.activity → i.slot ≡ slot → IsGoodIn m.clock m.slots (directory m) changes (record t { clock = n }) i = λ i isin is. let g = h.each i isin is in
    let over : OverBy n i.from i.to = over_later i.to i.from t.clock n le g.over in
    assumption over in
    let opens : is_serving t.presence ≡ true → t.fence ≡ None → TakesWritesIn m.activity m.restorations slot (record t { clock = n }) = λ serving unfenced. let o = h.opens serving unfenced in record {
      interval = o.interval;
      listed = o.listed;
      slot_is = o.slot_is;
      opened = o.opened;
      begun = le_trans o.begun le;
      settled = o.settled;
    } in
    let later : (ns : Id) (to : ℕ) → is_fixed changes ns to ≡ true → is_serving t.presence ≡ true → t.fence ≡ None → owner_of m.catalog.owners t.table ≡ Some ns → to ≤ n = λ ns to is serving unfenced owned. le_trans (h.later ns to is serving unfenced owned) le in
    assumption (below, cutoff, set_past, each, opens, later)

-- the parts under later clocks: those of the slots for which the test holds, and the master's where it does
pub slots_ticked : (m : Master) (n : ℕ) (changes : List Change) (slot : ℕ) (b : Bool) (t : Tablet) → (b ≡ true → t.clock ≤ n)
    → SlotGood m changes slot t → SlotGood m changes slot (cond b (record t { clock = n }) t)
slots_ticked m n changes slot b t le h = cond_both b (record t { clock = n }) t (λ u. SlotGood m changes slot u) (λ e. tablet_ticked m n changes slot t (le e) h) (λ e. h)

pub master_ticked_if : (b : Bool) (m : Master) (n : ℕ) (changes : List Change) → (b ≡ true → m.clock ≤ n) → MasterGood m changes
    → MasterGood (cond b (record m { clock = n }) m) changes
master_ticked_if b m n changes le h = cond_both b (record m { clock = n }) m (λ k. MasterGood k changes) (λ e. master_ticked m n changes (le e) h) (λ e. h)

pub slot_ticked_if : (b : Bool) (m : Master) (n : ℕ) (changes : List Change) (slot : ℕ) (t : Tablet) → (b ≡ true → m.clock ≤ n) → SlotGood m changes slot t
    → SlotGood (cond b (record m { clock = n }) m) changes slot t
slot_ticked_if b m n changes slot t le h = cond_both b (record m { clock = n }) m (λ k. SlotGood k changes slot t) (λ e. slot_ticked m n changes slot t (le e) h) (λ e. h)

pub both_left : (a b : Bool) → (a && b) ≡ true → a ≡ true
both_left true b e = refl
both_left false b e = e

pub both_right : (a b : Bool) → (a && b) ≡ true → b ≡ true
both_right true b e = e
both_right false b e = absurd (let q = e in grind arith)

pub not_true : (b : Bool) → not b ≡ true → b ≡ false
not_true false e = refl
not_true true e = absurd (let q = e in grind arith)

-- a touched part's clock is below the stamp
pub tablet_before : (slots : List ℕ) (ps : Parts) (n slot : ℕ) → Later slots ps n → (has slots slot && not (eqb slot 0)) ≡ true → (ps.tablet slot).clock ≤ n
tablet_before slots ps n slot later e =
    let h : has slots slot ≡ true = both_left _ _ e in
    let f : eqb slot 0 ≡ false = not_true _ (both_right _ _ e) in
    let l : clock_at ps slot < n = later slot h in
    le_of_lt (rw f at l)

pub master_before : (slots : List ℕ) (ps : Parts) (n : ℕ) → Later slots ps n → has slots 0 ≡ true → ps.master.clock ≤ n
master_before slots ps n later e = le_of_lt (later 0 e)

-- an act that tells the parts nothing keeps what holds
pub nothing_told : (act : Act) (reply : Reply) (n : ℕ) (ps : Parts) (activity : List Interval) (changes : List Change) → Later (slots_of act) ps n → Inv ps activity changes → Inv (told act (answered reply) n ps) (activity_after act (answered reply) n ps activity) changes
nothing_told act reply n ps activity changes later inv = let is = sym (activity_stays act [] reply n ps activity) in record {
  master = master_ticked_if (has (slots_of act) 0) ps.master n changes (master_before (slots_of act) ps n later) inv.master;
  remembered = subst (Remembered (told act (answered reply) n ps).master) is (remembered_ticked_if (has (slots_of act) 0) ps.master n activity (master_before (slots_of act) ps n later) inv.remembered);
  cover = subst (λ is. Covered is changes) is inv.cover;
  operations = operations_ticked_if (has (slots_of act) 0) ps.master n changes (master_before (slots_of act) ps n later) (tables_drawn ps.master activity inv.remembered) (all_listed ps.master changes inv.master) inv.operations;
  journal = journal_ticked_if (has (slots_of act) 0) ps.master n changes inv.journal;
  rows_past = rows_ticked_if (has (slots_of act) 0) ps.master n changes ps.tablet (told act (answered reply) n ps).tablet (master_before (slots_of act) ps n later)
      (clocks_rise act (answered reply) n ps (λ slot e. tablet_before (slots_of act) ps n slot later e)) inv.rows_past;
  works = λ slot. works_ticked_if (has (slots_of act) 0) ps.master n changes slot _ (master_before (slots_of act) ps n later) (tables_drawn ps.master activity inv.remembered) inv.operations
      (work_later_if ps.master n changes slot (has (slots_of act) slot && not (eqb slot 0)) (ps.tablet slot) (tablet_before (slots_of act) ps n slot later) (inv.works slot));
  slots = λ slot. slot_ticked_if (has (slots_of act) 0) ps.master n changes slot _ (master_before (slots_of act) ps n later)
      (slots_ticked ps.master n changes slot (has (slots_of act) slot && not (eqb slot 0)) (ps.tablet slot) (tablet_before (slots_of act) ps n slot later) (inv.slots slot));
}

-- what is to be shown of an act's outcome: that it keeps what holds
abbrev pub KeepsAll : Act → ℕ → Parts → List Interval → List Change → Outcome → Type 0
KeepsAll act n ps activity changes o = Inv (told act o n ps) (activity_after act o n ps activity) (with_changes act o n ps changes)

-- an act that is refused keeps what holds
pub refused_keeps : (act : Act) (why : Refusal) (n : ℕ) (ps : Parts) (activity : List Interval) (changes : List Change) → Later (slots_of act) ps n → Inv ps activity changes
    → with_changes act (refused why) n ps changes ≡ changes → KeepsAll act n ps activity changes (refused why)
refused_keeps act why n ps activity changes later inv same_ =
    subst (Inv (told act (refused why) n ps) (activity_after act (refused why) n ps activity)) (sym same_) (nothing_told act (Refused why) n ps activity changes later inv)

-- an act keeps what holds where each refusal does, and the outcome where none comes
pub by_checks : (act : Act) (n : ℕ) (ps : Parts) (activity : List Interval) (changes : List Change) (checks : List Check) (o : Outcome)
    → ((why : Refusal) → KeepsAll act n ps activity changes (refused why)) → (Passes checks → KeepsAll act n ps activity changes o) → KeepsAll act n ps activity changes (judged checks o)
by_checks act n ps activity changes [] o no_ go = go tt
by_checks act n ps activity changes (If false why ∷ checks) o no_ go = by_checks act n ps activity changes checks o no_ (λ p. go (refl, p))
by_checks act n ps activity changes (If true why ∷ checks) o no_ go = no_ why
by_checks act n ps activity changes (Names None why ∷ checks) o no_ go = by_checks act n ps activity changes checks o no_ (λ p. go (refl, p))
by_checks act n ps activity changes (Names (Some id) why ∷ checks) o no_ go = no_ (why id)
by_checks act n ps activity changes (Fault None ∷ checks) o no_ go = by_checks act n ps activity changes checks o no_ (λ p. go (refl, p))
by_checks act n ps activity changes (Fault (Some why) ∷ checks) o no_ go = no_ why

-- and where it does for a refusal, and for what a judgement finds
pub by_judgement : {A : Type 0} (act : Act) (n : ℕ) (ps : Parts) (activity : List Interval) (changes : List Change) (judgement : Result A Refusal) (go : A → Outcome)
    → ((why : Refusal) → KeepsAll act n ps activity changes (refused why)) → ((a : A) → judgement ≡ Ok a → KeepsAll act n ps activity changes (go a)) → KeepsAll act n ps activity changes (decided judgement go)
by_judgement act n ps activity changes (Err why) go no_ accepted = no_ why
by_judgement act n ps activity changes (Ok a) go no_ accepted = accepted a refl
