-- Operations and slots go on while clocks rise, and while the journal goes on without what operations read.
use Rattle.std.proofs.Common.{ℕ, ◌≡◌, ◌≤◌, List, [], ◌∷◌, Bool, true, cond, inl, refl, sym, ap, ◌∙◌, le_refl, le_trans}
use Rattle.std.proofs.lemmas.Bool.{cond_both, true≢false}
use Rattle.model.specs.Cluster.{Id, In, Interval, code_of, in_range, Tablet, RestorationRecord, Master}
use Rattle.model.specs.Journal.{Change, row_at}
use Rattle.model.specs.Right.{is_fixed}
use Rattle.law_invariants.specs.Operations.{is_switched, OperationsGood}
use Rattle.law_invariants.specs.Remembered.{Remembered}
use Rattle.law_invariants.specs.Invariant.{ComesFrom, MasterGood, SlotWorks}
use Rattle.law_invariants.proofs.Remembering.{floor_rises, kept_all}
use Rattle.law_invariants.proofs.Operating.{Onward, ListedOf, operations_on}
use Rattle.law_store.proofs.Keys.{either_way}
use Rattle.model.specs.Stands.{before_restore, is_restore_of}
use Rattle.law_invariants.proofs.Ordering.{SourcesStay, rows_same, orders_on, obeyed_on, orders_mild, obeyed_mild}

-- each interval's table is drawn
abbrev pub TablesDrawn : Master → Type 0
TablesDrawn m = (i : Interval) → In i m.activity → i.table.number ≤ m.drawn.tables

pub tables_drawn : (m : Master) (activity : List Interval) → Remembered m activity → TablesDrawn m
tables_drawn m activity h = λ i isin. h.drawn_table i (kept_all h i isin)

-- what the master keeps of the tablets that restorations list
pub all_listed : (m : Master) (changes : List Change) → MasterGood m changes → (r : RestorationRecord) → In r m.restorations → ListedOf m r
all_listed m changes h r isin = record { drawn = λ l lists. h.listed r l isin lists; owner = λ l lists i there is. h.listed_of r l isin lists i there is }

-- two journals have the same restores and clones
pub record SameFixed (changes new : List Change) : Type 0 where
  pub fixed : (ns : Id) (to : ℕ) → is_fixed new ns to ≡ is_fixed changes ns to
  pub switched : (ns : Id) (point : ℕ) → is_switched changes ns point ≡ true → is_switched new ns point ≡ true
  pub before : (ns : Id) (point : ℕ) → is_switched changes ns point ≡ true → before_restore new ns point new ≡ before_restore changes ns point changes

-- the changes before a restore that the journal has don't depend on what is given where it has none
pub before_any : (changes : List Change) (ns : Id) (point : ℕ) (one other : List Change) → is_switched changes ns point ≡ true → before_restore changes ns point one ≡ before_restore changes ns point other
before_any [] ns point one other h = absurd (true≢false (sym h))
before_any (c ∷ earlier) ns point one other h = either_way (is_restore_of ns point c)
    (λ e. ap (λ b. cond b earlier (before_restore earlier ns point one)) e ∙ sym (ap (λ b. cond b earlier (before_restore earlier ns point other)) e))
    (λ e. let k : is_switched earlier ns point ≡ true = rw e at h in
    ap (λ b. cond b earlier (before_restore earlier ns point one)) e ∙ before_any earlier ns point one other k ∙ sym (ap (λ b. cond b earlier (before_restore earlier ns point other)) e))

pub same_fixed : (changes : List Change) → SameFixed changes changes
same_fixed changes = record { fixed = λ ns to. refl; switched = λ ns point is. is; before = λ ns point is. refl }

-- what a tablet awaits goes on where the rows of its interval do
pub comes_on : (changes new : List Change) (ns : Id) (i : Interval) (point to : ℕ) → SameFixed changes new → ((key : List ℕ) (x : ℕ) → in_range i.low i.high (code_of key) ≡ true → row_at new x i.table key ≡ row_at changes x i.table key)
    → ComesFrom changes ns i point to → ComesFrom new ns i point to
comes_on changes new ns i point to same_ rows h = record {
  switched = same_.switched ns point h.switched;
  rows = λ key x ranged after. rows key x ranged ∙ h.rows key x ranged after ∙ sym (rows key to ranged);
  before = λ key ranged. ap (λ js. row_at js to i.table key) (same_.before ns point h.switched) ∙ h.before key ranged ∙ sym (rows key to ranged);
}

pub onward_ticked : (m : Master) (n : ℕ) (changes new : List Change) → m.clock ≤ n → TablesDrawn m → SameFixed changes new → Onward m n m.catalog m.activity m.drawn changes new
onward_ticked m n changes new le drawn same_ = record {
  clock = le;
  drawn = λ kind. le_refl _;
  owned = λ table ns is. is;
  owners = λ table l. refl;
  tables = drawn;
  kept = λ i isin. (i, (isin, inl refl));
  came = λ j isin. inl (j, (isin, inl refl));
  fixed = same_.fixed;
  switched = same_.switched;
  tables_held = λ ns r isin of held. isin;
  names = λ r isin. inl (record { was = r; kept = isin; id_is = refl; name_is = refl; opened = λ e. e });
  before = same_.before;
}

-- under a later clock of the master, and another journal
pub operations_ticked : (m : Master) (n : ℕ) (changes new : List Change) → m.clock ≤ n → TablesDrawn m → SameFixed changes new → ((r : RestorationRecord) → In r m.restorations → ListedOf m r) → OperationsGood m changes
    → OperationsGood (record m { clock = n }) new
operations_ticked m n changes new le drawn same_ of h = operations_on m n m.catalog m.activity m.drawn m.sent changes new (onward_ticked m n changes new le drawn same_)
    (λ ns. le_trans (h.kept ns) (floor_rises m (record m { clock = n }) ns (record { clock = le; schedules = refl; restorations = refl; clones = refl }))) h.owners (λ mark isin. isin) of h

pub operations_journal : (m : Master) (changes new : List Change) → TablesDrawn m → SameFixed changes new → ((r : RestorationRecord) → In r m.restorations → ListedOf m r) → OperationsGood m changes → OperationsGood m new
operations_journal m changes new drawn same_ of h = operations_ticked m m.clock changes new (le_refl _) drawn same_ of h

pub operations_ticked_if : (b : Bool) (m : Master) (n : ℕ) (changes : List Change) → (b ≡ true → m.clock ≤ n) → TablesDrawn m → ((r : RestorationRecord) → In r m.restorations → ListedOf m r) → OperationsGood m changes
    → OperationsGood (cond b (record m { clock = n }) m) changes
operations_ticked_if b m n changes le drawn of h = cond_both b (record m { clock = n }) m (λ k. OperationsGood k changes) (λ e. operations_ticked m n changes changes (le e) drawn (same_fixed changes) of h) (λ e. h)

pub works_ticked : (m : Master) (n : ℕ) (changes new : List Change) (slot : ℕ) (t : Tablet) → m.clock ≤ n → TablesDrawn m → SameFixed changes new → SourcesStay m changes new → OperationsGood m changes → SlotWorks m changes slot t
    → SlotWorks (record m { clock = n }) new slot t
works_ticked m n changes new slot t le drawn same_ stays ops h = let o = onward_ticked m n changes new le drawn same_ in record {
  orders = orders_on m n m.catalog m.activity m.drawn m.sent changes new slot t o h.orders;
  obeyed = obeyed_on m n m.catalog m.activity m.drawn m.sent changes new slot t o stays ops h.obeyed;
}

pub works_journal : (m : Master) (changes new : List Change) (slot : ℕ) (t : Tablet) → TablesDrawn m → SameFixed changes new → SourcesStay m changes new → OperationsGood m changes → SlotWorks m changes slot t → SlotWorks m new slot t
works_journal m changes new slot t drawn same_ stays ops h = works_ticked m m.clock changes new slot t (le_refl _) drawn same_ stays ops h

pub works_ticked_if : (b : Bool) (m : Master) (n : ℕ) (changes : List Change) (slot : ℕ) (t : Tablet) → (b ≡ true → m.clock ≤ n) → TablesDrawn m → OperationsGood m changes → SlotWorks m changes slot t → SlotWorks (cond b (record m { clock = n }) m) changes slot t
works_ticked_if b m n changes slot t le drawn ops h =
    cond_both b (record m { clock = n }) m (λ k. SlotWorks k changes slot t) (λ e. works_ticked m n changes changes slot t (le e) drawn (same_fixed changes) (λ c serving at d key isin is paired. refl) ops h) (λ e. h)

-- under a later clock of the tablet
pub work_later : (m : Master) (n : ℕ) (changes : List Change) (slot : ℕ) (t : Tablet) → t.clock ≤ n → SlotWorks m changes slot t → SlotWorks m changes slot (record t { clock = n })
work_later m n changes slot t le h = record {
  orders = orders_mild m slot t n t.version t.versions t.cutoff le h.orders;
  obeyed = obeyed_mild m changes slot t n t.version t.versions t.cutoff t.inbox le (rows_same t) (λ r l point serving isin is lists at e. e) h.obeyed;
}

pub work_later_if : (m : Master) (n : ℕ) (changes : List Change) (slot : ℕ) (b : Bool) (t : Tablet) → (b ≡ true → t.clock ≤ n) → SlotWorks m changes slot t → SlotWorks m changes slot (cond b (record t { clock = n }) t)
work_later_if m n changes slot b t le h = cond_both b (record t { clock = n }) t (λ u. SlotWorks m changes slot u) (λ e. work_later m n changes slot t (le e) h) (λ e. h)
