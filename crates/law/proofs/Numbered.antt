-- The identifiers that the master has were drawn: so an act that draws none of a kind gives none, and a record that is
-- added is all that is new.
use Rattle.std.proofs.Common.{◌≡◌, ℕ, ◌≤◌, ◌<◌, ◌+◌, true, false, List, [], ◌∷◌, ◌++◌, inl, inr, refl, ap, subst, ◌∙◌, arith, map, ltb}
use Rattle.std.specs.List.{filter}
use Rattle.std.proofs.lemmas.Bool.Decides.{nat_tests}
use Rattle.std.proofs.lemmas.List.{map-append}
use Rattle.std.proofs.lemmas.List.Elements.{filter-append}
use Rattle.model.specs.Cluster.{Id, Kind, NamespaceKind as Namespace, TableKind as Table, TabletKind as Tablet, ScheduleKind as Schedule, Snapshot, RestorationKind as Restoration, CloneKind as Clone, In, in_order, Interval, NamespaceRecord, TableRecord, CloneRecord, IdPair, TabletPair, Schedule as ScheduleRecord, SnapshotRecord, RestorationRecord, Master, Parts}
use Rattle.model.specs.Journal.{Change as Made}
use Rattle.model.specs.Lists.{by_table_and_range}
use Rattle.model.specs.Drawn.{AreNext, beyond, drawn_of, is_pair_before, new_ids, recorded_beyond, reserved_by, reserved_in}
use Rattle.law_invariants.specs.Invariant.{Inv}
use Rattle.law_invariants.proofs.Finding.{in_append, in_mapped}
use Rattle.law_invariants.proofs.Parting.{ordered_only}
use Rattle.law_clones.proofs.Growing.{taker_there}

-- Lists of identifiers

-- all of them are of the first ones
abbrev pub Within : ℕ → List Id → Type 0
Within drawn ids = (id : Id) → In id ids → id.number ≤ drawn

pub none_beyond : (ids : List Id) (drawn : ℕ) → Within drawn ids → beyond drawn ids ≡ []
none_beyond [] drawn within = refl
none_beyond (id ∷ ids) drawn within =
    let l : id.number ≤ drawn = within id (inl refl) in
    let e : ltb drawn id.number ≡ false = grind (arith, nat_tests) in rw e (none_beyond ids drawn (λ i isin. within i (inr isin)))

pub beyond_append : (ids more : List Id) (drawn : ℕ) → beyond drawn (ids ++ more) ≡ beyond drawn ids ++ beyond drawn more
beyond_append ids more drawn = filter-append (λ (id : Id). ltb drawn id.number) ids more

-- those that come next are all new
pub next_beyond : (ids : List Id) (kind : Kind) (drawn first : ℕ) → drawn ≤ first → AreNext kind first ids → beyond drawn ids ≡ ids
next_beyond [] kind drawn first le next = refl
next_beyond (id ∷ ids) kind drawn first le next =
    let l : id.number ≡ first + 1 = ap (λ i. i.number) next.0 in
    let e : ltb drawn id.number ≡ true = grind (arith, nat_tests) in rw e (ap (λ is. id ∷ is) (next_beyond ids kind drawn (first + 1) (omega (arith, le)) next.1))

-- one that is added is new, where the others are not
pub one_beyond : {A : Type 0} (id_of : A → Id) (xs : List A) (x : A) (drawn : ℕ) → ((y : A) → In y xs → (id_of y).number ≤ drawn) → drawn < (id_of x).number → beyond drawn (map id_of (xs ++ x ∷ [])) ≡ id_of x ∷ []
one_beyond id_of xs x drawn within new =
    let e : ltb drawn (id_of x).number ≡ true = grind (arith, nat_tests) in
    ap (beyond drawn) (map-append id_of xs (x ∷ [])) ∙ beyond_append (map id_of xs) (id_of x ∷ []) drawn
    ∙ ap (λ ids. ids ++ beyond drawn (id_of x ∷ [])) (none_beyond (map id_of xs) drawn (in_mapped id_of (λ id. id.number ≤ drawn) xs within))
    ∙ rw e refl

-- Intervals

abbrev pub WithinTablets : ℕ → List Interval → Type 0
WithinTablets drawn is = (i : Interval) → In i is → i.tablet.number ≤ drawn

pub none_new_tablets : (is : List Interval) (drawn : ℕ) → WithinTablets drawn is → filter (λ i. ltb drawn i.tablet.number) is ≡ []
none_new_tablets [] drawn within = refl
none_new_tablets (i ∷ is) drawn within =
    let l : i.tablet.number ≤ drawn = within i (inl refl) in
    let e : ltb drawn i.tablet.number ≡ false = grind (arith, nat_tests) in rw e (none_new_tablets is drawn (λ j isin. within j (inr isin)))

pub next_tablets : (is : List Interval) (drawn first : ℕ) → drawn ≤ first → AreNext Tablet first (map (λ i. i.tablet) is) → filter (λ i. ltb drawn i.tablet.number) is ≡ is
next_tablets [] drawn first le next = refl
next_tablets (i ∷ is) drawn first le next =
    let l : i.tablet.number ≡ first + 1 = ap (λ k. k.number) next.0 in
    let e : ltb drawn i.tablet.number ≡ true = grind (arith, nat_tests) in rw e (ap (λ js. i ∷ js) (next_tablets is drawn (first + 1) (omega (arith, le)) next.1))

-- What the master has

-- all identifiers of a kind that it has were drawn
pub record Numbered (m : Master) : Type 0 where
  pub namespaces : (r : NamespaceRecord) → In r m.catalog.namespaces → r.id.number ≤ m.drawn.namespaces
  pub tables : (r : TableRecord) → In r m.catalog.tables → r.id.number ≤ m.drawn.tables
  pub tablets : WithinTablets m.drawn.tablets m.activity
  pub schedules : (s : ScheduleRecord) → In s m.schedules → s.id.number ≤ m.drawn.schedules
  pub snapshots : (r : SnapshotRecord) → In r m.snapshots → r.id.number ≤ m.drawn.snapshots
  pub restorations : (r : RestorationRecord) → In r m.restorations → r.id.number ≤ m.drawn.restorations
  pub clones : (c : CloneRecord) → In c m.clones → c.id.number ≤ m.drawn.clones
  pub reserved : (kind : Kind) → Within (drawn_of kind m.drawn) (reserved_by m.clones kind)

reserved_all : (cs : List CloneRecord) (kind : Kind) (drawn : ℕ) → ((c : CloneRecord) → In c cs → Within drawn (reserved_in kind c)) → Within drawn (reserved_by cs kind)
reserved_all [] kind drawn each id isin = absurd isin
reserved_all (c ∷ cs) kind drawn each id isin = elim (in_append (reserved_in kind c) (reserved_by cs kind) id isin) [
  | inl own ↦ each c (inl refl) id own
  | inr rest ↦ reserved_all cs kind drawn (λ d there. each d (inr there)) id rest
]

one_reserved : (kind : Kind) (ps : Parts) (activity : List Interval) (changes : List Made) → Inv ps activity changes → (c : CloneRecord) → In c ps.master.clones → Within (drawn_of kind ps.master.drawn) (reserved_in kind c)
one_reserved Namespace ps activity changes inv c there id (inl e) = subst (λ k. k.number ≤ ps.master.drawn.namespaces) e (inv.operations.clones c there).drawn_target
one_reserved Namespace ps activity changes inv c there id (inr none) = absurd none
one_reserved Table ps activity changes inv c there id isin =
    let good = inv.operations.clones c there in
    in_mapped (λ (p : IdPair). p.target) (λ id. id.number ≤ ps.master.drawn.tables) (in_order (λ p q. ltb p.source.number q.source.number) c.tables)
    (λ d paired.
    let one = good.covers d 0 (ordered_only _ c.tables d paired) (omega arith) in
    let p = taker_there c.tablets d.target 0 (omega (arith, one)) in subst (λ k. k.number ≤ ps.master.drawn.tables) p.1.1 (good.pairs p.0 p.1.0).drawn_table) id isin
one_reserved Tablet ps activity changes inv c there id isin =
    in_mapped (λ (p : TabletPair). p.target) (λ id. id.number ≤ ps.master.drawn.tablets) (in_order is_pair_before c.tablets)
    (λ p paired. ((inv.operations.clones c there).pairs p (ordered_only is_pair_before c.tablets p paired)).drawn) id isin
one_reserved _ ps activity changes inv c there id isin = absurd isin

pub all_numbered : (ps : Parts) (activity : List Interval) (changes : List Made) → Inv ps activity changes → Numbered ps.master
all_numbered ps activity changes inv = record {
  namespaces = λ r isin. inv.master.namespaces.drawn_before r isin;
  tables = λ r isin. inv.master.tables.drawn_before r isin;
  tablets = λ i isin. ((inv.slots i.slot).each i isin refl).drawn;
  schedules = λ s isin. (inv.operations.schedules s isin).drawn;
  snapshots = λ r isin. (inv.operations.snapshots r isin).drawn;
  restorations = λ r isin. (inv.operations.restorations r isin).drawn;
  clones = λ c isin. (inv.operations.clones c isin).drawn;
  reserved = λ kind. reserved_all ps.master.clones kind (drawn_of kind ps.master.drawn) (one_reserved kind ps activity changes inv);
}

-- what an act draws none of it gives none of

pub recorded_none : (kind : Kind) (m : Master) → Numbered m → recorded_beyond kind (drawn_of kind m.drawn) m ≡ []
recorded_none Namespace m h = none_beyond _ m.drawn.namespaces (in_mapped _ (λ id. id.number ≤ m.drawn.namespaces) m.catalog.namespaces h.namespaces)
recorded_none Table m h = none_beyond _ m.drawn.tables (in_mapped _ (λ id. id.number ≤ m.drawn.tables) m.catalog.tables h.tables)
recorded_none Tablet m h = ap (λ is. map {A = Interval} (λ i. i.tablet) (by_table_and_range is)) (none_new_tablets m.activity m.drawn.tablets h.tablets)
recorded_none Schedule m h = none_beyond _ m.drawn.schedules (in_mapped _ (λ id. id.number ≤ m.drawn.schedules) m.schedules h.schedules)
recorded_none Snapshot m h = none_beyond _ m.drawn.snapshots (in_mapped _ (λ id. id.number ≤ m.drawn.snapshots) m.snapshots h.snapshots)
recorded_none Restoration m h = none_beyond _ m.drawn.restorations (in_mapped _ (λ id. id.number ≤ m.drawn.restorations) m.restorations h.restorations)
recorded_none Clone m h = none_beyond _ m.drawn.clones (in_mapped _ (λ id. id.number ≤ m.drawn.clones) m.clones h.clones)

pub none_new : (kind : Kind) (before after : Master) → Numbered after → drawn_of kind after.drawn ≡ drawn_of kind before.drawn → new_ids before after kind ≡ []
none_new kind before after h same_ = subst (λ drawn. (recorded_beyond kind drawn after ++ beyond drawn (reserved_by after.clones kind)) ≡ []) same_
    (ap (λ ids. ids ++ beyond (drawn_of kind after.drawn) (reserved_by after.clones kind)) (recorded_none kind after h) ∙ none_beyond _ (drawn_of kind after.drawn) (h.reserved kind))

-- of what clones were to make before, nothing is new
pub none_reserved : (kind : Kind) (m : Master) → Numbered m → beyond (drawn_of kind m.drawn) (reserved_by m.clones kind) ≡ []
none_reserved kind m h = none_beyond _ (drawn_of kind m.drawn) (h.reserved kind)
