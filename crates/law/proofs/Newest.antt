-- The newest schema of each table, as tables are made, change, are dropped, come back and are pruned: it goes on from the journal's.
use Rattle.std.proofs.Common.{◌≡◌, ℕ, ◌≤◌, ◌+◌, Bool, true, false, List, [], ◌∷◌, ◌++◌, Option, Some, None, ◌⊎◌, inl, inr, refl, sym, ap, subst, ◌∙◌, arith, cond, not, map, if◌then◌else◌}
use Rattle.std.specs.List.{filter}
use Rattle.std.specs.Option.{unwrap_or, option_map}
use Rattle.std.proofs.lemmas.Bool.{cond_both, true≢false}
use Rattle.model.specs.Cluster.{Id, same, In, Schema, ended, is_open, ended_by, CloneRecord}
use Rattle.model.specs.Catalog.{Catalog, TableRecord, latest, latest_from, end_table, end_tables, tables_at, kept_from, owner_of}
use Rattle.model.specs.Journal.{TableView, NamespaceRestored, source_of, is_in, table_at}
use Rattle.model.specs.Restored.{record_at, back_at, tables_back, restored_tables, newest, cloned, cloned_tables}
use Rattle.model.specs.Drawn.{given_to, version_by, of_source, first_version}
use Rattle.law_store.proofs.Keys.{either_way}
use Rattle.law_invariants.specs.Invariant.{RecordsRise, TablesStand, view_of}
use Rattle.law_invariants.proofs.Finding.{same_equal, same_self}
use Rattle.law_invariants.proofs.Records.{record_at_is}
use Rattle.law_invariants.proofs.Advancing.{mapped_some}
use Rattle.law_moves.proofs.Backing.{then_is, then_has}
use Rattle.law_clones.proofs.Pairing.{one_target_of}
use Rattle.law_clones.proofs.Viewing.{clone, source_is, by_source}
use Rattle.law_clones.proofs.Cataloguing.{MayTake, with_tables, cloned_is}
use Rattle.model.specs.Journal as made

-- a schema of a table has the version that the journal gives, and its next column an id that no column of it ever had
pub record IsNewest (changes : List made.Change) (table : Id) (s : Schema) : Type 0 where
  pub next : s.next ≡ given_to changes table + 1
  pub version : s.version ≡ version_by changes table

abbrev pub AllNewest : List TableRecord → List made.Change → Type 0
AllNewest rs changes = (table : Id) (s : Schema) → latest rs table ≡ Some s → IsNewest changes table s

-- Lists of records

latest_append : (rs qs : List TableRecord) (id : Id) (found : Option Schema) → latest_from (rs ++ qs) id found ≡ latest_from qs id (latest_from rs id found)
latest_append [] qs id found = refl
latest_append (r ∷ rs) qs id found = latest_append rs qs id (if same r.id id then Some r.schema else found)

-- where a record ends counts for nothing
latest_kept : (rs : List TableRecord) (to : TableRecord → Option ℕ) (id : Id) (found : Option Schema) → latest_from (map {A = TableRecord} (λ r. record r { to = to r }) rs) id found ≡ latest_from rs id found
latest_kept [] to id found = refl
latest_kept (r ∷ rs) to id found = latest_kept rs to id (if same r.id id then Some r.schema else found)

none_other : (rs : List TableRecord) (id : Id) (found : Option Schema) → ((q : TableRecord) → In q rs → q.id ≡ id → ⊥) → latest_from rs id found ≡ found
none_other [] id found none = refl
none_other (r ∷ rs) id found none = either_way (same r.id id)
    (λ e. absurd (none r (inl refl) (same_equal r.id id e)))
    (λ e. ap (λ b. latest_from rs id (cond b (Some r.schema) found)) e ∙ none_other rs id found (λ q isin. none q (inr isin)))

-- a current record is its table's newest
pub current_latest : (rs : List TableRecord) (t : TableRecord) (found : Option Schema) → RecordsRise rs → In t rs → is_open t.to ≡ true → latest_from rs t.id found ≡ Some t.schema
current_latest [] t found rise isin opened = absurd isin
current_latest (r ∷ rs) t found rise (inl e) opened =
    let here : same r.id t.id ≡ true = ap (λ q. same q.id t.id) e ∙ same_self t.id in
    let last : (q : TableRecord) → In q rs → q.id ≡ t.id → ⊥ = λ q isin is. not_over r.to q.from (ap (λ k. is_open k.to) e ∙ opened) (rise.0 q isin (is ∙ ap (λ k. k.id) (sym e))).1 in
    ap (λ b. latest_from rs t.id (cond b (Some r.schema) found)) here ∙ none_other rs t.id (Some r.schema) last ∙ ap (λ k. Some k.schema) e
  where
    not_over : (to : Option ℕ) (x : ℕ) → is_open to ≡ true → ended_by x to ≡ true → ⊥
    not_over None x o k = true≢false (sym k)
    not_over (Some f) x o k = true≢false (sym o)
current_latest (r ∷ rs) t found rise (inr isin) opened = current_latest rs t (if same r.id t.id then Some r.schema else found) rise.1 isin opened

-- a table with a record has a newest one
pub latest_there : (rs : List TableRecord) (q : TableRecord) (found : Option Schema) → In q rs → (k : Schema) × (latest_from rs q.id found ≡ Some k)
latest_there [] q found isin = absurd isin
latest_there (r ∷ rs) q found (inl e) =
    let here : same r.id q.id ≡ true = ap (λ k. same k.id q.id) e ∙ same_self q.id in
    let k = goes_on rs q.id r.schema in (k.0, ap (λ b. latest_from rs q.id (cond b (Some r.schema) found)) here ∙ k.1)
  where
    goes_on : (rs : List TableRecord) (id : Id) (s : Schema) → (k : Schema) × (latest_from rs id (Some s) ≡ Some k)
    goes_on [] id s = (s, refl)
    goes_on (r ∷ rs) id s = either_way (same r.id id)
        (λ b. let k = goes_on rs id r.schema in (k.0, ap (λ c. latest_from rs id (cond c (Some r.schema) (Some s))) b ∙ k.1))
        (λ b. let k = goes_on rs id s in (k.0, ap (λ c. latest_from rs id (cond c (Some r.schema) (Some s))) b ∙ k.1))
latest_there (r ∷ rs) q found (inr isin) = latest_there rs q (if same r.id q.id then Some r.schema else found) isin

-- Changes of one table

-- one more record: what the journal says of other tables stays
pub newest_added : (rs : List TableRecord) (r : TableRecord) (changes new : List made.Change) → ((table : Id) (s : Schema) → same r.id table ≡ false → IsNewest changes table s → IsNewest new table s) → IsNewest new r.id r.schema
    → AllNewest rs changes → AllNewest (rs ++ r ∷ []) new
newest_added rs r changes new others own h table s e =
    let is : latest_from (r ∷ []) table (latest rs table) ≡ Some s = sym (latest_append rs (r ∷ []) table None) ∙ e in
    either_way (same r.id table)
    (λ b. let here : Some r.schema ≡ Some s = sym (ap (λ c. cond c (Some r.schema) (latest rs table)) b) ∙ is in
    let schema_is : r.schema ≡ s = cc in
    subst (IsNewest new table) schema_is (subst (λ i. IsNewest new i r.schema) (same_equal r.id table b) own))
    (λ b. others table s b (h table s (sym (ap (λ c. cond c (Some r.schema) (latest rs table)) b) ∙ is)))

pub newest_ended : (rs : List TableRecord) (id : Id) (n : ℕ) (changes : List made.Change) → AllNewest rs changes → AllNewest (end_table id n rs) changes
newest_ended rs id n changes h table s e = h table s (sym (latest_kept rs (λ r. if same r.id id then ended n r.to else r.to) table None) ∙ e)

-- Tables of a clone

latest_is : (rs : List TableRecord) (id : Id) (found : Option Schema) (s : Schema) → latest_from rs id found ≡ Some s → ((q : TableRecord) × (In q rs × ((q.id ≡ id) × (q.schema ≡ s)))) ⊎ (found ≡ Some s)
latest_is [] id found s e = inr e
latest_is (r ∷ rs) id found s e = elim (latest_is rs id (cond (same r.id id) (Some r.schema) found) s e) [
  | inl q ↦ inl (q.0, (inr q.1.0, q.1.1))
  | inr first ↦ (either_way (same r.id id)
      (λ b. let k : Some r.schema ≡ Some s = rw b at first in inl (r, (inl refl, (same_equal r.id id b, (let is : r.schema ≡ s = cc in is)))))
      (λ b. inr (rw b at first)))
]

-- a target's newest schema takes its next id from its source's, and begins at version 1
pub newest_cloned : (c : Catalog) (time drawn : ℕ) (changes : List made.Change) (r : CloneRecord) (n : ℕ) → TablesStand c time drawn changes → MayTake c drawn changes r → AllNewest c.tables changes → AllNewest (with_tables c r n) (clone n r changes)
newest_cloned c time drawn changes r n t w h table s e =
    let new = cloned_tables r.tables c.tables r.target_id r.to n in
    let is : latest_from new table (latest c.tables table) ≡ Some s = sym (latest_append c.tables new table None) ∙ e in
    by_source r.tables table
    (λ none.
    let old : latest c.tables table ≡ Some s = sym (none_other new table (latest c.tables table) (λ q isin id.
    let k = cloned_is c.tables r.target_id r.to n r.tables q isin in
    let z : None ≡ Some k.pair.source = sym none ∙ ap (source_of r.tables) (sym (ap (λ t. t.id) k.is ∙ id)) ∙ source_is r.tables k.pair w.apart k.paired in grind arith)) ∙ is in
    let k = h table s old in record {
      next = k.next ∙ sym (ap (λ o. of_source o (given_to changes) (given_to changes table) + 1) none);
      version = k.version ∙ sym (ap (λ o. first_version o (version_by changes table)) none);
    })
    (λ d isin id. subst (λ i. latest_from new i (latest c.tables i) ≡ Some s → IsNewest (clone n r changes) i s) id (λ found.
    elim (latest_is new d.target (latest c.tables d.target) s found) [
      | inr old ↦ absurd (
          let gone : latest c.tables d.target ≡ None = none_other c.tables d.target None (λ q q_in q_id. w.none q q_in (let z : Some q.namespace ≡ Some r.target_id = sym (t.owned q q_in) ∙ ap (owner_of c.owners) q_id ∙ w.target d isin in cc)) in
          let z : None ≡ Some s = sym gone ∙ old in grind arith)
      | inl q ↦ (
          let k = cloned_is c.tables r.target_id r.to n r.tables q.0 q.1.0 in
          let one : k.pair ≡ d = one_target_of r.tables k.pair d w.apart k.paired isin (ap (λ t. t.id) k.is ∙ q.1.1.0) in
          let was = record_at_is c.tables k.pair.source r.to k.was k.found in
          let there = latest_there c.tables k.was None was.listed in
          let own = h k.was.id there.0 there.1 in
          let newest_is : newest c.tables k.was ≡ there.0 = ap (λ o. unwrap_or o k.was.schema) there.1 in
          let schema : s ≡ (cloned c.tables r.target_id k.pair.target n k.was).schema = sym q.1.1.1 ∙ ap (λ t. t.schema) (sym k.is) in
          let source : k.was.id ≡ d.source = was.id_is ∙ ap (λ p. p.source) one in
          let some = source_is r.tables d w.apart isin in
          record {
            next = ap (λ z. z.next) schema ∙ ap (λ z. z.next) newest_is ∙ own.next ∙ ap (λ i. given_to changes i + 1) source ∙ sym (ap (λ o. of_source o (given_to changes) (given_to changes d.target) + 1) some);
            version = ap (λ z. z.version) schema ∙ sym (ap (λ o. first_version o (version_by changes d.target)) some);
          })
    ]) is)

-- Tables that come back

record CameBack (rs : List TableRecord) (point : ℕ) (ls : List TableRecord) (id : Id) (s : Schema) : Type 0 where
  was : TableRecord
  listed : In was ls
  id_is : was.id ≡ id
  is : (back_at rs point was).schema ≡ s

back_latest : (ls rs : List TableRecord) (point : ℕ) (id : Id) (found : Option Schema) (s : Schema) → latest_from (map (back_at rs point) ls) id found ≡ Some s
    → CameBack rs point ls id s ⊎ (((q : TableRecord) → In q ls → q.id ≡ id → ⊥) × (found ≡ Some s))
back_latest [] rs point id found s e = inr ((λ q isin is. absurd isin), e)
back_latest (r ∷ ls) rs point id found s e = elim (back_latest ls rs point id (if same r.id id then Some (back_at rs point r).schema else found) s e) [
  | inl h ↦ inl (record { was = h.was; listed = inr h.listed; id_is = h.id_is; is = h.is })
  | inr h ↦ either_way (same r.id id)
      (λ b. let q : Some (back_at rs point r).schema ≡ Some s = sym (ap (λ c. cond c (Some (back_at rs point r).schema) found) b) ∙ h.1 in
      inl (record { was = r; listed = inl refl; id_is = same_equal r.id id b; is = (let k : (back_at rs point r).schema ≡ s = cc in k) }))
      (λ b. inr ((λ q isin is. elim isin [ inl f ↦ true≢false (sym (ap (λ k. same k.id id) f ∙ ap (λ i. same i id) is ∙ same_self id) ∙ b) | inr rest ↦ h.0 q rest is ]), sym (ap (λ c. cond c (Some (back_at rs point r).schema) found) b) ∙ h.1))
]

-- what stood at the time is what the view has in the namespace

pub then_in : (c : Catalog) (time drawn : ℕ) (changes : List made.Change) (ns : Id) (to : ℕ) (q : TableRecord) → TablesStand c time drawn changes → kept_from c.kept_from ns ≤ to → In q (tables_at c.tables ns to) → is_in ns (table_at changes to q.id) ≡ true
then_in c time drawn changes ns to q h known isin =
    let k = then_is c.tables ns to q isin in
    let owner : owner_of c.owners q.id ≡ Some ns = h.owned q k.0 ∙ ap Some k.1.1 in
    let is : table_at changes to q.id ≡ Some (view_of q) = h.viewed q.id ns to owner known ∙ ap (option_map view_of) (h.found to q k.0 k.1.0) in
    ap (is_in ns) is ∙ ap (λ i. same i ns) k.1.1 ∙ same_self ns

pub record IsThen (rs : List TableRecord) (ns : Id) (to : ℕ) (id : Id) : Type 0 where
  pub was : TableRecord
  pub listed : In was (tables_at rs ns to)
  pub id_is : was.id ≡ id

pub in_then : (c : Catalog) (time drawn : ℕ) (changes : List made.Change) (ns : Id) (to : ℕ) (id : Id) → TablesStand c time drawn changes → kept_from c.kept_from ns ≤ to → is_in ns (table_at changes to id) ≡ true → IsThen c.tables ns to id
in_then c time drawn changes ns to id h known is = by (table_at changes to id) refl is
  where
    by : (view : Option TableView) → table_at changes to id ≡ view → is_in ns view ≡ true → IsThen c.tables ns to id
    by None e is = absurd (true≢false (sym is))
    by (Some v) e is =
        let inside : owner_of c.owners id ≡ Some ns = h.inside id to v e ∙ ap Some (same_equal v.namespace ns is) in
        let found = mapped_some view_of (record_at c.tables id to) v (sym (h.viewed id ns to inside known) ∙ e) in
        let r = record_at_is c.tables id to found.0 found.1.0 in
        let owner : Some ns ≡ Some found.0.namespace = sym inside ∙ ap (owner_of c.owners) (sym r.id_is) ∙ h.owned found.0 r.listed in
        let named : found.0.namespace ≡ ns = cc in
        record { was = found.0; listed = then_has c.tables ns to found.0 r.listed r.holds named; id_is = r.id_is }

pub newest_back : (c : Catalog) (time drawn : ℕ) (changes : List made.Change) (ns : Id) (to point : ℕ) → TablesStand c time drawn changes → kept_from c.kept_from ns ≤ to → AllNewest c.tables changes
    → AllNewest (restored_tables c.tables ns to point) (record { stamp = point; act = NamespaceRestored ns to } ∷ changes)
newest_back c time drawn changes ns to point h known all table s e =
    let rs = c.tables in
    let over : latest_from (end_tables ns point rs) table None ≡ latest rs table = latest_kept rs (λ r. if same r.namespace ns then ended point r.to else r.to) table None in
    let is : latest_from (tables_back rs ns to point) table (latest rs table) ≡ Some s
    = ap (latest_from (tables_back rs ns to point) table) (sym over) ∙ sym (latest_append (end_tables ns point rs) (tables_back rs ns to point) table None) ∙ e in
    elim (back_latest (tables_at rs ns to) rs point table (latest rs table) s is) [
      | inl b ↦ (
          let k = latest_there rs b.was None (then_is rs ns to b.was b.listed).0 in
          let newest_is : newest rs b.was ≡ k.0 = ap (λ o. unwrap_or o b.was.schema) k.1 in
          let own = all b.was.id k.0 k.1 in
          let there : is_in ns (table_at changes to b.was.id) ≡ true = then_in c time drawn changes ns to b.was h known b.listed in
          subst (λ i. IsNewest (record { stamp = point; act = NamespaceRestored ns to } ∷ changes) i s) b.id_is (record {
            next = ap (λ q. q.next) (sym b.is) ∙ ap (λ q. q.next) newest_is ∙ own.next;
            version = ap (λ q. q.version) (sym b.is) ∙ ap (λ q. q.version + 1) newest_is ∙ ap (λ v. v + 1) own.version ∙ sym (ap (λ g. if g then version_by changes b.was.id + 1 else version_by changes b.was.id) there);
          }))
      | inr n ↦ (
          let own = all table s n.1 in
          let gone : is_in ns (table_at changes to table) ≡ false = either_way (is_in ns (table_at changes to table)) (λ g. absurd (let k = in_then c time drawn changes ns to table h known g in n.0 k.was k.listed k.id_is)) (λ g. g) in
          record { next = own.next; version = own.version ∙ sym (ap (λ g. if g then version_by changes table + 1 else version_by changes table) gone) })
    ]

-- Old records go

all_young : (rs : List TableRecord) (old : TableRecord → Bool) (id : Id) (found : Option Schema) → ((q : TableRecord) → In q rs → q.id ≡ id → old q ≡ false) → latest_from (filter (λ r. not (old r)) rs) id found ≡ latest_from rs id found
all_young [] old id found young = refl
all_young (r ∷ rs) old id found young = either_way (same r.id id)
    (λ b. let kept : old r ≡ false = young r (inl refl) (same_equal r.id id b) in
    rw kept (all_young rs old id (if same r.id id then Some r.schema else found) (λ q isin. young q (inr isin))))
    (λ b. let same_rest = all_young rs old id found (λ q isin. young q (inr isin)) in
    cond_both (not (old r)) (r ∷ filter (λ r. not (old r)) rs) (filter (λ r. not (old r)) rs) (λ qs. latest_from qs id found ≡ latest_from rs id (if same r.id id then Some r.schema else found))
    (λ k. ap (λ c. latest_from (filter (λ r. not (old r)) rs) id (cond c (Some r.schema) found)) b ∙ same_rest ∙ sym (ap (λ c. latest_from rs id (cond c (Some r.schema) found)) b))
    (λ k. same_rest ∙ sym (ap (λ c. latest_from rs id (cond c (Some r.schema) found)) b)))

-- of the records of a table, what comes after one that stays, stays
abbrev pub YoungAfter : List TableRecord → (TableRecord → Bool) → Type 0
YoungAfter [] old = Unit {0}
YoungAfter (r ∷ rs) old = ((q : TableRecord) → In q rs → q.id ≡ r.id → old r ≡ false → old q ≡ false) × YoungAfter rs old

-- a newest record that is left was the newest: what is older than a record that stays may go, what is newer stays
pub pruned_latest : (rs : List TableRecord) (old : TableRecord → Bool) (id : Id) (found : Option Schema) (s : Schema) → YoungAfter rs old → latest_from (filter (λ r. not (old r)) rs) id None ≡ Some s → latest_from rs id found ≡ Some s
pruned_latest [] old id found s after e = absurd (let q = e in grind arith)
pruned_latest (r ∷ rs) old id found s after e = either_way (same r.id id)
    (λ b. either_way (old r)
    (λ o. let rest : latest_from (filter (λ r. not (old r)) rs) id None ≡ Some s = rw o at e in rw b (pruned_latest rs old id (Some r.schema) s after.1 rest))
    (λ o. let whole : latest_from (filter (λ r. not (old r)) rs) id (if same r.id id then Some r.schema else None) ≡ Some s = rw o at e in
    let mine : latest_from (filter (λ r. not (old r)) rs) id (Some r.schema) ≡ Some s = rw b at whole in
    rw b (sym (all_young rs old id (Some r.schema) (λ q isin is. after.0 q isin (is ∙ sym (same_equal r.id id b)) o)) ∙ mine)))
    (λ b. let rest : latest_from (filter (λ r. not (old r)) rs) id None ≡ Some s
    = cond_both (not (old r)) (r ∷ filter (λ r. not (old r)) rs) (filter (λ r. not (old r)) rs) (λ qs. latest_from qs id None ≡ Some s → latest_from (filter (λ r. not (old r)) rs) id None ≡ Some s)
    (λ k h. sym (ap (λ c. latest_from (filter (λ r. not (old r)) rs) id (cond c (Some r.schema) None)) b) ∙ h) (λ k h. h) e in
    rw b (pruned_latest rs old id found s after.1 rest))
