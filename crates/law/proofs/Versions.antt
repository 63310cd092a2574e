-- Each record of a table has the version that the journal gives as long as no later record of the table has begun.
use Rattle.std.proofs.Common.{◌≡◌, ℕ, ◌≤◌, ◌<◌, ◌+◌, Bool, true, false, List, [], ◌∷◌, ◌++◌, Option, Some, None, ◌⊎◌, inl, inr, refl, sym, ap, subst, ◌∙◌, arith, cond, leb, leb-true, le-leb, le_of_lt, lt_of_lt_of_le, not, map, if◌then◌else◌}
use Rattle.std.specs.List.{filter}
use Rattle.std.specs.Option.{unwrap_or}
use Rattle.std.proofs.lemmas.Bool.{true≢false}
use Rattle.std.proofs.lemmas.Bool.Decides.{nat_tests}
use Rattle.model.specs.Cluster.{Id, same, In, Schema, holds_at, before_end, ended, ended_by, is_open, CloneRecord}
use Rattle.model.specs.Catalog.{Catalog, TableRecord, latest_from, end_tables, tables_at, kept_from, owner_of}
use Rattle.model.specs.Journal as made
use Rattle.model.specs.Journal.{NamespaceRestored, source_of, is_in, table_at}
use Rattle.model.specs.Restored.{back_at, tables_back, restored_tables, newest, cloned_tables}
use Rattle.model.specs.Drawn.{version_after, first_version}
use Rattle.model.specs.Answers.{version_at}
use Rattle.model.specs.History.{with}
use Rattle.law_store.proofs.Keys.{either_way}
use Rattle.law_invariants.specs.Invariant.{RecordsRise, TablesStand}
use Rattle.law_invariants.proofs.Finding.{both_pass, same_equal, same_self, in_first, in_second, in_filter, map_in, in_mapped}
use Rattle.law_moves.proofs.Backing.{then_is}
use Rattle.law_clones.proofs.Viewing.{clone, source_is, by_source}
use Rattle.law_clones.proofs.Cataloguing.{MayTake, with_tables, cloned_is}
use Rattle.law_answers.proofs.Looking.{VersionsThen}
use Rattle.law.proofs.Newest.{YoungAfter, latest_there, then_in, in_then}

-- no record of the table in the list has begun by x
abbrev pub NoneBegan : List TableRecord → Id → ℕ → Type 0
NoneBegan rs id x = (q : TableRecord) → In q rs → q.id ≡ id → x < q.from

abbrev pub VersionsFollow : List TableRecord → List made.Change → Type 0
VersionsFollow [] changes = Unit {0}
VersionsFollow (r ∷ rs) changes = ((x : ℕ) → r.from ≤ x → NoneBegan rs r.id x → version_at changes x r.id ≡ r.schema.version) × VersionsFollow rs changes

-- One change more

pub version_early : (n : ℕ) (act : made.ChangeAct) (changes : List made.Change) (x : ℕ) (id : Id) → x < n → version_at (with n act changes) x id ≡ version_at changes x id
version_early n act changes x id less = let early : leb n x ≡ false = grind (arith, nat_tests) in rw early refl

pub version_later : (n : ℕ) (act : made.ChangeAct) (changes : List made.Change) (x : ℕ) (id : Id) → n ≤ x → version_at (with n act changes) x id ≡ version_after act id (version_at changes x id) (table_at changes)
version_later n act changes x id le = let late : leb n x ≡ true = le-leb n x le in rw late refl

-- a change that leaves the table's version
pub version_plain : (n : ℕ) (act : made.ChangeAct) (changes : List made.Change) (x : ℕ) (id : Id) → version_after act id (version_at changes x id) (table_at changes) ≡ version_at changes x id → version_at (with n act changes) x id ≡ version_at changes x id
version_plain n act changes x id e = either_way (leb n x) (λ b. rw b e) (λ b. rw b refl)

-- Lists of records

pub versions_same : (rs : List TableRecord) (changes new : List made.Change) → ((id : Id) (x : ℕ) → version_at new x id ≡ version_at changes x id) → VersionsFollow rs changes → VersionsFollow rs new
versions_same [] changes new same_ h = tt
versions_same (r ∷ rs) changes new same_ h = ((λ x from none. same_ r.id x ∙ h.0 x from none), versions_same rs changes new same_ h.1)

pub versions_appended : (rs qs : List TableRecord) (changes new : List made.Change) → ((r : TableRecord) (x : ℕ) → In r rs → NoneBegan qs r.id x → version_at new x r.id ≡ version_at changes x r.id)
    → VersionsFollow qs new → VersionsFollow rs changes → VersionsFollow (rs ++ qs) new
versions_appended [] qs changes new stays added h = added
versions_appended (r ∷ rs) qs changes new stays added h = (
  (λ x from none. stays r x (inl refl) (λ q isin. none q (in_second rs qs q isin)) ∙ h.0 x from (λ q isin. none q (in_first rs qs q isin))),
  versions_appended rs qs changes new (λ q x isin. stays q x (inr isin)) added h.1,
)

-- where each has the version from its begin on
pub each_follows : (rs : List TableRecord) (changes : List made.Change) → ((r : TableRecord) (x : ℕ) → In r rs → r.from ≤ x → version_at changes x r.id ≡ r.schema.version) → VersionsFollow rs changes
each_follows [] changes each = tt
each_follows (r ∷ rs) changes each = ((λ x from none. each r x (inl refl) from), each_follows rs changes (λ q x isin. each q x (inr isin)))

-- one more record: of its own table none has begun, and other tables keep their versions
pub versions_added : (rs : List TableRecord) (r : TableRecord) (n : ℕ) (act : made.ChangeAct) (changes : List made.Change) → r.from ≡ n → ((id : Id) (x : ℕ) → same r.id id ≡ false → version_after act id (version_at changes x id) (table_at changes) ≡ version_at changes x id)
    → ((x : ℕ) → n ≤ x → version_after act r.id (version_at changes x r.id) (table_at changes) ≡ r.schema.version) → VersionsFollow rs changes → VersionsFollow (rs ++ r ∷ []) (with n act changes)
versions_added rs r n act changes from_is others own h =
    versions_appended rs (r ∷ []) changes (with n act changes)
    (λ q x isin none. either_way (same r.id q.id)
    (λ b. version_early n act changes x q.id (subst (λ k. x < k) from_is (none r (inl refl) (same_equal r.id q.id b))))
    (λ b. version_plain n act changes x q.id (others q.id x b)))
    ((λ x begun none. (let le : n ≤ x = subst (λ k. k ≤ x) from_is begun in version_later n act changes x r.id le ∙ own x le)), tt)
    h

-- an end counts for nothing
pub versions_ended : (rs : List TableRecord) (end_ : TableRecord → Option ℕ) (changes : List made.Change) → VersionsFollow rs changes → VersionsFollow (map {A = TableRecord} (λ r. record r { to = end_ r }) rs) changes
versions_ended [] end_ changes h = tt
versions_ended (r ∷ rs) end_ changes h = (
  (λ x from none. h.0 x from (λ q isin is. none (record q { to = end_ q }) (map_in {A = TableRecord} (λ r. record r { to = end_ r }) rs q isin) is)),
  versions_ended rs end_ changes h.1,
)

pub versions_pruned : (rs : List TableRecord) (old : TableRecord → Bool) (changes : List made.Change) → YoungAfter rs old → VersionsFollow rs changes → VersionsFollow (filter (λ r. not (old r)) rs) changes
versions_pruned [] old changes after h = tt
versions_pruned (r ∷ rs) old changes after h = either_way (old r)
    (λ b. rw b (versions_pruned rs old changes after.1 h.1))
    (λ b. rw b ((λ x from none. h.0 x from (λ q isin is. none q (in_filter rs (λ r. not (old r)) q isin (ap not (after.0 q isin is b))) is)), versions_pruned rs old changes after.1 h.1))

-- What the records give

not_over : (to : Option ℕ) (x : ℕ) → is_open to ≡ true → ended_by x to ≡ true → ⊥
not_over None x o k = true≢false (sym k)
not_over (Some f) x o k = true≢false (sym o)

-- a current record has the newest version
pub version_current : (rs : List TableRecord) (t : TableRecord) (changes : List made.Change) (x : ℕ) → RecordsRise rs → VersionsFollow rs changes → In t rs → is_open t.to ≡ true → t.from ≤ x → version_at changes x t.id ≡ t.schema.version
version_current [] t changes x rise h isin opened from = absurd isin
version_current (r ∷ rs) t changes x rise h (inl e) opened from =
    let none : NoneBegan rs r.id x = λ q isin is. absurd (not_over r.to q.from (ap (λ k. is_open k.to) e ∙ opened) (rise.0 q isin is).1) in
    let begun : r.from ≤ x = subst (λ k. k.from ≤ x) (sym e) from in
    subst (λ k. version_at changes x k.id ≡ k.schema.version) e (h.0 x begun none)
version_current (r ∷ rs) t changes x rise h (inr isin) opened from = version_current rs t changes x rise.1 h.1 isin opened from

-- a record has its version while it holds
pub versions_then : (rs : List TableRecord) (changes : List made.Change) → RecordsRise rs → VersionsFollow rs changes → VersionsThen rs changes
versions_then [] changes rise h r x isin holds = absurd isin
versions_then (r ∷ rs) changes rise h t x (inl e) holds =
    let b : (leb r.from x ≡ true) × (before_end x r.to ≡ true) = both_pass (leb r.from x) (before_end x r.to) (ap (λ k. holds_at x k.from k.to) e ∙ holds) in
    subst (λ k. version_at changes x k.id ≡ k.schema.version) e (h.0 x (leb-true r.from x b.0) (λ q isin is. over r.to q.from b.1 (rise.0 q isin is).1))
  where
    over : (to : Option ℕ) (from : ℕ) → before_end x to ≡ true → ended_by from to ≡ true → x < from
    over None from before e = absurd (let q = e in grind arith)
    over (Some end_) from before e = grind (arith, nat_tests)
versions_then (r ∷ rs) changes rise h t x (inr isin) holds = versions_then rs changes rise.1 h.1 t x isin holds

-- the newest schema has the version that the journal gives once all records of the table have begun
pub version_newest : (rs : List TableRecord) (changes : List made.Change) (id : Id) (x : ℕ) (found : Option Schema) (s : Schema) → VersionsFollow rs changes → ((q : TableRecord) → In q rs → q.id ≡ id → q.from ≤ x) → latest_from rs id found ≡ Some s
    → (version_at changes x id ≡ s.version) ⊎ ((found ≡ Some s) × ((q : TableRecord) → In q rs → q.id ≡ id → ⊥))
version_newest [] changes id x found s h begun e = inr (e, (λ q isin is. isin))
version_newest (r ∷ rs) changes id x found s h begun e = elim (version_newest rs changes id x (if same r.id id then Some r.schema else found) s h.1 (λ q isin. begun q (inr isin)) e) [
  | inl is ↦ inl is
  | inr none ↦ either_way (same r.id id)
      (λ b. let named = same_equal r.id id b in
      let first : Some r.schema ≡ Some s = sym (ap (λ c. cond c (Some r.schema) found) b) ∙ none.0 in
      let schema : r.schema ≡ s = cc in
      inl (ap (version_at changes x) (sym named) ∙ h.0 x (begun r (inl refl) named) (λ q isin is. absurd (none.1 q isin (is ∙ named))) ∙ ap (λ k. k.version) schema))
      (λ b. inr (sym (ap (λ c. cond c (Some r.schema) found) b) ∙ none.0, (λ q isin is. elim isin [ inl k ↦ true≢false (sym (ap (λ i. same i id) (ap (λ j. j.id) k ∙ is) ∙ same_self id) ∙ b) | inr rest ↦ none.1 q rest is ])))
]

-- Restores

pub versions_back : (c : Catalog) (time drawn : ℕ) (changes : List made.Change) (ns : Id) (to point : ℕ) → TablesStand c time drawn changes → kept_from c.kept_from ns ≤ to → ((q : TableRecord) → In q c.tables → q.namespace ≡ ns → q.from < point)
    → VersionsFollow c.tables changes → VersionsFollow (restored_tables c.tables ns to point) (with point (NamespaceRestored ns to) changes)
versions_back c time drawn changes ns to point h known begun follow =
    let rs = c.tables in
    let act = NamespaceRestored ns to in
    versions_appended (end_tables ns point rs) (tables_back rs ns to point) changes (with point act changes)
    (λ r x isin none. either_way (is_in ns (table_at changes to r.id))
    (λ there. let k = in_then c time drawn changes ns to r.id h known there in
    version_early point act changes x r.id (none (back_at rs point k.was) (map_in (back_at rs point) (tables_at rs ns to) k.was k.listed) k.id_is))
    (λ gone. version_plain point act changes x r.id (ap (λ g. if g then version_at changes x r.id + 1 else version_at changes x r.id) gone)))
    (each_follows (tables_back rs ns to point) (with point act changes) (λ r x isin.
    in_mapped (back_at rs point) (λ r. r.from ≤ x → version_at (with point act changes) x r.id ≡ r.schema.version) (tables_at rs ns to)
    (λ q q_in from.
    let is = then_is rs ns to q q_in in
    let there = then_in c time drawn changes ns to q h known q_in in
    let own = latest_there rs q None is.0 in
    let all_begun : (k : TableRecord) → In k rs → k.id ≡ q.id → k.from ≤ x = λ k k_in same_.
    (let owner : Some k.namespace ≡ Some q.namespace = sym (h.owned k k_in) ∙ ap (owner_of c.owners) same_ ∙ h.owned q is.0 in
    let named : k.namespace ≡ q.namespace = cc in
    le_of_lt (lt_of_lt_of_le (begun k k_in (named ∙ is.1.1)) from)) in
    let newest_is : newest rs q ≡ own.0 = ap (λ o. unwrap_or o q.schema) own.1 in
    let before : version_at changes x q.id ≡ own.0.version = elim (version_newest rs changes q.id x None own.0 follow all_begun own.1) [ inl e ↦ e | inr none ↦ absurd (none.1 q is.0 refl) ] in
    version_later point act changes x q.id from ∙ ap (λ g. if g then version_at changes x q.id + 1 else version_at changes x q.id) there ∙ ap (λ v. v + 1) (before ∙ sym (ap (λ k. k.version) newest_is)))
    r isin))
    (versions_ended rs (λ r. if same r.namespace ns then ended point r.to else r.to) changes follow)

-- Clones

pub versions_cloned : (c : Catalog) (time drawn : ℕ) (changes : List made.Change) (r : CloneRecord) (n : ℕ) → TablesStand c time drawn changes → MayTake c drawn changes r → VersionsFollow c.tables changes → VersionsFollow (with_tables c r n) (clone n r changes)
versions_cloned c time drawn changes r n t w follow =
    let act = made.NamespaceCloned r.source r.target_id r.target r.to r.tables in
    versions_appended c.tables (cloned_tables r.tables c.tables r.target_id r.to n) changes (clone n r changes)
    (λ q x isin none. version_plain n act changes x q.id (by_source r.tables q.id
    (λ none. ap (λ o. first_version o (version_at changes x q.id)) none)
    (λ d d_in is. absurd (w.none q isin (let z : Some q.namespace ≡ Some r.target_id = sym (t.owned q isin) ∙ ap (owner_of c.owners) (sym is) ∙ w.target d d_in in cc)))))
    (each_follows (cloned_tables r.tables c.tables r.target_id r.to n) (clone n r changes) (λ q x isin from.
    let k = cloned_is c.tables r.target_id r.to n r.tables q isin in
    let begun : n ≤ x = subst (λ z. z.from ≤ x) (sym k.is) from in
    subst (λ z. version_at (clone n r changes) x z.id ≡ z.schema.version) k.is
    (version_later n act changes x k.pair.target begun ∙ ap (λ o. first_version o (version_at changes x k.pair.target)) (source_is r.tables k.pair w.apart k.paired))))
    follow
