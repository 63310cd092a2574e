-- The records of tables: what is found at a time and now, after one more record and after one ends.
use Rattle.std.proofs.Common.{inl, inr, ℕ, ◌≡◌, ◌<◌, ◌≤◌, Bool, true, false, cond, ◌&&◌, List, [], ◌∷◌, ◌++◌, Option, Some, None, refl, sym, ap, ◌∙◌, arith, le_trans, le_refl, le-leb, leb, ltb}
use Rattle.std.specs.List.{find}
use Rattle.std.specs.Option.{option_map}
use Rattle.std.proofs.lemmas.Bool.{true≢false}
use Rattle.std.proofs.lemmas.Bool.Decides.{nat_tests}
use Rattle.std.specs.Str.{bytes_eq}
use Rattle.model.specs.Cluster.{Id, same, In, is_open, ended, holds_at}
use Rattle.model.specs.Catalog.{TableRecord, KeptFrom, Owner, table_named, current_named, current_table, end_table, owner_of, kept_from, set_kept_from}
use Rattle.model.specs.Restored.{record_at}
use Rattle.law_store.proofs.Keys.{either_way, equal_keys}
use Rattle.law_invariants.specs.Invariant.{IsPast, view_of, view_at}
use Rattle.law_invariants.proofs.Names.{end_past}
use Rattle.law_invariants.proofs.Finding.{both_pass, passes_both, first_fails, second_fails, not_passing, same_equal, same_self, not_same, apart_by_number, in_mapped, find_is, none_found, find_alike, find_mapped, find_through, find_added, find_beside, find_before}

abbrev pub has_title : Id → List ℕ → TableRecord → Bool
has_title ns name r = same r.namespace ns && bytes_eq r.name name

-- a record of a name, or of a table, that holds at x
abbrev pub is_named_at : Id → List ℕ → ℕ → TableRecord → Bool
is_named_at ns name x r = holds_at x r.from r.to && has_title ns name r

abbrev pub is_table_at : Id → ℕ → TableRecord → Bool
is_table_at id x r = holds_at x r.from r.to && same r.id id

-- or that is current
abbrev is_named_now : Id → List ℕ → TableRecord → Bool
is_named_now ns name r = is_open r.to && has_title ns name r

abbrev is_table_now : Id → TableRecord → Bool
is_table_now id r = is_open r.to && same r.id id

pub table_named_found : (rs : List TableRecord) (ns : Id) (name : List ℕ) (x : ℕ) → table_named rs ns name x ≡ find (is_named_at ns name x) rs
table_named_found [] ns name x = refl
table_named_found (r ∷ rs) ns name x = ap (cond (is_named_at ns name x r) (Some r)) (table_named_found rs ns name x)

pub record_at_found : (rs : List TableRecord) (id : Id) (x : ℕ) → record_at rs id x ≡ find (is_table_at id x) rs
record_at_found [] id x = refl
record_at_found (r ∷ rs) id x = ap (cond (is_table_at id x r) (Some r)) (record_at_found rs id x)

current_named_found : (rs : List TableRecord) (ns : Id) (name : List ℕ) → current_named rs ns name ≡ find (is_named_now ns name) rs
current_named_found [] ns name = refl
current_named_found (r ∷ rs) ns name = ap (cond (is_named_now ns name r) (Some r)) (current_named_found rs ns name)

current_table_found : (rs : List TableRecord) (id : Id) → current_table rs id ≡ find (is_table_now id) rs
current_table_found [] id = refl
current_table_found (r ∷ rs) id = ap (cond (is_table_now id r) (Some r)) (current_table_found rs id)

-- Now and at a time from now on

abbrev pub Past : List TableRecord → ℕ → Type 0
Past rs time = (r : TableRecord) → In r rs → IsPast time r.from r.to

-- from the time on a record holds while it is open
pub now_holds : (time x from : ℕ) (to : Option ℕ) → IsPast time from to → time ≤ x → holds_at x from to ≡ is_open to
now_holds time x from None past after = passes_both (leb from x) true (le-leb from x (le_trans past.begun after)) refl
now_holds time x from (Some to) past after = second_fails (leb from x) (ltb x to) (let q = past.ended.1 in grind (arith, nat_tests))

pub current_named_at : (rs : List TableRecord) (time x : ℕ) (ns : Id) (name : List ℕ) → Past rs time → time ≤ x → current_named rs ns name ≡ table_named rs ns name x
current_named_at rs time x ns name past after = current_named_found rs ns name
    ∙ find_alike (is_named_now ns name) (is_named_at ns name x) rs (λ r isin. ap (λ b. b && has_title ns name r) (sym (now_holds time x r.from r.to (past r isin) after)))
    ∙ sym (table_named_found rs ns name x)

pub current_table_at : (rs : List TableRecord) (time x : ℕ) (id : Id) → Past rs time → time ≤ x → current_table rs id ≡ record_at rs id x
current_table_at rs time x id past after = current_table_found rs id
    ∙ find_alike (is_table_now id) (is_table_at id x) rs (λ r isin. ap (λ b. b && same r.id id) (sym (now_holds time x r.from r.to (past r isin) after)))
    ∙ sym (record_at_found rs id x)

-- What is found

-- a record of the name in the namespace that holds at x
pub record IsNamedAt (rs : List TableRecord) (ns : Id) (name : List ℕ) (x : ℕ) (r : TableRecord) : Type 0 where
  pub listed : In r rs
  pub holds : holds_at x r.from r.to ≡ true
  pub namespace_is : r.namespace ≡ ns
  pub name_is : r.name ≡ name

named_passes : (rs : List TableRecord) (ns : Id) (name : List ℕ) (x : ℕ) (r : TableRecord) → In r rs → is_named_at ns name x r ≡ true → IsNamedAt rs ns name x r
named_passes rs ns name x r isin e =
    let outer = both_pass (holds_at x r.from r.to) (has_title ns name r) e in
    let inner = both_pass (same r.namespace ns) (bytes_eq r.name name) outer.1 in
    record { listed = isin; holds = outer.0; namespace_is = same_equal r.namespace ns inner.0; name_is = equal_keys r.name name inner.1 }

pub table_named_is : (rs : List TableRecord) (ns : Id) (name : List ℕ) (x : ℕ) (r : TableRecord) → table_named rs ns name x ≡ Some r → IsNamedAt rs ns name x r
table_named_is rs ns name x r e = let f = find_is (is_named_at ns name x) rs r (sym (table_named_found rs ns name x) ∙ e) in named_passes rs ns name x r f.listed f.passes

-- a record of the table that holds at x
pub record IsTableAt (rs : List TableRecord) (id : Id) (x : ℕ) (r : TableRecord) : Type 0 where
  pub listed : In r rs
  pub holds : holds_at x r.from r.to ≡ true
  pub id_is : r.id ≡ id

pub record_at_is : (rs : List TableRecord) (id : Id) (x : ℕ) (r : TableRecord) → record_at rs id x ≡ Some r → IsTableAt rs id x r
record_at_is rs id x r e = let f = find_is (is_table_at id x) rs r (sym (record_at_found rs id x) ∙ e) in
    let both = both_pass (holds_at x r.from r.to) (same r.id id) f.passes in record { listed = f.listed; holds = both.0; id_is = same_equal r.id id both.1 }

-- a table's current record of a name
pub record IsCurrent (rs : List TableRecord) (ns : Id) (name : List ℕ) (r : TableRecord) : Type 0 where
  pub listed : In r rs
  pub current : is_open r.to ≡ true
  pub namespace_is : r.namespace ≡ ns
  pub name_is : r.name ≡ name

pub current_named_is : (rs : List TableRecord) (ns : Id) (name : List ℕ) (r : TableRecord) → current_named rs ns name ≡ Some r → IsCurrent rs ns name r
current_named_is rs ns name r e =
    let f = find_is (is_named_now ns name) rs r (sym (current_named_found rs ns name) ∙ e) in
    let outer = both_pass (is_open r.to) (has_title ns name r) f.passes in
    let inner = both_pass (same r.namespace ns) (bytes_eq r.name name) outer.1 in
    record { listed = f.listed; current = outer.0; namespace_is = same_equal r.namespace ns inner.0; name_is = equal_keys r.name name inner.1 }

-- an identifier beyond those drawn has no record
pub record_fresh : (rs : List TableRecord) (drawn : ℕ) (id : Id) (x : ℕ) → ((r : TableRecord) → In r rs → r.id.number ≤ drawn) → drawn < id.number → record_at rs id x ≡ None
record_fresh rs drawn id x before new = record_at_found rs id x ∙ none_found (is_table_at id x) rs
    (λ r isin. second_fails (holds_at x r.from r.to) (same r.id id) (not_same r.id id (apart_by_number r.id id (let b = before r isin in omega arith))))

-- One more record

pub named_first : (rs qs : List TableRecord) (ns : Id) (name : List ℕ) (x : ℕ) (r : TableRecord) → table_named rs ns name x ≡ Some r → table_named (rs ++ qs) ns name x ≡ Some r
named_first rs qs ns name x r e = table_named_found (rs ++ qs) ns name x ∙ find_before (is_named_at ns name x) rs qs r (sym (table_named_found rs ns name x) ∙ e)

pub named_last : (rs : List TableRecord) (r : TableRecord) (ns : Id) (name : List ℕ) (x : ℕ) → table_named rs ns name x ≡ None → is_named_at ns name x r ≡ true → table_named (rs ++ r ∷ []) ns name x ≡ Some r
named_last rs r ns name x e t = table_named_found (rs ++ r ∷ []) ns name x ∙ find_added (is_named_at ns name x) rs r (sym (table_named_found rs ns name x) ∙ e) t

pub record_first : (rs qs : List TableRecord) (id : Id) (x : ℕ) (r : TableRecord) → record_at rs id x ≡ Some r → record_at (rs ++ qs) id x ≡ Some r
record_first rs qs id x r e = record_at_found (rs ++ qs) id x ∙ find_before (is_table_at id x) rs qs r (sym (record_at_found rs id x) ∙ e)

pub record_last : (rs : List TableRecord) (r : TableRecord) (id : Id) (x : ℕ) → record_at rs id x ≡ None → is_table_at id x r ≡ true → record_at (rs ++ r ∷ []) id x ≡ Some r
record_last rs r id x e t = record_at_found (rs ++ r ∷ []) id x ∙ find_added (is_table_at id x) rs r (sym (record_at_found rs id x) ∙ e) t

pub record_beside : (rs : List TableRecord) (r : TableRecord) (id : Id) (x : ℕ) → is_table_at id x r ≡ false → record_at (rs ++ r ∷ []) id x ≡ record_at rs id x
record_beside rs r id x n = record_at_found (rs ++ r ∷ []) id x ∙ find_beside (is_table_at id x) rs r n ∙ sym (record_at_found rs id x)

-- Records that end

abbrev pub end_one : Id → ℕ → TableRecord → TableRecord
end_one id at r = record r { to = cond (same r.id id) (ended at r.to) r.to }

pub table_end_past : (rs : List TableRecord) (id : Id) (time at : ℕ) → time ≤ at → Past rs time → Past (end_table id at rs) at
table_end_past rs id time at le past = in_mapped (end_one id at) (λ r. IsPast at r.from r.to) rs (λ r isin. end_past (same r.id id) r.from time at r.to le (past r isin))

-- what holds after an end held before it
ended_held : (x at from : ℕ) (to : Option ℕ) → holds_at x from (ended at to) ≡ true → holds_at x from to ≡ true
ended_held x at from None h = passes_both (leb from x) true (both_pass (leb from x) (ltb x at) h).0 refl
ended_held x at from (Some to) h = h

pub end_held : (b : Bool) (x at from : ℕ) (to : Option ℕ) → holds_at x from (cond b (ended at to) to) ≡ true → holds_at x from to ≡ true
end_held true x at from to h = ended_held x at from to h
end_held false x at from to h = h

-- before the end all holds as it did
ended_same : (x at from : ℕ) (to : Option ℕ) → x < at → holds_at x from (ended at to) ≡ holds_at x from to
ended_same x at from None l = ap (λ b. leb from x && b) (grind (arith, nat_tests))
ended_same x at from (Some to) l = refl

pub end_same : (b : Bool) (x at from : ℕ) (to : Option ℕ) → x < at → holds_at x from (cond b (ended at to) to) ≡ holds_at x from to
end_same true x at from to l = ended_same x at from to l
end_same false x at from to l = refl

-- from the end on it does not hold
ended_over : (time x at from : ℕ) (to : Option ℕ) → IsPast time from to → time ≤ at → at ≤ x → holds_at x from (ended at to) ≡ false
ended_over time x at from None past le after = second_fails (leb from x) (ltb x at) (grind (arith, nat_tests))
ended_over time x at from (Some to) past le after = second_fails (leb from x) (ltb x to) (let q = past.ended.1 in grind (arith, nat_tests))

pub end_over : (id : Id) (time x at : ℕ) (r : TableRecord) → same r.id id ≡ true → IsPast time r.from r.to → time ≤ at → at ≤ x → holds_at x r.from (end_one id at r).to ≡ false
end_over id time x at r t past le after = ap (λ b. holds_at x r.from (cond b (ended at r.to) r.to)) t ∙ ended_over time x at r.from r.to past le after

-- a record of another table stays
pub end_other : (id : Id) (at : ℕ) (r : TableRecord) → same r.id id ≡ false → end_one id at r ≡ r
end_other id at r f = let made : Option ℕ → TableRecord = λ to. record r { to = to } in ap (λ b. made (cond b (ended at r.to) r.to)) f

-- what is found and holds still, is found still
pub named_ended : (rs : List TableRecord) (id : Id) (at : ℕ) (ns : Id) (name : List ℕ) (x : ℕ) (r : TableRecord) → table_named rs ns name x ≡ Some r → holds_at x r.from (end_one id at r).to ≡ true
    → table_named (end_table id at rs) ns name x ≡ Some (end_one id at r)
named_ended rs id at ns name x r e holds =
    let q = sym (table_named_found rs ns name x) ∙ e in
    let f = find_is (is_named_at ns name x) rs r q in
    table_named_found (end_table id at rs) ns name x ∙ find_mapped (is_named_at ns name x) (end_one id at) rs r q
    (passes_both (holds_at x r.from (end_one id at r).to) (has_title ns name r) holds (both_pass (holds_at x r.from r.to) (has_title ns name r) f.passes).1)
    (λ s isin n. not_passing (is_named_at ns name x (end_one id at s)) (λ t.
    let both = both_pass (holds_at x s.from (end_one id at s).to) (has_title ns name s) t in
    true≢false (sym (passes_both (holds_at x s.from s.to) (has_title ns name s) (end_held (same s.id id) x at s.from s.to both.0) both.1) ∙ n)))

pub record_ended : (rs : List TableRecord) (id : Id) (at : ℕ) (k : Id) (x : ℕ) (r : TableRecord) → record_at rs k x ≡ Some r → holds_at x r.from (end_one id at r).to ≡ true
    → record_at (end_table id at rs) k x ≡ Some (end_one id at r)
record_ended rs id at k x r e holds =
    let q = sym (record_at_found rs k x) ∙ e in
    let f = find_is (is_table_at k x) rs r q in
    record_at_found (end_table id at rs) k x ∙ find_mapped (is_table_at k x) (end_one id at) rs r q
    (passes_both (holds_at x r.from (end_one id at r).to) (same r.id k) holds (both_pass (holds_at x r.from r.to) (same r.id k) f.passes).1)
    (λ s isin n. not_passing (is_table_at k x (end_one id at s)) (λ t.
    let both = both_pass (holds_at x s.from (end_one id at s).to) (same s.id k) t in
    true≢false (sym (passes_both (holds_at x s.from s.to) (same s.id k) (end_held (same s.id id) x at s.from s.to both.0) both.1) ∙ n)))

-- from the end on the table has no record
pub record_gone : (rs : List TableRecord) (id : Id) (time at x : ℕ) → Past rs time → time ≤ at → at ≤ x → record_at (end_table id at rs) id x ≡ None
record_gone rs id time at x past le after = record_at_found (end_table id at rs) id x ∙ none_found (is_table_at id x) (end_table id at rs)
    (in_mapped (end_one id at) (λ r. is_table_at id x r ≡ false) rs (λ r isin. either_way (same r.id id)
    (λ t. first_fails (holds_at x r.from (end_one id at r).to) (same r.id id) (end_over id time x at r t (past r isin) le after))
    (λ f. second_fails (holds_at x r.from (end_one id at r).to) (same r.id id) f)))

-- the records of another table stay
pub record_other : (rs : List TableRecord) (id : Id) (at : ℕ) (k : Id) (x : ℕ) → same id k ≡ false → record_at (end_table id at rs) k x ≡ record_at rs k x
record_other [] id at k x apart = refl
record_other (r ∷ rs) id at k x apart = either_way (same r.id id)
    (λ t. let other : same r.id k ≡ false = ap (λ j. same j k) (same_equal r.id id t) ∙ apart in
    rw (second_fails (holds_at x r.from (end_one id at r).to) (same r.id k) other) (rw (second_fails (holds_at x r.from r.to) (same r.id k) other) (record_other rs id at k x apart)))
    (λ f. ap (λ s. cond (is_table_at k x s) (Some s) (record_at (end_table id at rs) k x)) (end_other id at r f)
    ∙ ap (cond (is_table_at k x r) (Some r)) (record_other rs id at k x apart))

view_ended : (id : Id) (at : ℕ) (found : Option TableRecord) → option_map view_of (option_map (end_one id at) found) ≡ option_map view_of found
view_ended id at None = refl
view_ended id at (Some r) = refl

-- before the end a table is as it was
pub view_before : (rs : List TableRecord) (id : Id) (at : ℕ) (k : Id) (x : ℕ) → x < at → view_at (end_table id at rs) x k ≡ view_at rs x k
view_before rs id at k x l =
    ap (option_map view_of) (record_at_found (end_table id at rs) k x
    ∙ find_through (is_table_at k x) (end_one id at) rs (λ r isin. ap (λ b. b && same r.id k) (end_same (same r.id id) x at r.from r.to l))
    ∙ ap (option_map (end_one id at)) (sym (record_at_found rs k x)))
    ∙ view_ended id at (record_at rs k x)

-- Owners and marks

-- an owner stays under further ones
pub owners_first : (os qs : List Owner) (table owner : Id) → owner_of os table ≡ Some owner → owner_of (os ++ qs) table ≡ Some owner
owners_first [] qs table owner e = cc
owners_first (p ∷ ps) qs table owner e = either_way (same p.table table) (λ t. rw t (rw t at e)) (λ n. rw n (owners_first ps qs table owner (rw n at e)))

-- further owners are those of other tables
pub owners_beside : (os qs : List Owner) (table : Id) → ((o : Owner) → In o qs → same o.table table ≡ false) → owner_of os table ≡ None → owner_of (os ++ qs) table ≡ None
owners_beside [] [] table others e = refl
owners_beside [] (q ∷ qs) table others e = rw (others q (inl refl)) (owners_beside [] qs table (λ o h. others o (inr h)) e)
owners_beside (p ∷ ps) qs table others e = either_way (same p.table table) (λ t. cc) (λ n. rw n (owners_beside ps qs table others (rw n at e)))

pub owner_last : (os : List Owner) (o : Owner) → owner_of os o.table ≡ None → owner_of (os ++ o ∷ []) o.table ≡ Some o.namespace
owner_last [] o e = rw (same_self o.table) refl
owner_last (p ∷ ps) o e = either_way (same p.table o.table) (λ t. cc) (λ n. rw n (owner_last ps o (rw n at e)))

pub owner_beside : (os : List Owner) (o : Owner) (table : Id) → same o.table table ≡ false → owner_of (os ++ o ∷ []) table ≡ owner_of os table
owner_beside [] o table n = rw n refl
owner_beside (p ∷ ps) o table n = ap (cond (same p.table table) (Some p.namespace)) (owner_beside ps o table n)

-- a mark that is raised only rises, to no more than its time
pub kept_rises : (ks : List KeptFrom) (ns : Id) (from : ℕ) (k : Id) → kept_from ks k ≤ kept_from (set_kept_from ks ns from) k
kept_rises [] ns from k = omega arith
kept_rises (q ∷ qs) ns from k = either_way (same q.namespace ns)
    (λ t. let alike : same q.namespace k ≡ same ns k = ap (λ j. same j k) (same_equal q.namespace ns t) in
    rw t (either_way (same ns k) (λ s. rw (alike ∙ s) (rw s (omega arith))) (λ s. rw (alike ∙ s) (rw s (le_refl _)))))
    (λ n. rw n (either_way (same q.namespace k) (λ s. rw s (le_refl _)) (λ s. rw s (kept_rises qs ns from k))))

pub kept_beside : (ks : List KeptFrom) (ns : Id) (from : ℕ) (k : Id) → same ns k ≡ false → kept_from (set_kept_from ks ns from) k ≡ kept_from ks k
kept_beside [] ns from k apart = rw apart refl
kept_beside (q ∷ qs) ns from k apart = either_way (same q.namespace ns)
    (λ e. let far : same q.namespace k ≡ false = ap (λ i. same i k) (same_equal q.namespace ns e) ∙ apart in rw (e, apart, far) refl)
    (λ e. rw e (ap (cond (same q.namespace k) q.from) (kept_beside qs ns from k apart)))

pub kept_by : (ks : List KeptFrom) (ns : Id) (from time : ℕ) (k : Id) → kept_from ks k ≤ time → from ≤ time → kept_from (set_kept_from ks ns from) k ≤ time
kept_by [] ns from time k le l = either_way (same ns k) (λ s. rw s l) (λ s. rw s (omega arith))
kept_by (q ∷ qs) ns from time k le l = either_way (same q.namespace ns)
    (λ t. let alike : same q.namespace k ≡ same ns k = ap (λ j. same j k) (same_equal q.namespace ns t) in
    rw t (either_way (same ns k) (λ s. rw s (let h : q.from ≤ time = rw (alike ∙ s) at le in omega arith)) (λ s. rw s (rw (alike ∙ s) at le))))
    (λ n. rw n (either_way (same q.namespace k) (λ s. rw s (rw s at le)) (λ s. rw s (kept_by qs ns from time k (rw s at le) l))))
