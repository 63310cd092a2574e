-- Records of tables: the book's look-ups by the last place of a name or of an identifier, and one more or one that ends.
use Rattle.std.proofs.Common.{ℕ, zero, suc, slice_set, ◌≡◌, ◌<◌, ◌+◌, Bool, true, false, ◌&&◌, cond, List, [], ◌∷◌, ◌++◌, map, Option, Some, None, if◌then◌else◌, length, filter, slice_get, get_or, take, nat_eq, nat_le, ◌%◌, ◌^◌, refl, sym, ap, ◌∙◌, arith}
use Rattle.std.proofs.lemmas.Grind.{common_steps}
use Rattle.std.specs.List.{find}
use Rattle.std.specs.Option.{option_map, option_or}
use Rattle.std.specs.Str.{bytes_eq}
use Rattle.std.specs.Cmp.{IsEquivalence}
use Rattle.row_values.specs.Ids.{Id, same}
use Rattle.row_values.specs.Schema.{Schema}
use Rattle.model.specs.Times.{is_open, ended, ended_by, before_end, holds_at}
use Rattle.model.specs.Catalog.{TableRecord, current_named, current_table, current_tables, table_named, latest, latest_from, end_table}
use Rattle.model.specs.Restored.{record_at}
use Rattle.newest_index.proofs.Walks.{last_none, last_some}
use Rattle.newest_index.proofs.Places.{got}
use Rattle.newest_index.proofs.Gathering.{place_within}
use Rattle.newest_index.specs.Newest.{last_place, if_open, record_of, open_at, changed_at, changed_here, InTurn}
use Rattle.newest_index.proofs.Opens.{last_place-at, last_place-same, none_at, keys_kept}
use Rattle.newest_index.proofs.Turns.{next_of, last_place-cons, last_place-map, find_last, changes_last, turns_last, in_turn-next, in_turn-map}
use Rattle.catalog_core.specs.Codes.{table_code, code_in}
use Rattle.catalog_core.specs.Kept.{table_id, is_begun, table_space, is_current_table, same_table_name, same_table_id, table_over, table_closed, begun_by, is_sought, stood_at, over_or_open, ends_by, namespace_of, is_named, one_if}
use Rattle.catalog_core.specs.Begins.{Clears}
use Rattle.catalog_core.proofs.Names.{bytes_meet, code_apart, open_at-record, ended_to, count_set}

abbrev pub has_id : Id → TableRecord → Bool
has_id id r = same r.id id

if_cond : {A : Type 0} (a b : Bool) (x y z : A) → a ≡ b → y ≡ z → (if a then x else y) ≡ cond b x z
if_cond true true x y z e same = refl
if_cond false false x y z e same = same
if_cond true false x y z e same = absurd (cc)
if_cond false true x y z e same = absurd (cc)

and_left : (a b : Bool) → (a && b) ≡ true → a ≡ true
and_left true b e = refl
and_left false b e = e

and_right : (a b : Bool) → (a && b) ≡ true → b ≡ true
and_right true b e = e
and_right false b e = absurd (cc)

and_both : (a b : Bool) → a ≡ true → b ≡ true → (a && b) ≡ true
and_both true b first second = second
and_both false b first second = absurd (cc)

and_false : (a b : Bool) → b ≡ false → (a && b) ≡ false
and_false true b e = e
and_false false b e = refl

and_order : (a b m : Bool) → ((a && b) && m) ≡ (b && (a && m))
and_order true true m = refl
and_order true false m = refl
and_order false true m = refl
and_order false false m = refl

-- Each look-up is a find

pub current_named-find : (rs : List TableRecord) (ns : Id) (name : List ℕ) → current_named rs ns name ≡ find (λ r. is_open r.to && is_sought ns name None r) rs
current_named-find [] ns name = refl
current_named-find (r ∷ rs) ns name =
    let m = is_open r.to && (same r.namespace ns && bytes_eq r.name name) in
    if_cond m m (Some r) (current_named rs ns name) (find (λ r. is_open r.to && is_sought ns name None r) rs) refl (current_named-find rs ns name)

pub current_table-find : (rs : List TableRecord) (id : Id) → current_table rs id ≡ find (λ r. is_open r.to && same r.id id) rs
current_table-find [] id = refl
current_table-find (r ∷ rs) id =
    let m = is_open r.to && same r.id id in
    if_cond m m (Some r) (current_table rs id) (find (λ r. is_open r.to && same r.id id) rs) refl (current_table-find rs id)

pub table_named-find : (rs : List TableRecord) (ns : Id) (name : List ℕ) (x : ℕ) → table_named rs ns name x ≡ find (λ r. before_end x r.to && is_sought ns name (Some x) r) rs
table_named-find [] ns name x = refl
table_named-find (r ∷ rs) ns name x =
    if_cond (holds_at x r.from r.to && (same r.namespace ns && bytes_eq r.name name)) (before_end x r.to && is_sought ns name (Some x) r) (Some r) (table_named rs ns name x)
    (find (λ r. before_end x r.to && is_sought ns name (Some x) r) rs)
    (and_order (nat_le r.from x) (before_end x r.to) (same r.namespace ns && bytes_eq r.name name)) (table_named-find rs ns name x)

and_true : (a b : Bool) → b ≡ true → (a && b) ≡ a
and_true true b e = e
and_true false b e = refl

pub record_at-find : (rs : List TableRecord) (id : Id) (x : ℕ) → record_at rs id x ≡ find (λ r. before_end x r.to && is_begun id x r) rs
record_at-find [] id x = refl
record_at-find (r ∷ rs) id x =
    if_cond (holds_at x r.from r.to && same r.id id) (before_end x r.to && is_begun id x r) (Some r) (record_at rs id x)
    (find (λ r. before_end x r.to && is_begun id x r) rs)
    (and_order (nat_le r.from x) (before_end x r.to) (same r.id id)) (record_at-find rs id x)

or_schema : (b : Bool) (l found : Option Schema) (s : Schema) → option_or l (if b then Some s else found) ≡ option_or (option_or l (if b then Some s else None)) found
or_schema true None found s = refl
or_schema false None found s = refl
or_schema b (Some t) found s = refl

abbrev pub ends : Id → ℕ → TableRecord → TableRecord
ends id at r = record r { to = if same r.id id then ended at r.to else r.to }

-- the newest record's schema is the latest

abbrev pub schema_of : TableRecord → Schema
schema_of r = r.schema

latest_from-start : (rs : List TableRecord) (id : Id) (found : Option Schema) → latest_from rs id found ≡ option_or (latest_from rs id None) found
latest_from-start [] id found = refl
latest_from-start (r ∷ rs) id found =
    latest_from-start rs id (if same r.id id then Some r.schema else found)
    ∙ or_schema (same r.id id) (latest_from rs id None) found r.schema
    ∙ ap (λ o. option_or o found) (sym (latest_from-start rs id (if same r.id id then Some r.schema else None)))

latest_last : (rs : List TableRecord) (id : Id) → latest rs id ≡ option_map schema_of (record_of rs (last_place (has_id id) rs))
latest_last [] id = refl
latest_last (r ∷ rs) id =
    latest_from-start rs id (if same r.id id then Some r.schema else None)
    ∙ ap (λ o. option_or o (if same r.id id then Some r.schema else None)) (latest_last rs id)
    ∙ by (last_place (has_id id) rs) refl (same r.id id)
    ∙ sym (ap (λ p. option_map schema_of (record_of (r ∷ rs) p)) (last_place-cons (has_id id) r rs))
  where
    by : (o : Option ℕ) → last_place (has_id id) rs ≡ o → (b : Bool)
        → option_or (option_map schema_of (record_of rs (last_place (has_id id) rs))) (if b then Some r.schema else None)
        ≡ option_map schema_of (record_of (r ∷ rs) (option_or (next_of (last_place (has_id id) rs)) (if b then Some 0 else None)))
    by None e true = ap (λ o. option_or (option_map schema_of (record_of rs o)) (Some r.schema)) e ∙ sym (ap (λ o. option_map schema_of (record_of (r ∷ rs) (option_or (next_of o) (Some 0)))) e)
    by None e false = ap (λ o. option_or (option_map schema_of (record_of rs o)) None) e ∙ sym (ap (λ o. option_map schema_of (record_of (r ∷ rs) (option_or (next_of o) None))) e)
    by (Some p) e b =
        let l = last_place-at (has_id id) rs p e in
        ap (λ o. option_or (option_map schema_of (record_of rs o)) (if b then Some r.schema else None)) e
        ∙ ap (λ o. option_or (option_map schema_of o) (if b then Some r.schema else None)) l.1
        ∙ sym (ap (option_map schema_of) l.1)
        ∙ sym (ap (λ o. option_map schema_of (record_of (r ∷ rs) (option_or (next_of o) (if b then Some 0 else None)))) e)

-- Names

over_shut : (x : ℕ) (o : Option ℕ) → ended_by x o ≡ true → is_open o ≡ false
over_shut x None e = absurd (cc)
over_shut x (Some t) e = refl

over_ended : (x y : ℕ) (o : Option ℕ) → ended_by y o ≡ true → nat_le y x ≡ true → before_end x o ≡ false
over_ended x y None e le = absurd (cc)
over_ended x y (Some t) e le = grind (arith, common_steps, e, le)

module _ (eq : Id → Id → Bool) (laws : IsEquivalence eq) (agree : (a b : Id) → eq a b ≡ same a b) (equal : (a b : Id) → same a b ≡ true → a ≡ b) where
  id_test : (id k : Id) → eq id k ≡ same k id
  id_test id k = laws.symm id k ∙ agree k id

  meet : (a b id : Id) → same a id ≡ true → same b id ≡ true → same a b ≡ true
  meet a b id first second = sym (agree a b) ∙ laws.congr a id b (agree a id ∙ first) ∙ id_test id b ∙ second

  -- the records of other names by their numbers
  pub other_table : (ns : Id) (name : List ℕ) (begun : Option ℕ) (r : TableRecord) → nat_eq (code_in ns name) (table_code r) ≡ false → is_sought ns name begun r ≡ false
  other_table ns name begun r apart = and_false (begun_by begun r.from) (same r.namespace ns && bytes_eq r.name name) (by (same r.namespace ns) refl)
    where
      by : (b : Bool) → same r.namespace ns ≡ b → (same r.namespace ns && bytes_eq r.name name) ≡ false
      by false e = ap (λ b. b && bytes_eq r.name name) e
      by true e =
          and_false (same r.namespace ns) (bytes_eq r.name name)
          (code_apart (ns.number % 2 ^ 32) name r.name (ap (λ (m : Id). nat_eq (code_in ns name) (code_in m r.name)) (sym (equal r.namespace ns e)) ∙ apart))

  sought_meet : (ns : Id) (name : List ℕ) (begun : Option ℕ) (r s : TableRecord) → is_sought ns name begun r ≡ true → is_sought ns name begun s ≡ true → same_table_name r s ≡ true
  sought_meet ns name begun r s first second =
      let a = and_right (begun_by begun r.from) (same r.namespace ns && bytes_eq r.name name) first in
      let b = and_right (begun_by begun s.from) (same s.namespace ns && bytes_eq s.name name) second in
      and_both (same r.namespace s.namespace) (bytes_eq r.name s.name)
      (meet r.namespace s.namespace ns (and_left (same r.namespace ns) (bytes_eq r.name name) a) (and_left (same s.namespace ns) (bytes_eq s.name name) b))
      (bytes_meet r.name s.name name (and_right (same r.namespace ns) (bytes_eq r.name name) a) (and_right (same s.namespace ns) (bytes_eq s.name name) b))

  pub named_here : (rs : List TableRecord) (ns : Id) (name : List ℕ) → InTurn same_table_name table_over rs
      → current_named rs ns name ≡ open_at is_current_table rs (last_place (is_sought ns name None) rs)
  named_here rs ns name turn =
      current_named-find rs ns name
      ∙ find_last (is_sought ns name None) is_current_table rs
      (turns_last same_table_name table_over (is_sought ns name None) is_current_table rs (sought_meet ns name None) (λ r s at over. over_shut s.from r.to over) turn)
      ∙ sym (open_at-record is_current_table rs (last_place (is_sought ns name None) rs))

  pub past_here : (rs : List TableRecord) (ns : Id) (name : List ℕ) (x : ℕ) → InTurn same_table_name table_over rs
      → table_named rs ns name x ≡ open_at (stood_at x) rs (last_place (is_sought ns name (Some x)) rs)
  past_here rs ns name x turn =
      table_named-find rs ns name x
      ∙ find_last (is_sought ns name (Some x)) (stood_at x) rs
      (turns_last same_table_name table_over (is_sought ns name (Some x)) (stood_at x) rs (sought_meet ns name (Some x))
      (λ r s at over. over_ended x s.from r.to over (and_left (nat_le s.from x) (same s.namespace ns && bytes_eq s.name name) at)) turn)
      ∙ sym (open_at-record (stood_at x) rs (last_place (is_sought ns name (Some x)) rs))

  -- Identifiers

  pub id_place : (rs : List TableRecord) (id : Id) → last_place (eq id) (map table_id rs) ≡ last_place (has_id id) rs
  id_place rs id = last_place-map table_id (eq id) rs ∙ last_place-same (λ r. eq id r.id) (has_id id) (λ r. id_test id r.id) rs

  only_id : (rs : List TableRecord) (id : Id) → InTurn same_table_id table_over rs → (i j : ℕ) (r s : TableRecord) → i < j → slice_get rs i ≡ Some r → slice_get rs j ≡ Some s
      → has_id id r ≡ true → has_id id s ≡ true → is_current_table r ≡ false
  only_id rs id turn = turns_last same_table_id table_over (has_id id) is_current_table rs
      (λ r s first second. meet r.id s.id id first second) (λ r s at over. over_shut s.from r.to over) turn

  pub table_here : (rs : List TableRecord) (id : Id) → InTurn same_table_id table_over rs
      → current_table rs id ≡ open_at is_current_table rs (last_place (eq id) (map table_id rs))
  table_here rs id turn =
      current_table-find rs id
      ∙ find_last (has_id id) is_current_table rs (only_id rs id turn)
      ∙ sym (open_at-record is_current_table rs (last_place (has_id id) rs))
      ∙ sym (ap (open_at is_current_table rs) (id_place rs id))

  begun_meet : (id : Id) (x : ℕ) (r s : TableRecord) → is_begun id x r ≡ true → is_begun id x s ≡ true → same_table_id r s ≡ true
  begun_meet id x r s first second = meet r.id s.id id (and_right (nat_le r.from x) (same r.id id) first) (and_right (nat_le s.from x) (same s.id id) second)

  pub record_here : (rs : List TableRecord) (id : Id) (x : ℕ) → InTurn same_table_id table_over rs
      → record_at rs id x ≡ open_at (stood_at x) rs (last_place (is_begun id x) rs)
  record_here rs id x turn =
      record_at-find rs id x
      ∙ find_last (is_begun id x) (stood_at x) rs
      (turns_last same_table_id table_over (is_begun id x) (stood_at x) rs (begun_meet id x)
      (λ r s at over. over_ended x s.from r.to over (and_left (nat_le s.from x) (same s.id id) at)) turn)
      ∙ sym (open_at-record (stood_at x) rs (last_place (is_begun id x) rs))

  -- the record of a place that the walk stops at
  pub begun_at : (rs : List TableRecord) (id : Id) (x n p : ℕ) (q : TableRecord) → last_place (eq id) (take n (map table_id rs)) ≡ Some p → q ≡ get_or rs p q
      → last_place (is_begun id x) (take n rs) ≡ (if nat_le q.from x then Some p else last_place (is_begun id x) (take p rs))
  begun_at rs id x n p q at here =
      let w = place_within table_id (eq id) rs n p at in
      let it : q ≡ w.1 = got rs p q w.1 w.2 here in
      let mine : same w.1.id id ≡ true = sym (id_test id w.1.id) ∙ w.3 in
      last_some table_id (eq id) (is_begun id x) (λ r other. and_false (nat_le r.from x) (same r.id id) (sym (id_test id r.id) ∙ other)) rs n p w.1 w.2 at
      ∙ ap (λ b. if b then Some p else last_place (is_begun id x) (take p rs)) (and_true (nat_le w.1.from x) (same w.1.id id) mine ∙ ap (λ (r : TableRecord). nat_le r.from x) (sym it))

  pub begun_none : (rs : List TableRecord) (id : Id) (x n : ℕ) → last_place (eq id) (take n (map table_id rs)) ≡ None → last_place (is_begun id x) (take n rs) ≡ None
  begun_none rs id x n none =
      last_none table_id (eq id) (is_begun id x) (λ r other. and_false (nat_le r.from x) (same r.id id) (sym (id_test id r.id) ∙ other)) rs n none

  pub latest_here : (rs : List TableRecord) (id : Id) → latest rs id ≡ option_map schema_of (record_of rs (last_place (eq id) (map table_id rs)))
  latest_here rs id = latest_last rs id ∙ sym (ap (λ p. option_map schema_of (record_of rs p)) (id_place rs id))

  pub end_here : (rs : List TableRecord) (id : Id) (at : ℕ) → InTurn same_table_id table_over rs
      → end_table id at rs ≡ changed_at (table_closed at) rs (last_place (eq id) (map table_id rs))
  end_here rs id at turn =
      changes_last (has_id id) is_current_table (table_closed at) (ends id at) rs (only_id rs id turn)
      (λ r mine. ap (λ b. record r { to = if b then ended at r.to else r.to }) mine)
      (λ r none. ap (λ t. record r { to = t }) (ended_to (same r.id id) r.to at none))
      ∙ sym (ap (changed_at (table_closed at) rs) (id_place rs id))

-- what an end leaves
pub ended_codes : (rs : List TableRecord) (id : Id) (at : ℕ) → map table_code (end_table id at rs) ≡ map table_code rs
ended_codes rs id at = keys_kept table_code (ends id at) rs (λ r. refl)

pub ended_ids : (rs : List TableRecord) (id : Id) (at : ℕ) → map table_id (end_table id at rs) ≡ map table_id rs
ended_ids rs id at = keys_kept table_id (ends id at) rs (λ r. refl)

pub ended_spaces : (rs : List TableRecord) (id : Id) (at : ℕ) → map table_space (end_table id at rs) ≡ map table_space rs
ended_spaces rs id at = keys_kept table_space (ends id at) rs (λ r. refl)

pub still_over : (b : Bool) (o : Option ℕ) (x at : ℕ) → ended_by x o ≡ true → ended_by x (if b then ended at o else o) ≡ true
still_over true None x at e = absurd (cc)
still_over true (Some t) x at e = e
still_over false o x at e = e

pub ended_names : (rs : List TableRecord) (id : Id) (at : ℕ) → InTurn same_table_name table_over rs → InTurn same_table_name table_over (end_table id at rs)
ended_names rs id at turn = in_turn-map same_table_name table_over (ends id at) rs (λ r s like. like) (λ r s over. still_over (same r.id id) r.to s.from at over) turn

pub ended_by_id : (rs : List TableRecord) (id : Id) (at : ℕ) → InTurn same_table_id table_over rs → InTurn same_table_id table_over (end_table id at rs)
ended_by_id rs id at turn = in_turn-map same_table_id table_over (ends id at) rs (λ r s like. like) (λ r s over. still_over (same r.id id) r.to s.from at over) turn

-- One more

-- of records that do not end after a time, one that is over is over by then
pub past_at : (at : ℕ) (rs : List TableRecord) (i : ℕ) (r : TableRecord) → ends_by at rs ≡ true → slice_get rs i ≡ Some r → over_or_open at r.to ≡ true
past_at at [] i r past is = absurd (cc)
past_at at (s ∷ ss) zero r past is = let same : s ≡ r = cc in ap (λ (t : TableRecord). over_or_open at t.to) (sym same) ∙ and_left (over_or_open at s.to) (ends_by at ss) past
past_at at (s ∷ ss) (suc i) r past is = past_at at ss i r (and_right (over_or_open at s.to) (ends_by at ss) past) is

over_by : (o : Option ℕ) (b : Bool) (at : ℕ) → (is_open o && b) ≡ false → b ≡ true → over_or_open at o ≡ true → ended_by at o ≡ true
over_by None b at e h past = let q : true ≡ false = sym h ∙ e in absurd (cc)
over_by (Some t) b at e h past = past

-- where no record ends later, none that is like a record does
pub clears_all : (rs : List TableRecord) (r : TableRecord) → ends_by r.from rs ≡ true → Clears rs r
clears_all rs r past = record { names = λ i s is like. past_at r.from rs i s past is; ids = λ i s is like. past_at r.from rs i s past is }

pub added_name : (rs : List TableRecord) (r : TableRecord) → current_named rs r.namespace r.name ≡ None → Clears rs r
    → InTurn same_table_name table_over rs → InTurn same_table_name table_over (rs ++ r ∷ [])
added_name rs r free past turn =
    in_turn-next same_table_name table_over rs r
    (λ i s is like. over_by s.to (same s.namespace r.namespace && bytes_eq s.name r.name) r.from
    (none_at (λ t. is_open t.to && is_sought r.namespace r.name None t) rs i s (sym (current_named-find rs r.namespace r.name) ∙ free) is) like
    (past.names i s is like)) turn

pub added_id : (rs : List TableRecord) (r : TableRecord) → current_table rs r.id ≡ None → Clears rs r
    → InTurn same_table_id table_over rs → InTurn same_table_id table_over (rs ++ r ∷ [])
added_id rs r fresh past turn =
    in_turn-next same_table_id table_over rs r
    (λ i s is like. over_by s.to (same s.id r.id) r.from
    (none_at (λ t. is_open t.to && same t.id r.id) rs i s (sym (current_table-find rs r.id) ∙ fresh) is) like
    (past.ids i s is like)) turn

-- Counts

abbrev pub of_namespace : Id → TableRecord → Bool
of_namespace ns r = is_open r.to && same r.namespace ns

closes : (o : Option ℕ) (b : Bool) (at : ℕ) → (is_open (ended at o) && b) ≡ false
closes None b at = refl
closes (Some t) b at = refl

count_here : (rs : List TableRecord) (p : ℕ) (ns : Id) (at : ℕ) (r : TableRecord) (o : Option ℕ) → slice_get rs p ≡ Some r → r.to ≡ o
    → length (filter (of_namespace ns) (slice_set rs p (table_closed at r))) + one_if (is_named (namespace_of (if is_open o then Some r else None)) ns) ≡ length (filter (of_namespace ns) rs)
count_here rs p ns at r None is e =
    let set = count_set (of_namespace ns) rs p r (table_closed at r) is in
    let shut = ap one_if (closes r.to (same r.namespace ns) at) in
    let was = ap (λ t. one_if (is_open t && same r.namespace ns)) e in
    omega (arith, set, shut, was)
count_here rs p ns at r (Some t) is e =
    let set = count_set (of_namespace ns) rs p r (table_closed at r) is in
    let shut = ap one_if (closes r.to (same r.namespace ns) at) in
    let was = ap (λ u. one_if (is_open u && same r.namespace ns)) e in
    omega (arith, set, shut, was)

pub count_ended : (rs : List TableRecord) (p : Option ℕ) (ns : Id) (at : ℕ)
    → length (current_tables (changed_at (table_closed at) rs p) ns) + one_if (is_named (namespace_of (open_at is_current_table rs p)) ns) ≡ length (current_tables rs ns)
count_ended rs None ns at = omega arith
count_ended rs (Some p) ns at = by (slice_get rs p) refl
  where
    by : (o : Option TableRecord) → slice_get rs p ≡ o
        → length (current_tables (changed_here (table_closed at) rs p o) ns) + one_if (is_named (namespace_of (if_open is_current_table o)) ns) ≡ length (current_tables rs ns)
    by None is = omega arith
    by (Some r) is = count_here rs p ns at r r.to is refl
