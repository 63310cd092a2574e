-- The tables that a namespace had at a time may begin again where its current ones end.
use Rattle.std.proofs.Common.{ℕ, zero, suc, ◌≡◌, ◌⊎◌, inl, inr, Bool, true, false, ◌&&◌, cond, List, [], ◌∷◌, ◌++◌, map, Option, Some, None, if◌then◌else◌, filter, slice_get, nat_le, nat_lt, refl, sym, ap, ◌∙◌, arith}
use Rattle.std.proofs.lemmas.Grind.{common_steps}
use Rattle.std.specs.List.{find}
use Rattle.std.specs.Option.{option_or}
use Rattle.std.specs.Str.{bytes_eq}
use Rattle.std.proofs.lemmas.Slice.Eq.{bytes_eq-Decides}
use Rattle.std.proofs.lemmas.List.Folds.{find-append}
use Rattle.row_values.specs.Ids.{Id, same}
use Rattle.row_values.specs.Elements.{AllOf}
use Rattle.model.specs.Times.{is_open, ended_by, before_end, holds_at}
use Rattle.model.specs.Catalog.{TableRecord, current_named, current_table, put_table, by_id, tables_at, end_tables}
use Rattle.model.specs.Restored.{back_at, tables_back}
use Rattle.newest_index.specs.Newest.{InTurn}
use Rattle.catalog_core.specs.Kept.{same_table_name, same_table_id, table_over, over_or_open, ends_by, ends_in, stands_in}
use Rattle.catalog_core.specs.Begins.{Clears, BeginsAll, IsHome}
use Rattle.catalog_core.proofs.Names.{both_false, bytes_equal}
use Rattle.catalog_core.proofs.InSpaces.{closes, gone_by}
use Rattle.catalog_core.proofs.Replaced.{and_left, and_right, and_both, still_past}

pub never : (b : Bool) → (b ≡ true → ⊥) → b ≡ false
never true deny = absurd (deny refl)
never false deny = refl

-- Records that differ

-- two records that share neither a name nor an identifier
pub record Differ (r s : TableRecord) : Type 0 where
  pub names : same_table_name r s ≡ false
  pub names_back : same_table_name s r ≡ false
  pub ids : same_table_id r s ≡ false
  pub ids_back : same_table_id s r ≡ false

abbrev pub Apart : List TableRecord → Type 0
Apart [] = Unit {0}
Apart (r ∷ rs) = AllOf (Differ r) rs × Apart rs

turned : (r s : TableRecord) → Differ r s → Differ s r
turned r s d = record { names = d.names_back; names_back = d.names; ids = d.ids_back; ids_back = d.ids }

-- put in order, they still differ
all_put : (P : TableRecord → Type 0) (t : TableRecord) (ts : List TableRecord) → P t → AllOf P ts → AllOf P (put_table t ts)
all_put P t [] p all = (p, all)
all_put P t (u ∷ us) p all = by (nat_lt t.id.number u.id.number) (all_put P t us p all.1)
  where
    by : (b : Bool) → AllOf P (put_table t us) → AllOf P (if b then t ∷ u ∷ us else u ∷ put_table t us)
    by true rest = (p, all)
    by false rest = (all.0, rest)

apart_put : (t : TableRecord) (ts : List TableRecord) → AllOf (Differ t) ts → Apart ts → Apart (put_table t ts)
apart_put t [] all apart = (all, apart)
apart_put t (u ∷ us) all apart = by (nat_lt t.id.number u.id.number) (apart_put t us all.1 apart.1)
  where
    by : (b : Bool) → Apart (put_table t us) → Apart (if b then t ∷ u ∷ us else u ∷ put_table t us)
    by true rest = (all, apart)
    by false rest = (all_put (Differ u) t us (turned t u all.0) apart.0, rest)

all_by_id : (P : TableRecord → Type 0) (ts : List TableRecord) → AllOf P ts → AllOf P (by_id ts)
all_by_id P [] all = all
all_by_id P (t ∷ ts) all = all_put P t (by_id ts) all.0 (all_by_id P ts all.1)

apart_by_id : (ts : List TableRecord) → Apart ts → Apart (by_id ts)
apart_by_id [] apart = apart
apart_by_id (t ∷ ts) apart = apart_put t (by_id ts) (all_by_id (Differ t) ts apart.0) (apart_by_id ts apart.1)

-- of those that stand at one time no two share a name or an identifier

pub over_at : (x from : ℕ) (o : Option ℕ) → ended_by from o ≡ true → nat_le from x ≡ true → before_end x o ≡ true → ⊥
over_at x from None over le before = absurd (cc)
over_at x from (Some t) over le before = grind (arith, common_steps, over, le, before)

tail_turn : {alike over : TableRecord → TableRecord → Bool} (r : TableRecord) (rs : List TableRecord) → InTurn alike over (r ∷ rs) → InTurn alike over rs
tail_turn r rs turn = record { turns = λ i j s t lt is at like. turn.turns (suc i) (suc j) s t (omega (arith, lt)) is at like }

pub swap_bytes : (xs ys : List ℕ) → bytes_eq xs ys ≡ true → bytes_eq ys xs ≡ true
swap_bytes xs ys e = (bytes_eq-Decides ys xs).1 (sym (bytes_equal xs ys e))

-- what each record that passes a test meets
all_filter : (P : TableRecord → Type 0) (q : TableRecord → Bool) (rs : List TableRecord)
    → ((j : ℕ) (s : TableRecord) → slice_get rs j ≡ Some s → q s ≡ true → P s) → AllOf P (filter q rs)
all_filter P q [] each = tt
all_filter P q (s ∷ ss) each = by (q s) refl (all_filter P q ss (λ j t at. each (suc j) t at))
  where
    by : (b : Bool) → q s ≡ b → AllOf P (filter q ss) → AllOf P (cond b (s ∷ filter q ss) (filter q ss))
    by true e rest = (each 0 s refl e, rest)
    by false e rest = rest

all_more : (P Q : TableRecord → Type 0) (ts : List TableRecord) → ((t : TableRecord) → P t → Q t) → AllOf P ts → AllOf Q ts
all_more P Q [] more all = tt
all_more P Q (t ∷ ts) more all = (more t all.0, all_more P Q ts more all.1)

all_both : (P Q R : TableRecord → Type 0) (ts : List TableRecord) → ((t : TableRecord) → P t → Q t → R t) → AllOf P ts → AllOf Q ts → AllOf R ts
all_both P Q R [] more all each = tt
all_both P Q R (t ∷ ts) more all each = (more t all.0 each.0, all_both P Q R ts more all.1 each.1)

all_map : (P Q : TableRecord → Type 0) (f : TableRecord → TableRecord) (ts : List TableRecord) → ((t : TableRecord) → P t → Q (f t)) → AllOf P ts → AllOf Q (map f ts)
all_map P Q f [] more all = tt
all_map P Q f (t ∷ ts) more all = (more t all.0, all_map P Q f ts more all.1)

module _ (equal : (a b : Id) → same a b ≡ true → a ≡ b) where
  swap_same : (a b : Id) → same a b ≡ true → same b a ≡ true
  swap_same a b e = ap (λ k. same k a) (sym (equal a b e)) ∙ ap (same a) (equal a b e) ∙ e

  swap_name : (r s : TableRecord) → same_table_name r s ≡ true → same_table_name s r ≡ true
  swap_name r s e =
      and_both (same s.namespace r.namespace) (bytes_eq s.name r.name)
      (swap_same r.namespace s.namespace (and_left (same r.namespace s.namespace) (bytes_eq r.name s.name) e))
      (swap_bytes r.name s.name (and_right (same r.namespace s.namespace) (bytes_eq r.name s.name) e))

  differ : (ns : Id) (x : ℕ) (r : TableRecord) (rs : List TableRecord) → InTurn same_table_name table_over (r ∷ rs) → InTurn same_table_id table_over (r ∷ rs)
      → stands_in ns x r ≡ true → (j : ℕ) (s : TableRecord) → slice_get rs j ≡ Some s → stands_in ns x s ≡ true → Differ r s
  differ ns x r rs names ids stands j s there standing =
      let before = and_right (nat_le r.from x) (before_end x r.to) (and_left (holds_at x r.from r.to) (same r.namespace ns) stands) in
      let begun = and_left (nat_le s.from x) (before_end x s.to) (and_left (holds_at x s.from s.to) (same s.namespace ns) standing) in
      let no_name : same_table_name r s ≡ true → ⊥ = λ e. over_at x s.from r.to (names.turns 0 (suc j) r s (omega arith) refl there e) begun before in
      let no_id : same_table_id r s ≡ true → ⊥ = λ e. over_at x s.from r.to (ids.turns 0 (suc j) r s (omega arith) refl there e) begun before in
      record {
        names = never (same_table_name r s) no_name;
        names_back = never (same_table_name s r) (λ e. no_name (swap_name s r e));
        ids = never (same_table_id r s) no_id;
        ids_back = never (same_table_id s r) (λ e. no_id (swap_same s.id r.id e));
      }

  apart_filter : (ns : Id) (x : ℕ) (rs : List TableRecord) → InTurn same_table_name table_over rs → InTurn same_table_id table_over rs
      → Apart (filter (stands_in ns x) rs)
  apart_filter ns x [] names ids = tt
  apart_filter ns x (r ∷ rs) names ids = by (stands_in ns x r) refl (apart_filter ns x rs (tail_turn r rs names) (tail_turn r rs ids))
    where
      by : (b : Bool) → stands_in ns x r ≡ b → Apart (filter (stands_in ns x) rs) → Apart (cond b (r ∷ filter (stands_in ns x) rs) (filter (stands_in ns x) rs))
      by true e rest = (all_filter (Differ r) (stands_in ns x) rs (differ ns x r rs names ids e), rest)
      by false e rest = rest

  -- What the end of the namespace's tables leaves free

  name_gone : (rs : List TableRecord) (ns m : Id) (name : List ℕ) (at : ℕ) → same m ns ≡ true → current_named (end_tables ns at rs) m name ≡ None
  name_gone [] ns m name at here = refl
  name_gone (r ∷ rs) ns m name at here =
      ap (λ b. cond b (Some (closes ns at r)) (current_named (end_tables ns at rs) m name))
      (gone_by r.to (same r.namespace ns) (same r.namespace m && bytes_eq r.name name) at
      (λ e. ap (λ k. same k ns) (equal r.namespace m (and_left (same r.namespace m) (bytes_eq r.name name) e)) ∙ here))
      ∙ name_gone rs ns m name at here

  id_gone : (rs : List TableRecord) (ns id : Id) (at : ℕ)
      → ((j : ℕ) (q : TableRecord) → slice_get rs j ≡ Some q → same q.id id ≡ true → same q.namespace ns ≡ true) → current_table (end_tables ns at rs) id ≡ None
  id_gone [] ns id at home = refl
  id_gone (r ∷ rs) ns id at home =
      ap (λ b. cond b (Some (closes ns at r)) (current_table (end_tables ns at rs) id))
      (gone_by r.to (same r.namespace ns) (same r.id id) at (home 0 r refl))
      ∙ id_gone rs ns id at (λ j q is. home (suc j) q is)

-- Records that begin one behind another

-- a current record from a time, whose name and identifier are free
pub record IsNew (rs : List TableRecord) (point : ℕ) (t : TableRecord) : Type 0 where
  pub current : t.to ≡ None
  pub begun : t.from ≡ point
  pub past : Clears rs t
  pub free : current_named rs t.namespace t.name ≡ None
  pub fresh : current_table rs t.id ≡ None

shut_by : (o : Option ℕ) (b : Bool) → b ≡ false → (is_open o && b) ≡ false
shut_by o b e = both_false (is_open o) b e

-- a record behind the others is none of them
at_next : (rs : List TableRecord) (t : TableRecord) (i : ℕ) (r : TableRecord) → slice_get (rs ++ t ∷ []) i ≡ Some r → slice_get rs i ≡ Some r ⊎ r ≡ t
at_next [] t zero r is = inr (cc)
at_next [] t (suc i) r is = absurd (cc)
at_next (s ∷ ss) t zero r is = inl is
at_next (s ∷ ss) t (suc i) r is = at_next ss t i r is

clears_next : (rs : List TableRecord) (t s : TableRecord) → t.to ≡ None → Clears rs s → Clears (rs ++ t ∷ []) s
clears_next rs t s opens past = record {
  names = λ i r is like. by i r (λ here. past.names i r here like) (at_next rs t i r is);
  ids = λ i r is like. by i r (λ here. past.ids i r here like) (at_next rs t i r is);
}
  where
    by : (i : ℕ) (r : TableRecord) → (slice_get rs i ≡ Some r → over_or_open s.from r.to ≡ true) → slice_get rs i ≡ Some r ⊎ r ≡ t → over_or_open s.from r.to ≡ true
    by i r old (inl here) = old here
    by i r old (inr last) = ap (λ (u : TableRecord). over_or_open s.from u.to) last ∙ ap (over_or_open s.from) opens

new_next : (rs : List TableRecord) (point : ℕ) (t s : TableRecord) → t.to ≡ None → Differ t s → IsNew rs point s → IsNew (rs ++ t ∷ []) point s
new_next rs point t s opens apart new = record {
  current = new.current;
  begun = new.begun;
  past = clears_next rs t s opens new.past;
  free =
      find-append (λ (r : TableRecord). is_open r.to && (same r.namespace s.namespace && bytes_eq r.name s.name)) rs (t ∷ [])
      ∙ ap (λ o. option_or o (find (λ (r : TableRecord). is_open r.to && (same r.namespace s.namespace && bytes_eq r.name s.name)) (t ∷ []))) new.free
      ∙ ap (λ b. cond b (Some t) None) (shut_by t.to (same t.namespace s.namespace && bytes_eq t.name s.name) apart.names);
  fresh =
      find-append (λ (r : TableRecord). is_open r.to && same r.id s.id) rs (t ∷ [])
      ∙ ap (λ o. option_or o (find (λ (r : TableRecord). is_open r.to && same r.id s.id) (t ∷ []))) new.fresh
      ∙ ap (λ b. cond b (Some t) None) (shut_by t.to (same t.id s.id) apart.ids);
}

pub begin_all : (rs : List TableRecord) (point : ℕ) (ts : List TableRecord) → AllOf (IsNew rs point) ts → Apart ts → BeginsAll rs ts
begin_all rs point [] new apart = tt
begin_all rs point (t ∷ ts) new apart = (
  record { current = new.0.current; past = new.0.past; free = new.0.free; fresh = new.0.fresh },
  begin_all (rs ++ t ∷ []) point ts
      (all_both (Differ t) (IsNew rs point) (IsNew (rs ++ t ∷ []) point) ts (λ s d n. new_next rs point t s new.0.current d n) apart.0 new.1) apart.1,
)

-- records of the namespace that did not end later don't where its tables end

tail_past : (b : Bool) (s : TableRecord) (at : ℕ) (rest : List TableRecord) → ends_by at (cond b (s ∷ rest) rest) ≡ true → ends_by at rest ≡ true
tail_past true s at rest past = and_right (over_or_open at s.to) (ends_by at rest) past
tail_past false s at rest past = past

head_past : (b : Bool) (s : TableRecord) (at : ℕ) (rest : List TableRecord) → ends_by at (cond b (s ∷ rest) rest) ≡ true → b ≡ true → over_or_open at s.to ≡ true
head_past true s at rest past e = and_left (over_or_open at s.to) (ends_by at rest) past
head_past false s at rest past e = absurd (cc)

abbrev of_space : Id → TableRecord → Bool
of_space ns r = same r.namespace ns

space_past : (rs : List TableRecord) (ns : Id) (at : ℕ) → ends_in ns at rs ≡ true
    → (i : ℕ) (r : TableRecord) → slice_get (end_tables ns at rs) i ≡ Some r → same r.namespace ns ≡ true → over_or_open at r.to ≡ true
space_past [] ns at past i r is mine = absurd (cc)
space_past (s ∷ ss) ns at past zero r is mine =
    let one : closes ns at s ≡ r = cc in
    let its : same s.namespace ns ≡ true = ap (of_space ns) one ∙ mine in
    ap (λ (u : TableRecord). over_or_open at u.to) (sym one)
    ∙ still_past (same s.namespace ns) s.to at (head_past (same s.namespace ns) s at (filter (of_space ns) ss) past its)
space_past (s ∷ ss) ns at past (suc i) r is mine =
    space_past ss ns at (tail_past (same s.namespace ns) s at (filter (of_space ns) ss) past) i r is mine

-- nor does an end make a record another table's
home_kept : (rs : List TableRecord) (ns id : Id) (at : ℕ)
    → ((j : ℕ) (q : TableRecord) → slice_get rs j ≡ Some q → same q.id id ≡ true → same q.namespace ns ≡ true)
    → (i : ℕ) (r : TableRecord) → slice_get (end_tables ns at rs) i ≡ Some r → same r.id id ≡ true → same r.namespace ns ≡ true
home_kept [] ns id at home i r is mine = absurd (cc)
home_kept (s ∷ ss) ns id at home zero r is mine =
    let one : closes ns at s ≡ r = cc in
    ap (λ (u : TableRecord). same u.namespace ns) (sym one) ∙ home 0 s refl (ap (λ (u : TableRecord). same u.id id) one ∙ mine)
home_kept (s ∷ ss) ns id at home (suc i) r is mine = home_kept ss ns id at (λ j q there. home (suc j) q there) i r is mine

apart_back : (rs : List TableRecord) (point : ℕ) (ts : List TableRecord) → Apart ts → Apart (map (back_at rs point) ts)
apart_back rs point [] apart = tt
apart_back rs point (t ∷ ts) apart = (
  all_map (Differ t) (Differ (back_at rs point t)) (back_at rs point) ts
      (λ s d. record { names = d.names; names_back = d.names_back; ids = d.ids; ids_back = d.ids_back }) apart.0,
  apart_back rs point ts apart.1,
)

-- the tables that the namespace had at a time may begin again where its current ones end
pub back_begins : ((a b : Id) → same a b ≡ true → a ≡ b) → (rs : List TableRecord) (ns : Id) (to point : ℕ)
    → InTurn same_table_name table_over rs → InTurn same_table_id table_over rs → IsHome rs → ends_in ns point rs ≡ true
    → BeginsAll (end_tables ns point rs) (tables_back rs ns to point)
back_begins equal rs ns to point names ids home past =
    let found = filter (stands_in ns to) rs in
    let ended = end_tables ns point rs in
    let P : TableRecord → Type 0 = λ t. IsNew ended point (back_at rs point t) in
    begin_all ended point (tables_back rs ns to point)
    (all_map P (IsNew ended point) (back_at rs point) (tables_at rs ns to) (λ t p. p)
    (all_by_id P found (all_filter P (stands_in ns to) rs
    (λ i t at stands.
    let mine = and_right (holds_at to t.from t.to) (same t.namespace ns) stands in
    let its : (j : ℕ) (q : TableRecord) → slice_get rs j ≡ Some q → same q.id t.id ≡ true → same q.namespace ns ≡ true =
    λ j q is e. ap (same q.namespace) (sym (equal t.namespace ns mine)) ∙ home j i q t is at e in
    record {
      current = refl;
      begun = refl;
      past = record {
        names = λ j q is like.
            space_past rs ns point past j q is
            (ap (same q.namespace) (sym (equal t.namespace ns mine)) ∙ and_left (same q.namespace t.namespace) (bytes_eq q.name t.name) like);
        ids = λ j q is like. space_past rs ns point past j q is (home_kept rs ns t.id point its j q is like);
      };
      free = name_gone equal rs ns t.namespace t.name point mine;
      fresh = id_gone equal rs ns t.id point its;
    }))))
    (apart_back rs point (tables_at rs ns to) (apart_by_id found (apart_filter equal ns to rs names ids)))
