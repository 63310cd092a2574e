-- What keeps a schema: its ids below the next one and rising, its names apart.
use Rattle.std.proofs.Common.{◌≡◌, ◌≢◌, ◌∙◌, ℕ, suc, ◌+◌, ◌<◌, ◌≤◌, Bool, true, false, not, List, [], ◌∷◌, length, All, AllPairs, Contains, Option, Some, None, arith, sym, refl, cond, true≢false}
use Rattle.std.specs.Str.{bytes_eq}
use Rattle.std.proofs.lemmas.List.Elements.{All-cons, All-nil, All-push, All-filter, All-weaker, All-contains_itself}
use Rattle.std.proofs.lemmas.List.Kept.{AllPairs-cons, AllPairs-filter}
use Rattle.std.proofs.lemmas.List.Quantifiers.{all_pairs_push}
use Rattle.std.proofs.lemmas.Slice.Eq.{bytes_eq-Decides}
use Rattle.row_values.specs.Schema.{ColumnKind, Column, NewColumn, Schema, column_named, numbered, first_schema, with_column, without_column}
use Rattle.table_schema.specs.Columns.{IsSchema, NoIdReturns}

abbrev Below : ℕ → Column → Type 0
Below n c = c.id < n

abbrev From : ℕ → Column → Type 0
From n c = n ≤ c.id

abbrev Rises : Column → Column → Type 0
Rises c d = c.id < d.id

abbrev Apart : Column → Column → Type 0
Apart c d = c.name ≢ d.name

abbrev Stood : Schema → Column → Type 0
Stood s c = c.id < s.next → Contains s.columns c

none_found : (b : Bool) (c : Column) (rest : Option Column) → cond b (Some c) rest ≡ None → (b ≡ false) × (rest ≡ None)
none_found true c rest e = absurd (cc e)
none_found false c rest e = (refl, e)

-- where no column is found under a name, each has another
named_by_none : (name : List ℕ) (cs : List Column) → column_named cs name ≡ None → All (λ c. c.name ≢ name) cs
named_by_none name [] none = All-nil (λ c. c.name ≢ name)
named_by_none name (c ∷ cs) none =
    let passed = none_found (bytes_eq c.name name) c (column_named cs name) none in
    All-cons (λ d. d.name ≢ name) c cs
    (λ same. true≢false (sym ((bytes_eq-Decides c.name name).1 same) ∙ passed.0))
    (named_by_none name cs passed.1)

-- one more column, whose name is free, keeps a schema
pub schema_with_column : (s : Schema) (name : List ℕ) (kind : ColumnKind) → IsSchema s → column_named s.columns name ≡ None → IsSchema (with_column name kind s)
schema_with_column s name kind h free =
    let others = named_by_none name s.columns free in
    let one : Column = record { id = s.next; name = name; kind = kind } in
    record {
      below = All-push (Below (s.next + 1)) s.columns one (All-weaker (Below s.next) (Below (s.next + 1)) (λ c lt. omega (arith, lt)) s.columns h.below) (omega arith);
      rising = all_pairs_push Rises s.columns one h.rising (λ k d lt. h.below k d lt);
      apart = all_pairs_push Apart s.columns one h.apart (λ k d lt. others k d lt);
    }

-- a schema that loses columns is one
pub schema_without_column : (s : Schema) (name : List ℕ) → IsSchema s → IsSchema (without_column name s)
schema_without_column s name h =
    let left : Column → Bool = λ c. not (bytes_eq c.name name) in
    record {
      below = All-filter left (Below s.next) s.columns h.below;
      rising = AllPairs-filter Rises left s.columns h.rising;
      apart = AllPairs-filter Apart left s.columns h.apart;
    }

all_stood : (s : Schema) → All (Stood s) s.columns
all_stood s = All-weaker (Contains s.columns) (Stood s) (λ c there lt. there) s.columns (All-contains_itself s.columns)

pub no_id_returns_with : (s : Schema) (name : List ℕ) (kind : ColumnKind) → NoIdReturns s (with_column name kind s)
no_id_returns_with s name kind = record {
  rises = omega arith;
  kept = All-push (Stood s) s.columns (record { id = s.next; name = name; kind = kind }) (all_stood s) (λ lt. absurd (omega (arith, lt)));
}

pub no_id_returns_without : (s : Schema) (name : List ℕ) → NoIdReturns s (without_column name s)
no_id_returns_without s name = record {
  rises = omega arith;
  kept = All-filter (λ c. not (bytes_eq c.name name)) (Stood s) s.columns (all_stood s);
}

pub no_id_returns_same : (s : Schema) → NoIdReturns s s
no_id_returns_same s = record { rises = omega arith; kept = all_stood s }

-- the ids of numbered columns are from the first on, below the end, and rise
numbered_from : (id : ℕ) (cs : List NewColumn) → All (From id) (numbered id cs)
numbered_from id [] = All-nil (From id)
numbered_from id (c ∷ cs) = All-cons (From id) (record { id = id; name = c.name; kind = c.kind }) (numbered (id + 1) cs) (omega arith) (All-weaker (From (id + 1)) (From id) (λ d le. omega (arith, le)) (numbered (id + 1) cs) (numbered_from (id + 1) cs))

numbered_below : (id : ℕ) (cs : List NewColumn) → All (Below (id + length cs)) (numbered id cs)
numbered_below id [] = All-nil (Below (id + 0))
numbered_below id (c ∷ cs) = All-cons (Below (id + length (c ∷ cs))) (record { id = id; name = c.name; kind = c.kind }) (numbered (id + 1) cs) (omega arith) (All-weaker (Below (id + 1 + length cs)) (Below (id + length (c ∷ cs))) (λ d lt. omega (arith, lt)) (numbered (id + 1) cs) (numbered_below (id + 1) cs))

numbered_rise : (id : ℕ) (cs : List NewColumn) → AllPairs Rises (numbered id cs)
numbered_rise id [] = λ i j d lt within. absurd (omega (arith, within))
numbered_rise id (c ∷ cs) = AllPairs-cons Rises (record { id = id; name = c.name; kind = c.kind }) (numbered (id + 1) cs) (All-weaker (From (id + 1)) (λ d. id < d.id) (λ d le. omega (arith, le)) (numbered (id + 1) cs) (numbered_from (id + 1) cs)) (numbered_rise (id + 1) cs)

-- what holds of each new column's name holds of each numbered one's
numbered_names : (P : List ℕ → Type 0) (id : ℕ) (cs : List NewColumn) → All (λ c. P c.name) cs → All (λ c. P c.name) (numbered id cs)
numbered_names P id [] h = All-nil (λ c. P c.name)
numbered_names P id (c ∷ cs) h = All-cons (λ d. P d.name) (record { id = id; name = c.name; kind = c.kind }) (numbered (id + 1) cs) (h 0 c (omega arith)) (numbered_names P (id + 1) cs (λ k d lt. h (suc k) d (omega (arith, lt))))

numbered_apart : (id : ℕ) (cs : List NewColumn) → AllPairs (λ c d. c.name ≢ d.name) cs → AllPairs Apart (numbered id cs)
numbered_apart id [] h = λ i j d lt within. absurd (omega (arith, within))
numbered_apart id (c ∷ cs) h = AllPairs-cons Apart (record { id = id; name = c.name; kind = c.kind }) (numbered (id + 1) cs)
    (numbered_names (λ n. c.name ≢ n) (id + 1) cs (λ k d lt. h 0 (suc k) d (omega arith) (omega (arith, lt))))
    (numbered_apart (id + 1) cs (λ i j d lt within. h (suc i) (suc j) d (omega (arith, lt)) (omega (arith, within))))

-- the schema of a new table whose names differ
pub schema_first : (cs : List NewColumn) → AllPairs (λ c d. c.name ≢ d.name) cs → IsSchema (first_schema cs)
schema_first cs apart = record {
  below = All-weaker (Below (1 + length cs)) (Below (length cs + 1)) (λ c lt. omega (arith, lt)) (numbered 1 cs) (numbered_below 1 cs);
  rising = numbered_rise 1 cs;
  apart = numbered_apart 1 cs apart;
}
