-- When records of tables may begin: one by one, and each behind those before it.
use Rattle.std.specs.Prelude.{ℕ, ◌≡◌, true, List, [], ◌∷◌, ◌++◌, Some, None, slice_get}
use Rattle.row_values.specs.Ids.{same}
use Rattle.model.specs.Catalog.{TableRecord, current_named, current_table}
use Rattle.catalog_core.specs.Kept.{same_table_name, same_table_id, over_or_open}

-- no record of a table's name, and none of its identifier, ends after it begins
pub record Clears (rs : List TableRecord) (t : TableRecord) : Type 0 where
  pub names : (i : ℕ) (r : TableRecord) → slice_get rs i ≡ Some r → same_table_name r t ≡ true → over_or_open t.from r.to ≡ true
  pub ids : (i : ℕ) (r : TableRecord) → slice_get rs i ≡ Some r → same_table_id r t ≡ true → over_or_open t.from r.to ≡ true

-- the record is current, its name is free, nothing current has its identifier, and none that is like it ends later
pub record Begins (rs : List TableRecord) (t : TableRecord) : Type 0 where
  pub current : t.to ≡ None
  pub past : Clears rs t
  pub free : current_named rs t.namespace t.name ≡ None
  pub fresh : current_table rs t.id ≡ None

abbrev pub BeginsAll : List TableRecord → List TableRecord → Type 0
BeginsAll rs [] = Unit {0}
BeginsAll rs (t ∷ ts) = Begins rs t × BeginsAll (rs ++ t ∷ []) ts

-- records of one table are of one namespace
abbrev pub IsHome : List TableRecord → Type 0
IsHome rs = (i j : ℕ) (r s : TableRecord) → slice_get rs i ≡ Some r → slice_get rs j ≡ Some s → same r.id s.id ≡ true → same r.namespace s.namespace ≡ true
