-- The current table of a namespace that has the least number.
use Rattle.std.proofs.Common.{◌≡◌, ◌&&◌, Bool, true, false, List, [], ◌∷◌, Some, None, if◌then◌else◌, length, nat_lt, refl, arith}
use Rattle.row_values.specs.Ids.{Id, same}
use Rattle.model.specs.Times.{is_open}
use Rattle.model.specs.Catalog.{TableRecord, put_table, by_id, current_tables}
use Rattle.model.specs.Changes.{first_table}
use Rattle.master_part.specs.Tables.{lesser, lesser_in}

first_put : (t : TableRecord) (us : List TableRecord) → first_table (put_table t us) ≡ lesser t.id (first_table us)
first_put t [] = refl
first_put t (u ∷ us) = by (nat_lt t.id.number u.id.number)
  where
    by : (b : Bool) → first_table (if b then t ∷ u ∷ us else u ∷ put_table t us) ≡ (if b then Some t.id else Some u.id)
    by true = refl
    by false = refl

-- one more record in front
pub least_next : (r : TableRecord) (rs : List TableRecord) (ns : Id)
    → first_table (by_id (current_tables (r ∷ rs) ns)) ≡ lesser_in ns r (first_table (by_id (current_tables rs ns)))
least_next r rs ns = by (is_open r.to && same r.namespace ns)
  where
    by : (b : Bool) → first_table (by_id (if b then r ∷ current_tables rs ns else current_tables rs ns))
        ≡ (if b then lesser r.id (first_table (by_id (current_tables rs ns))) else first_table (by_id (current_tables rs ns)))
    by true = first_put r (by_id (current_tables rs ns))
    by false = refl

-- of none there is no first
pub none_first : (ts : List TableRecord) → length ts ≡ 0 → first_table (by_id ts) ≡ None
none_first [] none = refl
none_first (t ∷ ts) none = absurd (omega (arith, none))
