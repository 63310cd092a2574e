-- The versions that a tablet keeps, and what is read of them. A list of versions is in order of key, the versions of
-- one key in the order in which they were written.
use Rattle.std.specs.Prelude.{◌≡◌, ℕ, ◌<◌, Bool, true, false, List, [], ◌∷◌, ◌++◌, nat_le, nat_lt, ◌&&◌, ◌||◌, fold, map, if◌then◌else◌}
use Rattle.std.specs.List.{filter}
use Rattle.std.specs.Ordering.{nat_cmp, is_lt}
use Rattle.std.specs.Cmp.Lexicographic.{slice_cmp}
use Rattle.std.specs.Str.{bytes_eq}
use Rattle.row_values.specs.Rows.{applied, absent_row}
use Rattle.row_values.specs.Codes.{code_of}
use Rattle.row_values.specs.Elements.{In}
use Rattle.row_values.specs.Ranges.{in_range}
use Rattle.row_values.specs.declared.rows.Row.{Row}
use Rattle.row_values.specs.declared.rows.KeyedRow.{KeyedRow}
use Rattle.row_values.specs.declared.value.Item.{Item}
use Rattle.row_values.specs.declared.value.RowOp.{RowOp}
use Rattle.row_values.specs.declared.value.RowOp.TheVariants.{Upsert}

-- an operation on the row of a key, at the stamp of the event that wrote it
pub record Version : Type 0 where
  pub key : List ℕ
  pub stamp : ℕ
  pub op : RowOp

-- whether the first key stands before the second, compared byte by byte
abbrev pub precedes : List ℕ → List ℕ → Bool
precedes a b = is_lt (slice_cmp nat_cmp a b)

-- the versions with one more, behind those of its key
abbrev pub put_version : Version → List Version → List Version
put_version v [] = v ∷ []
put_version v (w ∷ ws) = if precedes v.key w.key then v ∷ w ∷ ws else w ∷ put_version v ws

-- the versions with those of a batch, written in its order under one stamp
abbrev pub written : List Version → ℕ → List Item → List Version
written versions stamp [] = versions
written versions stamp (item ∷ items) = written (put_version (record { key = item.key; stamp = stamp; op = item.op }) versions) stamp items

abbrev pub read_step : List ℕ → ℕ → Row → Version → Row
read_step key x row v = if bytes_eq v.key key && nat_le v.stamp x then applied row v.op else row

-- the row of a key at x: the fold of its versions stamped at or before x, from the absent row
abbrev pub read_of : List Version → List ℕ → ℕ → Row
read_of versions key x = fold (read_step key x) absent_row versions

-- whether a version of the key stamped at or before c is in the list
abbrev pub has_old : List Version → List ℕ → ℕ → Bool
has_old [] key c = false
has_old (v ∷ vs) key c = (bytes_eq v.key key && nat_le v.stamp c) || has_old vs key c

abbrev pub has_key : List Version → List ℕ → Bool
has_key [] key = false
has_key (v ∷ vs) key = bytes_eq v.key key || has_key vs key

-- a row as one version; none where it is absent
abbrev pub as_version : List ℕ → ℕ → Row → List Version
as_version key stamp row = if row.present then record { key = key; stamp = stamp; op = Upsert row.cells } ∷ [] else []

-- what compaction keeps of a version, with the later ones behind it: itself after the cutoff; at the newest of its key
-- at or before the cutoff, the row there; nothing of the older ones
unfoldable pub kept_of : List Version → Version → List Version → ℕ → List Version
kept_of all v later c =
    if nat_lt c v.stamp then v ∷ []
    else if has_old later v.key c then []
    else as_version v.key v.stamp (read_of all v.key c)

abbrev pub compacted_from : List Version → List Version → ℕ → List Version
compacted_from all [] c = []
compacted_from all (v ∷ vs) c = kept_of all v vs c ++ compacted_from all vs c

-- what compaction keeps under a cutoff: for each key the versions after it, and before them the row at it, as one upsert
-- at the newest stamp that it folds
abbrev pub kept : List Version → ℕ → List Version
kept versions c = compacted_from versions versions c

-- the versions whose partition code is in the range
abbrev pub part_of : ℕ → ℕ → List Version → List Version
part_of low high versions = filter (λ v. in_range low high (code_of v.key)) versions

-- the versions stamped at or before s
abbrev pub frozen : ℕ → List Version → List Version
frozen s versions = filter (λ v. nat_le v.stamp s) versions

-- a present row with its key, as a list
abbrev pub present : List ℕ → Row → List KeyedRow
present key row = if row.present then record { key = key; row = row } ∷ [] else []

abbrev pub rows_from : List Version → List Version → ℕ → List KeyedRow
rows_from all [] x = []
rows_from all (v ∷ vs) x = (if has_key vs v.key then [] else present v.key (read_of all v.key x)) ++ rows_from all vs x

-- the present rows at x, by rising key
abbrev pub rows_at : List Version → ℕ → List KeyedRow
rows_at versions x = rows_from versions versions x

-- one upsert for each row, at one stamp
abbrev pub of_rows : List KeyedRow → ℕ → List Version
of_rows rows stamp = map (λ r. record { key = r.key; stamp = stamp; op = Upsert r.row.cells }) rows

-- the versions are the rows of the keys in a range of codes, one upsert each at the stamp
pub record AreRows (versions : List Version) (low high stamp : ℕ) (row : List ℕ → Row) : Type 0 where
  pub stamps : (v : Version) → In v versions → v.stamp ≡ stamp
  pub upserts : versions ≡ of_rows (rows_at versions stamp) stamp
  pub rows : (key : List ℕ) → in_range low high (code_of key) ≡ true → read_of versions key stamp ≡ row key
  pub inside : (v : Version) → In v versions → in_range low high (code_of v.key) ≡ true

-- Rows with their keys

abbrev pub InOrderFrom : List ℕ → List KeyedRow → Type 0
InOrderFrom low [] = Unit {0}
InOrderFrom low (r ∷ rs) = (precedes r.key low ≡ false) × InOrderFrom r.key rs

-- the keys don't fall
abbrev pub InOrder : List KeyedRow → Type 0
InOrder [] = Unit {0}
InOrder (r ∷ rs) = InOrderFrom r.key rs

abbrev pub of_key : List ℕ → List KeyedRow → List KeyedRow
of_key key rows = filter (λ r. bytes_eq r.key key) rows

-- each stamp is below n
abbrev pub Below : ℕ → List Version → Type 0
Below n [] = Unit {0}
Below n (v ∷ vs) = (v.stamp < n) × Below n vs
