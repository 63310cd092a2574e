-- What compaction keeps of several versions of several keys, under cutoffs at, between and beyond their stamps.
use Rattle.std.proofs.Common.{◌≡◌, ℕ, List, [], ◌∷◌, ◌++◌, true, map, refl}
use Rattle.row_values.specs.Rows.{absent_row}
use Rattle.row_values.specs.declared.value.Cell.{Cell}
use Rattle.row_values.specs.declared.value.RowOp.TheVariants.{Upsert, Delete}
use Rattle.row_values.specs.declared.rows.Row.{Row}
use Rattle.row_values.specs.Store.{Version, kept, kept_of, read_of}
use Rattle.model_rows.specs.Scripts.{cell, number, u, x, zz}

abbrev upsert : List ℕ → ℕ → List Cell → List Version
upsert key stamp cells = record { key = key; stamp = stamp; op = Upsert cells } ∷ []

abbrev delete : List ℕ → ℕ → List Version
delete key stamp = record { key = key; stamp = stamp; op = Delete } ∷ []

abbrev one : ℕ → List Cell
one n = cell 1 (number n) ∷ []

abbrev two : ℕ → List Cell
two n = cell 2 (number n) ∷ []

-- a key that is deleted between, one with two operations of one batch, and one that ends deleted
abbrev versions : List Version
versions =
    upsert u 2 (one 1) ++ upsert u 4 (two 2) ++ delete u 6 ++ upsert u 9 (one 3)
    ++ upsert x 3 (one 5) ++ upsert x 5 (one 6) ++ upsert x 5 (two 7) ++ upsert x 7 (one 8)
    ++ upsert zz 1 (one 9) ++ delete zz 4

all_are_later : kept versions 0 ≡ versions
unfolding kept_of
all_are_later = refl

-- at the stamp of a version: it is folded
up_to_one : kept versions 1 ≡ versions
unfolding kept_of
up_to_one = refl

up_to_three : kept versions 3 ≡ versions
unfolding kept_of
up_to_three = refl

-- a key whose row is absent at the cutoff has nothing before it
up_to_four : kept versions 4
    ≡ upsert u 4 (one 1 ++ two 2) ++ delete u 6 ++ upsert u 9 (one 3)
    ++ upsert x 3 (one 5) ++ upsert x 5 (one 6) ++ upsert x 5 (two 7) ++ upsert x 7 (one 8)
unfolding kept_of
up_to_four = refl

-- both operations of a batch are folded
up_to_five : kept versions 5
    ≡ upsert u 4 (one 1 ++ two 2) ++ delete u 6 ++ upsert u 9 (one 3)
    ++ upsert x 5 (one 6 ++ two 7) ++ upsert x 7 (one 8)
unfolding kept_of
up_to_five = refl

up_to_six : kept versions 6 ≡ upsert u 9 (one 3) ++ upsert x 5 (one 6 ++ two 7) ++ upsert x 7 (one 8)
unfolding kept_of
up_to_six = refl

up_to_eight : kept versions 8 ≡ upsert u 9 (one 3) ++ upsert x 7 (one 8 ++ two 7)
unfolding kept_of
up_to_eight = refl

-- a row that was deleted before has none of the cells that it had then
up_to_all : kept versions 9 ≡ upsert u 9 (one 3) ++ upsert x 7 (one 8 ++ two 7)
unfolding kept_of
up_to_all = refl

beyond_all : kept versions 100 ≡ kept versions 9
unfolding kept_of
beyond_all = refl

nothing_kept : kept [] 5 ≡ []
nothing_kept = refl

-- what is read from the cutoff on is what was read before, and less is read below it

abbrev row_of : List Cell → Row
row_of cells = record { present = true; cells = cells }

abbrev reads : List Version → List ℕ → List Row
reads vs key = map (read_of vs key) (5 ∷ 6 ∷ 7 ∷ 9 ∷ 50 ∷ [])

abbrev reads_of_u : List Row
reads_of_u = row_of (one 1 ++ two 2) ∷ absent_row ∷ absent_row ∷ row_of (one 3) ∷ row_of (one 3) ∷ []

u_before : reads versions u ≡ reads_of_u
u_before = refl

u_after : reads (kept versions 5) u ≡ reads_of_u
unfolding kept_of
u_after = refl

abbrev reads_of_x : List Row
reads_of_x =
    row_of (one 6 ++ two 7) ∷ row_of (one 6 ++ two 7) ∷ row_of (one 8 ++ two 7) ∷ row_of (one 8 ++ two 7) ∷ row_of (one 8 ++ two 7) ∷ []

x_before : reads versions x ≡ reads_of_x
x_before = refl

x_after : reads (kept versions 5) x ≡ reads_of_x
unfolding kept_of
x_after = refl

abbrev reads_of_zz : List Row
reads_of_zz = absent_row ∷ absent_row ∷ absent_row ∷ absent_row ∷ absent_row ∷ []

zz_before : reads versions zz ≡ reads_of_zz
zz_before = refl

zz_after : reads (kept versions 5) zz ≡ reads_of_zz
unfolding kept_of
zz_after = refl
