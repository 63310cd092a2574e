-- Numbers by which names are looked up. Names can share one, so a record is compared with what is looked for.
use Rattle.std.specs.Prelude.{ℕ, ◌+◌, ◌*◌, ◌%◌, ◌^◌, List, fold}
use Rattle.row_values.specs.Ids.{Id}
use Rattle.model.specs.Catalog.{NamespaceRecord, TableRecord}

abbrev pub code_step : ℕ → ℕ → ℕ
code_step code byte = (code * 16777619 + byte) % 2 ^ 32

abbrev pub name_code : ℕ → List ℕ → ℕ
name_code start name = fold code_step start name

-- the number of a namespace's name
abbrev pub space_code : NamespaceRecord → ℕ
space_code r = name_code 0 r.name

-- the number of a table's name in its namespace
abbrev pub code_in : Id → List ℕ → ℕ
code_in namespace name = name_code (namespace.number % 2 ^ 32) name

abbrev pub table_code : TableRecord → ℕ
table_code r = code_in r.namespace r.name
