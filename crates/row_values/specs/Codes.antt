-- The partition code of a key, which decides the tablet that holds its row.
use Rattle.std.specs.Prelude.{ℕ, ◌+◌, ◌*◌, ◌%◌, List, fold}

-- the code with one more byte folded in
abbrev pub code_step : ℕ → ℕ → ℕ
code_step code byte = (code * 31 + byte) % 65536

-- the code of a key, below 65536
abbrev pub code_of : List ℕ → ℕ
code_of key = fold code_step 0 key
