-- Histories: entries merged by number, and the history that goes on from given parts.
use Rattle.std.specs.Prelude.{ℕ, suc, ◌≡◌, List, [], ◌∷◌, ◌++◌, length, drop, cond, nat_lt, slice_get, Some}
use Rattle.step_table.specs.declared.known.Entry.{Entry}
use Rattle.step_table.specs.Machines.{Core, leaves, IsRight}

module _ {E R : Type 0} where
  -- the entries, with one more at its number
  abbrev pub inserted : Entry E R → List (Entry E R) → List (Entry E R)
  inserted e [] = e ∷ []
  inserted e (x ∷ xs) = cond (nat_lt e.number x.number) (e ∷ x ∷ xs) (x ∷ inserted e xs)

  -- two lists, merged by number
  abbrev pub merged : List (Entry E R) → List (Entry E R) → List (Entry E R)
  merged xs [] = xs
  merged xs (y ∷ ys) = merged (inserted y xs) ys

  -- numbered n, n + 1 and so on, each once
  abbrev pub IsNumbered : ℕ → List (Entry E R) → Type 0
  IsNumbered n [] = Unit {0}
  IsNumbered n (e ∷ es) = (e.number ≡ n) × IsNumbered (suc n) es

  -- the history holds the entry at its number, counted from 1
  abbrev pub IsAtNumber : List (Entry E R) → Entry E R → Type 0
  IsAtNumber history e = (k : ℕ) × (e.number ≡ suc k) × (slice_get history k ≡ Some e)

module _ {P E D R F : Type 0} (c : Core P E D R F) where
  -- the entries of all logs, by number
  abbrev pub history_of : List P → List (Entry E R)
  history_of [] = []
  history_of (p ∷ ps) = merged (history_of ps) (c.log p)

  -- the entries that a history has behind those of the given parts
  abbrev pub made_since : List P → List (Entry E R) → List (Entry E R)
  made_since given history = drop (length (history_of given)) history

  -- the parts that a history leaves, which goes on from the given parts
  abbrev pub left_by : List P → List (Entry E R) → List P
  left_by given history = leaves c given (made_since given history)

  -- A history goes on from the given parts, and each entry behind theirs is the machine's at that point
  pub record Follows (given : List P) (history : List (Entry E R)) : Type 0 where
    pub begins : history ≡ history_of given ++ made_since given history
    pub right : IsRight c given (made_since given history)
    pub numbered : IsNumbered 1 history
    -- the parts that it leaves are legal, and their logs together are the history
    pub legal : c.Legal (left_by given history)
    pub logs : history_of (left_by given history) ≡ history
