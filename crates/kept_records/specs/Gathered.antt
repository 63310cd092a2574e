-- What goes over the records of one key, and over no other, in a list from which records may be taken out.
use Rattle.std.specs.Prelude.{ℕ, ◌+◌, nat_lt, not, Bool, List, [], ◌∷◌, ◌++◌, if◌then◌else◌, false}
pub use Rattle.newest_index.specs.Gathered.{gathered, changed_where}
use Rattle.kept_records.specs.declared.records.Kept.{Kept}

-- the records that were not taken out
abbrev pub present_of : {R : Type 0} → List (Kept R) → List R
present_of [] = []
present_of (k ∷ ks) = if k.present then k.item ∷ present_of ks else present_of ks

-- a key of records, also of those that were taken out
abbrev pub kept_key : {R K : Type 0} → (R → K) → Kept R → K
kept_key key k = key k.item

-- a step that passes over what was taken out
abbrev pub step_present : {R B : Type 0} → (R → B → B) → Kept R → B → B
step_present step k later = if k.present then step k.item later else later

abbrev pub changes_record : {R : Type 0} → (R → R) → Kept R → Kept R
changes_record change k = record { item = change k.item; present = k.present }

-- a record is changed if it passes a test
abbrev pub changes_passing : {R : Type 0} → (R → Bool) → (R → R) → Kept R → Kept R
changes_passing passes change k = if passes k.item then changes_record change k else k

abbrev pub taken_out : {R : Type 0} → Kept R → Kept R
taken_out k = record { item = k.item; present = false }

-- a record that doesn't pass a test is taken out
abbrev pub keeps_passing : {R : Type 0} → (R → Bool) → Kept R → Kept R
keeps_passing passes k = if not (passes k.item) then taken_out k else k

-- a record that passes a test goes behind the later ones
abbrev pub puts : {R : Type 0} → (R → Bool) → R → List R → List R
puts passes r later = if passes r then later ++ r ∷ [] else later

-- one more, up to a number
abbrev pub one_more : ℕ → ℕ → ℕ
one_more most count = if nat_lt count most then count + 1 else count
