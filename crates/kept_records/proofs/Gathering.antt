-- What is gathered or changed of records of which some were taken out.
use Rattle.std.proofs.Common.{◌≡◌, Bool, true, false, List, [], ◌∷◌, ◌++◌, map, Option, if◌then◌else◌, ℕ, not, refl, sym, ap, ◌∙◌}
use Rattle.std.specs.List.{filter}
use Rattle.indexmap.specs.IndexMap.{IndexMap}
use Rattle.newest_index.specs.Newest.{Indexes}
use Rattle.newest_index.specs.Gathered.{gathered, changed_where}
use Rattle.kept_records.specs.Gathered.{step_present, changes_record, present_of, taken_out, kept_key}
use Rattle.kept_records.specs.declared.records.Kept.{Kept}
use Rattle.newest_index.proofs.Opens.{indexes-of}
use Rattle.newest_index.proofs.Gathering.{keys_stay}
pub use Rattle.newest_index.proofs.Gathering.{drop_all}

by_step : {R B : Type 0} (test : R → Bool) (step : R → B → B) (start : B) (r : R) (rs : List R) (p t : Bool) (later : B) → test r ≡ t
    → later ≡ gathered test step start rs
    → (if t then (if p then step r later else later) else later) ≡ gathered test step start (if p then r ∷ rs else rs)
by_step test step start r rs true true later e same =
    ap (step r) same ∙ sym (ap (λ b. if b then step r (gathered test step start rs) else gathered test step start rs) e)
by_step test step start r rs true false later e same =
    same ∙ sym (ap (λ b. if b then step r (gathered test step start rs) else gathered test step start rs) e)
by_step test step start r rs false true later e same = same
by_step test step start r rs false false later e same = same

-- what is gathered passes over the records that were taken out
pub gathered_present : {R B : Type 0} (test : R → Bool) (step : R → B → B) (start : B) (ks : List (Kept R))
    → gathered (λ (k : Kept R). test k.item) (step_present step) start ks ≡ gathered test step start (present_of ks)
gathered_present test step start [] = refl
gathered_present test step start (k ∷ ks) =
    by_step test step start k.item (present_of ks) k.present (test k.item) _ refl (gathered_present test step start ks)

change_by : {R : Type 0} (change : R → R) (r : R) (rest more : List R) (ks : List (Kept R)) (p t : Bool)
    → present_of ks ≡ more → present_of ((if t then changes_record change (record { item = r; present = p }) else record { item = r; present = p }) ∷ ks)
    ≡ (if p then (if t then change r else r) ∷ more else more)
change_by change r rest more ks true true same = ap (λ ys. change r ∷ ys) same
change_by change r rest more ks true false same = ap (λ ys. r ∷ ys) same
change_by change r rest more ks false true same = same
change_by change r rest more ks false false same = same

changed_by : {R : Type 0} (test : R → Bool) (change : R → R) (r : R) (rs : List R) (p : Bool)
    → (if p then (if test r then change r else r) ∷ changed_where test change rs else changed_where test change rs)
    ≡ changed_where test change (if p then r ∷ rs else rs)
changed_by test change r rs true = refl
changed_by test change r rs false = refl

-- the present records that pass a test are changed
pub changed_present : {R : Type 0} (test : R → Bool) (change : R → R) (ks : List (Kept R))
    → present_of (changed_where (λ (k : Kept R). test k.item) (changes_record change) ks) ≡ changed_where test change (present_of ks)
changed_present test change [] = refl
changed_present {R = R} test change (k ∷ ks) =
    change_by change k.item [] _ (changed_where (λ (k : Kept R). test k.item) (changes_record change) ks) k.present (test k.item)
    (changed_present test change ks)
    ∙ changed_by test change k.item (present_of ks) k.present

out_by : {R : Type 0} (r : R) (more : List R) (ks : List (Kept R)) (p t : Bool) → present_of ks ≡ more
    → present_of ((if t then taken_out (record { item = r; present = p }) else record { item = r; present = p }) ∷ ks)
    ≡ (if p then (if not t then r ∷ more else more) else more)
out_by r more ks true true same = same
out_by r more ks true false same = ap (λ ys. r ∷ ys) same
out_by r more ks false true same = same
out_by r more ks false false same = same

filtered_by : {R : Type 0} (test : R → Bool) (r : R) (rs : List R) (p : Bool)
    → (if p then (if test r then r ∷ filter test rs else filter test rs) else filter test rs) ≡ filter test (if p then r ∷ rs else rs)
filtered_by test r rs true = refl
filtered_by test r rs false = refl

-- the records that pass a test are gone
pub taken_out_present : {R : Type 0} (test : R → Bool) (ks : List (Kept R))
    → present_of (changed_where (λ (k : Kept R). test k.item) taken_out ks) ≡ filter (λ r. not (test r)) (present_of ks)
taken_out_present test [] = refl
taken_out_present {R = R} test (k ∷ ks) =
    out_by k.item _ (changed_where (λ (k : Kept R). test k.item) taken_out ks) k.present (test k.item) (taken_out_present test ks)
    ∙ filtered_by (λ r. not (test r)) k.item (present_of ks) k.present

more_by : {R : Type 0} (x r : R) (rs : List R) (p : Bool) {more : List R} → more ≡ rs ++ r ∷ []
    → (if p then x ∷ more else more) ≡ (if p then x ∷ rs else rs) ++ r ∷ []
more_by x r rs true same = ap (λ ys. x ∷ ys) same
more_by x r rs false same = same

-- one more record
pub present_next : {R : Type 0} (ks : List (Kept R)) (r : R) → present_of (ks ++ record { item = r; present = true } ∷ []) ≡ present_of ks ++ r ∷ []
present_next [] r = refl
present_next (k ∷ ks) r = more_by k.item r (present_of ks) k.present (present_next ks r)

-- an index stays right where records change, or go, and their keys stay
pub stays : {R K S : Type 0} {eq : K → K → Bool} {places : IndexMap K ℕ S} {earlier : List (Option ℕ)} (key : R → K) (test : Kept R → Bool)
    (change : Kept R → Kept R) (old new : List (Kept R)) → ((k : Kept R) → kept_key key (change k) ≡ kept_key key k)
    → new ≡ changed_where test change old → Indexes eq places earlier (map (kept_key key) old) → Indexes eq places earlier (map (kept_key key) new)
stays key test change old new keeps e right =
    indexes-of (map (kept_key key) old) (map (kept_key key) new)
    (ap (map (kept_key key)) e ∙ keys_stay (kept_key key) test change old keeps) right
