-- One record more of the tables of a namespace at a time; and what is current where old records go.
use Rattle.std.proofs.Common.{ℕ, ◌≡◌, Bool, true, false, ◌&&◌, List, [], ◌∷◌, if◌then◌else◌, refl, sym, ap, ◌∙◌}
use Rattle.std.specs.List.{filter}
use Rattle.row_values.specs.Ids.{Id, same}
use Rattle.model.specs.Times.{is_open}
use Rattle.model.specs.Catalog.{TableRecord, by_id, current_tables}
use Rattle.catalog_core.specs.Kept.{stands_in, put_standing}

pub put_by : (ns : Id) (x : ℕ) (r : TableRecord) (rs : List TableRecord) (b : Bool) → stands_in ns x r ≡ b
    → by_id (if b then r ∷ filter (stands_in ns x) rs else filter (stands_in ns x) rs) ≡ put_standing ns x r (by_id (filter (stands_in ns x) rs))
put_by ns x r rs true e = sym (ap (λ c. if c then by_id (r ∷ filter (stands_in ns x) rs) else by_id (filter (stands_in ns x) rs)) e)
put_by ns x r rs false e = sym (ap (λ c. if c then by_id (r ∷ filter (stands_in ns x) rs) else by_id (filter (stands_in ns x) rs)) e)

-- where all that pass a test stay, as many pass it as before
stay_by : {R : Type 0} (live test : R → Bool) (r : R) (rs : List R) (t o : Bool) → live r ≡ o → (o ≡ true → t ≡ true) → filter live (filter test rs) ≡ filter live rs
    → filter live (if t then r ∷ filter test rs else filter test rs) ≡ (if o then r ∷ filter live rs else filter live rs)
stay_by live test r rs true o e stays rest =
    ap (λ b. if b then r ∷ filter live (filter test rs) else filter live (filter test rs)) e ∙ ap (λ ts. if o then r ∷ ts else ts) rest
stay_by live test r rs false false e stays rest = rest
stay_by live test r rs false true e stays rest = let no : false ≡ true = stays refl in absurd (cc)

pub filtered_stay : {R : Type 0} (live test : R → Bool) → ((r : R) → live r ≡ true → test r ≡ true) → (rs : List R) → filter live (filter test rs) ≡ filter live rs
filtered_stay live test stays [] = refl
filtered_stay live test stays (r ∷ rs) =
    stay_by live test r rs (test r) (live r) refl (stays r) (filtered_stay live test stays rs)

open_by : (o s : Bool) → (o && s) ≡ true → o ≡ true
open_by true s e = refl
open_by false s e = e

pub current_stay : (test : TableRecord → Bool) → ((r : TableRecord) → is_open r.to ≡ true → test r ≡ true) → (ns : Id) (rs : List TableRecord)
    → current_tables (filter test rs) ns ≡ current_tables rs ns
current_stay test stays ns rs =
    filtered_stay (λ (r : TableRecord). is_open r.to && same r.namespace ns) test (λ r e. stays r (open_by (is_open r.to) (same r.namespace ns) e)) rs
