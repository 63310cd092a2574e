-- A read reads the parts of its places.
use Rattle.std.proofs.Common.{ℕ, ◌≡◌, ◌==◌, ◌&&◌, ◌++◌, List, [], ◌∷◌, map, Option, Some, None, cond, refl, ap, ◌∙◌, option_map}
use Rattle.std.specs.Option.{option_or}
use Rattle.row_values.specs.declared.rows.KeyedRow.{KeyedRow}
use Rattle.row_values.specs.Ids.{Id}
use Rattle.model.specs.Times.{time_of, is_future, is_below}
use Rattle.row_values.specs.Store.{precedes}
use Rattle.model.specs.Tablets.{Tablet, serves}
use Rattle.model.specs.Acts.{At, Refusal, Future, Fenced, StaleSchema, TooOld, Rows}
use Rattle.model.specs.Parts.{Parts, Outcome, If, judged, answered, Names, Fault}
use Rattle.row_values.specs.Elements.{AllOf, in_order}
use Rattle.model.specs.RowActs.{read, has_moved, covers, none_left, goes_on, moved_from_key, moved_from_scan, first_moved, first_fence, other_version, stale, first_cutoff, rows_in, rows_of_places, cut_rows}
use Rattle.law_local.specs.Agreeing.{Agree}
use Rattle.law_local.proofs.Agreement.{has_first, agree_rest}

-- the parts of the places are equal
abbrev AtPlaces : List At → (ℕ → Tablet) → (ℕ → Tablet) → Type 0
AtPlaces places f g = AllOf (λ place. f place.slot ≡ g place.slot) places

places_same : (places : List At) (p q : Parts) → Agree (map (λ place. place.slot) places) p q → AtPlaces places p.tablet q.tablet
places_same [] p q a = tt
places_same (place ∷ places) p q a =
    let rest : Agree (map (λ place. place.slot) places) p q = agree_rest place.slot (map (λ place. place.slot) places) p q a in
    (a.tablets place.slot (has_first place.slot (map (λ place. place.slot) places)), places_same places p q rest)

key_same : (places : List At) (key : List ℕ) (f g : ℕ → Tablet) → AtPlaces places f g → moved_from_key places key f ≡ moved_from_key places key g
key_same [] key f g same = refl
key_same (place ∷ places) key f g same =
    ap (λ t. cond (serves t place.tablet && covers t key) (moved_from_key places key f) (Some (has_moved place.slot t))) same.0
    ∙ ap (λ r. cond (serves (g place.slot) place.tablet && covers (g place.slot) key) r (Some (has_moved place.slot (g place.slot)))) (key_same places key f g same.1)

scan_same : (places : List At) (from : ℕ) (f g : ℕ → Tablet) → AtPlaces places f g → moved_from_scan places from f ≡ moved_from_scan places from g
scan_same [] from f g same = refl
scan_same (place ∷ places) from f g same =
    ap (λ t. cond (goes_on from (none_left places) place.tablet t) (moved_from_scan places t.high f) (Some (has_moved place.slot t))) same.0
    ∙ ap (λ r. cond (goes_on from (none_left places) place.tablet (g place.slot)) r (Some (has_moved place.slot (g place.slot)))) (scan_same places (g place.slot).high f g same.1)

moved_same : (key : Option (List ℕ)) (places : List At) (f g : ℕ → Tablet) → AtPlaces places f g → first_moved key places f ≡ first_moved key places g
moved_same None places f g same = scan_same places 0 f g same
moved_same (Some key) places f g same = key_same places key f g same

fence_same : (places : List At) (f g : ℕ → Tablet) → AtPlaces places f g → first_fence places f ≡ first_fence places g
fence_same [] f g same = refl
fence_same (place ∷ places) f g same =
    ap (λ t. option_or t.fence (first_fence places f)) same.0 ∙ ap (λ r. option_or (g place.slot).fence r) (fence_same places f g same.1)

version_same : (places : List At) (version : ℕ) (f g : ℕ → Tablet) → AtPlaces places f g → other_version places version f ≡ other_version places version g
version_same [] version f g same = refl
version_same (place ∷ places) version f g same =
    ap (λ t. cond (t.version == version) (other_version places version f) (Some t.version)) same.0
    ∙ ap (λ r. cond ((g place.slot).version == version) r (Some (g place.slot).version)) (version_same places version f g same.1)

stale_same : (at : Option ℕ) (places : List At) (version : ℕ) (f g : ℕ → Tablet) → AtPlaces places f g → stale at places version f ≡ stale at places version g
stale_same None places version f g same = version_same places version f g same
stale_same (Some x) places version f g same = refl

cutoff_same : (places : List At) (at : Option ℕ) (f g : ℕ → Tablet) → AtPlaces places f g → first_cutoff places at f ≡ first_cutoff places at g
cutoff_same [] at f g same = refl
cutoff_same (place ∷ places) at f g same =
    ap (λ t. cond (is_below at t.cutoff) (Some t.cutoff) (first_cutoff places at f)) same.0
    ∙ ap (λ r. cond (is_below at (g place.slot).cutoff) (Some (g place.slot).cutoff) r) (cutoff_same places at f g same.1)

rows_same : (places : List At) (key : Option (List ℕ)) (x : ℕ) (f g : ℕ → Tablet) → AtPlaces places f g → rows_of_places places key x f ≡ rows_of_places places key x g
rows_same [] key x f g same = refl
rows_same (place ∷ places) key x f g same =
    ap (λ t. rows_in t key x ++ rows_of_places places key x f) same.0 ∙ ap (λ rows. rows_in (g place.slot) key x ++ rows) (rows_same places key x f g same.1)

-- what a read answers by what it finds at its places
abbrev read_by : Option ℕ → List ℕ → ℕ → Option Refusal → Option Id → Option ℕ → Option ℕ → List KeyedRow → Outcome
read_by at columns n away fence other cutoff rows = judged
    (Fault away
    ∷ Names fence Fenced
    ∷ Fault (option_map StaleSchema other)
    ∷ If (is_future at n) (Future n)
    ∷ Fault (option_map (TooOld (time_of at n)) cutoff)
    ∷ [])
    (answered (Rows (cut_rows columns (in_order (λ r s. precedes r.key s.key) rows))))

pub read_same : (places : List At) (version : ℕ) (key : Option (List ℕ)) (at : Option ℕ) (columns : List ℕ) (n : ℕ) (p q : Parts)
    → Agree (map (λ place. place.slot) places) p q → read places version key at columns n p ≡ read places version key at columns n q
unfolding read
read_same places version key at columns n p q a =
    let same = places_same places p q a in
    let f = p.tablet in
    let g = q.tablet in
    ap (λ away. read_by at columns n away (first_fence places f) (stale at places version f) (first_cutoff places at f) (rows_of_places places key (time_of at n) f)) (moved_same key places f g same)
    ∙ ap (λ fence. read_by at columns n (first_moved key places g) fence (stale at places version f) (first_cutoff places at f) (rows_of_places places key (time_of at n) f)) (fence_same places f g same)
    ∙ ap (λ other. read_by at columns n (first_moved key places g) (first_fence places g) other (first_cutoff places at f) (rows_of_places places key (time_of at n) f)) (stale_same at places version f g same)
    ∙ ap (λ cutoff. read_by at columns n (first_moved key places g) (first_fence places g) (stale at places version g) cutoff (rows_of_places places key (time_of at n) f)) (cutoff_same places at f g same)
    ∙ ap (λ rows. read_by at columns n (first_moved key places g) (first_fence places g) (stale at places version g) (first_cutoff places at g) rows) (rows_same places key (time_of at n) f g same)
