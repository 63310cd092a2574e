-- The store from which a tablet's rows at a time are had reads as before, where the tablet keeps the frozen sets that count
-- and what it had in its live store.
use Rattle.std.proofs.Common.{ap, cond, ℕ, ◌≡◌, ◌≤◌, List, Option, Some, None, Bool, true, false, refl, subst, ◌∙◌, le_trans, leb, unwrap_or}
use Rattle.std.specs.Option.{option_map}
use Rattle.row_values.specs.Ids.{Id}
use Rattle.row_values.specs.Store.{read_of}
use Rattle.model.specs.Tablets.{FrozenSet, Tablet, set_of}
use Rattle.model.specs.Records.{SnapshotRecord}
use Rattle.model.specs.Retained.{Source, live, from_set, source_at, ReachesBack}
use Rattle.model.specs.Taking.{read_from}

-- what a tablet has at and above its cutoff, up to its clock, is read as before; its frozen sets of these snapshots are the same
pub record TabletStays (Counts : Id → Type 0) (t u : Tablet) : Type 0 where
  pub sets : (snapshot : Id) → Counts snapshot → set_of u.frozen snapshot ≡ set_of t.frozen snapshot
  pub rises : t.cutoff ≤ u.cutoff
  pub reads : (key : List ℕ) (x : ℕ) → t.cutoff ≤ x → x ≤ t.clock → read_of u.versions key x ≡ read_of t.versions key x

-- a snapshot counts where there is one
abbrev pub CountsIfAny : (Id → Type 0) → Option SnapshotRecord → Type 0
CountsIfAny Counts None = Unit {0}
CountsIfAny Counts (Some r) = Counts r.id

-- a frozen set that is there, or else the live store, is read as before
chosen_reads : (Counts : Id → Type 0) (soon : Bool) (set : Option FrozenSet) (t u : Tablet) (to x : ℕ) (key : List ℕ) → TabletStays Counts t u → x ≤ t.clock → (t.cutoff ≤ to → t.cutoff ≤ x)
    → (cond soon (unwrap_or (option_map from_set set) (live u)) (live u)).cutoff ≤ to
    → read_of (cond soon (unwrap_or (option_map from_set set) (live u)) (live u)).versions key x
    ≡ read_of (cond soon (unwrap_or (option_map from_set set) (live t)) (live t)).versions key x
chosen_reads Counts true (Some set) t u to x key stays past above reaches = refl
chosen_reads Counts true None t u to x key stays past above reaches = stays.reads key x (above (le_trans stays.rises reaches)) past
chosen_reads Counts false set t u to x key stays past above reaches = stays.reads key x (above (le_trans stays.rises reaches)) past

pub source_reads : (Counts : Id → Type 0) (served left : Option SnapshotRecord) (t u : Tablet) (to x : ℕ) (key : List ℕ) → TabletStays Counts t u → CountsIfAny Counts served → CountsIfAny Counts left
    → x ≤ t.clock → (t.cutoff ≤ to → t.cutoff ≤ x) → ReachesBack (source_at served left u to) to → read_from (source_at served left u to) key x ≡ read_from (source_at served left t to) key x
source_reads Counts (Some r) left t u to x key stays counts left_counts past above reaches = ap (λ set. read_from (option_map from_set set) key x) (stays.sets r.id counts)
source_reads Counts None None t u to x key stays counts left_counts past above reaches = stays.reads key x (above (le_trans stays.rises reaches)) past
source_reads Counts None (Some r) t u to x key stays counts left_counts past above reaches =
    let same : set_of u.frozen r.id ≡ set_of t.frozen r.id = stays.sets r.id left_counts in
    let other : Option FrozenSet → Source = λ set. cond (leb to r.at) (unwrap_or (option_map from_set set) (live u)) (live u) in
    let there : (other (set_of t.frozen r.id)).cutoff ≤ to = subst (λ set. (other set).cutoff ≤ to) same reaches in
    ap (λ set. read_of (other set).versions key x) same ∙ chosen_reads Counts (leb to r.at) (set_of t.frozen r.id) t u to x key stays past above there

-- By which snapshot

-- of a snapshot's record only this counts
pub record IsLike (q r : SnapshotRecord) : Type 0 where
  pub id_is : q.id ≡ r.id
  pub at_is : q.at ≡ r.at

-- both are none, or records of one snapshot
abbrev pub AreLike : Option SnapshotRecord → Option SnapshotRecord → Type 0
AreLike None None = Unit {0}
AreLike None (Some r) = ⊥
AreLike (Some q) None = ⊥
AreLike (Some q) (Some r) = IsLike q r

pub like_self : (r : Option SnapshotRecord) → AreLike r r
like_self None = tt
like_self (Some r) = record { id_is = refl; at_is = refl }

by_served : (served was left : Option SnapshotRecord) (t : Tablet) (to : ℕ) → AreLike served was → source_at served left t to ≡ source_at was left t to
by_served None None left t to like = refl
by_served None (Some r) left t to like = absurd like
by_served (Some q) None left t to like = absurd like
by_served (Some q) (Some r) left t to like = ap (λ id. option_map from_set (set_of t.frozen id)) like.id_is

by_left : (served left was : Option SnapshotRecord) (t : Tablet) (to : ℕ) → AreLike left was → source_at served left t to ≡ source_at served was t to
by_left (Some q) left was t to like = refl
by_left None None None t to like = refl
by_left None None (Some r) t to like = absurd like
by_left None (Some q) None t to like = absurd like
by_left None (Some q) (Some r) t to like =
    ap (λ id. Some (cond (leb to q.at) (unwrap_or (option_map from_set (set_of t.frozen id)) (live t)) (live t))) like.id_is
    ∙ ap (λ at. Some (cond (leb to at) (unwrap_or (option_map from_set (set_of t.frozen r.id)) (live t)) (live t))) like.at_is

pub source_alike : (served was left left_was : Option SnapshotRecord) (t : Tablet) (to : ℕ) → AreLike served was → AreLike left left_was
    → source_at served left t to ≡ source_at was left_was t to
source_alike served was left left_was t to like left_like = by_served served was left t to like ∙ by_left was left left_was t to left_like
