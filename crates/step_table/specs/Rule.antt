-- The rule of the table, which holds between any two steps.
use Rattle.std.specs.Prelude.{ℕ, suc, ◌≡◌, ◌<◌, ◌⊎◌, List, [], map, length, slice_index, Option, Some, None, nat_eq, cond}
use mathlib.Core.Option as maybe
use mathlib.Core.List.{IsPrefix}
use lib.ListN.{get_elem?}
use Rattle.atomic_table.specs.Table.{State}
use Rattle.step_table.specs.declared.known.Entry.{Entry}
use Rattle.step_table.specs.declared.known.Known.{Known}
use Rattle.step_table.specs.Lists.{total, Every, In, Rising}
use Rattle.step_table.specs.Machines.{Core, leaves, IsRight, logged}
use Rattle.step_table.specs.Histories.{history_of, IsNumbered}

-- how often a slot stands there
abbrev pub times : {P : Type 0} → ℕ → List (ℕ × P) → ℕ
times k held = total (λ x. cond (nat_eq k x.0) 1 0) held

module _ {P E R : Type 0} where
  -- the view of the first seat
  abbrev pub opener : List P → Known P E R
  opener given = record { given = given; seen = []; mine = []; olds = []; findings = []; shares = 4096; splits = 0; doing = None; held = [] }

module _ {P E R : Type 0} where
  -- the view of a seat that was joined to another
  abbrev pub spent : Known P E R
  spent = record { given = []; seen = []; mine = []; olds = []; findings = []; shares = 0; splits = 0; doing = None; held = [] }

-- an earlier view's given parts and history
abbrev pub IsOld : {P E R : Type 0} → List P → List (Entry E R) → List P × List (Entry E R) → Type 0
IsOld given since old = (old.0 ≡ given) × IsPrefix old.1 since

abbrev pub IsAt : {E R : Type 0} → List (Entry E R) → Entry E R → Type 0
IsAt history e = In e history

module _ {P E D R F : Type 0} (c : Core P E D R F) where
  -- the slot is one that the announced event touches
  abbrev pub Announces : Option E → ℕ → Type 0
  Announces None k = ⊥
  Announces (Some e) k = In k (c.touches e)

  -- a slot that a seat holds: its view shows the slot's part
  abbrev pub Shows : List P → Option E → ℕ × P → Type 0
  Shows parts doing x = (x.0 < length parts) × (get_elem? parts x.0 ≡ maybe.some x.1) × Announces doing x.0

  -- what is so of each view
  pub record Sound (given : List P) (since : List (Entry E R)) (v : Known P E R) : Type 0 where
    pub given_is : ¬ (v.shares ≡ 0) → v.given ≡ given
    -- its histories are prefixes of the one history, and hold its own entries
    pub seen_in : IsPrefix v.seen since
    pub olds_in : Every (IsOld given since) v.olds
    pub mine_in : Every (IsAt v.seen) v.mine
    pub mine_rise : Rising (map (λ (e : Entry E R). e.number) v.mine)
    -- it has announced one event, and holds only slots that this event touches
    pub shows : Every (Shows (leaves c given since) v.doing) v.held
    -- a view with no share is that of a joined seat
    pub spent_is : v.shares ≡ 0 → v ≡ spent

  -- a slot by its lock word: free with its part at home, or taken with the part out
  abbrev pub Place : List P → ℕ → ℕ → maybe.Option (maybe.Option (Option P)) → Type 0
  Place parts k lock home = ((lock ≡ 0) × (p : P) × (home ≡ maybe.some (maybe.some (Some p))) × (get_elem? parts k ≡ maybe.some (c.meaning p))) ⊎ ((lock ≡ 1) × (home ≡ maybe.some maybe.none))

  pub record Stands (given : List P) (s : State (Option P) (Known P E R)) : Type 0 where
    pub start : c.Legal given
    pub begun : IsNumbered 1 (history_of c given)
    -- the entries made since the table was, in order of number; with those of the given parts they are the one history
    pub since : List (Entry E R)
    pub right : IsRight c given since
    pub past : Every (λ (e : Entry E R). e.number < suc (logged c (leaves c given since))) since
    pub up : Rising (map (λ (e : Entry E R). e.number) since)
    pub order : slice_index s.words 0 ≡ logged c (leaves c given since)
    -- the parts, at home or shown by a view, are what these entries leave of the given parts
    pub legal : c.Legal (leaves c given since)
    pub same : length (leaves c given since) ≡ length given
    pub wide : length s.words ≡ suc (length given)
    pub deep : length s.homes ≡ length given
    pub places : (k : ℕ) → k < length given → Place (leaves c given since) k (slice_index s.words (suc k)) (get_elem? s.homes k)
    pub each : (id : ℕ) (v : Known P E R) → get_elem? s.views id ≡ maybe.some v → Sound given since v
    -- a lock word is taken exactly where one view holds the slot
    pub locks : (k : ℕ) → k < length given → total (λ (v : Known P E R). times k v.held) s.views ≡ slice_index s.words (suc k)
    -- each entry is in the list of exactly one view, however entries are weighed
    pub mine : (h : Entry E R → ℕ) → total (λ (v : Known P E R). total h v.mine) s.views ≡ total h since
    -- the shares of all views
    pub shares : total (λ (v : Known P E R). v.shares) s.views ≡ 4096
