-- What each step tells the seat that makes it.
use Rattle.std.specs.Prelude.{ℕ, suc, ◌≡◌, ◌≤◌, ◌<◌, ◌⊎◌, ◌^◌, List, [], ◌∷◌, ◌++◌, map, length, Option, Some, None}
use mathlib.Core.List.{IsPrefix}
use Rattle.atomic_table.specs.Table.{Step, Me, rest}
use Rattle.step_table.specs.declared.known.Entry.{Entry}
use Rattle.step_table.specs.declared.known.Known.{Known}
use Rattle.step_table.specs.Lists.{fst, snd, Every, pick, pair}
use Rattle.step_table.specs.Machines.{Core, leaves, IsRight, logged, entry_of}
use Rattle.step_table.specs.Histories.{history_of, IsNumbered}
use Rattle.step_table.specs.Rule.{IsOld, IsAt}

abbrev At : Type 0 → Type 0
At P = Step (Option P)

-- a seat: its view, and the slots that are out with it
abbrev pub Sat : Type 0 → Type 0 → Type 0 → Type 0
Sat P E R = Me (Option P) (Known P E R)

abbrev pub but_last : {A : Type 0} → List A → List A
but_last [] = []
but_last (x ∷ []) = []
but_last (x ∷ y ∷ ys) = x ∷ but_last (y ∷ ys)

-- with the last slot the announced event goes
abbrev pub still : {P E : Type 0} → List (ℕ × P) → Option E → Option E
still [] doing = None
still (x ∷ xs) doing = doing

module _ {P E R : Type 0} where
  -- a slot more is held, for this event
  abbrev pub holding : Known P E R → Option E → ℕ → P → Known P E R
  holding v event k part = record v { doing = event; held = v.held ++ (k, part) ∷ [] }

  abbrev pub finding : Known P E R → ℕ → Known P E R
  finding v k = record v { findings = v.findings ++ k ∷ [] }

  -- the seat has announced this event, and no other
  abbrev pub IsBusyWith : Known P E R → Option E → Type 0
  IsBusyWith v event = (v.held ≡ []) ⊎ (v.doing ≡ event)

  abbrev pub released : Known P E R → Known P E R
  released v = record v { held = but_last v.held; doing = still (but_last v.held) v.doing }

  abbrev pub gave : At P → Sat P E R → ℕ → Sat P E R → Type 0
  gave st m n m' = m' ≡ (released m.0, rest m.1)

module _ {P E D R F : Type 0} (c : Core P E D R F) where
  -- what every pass knows: its history goes on from given parts that were legal, and holds its own entries
  pub record Knows (v : Known P E R) : Type 0 where
    pub start : c.Legal v.given
    pub begun : IsNumbered 1 (history_of c v.given)
    pub right : IsRight c v.given v.seen
    pub mine : Every (IsAt v.seen) v.mine

  -- what a seat knows besides, once it has seen the history so far
  pub record Sees (v : Known P E R) : Type 0 where
    pub knows : Knows v
    pub legal : c.Legal (leaves c v.given v.seen)
    pub same : length (leaves c v.given v.seen) ≡ length v.given
    pub parts : map snd v.held ≡ pick (map fst v.held) (leaves c v.given v.seen)

  -- the number of the last entry was read: the seat has seen the history so far
  abbrev pub looked : At P → Sat P E R → ℕ → Sat P E R → Type 0
  looked st m n m' = (m' ≡ (record m.0 { seen = m'.0.seen; olds = [] }, m.1)) × IsPrefix m.0.seen m'.0.seen × Every (IsOld m.0.given m'.0.seen) m.0.olds × Sees m'.0 × (n ≡ logged c (leaves c m.0.given m'.0.seen)) × (length m.0.given ≡ st.slots) × (m'.0.shares ≤ 4096)

  -- a lock was tried: it was free and its part is held, or it was another's
  abbrev pub took : Option E → At P → Sat P E R → ℕ → Sat P E R → Type 0
  took event st m n m' = (k : ℕ) → st.word ≡ suc k
      → (n ≡ 0 → (p : P) × (m' ≡ (holding m.0 event k (c.meaning p), (k, Some p) ∷ m.1)))
      × (¬ (n ≡ 0) → (m' ≡ (finding m.0 k, m.1)) × (m.0.shares < 4096))

  -- the view after the event of this number, which came behind these entries
  abbrev pub entered : Known P E R → List (Entry E R) → E → ℕ → Known P E R
  entered v since e n = record v {
    seen = since ++ entry_of c (map snd v.held) e n ∷ [];
    mine = v.mine ++ entry_of c (map snd v.held) e n ∷ [];
    held = pair (c.touches e) (c.after (map snd v.held) e n);
  }

  -- the announced event was committed: its entry stands behind all that was seen, and the held slots show the parts after it
  abbrev pub committed : Option E → At P → Sat P E R → ℕ → Sat P E R → Type 0
  committed event st m n m' = (e : E) → event ≡ Some e → (since : List (Entry E R)) × IsPrefix m.0.seen since × (m' ≡ (entered m.0 since e (suc n), m.1)) × Knows m'.0 × (n < 2 ^ 62)
