-- What a call knows of its seat while it takes locks, performs an event and gives the locks back.
use Rattle.std.specs.Prelude.{ℕ, ◌≡◌, ◌⊎◌, List, [], ◌∷◌, ◌++◌, map, Option, Some, None}
use mathlib.Core.List.{IsPrefix}
use Rattle.step_table.specs.declared.known.Entry.{Entry}
use Rattle.step_table.specs.declared.known.Known.{Known}
use Rattle.step_table.specs.Helds.{slots_of}
use Rattle.step_table.specs.Machines.{Core, leaves, touched}
use Rattle.step_table.specs.Plays.{Sat, IsBusyWith}

-- the emptied slots, the last taken first
abbrev pub backwards : {P : Type 0} → List ℕ → List (ℕ × Option P) → List (ℕ × Option P)
backwards [] tail = tail
backwards (k ∷ ks) tail = backwards ks ((k, None) ∷ tail)

module _ {P E R : Type 0} where
  -- what stays while locks are taken and given back
  pub record IsAlike (v w : Known P E R) : Type 0 where
    pub given : w.given ≡ v.given
    pub seen : w.seen ≡ v.seen
    pub mine : w.mine ≡ v.mine
    pub olds : w.olds ≡ v.olds
    pub shares : w.shares ≡ v.shares
    pub splits : w.splits ≡ v.splits

  -- the seat holds what it did
  pub record IsStill (m m' : Sat P E R) : Type 0 where
    pub alike : IsAlike m.0 m'.0
    pub doing : m'.0.doing ≡ m.0.doing
    pub held : m'.0.held ≡ m.0.held
    pub carried : m'.1 ≡ m.1
    pub findings : IsPrefix m.0.findings m'.0.findings

  -- one slot more is held, and its part is out
  pub record HasTaken (event : Option E) (k : ℕ) (part : P) (m m' : Sat P E R) : Type 0 where
    pub alike : IsAlike m.0 m'.0
    pub doing : m'.0.doing ≡ event
    pub held : m'.0.held ≡ m.0.held ++ (k, part) ∷ []
    pub carried : m'.1 ≡ (k, None) ∷ m.1
    pub findings : IsPrefix m.0.findings m'.0.findings

  -- the seat holds no slot any more, and is as it was else
  pub record IsBack (m m' : Sat P E R) : Type 0 where
    pub alike : IsAlike m.0 m'.0
    pub findings : m'.0.findings ≡ m.0.findings

  abbrev pub IsIdle : Sat P E R → Type 0
  IsIdle m = (m.0.held ≡ []) × (m.1 ≡ [])

  -- what no event changes
  pub record IsSame (v w : Known P E R) : Type 0 where
    pub given : w.given ≡ v.given
    pub shares : w.shares ≡ v.shares
    pub splits : w.splits ≡ v.splits

module _ {P E D R F : Type 0} (c : Core P E D R F) where
  -- the held parts, as a view shows them
  abbrev pub meant : List (ℕ × P) → List (ℕ × P)
  meant held = map (λ x. (x.0, c.meaning x.1)) held

  -- the seat has these slots, and their parts are out
  pub record HasOut (m : Sat P E R) (held : List (ℕ × P)) : Type 0 where
    pub shown : m.0.held ≡ meant held
    pub carried : m.1 ≡ backwards (slots_of held) []

  -- the same, for this event
  pub record IsOut (event : Option E) (m : Sat P E R) (held : List (ℕ × P)) : Type 0 where
    pub busy : IsBusyWith m.0 event
    pub out : HasOut m held

  -- the given event was performed, with this reply
  pub record Performed (e : E) (r : R) (v w : Known P E R) : Type 0 where
    pub entry : Entry E R
    pub event : entry.event ≡ e
    pub reply : entry.reply ≡ r
    pub made : w.mine ≡ v.mine ++ entry ∷ []
    pub before : List (Entry E R)
    pub seen : w.seen ≡ before ++ entry ∷ []
    pub later : IsPrefix v.seen before

  -- no event was performed, for this cause
  pub record Declined (e : E) (f : F) (v w : Known P E R) : Type 0 where
    pub later : IsPrefix v.seen w.seen
    pub made : w.mine ≡ v.mine
    pub cause : (f ≡ c.no_memory) ⊎ (c.refusal (touched c (leaves c w.given w.seen) e) e ≡ Some f)
