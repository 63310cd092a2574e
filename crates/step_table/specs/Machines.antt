-- What a machine is: its words, what its entries leave of its parts, and its laws.
use Rattle.std.specs.Prelude.{ℕ, suc, ◌≡◌, ◌<◌, ◌≤◌, ◌^◌, List, [], ◌∷◌, ◌++◌, map, length, Option, None}
use Rattle.step_table.specs.declared.known.Entry.{Entry}
use Rattle.step_table.specs.Lists.{total, Every, Rising, pick, put}

-- A part is known by its meaning, which keeps all that matters of it and drops the rest, as its room
pub record Core (P E D R F : Type 0) : Type 1 where
  -- the slots that an event touches
  pub touches : E → List ℕ
  pub meaning : P → P
  pub log : P → List (Entry E R)
  -- what the event of this number makes of the touched parts, and what it answers
  pub after : List P → E → ℕ → List P
  pub reply : List P → E → ℕ → R
  -- why the touched parts refuse the event, if they do
  pub refusal : List P → E → Option F
  pub no_memory : F
  -- the event that was prepared
  pub event_of : D → E
  -- the held parts have all that `apply` needs
  pub CanApply : List P → D → Type 0
  -- the first condition: an event, where there are so many parts
  pub May : ℕ → E → Type 0
  -- the second condition: all parts
  pub Legal : List P → Type 0
  -- the third condition: the touched parts and the event
  pub Fits : List P → E → Type 0

-- the first log has one entry more, and no other
abbrev pub noted : {E R : Type 0} → Entry E R → List (List (Entry E R)) → List (List (Entry E R))
noted e [] = []
noted e (log ∷ logs) = (log ++ e ∷ []) ∷ logs

module _ {P E D R F : Type 0} (c : Core P E D R F) where
  -- the number of the entries in all logs
  abbrev pub logged : List P → ℕ
  logged parts = total (λ p. length (c.log p)) parts

  abbrev pub touched : List P → E → List P
  touched parts e = pick (c.touches e) parts

  -- all parts after the event of this number
  abbrev pub next : List P → E → ℕ → List P
  next parts e n = put (c.touches e) (c.after (touched parts e) e n) parts

  -- what entries leave of the parts, in their order
  abbrev pub leaves : List P → List (Entry E R) → List P
  leaves parts [] = parts
  leaves parts (e ∷ es) = leaves (next parts e.event e.number) es

  -- the entry is the machine's at these parts
  abbrev pub IsStep : List P → Entry E R → Type 0
  IsStep parts e = c.May (length parts) e.event × (c.refusal (touched parts e.event) e.event ≡ None) × (e.reply ≡ c.reply (touched parts e.event) e.event e.number) × (e.number ≡ suc (logged parts))

  -- each entry is the machine's at its point
  abbrev pub IsRight : List P → List (Entry E R) → Type 0
  IsRight parts [] = Unit {0}
  IsRight parts (e ∷ es) = IsStep parts e × IsRight (next parts e.event e.number) es

  abbrev pub entry_of : List P → E → ℕ → Entry E R
  entry_of parts e n = record { number = n; event = e; reply = c.reply parts e n }

  pub record Lawful : Type 0 where
    -- an event touches at least one slot, each once, in rising order, and each is a part's
    pub some : (n : ℕ) (e : E) → c.May n e → 0 < length (c.touches e)
    pub rising : (n : ℕ) (e : E) → c.May n e → Rising (c.touches e)
    pub below : (n : ℕ) (e : E) → c.May n e → Every (λ k. k < n) (c.touches e)
    pub fits : (parts : List P) (e : E) → c.Legal parts → c.May (length parts) e → c.Fits (touched parts e) e
    pub stays : (parts : List P) (e : E) (n : ℕ) → c.Legal parts → c.May (length parts) e → c.refusal (touched parts e) e ≡ None → n ≡ suc (logged parts) → c.Legal (next parts e n)
    -- a step adds its entry to the log of the least touched part, and no other entry
    pub adds : (held : List P) (e : E) (n : ℕ) → c.Fits held e → c.refusal held e ≡ None → map c.log (c.after held e n) ≡ noted (entry_of held e n) (map c.log held)
    -- so the numbers of entries stay below 2^62
    pub few : (parts : List P) → c.Legal parts → length parts < 2 ^ 32
    pub short : (parts : List P) → c.Legal parts → Every (λ p. length (c.log p) ≤ 2 ^ 30) parts
