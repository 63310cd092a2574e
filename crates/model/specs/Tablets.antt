-- A tablet's part, and what it is told to do.
use Rattle.std.specs.Prelude.{ℕ, Bool, true, false, List, [], ◌∷◌, ◌++◌, Option, Some, None, ◌==◌, ◌&&◌, ◌||◌, not, max, if◌then◌else◌, filter, find}
use Rattle.model.specs.Words.{list_any, Item, KeyedRow, Id, Tablet as TabletKind, Table as TableKind, same, Version, written, kept, frozen, rows_at, of_rows}

-- what a coordinator has a tablet do
pub data Body : Type 0 where
  Fence : Body
  Freeze : (snapshot : Id) (at : ℕ) → Body
  RestoreFrom : (snapshot : Id) (to point version : ℕ) → Body
  Hide : (ended : ℕ) → Body
  Copy : (source : ℕ) (snapshot : Id) (to stamp : ℕ) (table : Id) (low high version : ℕ) → Body
  Release : (cutoff : ℕ) → Body

pub data BodyKind : Type 0 where
  FenceKind : BodyKind
  FreezeKind : BodyKind
  RestoreFromKind : BodyKind
  HideKind : BodyKind
  CopyKind : BodyKind
  ReleaseKind : BodyKind

abbrev pub kind_of : Body → BodyKind
kind_of Fence = FenceKind
kind_of (Freeze snapshot at) = FreezeKind
kind_of (RestoreFrom snapshot to point version) = RestoreFromKind
kind_of (Hide ended) = HideKind
kind_of (Copy source snapshot to stamp table low high version) = CopyKind
kind_of (Release cutoff) = ReleaseKind

abbrev pub same_body : BodyKind → BodyKind → Bool
same_body FenceKind FenceKind = true
same_body FenceKind FreezeKind = false
same_body FenceKind RestoreFromKind = false
same_body FenceKind HideKind = false
same_body FenceKind CopyKind = false
same_body FenceKind ReleaseKind = false
same_body FreezeKind FenceKind = false
same_body FreezeKind FreezeKind = true
same_body FreezeKind RestoreFromKind = false
same_body FreezeKind HideKind = false
same_body FreezeKind CopyKind = false
same_body FreezeKind ReleaseKind = false
same_body RestoreFromKind FenceKind = false
same_body RestoreFromKind FreezeKind = false
same_body RestoreFromKind RestoreFromKind = true
same_body RestoreFromKind HideKind = false
same_body RestoreFromKind CopyKind = false
same_body RestoreFromKind ReleaseKind = false
same_body HideKind FenceKind = false
same_body HideKind FreezeKind = false
same_body HideKind RestoreFromKind = false
same_body HideKind HideKind = true
same_body HideKind CopyKind = false
same_body HideKind ReleaseKind = false
same_body CopyKind FenceKind = false
same_body CopyKind FreezeKind = false
same_body CopyKind RestoreFromKind = false
same_body CopyKind HideKind = false
same_body CopyKind CopyKind = true
same_body CopyKind ReleaseKind = false
same_body ReleaseKind FenceKind = false
same_body ReleaseKind FreezeKind = false
same_body ReleaseKind RestoreFromKind = false
same_body ReleaseKind HideKind = false
same_body ReleaseKind CopyKind = false
same_body ReleaseKind ReleaseKind = true

-- a body for a tablet, from the operation whose record lists it
pub record Command : Type 0 where
  pub operation : Id
  pub tablet : Id
  pub body : Body

-- a tablet's mark that it did an operation's command of this kind
pub record Mark : Type 0 where
  pub operation : Id
  pub kind : BodyKind

abbrev pub is_mark : Id → BodyKind → Mark → Bool
is_mark operation kind mark = same mark.operation operation && same_body mark.kind kind

abbrev pub is_done : List Mark → Id → BodyKind → Bool
is_done marks operation kind = list_any (is_mark operation kind) marks

-- whether an inbox holds a command of the operation of this kind
abbrev pub holds_command : List Command → Id → BodyKind → Bool
holds_command inbox operation kind = list_any (λ c. same c.operation operation && same_body (kind_of c.body) kind) inbox

-- the versions that a snapshot froze, with the cutoff at that moment
pub record FrozenSet : Type 0 where
  pub snapshot : Id
  pub at : ℕ
  pub versions : List Version
  pub cutoff : ℕ

abbrev pub set_of : List FrozenSet → Id → Option FrozenSet
set_of fs snapshot = find (λ f. same f.snapshot snapshot) fs

-- the rows at a time of the frozen set of a snapshot; none where there is no such set
abbrev pub rows_of_set : Option FrozenSet → ℕ → List KeyedRow
rows_of_set None to = []
rows_of_set (Some f) to = rows_at f.versions to

-- a part without a tablet, one that serves its tablet, and one whose tablet was hidden at a stamp
pub data Presence : Type 0 where
  EmptyPart : Presence
  ServingPart : Presence
  HiddenPart : (ended : ℕ) → Presence

pub record Tablet : Type 0 where
  pub clock : ℕ
  pub presence : Presence
  pub tablet : Id
  pub table : Id
  pub low : ℕ
  pub high : ℕ
  pub version : ℕ
  pub versions : List Version
  pub cutoff : ℕ
  pub frozen : List FrozenSet
  pub fence : Option Id
  pub inbox : List Command
  pub done : List Mark

-- what a part says of itself where it is asked for a tablet that it doesn't serve
pub data Standing : Type 0 where
  Empty : Standing
  Serving : (tablet : Id) (low high : ℕ) → Standing
  Hidden : (tablet : Id) (ended : ℕ) → Standing

abbrev pub standing_of : Presence → Tablet → Standing
standing_of EmptyPart t = Empty
standing_of ServingPart t = Serving t.tablet t.low t.high
standing_of (HiddenPart ended) t = Hidden t.tablet ended

abbrev pub standing : Tablet → Standing
standing t = standing_of t.presence t

abbrev pub is_empty : Presence → Bool
is_empty EmptyPart = true
is_empty ServingPart = false
is_empty (HiddenPart ended) = false

abbrev pub is_serving : Presence → Bool
is_serving EmptyPart = false
is_serving ServingPart = true
is_serving (HiddenPart ended) = false

abbrev pub is_hidden : Presence → Bool
is_hidden EmptyPart = false
is_hidden ServingPart = false
is_hidden (HiddenPart ended) = true

-- whether the part serves this tablet
abbrev pub serves : Tablet → Id → Bool
serves t tablet = is_serving t.presence && same t.tablet tablet

-- an emptied part keeps its clock alone
abbrev pub emptied : ℕ → Tablet
emptied clock = record {
  clock = clock;
  presence = EmptyPart;
  tablet = record { kind = TabletKind; number = 0 };
  table = record { kind = TableKind; number = 0 };
  low = 0;
  high = 0;
  version = 0;
  versions = [];
  cutoff = 0;
  frozen = [];
  fence = None;
  inbox = [];
  done = [];
}

-- what a tablet's part is told
pub data TabletAct : Type 0 where
  Clock : TabletAct
  Make : (tablet table : Id) (low high version : ℕ) → TabletAct
  Child : (tablet table : Id) (low high version : ℕ) (versions : List Version) (cutoff : ℕ) → TabletAct
  SetVersion : (version : ℕ) → TabletAct
  HideSince : (ended : ℕ) → TabletAct
  Write : (batch : List Item) → TabletAct
  RaiseCutoff : (to : ℕ) → TabletAct
  Compact : TabletAct
  Offer : (command : Command) → TabletAct
  Process : (rows : List KeyedRow) → TabletAct
  Clear : TabletAct
  DropFrozen : (snapshot : Id) → TabletAct
  Restart : TabletAct

-- each effect below sets the clock to the stamp, besides what it says

abbrev pub ticked : ℕ → Tablet → Tablet
ticked n t = record t { clock = n }

-- an empty part gets a tablet with these versions
abbrev pub placed : Id → Id → ℕ → ℕ → ℕ → List Version → ℕ → ℕ → Tablet → Tablet
placed tablet table low high version versions cutoff n t = record (emptied n) {
  presence = ServingPart;
  tablet = tablet;
  table = table;
  low = low;
  high = high;
  version = version;
  versions = versions;
  cutoff = cutoff;
}

abbrev pub versioned : ℕ → ℕ → Tablet → Tablet
versioned version n t = record t { clock = n; version = version }

-- the tablet is hidden
abbrev pub hidden_since : ℕ → ℕ → Tablet → Tablet
hidden_since ended n t = record t { clock = n; presence = HiddenPart ended }

abbrev pub wrote : List Item → ℕ → Tablet → Tablet
wrote batch n t = record t { clock = n; versions = written t.versions n batch }

abbrev pub raised : ℕ → ℕ → Tablet → Tablet
raised to n t = record t { clock = n; cutoff = max t.cutoff to }

abbrev pub compacted : ℕ → Tablet → Tablet
compacted n t = record t { clock = n; versions = kept t.versions t.cutoff }

-- the command goes behind the others, unless the inbox holds it or it is done
abbrev pub offered : Command → ℕ → Tablet → Tablet
offered c n t = record t {
  clock = n;
  inbox =
      if is_done t.done c.operation (kind_of c.body) || holds_command t.inbox c.operation (kind_of c.body)
      then t.inbox
      else t.inbox ++ c ∷ [];
}

-- what a body does to a tablet; the rows are those that a copy takes from its source
abbrev pub obeyed : Body → Id → Id → List KeyedRow → Tablet → Tablet
obeyed Fence operation tablet rows t = record t { fence = Some operation }
obeyed (Freeze snapshot at) operation tablet rows t =
    record t {
      frozen = t.frozen
          ++ record { snapshot = snapshot; at = at; versions = frozen at t.versions; cutoff = t.cutoff } ∷ [];
    }
obeyed (RestoreFrom snapshot to point version) operation tablet rows t =
    record t {
      presence = ServingPart;
      version = version;
      versions = of_rows (rows_of_set (set_of t.frozen snapshot) to) point;
      cutoff = point;
      fence = Some operation;
    }
obeyed (Hide ended) operation tablet rows t = record t { presence = HiddenPart ended; fence = None }
obeyed (Copy source snapshot to stamp table low high version) operation tablet rows t =
    record t {
      presence = ServingPart;
      tablet = tablet;
      table = table;
      low = low;
      high = high;
      version = version;
      versions = of_rows rows stamp;
      cutoff = stamp;
      fence = Some operation;
    }
obeyed (Release cutoff) operation tablet rows t = record t { cutoff = max t.cutoff cutoff; fence = None }

-- the first command of the inbox is done and marked
abbrev pub processed : List Command → List KeyedRow → ℕ → Tablet → Tablet
processed [] rows n t = ticked n t
processed (c ∷ cs) rows n t =
    let after = obeyed c.body c.operation c.tablet rows t in
    let mark : Mark = record { operation = c.operation; kind = kind_of c.body } in
    record after { clock = n; inbox = cs; done = after.done ++ mark ∷ [] }

abbrev pub unfrozen : Id → ℕ → Tablet → Tablet
unfrozen snapshot n t = record t { clock = n; frozen = filter (λ f. not (same f.snapshot snapshot)) t.frozen }

-- a restart loses the inbox and nothing else
abbrev pub restarted : ℕ → Tablet → Tablet
restarted n t = record t { clock = n; inbox = [] }

-- the tablet's part after what it is told at a stamp
abbrev pub effect : TabletAct → ℕ → Tablet → Tablet
effect Clock n t = ticked n t
effect (Make tablet table low high version) n t = placed tablet table low high version [] n n t
effect (Child tablet table low high version versions cutoff) n t =
    placed tablet table low high version versions cutoff n t
effect (SetVersion version) n t = versioned version n t
effect (HideSince ended) n t = hidden_since ended n t
effect (Write batch) n t = wrote batch n t
effect (RaiseCutoff to) n t = raised to n t
effect Compact n t = compacted n t
effect (Offer command) n t = offered command n t
effect (Process rows) n t = processed t.inbox rows n t
effect Clear n t = emptied n
effect (DropFrozen snapshot) n t = unfrozen snapshot n t
effect Restart n t = restarted n t

-- a part's number with what it is told
pub record Told : Type 0 where
  pub slot : ℕ
  pub act : TabletAct

-- what a slot is told: the first that names it, and else to set its clock
abbrev pub act_for : List Told → ℕ → TabletAct
act_for [] slot = Clock
act_for (told ∷ rest) slot = if told.slot == slot then told.act else act_for rest slot
