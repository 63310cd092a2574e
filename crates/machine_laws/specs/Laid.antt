-- Parts in their slots, as the book's parts.
use Rattle.std.specs.Prelude.{ℕ, zero, suc, List, [], ◌∷◌, Option, Some, None, ◌==◌, length, slice_get, if◌then◌else◌}
use Rattle.model.specs.Tablets.{Tablet, emptied, act_for}
use Rattle.model.specs.Parts.{Master, Parts, Outcome, empty_master}
use Rattle.machine_laws.specs.Views.{KeptView, OfMaster, OfTablet, PartView, PartAct, ForMaster, ForTablet, kept_after}

abbrev pub master_of : KeptView → Master
master_of (OfMaster m) = m
master_of (OfTablet t) = empty_master 0

abbrev pub tablet_of : KeptView → Tablet
tablet_of (OfMaster m) = emptied 0
tablet_of (OfTablet t) = t

-- the master and the tablet of what a slot keeps: where there is no part, an empty one
abbrev pub master_in : Option KeptView → Master
master_in None = empty_master 0
master_in (Some k) = master_of k

abbrev pub tablet_in : Option KeptView → Tablet
tablet_in None = emptied 0
tablet_in (Some k) = tablet_of k

abbrev pub kept_in : {R : Type 0} → Option (PartView R) → Option KeptView
kept_in None = None
kept_in (Some p) = Some p.kept

abbrev pub entries_in : {R : Type 0} → Option (PartView R) → ℕ
entries_in None = 0
entries_in (Some p) = length p.log

-- the part of a slot, among those of these slots
abbrev pub at_slot : {A : Type 0} → List ℕ → List A → ℕ → Option A
at_slot [] ps slot = None
at_slot (k ∷ ks) [] slot = None
at_slot (k ∷ ks) (p ∷ ps) slot = if k == slot then Some p else at_slot ks ps slot

-- the parts of these slots in their slots, and none in the others
abbrev pub lay : {R : Type 0} → List ℕ → List (PartView R) → Parts
lay slots ps =
    record {
      master = master_in (kept_in (at_slot slots ps 0));
      tablet = λ slot. tablet_in (kept_in (at_slot slots ps slot));
    }

-- all parts, the master's first
abbrev pub parts_of : {R : Type 0} → List (PartView R) → Parts
parts_of ps = record {
  master = master_in (kept_in (slice_get ps 0));
  tablet = λ slot. tablet_in (kept_in (slice_get ps slot));
}

-- what an outcome tells the part of a slot
abbrev pub told_to : Outcome → ℕ → PartAct
told_to o zero = ForMaster o.master
told_to o (suc slot) = ForTablet (act_for o.tablets (suc slot))

-- what it tells the parts of these slots
abbrev pub told_acts : Outcome → List ℕ → List PartAct
told_acts o [] = []
told_acts o (k ∷ ks) = told_to o k ∷ told_acts o ks

abbrev pub part_after : {R : Type 0} → PartAct → ℕ → PartView R → PartView R
part_after act n p = record p { kept = kept_after act n p.kept }

-- parts after what each is told
abbrev pub all_after : {R : Type 0} → List PartAct → ℕ → List (PartView R) → List (PartView R)
all_after [] n ps = ps
all_after (a ∷ acts) n [] = []
all_after (a ∷ acts) n (p ∷ ps) = part_after a n p ∷ all_after acts n ps

-- slot 0 has the master's part, and each other a tablet's
abbrev pub IsKind : ℕ → KeptView → Type 0
IsKind zero (OfMaster m) = Unit {0}
IsKind zero (OfTablet t) = ⊥
IsKind (suc slot) (OfMaster m) = ⊥
IsKind (suc slot) (OfTablet t) = Unit {0}

abbrev pub HasKind : ℕ → Option KeptView → Type 0
HasKind slot None = ⊥
HasKind slot (Some k) = IsKind slot k

abbrev pub AreKinds : {R : Type 0} → List ℕ → List (PartView R) → Type 0
AreKinds [] ps = Unit {0}
AreKinds (k ∷ ks) [] = ⊥
AreKinds (k ∷ ks) (p ∷ ps) = IsKind k p.kept × AreKinds ks ps
