-- Identifiers.
use Rattle.std.specs.Prelude.{ℕ, zero, suc, Bool, true, false, ◌==◌, ◌&&◌, ◌<◌, ◌≤◌, ◌^◌, ◌+◌, ◌/◌, ◌%◌, nat_lt, if◌then◌else◌, List, [], ◌∷◌, ◌++◌, codes}

pub data Kind : Type 0 where
  Namespace : Kind
  Table : Kind
  Tablet : Kind
  Schedule : Kind
  Snapshot : Kind
  Restoration : Kind
  Clone : Kind

-- the digit by which a kind is printed
abbrev pub kind_digit : Kind → ℕ
kind_digit Namespace = 1
kind_digit Table = 2
kind_digit Tablet = 3
kind_digit Schedule = 4
kind_digit Snapshot = 5
kind_digit Restoration = 6
kind_digit Clone = 7

-- what a namespace, a table, a tablet, a schedule, a snapshot, a restoration or a clone is known by; each kind is
-- numbered from 1
pub record Id : Type 0 where
  pub kind : Kind
  pub number : ℕ

-- the numbers of identifiers have six bytes
abbrev pub id_bound : ℕ
id_bound = 2 ^ 48

-- the identifier is of something: nothing has the number 0
abbrev pub IsId : Id → Type 0
IsId id = (1 ≤ id.number) × (id.number < id_bound)

abbrev pub same_kind : Kind → Kind → Bool
same_kind Namespace Namespace = true
same_kind Namespace Table = false
same_kind Namespace Tablet = false
same_kind Namespace Schedule = false
same_kind Namespace Snapshot = false
same_kind Namespace Restoration = false
same_kind Namespace Clone = false
same_kind Table Namespace = false
same_kind Table Table = true
same_kind Table Tablet = false
same_kind Table Schedule = false
same_kind Table Snapshot = false
same_kind Table Restoration = false
same_kind Table Clone = false
same_kind Tablet Namespace = false
same_kind Tablet Table = false
same_kind Tablet Tablet = true
same_kind Tablet Schedule = false
same_kind Tablet Snapshot = false
same_kind Tablet Restoration = false
same_kind Tablet Clone = false
same_kind Schedule Namespace = false
same_kind Schedule Table = false
same_kind Schedule Tablet = false
same_kind Schedule Schedule = true
same_kind Schedule Snapshot = false
same_kind Schedule Restoration = false
same_kind Schedule Clone = false
same_kind Snapshot Namespace = false
same_kind Snapshot Table = false
same_kind Snapshot Tablet = false
same_kind Snapshot Schedule = false
same_kind Snapshot Snapshot = true
same_kind Snapshot Restoration = false
same_kind Snapshot Clone = false
same_kind Restoration Namespace = false
same_kind Restoration Table = false
same_kind Restoration Tablet = false
same_kind Restoration Schedule = false
same_kind Restoration Snapshot = false
same_kind Restoration Restoration = true
same_kind Restoration Clone = false
same_kind Clone Namespace = false
same_kind Clone Table = false
same_kind Clone Tablet = false
same_kind Clone Schedule = false
same_kind Clone Snapshot = false
same_kind Clone Restoration = false
same_kind Clone Clone = true

abbrev pub same : Id → Id → Bool
same a b = (a.number == b.number) && same_kind a.kind b.kind

-- Its text

abbrev pub hex_digit : ℕ → ℕ
hex_digit d = if nat_lt d 10 then 48 + d else 87 + d

-- the last so many hexadecimal digits of a number
abbrev pub hex_digits : ℕ → ℕ → List ℕ
hex_digits zero n = []
hex_digits (suc count) n = hex_digits count (n / 16) ++ hex_digit (n % 16) ∷ []

-- an identifier as a UUID: its kind stands in the first field, its number in the last
abbrev pub id_text : Id → List ℕ
id_text id = hex_digits 8 (kind_digit id.kind) ++ codes "-0000-4000-8000-" ++ hex_digits 12 id.number
