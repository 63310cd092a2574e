-- Identifiers.
use Rattle.std.specs.Prelude.{ℕ, Bool, ◌&&◌, if◌then◌else◌, nat_le, nat_lt, List, ◌∷◌, drop, Option, Some, None, Result, Ok, bytes_eq}
use Rattle.std.specs.Int.{w64, from_be_bytes}
use Rattle.uuid.specs.Text.{parsed}
use Rattle.row_values.specs.Ids.{Kind, Id, id_bound}
use Rattle.yb_ident.specs.Layout.{layout}
use Rattle.script_words.specs.declared.cause.Cause.{Cause}
use Rattle.script_words.specs.declared.cause.Cause.TheVariants.{BadIdentifier}
use Rattle.script_words.specs.Reading.{◌>>=◌}
use Rattle.script_places.specs.Words.{Word, next_of, wanted}

-- the identifier of this kind that has the number in these bytes
abbrev pub numbered_by : Kind → List ℕ → Id
numbered_by kind bytes = record { kind = kind; number = from_be_bytes w64 (0 ∷ 0 ∷ drop 10 bytes) }

-- whether its number is an identifier's and the bytes are laid out as it is
abbrev pub lies_in : List ℕ → Id → Bool
lies_in bytes i = nat_le 1 i.number && nat_lt i.number id_bound && bytes_eq bytes (layout i)

-- the identifier of this kind that lies in the bytes of a UUID
abbrev pub ident_in : Kind → Option (List ℕ) → Option Id
ident_in kind None = None
ident_in kind (Some bytes) = if lies_in bytes (numbered_by kind bytes) then Some (numbered_by kind bytes) else None

-- an identifier of this kind, in one of the four forms of a UUID
unfoldable pub ident_of : Kind → Word → Option Id
ident_of kind w = ident_in kind (parsed w)

abbrev pub identifier_at : Kind → List Word → Result (Id × List Word) Cause
identifier_at kind ws = next_of ws >>= λ x. wanted BadIdentifier (ident_of kind x.0) >>= λ i. Ok (i, x.1)
