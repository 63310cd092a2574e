-- What tablets are told, and what they say of themselves, as the book has it, and back.
use Rattle.std.specs.Prelude.{Option, Some, None}
use Rattle.row_values.specs.Ids.{Id, Kind, Tablet}
use Rattle.model.specs.Tablets as book
use Rattle.tablet_inbox.specs.declared.body.Body.{Body}
use Rattle.tablet_inbox.specs.declared.body.Body.TheVariants as body
use Rattle.tablet_inbox.specs.declared.body.BodyKind.{BodyKind}
use Rattle.tablet_inbox.specs.declared.body.BodyKind.TheVariants as kind
use Rattle.tablet_inbox.specs.declared.standing.Standing.{Standing}
use Rattle.tablet_inbox.specs.declared.standing.Standing.TheVariants as standing

abbrev pub body_of : Body → book.Body
body_of body.Fence = book.Fence
body_of (body.Freeze snapshot at) = book.Freeze snapshot at
body_of (body.RestoreFrom snapshot to point version) = book.RestoreFrom snapshot to point version
body_of (body.Hide ended) = book.Hide ended
body_of (body.Copy source snapshot to stamp table range version) =
    book.Copy source snapshot to stamp table range.low range.high version
body_of (body.Release cutoff) = book.Release cutoff

abbrev pub body_from : book.Body → Body
body_from book.Fence = body.Fence
body_from (book.Freeze snapshot at) = body.Freeze snapshot at
body_from (book.RestoreFrom snapshot to point version) = body.RestoreFrom snapshot to point version
body_from (book.Hide ended) = body.Hide ended
body_from (book.Copy source snapshot to stamp table low high version) =
    body.Copy source snapshot to stamp table (record { low = low; high = high }) version
body_from (book.Release cutoff) = body.Release cutoff

abbrev pub kind_seen : BodyKind → book.BodyKind
kind_seen kind.Fence = book.FenceKind
kind_seen kind.Freeze = book.FreezeKind
kind_seen kind.RestoreFrom = book.RestoreFromKind
kind_seen kind.Hide = book.HideKind
kind_seen kind.Copy = book.CopyKind
kind_seen kind.Release = book.ReleaseKind

abbrev pub kind_from : book.BodyKind → BodyKind
kind_from book.FenceKind = kind.Fence
kind_from book.FreezeKind = kind.Freeze
kind_from book.RestoreFromKind = kind.RestoreFrom
kind_from book.HideKind = kind.Hide
kind_from book.CopyKind = kind.Copy
kind_from book.ReleaseKind = kind.Release

-- the identifier, or that of nothing
abbrev pub id_or : Kind → Option Id → Id
id_or kind None = record { kind = kind; number = 0 }
id_or kind (Some id) = id

abbrev pub standing_seen : Standing → book.Standing
standing_seen standing.Empty = book.Empty
standing_seen (standing.Serving tablet low high) = book.Serving (id_or Tablet tablet) low high
standing_seen (standing.Hidden tablet ended) = book.Hidden (id_or Tablet tablet) ended
