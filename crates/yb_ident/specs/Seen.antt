-- The kinds of this crate as the book's, and back.
use Rattle.row_values.specs.Ids as book
use Rattle.yb_ident.specs.declared.kind.Kind.{Kind}
use Rattle.yb_ident.specs.declared.kind.Kind.TheVariants as kind

abbrev pub kind_of : Kind → book.Kind
kind_of kind.Namespace = book.Namespace
kind_of kind.Table = book.Table
kind_of kind.Tablet = book.Tablet
kind_of kind.Schedule = book.Schedule
kind_of kind.Snapshot = book.Snapshot
kind_of kind.Restoration = book.Restoration
kind_of kind.Clone = book.Clone

abbrev pub kind_from : book.Kind → Kind
kind_from book.Namespace = kind.Namespace
kind_from book.Table = kind.Table
kind_from book.Tablet = kind.Tablet
kind_from book.Schedule = kind.Schedule
kind_from book.Snapshot = kind.Snapshot
kind_from book.Restoration = kind.Restoration
kind_from book.Clone = kind.Clone
