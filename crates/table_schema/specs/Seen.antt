-- The kinds of columns of this crate as the book's, and back.
use Rattle.row_values.specs.Schema as book
use Rattle.table_schema.specs.declared.kind.Kind.{Kind}
use Rattle.table_schema.specs.declared.kind.Kind.TheVariants as kind

abbrev pub column_kind_of : Kind → book.ColumnKind
column_kind_of kind.Int = book.IntColumn
column_kind_of kind.Text = book.TextColumn

abbrev pub column_kind_from : book.ColumnKind → Kind
column_kind_from book.IntColumn = kind.Int
column_kind_from book.TextColumn = kind.Text
