-- What commands find, as the book's.
use Rattle.model.specs.Looks as looks
use Rattle.model.specs.Changes as book
use Rattle.master_acts.specs.declared.judges.ColumnOf.{ColumnOf}
use Rattle.master_acts.specs.declared.judges.Family.{Family}

abbrev pub column_seen : ColumnOf → book.ColumnOf
column_seen c = record { table = c.table.now; column = c.column.now }

abbrev pub family_seen : Family → looks.Family
family_seen f = record {
  parent = record { table = f.table.now; tablet = f.tablet };
  low_slot = f.low_slot;
  high_slot = f.high_slot;
}
