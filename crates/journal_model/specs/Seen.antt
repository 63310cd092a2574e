-- Changes as the book has them.
use Rattle.model.specs.Journal as book
use Rattle.journal_model.specs.declared.change.ChangeAct.{ChangeAct}
use Rattle.journal_model.specs.declared.change.ChangeAct.TheVariants as act

abbrev pub act_of : ChangeAct → book.ChangeAct
act_of (act.NamespaceMade namespace name) = book.NamespaceMade namespace name
act_of (act.NamespaceDropped namespace) = book.NamespaceDropped namespace
act_of (act.TableMade table namespace name columns) = book.TableMade table namespace name columns
act_of (act.TableRenamed table name) = book.TableRenamed table name
act_of (act.TableDropped table) = book.TableDropped table
act_of (act.ColumnAdded table column) = book.ColumnAdded table column
act_of (act.ColumnDropped table column) = book.ColumnDropped table column
act_of (act.RowChanged table key op) = book.RowChanged table key op
act_of (act.NamespaceRestored namespace to) = book.NamespaceRestored namespace to
act_of (act.NamespaceCloned source target name to tables) = book.NamespaceCloned source target name to tables
