-- The commands that change namespaces, tables and columns.
use Rattle.std.specs.Prelude.{List, [], ◌∷◌, codes}
use Rattle.script_places.specs.declared.place.Place.TheVariants.{Tablets, Name, Number, Column, Columns}
use Rattle.script_places.specs.Places.{Form}
use Rattle.model.specs.Scripts.{ScriptCommand, CreateNamespace, DropNamespace, CreateTable, AddColumn, DropColumn, RenameTable, DropTable}
use Rattle.script_lang.specs.Limits.{most_tablets}

abbrev pub create_namespace : Form ScriptCommand
create_namespace = record { word = codes "create_namespace"; places = Name ∷ []; makes = CreateNamespace }

abbrev pub drop_namespace : Form ScriptCommand
drop_namespace = record { word = codes "drop_namespace"; places = Name ∷ []; makes = DropNamespace }

abbrev pub create_table : Form ScriptCommand
create_table = record {
  word = codes "create_table";
  places = Name ∷ Name ∷ Tablets ∷ Number 1 most_tablets ∷ Columns ∷ [];
  makes = λ namespace table _ tablets columns. CreateTable namespace table tablets columns;
}

abbrev pub add_column : Form ScriptCommand
add_column = record {
  word = codes "add_column";
  places = Name ∷ Name ∷ Column ∷ [];
  makes = λ namespace table column. AddColumn namespace table column.name column.kind;
}

abbrev pub drop_column : Form ScriptCommand
drop_column = record { word = codes "drop_column"; places = Name ∷ Name ∷ Name ∷ []; makes = DropColumn }

abbrev pub rename_table : Form ScriptCommand
rename_table = record { word = codes "rename_table"; places = Name ∷ Name ∷ Name ∷ []; makes = RenameTable }

abbrev pub drop_table : Form ScriptCommand
drop_table = record { word = codes "drop_table"; places = Name ∷ Name ∷ []; makes = DropTable }

abbrev pub forms : List (Form ScriptCommand)
forms = create_namespace ∷ drop_namespace ∷ create_table ∷ add_column ∷ drop_column ∷ rename_table ∷ drop_table ∷ []
