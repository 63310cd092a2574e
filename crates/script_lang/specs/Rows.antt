-- The commands that write and read rows.
use Rattle.std.specs.Prelude.{List, [], ◌∷◌, Some, None, codes}
use Rattle.model.specs.Acts.{NamedUpsert, NamedDelete}
use Rattle.model.specs.Scripts.{ScriptCommand, WriteRows, ReadRow, ReadTable}
use Rattle.script_places.specs.declared.place.Place.TheVariants.{Name, Key, Time, Cells, Items}
use Rattle.script_places.specs.Places.{Form}

abbrev pub put : Form ScriptCommand
put = record {
  word = codes "put";
  places = Name ∷ Name ∷ Key ∷ Cells ∷ [];
  makes = λ namespace table key cells. WriteRows namespace table (record { key = key; op = NamedUpsert cells } ∷ []);
}

abbrev pub delete : Form ScriptCommand
delete = record {
  word = codes "delete";
  places = Name ∷ Name ∷ Key ∷ [];
  makes = λ namespace table key. WriteRows namespace table (record { key = key; op = NamedDelete } ∷ []);
}

abbrev pub batch : Form ScriptCommand
batch = record { word = codes "batch"; places = Name ∷ Name ∷ Items ∷ []; makes = WriteRows }

abbrev pub get : Form ScriptCommand
get = record {
  word = codes "get";
  places = Name ∷ Name ∷ Key ∷ [];
  makes = λ namespace table key. ReadRow namespace table key None;
}

abbrev pub get_at : Form ScriptCommand
get_at = record {
  word = codes "get_at";
  places = Name ∷ Name ∷ Key ∷ Time ∷ [];
  makes = λ namespace table key at. ReadRow namespace table key (Some at);
}

abbrev pub scan : Form ScriptCommand
scan = record {
  word = codes "scan";
  places = Name ∷ Name ∷ [];
  makes = λ namespace table. ReadTable namespace table None;
}

abbrev pub scan_at : Form ScriptCommand
scan_at = record {
  word = codes "scan_at";
  places = Name ∷ Name ∷ Time ∷ [];
  makes = λ namespace table at. ReadTable namespace table (Some at);
}

abbrev pub forms : List (Form ScriptCommand)
forms = put ∷ delete ∷ batch ∷ get ∷ get_at ∷ scan ∷ scan_at ∷ []
