-- The commands whose lemmas stand here.
use Rattle.model.specs.Acts.{Command, CreateNamespace, DropNamespace, CreateTable, AddColumn, DropColumn, RenameTable, DropTable, ListSchedules, ListSnapshots, ListRestorations, ListClones, ListTablets}

-- the commands on namespaces and tables, and those that list
abbrev pub IsOfCatalog : Command → Type 0
IsOfCatalog (CreateNamespace name) = Unit {0}
IsOfCatalog (DropNamespace name) = Unit {0}
IsOfCatalog (CreateTable namespace table tablets columns) = Unit {0}
IsOfCatalog (AddColumn namespace table name kind) = Unit {0}
IsOfCatalog (DropColumn namespace table name) = Unit {0}
IsOfCatalog (RenameTable namespace table name) = Unit {0}
IsOfCatalog (DropTable namespace table) = Unit {0}
IsOfCatalog ListSchedules = Unit {0}
IsOfCatalog ListSnapshots = Unit {0}
IsOfCatalog ListRestorations = Unit {0}
IsOfCatalog ListClones = Unit {0}
IsOfCatalog (ListTablets namespace) = Unit {0}
IsOfCatalog _ = ⊥
