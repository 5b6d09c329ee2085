-- The tables that an image shows.
use Rattle.std.specs.Prelude.{List, [], ◌∷◌, ◌++◌}
use Rattle.sql_types.specs.declared.table.TableDef.{TableDef}
use Rattle.sql_types.specs.declared.version.Table.{Table}
use Rattle.sql_types.specs.declared.image.Image.{Image}
use Rattle.sql_types.specs.declared.image.TableRows.{TableRows}
use Rattle.spec_model.specs.Catalog.{Defs, Tables}
use Rattle.spec_model.specs.SystemTables.{tables_def, columns_def}

-- a table with the versions of its base and of its history
abbrev pub table_in : TableDef → TableRows → Table
table_in def rows = record { def = def; versions = rows.base ++ rows.history }

abbrev pub tables_with : Defs → List TableRows → Tables
tables_with (def ∷ defs) (rows ∷ more) = table_in def rows ∷ tables_with defs more
tables_with _ _ = []

-- the definitions of the two tables of the system, and then those of the image
abbrev pub defs_in : Image → Defs
defs_in i = tables_def ∷ columns_def ∷ i.defs

-- the tables of the system and those of users
abbrev pub tables_in : Image → Tables
tables_in i = tables_with (defs_in i) i.tables
