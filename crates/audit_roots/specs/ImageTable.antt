-- The tables that an image shows, each with its rows.
use Rattle.std.specs.Prelude.{ℕ, ◌≡◌, ◌<◌, List, [], ◌∷◌, map}
use Rattle.sql_types.specs.declared.image.Image.{Image}
use Rattle.sql_types.specs.declared.image.TableRows.{TableRows}
use Rattle.sql_types.specs.declared.table.TableDef.{TableDef}
use Rattle.sql_types.specs.declared.version.Table.{Table}
use Rattle.spec_model.specs.Catalog.{Tables}
use Rattle.format_image.specs.Tables.{table_in, defs_in}
use Rattle.audit_roots.specs.declared.shown.ImageTable.{ImageTable}

abbrev pub def_of : ImageTable → TableDef
def_of s = s.def.now

abbrev pub rows_of : ImageTable → TableRows
rows_of s = s.rows.now

abbrev pub table_of : ImageTable → Table
table_of s = table_in (def_of s) (rows_of s)

-- they are the tables of the image, in its order
pub record AreImageTables (tables : List ImageTable) (i : Image) : Type 0 where
  pub defs : map def_of tables ≡ defs_in i
  pub rows : map rows_of tables ≡ i.tables

-- tables by rising id, which begin above this one
abbrev pub IdsRise : ℕ → Tables → Type 0
IdsRise last [] = Unit {0}
IdsRise last (t ∷ ts) = (last < t.def.id) × IdsRise t.def.id ts
