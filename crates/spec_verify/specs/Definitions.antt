-- The rows that stand in the two tables of the system spell the definitions of all others.
use Rattle.std.specs.Prelude.{ℕ, zero, suc, ℤ, List, [], ◌∷◌, map, Option, Some, None}
use Rattle.std.specs.Ordering.{int_cmp}
use Rattle.sql_types.specs.declared.image.Image.{Image}
use Rattle.sql_types.specs.declared.image.TableRows.{TableRows}
use Rattle.sql_types.specs.declared.version.Version.{Version}
use Rattle.spec_model.specs.Rows.{Row, values_of}
use Rattle.law_catalog_rows.specs.Differs.{encoding_fault}
use Rattle.law_catalog_rows.specs.Least.{lesser_of}
use Rattle.spec_verify.specs.declared.place.Place.{Place}
use Rattle.spec_verify.specs.declared.place.Place.TheVariants as at

abbrev pub table_place : Option ℤ → Option Place
table_place None = None
table_place (Some id) = Some (at.Table id)

-- the table that a place names, if it names one
abbrev pub table_at : Option Place → Option ℤ
table_at (Some (at.Table id)) = Some id
table_at _ = None

-- the lesser of two tables that may be at fault
abbrev pub lesser_table : Option Place → Option Place → Option Place
lesser_table a b = table_place (lesser_of int_cmp (table_at a) (table_at b))

-- the base rows of the table at this place; of no table there are none
abbrev pub base_in : List TableRows → ℕ → List Version
base_in [] k = []
base_in (rows ∷ more) zero = rows.base
base_in (rows ∷ more) (suc k) = base_in more k

-- the values of the base rows of the table that stands at this place; of no table there are none
abbrev pub base_rows : List TableRows → ℕ → List Row
base_rows [] k = []
base_rows (rows ∷ more) zero = map values_of rows.base
base_rows (rows ∷ more) (suc k) = base_rows more k

-- the least table, by its id, that is defined otherwise than its rows spell it, or not at all, or without
-- rows
unfoldable pub definition_fault : Image → Option Place
definition_fault i = table_place (encoding_fault (base_rows i.tables 0) (base_rows i.tables 1) i.defs)
