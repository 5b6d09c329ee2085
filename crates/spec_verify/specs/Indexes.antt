-- The rows of each index: the base rows, cut down to the columns of the index and of the key, and sorted.
use Rattle.std.specs.Prelude.{ℕ, ◌+◌, ◌&&◌, Bool, true, false, List, [], ◌∷◌, get_or, Option, Some, None}
use Rattle.std.specs.Ordering.{is_eq}
use Rattle.sql_value.specs.Order.{value_cmp}
use Rattle.sql_types.specs.declared.image.Image.{Image}
use Rattle.sql_types.specs.declared.image.TableRows.{TableRows}
use Rattle.sql_types.specs.declared.table.IndexDef.{IndexDef}
use Rattle.sql_types.specs.declared.table.TableDef.{TableDef}
use Rattle.sql_types.specs.declared.version.TypedValue.{TypedValue}
use Rattle.spec_model.specs.Catalog.{Defs}
use Rattle.spec_model.specs.Lists.{or_else}
use Rattle.format_image.specs.Rows.{Stored, index_rows}
use Rattle.format_image.specs.Tables.{defs_in}
use Rattle.spec_verify.specs.declared.place.Place.{Place}
use Rattle.spec_verify.specs.declared.place.Place.TheVariants as at
use Rattle.spec_verify.specs.First.{unless, first}
use Rattle.spec_verify.specs.Versions.{same_type}

-- both NULL, or values that are one, of one type
abbrev pub same_value : Option TypedValue → Option TypedValue → Bool
same_value None None = true
same_value (Some a) (Some b) = same_type a.ty b.ty && is_eq (value_cmp a.value b.value)
same_value _ _ = false

abbrev pub same_row : Stored → Stored → Bool
same_row [] [] = true
same_row (a ∷ more) (b ∷ others) = same_value a b && same_row more others
same_row _ _ = false

-- the same rows in the same order
abbrev pub same_rows : List Stored → List Stored → Bool
same_rows [] [] = true
same_rows (a ∷ more) (b ∷ others) = same_row a b && same_rows more others
same_rows _ _ = false

-- the rows of index g, counted from 0, are those of the base
abbrev pub index_holds : TableDef → TableRows → ℕ → IndexDef → Bool
index_holds def rows g index = same_rows (get_or rows.indexes g []) (index_rows def rows.base index)

-- the first index of a table for which it fails
abbrev pub table_fault : TableDef → TableRows → Option Place
table_fault def rows =
    first (λ g index. unless (index_holds def rows g index) (at.Index def.id (g + 1))) def.indexes

-- table after table
abbrev pub first_table : Defs → List TableRows → Option Place
first_table (def ∷ defs) (rows ∷ more) = or_else (table_fault def rows) (first_table defs more)
first_table _ _ = None

-- the first table, and its first index, whose rows are not the base's
unfoldable pub index_fault : Image → Option Place
index_fault i = first_table (defs_in i) i.tables
