-- The columns of a table or view, and rows of values beside them.
use Rattle.std.specs.Prelude.{ℕ, Bool, true, false, ◌&&◌, List, [], ◌∷◌, map, Option, option_and_then, position, slice_get}
use Rattle.std.specs.Str.{bytes_eq}
use Rattle.sql_value.specs.declared.value.Value.{Value}
use Rattle.sql_value.specs.declared.column.ColumnDef.{ColumnDef}
use Rattle.sql_value.specs.Stored.{is_stored}

abbrev pub names_of : List ColumnDef → List (List ℕ)
names_of columns = map (λ c. c.name) columns

-- the place of the first column of this name, counted from 0
abbrev pub place_of : List ColumnDef → List ℕ → Option ℕ
place_of columns name = position (λ c. bytes_eq c.name name) columns

-- the column of this name
abbrev pub column_of : List ColumnDef → List ℕ → Option ColumnDef
column_of columns name = option_and_then (slice_get columns) (place_of columns name)

-- the value of a row in the column of this name
abbrev pub value_of : List ColumnDef → List Value → List ℕ → Option Value
value_of columns row name = option_and_then (slice_get row) (place_of columns name)

-- a row fits the columns: it has a value for each, which is NULL or one that the column's type stores
unfoldable pub fits : List ColumnDef → List Value → Bool
fits [] [] = true
fits (c ∷ cs) (v ∷ vs) = is_stored v c.ty && fits cs vs
fits _ _ = false
