-- A column gets a name that no column of its table has then, itself included. The name that a column has at a place
-- is that of the last row about it before.
use Rattle.std.specs.Prelude.{not, Bool, List}
use Rattle.std.specs.List.{list_all, list_any}
use Rattle.spec_model.specs.Keys.{value_at}
use Rattle.spec_rules.specs.Places.{PlacedRow}
use Rattle.spec_rules.specs.Rows.{in_force, same_value}

abbrev pub same_column_name : PlacedRow → PlacedRow → Bool
same_column_name a b = same_value (value_at a.row 3) (value_at b.row 3)

-- these are the rows about the columns of a table
unfoldable pub column_names_are_new : List PlacedRow → Bool
column_names_are_new columns =
    list_all (λ r. not (list_any (same_column_name r) (in_force 1 r.place columns))) columns
