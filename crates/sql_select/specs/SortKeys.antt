-- Sorting by columns whose places were looked up.
use Rattle.std.specs.Prelude.{ℕ, ◌==◌, List, [], ◌∷◌, Bool, true, false, Option, Some, None, if◌then◌else◌}
use Rattle.std.specs.declared.cmp.Ordering.{Ordering}
use Rattle.std.specs.declared.cmp.Ordering.TheVariants.{Equal}
use Rattle.std.specs.Ordering.{ordering_then}
use Rattle.sql_value.specs.declared.column.ColumnDef.{ColumnDef}
use Rattle.sql_value.specs.Order.{value_cmp}
use Rattle.spec_model.specs.Columns.{place_of}
use Rattle.spec_model.specs.Rows.{Row}
use Rattle.spec_model.specs.Query.{value_in}
use Rattle.sql_select.specs.declared.ordering.SortKey.{SortKey}

-- the key of a column in ORDER BY
abbrev pub key_of : List ColumnDef → List ℕ × Bool → SortKey
key_of columns o = record { place = place_of columns o.0; descending = o.1 }

-- by one column
abbrev pub key_cmp : SortKey → Row → Row → Ordering
key_cmp key a b =
    if key.descending then value_cmp (value_in key.place b) (value_in key.place a)
    else value_cmp (value_in key.place a) (value_in key.place b)

-- by the first column, then by the second, and so on
abbrev pub keys_cmp : List SortKey → Row → Row → Ordering
keys_cmp [] a b = Equal
keys_cmp (k ∷ ks) a b = ordering_then (key_cmp k a b) (keys_cmp ks a b)

-- two keys are of one column
abbrev pub same_place : Option ℕ → Option ℕ → Bool
same_place (Some a) (Some b) = a == b
same_place None None = true
same_place _ _ = false
