-- Rows in written order, and their places in the order of their keys.
use Rattle.std.specs.Prelude.{ℕ, ◌<◌, ◌≡◌, Bool, false, List, [], length, get_or, Option, Some, None}
use Rattle.std.specs.List.{AllByRecursion, list_any, prefix_len, slice_get}
use Rattle.std.specs.List.Sorted.{IsStrictlySortedBy}
use Rattle.std.specs.Ordering.{is_lt}
use Rattle.sql_value.specs.declared.column.ColumnDef.{ColumnDef}
use Rattle.spec_model.specs.Rows.{Row}
use Rattle.spec_model.specs.Keys.{key_cmp, key_of, same_key}

-- something is there, and passes the test
abbrev pub is_there : {A : Type 0} → (A → Bool) → Option A → Bool
is_there test (Some x) = test x
is_there test None = false

-- a row stands at the place, and passes the test
abbrev pub passes : (Row → Bool) → List Row → ℕ → Bool
passes test rows place = is_there test (slice_get rows place)

-- the row has a lower key than another
abbrev pub is_below : List ColumnDef → Row → Row → Bool
is_below columns row other = is_lt (key_cmp (key_of columns other) (key_of columns row))

-- the row has the key of another
abbrev pub has_key_of : List ColumnDef → Row → Row → Bool
has_key_of columns row other = same_key (key_of columns other) (key_of columns row)

-- how many of the rows at these places have a lower key than the row
abbrev pub place_of : List ColumnDef → List Row → Row → List ℕ → ℕ
place_of columns rows row order = prefix_len (passes (is_below columns row) rows) order

-- these are the places of the rows, by rising keys, of which none stands twice
pub record InKeyOrder (columns : List ColumnDef) (rows : List Row) (order : List ℕ) : Type 0 where
  pub inside : AllByRecursion (λ p. p < length rows) order
  pub same : (test : Row → Bool) → list_any (passes test rows) order ≡ list_any test rows
  pub rising :
      IsStrictlySortedBy
      (λ p q. key_cmp (key_of columns (get_or rows p [])) (key_of columns (get_or rows q []))) order
