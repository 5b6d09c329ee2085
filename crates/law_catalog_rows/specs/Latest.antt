-- Which rows of the two system tables count: of those about one thing the one with the greatest change. A row of the
-- table of tables is about the table that its first value names. Of the rows of the table of columns that are about
-- one table, each is about the item that its second value names. The change stands behind that value.
use Rattle.std.specs.Prelude.{ℕ, ℤ, pos, ◌+◌, ◌&&◌, not, Bool, List, map, set}
use Rattle.std.specs.List.{list_any, filter}
use Rattle.std.specs.Ordering.{int_cmp, int_eq, is_gt}
use Rattle.sql_value.specs.declared.value.Value.{Value}
use Rattle.sql_value.specs.declared.value.Value.TheVariants.{Num}
use Rattle.spec_model.specs.Keys.{value_at}
use Rattle.spec_model.specs.Rows.{Row, number}

-- the number at this place, counted from 0; what is no number counts as 0
abbrev pub number_in : Value → ℤ
number_in (Num s n) = n
number_in _ = pos 0

abbrev pub number_at : ℕ → Row → ℤ
number_at k row = number_in (value_at row k)

-- the numbers of both rows at this place are one
abbrev pub same_number : ℕ → Row → Row → Bool
same_number k a b = int_eq (number_at k a) (number_at k b)

-- the change, where the thing is named at k
abbrev pub change_of : ℕ → Row → ℤ
change_of k row = number_at (k + 1) row

-- the first row is about the same thing as the second, and has a greater change
abbrev pub is_past : ℕ → Row → Row → Bool
is_past k a b = same_number k a b && is_gt (int_cmp (change_of k a) (change_of k b))

-- of these rows none has a greater change and is about the same thing
abbrev pub is_latest : ℕ → List Row → Row → Bool
is_latest k rows row = not (list_any (λ a. is_past k a row) rows)

-- the rows that count
abbrev pub latest : ℕ → List Row → List Row
latest k rows = filter (is_latest k rows) rows

-- what a row says, whatever its change: the same with change 0
abbrev pub without_change : ℕ → Row → Row
without_change k row = set row (k + 1) (number 0)

-- what the rows that count say
abbrev pub latest_said : ℕ → List Row → List Row
latest_said k rows = map (without_change k) (latest k rows)
