-- The changes of the rows about one table, and what rows about one item have in common.
use Rattle.std.specs.Prelude.{ℕ, ℤ, pos, negsuc, ◌+◌, ◌==◌, ◌&&◌, ◌||◌, not, Bool, true, if◌then◌else◌, List, [], ◌∷◌, ◌++◌, map, length}
use Rattle.std.specs.List.{list_all, filter}
use Rattle.std.specs.Ordering.{int_cmp, int_eq, is_gt}
use Rattle.spec_model.specs.Lists.{sorted}
use Rattle.spec_model.specs.Rows.{Row}
use Rattle.law_catalog_rows.specs.Latest.{number_at, same_number, change_of, is_past, latest}

-- ---- changes

-- they are this number, the next, and so on
abbrev pub counts_up : ℕ → List ℤ → Bool
counts_up n [] = true
counts_up n (m ∷ ms) = int_eq m (pos n) && counts_up (n + 1) ms

-- the row was made with its thing
abbrev pub is_first : ℕ → Row → Bool
is_first k row = int_eq (change_of k row) (pos 0)

-- the changes that aren't 0
abbrev pub later_changes : ℕ → List Row → List ℤ
later_changes k rows = filter (λ n. not (int_eq n (pos 0))) (map (change_of k) rows)

-- the row is about a part of an index
abbrev pub is_of_index : Row → Bool
is_of_index row = is_gt (int_cmp (number_at 1 row) (pos 1000))

-- Of the rows about one table, in both system tables: one row of the table has change 0, and so has each row of an
-- index. The other changes are 1, 2 and so on, each once.
abbrev pub changes_are_right : List Row → List Row → Bool
changes_are_right tables items =
    length (filter (is_first 0) tables) == 1
    && list_all (λ row. not (is_of_index row) || is_first 1 row) items
    && counts_up 1 (sorted int_cmp (later_changes 0 tables ++ later_changes 1 items))

-- ---- what stays

-- the type code and its two parameters in the rows of an item are the same
abbrev pub same_type : Row → Row → Bool
same_type a b = same_number 4 a b && same_number 5 a b && same_number 6 a b

abbrev pub position_in : Row → ℤ
position_in row = number_at 8 row

-- the row says that its column was dropped
abbrev pub is_dropped : Row → Bool
is_dropped row = int_eq (position_in row) (negsuc 0)

-- the key position in the rows before the one that counts: 0, where that says that the column was dropped
abbrev pub position_before : Row → ℤ
position_before row = if is_dropped row then pos 0 else position_in row

-- a row before the one that counts has its type and this key position
abbrev pub comes_before : Row → Row → Bool
comes_before row before =
    same_type before row
    && int_eq (position_in before) (position_before row)

-- the rows before this one about its item
abbrev pub rows_before : List Row → Row → List Row
rows_before items row = filter (is_past 1 row) items

-- what a row that counts says follows from the rows before it; the first one doesn't say that the column was dropped
abbrev pub follows : List Row → Row → Bool
follows items row =
    list_all (comes_before row) (rows_before items row)
    && not (is_dropped row && length (rows_before items row) == 0)

-- so it is with each item
abbrev pub items_follow : List Row → Bool
items_follow items = list_all (follows items) (latest 1 items)
