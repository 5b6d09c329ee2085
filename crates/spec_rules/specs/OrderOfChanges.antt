-- The changes of a table and of its columns rise with their places. Columns come by their ordinals, and nothing
-- comes after the drop of the table.
use Rattle.std.specs.Prelude.{ℕ, ℤ, ◌&&◌, ◌||◌, not, Bool, List, ◌++◌, map}
use Rattle.std.specs.List.{list_all}
use Rattle.std.specs.Ordering.{int_cmp, is_gt, is_lt}
use Rattle.law_catalog_rows.specs.Latest.{change_of}
use Rattle.spec_rules.specs.Places.{EventPlace, PlacedRow, stands_before}
use Rattle.spec_rules.specs.Rows.{item_of, firsts, seconds}

-- a change, and where it stands
abbrev pub PlacedChange : Type 0
PlacedChange = ℤ × EventPlace

abbrev pub change_at : ℕ → PlacedRow → PlacedChange
change_at k r = (change_of k r.row, r.place)

-- the changes of a table and of its columns
abbrev pub changes_in : List PlacedRow → List PlacedRow → List PlacedChange
changes_in tables columns = map (change_at 0) tables ++ map (change_at 1) columns

-- where the first change is the lesser it stands before the second
abbrev pub rises : PlacedChange → PlacedChange → Bool
rises a b = not (is_lt (int_cmp a.0 b.0)) || stands_before a.1 b.1

-- of two rows of columns the one with the greater ordinal has no smaller change
abbrev pub rises_by_ordinal : PlacedRow → PlacedRow → Bool
rises_by_ordinal a b =
    not (is_lt (int_cmp (item_of a) (item_of b)))
    || not (is_gt (int_cmp (change_of 1 a.row) (change_of 1 b.row)))

-- the change of this row is the greatest of these
abbrev pub is_greatest : List PlacedChange → PlacedRow → Bool
is_greatest changes s = list_all (λ (c : PlacedChange). not (is_gt (int_cmp c.0 (change_of 0 s.row)))) changes

-- of the rows about a table, and of those about its columns
unfoldable pub changes_are_in_order : List PlacedRow → List PlacedRow → Bool
changes_are_in_order tables columns =
    let changes = changes_in tables columns in
    list_all (λ a. list_all (rises a) changes) changes
    && list_all (λ a. list_all (rises_by_ordinal a) (firsts 1 columns)) (firsts 1 columns)
    && list_all (is_greatest changes) (seconds 0 tables)
