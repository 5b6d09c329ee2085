-- An index is made while its table is there, after the indexes before it, and of columns that are there.
use Rattle.std.specs.Prelude.{◌&&◌, ◌||◌, not, Bool, List}
use Rattle.std.specs.List.{list_all}
use Rattle.std.specs.Ordering.{int_cmp, int_eq, is_lt}
use Rattle.law_catalog_rows.specs.Changes.{position_in}
use Rattle.spec_rules.specs.Places.{PlacedRow, stands_before}
use Rattle.spec_rules.specs.Rows.{item_of, firsts, seconds}

-- the row of the column stands for the ordinal that the row of an index has for its key position
abbrev pub is_column_of : PlacedRow → PlacedRow → Bool
is_column_of index column = int_eq (item_of column) (position_in index.row)

-- the rows about a table, about its columns and about its indexes
module _ (tables columns indexes : List PlacedRow) where
  abbrev pub is_made_in_time : PlacedRow → Bool
  is_made_in_time index =
      list_all (λ s. stands_before index.place s.place) (seconds 0 tables)
      && list_all (λ b. not (is_lt (int_cmp (item_of b) (item_of index))) || stands_before b.place index.place)
      indexes
      && list_all (λ c. not (is_column_of index c) || stands_before c.place index.place) (firsts 1 columns)
      && list_all (λ c. not (is_column_of index c) || stands_before index.place c.place) (seconds 1 columns)

  unfoldable pub indexes_are_in_time : Bool
  indexes_are_in_time = list_all is_made_in_time indexes
