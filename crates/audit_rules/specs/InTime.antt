-- When an index was made, beside the first and the second rows about its table and its columns.
use Rattle.std.specs.Prelude.{◌&&◌, ◌||◌, not, Bool, List}
use Rattle.std.specs.List.{list_all}
use Rattle.std.specs.Ordering.{int_cmp, is_lt}
use Rattle.spec_rules.specs.Indexes.{is_column_of}
use Rattle.spec_rules.specs.Places.{PlacedRow, stands_before}
use Rattle.spec_rules.specs.Rows.{item_of}

abbrev pub is_in_time : List PlacedRow → List PlacedRow → List PlacedRow → List PlacedRow → PlacedRow → Bool
is_in_time second_tables first_columns second_columns indexes index =
    list_all (λ s. stands_before index.place s.place) second_tables
    && list_all (λ b. not (is_lt (int_cmp (item_of b) (item_of index))) || stands_before b.place index.place) indexes
    && list_all (λ c. not (is_column_of index c) || stands_before c.place index.place) first_columns
    && list_all (λ c. not (is_column_of index c) || stands_before index.place c.place) second_columns
