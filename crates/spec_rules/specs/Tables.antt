-- A table has one row or two in the table of tables. The first says that it was created, with names as statements
-- may have them. The second says that it was dropped, with the names that DROP TABLE makes of those.
use Rattle.std.specs.Prelude.{pos, ◌+ℤ◌, ◌==◌, ◌&&◌, ◌||◌, nat_le, Bool, List, length, codes}
use Rattle.std.specs.List.{list_all}
use Rattle.std.specs.Ordering.{int_eq}
use Rattle.spec_model.specs.Alter.{count_in}
use Rattle.spec_model.specs.Keys.{value_at}
use Rattle.spec_model.specs.Rows.{Row}
use Rattle.law_catalog_rows.specs.Latest.{number_at}
use Rattle.spec_rules.specs.Places.{PlacedRow}
use Rattle.spec_rules.specs.Rows.{says, firsts, seconds, is_null, is_proper_text, same_value, dropped_text}

-- ---- the columns of a row: name, kind, name of the history, name of the view

-- the kinds of a table that stands are 1 and 2
abbrev pub is_new_table : PlacedRow → Bool
is_new_table r =
    (says 3 (pos 1) r || says 3 (pos 2) r)
    && is_proper_text (value_at r.row 2)
    && (is_null (value_at r.row 4) || is_proper_text (value_at r.row 4))
    && is_proper_text (value_at r.row 5)

-- the second row says that the table of the first was dropped
abbrev pub drops : Row → Row → Bool
drops first second =
    let id = count_in (value_at second 0) in
    int_eq (number_at 3 second) (number_at 3 first +ℤ pos 2)
    && same_value (value_at second 2) (dropped_text (codes "Table") (value_at first 2) id)
    && same_value (value_at second 4) (dropped_text (codes "History") (value_at first 4) id)
    && same_value (value_at second 5) (dropped_text (codes "View") (value_at first 5) id)

-- these are the rows about a table
unfoldable pub tables_are_right : List PlacedRow → Bool
tables_are_right tables =
    let first = firsts 0 tables in
    let second = seconds 0 tables in
    length first == 1 && nat_le (length second) 1
    && list_all is_new_table first
    && list_all (λ s. list_all (λ f. drops f.row s.row) first) second
