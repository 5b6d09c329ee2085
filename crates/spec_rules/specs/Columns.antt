-- A column has one row or two. The first says that it was created or added, with a name that statements may give
-- it. An added column may be NULL and is in no key. The second says that it was dropped, with the name that DROP
-- COLUMN makes.
use Rattle.std.specs.Prelude.{pos, ◌&&◌, ◌||◌, not, nat_le, Bool, false, List, length, codes}
use Rattle.std.specs.List.{filter, list_all}
use Rattle.sql_value.specs.declared.value.Value.{Value}
use Rattle.sql_value.specs.declared.value.Value.TheVariants.{Text}
use Rattle.spec_model.specs.Alter.{count_in}
use Rattle.spec_model.specs.Create.{is_ledger_name}
use Rattle.spec_model.specs.Keys.{value_at}
use Rattle.spec_rules.specs.Places.{PlacedRow}
use Rattle.spec_rules.specs.Rows.{says, has_no_change, says_dropped, same_thing, firsts, seconds, is_proper_text, same_value, dropped_text}

abbrev pub is_ledger_text : Value → Bool
is_ledger_text (Text name) = is_ledger_name name
is_ledger_text _ = false

abbrev pub is_nullable : PlacedRow → Bool
is_nullable r = says 7 (pos 1) r

abbrev pub is_new_column : PlacedRow → Bool
is_new_column r =
    is_proper_text (value_at r.row 3) && not (is_ledger_text (value_at r.row 3))
    && (has_no_change 1 r || (is_nullable r && says 8 (pos 0) r))

-- the second row says that the column of the first was dropped
abbrev pub drops_column : PlacedRow → PlacedRow → Bool
drops_column first second =
    let ordinal = count_in (value_at second.row 1) in
    is_nullable second && says_dropped second
    && same_value (value_at second.row 3) (dropped_text (codes "Column") (value_at first.row 3) ordinal)

-- these are the rows about the columns of a table
unfoldable pub columns_are_right : List PlacedRow → Bool
columns_are_right columns =
    list_all (λ r. nat_le (length (filter (same_thing 1 r) columns)) 2) columns
    && list_all is_new_column (firsts 1 columns)
    && list_all (λ s. list_all (λ f. not (same_thing 1 f s) || drops_column f s) (firsts 1 columns))
    (seconds 1 columns)
