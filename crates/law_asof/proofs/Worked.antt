-- A small database, worked out.
use Rattle.std.proofs.Common.{◌≡◌, map, refl}
use Rattle.std.specs.Fmt.{digits}
use Rattle.std.specs.Str.{chars}
use Rattle.sql_value.specs.Conversion.{conversion_of}
use Rattle.sql_value.specs.Number.{raised}
use Rattle.sql_value.specs.Order.{value_cmp}
use Rattle.sql_value.specs.Stored.{is_in_range, is_stored}
use Rattle.sql_value.specs.Text.{utf16_units}
use Rattle.spec_model.specs.Alter.{alter_check, drop_check, dropped_table, next_change}
use Rattle.spec_model.specs.Catalog.{find_part}
use Rattle.spec_model.specs.Changes.{changed_all, kept, kept_row, arranged, is_duplicate, inserted_rows, row_changes}
use Rattle.spec_model.specs.Checks.{insert_check, values_check, listed_check, row_statement_check}
use Rattle.spec_model.specs.Create.{table_def, create_check}
use Rattle.spec_model.specs.Effect.{effect}
use Rattle.spec_model.specs.Keys.{key_places, key_cmp, same_key, live_by_key_at, has_live_row_at, key_at}
use Rattle.spec_model.specs.Rows.{started}
use Rattle.spec_model.specs.SystemTables.{first_tables, table_row, column_rows, index_rows, changed_table_row, changed_column_row}
use Rattle.law_catalog_rows.specs.Encoded.{latest_table_row, latest_item_rows}
use Rattle.format_image.specs.Rows.{filled_table, table_rows}
use Rattle.spec_asof.specs.DatabaseAt.{versions_at}
use Rattle.spec_asof.specs.DefTold.{def_told}
use Rattle.law_asof.specs.Samples.{changed, told, told_of_changed, were}

pub each :
    (told 0 ≡ were 0) × (told 1 ≡ were 1) × (told 2 ≡ were 2) × (told 3 ≡ were 3) × (told 4 ≡ were 4)
    × (told 5 ≡ were 5) × (told 6 ≡ were 6)
unfolding effect create_check table_def alter_check drop_check dropped_table next_change find_part row_statement_check insert_check values_check listed_check row_changes inserted_rows is_duplicate arranged kept kept_row changed_all started key_places key_at key_cmp same_key has_live_row_at live_by_key_at first_tables table_row column_rows index_rows changed_table_row changed_column_row value_cmp raised is_in_range is_stored utf16_units conversion_of digits chars table_rows latest_table_row latest_item_rows versions_at def_told
each = (refl, refl, refl, refl, refl, refl, refl)

pub with_kind : (told_of_changed 1 ≡ were 1) × (told_of_changed 2 ≡ were 2) × (told_of_changed 3 ≡ map filled_table changed)
unfolding effect create_check table_def alter_check drop_check dropped_table next_change find_part row_statement_check insert_check values_check listed_check row_changes inserted_rows is_duplicate arranged kept kept_row changed_all started key_places key_at key_cmp same_key has_live_row_at live_by_key_at first_tables table_row column_rows index_rows changed_table_row changed_column_row value_cmp raised is_in_range is_stored utf16_units conversion_of digits chars table_rows latest_table_row latest_item_rows versions_at def_told
with_kind = (refl, refl, refl)
