use Rattle.std.proofs.Common.{refl}
use Rattle.sql_value.specs.Stored.{is_in_range}
use Rattle.sql_value.specs.Order.{value_cmp}
use Rattle.sql_value.specs.Number.{raised}
use Rattle.spec_model.specs.Keys.{same_key, key_cmp}
use Rattle.spec_model.specs.SystemTables.{table_row, column_rows, index_rows}
use Rattle.spec_model.specs.Create.{table_def}
use Rattle.law_catalog_rows.specs.Encoded.{item_rows, latest_table_row, latest_item_rows}
use Rattle.law_catalog_rows.specs.Differs.{encoding_fault}
use Rattle.law_catalog_rows.proofs.samples.odd_definitions_are_not_encoded.Goals as goal

pub returns : goal.returns
unfolding encoding_fault table_def is_in_range same_key key_cmp value_cmp raised table_row item_rows latest_table_row latest_item_rows column_rows index_rows
returns c = record { too_high = refl; null_key = refl; one_name = refl }
