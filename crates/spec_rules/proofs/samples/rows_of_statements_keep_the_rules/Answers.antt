use Rattle.std.proofs.Common.{refl}
use Rattle.std.specs.Fmt.{digits}
use Rattle.sql_value.specs.Number.{raised}
use Rattle.sql_value.specs.Order.{value_cmp}
use Rattle.spec_model.specs.Alter.{dropped_table}
use Rattle.spec_model.specs.Create.{table_def}
use Rattle.spec_model.specs.SystemTables.{changed_table_row, table_row}
use Rattle.spec_rules.specs.OneStatement.{one_statement}
use Rattle.spec_rules.specs.Tables.{tables_are_right}
use Rattle.spec_rules.specs.Columns.{columns_are_right}
use Rattle.spec_rules.specs.OrderOfChanges.{changes_are_in_order}
use Rattle.spec_rules.specs.ColumnNames.{column_names_are_new}
use Rattle.spec_rules.specs.Indexes.{indexes_are_in_time}
use Rattle.spec_rules.specs.Ids.{ids_follow}
use Rattle.spec_rules.specs.TableNames.{table_names_are_new}
use Rattle.spec_rules.proofs.samples.rows_of_statements_keep_the_rules.Goals as goal

pub returns : goal.returns
unfolding digits one_statement tables_are_right columns_are_right changes_are_in_order column_names_are_new indexes_are_in_time ids_follow table_names_are_new value_cmp raised table_row changed_table_row dropped_table table_def
returns c = record {
  created = refl;
  altered = refl;
  dropped = refl;
}
