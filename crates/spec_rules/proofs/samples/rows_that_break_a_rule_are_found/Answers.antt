use Rattle.std.proofs.Common.{refl}
use Rattle.sql_value.specs.Number.{raised}
use Rattle.sql_value.specs.Order.{value_cmp}
use Rattle.spec_model.specs.Alter.{dropped_table}
use Rattle.spec_model.specs.Create.{table_def}
use Rattle.spec_model.specs.SystemTables.{changed_table_row, table_row}
use Rattle.spec_rules.specs.OneStatement.{one_statement}
use Rattle.spec_rules.specs.Tables.{tables_are_right}
use Rattle.spec_rules.specs.Columns.{columns_are_right}
use Rattle.spec_rules.specs.OrderOfChanges.{changes_are_in_order}
use Rattle.spec_rules.specs.ColumnNames.{column_names_are_new}
use Rattle.spec_rules.specs.Indexes.{indexes_are_in_time}
use Rattle.spec_rules.specs.Ids.{ids_follow}
use Rattle.spec_rules.specs.TableNames.{table_names_are_new}
use Rattle.spec_rules.proofs.samples.rows_that_break_a_rule_are_found.Goals as goal

pub returns : goal.returns
unfolding one_statement tables_are_right columns_are_right changes_are_in_order column_names_are_new indexes_are_in_time ids_follow table_names_are_new value_cmp raised table_row changed_table_row dropped_table table_def
returns c = record {
  two_statements = refl;
  created_again = refl;
  not_null = refl;
  out_of_order = refl;
  name_taken = refl;
  too_early = refl;
  no_table_before = refl;
  same_name = refl;
}
