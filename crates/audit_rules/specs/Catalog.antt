-- The rows of the system tables in the orders in which they are gone through.
use Rattle.std.specs.Prelude.{ℤ, ◌≡◌, ◌&&◌, Bool, List}
use Rattle.sql_types.specs.declared.entry.TxEntry.{TxEntry}
use Rattle.spec_model.specs.Lists.{sorted}
use Rattle.spec_rules.specs.ColumnNames.{column_names_are_new}
use Rattle.spec_rules.specs.Columns.{columns_are_right}
use Rattle.spec_rules.specs.Indexes.{indexes_are_in_time}
use Rattle.spec_rules.specs.OneStatement.{one_statement}
use Rattle.spec_rules.specs.OrderOfChanges.{changes_are_in_order}
use Rattle.spec_rules.specs.Rows.{CatalogRows, columns_about, indexes_about, tables_about}
use Rattle.audit_rules.specs.declared.rows.PlacedVersion.{PlacedVersion}
use Rattle.audit_rules.specs.Seen.{position_cmp, table_cmp}

pub record IsSortedCatalog (tables items by_table tables_by_position items_by_position : List PlacedVersion)
    : Type 0 where
  pub by_table_is : by_table ≡ sorted table_cmp tables
  pub tables_are : tables_by_position ≡ sorted position_cmp tables
  pub items_are : items_by_position ≡ sorted position_cmp items

-- those rules of which the rows of the table of tables are not enough to tell
abbrev pub items_keep_the_rules : List TxEntry → CatalogRows → ℤ → Bool
items_keep_the_rules entries rows t =
    columns_are_right (columns_about rows t)
    && indexes_are_in_time (tables_about rows t) (columns_about rows t) (indexes_about rows t)
    && one_statement entries rows t
    && changes_are_in_order (tables_about rows t) (columns_about rows t)
    && column_names_are_new (columns_about rows t)
