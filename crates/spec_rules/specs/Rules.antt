-- All rules: those on a table's rows, and those on a version of a table.
use Rattle.std.specs.Prelude.{ℤ, ◌≡◌, ◌&&◌, Bool, true, List, Option}
use Rattle.sql_types.specs.declared.entry.TxEntry.{TxEntry}
use Rattle.sql_types.specs.declared.version.Version.{Version}
use Rattle.spec_rules.specs.Rows.{CatalogRows, tables_about, columns_about, indexes_about}
use Rattle.spec_rules.specs.OneStatement.{one_statement}
use Rattle.spec_rules.specs.Tables.{tables_are_right}
use Rattle.spec_rules.specs.Columns.{columns_are_right}
use Rattle.spec_rules.specs.OrderOfChanges.{changes_are_in_order}
use Rattle.spec_rules.specs.ColumnNames.{column_names_are_new}
use Rattle.spec_rules.specs.Indexes.{indexes_are_in_time}
use Rattle.spec_rules.specs.Ids.{ids_follow}
use Rattle.spec_rules.specs.TableNames.{table_names_are_new}
use Rattle.spec_rules.specs.WhileTheTableIsThere.{is_while_the_table_is_there}

module _ (entries : List TxEntry) (rows : CatalogRows) where
  -- the rows about the table with this id keep to each rule
  abbrev pub keeps_the_rules : ℤ → Bool
  keeps_the_rules t =
      one_statement entries rows t && tables_are_right (tables_about rows t) && columns_are_right (columns_about rows t)
      && changes_are_in_order (tables_about rows t) (columns_about rows t)
      && column_names_are_new (columns_about rows t)
      && indexes_are_in_time (tables_about rows t) (columns_about rows t) (indexes_about rows t)
      && ids_follow rows t && table_names_are_new rows t

  -- so does a version of this table; the version of its key just before it plays no part
  abbrev pub version_keeps_the_rules : ℤ → Option Version → Version → Bool
  version_keeps_the_rules t last v = is_while_the_table_is_there entries rows t v

  -- a rule a field, for a reader
  pub record KeepsTheRules (t : ℤ) : Type 0 where
    pub one_statement : one_statement entries rows t ≡ true
    pub tables : tables_are_right (tables_about rows t) ≡ true
    pub columns : columns_are_right (columns_about rows t) ≡ true
    pub order_of_changes : changes_are_in_order (tables_about rows t) (columns_about rows t) ≡ true
    pub column_names : column_names_are_new (columns_about rows t) ≡ true
    pub indexes : indexes_are_in_time (tables_about rows t) (columns_about rows t) (indexes_about rows t) ≡ true
    pub ids : ids_follow rows t ≡ true
    pub table_names : table_names_are_new rows t ≡ true

  pub record VersionKeepsTheRules (t : ℤ) (last : Option Version) (v : Version) : Type 0 where
    pub while_the_table_is_there : is_while_the_table_is_there entries rows t v ≡ true
