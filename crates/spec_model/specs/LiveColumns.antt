-- The columns of a table that stand, and those that were dropped. What is left of a dropped column are its values, under
-- another name: a statement may read it, and no longer write it.
use Rattle.std.specs.Prelude.{ℕ, Bool, List}
use Rattle.sql_value.specs.declared.column.ColumnDef.{ColumnDef}
use Rattle.sql_types.specs.declared.table.TableDef.{TableDef}
use Rattle.spec_model.specs.Lists.{is_among, without}

-- the column with this ordinal was dropped
abbrev pub is_dropped : TableDef → ℕ → Bool
is_dropped def ordinal = is_among def.dropped ordinal

-- the declared columns that weren't, in their order
abbrev pub live_columns : TableDef → List ColumnDef
live_columns def = without def.dropped def.columns
