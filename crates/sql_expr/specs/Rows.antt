-- The row that is seen.
use Rattle.spec_model.specs.Parts.{base_row}
use Rattle.spec_model.specs.Rows.{Row}
use Rattle.sql_expr.specs.declared.seen_row.RowSource.{RowSource}
use Rattle.sql_expr.specs.declared.seen_row.RowSource.TheVariants.{Values, LiveRow}

-- the values of a row, or the base row of a version under its declared columns
abbrev pub row_at : RowSource → Row
row_at (Values values) = values.now
row_at (LiveRow declared version) = base_row declared.now version.now
