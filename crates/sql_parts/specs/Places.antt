-- Keys and places.
use Rattle.std.specs.Prelude.{ℕ, List}
use Rattle.std.specs.declared.cmp.Ordering.{Ordering}
use Rattle.sql_value.specs.declared.column.ColumnDef.{ColumnDef}
use Rattle.sql_types.specs.declared.version.Version.{Version}
use Rattle.spec_model.specs.Rows.{Row}
use Rattle.spec_model.specs.Keys.{Placed, key_cmp, version_key}
use Rattle.spec_model.specs.Parts.{ViewRow}

abbrev pub place_in : Placed → ℕ
place_in p = p.0

-- versions by their keys
abbrev pub by_key : List ColumnDef → Version → Version → Ordering
by_key columns v w = key_cmp (version_key columns v) (version_key columns w)

abbrev pub row_in : ViewRow → Row
row_in s = s.1
