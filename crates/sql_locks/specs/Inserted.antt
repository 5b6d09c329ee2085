-- The key of a row of VALUES, place by place.
use Rattle.std.specs.Prelude.{ℕ, List, Option, Some, None, slice_get}
use Rattle.sql_value.specs.declared.value.Value.{Value}
use Rattle.sql_value.specs.declared.column.ColumnDef.{ColumnDef}
use Rattle.sql_value.specs.Conversion.{conversion_of}
use Rattle.spec_model.specs.Keys.{value_at}
use Rattle.spec_model.specs.Locks.{key_value}
use Rattle.spec_model.specs.Rows.{Row}

abbrev pub keyed_by : Option ColumnDef → Value → Option Value
keyed_by None v = None
keyed_by (Some c) v = key_value (conversion_of v c.ty)

-- the value of a key at this place of a row
abbrev pub keyed_at : List ColumnDef → Row → ℕ → Option Value
keyed_at columns row place = keyed_by (slice_get columns place) (value_at row place)
