use Rattle.std.proofs.Common.{◌≡◌, ◌++◌, take, map}
use Rattle.spec_model.specs.Rows.{value_or_null}
use Rattle.sql_parts.proofs.values.add_stored.Given as goal

abbrev pub invariant-loop-value : goal.invariant-loop-value
invariant-loop-value l = l.row.items ≡ l.initial.row.items ++ map value_or_null (take l.value-index l.version.values)
