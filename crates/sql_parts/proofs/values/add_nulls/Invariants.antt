use Rattle.std.proofs.Common.{◌≡◌, ◌++◌, replicate}
use Rattle.sql_value.specs.declared.value.Value.TheVariants.{Null}
use Rattle.sql_parts.proofs.values.add_nulls.Given as goal

abbrev pub invariant-loop : goal.invariant-loop
invariant-loop l = l.row.items ≡ l.fn.row.items ++ replicate l.counter Null
