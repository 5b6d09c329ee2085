-- How the operands of a comparison stand to each other.
use Rattle.std.specs.Prelude.{Option, Some, None}
use Rattle.std.specs.declared.cmp.Ordering.{Ordering}
use Rattle.sql_value.specs.declared.value.Value.TheVariants as val
use Rattle.sql_types.specs.declared.outcome.Outcome.{Outcome}
use Rattle.sql_types.specs.declared.outcome.Outcome.TheVariants as out
use Rattle.sql_value.specs.Order.{value_cmp}

-- the order of two values of one kind other than NULL, and none for other outcomes
abbrev pub order_of : Outcome → Outcome → Option Ordering
order_of (out.Value (val.Num s v)) (out.Value (val.Num z w)) = Some (value_cmp (val.Num s v) (val.Num z w))
order_of (out.Value (val.Text a)) (out.Value (val.Text b)) = Some (value_cmp (val.Text a) (val.Text b))
order_of (out.Value (val.Bytes a)) (out.Value (val.Bytes b)) = Some (value_cmp (val.Bytes a) (val.Bytes b))
order_of (out.Value (val.Date d)) (out.Value (val.Date e)) = Some (value_cmp (val.Date d) (val.Date e))
order_of _ _ = None
