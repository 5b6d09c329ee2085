use Rattle.std.proofs.Common.{◌≡◌, ◌++◌, take, filter, flat_map}
use Rattle.format_event.specs.Leaf.{column_bytes, has_value}
use Rattle.format_event.proofs.leaf.put_each.Given as goal

abbrev pub invariant-loop-column : goal.invariant-loop-column
invariant-loop-column l = l.out.items ≡ l.initial.out.items ++ flat_map column_bytes (filter has_value (take l.column-index l.columns))
