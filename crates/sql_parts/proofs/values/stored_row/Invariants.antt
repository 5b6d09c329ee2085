use Rattle.std.proofs.Common.{◌≡◌, ◌++◌}
use Rattle.spec_model.specs.Rows as spec
use Rattle.sql_parts.proofs.values.stored_row.Given as goal

abbrev pub invariant-loop-column : goal.invariant-loop-column
invariant-loop-column l = l.stored.items ++ spec.stored_row l.column-iterator.a.rest.now l.column-iterator.b.rest.items ≡ spec.stored_row l.fn.columns l.fn.row
