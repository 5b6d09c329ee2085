use Rattle.std.proofs.Common.{◌≡◌, map}
use Rattle.spec_model.specs.Rows.{stored_row}
use Rattle.spec_model.specs.Changes as spec
use Rattle.sql_change.proofs.changes.starts.Given as goal

abbrev pub invariant-loop-row : goal.invariant-loop-row
invariant-loop-row l = l.changes ≡ map (λ row. spec.Starts (stored_row l.fn.columns row)) l.yielded
