use Rattle.std.proofs.Common.{◌≡◌, length}
use Rattle.spec_verify.specs.Indexes.{same_row}
use Rattle.audit_verify.specs.Indexes.{row_at}
use Rattle.audit_verify.proofs.indexes.same_row.Given as goal

abbrev pub invariant-each : goal.invariant-each
invariant-each l = same_row l.row (row_at l.ordinals l.version) ≡ same_row l.fn.row (row_at l.fn.ordinals l.version)

abbrev pub decreases-each : goal.decreases-each
decreases-each l = length l.row
