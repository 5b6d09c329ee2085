use Rattle.std.proofs.Common.{◌≡◌, length}
use Rattle.spec_verify.specs.Versions.{has_columns}
use Rattle.audit_columns.proofs.columns.has_columns.Given as goal

abbrev pub invariant-each : goal.invariant-each
invariant-each l = has_columns l.columns l.row ≡ has_columns l.fn.columns l.fn.row

abbrev pub decreases-each : goal.decreases-each
decreases-each l = length l.row
