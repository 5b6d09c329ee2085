use Rattle.std.proofs.Common.{◌≡◌, length}
use Rattle.spec_verify.specs.Versions.{respects_not_null}
use Rattle.audit_columns.proofs.columns.respects_not_null.Given as goal

abbrev pub invariant-each : goal.invariant-each
invariant-each l = respects_not_null l.columns l.row ≡ respects_not_null l.fn.columns l.fn.row

abbrev pub decreases-each : goal.decreases-each
decreases-each l = length l.row
