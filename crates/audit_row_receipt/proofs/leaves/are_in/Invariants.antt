use Rattle.std.proofs.Common.{length}
use Rattle.audit_row_receipt.specs.AcceptedRows.{IsLeafIn}
use Rattle.audit_row_receipt.proofs.Walked.{Walk}
use Rattle.audit_row_receipt.proofs.leaves.are_in.Given as goal

abbrev pub invariant-each : goal.invariant-each
invariant-each l = Walk (IsLeafIn l.fn.tx l.fn.table) l.leaves l.rest

abbrev pub decreases-each : goal.decreases-each
decreases-each l = length l.rest
