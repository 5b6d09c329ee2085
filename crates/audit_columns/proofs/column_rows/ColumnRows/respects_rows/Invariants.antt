use Rattle.std.proofs.Common.{◌≡◌, ◌+◌, drop}
use Rattle.spec_model.specs.Rows.{EventId}
use Rattle.spec_verify.specs.Versions.{respects_from}
use Rattle.audit_columns.specs.Positions.{rank_of}
use Rattle.audit_columns.proofs.column_rows.ColumnRows.respects_rows.Given as goal

abbrev pub invariant-loop-place : goal.invariant-loop-place
invariant-loop-place l =
    (event : EventId) → l.at ≡ rank_of l.self.0 event → respects_from l.self.0 l.self.1 l.table (l.place + 1) event (drop l.place l.values) ≡ respects_from l.self.0 l.self.1 l.table 1 event l.values
