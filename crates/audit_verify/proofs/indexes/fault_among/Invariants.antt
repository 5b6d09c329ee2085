use Rattle.std.proofs.Common.{◌≡◌, drop}
use Rattle.audit_verify.specs.Indexes.{first_among}
use Rattle.audit_verify.proofs.indexes.fault_among.Given as goal

abbrev pub invariant-loop-table : goal.invariant-loop-table
invariant-loop-table l = first_among (drop l.table-index l.tables) ≡ first_among l.tables
