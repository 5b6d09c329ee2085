use Rattle.std.proofs.Common.{◌≡◌}
use Rattle.audit_asof.proofs.opened_table.open_tables.Given as goal

abbrev pub invariant-loop-table : goal.invariant-loop-table
invariant-loop-table l = l.opened.items ≡ l.yielded
