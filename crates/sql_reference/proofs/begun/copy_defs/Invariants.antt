use Rattle.std.proofs.Common.{◌≡◌, take, map}
use Rattle.sql_reference.proofs.begun.copy_defs.Given as goal

abbrev pub invariant-loop-table : goal.invariant-loop-table
invariant-loop-table l = l.defs.items ≡ map (λ t. t.def) (take l.table-index l.tables)
