use Rattle.std.proofs.Common.{◌≡◌, take}
use Rattle.workload_run.specs.Figures.{amount, history_count, row_count}
use Rattle.workload_run.proofs.counting.count_tables.Given as goal

-- what is counted so far
abbrev pub invariant-loop-table : goal.invariant-loop-table
invariant-loop-table l =
    (l.so_far.rows ≡ row_count (take l.table-index l.tables))
    × (l.so_far.history ≡ history_count (take l.table-index l.tables))
    × (l.so_far.sum ≡ amount (take l.table-index l.tables))
