use Rattle.std.proofs.Common.{◌≡◌, take}
use Rattle.law_workload.specs.Tables.{total}
use Rattle.workload_run.proofs.counting.total.Given as goal

-- the sum so far
abbrev pub invariant-loop-row : goal.invariant-loop-row
invariant-loop-row l = l.sum ≡ total (take l.row-index l.rows)
