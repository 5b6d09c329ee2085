use Rattle.std.proofs.Common.{◌≡◌, ◌-◌, ◌++◌}
use Rattle.server_engine.specs.FirstCells.{all_empty}
use Rattle.server_past.proofs.cells.add_empty.Given as goal

abbrev pub invariant-loop-id : goal.invariant-loop-id
invariant-loop-id l = l.cells.items ≡ l.fn.cells.items ++ all_empty (l.id - l.from) l.from
