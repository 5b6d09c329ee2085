use Rattle.std.proofs.Common.{◌≡◌, ◌++◌, take, flat_map}
use Rattle.format_row_receipt.specs.RowReceipts.{step_bytes}
use Rattle.format_row_receipt.proofs.steps.put_each.Given as goal

abbrev pub invariant-loop-step : goal.invariant-loop-step
invariant-loop-step l = l.out.items ≡ l.initial.out.items ++ flat_map step_bytes (take l.step-index l.steps)
