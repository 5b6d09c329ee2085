use Rattle.std.proofs.Common.{◌≡◌, ◌++◌, None, replicate}
use Rattle.format_image_rows.proofs.tables.with_nulls.Given as goal

abbrev pub invariant-loop : goal.invariant-loop
invariant-loop l = l.values ≡ l.fn.values ++ replicate l.counter None
