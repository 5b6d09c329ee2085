use Rattle.std.proofs.Common.{◌≡◌, length}
use Rattle.format_image.specs.RowBytes.{rise_after}
use Rattle.format_image.proofs.read_rows.rise_after.Given as goal

abbrev pub invariant-loop-rest : goal.invariant-loop-rest
invariant-loop-rest l = rise_after l.last l.rest ≡ rise_after l.fn.before l.rows

abbrev pub decreases-loop-rest : goal.decreases-loop-rest
decreases-loop-rest l = length l.rest
