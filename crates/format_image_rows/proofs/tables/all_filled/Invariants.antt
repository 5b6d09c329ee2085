use Rattle.std.proofs.Common.{◌≡◌, map}
use Rattle.format_image.specs.Rows.{filled_version}
use Rattle.format_image_rows.proofs.tables.all_filled.Given as goal

abbrev pub invariant-loop-version : goal.invariant-loop-version
invariant-loop-version l = l.all.items ≡ map (filled_version l.fn.columns) l.yielded
