use Rattle.std.proofs.Common.{◌≡◌, map}
use Rattle.format_image.specs.Image.{user_defs}
use Rattle.format_image.specs.Rows.{table_rows}
use Rattle.format_image_rows.proofs.parts.split.Given as goal

abbrev pub invariant-loop-table : goal.invariant-loop-table
invariant-loop-table l = (l.defs.items ≡ user_defs l.yielded) × (l.all_rows.items ≡ map table_rows l.yielded)
