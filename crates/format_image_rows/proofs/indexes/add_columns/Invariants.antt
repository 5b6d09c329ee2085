use Rattle.std.proofs.Common.{◌≡◌, ◌++◌, take, map}
use Rattle.format_image.specs.Rows.{stored_at}
use Rattle.format_image_rows.proofs.indexes.add_columns.Given as goal

abbrev pub invariant-loop-ordinal : goal.invariant-loop-ordinal
invariant-loop-ordinal l = l.row.items ≡ l.fn.row.items ++ map (stored_at l.version.values) (take l.ordinal-index l.ordinals)
