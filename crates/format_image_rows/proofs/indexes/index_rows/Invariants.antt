use Rattle.std.proofs.Common.{◌≡◌, take, map}
use Rattle.format_image.specs.Rows.{index_row}
use Rattle.format_image_rows.proofs.indexes.index_rows.Given as goal

abbrev pub invariant-loop-version : goal.invariant-loop-version
invariant-loop-version l = l.rows.items ≡ map (index_row l.table l.index) (take l.version-index l.base)
