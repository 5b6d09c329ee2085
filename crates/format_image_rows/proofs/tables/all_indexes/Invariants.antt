use Rattle.std.proofs.Common.{◌≡◌, take, map}
use Rattle.format_image.specs.Rows.{index_rows}
use Rattle.format_image_rows.proofs.tables.all_indexes.Given as goal

abbrev pub invariant-loop-index : goal.invariant-loop-index
invariant-loop-index l = l.indexes.items ≡ map (index_rows l.fn.def l.fn.base) (take l.index-index l.fn.def.indexes)
