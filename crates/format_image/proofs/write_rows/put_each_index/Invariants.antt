use Rattle.std.proofs.Common.{◌≡◌, ◌++◌, take, flat_map}
use Rattle.format_image.specs.RowBytes.{index_rows_bytes}
use Rattle.format_image.proofs.write_rows.put_each_index.Given as goal

abbrev pub invariant-loop-rows : goal.invariant-loop-rows
invariant-loop-rows l = l.out.items ≡ l.initial.out.items ++ flat_map index_rows_bytes (take l.rows-index l.indexes)
