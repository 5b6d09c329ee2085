use Rattle.std.proofs.Common.{◌≡◌, ◌++◌, take, flat_map}
use Rattle.format_image.specs.RowBytes.{base_bytes}
use Rattle.format_image.proofs.write_rows.put_each_base_row.Given as goal

abbrev pub invariant-loop-row : goal.invariant-loop-row
invariant-loop-row l = l.out.items ≡ l.initial.out.items ++ flat_map base_bytes (take l.row-index l.rows)
