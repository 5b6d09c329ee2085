use Rattle.std.proofs.Common.{◌≡◌, ◌++◌, take, flat_map}
use Rattle.format_image.specs.RowBytes.{rows_bytes}
use Rattle.format_image.proofs.write_rows.put_tables.Given as goal

abbrev pub invariant-loop-rows : goal.invariant-loop-rows
invariant-loop-rows l = l.out.items ≡ l.initial.out.items ++ flat_map rows_bytes (take l.rows-index l.tables)
