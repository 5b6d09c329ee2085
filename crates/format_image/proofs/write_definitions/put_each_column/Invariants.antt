use Rattle.std.proofs.Common.{◌++◌, length, flat_map}
use Rattle.format_image.specs.DefBytes.{column_bytes, marked}
use Rattle.format_image.proofs.Marks.{ColumnsLeft}
use Rattle.format_image.proofs.write_definitions.put_each_column.Given as goal

abbrev pub invariant-each : goal.invariant-each
invariant-each l =
    ColumnsLeft l.version (l.initial.out.items ++ flat_map (column_bytes l.version) (marked l.dropped 1 l.columns)) l.columns l.out.items l.rest l.left l.before

abbrev pub decreases-each : goal.decreases-each
decreases-each l = length l.rest
