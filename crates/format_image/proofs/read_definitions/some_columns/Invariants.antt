use Rattle.std.proofs.Common.{◌≡◌, ◌-◌, ◌+◌}
use Rattle.base_fields.specs.Readers.{mapped, times}
use Rattle.format_image.specs.ImageReading.{columns_of, column_at}
use Rattle.format_image.proofs.ColumnsRead.{ahead}
use Rattle.format_image.proofs.read_definitions.some_columns.Given as goal

abbrev pub invariant-loop-place : goal.invariant-loop-place
invariant-loop-place l =
    ahead l.columns l.dropped (l.place + 1) (times (column_at l.version) (l.count - l.place) l.rest)
    ≡ mapped columns_of (times (column_at l.version) l.count) l.bytes
