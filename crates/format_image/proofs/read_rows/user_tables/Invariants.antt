use Rattle.std.proofs.Common.{◌≡◌, length}
use Rattle.base_fields.specs.Readers.{for_each}
use Rattle.format_image.specs.ImageReading.{behind, table_at}
use Rattle.format_image.proofs.read_rows.user_tables.Given as goal

abbrev pub invariant-loop-def : goal.invariant-loop-def
invariant-loop-def l = behind l.tables (for_each table_at l.left l.rest) ≡ behind l.fn.before (for_each table_at l.fn.defs l.fn.bytes)

abbrev pub decreases-loop-def : goal.decreases-loop-def
decreases-loop-def l = length l.left
