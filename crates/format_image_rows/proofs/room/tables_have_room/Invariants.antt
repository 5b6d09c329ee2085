use Rattle.std.proofs.Common.{take}
use Rattle.std.specs.List.{AllByRecursion}
use Rattle.law_image.specs.Room.{TableFitsFormat}
use Rattle.format_image_rows.proofs.room.tables_have_room.Given as goal

abbrev pub invariant-loop-table : goal.invariant-loop-table
invariant-loop-table l = AllByRecursion TableFitsFormat (take l.table-index l.tables)
