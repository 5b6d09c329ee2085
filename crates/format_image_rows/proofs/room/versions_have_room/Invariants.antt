use Rattle.std.proofs.Common.{take}
use Rattle.std.specs.List.{AllByRecursion}
use Rattle.law_image.specs.Room.{VersionFitsFormat}
use Rattle.format_image_rows.proofs.room.versions_have_room.Given as goal

abbrev pub invariant-loop-version : goal.invariant-loop-version
invariant-loop-version l = AllByRecursion VersionFitsFormat (take l.version-index l.versions)
