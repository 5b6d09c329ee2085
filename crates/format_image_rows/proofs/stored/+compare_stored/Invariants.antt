use Rattle.std.proofs.Common.{length}
use Rattle.format_image_rows.proofs.stored.+compare_stored.Given as goal

abbrev pub decreases-compare_stored : goal.decreases-compare_stored
decreases-compare_stored l = length l.a.now
