use Rattle.std.proofs.Common.{◌≡◌, length}
use Rattle.format_image.specs.DefBytes.{ids_rise}
use Rattle.format_image.proofs.read_definitions.ids_rise.Given as goal

abbrev pub invariant-loop-rest : goal.invariant-loop-rest
invariant-loop-rest l = ids_rise l.last l.rest ≡ ids_rise l.before l.defs

abbrev pub decreases-loop-rest : goal.decreases-loop-rest
decreases-loop-rest l = length l.rest
