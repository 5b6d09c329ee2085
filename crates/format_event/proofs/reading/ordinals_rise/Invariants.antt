use Rattle.std.proofs.Common.{◌≡◌, length}
use Rattle.format_event.specs.Leaf.{ordinals_rise, rise_from}
use Rattle.format_event.proofs.reading.ordinals_rise.Given as goal

abbrev pub invariant-loop-rest : goal.invariant-loop-rest
invariant-loop-rest l = rise_from l.last l.rest ≡ ordinals_rise l.columns

abbrev pub decreases-loop-rest : goal.decreases-loop-rest
decreases-loop-rest l = length l.rest
