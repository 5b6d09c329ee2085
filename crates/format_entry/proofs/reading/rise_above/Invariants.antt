use Rattle.std.proofs.Common.{◌≡◌, length}
use Rattle.format_entry.specs.Entry.{rise_above}
use Rattle.format_entry.proofs.reading.rise_above.Given as goal

abbrev pub invariant-loop-rest : goal.invariant-loop-rest
invariant-loop-rest l = rise_above l.last l.rest ≡ rise_above l.before l.roots

abbrev pub decreases-loop-rest : goal.decreases-loop-rest
decreases-loop-rest l = length l.rest
