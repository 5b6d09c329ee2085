use Rattle.std.proofs.Common.{take}
use Rattle.format_digest.specs.Writing.{AreValues}
use Rattle.format_digest.proofs.writing.values_of.Given as goal

abbrev pub invariant-loop-digest : goal.invariant-loop-digest
invariant-loop-digest l = AreValues (take l.digest-index l.list) l.values.items
