use Rattle.std.proofs.Common.{◌-◌}
use Rattle.audit_extract.proofs.Halves.{Power}
use Rattle.audit_extract.proofs.trees.split_of.Given as goal

abbrev pub invariant-loop-k : goal.invariant-loop-k
invariant-loop-k l = Power l.n l.k

abbrev pub decreases-loop-k : goal.decreases-loop-k
decreases-loop-k l = l.n - l.k
