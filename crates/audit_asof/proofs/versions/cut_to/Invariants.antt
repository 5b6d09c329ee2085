use Rattle.std.proofs.Common.{◌≡◌, map}
use Rattle.spec_asof.specs.DatabaseAt as spec
use Rattle.audit_asof.proofs.versions.cut_to.Given as goal

abbrev pub invariant-loop-version : goal.invariant-loop-version
invariant-loop-version l = l.cut.items ≡ map (spec.cut_to l.columns) l.yielded
