use Rattle.std.proofs.Common.{◌≡◌, take, map}
use Rattle.spec_model.specs.Changes as spec
use Rattle.sql_change.proofs.changes.ends.Given as goal

abbrev pub invariant-loop-version : goal.invariant-loop-version
invariant-loop-version l = l.changes ≡ map (λ v. spec.Ends v.start) (map (λ v. v.now) (take l.version-index l.taken))
