use Rattle.std.proofs.Common.{◌≡◌, drop}
use Rattle.audit_paths.specs.Path.{climbed, root_over}
use Rattle.audit_paths.proofs.path.root_over.Given as goal

abbrev pub invariant-loop-step : goal.invariant-loop-step
invariant-loop-step g l = climbed (g.H.Hash32.digest l.fn.h) l.hash (drop l.step-index l.steps) ≡ root_over (g.H.Hash32.digest l.fn.h) l.leaf l.steps
