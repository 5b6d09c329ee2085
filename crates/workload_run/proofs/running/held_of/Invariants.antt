use Rattle.std.proofs.Common.{◌≡◌, map, take}
use Rattle.server_run.specs.Held.{held}
use Rattle.workload_run.proofs.running.held_of.Given as goal

abbrev pub invariant-loop-digest : goal.invariant-loop-digest
invariant-loop-digest l = l.all.items ≡ map held (take l.digest-index l.digests)
