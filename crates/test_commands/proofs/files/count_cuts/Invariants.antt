use Rattle.std.proofs.Common.{◌≤◌}
use Rattle.test_commands.proofs.files.count_cuts.Given as goal

abbrev pub invariant-loop-count : goal.invariant-loop-count
invariant-loop-count g l = l.refused ≤ l.count
