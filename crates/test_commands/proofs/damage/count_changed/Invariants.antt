use Rattle.std.proofs.Common.{◌≤◌}
use Rattle.test_commands.proofs.damage.count_changed.Given as goal

abbrev pub invariant-loop-at : goal.invariant-loop-at
invariant-loop-at g l = l.refused ≤ l.at
