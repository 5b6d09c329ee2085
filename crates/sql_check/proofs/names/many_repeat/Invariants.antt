use Rattle.std.proofs.Common.{◌≡◌, ◌≤◌, ℕ, List, false, drop, length, map}
use Rattle.spec_model.specs.Lists as spec
use Rattle.sql_check.specs.NameSet.{has}
use Rattle.sql_check.proofs.names.many_repeat.Given as goal

abbrev pub invariant-loop-at : goal.invariant-loop-at
invariant-loop-at g l = record {
  within : l.at ≤ length l.items;
  once : spec.repeats (map g.T.Named.named (drop l.at l.items)) ≡ false;
  behind : (q : List ℕ) → has l.behind q ≡ spec.has_name (map g.T.Named.named (drop l.at l.items)) q;
}

abbrev pub decreases-loop-at : goal.decreases-loop-at
decreases-loop-at g l = l.at
