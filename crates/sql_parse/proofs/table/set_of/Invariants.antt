use Rattle.std.proofs.Common.{◌≡◌, ◌≤◌, ℕ, List, drop, length}
use Rattle.spec_syntax.specs.Table.{is_in}
use Rattle.sql_parse.specs.NameSet.{has}
use Rattle.sql_parse.proofs.table.set_of.Given as goal

abbrev pub invariant-loop-at : goal.invariant-loop-at
invariant-loop-at l = record {
  within : l.at ≤ length l.names;
  behind : (q : List ℕ) → has l.set q ≡ is_in (drop l.at l.names) q;
}

abbrev pub decreases-loop-at : goal.decreases-loop-at
decreases-loop-at l = l.at
