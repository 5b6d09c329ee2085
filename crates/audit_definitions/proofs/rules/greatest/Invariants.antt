use Rattle.std.proofs.Common.{◌≡◌, ◌≤◌, drop, length}
use Rattle.law_catalog_rows.specs.IsEncodableDef.{greatest}
use Rattle.audit_definitions.proofs.rules.greatest.Given as goal

abbrev pub invariant-loop-k : goal.invariant-loop-k
invariant-loop-k l = record {
  within : l.k ≤ length l.numbers;
  so_far : l.greatest ≡ greatest (drop l.k l.numbers);
}

abbrev pub decreases-loop-k : goal.decreases-loop-k
decreases-loop-k l = l.k
