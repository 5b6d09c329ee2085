use Rattle.std.proofs.Common.{◌≡◌, ◌≤◌, take}
use Rattle.std.specs.List.{sum_by}
use Rattle.audit_answers.proofs.coverage.size_within.Given as goal

abbrev pub invariant-loop-block : goal.invariant-loop-block
invariant-loop-block l = record {
  sum : l.count ≡ sum_by (λ r. r.size) (take l.block-index l.blocks);
  within : l.count ≤ l.most;
}
