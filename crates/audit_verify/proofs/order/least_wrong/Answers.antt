use Rattle.std.proofs.Common.{arith}
use Rattle.audit_definitions.proofs.Walks.{all_at}
use Rattle.audit_verify.specs.Order.{IsRanked}
use Rattle.audit_verify.proofs.InRuns.{known_before}
use Rattle.audit_verify.proofs.WorstParts.{worst_next}
use Rattle.audit_verify.proofs.order.least_wrong.Goals as goal

pub loop-k-preserved : goal.loop-k-preserved
loop-k-preserved c = record {
  known = known_before c.args.table.now.columns c.args.ranked.now c.loop-k.k c.earlier_at-earlier.result c.earlier_at-earlier.ensures;
  worst = λ entries rows times ranked.
      worst_next entries rows c.args.table.now.id c.args.times.now.table c.args.table.now.columns c.args.ranked.now c.loop-k.k c.index-ranked-k.result c.earlier_at-earlier.result c.loop-k.worst c.worst_with-worst.result _
      (omega (arith, c.loop-k-test.true)) c.index-ranked-k.is c.requires.table c.earlier_at-earlier.ensures
      (c.worst_with-worst.ensures entries rows times (all_at (IsRanked entries) c.args.ranked.now c.loop-k.k c.index-ranked-k.result ranked (omega (arith, c.loop-k-test.true)) c.index-ranked-k.is))
      (c.loop-k.invariant.worst entries rows times ranked);
}
