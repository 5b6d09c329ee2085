use Rattle.std.proofs.Common.{length}
use Rattle.spec_history.specs.Histories.{rows_of}
use Rattle.law_history.proofs.ByLocks.{exact_refusals}
use Rattle.law_history.proofs.Ordered.{keeps_order}
use Rattle.law_history.proofs.laws.where_locks_decide_step_order_is_whole.Goals as goal

pub returns : goal.returns
returns c = λ q database N history input setup transcripts good whole alone ends in_step by_locks. record {
  rows = rows_of history;
  order = keeps_order q database history good input setup transcripts whole N alone ends in_step;
  lock_refusals = exact_refusals q database (length transcripts) history good alone by_locks;
}
