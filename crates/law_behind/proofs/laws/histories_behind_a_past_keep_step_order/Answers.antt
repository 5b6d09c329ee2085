use Rattle.law_behind.proofs.Ordered.{keeps_order}
use Rattle.law_behind.proofs.laws.histories_behind_a_past_keep_step_order.Goals as goal

pub returns : goal.returns
returns c = λ q database N past is history input setup transcripts good whole alone ends in_step by_locks.
    keeps_order q database past is history good input setup transcripts whole N alone ends in_step by_locks
