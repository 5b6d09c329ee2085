use Rattle.law_history.proofs.Ordered.{keeps_order}
use Rattle.law_history.proofs.laws.histories_keep_step_order.Goals as goal

pub returns : goal.returns
returns c = λ q database N history input setup transcripts good whole alone ends in_step. keeps_order q database history good input setup transcripts whole N alone ends in_step
