use Rattle.law_protocol.proofs.SinceFirst.{since_first}
use Rattle.law_protocol.proofs.StepOrderKept.{keeps_order}
use Rattle.law_protocol.proofs.laws.one_statement_after_another_keeps_step_order.Goals as goal

pub returns : goal.returns
returns c = λ v database size some most cells seats steps. let w = since_first v database size some most cells seats steps in
    (w.later, w.are, w.follows, w.one_at_a_time, keeps_order v w.later.history cells seats w.later.stands w.locks_decide)
